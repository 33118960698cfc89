-- What `records_answer` says to a caller: which numbers it refuses with (`records-refuses`), and that a list
-- of 10,240 numbers takes any body whole (`whole-body`).
use Rattle.std.specs.Prelude.{◌≡◌, refl, ◌≢◌, Bool, true, false, not, List, [], ◌∷◌, ◌++◌, ℕ, suc, ◌*◌, ◌/◌, ◌≤◌, ◌<◌, ltb, length, drop}
use Rattle.std.proofs.Common.{◌∙◌, inl, inr, le-div_iff_mul-le, mul_comm, arith, take_all}
use Rattle.std.proofs.lemmas.List.{length-map}
use Rattle.foundation.specs.Tests.{le-false}
use Rattle.foundation.specs.Lists.{Mem, each}
use Rattle.model.specs.declared.Reply.TheVariants.{Runs}
use Rattle.model.specs.Base.{Base}
use Rattle.model.specs.Step.{row, refused_or, counts_hold}
use Rattle.model.specs.FitsFacts.{counts_fit_lem}
use Rattle.model.specs.Encoding.{decode}
use Rattle.model.specs.Soundness.{sound_bytes}
use Rattle.model.specs.SoundnessFacts.{decoded-sound}
use Rattle.model.specs.Answers.{Answer, answering, refusing, refusal_number}
use Rattle.records.specs.declared.Body.{Body}
use Rattle.records.specs.declared.Body.TheVariants.{Heading, Objects, Administrators, Referrers}
use Rattle.records.specs.declared.Body.TheVariants.{Authorizations, Rules}
use Rattle.records.specs.Records.{privilege_numbers, authorization_numbers, rule_numbers, body_of, width_of}
use Rattle.records.specs.Records.{rows, paged, page_answer, records_answer}

-- ---- refusals

-- the numbers, and that the list is as before
abbrev Told : List ℕ → Answer → Type 0
Told list a = refusal_number a.reply ≢ 0 →
    Mem (refusal_number a.reply) (2 ∷ 3 ∷ 13 ∷ []) × (a.lent ≡ list)

module _ (list : List ℕ) (a : Answer) (t : Told list a) where
  by_front : (sound? past? : Bool) →
      Told list (refused_or (row 2 (not sound?) ∷ row 3 past? ∷ []) (refusing list) a)
  by_front true true n = (inr (inl refl), refl)
  by_front true false n = t n
  by_front false past? n = (inl refl, refl)

  by_page : (beyond? short? : Bool) →
      Told list (refused_or (row 3 beyond? ∷ row 13 short? ∷ []) (refusing list) a)
  by_page true short? n = (inr (inl refl), refl)
  by_page false true n = (inr (inr (inl refl)), refl)
  by_page false false n = t n

pub records_refuses : (s : List ℕ) (source first : ℕ) (list : List ℕ) →
    refusal_number (records_answer s source first list).reply ≢ 0 →
    Mem (refusal_number (records_answer s source first list).reply) (2 ∷ 3 ∷ 13 ∷ [])
    × ((records_answer s source first list).lent ≡ list)
unfolding records_answer page_answer
records_refuses s source first list =
    let b = body_of source in
    let all = rows (decode s) b in
    by_front list (page_answer s b first list)
    (by_page list (paged all (width_of b) first list) (λ n. absurd (n refl))
    (ltb (length all) first) (ltb (length list) (width_of b)))
    (sound_bytes s) (ltb 5 source)

-- ---- a whole body

pub width_least : (b : Body) → 0 < width_of b
width_least Heading = omega arith
width_least Objects = omega arith
width_least Administrators = omega arith
width_least Referrers = omega arith
width_least Authorizations = omega arith
width_least Rules = omega arith

pub width-most : (b : Body) → width_of b ≤ 15
width-most Heading = omega arith
width-most Objects = omega arith
width-most Administrators = omega arith
width-most Referrers = omega arith
width-most Authorizations = omega arith
width-most Rules = omega arith

-- no body of a base whose counts hold is more numbers
pub body-most : (b : Base) → counts_hold b ≡ true → (source : Body) → width_of source * length (rows b source)
    ≤ 10240
body-most b e Heading = omega arith
body-most b e Objects = omega (arith, counts_fit_lem b e, length-map b.objects privilege_numbers)
body-most b e Administrators = omega (arith, counts_fit_lem b e, length-map b.administrators privilege_numbers)
body-most b e Referrers = omega (arith, counts_fit_lem b e, length-map b.referrers privilege_numbers)
body-most b e Authorizations =
    omega (arith, counts_fit_lem b e, length-map b.authorizations authorization_numbers)
body-most b e Rules = omega (arith, counts_fit_lem b e, length-map b.rules rule_numbers)

-- from the first record on, a list of 10,240 numbers is given all of them
pub whole-body : (s : List ℕ) (source : ℕ) (list : List ℕ) → sound_bytes s ≡ true → source ≤ 5 →
    10240 ≤ length list →
    let all = rows (decode s) (body_of source) in
    records_answer s source 0 list
    ≡ answering (Runs (length all)) (each all (λ r. r) ++ drop (width_of (body_of source) * length all) list)
unfolding records_answer page_answer
whole-body s source list e h l =
    let b = body_of source in
    let w = width_of b in
    let all = rows (decode s) b in
    let m = body-most (decode s) (decoded-sound s e).counts b in
    let p = width_least b in
    let q : length all * w ≤ length list = omega (arith, mul_comm w (length all), m) in
    let fits : length all ≤ length list / w = (le-div_iff_mul-le p).1 q in
    let room = width-most b in
    (λ k. refused_or (row 2 (not (e k)) ∷ row 3 (le-false 6 source (omega arith) k) ∷ []) (refusing list)
    (refused_or (row 3 (le-false (suc (length all)) 0 (omega arith) k)
    ∷ row 13 (le-false (suc (length list)) w (omega arith) k) ∷ []) (refusing list) (paged all w 0 list)))
    ∙ (λ k. let page = take_all (length list / w) all fits k in
    answering (Runs (length page)) (each page (λ r. r) ++ drop (w * length page) list))
