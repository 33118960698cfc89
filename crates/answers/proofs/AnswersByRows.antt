-- The answers of MAY and WHEN over the bytes of a base, by the rows of the table that apply: row 2, rows 3
-- and 6, which the two share, and row 13.
use Prim.Native.Nat.{ℕ, suc, ◌*◌, ◌/◌, ◌≤◌, ◌<◌}
use mathlib.Core.Path.{◌≡◌, refl, sym, ap, ◌∙◌}
use mathlib.Core.Logic.{◌≢◌}
use mathlib.Core.Bool.{Bool, true, false, not, ◌&&◌}
use mathlib.Core.List.{List, [], ◌∷◌, ◌++◌}
use native.Mathlib.Omega.{arith}
use lib.Dec.{ltb, eqb}
use Rattle.std.specs.Prelude.{Option, Some, None}
use lib.ListN.{length, drop}
use Rattle.foundation.specs.Tests.{cases, true_eq, false_eq, and-true, and_intro, agree, le-true, le-false}
use Rattle.model.specs.declared.Access.{Access}
use Rattle.model.specs.declared.Question.{Question}
use Rattle.model.specs.declared.Reply.{Reply}
use Rattle.model.specs.declared.Reply.TheVariants.{Refused, Runs}
use Rattle.model.specs.Ranges.{is_instant}
use Rattle.model.specs.Base.{Base, exists}
use Rattle.model.specs.Rules.{may, when}
use Rattle.model.specs.Step.{Row, row, first_number, refused_or}
use Rattle.model.proofs.StepFacts.{answered, turned_away}
use Rattle.model.specs.Encoding.{decode}
use Rattle.model.specs.Soundness.{sound_bytes}
use Rattle.model.specs.Answers.{Answer, answering, refusing, access_in, may_table, when_table, words, may_reply}
use Rattle.model.specs.Answers.{may_answer, when_answer}
use Rattle.answers.specs.AskingRows.{access_rows}

-- the row that applies, and none
pub first_row : (rows : List Row) (n : ℕ) → refused_or rows Some None ≡ Some n →
    (n ≡ first_number rows) × (first_number rows ≢ 0)
first_row rows n e = cases (eqb (first_number rows) 0)
    (λ y. let z : ◌≡◌ {A = Option ℕ} None (Some n) =
    sym (answered rows Some None (true_eq (first_number rows) 0 y)) ∙ e in cc)
    (λ y. let d = false_eq (first_number rows) 0 y in
    let z : ◌≡◌ {A = Option ℕ} (Some (first_number rows)) (Some n) = sym (turned_away rows Some None d) ∙ e in
    (cc, d))

pub no_row : (rows : List Row) → refused_or rows Some None ≡ None → first_number rows ≡ 0
no_row rows e = cases (eqb (first_number rows) 0)
    (λ y. true_eq (first_number rows) 0 y)
    (λ y. let d = false_eq (first_number rows) 0 y in
    let z : ◌≡◌ {A = Option ℕ} (Some (first_number rows)) None = sym (turned_away rows Some None d) ∙ e in cc)

-- where neither row 3 nor row 6 applies, what is asked about is in range
pub asked_in : (b : Base) (x : Access) → first_number (access_rows b x) ≡ 0 → access_in x ≡ true
asked_in b x z = in_range (access_in x) (not (exists b x.object)) z
  where
    in_range : (g h : Bool) → first_number (row 3 (not g) ∷ row 6 h ∷ []) ≡ 0 → g ≡ true
    in_range true h z = refl
    in_range false h z = absurd (omega (arith, z))

-- rows behind rows 3 and 6 count where these do not apply
behind : {A : Type 0} (g h : Bool) (rows : List Row) (refuse : ℕ → A) (a : A) →
    refused_or (row 3 g ∷ row 6 h ∷ rows) refuse a
    ≡ refused_or (row 3 g ∷ row 6 h ∷ []) refuse (refused_or rows refuse a)
behind true h rows refuse a = refl
behind false true rows refuse a = refl
behind false false rows refuse a = refl

-- ---- MAY

module _ (s : List ℕ) (q : Question) where
  abbrev said : Reply
  said = may_reply (may (decode s) q.access q.instant)

  -- row 2, or not
  abbrev over : Bool → Reply
  over sound? = refused_or (row 2 (not sound?) ∷ may_table (decode s) q) Refused said

  pub may_unsound : sound_bytes s ≡ false → may_answer s q ≡ Refused 2
  unfolding may_answer
  may_unsound e = ap over e

  -- rows 3 and 6, where the instant is in its range
  may-rows : sound_bytes s ≡ true → is_instant q.instant ≡ true →
      may_answer s q ≡ refused_or (access_rows (decode s) q.access) Refused said
  unfolding may_answer
  may-rows e i =
      let x = q.access in
      ap over e
      ∙ ap (λ (g : Bool). refused_or (row 3 (not g) ∷ row 6 (not (exists (decode s) x.object)) ∷ []) Refused
      said)
      (agree (access_in x && is_instant q.instant) (access_in x)
      (λ z. (and-true (access_in x) (is_instant q.instant) z).0)
      (λ z. and_intro (access_in x) (is_instant q.instant) z i))

  may-refused : sound_bytes s ≡ true → is_instant q.instant ≡ true →
      first_number (access_rows (decode s) q.access) ≢ 0 →
      may_answer s q ≡ Refused (first_number (access_rows (decode s) q.access))
  may-refused e i n = may-rows e i ∙ turned_away (access_rows (decode s) q.access) Refused said n

  may_answered : sound_bytes s ≡ true → is_instant q.instant ≡ true →
      first_number (access_rows (decode s) q.access) ≡ 0 → may_answer s q ≡ said
  may_answered e i z = may-rows e i ∙ answered (access_rows (decode s) q.access) Refused said z

-- MAY's reply, by what rows 3 and 6 give
module _ (s : List ℕ) (q : Question) (e : sound_bytes s ≡ true) (i : is_instant q.instant ≡ true)
    (rows : refused_or (access_rows (decode s) q.access) Some None ≡ None) where
  pub reply_asked : access_in q.access ≡ true
  reply_asked = asked_in (decode s) q.access (no_row (access_rows (decode s) q.access) rows)

  pub reply_said : {yes : Bool} {r : Reply} → yes ≡ may (decode s) q.access q.instant →
      r ≡ may_reply yes → r ≡ may_answer s q
  reply_said said made = made ∙ ap may_reply said
      ∙ sym (may_answered s q e i (no_row (access_rows (decode s) q.access) rows))

pub reply_refused : (s : List ℕ) (q : Question) → sound_bytes s ≡ true → is_instant q.instant ≡ true → (n : ℕ) →
    refused_or (access_rows (decode s) q.access) Some None ≡ Some n → Refused n ≡ may_answer s q
reply_refused s q e i n rows =
    let r = first_row (access_rows (decode s) q.access) n rows in
    ap Refused r.0 ∙ sym (may-refused s q e i r.1)

-- ---- WHEN

module _ (s : List ℕ) (x : Access) (list : List ℕ) where
  -- how many intervals there are, and the answer where the list has room for them
  abbrev count : ℕ
  count = length (when (decode s) x)

  abbrev written : Answer
  written = answering (Runs count) (words (when (decode s) x) ++ drop (2 * count) list)

  -- row 13, or not
  abbrev short : Bool → Answer
  short short? = refused_or (row 13 short? ∷ []) (refusing list) written

  -- row 2, or not
  abbrev over_list : Bool → Answer
  over_list sound? =
      refused_or (row 2 (not sound?) ∷ when_table (decode s) x (length list / 2) count) (refusing list) written

  pub when_unsound : sound_bytes s ≡ false → when_answer s x list ≡ refusing list 2
  unfolding when_answer
  when_unsound e = ap over_list e

  when-rows : sound_bytes s ≡ true →
      when_answer s x list
      ≡ refused_or (access_rows (decode s) x) (refusing list) (short (ltb (length list / 2) count))
  unfolding when_answer
  when-rows e =
      ap over_list e
      ∙ behind (not (access_in x)) (not (exists (decode s) x.object))
      (row 13 (ltb (length list / 2) count) ∷ []) (refusing list) written

  pub when-refused : sound_bytes s ≡ true → first_number (access_rows (decode s) x) ≢ 0 →
      when_answer s x list ≡ refusing list (first_number (access_rows (decode s) x))
  when-refused e n =
      when-rows e
      ∙ turned_away (access_rows (decode s) x) (refusing list) (short (ltb (length list / 2) count)) n

  -- rows 2, 3 and 6 do not apply: row 13 does, or not
  module _ (e : sound_bytes s ≡ true) (z : first_number (access_rows (decode s) x) ≡ 0) where
    when-room : when_answer s x list ≡ short (ltb (length list / 2) count)
    when-room =
        when-rows e
        ∙ answered (access_rows (decode s) x) (refusing list) (short (ltb (length list / 2) count)) z

    pub when-short : length list / 2 < count → when_answer s x list ≡ refusing list 13
    when-short h = when-room ∙ ap short (le-true (suc (length list / 2)) count h)

    pub when-listed : count ≤ length list / 2 → when_answer s x list ≡ written
    when-listed h = when-room ∙ ap short (le-false (suc (length list / 2)) count (omega arith))
