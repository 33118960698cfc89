-- What a withdrawal leaves is one test of instants (`restricted`) that looks only at what was granted before
-- (`stays_step`).
use mathlib.Core.Path.{◌≡◌, refl, sym, ap, ap₂, ◌∙◌, fun_ext}
use mathlib.Core.Logic.{inl, inr}
use Prim.Native.Nat.{ℕ, suc, ◌≤◌, ◌<◌}
use native.Mathlib.Omega.{arith}
use mathlib.Core.Bool.{Bool, true, false, ◌&&◌, ◌||◌}
use mathlib.Core.List.{List, [], ◌∷◌, ◌++◌}
use lib.Dec.{ltb}
use lib.ListN.{length, length-append}
use Rattle.foundation.specs.Tests.{cases, le-true, le-false, true-le, false-le, and-false}
use Rattle.foundation.specs.Lists.{anyb, keep_if, Mem, any_cong}
use Rattle.foundation.specs.Intervals.{in_interval, maximal, maximal_unique}
use Rattle.model.specs.declared.Head.{Head}
use Rattle.model.specs.declared.Authorization.{Authorization}
use Rattle.model.specs.Support.{supports, supported, live}
use Rattle.model.proofs.SupportChains.{supported-step}
use Rattle.model.specs.Withdrawal.{pieces, keep, restrict}
use Rattle.laws.specs.KeepFacts.{intervals_of, live-keep}
use Rattle.laws.specs.Refinement.{refine_maximal, keep_append, keep-pieces}
use Rattle.cover.specs.declared.Want.{Want}
use Rattle.cover.specs.Cover.{want_of, wanted, covered_by}
use Rattle.model.proofs.SupportFacts.{any_live}
use Rattle.cover.proofs.CoverFacts.{supports-wanted}
use Rattle.pieces.proofs.PartFacts.{wanted-before}
use Rattle.withdrawal.specs.Stays.{stays, until_instant}

-- what r leaves of one authorization
unfoldable pub left : (Head → ℕ → Bool) → Authorization → List Authorization
left r a = pieces a.head (intervals_of r a)

pub keep_nil : (r : Head → ℕ → Bool) → keep r [] ≡ []
unfolding keep
keep_nil r = refl

pub keep_cons : (r : Head → ℕ → Bool) (a : Authorization) (xs : List Authorization) →
    keep r (a ∷ xs) ≡ left r a ++ keep r xs
unfolding keep left
keep_cons r a xs = refl

-- ---- keeping twice is keeping once

keep-keep : (r q : Head → ℕ → Bool) (xs : List Authorization) →
    keep q (keep r xs) ≡ keep (λ h t. r h t && q h t) xs
unfolding keep
keep-keep r q [] = refl
keep-keep r q (a ∷ xs) =
    keep_append q (pieces a.head (intervals_of r a)) (keep r xs)
    ∙ ap₂ (λ (x y : List Authorization). x ++ y)
    (keep-pieces q a.head (intervals_of r a)
    ∙ ap (pieces a.head) (refine_maximal a.interval.start a.interval.end (r a.head)
    (q a.head)))
    (keep-keep r q xs)

-- ---- what covers

any_keep_if : {A : Type 0} (p r : A → Bool) (xs : List A) → anyb p (keep_if r xs) ≡ anyb (λ x. r x && p x) xs
any_keep_if p r [] = refl
any_keep_if p r (x ∷ xs) = cases (r x) (λ e. rw (e, any_keep_if p r xs)) (λ e. rw (e, any_keep_if p r xs))

-- what is kept covers an instant exactly if a head that covers it is kept there and wanted
pub covered-keep : (w : Want) (r : Head → ℕ → Bool) (xs : List Authorization) (t : ℕ) →
    covered_by w (keep r xs) t ≡ anyb (λ k. r k t && wanted w k) (live t xs)
covered-keep w r xs t =
    sym (any_live (wanted w) t (keep r xs))
    ∙ ap (anyb (wanted w)) (live-keep r xs t)
    ∙ any_keep_if (wanted w) (λ h. r h t) (live t xs)

-- ---- what stays

module _ (root : Head → Bool) (p : Head → ℕ → Bool) (xs : List Authorization) where
  -- the model's withdrawal is one keeping
  pub restricted : restrict root (λ h. true) (keep p xs) ≡ keep (stays root p xs) xs
  unfolding restrict stays
  restricted = keep-keep p (λ h t. supported root (live t (keep p xs)) h) xs

  swap : (a b c : Bool) → a && (b && c) ≡ a && c && b
  swap true true true = refl
  swap true true false = refl
  swap true false true = refl
  swap true false false = refl
  swap false b c = refl

  -- an instant stays exactly if it is not taken out, and the grantor is a root or covered there by what stays
  pub stays_step : (h : Head) (t : ℕ) → (stays root p xs) h t ≡ p h t
      && (root h || covered_by (want_of h) (keep (stays root p xs) xs) t)
  unfolding stays
  stays_step h t = ap (λ (b : Bool). p h t && b)
      (supported-step root (live t (keep p xs)) h
      ∙ ap (λ (b : Bool). root h || b)
      (ap (anyb (λ k. supports k h && supported root (live t (keep p xs)) k)) (live-keep p xs t)
      ∙ any_keep_if (λ k. supports k h && supported root (live t (keep p xs)) k) (λ k. p k t) (live t xs)
      ∙ any_cong (λ k. p k t && (supports k h && supported root (live t (keep p xs)) k))
      (λ k. (stays root p xs) k t && wanted (want_of h) k) (live t xs)
      (λ k. rw (supports-wanted k h) (swap (p k t) (wanted (want_of h) k)
      (supported root (live t (keep p xs)) k)))
      ∙ sym (covered-keep (want_of h) (stays root p xs) xs t)))

-- ---- what was granted before a time

-- r leaves no more than the times tell it
module _ (r : Head → ℕ → Bool) where
  pub left_before : (T : ℕ) (a : Authorization) → a.head.granted < T → left (until_instant T r) a ≡ left r a
  unfolding left
  left_before T a h =
      ap (λ (f : ℕ → Bool). pieces a.head (maximal a.interval.start a.interval.end f))
      (fun_ext (λ t. rw (le-true (suc a.head.granted) T h)))

  pub left_after : (T : ℕ) (a : Authorization) → T ≤ a.head.granted → left (until_instant T r) a ≡ []
  unfolding left
  left_after T a h = ap (pieces a.head) (sym (maximal_unique a.interval.start a.interval.end
      (until_instant T r a.head) 0 [] tt
      (λ t. rw (le-false (suc a.head.granted) T (omega arith))
      (sym (and-false (in_interval a.interval t))))))

  -- for an authorization granted by T, what was granted later covers nothing
  pub covered-up_to : (w : Want) (T : ℕ) (xs : List Authorization) (t : ℕ) → w.before ≤ T →
      covered_by w (keep (until_instant T r) xs) t ≡ covered_by w (keep r xs) t
  covered-up_to w T xs t h =
      covered-keep w (until_instant T r) xs t ∙ any_cong _ _ (live t xs) one ∙ sym (covered-keep w r xs t)
    where
      one : (k : Head) → until_instant T r k t && wanted w k ≡ r k t && wanted w k
      one k = cases (wanted w k)
          (λ e. let l = wanted-before w k e in rw (le-true (suc k.granted) T (omega arith)))
          (λ e. rw e (and-false (until_instant T r k t) ∙ sym (and-false (r k t))))

  -- nothing was granted before the first instant
  pub up_to_none : (xs : List Authorization) → keep (until_instant 0 r) xs ≡ []
  up_to_none [] = keep_nil (until_instant 0 r)
  up_to_none (a ∷ xs) =
      keep_cons (until_instant 0 r) a xs
      ∙ ap₂ (λ (x y : List Authorization). x ++ y) (left_after 0 a (omega arith)) (up_to_none xs)

  pub up_to_all : (T : ℕ) (xs : List Authorization) → ((a : Authorization) → Mem a xs → a.head.granted < T) →
      keep (until_instant T r) xs ≡ keep r xs
  up_to_all T [] h = keep_nil (until_instant T r) ∙ sym (keep_nil r)
  up_to_all T (a ∷ xs) h =
      keep_cons (until_instant T r) a xs
      ∙ ap₂ (λ (x y : List Authorization). x ++ y)
      (left_before T a (h a (inl refl))) (up_to_all T xs (λ k m. h k (inr m)))
      ∙ sym (keep_cons r a xs)

  -- with a later time there are no fewer
  pub up_to_fewer : (T : ℕ) (q : Head → ℕ → Bool) (xs : List Authorization) →
      ((a : Authorization) → a.head.granted < T → left q a ≡ left r a) →
      length (keep (until_instant T r) xs) ≤ length (keep q xs)
  up_to_fewer T q [] h = rw (keep_nil (until_instant T r), keep_nil q) (omega arith)
  up_to_fewer T q (a ∷ xs) h =
      let i = up_to_fewer T q xs h in
      rw (
        keep_cons (until_instant T r) a xs,
        keep_cons q a xs,
        length-append (left (until_instant T r) a) (keep (until_instant T r) xs),
        length-append (left q a) (keep q xs),
      )
      (cases (ltb a.head.granted T)
      (λ e. let k = true-le (suc a.head.granted) T e in rw (left_before T a k, h a k) (omega arith))
      (λ e. let k = false-le (suc a.head.granted) T e in rw (left_after T a (omega arith)) (omega arith)))
