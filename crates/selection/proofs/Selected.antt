-- What is selected of rules and picked of authorizations, by numbers.
use mathlib.Core.Path.{◌≡◌, refl, sym, ap, ◌∙◌, subst}
use mathlib.Core.Logic.{◌⊎◌, inl, inr, ⊎_elim}
use mathlib.Core.Bool.{Bool, true, false}
use mathlib.Core.List.{List, [], ◌∷◌}
use Prim.Native.Nat.{ℕ, zero, suc, ◌+◌, ◌≤◌, ◌<◌}
use native.Mathlib.Omega.{arith}
use lib.ListN.{length, drop, get_or}
use Rattle.foundation.specs.Tests.{pick}
use Rattle.foundation.specs.Lists.{Mem}
use Rattle.foundation.specs.BitMasks.{bit}
use Rattle.foundation.specs.ByteRecords.{length-records, place-zero, place-step}
use Rattle.model.specs.declared.Rule.{Rule}
use Rattle.model.specs.Encoding.{rule_of}
use Rattle.encoding.specs.Format.{rules_in, rule_at}
use Rattle.relevance.specs.Chosen.{authorization_at, picked, selected_from, selected}

-- one of a list that may have one more in front
pick_rest : {A : Type 0} (b : Bool) (x y : A) (l : List A) → Mem x l → Mem x (pick b (y ∷ l) l)
pick_rest true x y l m = inr m
pick_rest false x y l m = m

rest_pick : {A : Type 0} (b : Bool) (x y : A) (l : List A) → Mem x (pick b (y ∷ l) l) →
    ((b ≡ true) × (x ≡ y)) ⊎ Mem x l
rest_pick true x y l (inl e) = inl (refl, e)
rest_pick true x y l (inr m) = inr m
rest_pick false x y l m = inr m

pick-few : {A : Type 0} (b : Bool) (y : A) (l : List A) → length (pick b (y ∷ l) l) ≤ suc (length l)
pick-few true y l = omega arith
pick-few false y l = omega arith

module _ (m : ℕ) where
  few-from : {A : Type 0} (i : ℕ) (xs : List A) → length (selected_from m i xs) ≤ length xs
  few-from i [] = omega arith
  few-from i (x ∷ xs) =
      omega (arith, few-from (suc i) xs, pick-few (bit i m) x (selected_from m (suc i) xs))

  -- they are no more than there are
  pub selected-few : (n : ℕ) (s : List ℕ) → length (selected m (rules_in n s)) ≤ n
  selected-few n s = omega (arith, few-from 0 (rules_in n s), length-records 28 rule_of n s)

  mem-from : (i n r : ℕ) (s : List ℕ) → r < n → bit (i + r) m ≡ true →
      Mem (rule_at s r) (selected_from m i (rules_in n s))
  mem-from i zero r s h e = absurd (omega arith)
  mem-from i (suc n) zero s h e =
      let z : i + 0 ≡ i = omega arith in
      let b : bit i m ≡ true = ap (λ (k : ℕ). bit k m) (sym z) ∙ e in
      rw b (inl (sym (place-zero 28 rule_of s)))
  mem-from i (suc n) (suc r) s h e =
      let z : suc i + r ≡ i + suc r = omega arith in
      let l = selected_from m (suc i) (rules_in n (drop 28 s)) in
      pick_rest (bit i m) (rule_at s (suc r)) (rule_of s) l
      (subst (λ (q : Rule). Mem q l) (place-step 28 rule_of s r)
      (mem-from (suc i) n r (drop 28 s) (omega arith) (ap (λ (k : ℕ). bit k m) z ∙ e)))

  -- a rule whose bit is set is selected
  pub rule-selected : (n r : ℕ) (s : List ℕ) → r < n → bit r m ≡ true →
      Mem (rule_at s r) (selected m (rules_in n s))
  rule-selected n r s h e = mem-from 0 n r s h (ap (λ (k : ℕ). bit k m) (omega arith) ∙ e)

  from-mem : (i n : ℕ) (s : List ℕ) (q : Rule) → Mem q (selected_from m i (rules_in n s)) →
      (r : ℕ) × (bit (i + r) m ≡ true) × (q ≡ rule_at s r)
  from-mem i zero s q f = absurd f.lower
  from-mem i (suc n) s q f = ⊎_elim
      (λ w. (0, ap (λ (k : ℕ). bit k m) (omega arith) ∙ w.0, w.1 ∙ place-zero 28 rule_of s))
      (λ g. let k = from-mem (suc i) n (drop 28 s) q g in
      (suc k.0, ap (λ (j : ℕ). bit j m) (omega arith) ∙ k.1, k.2 ∙ place-step 28 rule_of s k.0))
      (rest_pick (bit i m) q (rule_of s) (selected_from m (suc i) (rules_in n (drop 28 s))) f)

  -- and no other
  pub selected-rule : (n : ℕ) (s : List ℕ) (q : Rule) → Mem q (selected m (rules_in n s)) →
      (r : ℕ) × (bit r m ≡ true) × (q ≡ rule_at s r)
  selected-rule n s q f =
      let k = from-mem 0 n s q f in (k.0, ap (λ (j : ℕ). bit j m) (omega arith) ∙ k.1, k.2)

-- the authorization of one of the first n numbers is picked
pub picked-mem : (s which : List ℕ) (n j : ℕ) → j < n → n ≤ length which →
    Mem (authorization_at s (get_or which j 0)) (picked s which n)
unfolding picked
picked-mem s [] n j h l = absurd (omega arith)
picked-mem s (w ∷ which) zero j h l = absurd (omega arith)
picked-mem s (w ∷ which) (suc n) zero h l = inl refl
picked-mem s (w ∷ which) (suc n) (suc j) h l = inr (picked-mem s which n j (omega arith) (omega arith))
