-- What holds changes at marks only (`below-steady`). Theorem 4: what the rules of a stratum derive is closed
-- under them (`closed`) and the smallest such set (`smallest`); `below-stratum` says which rules it speaks
-- of.
use Rattle.std.specs.Prelude.{◌≡◌, Bool, true, leb, ltb, eqb}
use Rattle.std.proofs.Math.Path.{refl, sym, subst}
use Rattle.std.proofs.Common.{◌∙◌}
use Rattle.std.proofs.Math.Logic.{inl}
use Prim.Native.Nat.{ℕ, zero, suc, ◌≤◌, ◌<◌}
use native.Mathlib.Omega.{arith}
use Rattle.std.proofs.lemmas.Bool.{false≢true}
use Rattle.foundation.specs.Tests.{cases, true-le, false-le, le-true, true_eq, and-true}
use Rattle.foundation.specs.Lists.{Mem}
use Rattle.foundation.specs.Closure.{iter, settled, least}
use Rattle.foundation.specs.Intervals.{always}
use Rattle.foundation.specs.Marks.{rep}
use Rattle.model.specs.Base.{Base}
use Rattle.model.specs.Stratification.{stratum}
use Rattle.model.specs.Rules.{Fact, fact, round, enough, derived_below}
use Rattle.model.specs.Means.{all_marks}
use Rattle.model.proofs.HoldsSteady.{Stead, Subset, round_from, below, round_steady, round_mono}
use Rattle.model.proofs.HoldsKeys.{keys, keys_enough, in_keys, round_local}

module _ (base : Base) where
  -- steady, and a part of what one more round makes of it
  abbrev Good : ℕ → (Fact → Bool) → (Fact → Bool) → Type 0
  Good k L S = Stead base S × Subset S (round_from base k L S)

  good_round : (k : ℕ) (L S : Fact → Bool) → Stead base L → Good k L S → Good k L (round_from base k L S)
  good_round k L S c g =
      (round_steady base k L S c g.0, round_mono base k L S (round_from base k L S) g.1)

  -- n rounds of stratum k
  abbrev pub rounds : ℕ → ℕ → Fact → Bool
  rounds k n = iter (λ S. round_from base k (below base k) S) n (below base k)

  pub below-stratum : (k : ℕ) (x : Fact) → derived_below always base k x ≡ true →
      stratum base.rules x.rule < k
  unfolding derived_below iter
  below-stratum zero x e = absurd (false≢true e)
  below-stratum (suc k) x e =
      let n = stratum base.rules x.rule in
      cases (ltb n k)
      (λ p. let l = true-le (suc n) k p in omega arith)
      (λ p. let z = true_eq n k (and-true (eqb n k) _ (rw p at e)).0 in omega arith)

  -- what lower strata derive stays
  below-part : (k : ℕ) → Subset (below base k) (round_from base k (below base k) (below base k))
  below-part k x e = rw (le-true (suc (stratum base.rules x.rule)) k (below-stratum k x e)) e

  rounds_good : (k : ℕ) → Stead base (below base k) → (n : ℕ) → Good k (below base k) (rounds k n)
  unfolding iter
  rounds_good k c zero = (c, below-part k)
  rounds_good k c (suc n) = good_round k (below base k) (rounds k n) c (rounds_good k c n)

  -- what the rules derive changes at marks only
  pub below_steady : (k : ℕ) → Stead base (derived_below always base k)
  unfolding derived_below
  below_steady zero = λ r m x a t h e. refl
  below_steady (suc k) = (rounds_good k (below_steady k) (enough always base)).0

  -- and so it is after each round
  pub rounds_steady : (k n : ℕ) → Stead base (rounds k n)
  rounds_steady k n = (rounds_good k (below_steady k) n).0

  -- each round only adds,
  rounds_grow : (k n j : ℕ) → n ≤ j → Subset (rounds k n) (rounds k j)
  unfolding iter
  rounds_grow k n zero h x e = let q : n ≡ 0 = omega arith in subst (λ (i : ℕ). rounds k i x ≡ true) q e
  rounds_grow k n (suc j) h x e = cases (leb n j)
      (λ l. (rounds_good k (below_steady k) j).1 x (rounds_grow k n j (true-le n j l) x e))
      (λ l. let g = false-le n j l in let q : n ≡ suc j = omega arith in
      subst (λ (i : ℕ). rounds k i x ≡ true) q e)

  -- so that what one of the first derives is derived at last
  pub rounds-below : (k n : ℕ) → n ≤ enough always base → (x : Fact) → rounds k n x ≡ true →
      derived_below always base (suc k) x ≡ true
  unfolding derived_below
  rounds-below k n h x e = rounds_grow k n (enough always base) h x e

  -- THEOREM 4, closed: one more round of stratum k adds nothing
  pub closed : (k : ℕ) (x : Fact) → Mem x.rule base.rules →
      round always base k (derived_below always base k) (derived_below always base (suc k)) x
      ≡ derived_below always base (suc k) x
  unfolding derived_below
  closed k x m =
      let r = x.rule in
      let y = x.access in
      let L = below base k in
      let S = below base (suc k) in
      let a = rep (all_marks base) x.at in
      round_steady base k L S (below_steady k) (below_steady (suc k)) r m y a.0 x.at a.2 a.3
      ∙ sym (settled (keys base y) (λ S. round_from base k L S) (λ S. Good k L S)
      (λ S g. good_round k L S (below_steady k) g)
      (λ S Q g g' h z w. round_local base y S Q g.0 g'.0 h k L z w)
      (λ S g z w. g.1 z w)
      L (below_steady k, below-part k) (enough always base) (keys_enough base y)
      (fact r y a.0) (in_keys base y r y a.0 m (inl refl, inl refl, inl refl) a.1))
      ∙ sym (below_steady (suc k) r m y a.0 x.at a.2 a.3)

  -- THEOREM 4, smallest: a part of every set that has the lower strata in it and is closed under stratum k's
  -- rules
  pub smallest : (k : ℕ) (Q : Fact → Bool) → ((x : Fact) → derived_below always base k x ≡ true → Q x ≡ true) →
      ((x : Fact) → round always base k (derived_below always base k) Q x ≡ true → Q x ≡ true) →
      (x : Fact) → derived_below always base (suc k) x ≡ true → Q x ≡ true
  unfolding derived_below
  smallest k Q a b x e =
      least (λ S. round_from base k (below base k) S) (round_mono base k (below base k)) (below base k) Q a b
      (enough always base) x e
