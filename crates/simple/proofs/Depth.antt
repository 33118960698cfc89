-- The longest path of feeding and links left, which falls while `held` and `gives` ask each other: `held`
-- asks a rule on it (`longest-rule`), and the rules that the right side of that rule, or a denial of it, may
-- be given by are before it on such a path (`sight-right`).
use mathlib.Core.Path.{◌≡◌, refl, sym, ◌∙◌}
use mathlib.Core.Bool.{Bool, true, false}
use Prim.Native.Nat.{ℕ, ◌-◌, ◌≤◌, ◌<◌, max}
use native.Mathlib.Omega.{arith}
use Rattle.foundation.specs.Tests.{pick, cases}
use Rattle.foundation.specs.Lists.{Mem}
use Rattle.foundation.specs.Graph.{most, cyclic, rank, alone}
use Rattle.foundation.specs.GraphFacts.{most-le, le-most, ranked, rank_most}
use Rattle.model.specs.declared.Rule.{Rule}
use Rattle.model.specs.declared.Pattern.{Pattern}
use Rattle.model.specs.Base.{Base}
use Rattle.model.specs.Stratification.{precedes}
use Rattle.model.specs.Circles.{circular}
use Rattle.model.proofs.CirclePaths.{circular-cyclic}
use Rattle.model.specs.Rules.{derives_for, right_of, asked}
use Rattle.model.proofs.SideFacts.{right_sign}
use Rattle.model.specs.Rules.{PrecededOnly}
use Rattle.model.proofs.HoldsLaws.{fit_precedes, strictly_linked}

module _ (b : Base) where
  -- how many rules are on the longest path that ends in r,
  unfoldable pub depth : Rule → ℕ
  depth r = rank precedes (λ q r. 1) (λ r. true) b.rules r

  -- if r may give p,
  abbrev pub depth_for : Pattern → Rule → ℕ
  depth_for p r = pick (derives_for b p r) (depth r) 0

  -- and on the longest one that ends in a rule that may give p
  unfoldable pub longest_for : Pattern → ℕ
  longest_for p = most (depth_for p) b.rules

  -- what is looked at to know whether p is in force: p, and denials of it if it is none itself
  abbrev pub sight : Pattern → ℕ
  sight p = max (longest_for p) (pick p.negative 0 (longest_for (asked p.access true)))

  pub sight-denial : (p : Pattern) → p.negative ≡ false → longest_for (asked p.access true) ≤ sight p
  sight-denial p n = rw n (omega arith)

  sight-less : (p : Pattern) (n : ℕ) → longest_for p < n →
      (p.negative ≡ false → longest_for (asked p.access true) < n) → sight p < n
  sight-less p n = less p.negative (longest_for p) (longest_for (asked p.access true))
    where
      less : (c : Bool) (i j : ℕ) → i < n → (c ≡ false → j < n) → max i (pick c 0 j) < n
      less true i j f g = omega (arith, f)
      less false i j f g = omega (arith, f, g refl)

  pub longest_rule : (p : Pattern) (r : Rule) → Mem r b.rules → depth_for p r ≤ longest_for p
  unfolding longest_for
  longest_rule p r m = le-most (depth_for p) b.rules r m

  module _ (e : circular b.rules ≡ false) where
    weight_small : (q r : Rule) → 1 ≤ 2
    weight_small q r = omega arith

    free : cyclic precedes (λ q r. true) b.rules ≡ false
    free = sym (circular-cyclic b.rules) ∙ e

    -- a path has a rule at least
    depth_one : (r : Rule) → Mem r b.rules → 1 ≤ depth r
    unfolding depth
    depth_one r m = rank_most precedes (λ q r. 1) (λ r. true) b.rules weight_small free r m alone

    -- and one less if it ends in a rule that the rule looks at
    depth-less : (q r : Rule) → Mem q b.rules → Mem r b.rules → precedes q r ≡ true →
        depth q < depth r
    unfolding depth
    depth-less q r n m f =
        (ranked precedes (λ q r. 1) (λ r. true) b.rules weight_small free).less q r n m f refl

    -- what is derived only by rules that r looks at
    longest_fed : (p : Pattern) (r : Rule) → Mem r b.rules → PrecededOnly b r p → longest_for p < depth r
    unfolding longest_for
    longest_fed p r m h = omega (
      arith,
      depth_one r m,
      most-le (depth_for p) b.rules (depth r - 1) (λ q n. cases (derives_for b p q)
          (λ f. rw f (omega (arith, depth-less q r n m (h q f))))
          (λ f. rw f (omega arith))),
    )

    pub sight_right : (p : Pattern) (r : Rule) → Mem r b.rules → derives_for b p r ≡ true →
        sight (right_of r p.access) < depth_for p r
    sight_right p r m d =
        let x = p.access in
        let right = right_of r x in
        let f = longest_fed right r m (λ q e. fit_precedes b q r x e) in
        rw d (sight-less right (depth r) f
        (λ n. longest_fed (asked right.access true) r m
        (λ q e. (strictly_linked b r x (sym (right_sign r x) ∙ n) q e).0)))
