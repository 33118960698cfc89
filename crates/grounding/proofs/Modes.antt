-- The modes at which a rule stands, as bits: those that are needed with both signs, and its own.
use mathlib.Core.Path.{◌≡◌, sym, ap₂, ◌∙◌}
use mathlib.Core.Bool.{Bool, ◌&&◌, and-true, and-false}
use Prim.Native.Nat.{ℕ, suc, ◌^◌, ◌≤◌}
use native.Mathlib.Omega.{arith}
use lib.Bits.{bit_and}
use lib.Dec.{ltb}
use Rattle.foundation.specs.Tests.{cases, eq_true, ne_false, true-le, eqb_sym}
use Rattle.foundation.specs.BitMasks.{bit, bit-zero}
use Rattle.foundation.specs.BitLaws.{bit_and_lem}
use Rattle.places.specs.Needs.{both_at}
use Rattle.masks.proofs.SingleBits.{one_bit}
use Rattle.grounding.specs.declared.RuleTurn.{RuleTurn}
use Rattle.grounding.specs.RuleSteps.{modes_at}

-- `modes` are those that are needed with both signs
module _ (t : RuleTurn) (need modes : ℕ) (needed : (m : ℕ) → bit m modes ≡ ltb m 8 && both_at need m) where
  -- a rule that leaves the mode free has all of them
  pub all_modes : t.left.mode ≡ 255 → (m : ℕ) → bit m modes ≡ modes_at t need m
  all_modes e m = needed m
      ∙ rw (eq_true t.left.mode 255 e) (sym (and-true (ltb m 8 && both_at need m)))

  module _ (named : (t.left.mode ≡ 255) → ⊥) where
    -- another has its own
    pub own_mode : (m : ℕ) → bit m (bit_and modes (2 ^ t.left.mode)) ≡ modes_at t need m
    own_mode m = bit_and_lem modes (2 ^ t.left.mode) m
        ∙ ap₂ (λ (a b : Bool). a && b) (needed m) (one_bit t.left.mode m ∙ eqb_sym m t.left.mode)
        ∙ rw (ne_false t.left.mode 255 named)

    -- or none, as there are eight
    pub no_mode : 8 ≤ t.left.mode → (m : ℕ) → bit m 0 ≡ modes_at t need m
    no_mode h m = bit-zero m ∙ sym (cases (ltb m 8)
        (λ e. let l = true-le (suc m) 8 e in
        rw (ne_false t.left.mode 255 named, ne_false t.left.mode m (λ q. omega (arith, q)))
        (and-false (ltb m 8 && both_at need m)))
        (λ e. rw e))
