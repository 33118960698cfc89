-- What a step reads: the bit that says whether the rule is broken. What it marks.
use mathlib.Core.Path.{◌≡◌, sym, ap, ◌∙◌}
use mathlib.Core.Bool.{Bool, true, not}
use mathlib.Core.List.{List}
use Prim.Native.Nat.{ℕ, ◌*◌, ◌/◌, ◌%◌, ◌^◌, ◌<◌}
use native.Mathlib.Omega.{arith}
use lib.Bits.{or_zero_r}
use lib.Dec.{eqb}
use Rattle.foundation.specs.Tests.{cases, eq_true, true_eq, ne_false}
use Rattle.foundation.specs.BitMasks.{as_bit, bit}
use Rattle.places.specs.declared.Grid.{Grid}
use Rattle.places.proofs.IndexFacts.{index_below}
use Rattle.words.specs.Fields.{starts, field_of, joined}
use Rattle.tables.specs.declared.Place.{Place}
use Rattle.model.specs.Stratification.{lasting}
use Rattle.grounding.specs.declared.RuleTurn.{RuleTurn}
use Rattle.grounding.specs.RuleSteps.{broken_at, Ordinary}

-- ---- the bit

module _ (t : RuleTurn) (g : Grid) (bits : ℕ) (p : Place) (o : Ordinary t g bits p) where
  -- the place of the bit of a rule that looks back is a number
  pub bit-number : lasting t.operator ≡ true → broken_at t g p < 4294967296
  bit-number l = omega (arith, o.number l, index_below g t.left p.pair p.point o.within)

  -- and lies in the words
  pub bit-room : lasting t.operator ≡ true → starts 0 (broken_at t g p) < 64 * bits
  bit-room l = omega (arith, o.room l, index_below g t.left p.pair p.point o.within)

-- ---- what is marked

-- a bit that is not set
pub mark_set : (v last : ℕ) → v / 2 ^ last % 2 ≡ 0 → as_bit (not (bit last v)) ≡ 1
mark_set v last e = ap (λ (b : Bool). as_bit (not b)) (ne_false (v / 2 ^ last % 2) 1 (λ q. omega (arith, q)))

-- and one that is
pub mark_none : (v last : ℕ) → (v / 2 ^ last % 2 ≡ 0 → ⊥) → as_bit (not (bit last v)) ≡ 0
mark_none v last n = ap (λ (b : Bool). as_bit (not b)) (eq_true (v / 2 ^ last % 2) 1 (omega (arith, n)))

-- nothing is joined
pub joined_empty : (k : ℕ) (l : List ℕ) (i j : ℕ) → field_of k l j ≡ joined k l i 0 j
joined_empty k l i j = cases (eqb j i)
    (λ e. rw e (ap (field_of k l) (true_eq j i e) ∙ sym (or_zero_r (field_of k l i))))
    (λ e. rw e)
