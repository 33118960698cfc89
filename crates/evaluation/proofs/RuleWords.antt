-- The word of a rule, by whether it looks back and is broken.
use mathlib.Core.Path.{◌≡◌, sym, ap, ◌∙◌}
use mathlib.Core.Bool.{Bool, true, false, false≢true}
use mathlib.Core.List.{[]}
use Prim.Native.Nat.{ℕ, suc, ◌≤◌, ◌<◌}
use native.Mathlib.Omega.{arith}
use lib.Bits.{and_le_l}
use lib.Dec.{ltb}
use Rattle.foundation.specs.Tests.{cases, le-true, true-le, false-le}
use Rattle.foundation.specs.BitMasks.{bit, bit-zero}
use Rattle.foundation.specs.BitLaws.{no_bits}
use Rattle.model.specs.declared.Operator.{Operator}
use Rattle.model.specs.Stratification.{negating, lasting}
use Rattle.words.specs.Ones.{all_from}
use Rattle.words.specs.SetBits.{bits_below}
use Rattle.words.proofs.SetBitLoops.{Turn, among_all}
use Rattle.words.proofs.OnesFacts.{ones-from}
use Rattle.derivation.specs.Words.{wanted_word}
use Rattle.derivation.specs.Derive.{FirstBit, Derived}

pub wanted-le : (o : Operator) (held active : ℕ) → wanted_word o held active ≤ active
wanted-le o held active = cases (negating o)
    (λ e. rw e (omega arith))
    (λ e. rw e (and_le_l active held))

-- a word has one first bit
first_one : (a b active : ℕ) → FirstBit a active → FirstBit b active → a ≡ b
first_one a b active f g = cases (ltb a b)
    (λ y. absurd (false≢true (sym (g.none a (true-le (suc a) b y)) ∙ f.set)))
    (λ y. cases (ltb b a)
    (λ z. absurd (false≢true (sym (f.none b (true-le (suc b) a z)) ∙ g.set)))
    (λ z. omega (arith, false-le (suc a) b y, false-le (suc b) a z)))

module _ (o : Operator) (held active : ℕ) (broken : Bool) where
  pub plain-derived : lasting o ≡ false → Derived o held active broken (wanted_word o held active)
  plain-derived l = record { within = wanted-le o held active; word = λ a f i. rw l }

  pub broken_derived : lasting o ≡ true → broken ≡ true → Derived o held active broken 0
  broken_derived l b = record { within = omega arith; word = λ a f i. rw (l, b) }

  pub idle_derived : active ≡ 0 → Derived o held active broken 0
  idle_derived z = record {
    within = omega arith;
    word = λ a f i. absurd (false≢true (sym (bit-zero a) ∙ ap (bit a) (sym z) ∙ f.set));
  }

  pub lasting-derived : lasting o ≡ true → broken ≡ false → (b r : ℕ) → FirstBit b active →
      r ≤ wanted_word o held active → ((i : ℕ) → bit i r ≡ all_from b i (wanted_word o held active)) →
      Derived o held active broken r
  lasting-derived l k b r g h w = record {
    within = omega (arith, wanted-le o held active);
    word = λ a f i. let q = first_one a b active f g in
        rw (l, k, q) (w i ∙ sym (ones-from b i (wanted_word o held active)));
  }

-- the first bit of a word that gives one
pub first_given : {active r : ℕ} → Turn active [] r → FirstBit r active
first_given {active} {r} t = record {
  set = t.own;
  none = λ i l. rw (le-true (suc i) r l) at (sym (t.seen i));
}

-- a word that gives none is 0
pub none-given : (active : ℕ) → active < 9223372036854775808 → [] ≡ bits_below 64 active → active ≡ 0
none-given active h e = no_bits 63 active h (λ i m. sym (among_all i active [] (omega arith) e))
