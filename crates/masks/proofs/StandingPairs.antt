-- Rules that stand at places that are needed: a word has them pair by pair.
use mathlib.Core.Path.{◌≡◌, sym, ap, ◌∙◌}
use mathlib.Core.Bool.{true, false≢true}
use mathlib.Core.List.{List}
use Prim.Native.Nat.{ℕ, ◌+◌, ◌/◌, ◌%◌, ◌<◌}
use native.Mathlib.Omega.{arith}
use lib.Bits.{bit_and, bit_or}
use lib.Dec.{eqb}
use lib.ListN.{get_or}
use Rattle.foundation.specs.Tests.{cases, or_cases, or_intro_left, or_true_right}
use Rattle.foundation.specs.Tests.{true_eq, false_eq}
use Rattle.foundation.specs.BitMasks.{bit, bit-zero}
use Rattle.foundation.specs.BitLaws.{bit_or_lem}
use Rattle.reach.specs.Net.{standing}
use Rattle.masks.specs.RuleMasks.{StandsOnNeed, need_at, Needed}
use Rattle.masks.proofs.SingleBits.{in_both, both_in}

-- both masks of a pair, and those on a mode that is needed
pub stands_at : (left : List ℕ) (o s need m : ℕ) → ((k r : ℕ) → bit k need ≡ true →
    bit r (get_or left (130 + k) 0) ≡ true → bit r m ≡ true) →
    StandsOnNeed left o s need (bit_and (bit_and (get_or left o 0) (get_or left (65 + s) 0)) m)
unfolding standing
stands_at left o s need m f =
    let a : ℕ = get_or left o 0 in
    let b : ℕ = get_or left (65 + s) 0 in
    record {
      all = λ k r e g.
          let x : ℕ = get_or left (130 + k) 0 in
          let w = in_both (bit_and a b) x r g in
          both_in (bit_and a b) m r w.0 (f k r e w.1);
      only = λ r e. (in_both a b r (in_both (bit_and a b) m r e).0).0;
    }

module _ (left need codes : List ℕ) (subjects : ℕ) where
  pub needed-start : Needed left need codes subjects 0 0
  needed-start = record {
    all = λ n k r h. absurd (omega arith);
    only = λ r e. absurd (false≢true (sym (bit-zero r) ∙ e));
  }

  pub needed-turn : (n m v : ℕ) → Needed left need codes subjects n m →
      StandsOnNeed left (get_or codes n 0 / 256) (get_or codes n 0 % 256) (need_at need subjects (get_or codes n 0))
      v →
      Needed left need codes subjects (n + 1) (bit_or m v)
  needed-turn n m v d s = record { all = all; only = only }
    where
      all : (i k r : ℕ) → i < n + 1 → bit k (need_at need subjects (get_or codes i 0)) ≡ true →
          bit r (standing left (get_or codes i 0 / 256) (get_or codes i 0 % 256) k) ≡ true →
          bit r (bit_or m v) ≡ true
      all i k r h e f = bit_or_lem m v r ∙ cases (eqb i n)
          (λ y. let q : get_or codes i 0 ≡ get_or codes n 0 = ap (λ (i : ℕ). get_or codes i 0) (true_eq i n y) in
          or_true_right (bit r m) (bit r v) (s.all k r
          (ap (λ (c : ℕ). bit k (need_at need subjects c)) (sym q) ∙ e)
          (ap (λ (c : ℕ). bit r (standing left (c / 256) (c % 256) k)) (sym q) ∙ f)))
          (λ y. let z = false_eq i n y in
          or_intro_left (bit r m) (bit r v) (d.all i k r (omega arith) e f))

      only : (r : ℕ) → bit r (bit_or m v) ≡ true →
          (i : ℕ) × (i < n + 1) × (bit r (get_or left (get_or codes i 0 / 256) 0) ≡ true)
      only r e = or_cases (bit r m) (bit r v) (sym (bit_or_lem m v r) ∙ e)
          (λ f. let w = d.only r f in (w.0, omega (arith, w.1), w.2))
          (λ f. (n, omega arith, s.only r f))
