-- The word that a rule derives over a window is what the rule makes of its right side at one instant after
-- the other (`word_made`).
use mathlib.Core.Path.{◌≡◌, sym, ap, ap₂, ◌∙◌}
use Prim.Native.Nat.{ℕ, zero, suc, ◌*◌, ◌/◌, ◌^◌, ◌≤◌, ◌<◌}
use native.Mathlib.Omega.{arith}
use mathlib.Core.Bool.{Bool, true, false, not, ◌&&◌, ◌||◌, true≢false, false≢true}
use lib.Dec.{eqb, ltb}
use Rattle.foundation.specs.Tests.{cases, true-le, false-le, eq_true, ne_false}
use Rattle.foundation.specs.Tests.{or_intro_left, or_true_right}
use Rattle.foundation.specs.Intervals.{in_interval, in_interval_in, in_interval-true}
use Rattle.foundation.specs.BitMasks.{bit, bit-zero}
use Rattle.foundation.specs.BitLaws.{bit_and_lem}
use Rattle.model.specs.declared.Rule.{Rule}
use Rattle.model.specs.declared.Operator.{Operator}
use Rattle.model.specs.declared.Operator.TheVariants.{Whenever, AsLongAs, WheneverNot, Unless}
use Rattle.model.specs.Stratification.{lasting}
use Rattle.questions.proofs.OperatorSteps.{sense}
use Rattle.words.specs.Ones.{ones}
use Rattle.words.proofs.OnesFacts.{ones-from}
use Rattle.words.proofs.CutBit.{bit-less}
use Rattle.derivation.proofs.Window.{made}
use Rattle.derivation.proofs.Lasting.{prior, made_plain, made_broken, made-lasting}
use Rattle.derivation.specs.Words.{wanted_word, derived_word}

wanted-bit : (o : Operator) (held active i : ℕ) →
    bit i (wanted_word o held active) ≡ bit i active && sense o (bit i held)
wanted-bit Whenever held active i = bit_and_lem active held i
wanted-bit AsLongAs held active i = bit_and_lem active held i
wanted-bit WheneverNot held active i = bit-less i active held
wanted-bit Unless held active i = bit-less i active held

-- a window of k instants: they rise, and the rule does not start between two of them
pub record Framed (r : Rule) (k : ℕ) (ms : ℕ → ℕ) : Type 0 where
  pub rising : (i j : ℕ) → i < j → j < k → ms i < ms j
  pub between : (i : ℕ) → suc i < k → ms i < r.interval.start → ms (suc i) ≤ r.interval.start

module _ (r : Rule) (k : ℕ) (ms : ℕ → ℕ) (f : Framed r k ms) (right : ℕ → Bool) (before broken : Bool)
    (held active : ℕ)
    (acts : (i : ℕ) → i < k → bit i active ≡ in_interval r.interval (ms i))
    (holds : (i : ℕ) → i < k → bit i held ≡ right i)
    (carried : r.interval.start < ms 0 → before ≡ not broken)
    (fresh : ms 0 ≤ r.interval.start → broken ≡ false) where
  abbrev x : ℕ
  x = wanted_word r.operator held active

  word : (i : ℕ) → i < k → bit i x ≡ in_interval r.interval (ms i) && sense r.operator (right i)
  word i h = wanted-bit r.operator held active i
      ∙ ap₂ (λ (a b : Bool). a && sense r.operator b) (acts i h) (holds i h)

  -- no instant of the window is below its first
  least : (i : ℕ) → i < k → ms 0 ≤ ms i
  least zero h = omega arith
  least (suc i) h = omega (arith, f.rising 0 (suc i) (omega arith) h)

  -- a rule that started before the window starts at none of its instants
  started : r.interval.start < ms 0 → (i : ℕ) → i < k → eqb (ms i) r.interval.start ≡ false
  started h i l = ne_false (ms i) r.interval.start (λ e. omega (arith, least i l))

  when_broken : lasting r.operator ≡ true → broken ≡ true → (i : ℕ) → i < k →
      made r ms right before i ≡ false
  when_broken l e = cases (ltb r.interval.start (ms 0))
      (λ y. let s = true-le (suc r.interval.start) (ms 0) y in
      made_broken r ms right before l (carried s ∙ ap not e) k (started s))
      (λ y. let s = false-le (suc r.interval.start) (ms 0) y in
      absurd (true≢false (sym e ∙ fresh (omega arith))))

  -- a is the first active instant
  module _ (a : ℕ) (inside : a < k) (there : in_interval r.interval (ms a) ≡ true)
      (outside : (i : ℕ) → i < a → in_interval r.interval (ms i) ≡ false) where
    later : (i : ℕ) → a < i → i < k → eqb (ms i) r.interval.start ≡ false
    later i g h =
        let w = in_interval-true r.interval (ms a) there in
        ne_false (ms i) r.interval.start (λ e. omega (arith, f.rising a i g h))

    when_whole : lasting r.operator ≡ true →
        eqb (ms a) r.interval.start || prior r ms right before a ≡ true →
        (i : ℕ) → i < k → made r ms right before i ≡ bit i (ones (x / 2 ^ a) * 2 ^ a)
    when_whole l o i h = made-lasting r ms right before l a k x outside o later word i h
        ∙ sym (ones-from a i x)

  -- a rule that is not broken goes on, or starts at the first instant of its interval
  goes_on : broken ≡ false → (a : ℕ) → a < k → in_interval r.interval (ms a) ≡ true →
      ((i : ℕ) → i < a → in_interval r.interval (ms i) ≡ false) →
      eqb (ms a) r.interval.start || prior r ms right before a ≡ true
  goes_on b zero h t n =
      let w = in_interval-true r.interval (ms 0) t in
      cases (ltb r.interval.start (ms 0))
      (λ y. or_true_right (eqb (ms 0) r.interval.start) before
      (carried (true-le (suc r.interval.start) (ms 0) y) ∙ ap not b))
      (λ y. let s = false-le (suc r.interval.start) (ms 0) y in
      or_intro_left (eqb (ms 0) r.interval.start) before (eq_true (ms 0) r.interval.start (omega
      arith)))
  goes_on b (suc i) h t n =
      let w = in_interval-true r.interval (ms (suc i)) t in
      let g = f.rising i (suc i) (omega arith) h in
      let early : ms i < r.interval.start = cases (ltb (ms i) r.interval.start)
      (λ y. true-le (suc (ms i)) r.interval.start y)
      (λ y. let s = false-le (suc (ms i)) r.interval.start y in
      absurd (false≢true (sym (n i (omega arith))
      ∙ in_interval_in r.interval (ms i) (omega arith) (omega arith)))) in
      let m = f.between i h early in
      or_intro_left (eqb (ms (suc i)) r.interval.start) (made r ms right before i)
      (eq_true (ms (suc i)) r.interval.start (omega arith))

  -- the word of a rule, a being its first active instant
  pub word_made : (a : ℕ) → a < k → in_interval r.interval (ms a) ≡ true →
      ((i : ℕ) → i < a → in_interval r.interval (ms i) ≡ false) → (i : ℕ) → i < k →
      bit i (derived_word r.operator held active broken a) ≡ made r ms right before i
  word_made a h t n i g = cases (lasting r.operator)
      (λ l. cases broken
      (λ b. rw (l, b) (bit-zero i ∙ sym (when_broken l b i g)))
      (λ b. rw (l, b) (sym (when_whole a h t n l (goes_on b a h t n) i g))))
      (λ l. rw l (word i g ∙ sym (made_plain r ms right before l i)))
