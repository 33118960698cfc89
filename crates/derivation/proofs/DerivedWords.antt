-- The word that is derived for a rule (`Derived`) is what the rule makes of its right side over the window
-- (`derived-made`).
use mathlib.Core.Path.{◌≡◌, refl, sym, ap, ◌∙◌}
use mathlib.Core.Bool.{Bool, true, false, not}
use Prim.Native.Nat.{ℕ, zero, suc, ◌≤◌, ◌<◌}
use native.Mathlib.Omega.{arith}
use lib.Dec.{ltb}
use Rattle.foundation.specs.Tests.{cases, true-le, false-le}
use Rattle.foundation.specs.Intervals.{in_interval, in_interval_in, in_interval-true}
use Rattle.foundation.specs.BitMasks.{bit, power_above, bit-zero}
use Rattle.foundation.specs.BitLaws.{no_bits}
use Rattle.model.specs.declared.Rule.{Rule}
use Rattle.model.specs.Stratification.{lasting}
use Rattle.derivation.proofs.Window.{made}
use Rattle.derivation.proofs.Lasting.{made_idle, made_plain}
use Rattle.derivation.proofs.MadeWords.{Framed, word_made}
use Rattle.derivation.specs.Derive.{FirstBit, Derived}

-- a word has a first bit below n, or none there
first_or_none : {X : Type 0} (active n : ℕ) → ((a : ℕ) → a < n → FirstBit a active → X) →
    (((i : ℕ) → i < n → bit i active ≡ false) → X) → X
first_or_none active zero f g = g (λ i h. absurd (omega arith))
first_or_none active (suc n) f g = first_or_none active n
    (λ a h w. f a (omega arith) w)
    (λ z. cases (bit n active)
    (λ e. f n (omega arith) (record { set = e; none = z }))
    (λ e. g (λ i h. cases (ltb i n)
    (λ l. z i (true-le (suc i) n l))
    (λ l. let q = false-le (suc i) n l in
    let m : i ≡ n = omega arith in rw m e))))

-- The word is what the rule makes of its right side at one instant after the other. What the rule derived
-- before the window matters only to a rule that looks back and goes on in it.
module _ (r : Rule) (k : ℕ) (ms : ℕ → ℕ) (f : Framed r k ms) (right : ℕ → Bool) (before broken : Bool)
    (held active v : ℕ)
    (acts : (i : ℕ) → i < k → bit i active ≡ in_interval r.interval (ms i))
    (inside : (i : ℕ) → bit i active ≡ true → i < k)
    (holds : (i : ℕ) → i < k → bit i held ≡ right i)
    (fresh : ms 0 ≤ r.interval.start → broken ≡ false)
    (past : lasting r.operator ≡ true → r.interval.start < ms 0 → in_interval r.interval (ms 0) ≡
    true →
    before ≡ not broken)
    (d : Derived r.operator held active broken v) where
  -- a rule with no instant in the window derives nothing
  idle_made : ((i : ℕ) → i < k → bit i active ≡ false) → (i : ℕ) → i < k →
      bit i v ≡ made r ms right before i
  idle_made z i h =
      let none : active ≡ 0 = no_bits active active (power_above active) (λ j l. cases (bit j active)
      (λ e. z j (inside j e)) (λ e. e)) in
      let w : v ≡ 0 = omega (arith, d.within) in
      ap (bit i) w ∙ bit-zero i
      ∙ sym (made_idle r ms right before i (sym (acts i h) ∙ z i h))

  first_made : (a : ℕ) → a < k → FirstBit a active → (i : ℕ) → i < k → bit i v ≡ made r ms right before i
  first_made a l w i h =
      let there : in_interval r.interval (ms a) ≡ true = sym (acts a l) ∙ w.set in
      let outside : (j : ℕ) → j < a → in_interval r.interval (ms j) ≡ false =
      λ j g. sym (acts j (omega arith)) ∙ w.none j g in
      d.word a w i ∙ cases (lasting r.operator)
      (λ e. word_made r k ms f right before broken held active acts holds (λ g. past e g (goes a l there g))
      fresh
      a l there outside i h)
      (λ e. word_made r k ms f right (not broken) broken held active acts holds (λ g. refl) fresh
      a l there outside i h
      ∙ made_plain r ms right (not broken) e i ∙ sym (made_plain r ms right before e i))
    where
      goes : (a : ℕ) → a < k → in_interval r.interval (ms a) ≡ true → r.interval.start < ms 0 →
          in_interval r.interval (ms 0) ≡ true
      goes zero l t g = t
      goes (suc a) l t g =
          let q = in_interval-true r.interval (ms (suc a)) t in
          let u = f.rising 0 (suc a) (omega arith) l in
          in_interval_in r.interval (ms 0) (omega arith) (omega arith)

  pub derived-made : (i : ℕ) → i < k → bit i v ≡ made r ms right before i
  derived-made = first_or_none active k first_made idle_made
