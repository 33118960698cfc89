-- The word of a rule over a window. Bit i of x says that instant i lies in the rule's interval and that the
-- right side is then as the operator wants. Where the operator does not look back, x is the word
-- (`made_plain`). Where it does, the word is the ones of x from the first instant of the interval on
-- (`made-lasting`), or 0 if the rule gave nothing at the instant before the window (`made-broken`).
use mathlib.Core.Path.{◌≡◌, refl, sym, ap, ap₂, ◌∙◌}
use Prim.Native.Nat.{ℕ, zero, suc, ◌+◌, ◌-◌, ◌/◌, ◌%◌, ◌^◌, ◌≤◌, ◌<◌}
use native.Mathlib.Omega.{arith}
use mathlib.Core.Bool.{Bool, true, false, not, ◌&&◌, ◌||◌}
use lib.Dec.{eqb, leb}
use lib.Pow.{shr-shr}
use Rattle.foundation.specs.Tests.{cases, le-true, le-false, true-le, false-le, and_yes}
use Rattle.foundation.specs.Intervals.{in_interval}
use Rattle.foundation.specs.BitMasks.{bit}
use Rattle.model.specs.declared.Rule.{Rule}
use Rattle.model.specs.Stratification.{lasting}
use Rattle.questions.proofs.OperatorSteps.{sense}
use Rattle.words.specs.Ones.{up_to, all_from}
use Rattle.derivation.proofs.Window.{made}

-- bits from the a-th on are those of the word shifted by a
bit_moved : (a j x : ℕ) → bit j (x / 2 ^ a) ≡ bit (a + j) x
bit_moved a j x = ap (λ (n : ℕ). eqb (n % 2) 1) (shr-shr x a j)

all_before : (a i x : ℕ) → i < a → all_from a i x ≡ false
all_before a i x h = rw (le-false a i h)

all_first : (a x : ℕ) → all_from a a x ≡ bit a x
all_first a x =
    let z : a - a ≡ 0 = omega arith in
    let s : a + 0 ≡ a = omega arith in
    ap₂ (λ (b : Bool) (n : ℕ). b && up_to n (x / 2 ^ a)) (le-true a a (omega arith)) z
    ∙ bit_moved a 0 x ∙ ap (λ (n : ℕ). bit n x) s

all_next : (a i x : ℕ) → a ≤ i → all_from a (suc i) x ≡ all_from a i x && bit (suc i) x
all_next a i x h =
    let z : suc i - a ≡ suc (i - a) = omega arith in
    let s : a + suc (i - a) ≡ suc i = omega arith in
    ap₂ (λ (b : Bool) (n : ℕ). b && up_to n (x / 2 ^ a)) (le-true a (suc i) (omega arith)) z
    ∙ ap (λ (b : Bool). up_to (i - a) (x / 2 ^ a) && b) (bit_moved a (suc (i - a)) x
    ∙ ap (λ (n : ℕ). bit n x) s)
    ∙ sym (ap (λ (b : Bool). (b && up_to (i - a) (x / 2 ^ a)) && bit (suc i) x) (le-true a i h))

module _ (r : Rule) (ms : ℕ → ℕ) (right : ℕ → Bool) (before : Bool) where
  abbrev active : ℕ → Bool
  active i = in_interval r.interval (ms i)

  abbrev first : ℕ → Bool
  first i = eqb (ms i) r.interval.start

  abbrev wanted : ℕ → Bool
  wanted i = sense r.operator (right i)

  -- what the rule derived at the instant before
  abbrev pub prior : ℕ → Bool
  prior zero = before
  prior (suc i) = made r ms right before i

  pub made_by : (i : ℕ) → made r ms right before i
      ≡ (active i && (not (lasting r.operator) || first i || prior i)) && wanted i
  made_by zero = refl
  made_by (suc i) = refl

  -- outside its interval the rule derives nothing
  pub made_idle : (i : ℕ) → active i ≡ false → made r ms right before i ≡ false
  made_idle i e = made_by i ∙ rw e

  pub made_plain : lasting r.operator ≡ false → (i : ℕ) → made r ms right before i ≡ active i && wanted i
  made_plain l i = made_by i ∙ rw l (ap (λ (b : Bool). b && wanted i) (and_yes (active i)))

  -- what fails in the middle fails
  none : (a b : Bool) → (a && false) && b ≡ false
  none true b = refl
  none false b = refl

  module _ (l : lasting r.operator ≡ true) where
    pub made_broken : before ≡ false → (k : ℕ) → ((i : ℕ) → i < k → first i ≡ false) →
        (i : ℕ) → i < k → made r ms right before i ≡ false
    made_broken e k f zero h = made_by zero ∙ rw (l, f 0 h, e) (none (active 0) (wanted 0))
    made_broken e k f (suc i) h =
        let q = made_broken e k f i (omega arith) in
        made_by (suc i) ∙ rw (l, f (suc i) h, q) (none (active (suc i)) (wanted (suc i)))

    -- a is the first instant of the interval, and the gate is open there
    module _ (a k x : ℕ) (outside : (i : ℕ) → i < a → active i ≡ false)
        (open-there : first a || prior a ≡ true)
        (later : (i : ℕ) → a < i → i < k → first i ≡ false)
        (word : (i : ℕ) → i < k → bit i x ≡ active i && wanted i) where
      made-first : a < k → made r ms right before a ≡ bit a x
      made-first h = made_by a ∙ rw (l, open-there) (one (active a) (wanted a)) ∙ sym (word a h)
        where
          one : (a b : Bool) → (a && true) && b ≡ a && b
          one true b = refl
          one false b = refl

      made_next : (i : ℕ) → a ≤ i → suc i < k →
          made r ms right before (suc i) ≡ made r ms right before i && bit (suc i) x
      made_next i g h =
          made_by (suc i) ∙ rw (l, later (suc i) (omega arith) h)
          (turned (active (suc i)) (made r ms right before i) (wanted (suc i))
          ∙ ap (λ (b : Bool). made r ms right before i && b) (sym (word (suc i) h)))
        where
          turned : (p q w : Bool) → (p && q) && w ≡ q && (p && w)
          turned true true w = refl
          turned true false w = refl
          turned false true w = refl
          turned false false w = refl

      from_first : (d : ℕ) → a + d < k → made r ms right before (a + d) ≡ all_from a (a + d) x
      from_first zero h =
          let s : a + 0 ≡ a = omega arith in
          ap (λ (i : ℕ). made r ms right before i) s ∙ made-first (omega arith)
          ∙ sym (ap (λ (i : ℕ). all_from a i x) s ∙ all_first a x)
      from_first (suc d) h =
          let s : a + suc d ≡ suc (a + d) = omega arith in
          ap (λ (i : ℕ). made r ms right before i) s ∙ made_next (a + d) (omega arith) (omega arith)
          ∙ ap (λ (b : Bool). b && bit (suc (a + d)) x) (from_first d (omega arith))
          ∙ sym (ap (λ (i : ℕ). all_from a i x) s ∙ all_next a (a + d) x (omega arith))

      pub made-lasting : (i : ℕ) → i < k → made r ms right before i ≡ all_from a i x
      made-lasting i h = cases (leb a i)
          (λ e. let g = true-le a i e in
          let s : a + (i - a) ≡ i = omega arith in
          ap (λ (j : ℕ). made r ms right before j) (sym s) ∙ from_first (i - a) (omega arith)
          ∙ ap (λ (j : ℕ). all_from a j x) s)
          (λ e. let g = false-le a i e in made_idle i (outside i g) ∙ sym (all_before a i x g))
