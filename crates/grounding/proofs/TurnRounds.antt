-- Turns of rules: a turn takes its rule out of a mask (`others`, `among`); the turns of a set of rules come
-- to an end, as each adds bits (`fewer-left`) or takes a rule out (`less-to-do`).
use mathlib.Core.Path.{◌≡◌, sym, ap, ◌∙◌}
use mathlib.Core.Bool.{true, false, not, ◌&&◌, false≢true}
use mathlib.Core.List.{List}
use mathlib.Core.Logic.{⊎_elim}
use Prim.Native.Nat.{ℕ, suc, ◌+◌, ◌*◌, ◌-◌, ◌≤◌, ◌<◌}
use native.Mathlib.Nat.{mul-le-mul_right, suc-mul}
use native.Mathlib.Omega.{arith}
use lib.Dec.{eqb, ltb}
use lib.ListN.{length, get_or}
use Rattle.foundation.specs.Tests.{cases, and-true, and_intro, ne_false, true-le, false-le}
use Rattle.foundation.specs.BitMasks.{bit}
use Rattle.words.specs.Sums.{sum}
use Rattle.words.proofs.SumFacts.{sum-words}
use Rattle.sections.specs.Sections.{fields_of, broken_of}
use Rattle.tables.specs.declared.Frame.{Frame}
use Rattle.tables.specs.declared.Place.{Place}
use Rattle.grounding.specs.declared.RuleTurn.{RuleTurn}
use Rattle.grounding.specs.declared.Range.{Range}
use Rattle.grounding.specs.RuleSteps.{PairsReady, PairsRan}
use Rattle.grounding.specs.RuleTurns.{Prepared, range_of, RuleRan, RuleMarked, Marked, none, then}
use Rattle.grounding.proofs.StepRows.{row-length}

-- ---- the turn that is had

module _ (f : Frame) (left need codes number : List ℕ) {t t' : RuleTurn} {n : Range} (e : t ≡ t')
    (g : n ≡ range_of t.left f.grid number) where
  abbrev range : Range
  range = range_of t'.left f.grid number

  pub ready_as : (work : List ℕ) →
      PairsReady t' f left need codes number (length (fields_of t'.words work))
      (length (broken_of t'.words work)) range.from range.to →
      PairsReady t f left need codes number (length (fields_of t.words work))
      (length (broken_of t.words work)) n.from n.to
  ready_as work r = rw (g, e) r

  pub ran_as : (Does : RuleTurn → Place → List ℕ → List ℕ → Type 0) (old new : ℕ → List ℕ) →
      PairsRan t f left need codes (Does t) n.from n.to (old t.words) (new t.words) →
      PairsRan t' f left need codes (Does t') range.from range.to (old t'.words) (new t'.words)
  ran_as Does old new r = rw (g, e) at r

-- ---- lengths

module _ (p : Prepared) (active : List ℕ) {u v : List ℕ} where
  -- a turn keeps the length of the tables
  pub ran_length : (bits : List ℕ) (r : ℕ) → RuleRan p active bits r u v → length v ≡ length u
  ran_length bits r =
      ⊎_elim (λ e. ap length e.1) (λ d. row-length (λ q a b s. s.given.lengths) d.steps)

  -- marks keep that of the bits
  pub marked-length : (words : List ℕ) (last mark r : ℕ) → RuleMarked p active words last mark r u v →
      length v ≡ length u
  marked-length words last mark r =
      ⊎_elim (λ e. ap length e.1) (λ d. row-length (λ q a b s. s.lengths) d.1.steps)

-- ---- masks

module _ (m x r : ℕ) (out : (i : ℕ) → bit i x ≡ bit i m && not (eqb i r)) where
  pub others : (q : ℕ) → bit q m ≡ true → (q ≡ r → ⊥) → bit q x ≡ true
  others q e n = out q ∙ and_intro (bit q m) (not (eqb q r)) e (ap not (ne_false q r n))

  pub among : (q : ℕ) → bit q x ≡ true → bit q m ≡ true
  among q e = (and-true (bit q m) (not (eqb q r)) (sym (out q) ∙ e)).0

-- ---- the end

-- the bits that words lack, and then the rules that are to do
unfoldable pub measure : List ℕ → ℕ → ℕ
measure words dirty = (18446744073709551615 * length words - sum words) * 18446744073709551616 + dirty

rest_less : (m a b : ℕ) → a < b → b ≤ m → m - b < m - a
rest_less m a b h l = omega arith

first-less : (a b k d e : ℕ) → a < b → e < k → a * k + e < b * k + d
first-less a b k d e h l = omega (arith, mul-le-mul_right {m = suc a} {n = b} k h, suc-mul a k)

-- where words have more bits
pub fewer_left : (u v : List ℕ) (d e : ℕ) → length v ≡ length u → sum u < sum v →
    ((i : ℕ) → get_or v i 0 < 18446744073709551616) → e < 18446744073709551616 → measure v e < measure u d
unfolding measure
fewer_left u v d e n g h l =
    let m : ℕ = 18446744073709551615 * length u in
    first-less (18446744073709551615 * length v - sum v) (m - sum u) 18446744073709551616 d e
    (rw n (rest_less m (sum u) (sum v) g (rw n at (sum-words v h)))) l

-- or are the same, and there is less to do
second_less : (a d e : ℕ) → e < d → a + e < a + d
second_less a d e h = omega arith

pub less-to_do : (u : List ℕ) (d e : ℕ) → e < d → measure u e < measure u d
unfolding measure
less-to_do u d e h = second_less ((18446744073709551615 * length u - sum u) * 18446744073709551616) d e h

-- ---- marks

module _ (p : Prepared) (active words : List ℕ) (last mark rules : ℕ) where
  -- there is nothing to mark before the next rule
  pub marked_from : (j k : ℕ) {u w : List ℕ} → j ≤ k → ((i : ℕ) → j ≤ i → i < k → bit i rules ≡ false) →
      Marked p active words last mark rules k u w → Marked p active words last mark rules j u w
  marked_from j k l z (none n) = none (λ q a b e. cases (ltb q k)
      (λ y. false≢true (sym (z q a (true-le (suc q) k y)) ∙ e))
      (λ y. n q (omega (arith, false-le (suc q) k y)) b e))
  marked_from j k l z (then r q a b n e m s) = then j q (omega arith) b
      (λ i x y f. cases (ltb i k)
      (λ g. false≢true (sym (z i x (true-le (suc i) k g)) ∙ f))
      (λ g. n i (omega (arith, false-le (suc i) k g)) y f)) e m s
