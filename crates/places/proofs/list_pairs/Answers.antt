use native.Mathlib.Numerals.{add-one}
use native.Mathlib.Omega.{arith}
use mathlib.Core.Path.{◌≡◌, sym, ap, ◌∙◌}
use mathlib.Core.Bool.{true, false, not, true≢false}
use mathlib.Core.List.{List}
use Prim.Native.Nat.{ℕ, ◌+◌, ◌<◌}
use lib.Dec.{eqb}
use lib.ListN.{length, get_or, set}
use lib.Seq.{get_or-set_same, get_or-set_other}
use Rattle.foundation.specs.Tests.{cases, true_eq, false_eq, eq_true, ne_false}
use Rattle.foundation.specs.BitMasks.{as_bit}
use Rattle.places.specs.ReachedNumbers.{used, used_before}
use Rattle.places.proofs.NumberFacts.{used_before_none, used_before-step, used_before-le}
use Rattle.places.proofs.NumberFacts.{used_before-apart}
use Rattle.places.proofs.list_pairs.Goals as goal
use Rattle.places.proofs.list_pairs.Goals.{then-x-ne0, else-x-ne0}

-- the number that the pair behind has
next_number : (l : List ℕ) (j n : ℕ) → j < length l → n ≡ used_before l j + as_bit (used (get_or l j 0)) →
    n ≡ used_before l (j + 1)
next_number l j n h e = e ∙ sym (used_before-step l j h) ∙ ap (used_before l) (sym (add-one j))

pub loop-j-init : goal.loop-j-init
loop-j-init c = (sym (used_before_none c.args.need.now), λ i h. absurd (omega arith))

pub offset_bounds-codes-n : goal.offset_bounds-codes-n
offset_bounds-codes-n c =
    omega (arith, c.loop-j.invariant.0, used_before-le c.args.need.now c.loop-j.j)

pub bounds-codes-n : goal.bounds-codes-n
bounds-codes-n c =
    omega (arith, c.loop-j.invariant.0, used_before-le c.args.need.now c.loop-j.j)

pub overflow_add-n : goal.overflow_add-n
overflow_add-n c =
    omega (arith, c.loop-j.invariant.0, used_before-le c.args.need.now c.loop-j.j)

pub loop-j-preserved : goal.loop-j-preserved
loop-j-preserved c =
    let l = c.loop-j in
    let b = c in
    let need = b.args.need.now in
    let i = l.invariant in
    let x = get_or need l.j 0 in
    let h : l.n < length l.codes = omega (arith, i.0, used_before-le need l.j) in
    elim c.if-x-ne0.branch [
      | then-x-ne0 w ↦ let v = w.code_at.result in
          let u : used x ≡ true = ap not (ne_false x 0 w.if-x-ne0.true) in (
            w.n-is ∙ next_number need l.j (l.n + 1) (omega arith) (omega (arith, i.0, ap as_bit u)),
            λ k g y. ap (λ (m : List ℕ). get_or m (used_before need k) 0) w.codes-is ∙ cases (eqb k l.j)
                (λ e. let q = true_eq k l.j e in
                rw q (ap (λ (m : ℕ). get_or (set l.codes l.n v) m 0) (sym i.0)
                ∙ get_or-set_same l.codes l.n v 0 h ∙ w.code_at.ensures))
                (λ e. let d = false_eq k l.j e in
                let a = used_before-apart need k l.j (omega arith) (omega arith) y in
                get_or-set_other l.codes l.n (used_before need k) v 0 (λ z. omega (arith, i.0))
                ∙ i.1 k (omega arith) y),
          )
      | else-x-ne0 w ↦
          let u : used x ≡ false = ap not (eq_true x 0 w.if-x-ne0.false) in (
            w.n-is ∙ next_number need l.j l.n (omega arith) (omega (arith, i.0, ap as_bit u)),
            λ k g y. ap (λ (m : List ℕ). get_or m (used_before need k) 0) w.codes-is ∙ cases (eqb k l.j)
                (λ e. absurd (true≢false (sym y ∙ ap (λ (m : ℕ). used (get_or need m 0)) (true_eq k l.j e) ∙ u)))
                (λ e. let d = false_eq k l.j e in i.1 k (omega arith) y),
          )
    ]
