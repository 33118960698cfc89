use borrow.Author.Rules.{rules}
use native.Mathlib.Omega.{arith}
use mathlib.Core.Path.{◌≡◌, ap, ◌∙◌}
use mathlib.Core.List.{◌++◌}
use Prim.Native.Nat.{ℕ, suc, ◌+◌, ◌-◌, ◌/◌, ◌%◌, ◌^◌, ◌≤◌, ◌<◌}
use lib.ListN.{drop, set, length-set}
use Rattle.model.specs.Text.{digits}
use Rattle.printing.proofs.Digits.{below_next, digits-start, digits-turn, digits-end}
use Rattle.printing.proofs.decimal_text.Invariants.{decreases-loop-rest, invariant-loop-rest}
use Rattle.printing.proofs.decimal_text.Goals as goal

pub loop-rest-init : goal.loop-rest-init
loop-rest-init c = (
  search rules,
  search rules,
  search rules,
  digits-start c.args.n c.args.text.now c.requires,
)

pub overflow_sub-i : goal.overflow_sub-i
overflow_sub-i c =
    let turn : (1 ≤ c.loop-rest.i) × (c.loop-rest.rest / 10 < 10 ^ c.loop-rest.i) = let l = c.loop-rest in below_next l.i l.rest (omega arith) l.invariant.1 in
    (turn).0

pub loop-rest-preserved : goal.loop-rest-preserved
loop-rest-preserved c =
    let turn : (1 ≤ c.loop-rest.i) × (c.loop-rest.rest / 10 < 10 ^ c.loop-rest.i) = let l = c.loop-rest in below_next l.i l.rest (omega arith) l.invariant.1 in
    let l = c.loop-rest in
    let w = turn in
    let e : suc (l.i - 1) ≡ l.i = omega arith in (
      search rules,
      rw e w.1,
      simp length-set (search rules),
      ap (λ (j : ℕ). digits j (l.rest / 10) ++ drop j (set l.text l.i (48 + l.rest % 10))) e
          ∙ digits-turn l.i l.rest l.text (omega arith) (omega arith)
          ∙ l.invariant.3,
    )

pub returns : goal.returns
returns c =
    let l = c.loop-rest in (
      search rules,
      simp length-set (search rules),
      digits-end l.i l.rest l.text (omega arith) (omega arith) ∙ l.invariant.3,
    )
