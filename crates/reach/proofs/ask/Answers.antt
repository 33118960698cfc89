use borrow.Author.Rules.{rules}
use native.Mathlib.Omega.{arith}
use Prim.Native.Nat.{ℕ, ◌<◌}
use lib.ListN.{get_or}
use lib.Bits.{and_le_l}
use Rattle.reach.proofs.Growth.{ask_grown, ask_kept, asked}
use Rattle.reach.proofs.ask.Goals as goal

pub overflow_sub-todo : goal.overflow_sub-todo
overflow_sub-todo c = and_le_l c.args.bits _

pub returns : goal.returns
returns c =
    let a = c.args in
    let p = c.requires in
    let o : (i : ℕ) → get_or a.need.now i 0 < 65536 = λ i. search rules in (
      ask_grown a.need.now a.todo.now a.pair a.bits p.0 p.1 o (omega arith),
      asked a.need.now a.todo.now a.pair a.bits p.0 p.1 o (omega arith),
      ask_kept a.need.now a.todo.now a.pair a.bits p.0 p.1 o (omega arith),
    )

pub shape_of-need : goal.shape_of-need
shape_of-need = λ c. search
    rules
