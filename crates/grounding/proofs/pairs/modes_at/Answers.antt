use native.Mathlib.Omega.{arith}
use mathlib.Core.Path.{ap, ◌∙◌}
use Prim.Native.Nat.{ℕ}
use lib.Bits.{bit_and}
use Rattle.foundation.specs.BitMasks.{bit}
use Rattle.words.proofs.FieldLaws.{bit_shifted}
use Rattle.grounding.proofs.Modes.{all_modes, own_mode, no_mode}
use Rattle.grounding.proofs.pairs.modes_at.Goals as goal

pub returns-then-m : goal.returns-then-m
returns-then-m c =
    let b = c in
    let a = b.args in
    all_modes a.t a.need b.modes_with_both-w.result b.modes_with_both-w.ensures c.if-m.true

pub returns-then-m-lt8 : goal.returns-then-m-lt8
returns-then-m-lt8 c =
    let b = c in
    let a = b.args in
    let w = b.modes_with_both-w in
    λ m. ap (λ (n : ℕ). bit m (bit_and w.result n)) (bit_shifted a.t.left.mode (omega arith))
    ∙ own_mode a.t a.need w.result w.ensures c.if-m.false m

pub returns : goal.returns
returns c =
    let b = c in
    let a = b.args in
    let w = b.modes_with_both-w in
    no_mode a.t a.need w.result w.ensures c.if-m.false (omega arith)
