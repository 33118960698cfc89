use native.Mathlib.Omega.{arith}
use mathlib.Core.Path.{sym, ap, ◌∙◌}
use Prim.Native.Nat.{ℕ}
use lib.Dec.{eqb}
use lib.ListN.{get_or}
use Rattle.foundation.specs.Tests.{cases, true_eq, false_eq, or_intro_left, or_true_right}
use Rattle.foundation.specs.BitMasks.{bit}
use Rattle.foundation.specs.BitLaws.{bit_or_lem}
use Rattle.places.proofs.modes_of.Goals as goal

pub loop-x-preserved : goal.loop-x-preserved
loop-x-preserved c =
    let l = c.loop-x in
    let need = c.args.need.now in
    let x : ℕ = get_or need l.x-index 0 in
    λ i k h e. bit_or_lem l.all x k ∙ cases (eqb i l.x-index)
    (λ y. or_true_right (bit k l.all) (bit k x)
    (ap (λ (i : ℕ). bit k (get_or need i 0)) (sym (true_eq i l.x-index y)) ∙ e))
    (λ y. let d = false_eq i l.x-index y in
    or_intro_left (bit k l.all) (bit k x) (l.invariant i k (omega arith) e))
