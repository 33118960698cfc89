use mathlib.Core.Path.{◌≡◌}
use mathlib.Core.List.{◌++◌}
use Prim.Native.Nat.{suc, ◌^◌, ◌≤◌, ◌<◌}
use lib.ListN.{length, drop}
use Rattle.model.specs.Text.{digits, decimal}
use Rattle.printing.proofs.decimal_text.Given as goal

abbrev pub invariant-loop-rest : goal.invariant-loop-rest
invariant-loop-rest l =
    (l.i ≤ 9)
    × (l.rest < 10 ^ suc l.i)
    × (length l.text ≡ 10)
    × (digits (suc l.i) l.rest ++ drop (suc l.i) l.text ≡ decimal l.n)

abbrev pub decreases-loop-rest : goal.decreases-loop-rest
decreases-loop-rest l = l.rest
