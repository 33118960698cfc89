use mathlib.Core.Path.{◌≡◌}
use Prim.Native.Nat.{◌≤◌}
use lib.ListN.{length}
use Rattle.words.proofs.SetBitLoops.{AtPlace}
use Rattle.encoding.specs.Format.{rules_in}
use Rattle.selection.proofs.SelectedLoop.{rules_up_to}
use Rattle.selection.proofs.ranking.select.Given as goal

abbrev pub invariant-loop-r : goal.invariant-loop-r
invariant-loop-r l =
    (length l.few ≡ 1792)
    × AtPlace l.needed l.yielded (λ n. (l.k ≤ n) × (rules_in l.k l.few ≡ rules_up_to l.needed l.body n))
