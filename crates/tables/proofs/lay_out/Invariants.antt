use mathlib.Core.Path.{◌≡◌}
use mathlib.Core.Bool.{true}
use Prim.Native.Nat.{ℕ, ◌+◌, ◌<◌}
use lib.ListN.{get_or}
use Rattle.foundation.specs.BitMasks.{bit}
use Rattle.words.proofs.SetBitLoops.{AtPlace}
use Rattle.tables.specs.TableLayout.{room_of}
use Rattle.tables.proofs.lay_out.Given as goal

abbrev pub invariant-loop-r : goal.invariant-loop-r
invariant-loop-r l = AtPlace l.rules l.yielded (λ n.
    (l.n ≡ l.from + room_of l.g l.codes l.rules n)
    × ((c : ℕ) → c < n → bit c l.rules ≡ true → get_or l.first c 0 ≡ l.from + room_of l.g l.codes l.rules c))
