use mathlib.Core.Path.{◌≡◌}
use Prim.Native.Nat.{◌*◌}
use lib.ListN.{length, take}
use Rattle.queries.specs.HandedOn.{bytes_in}
use Rattle.queries.proofs.prepared.pack.Given as goal

abbrev pub invariant-loop-i : goal.invariant-loop-i
invariant-loop-i l =
    (length l.words ≡ length l.initial.words) × (bytes_in (take l.i l.words) ≡ take (8 * l.i) l.bytes)
