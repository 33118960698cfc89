use mathlib.Core.Path.{◌≡◌}
use Prim.Native.Nat.{◌≤◌}
use lib.ListN.{length, take}
use Rattle.fields.specs.Field.{splice}
use Rattle.queries.specs.HandedOn.{bytes_in}
use Rattle.queries.proofs.prepared.unpack.Given as goal

abbrev pub invariant-loop-i : goal.invariant-loop-i
invariant-loop-i l =
    (l.i ≤ length l.words) × (length l.bytes ≡ length l.initial.bytes) × (l.bytes ≡ splice 0 (bytes_in (take l.i l.words)) l.initial.bytes)
