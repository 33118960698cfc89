use mathlib.Core.Path.{◌≡◌}
use Prim.Native.Nat.{◌≤◌}
use lib.ListN.{length}
use Rattle.batch.proofs.AnswerBytes.{bytes_filled}
use Rattle.batch.proofs.batch.Given as goal

abbrev pub invariant-loop-i : goal.invariant-loop-i
invariant-loop-i l =
    (l.i ≤ l.n) × (length l.replies ≡ length l.initial.replies) × (l.replies ≡ bytes_filled l.base l.questions l.initial.replies l.i)
