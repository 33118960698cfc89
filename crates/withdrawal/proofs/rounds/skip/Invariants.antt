use Rattle.std.specs.Prelude.{◌≡◌, ◌+◌, ◌≤◌, drop, length}
use Rattle.withdrawal.specs.RoundTurns.{piece_of, leading}
use Rattle.withdrawal.proofs.rounds.skip.Given as goal

abbrev pub invariant-loop-p : goal.invariant-loop-p
invariant-loop-p l =
    (l.p ≤ length l.body)
    × (l.pos + leading (piece_of l.a) (drop l.pos l.body) ≡ l.p + leading (piece_of l.a) (drop l.p l.body))
