use Rattle.std.proofs.Common.{◌≡◌, sym, ◌∙◌, arith, Bool, true, false, List, ◌∷◌, ◌+◌}
use Rattle.std.proofs.lemmas.List.{at_drop_all}
use Rattle.foundation.specs.Tests.{pick}
use Rattle.model.specs.declared.Authorization.{Authorization}
use Rattle.withdrawal.specs.RoundTurns.{piece_of, leading}
use Rattle.withdrawal.proofs.rounds.skip.Goals as goal

-- a turn, over the rest x ∷ xs of ys, by what the test says of x
turn : (a x : Authorization) (ys xs : List Authorization) (b : Bool) → ys ≡ x ∷ xs → piece_of a x ≡ b →
    leading (piece_of a) ys ≡ pick b (leading (piece_of a) xs + 1) 0
turn a x ys xs b e q = rw (e, q)

pub returns-then-not-is_piece : goal.returns-then-not-is_piece
returns-then-not-is_piece c =
    let e = rw c.authorizations-built.ensures at c.get.ensures in
    let t = turn c.args.a _ _ _ false e (sym c.is_piece.ensures ∙ c.if-not-is_piece.true) in
    omega (arith, c.loop-p.invariant.1, t)

pub loop-p-preserved : goal.loop-p-preserved
loop-p-preserved c =
    let e = rw c.authorizations-built.ensures at c.get.ensures in
    let n = rw c.authorizations-built.ensures at c.len-m.ensures in
    let t = turn c.args.a _ _ _ true e (sym c.is_piece.ensures ∙ c.if-not-is_piece.false) in
    (omega (arith, n), omega (arith, c.loop-p.invariant.1, t))

pub returns : goal.returns
returns c =
    let n = rw c.authorizations-built.ensures at c.len-m.ensures in
    let t = at_drop_all (leading (piece_of c.args.a)) c.args.body.now c.loop-p.p (omega (arith, n)) in
    omega (arith, n, c.loop-p.invariant, t)
