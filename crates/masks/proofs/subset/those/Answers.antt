use Rattle.std.proofs.Common.{arith}
use Rattle.words.proofs.SetBitLoops.{Turn, turn, finished, collect_start, collect_turn, collect_end}
use Rattle.masks.proofs.subset.those.Goals as goal
use Rattle.masks.proofs.subset.those.Given.{Over}
use Rattle.masks.proofs.subset.those.Goals.{In-Some}

at : (g : Over) (c : In-Some g) → Turn c.args.rules c.loop-r.yielded c.in-Some.r
at g c = turn c.loop-r.r-iterator (cc) c.loop-r.yielded_by c.in-Some.ensures.steps

pub test-requires : goal.test-requires
test-requires g c = c.requires c.in-Some.r (at g (goal.at.test-requires g c).In-Some).own

pub with_if-m-requires : goal.with_if-m-requires
with_if-m-requires g c = (at g (goal.at.with_if-m-requires g c).In-Some).low

pub loop-r-init : goal.loop-r-init
loop-r-init g c = λ t f. collect_start t

pub loop-r-preserved : goal.loop-r-preserved
loop-r-preserved g c =
    let r = c.in-Some.r in
    let b = c.test.result in
    let own = (at g (goal.at.loop-r-preserved g c).In-Some).own in
    λ t f. collect_turn t r c.loop-r.yielded c.loop-r.m c.with_if-m.result b (c.loop-r.invariant t f)
    (f r b own c.test.ensures) c.with_if-m.ensures

pub returns : goal.returns
returns g c =
    λ t f. collect_end t c.args.rules c.loop-r.yielded c.loop-r.m (omega arith)
    (finished c.loop-r.r-iterator (cc) c.loop-r.yielded_by c.in-None.ensures.steps) (c.loop-r.invariant t f)
