use native.Mathlib.Omega.{arith}
use mathlib.Core.Path.{◌≡◌, refl, ap, ◌∙◌}
use mathlib.Core.Bool.{Bool, ◌&&◌}
use Prim.Native.Nat.{ℕ}
use lib.Dec.{eqb}
use lib.ListN.{get_or}
use Rattle.words.specs.SetBits.{set_bits}
use Rattle.words.proofs.SetBitFacts.{among_bits}
use Rattle.words.proofs.SetBitLoops.{Turn, turn, finished, collect_start, collect_turn}
use Rattle.words.specs.SetBits.{among}
use Rattle.masks.proofs.of_stratum.Goals as goal
use Rattle.masks.proofs.of_stratum.Goals.{In-Some}

at : (c : In-Some) → Turn c.args.rest c.loop-r.yielded c.in-Some.r
at c = turn c.loop-r.r-iterator (cc) c.loop-r.yielded_by c.in-Some.ensures.steps

pub loop-r-init : goal.loop-r-init
loop-r-init c = collect_start (λ i. eqb (get_or c.args.strata.now i 0) c.args.k)

pub bounds-strata-r : goal.bounds-strata-r
bounds-strata-r c = omega (arith, (at (goal.at.bounds-strata-r c).In-Some).low, c.requires)

pub with_if-m-requires : goal.with_if-m-requires
with_if-m-requires c = (at (goal.at.with_if-m-requires c).In-Some).low

pub loop-r-preserved : goal.loop-r-preserved
loop-r-preserved c =
    let a = c.args in
    let l = c.loop-r in
    let w = c.with_if-m in
    let t : ℕ → Bool = λ i. eqb (get_or a.strata.now i 0) a.k in
    collect_turn t c.in-Some.r l.yielded l.m w.result (t c.in-Some.r) l.invariant refl w.ensures

pub returns : goal.returns
returns c =
    let a = c.args in
    let l = c.loop-r in
    let e : l.yielded ≡ set_bits a.rest = finished l.r-iterator (cc) l.yielded_by c.in-None.ensures.steps in
    λ i. l.invariant i ∙ ap (λ (x : Bool). x && eqb (get_or a.strata.now i 0) a.k)
    (ap (among i) e ∙ among_bits i 64 a.rest)
