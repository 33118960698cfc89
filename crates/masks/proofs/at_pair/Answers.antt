use native.Mathlib.Omega.{arith}
use mathlib.Core.Path.{◌≡◌, ◌∙◌}
use Prim.Native.Nat.{ℕ, ◌+◌}
use lib.Bits.{bit_or}
use lib.ListN.{get_or}
use Rattle.foundation.specs.Tests.{or_intro_left, or_true_right}
use Rattle.foundation.specs.BitMasks.{bit, bit-inside}
use Rattle.foundation.specs.BitLaws.{bit_or_lem}
use Rattle.words.specs.SetBits.{set_bits}
use Rattle.words.proofs.SetBitLoops.{Turn, turn, finished, each_start, each_turn, each_end}
use Rattle.masks.proofs.StandingPairs.{stands_at}
use Rattle.masks.proofs.at_pair.Invariants.{Has}
use Rattle.masks.proofs.at_pair.Goals as goal
use Rattle.masks.proofs.at_pair.Goals.{In-Some}

at : (c : In-Some) → Turn c.args.need c.loop-k.yielded c.in-Some.k
at c = turn c.loop-k.k-iterator (cc) c.loop-k.yielded_by c.in-Some.ensures.steps

pub loop-k-init : goal.loop-k-init
loop-k-init c = each_start (Has c.args.left.now 0)

pub bounds-left-k : goal.bounds-left-k
bounds-left-k c =
    omega (
      arith,
      c.requires,
      bit-inside 16 c.args.need c.in-Some.k (omega arith)
          (at (goal.at.bounds-left-k c).In-Some).own,
    )

pub loop-k-preserved : goal.loop-k-preserved
loop-k-preserved c =
    let left = c.args.left.now in
    let l = c.loop-k in
    let x : ℕ = get_or left (130 + c.in-Some.k) 0 in
    each_turn (Has left l.m) (Has left (bit_or l.m x)) (at (goal.at.loop-k-preserved c).In-Some) l.invariant
    (λ i _ f r y. bit_or_lem l.m x r ∙ or_intro_left (bit r l.m) (bit r x) (f r y))
    (λ r y. bit_or_lem l.m x r ∙ or_true_right (bit r l.m) (bit r x) y)

pub returns : goal.returns
returns c =
    let a = c.args in
    let l = c.loop-k in
    let e : l.yielded ≡ set_bits a.need = finished l.k-iterator (cc) l.yielded_by c.in-None.ensures.steps in
    stands_at a.left.now a.o a.s a.need l.m
    (λ k r b. each_end a.need (Has a.left.now l.m) (omega arith) e l.invariant k b r)
