use native.Mathlib.Nat.{zero-add}
use native.Mathlib.Omega.{arith}
use mathlib.Core.Path.{◌≡◌, sym, ap, ap₂, ◌∙◌}
use mathlib.Core.Bool.{Bool, ◌&&◌, ◌||◌}
use Prim.Native.Nat.{ℕ}
use lib.Dec.{eqb}
use lib.ListN.{get_or}
use Rattle.foundation.specs.BitMasks.{bit, bit-zero}
use Rattle.foundation.specs.BitLaws.{bit_and_lem}
use Rattle.foundation.specs.Tests.{true_eq}
use Rattle.words.specs.SetBits.{among, set_bits}
use Rattle.words.proofs.SetBitLoops.{Turn, turn, finished, among_more, among_all, bring_one}
use Rattle.masks.proofs.transpose.Invariants.{precedes}
use Rattle.masks.proofs.transpose.Goals as goal
use Rattle.masks.proofs.transpose.Goals.{In-Some}

at : (c : In-Some) → Turn c.args.rules c.loop-q.yielded c.in-Some.q
at c = turn c.loop-q.q-iterator (cc) c.loop-q.yielded_by c.in-Some.ensures.steps

pub loop-q-init : goal.loop-q-init
loop-q-init c = λ r p h. ap (bit p) (c.requires.0 r h) ∙ bit-zero p

pub bounds-feed-q : goal.bounds-feed-q
bounds-feed-q c = omega (arith, (at (goal.at.bounds-feed-q c).In-Some).low, c.requires.1)

pub hand_on-requires : goal.hand_on-requires
hand_on-requires c = ((at (goal.at.hand_on-requires c).In-Some).low, omega arith)

pub loop-q-preserved : goal.loop-q-preserved
loop-q-preserved c =
    let a = c.args in
    let l = c.loop-q in
    let q = c.in-Some.q in
    let at : ℕ → ℕ → Bool = precedes a.feed.now a.rules in
    let put : (r p : ℕ) → bit p (get_or c.hand_on.new.words r 0)
    ≡ bit p (get_or l.fed r 0) || (eqb p q && at r q) =
    λ r p. rw (zero-add r) at (c.hand_on.ensures.1 r p) in
    λ r p h. put r p
    ∙ ap (λ (x : Bool). x || (eqb p q && at r q)) (l.invariant r p h)
    ∙ bring_one (among p l.yielded) (eqb p q) (at r p) (at r q) (λ y. ap (at r) (sym (true_eq p q y)))
    ∙ ap (λ (x : Bool). x && at r p) (sym (among_more p q l.yielded))

pub returns : goal.returns
returns c =
    let a = c.args in
    let l = c.loop-q in
    let e : l.yielded ≡ set_bits a.rules = finished l.q-iterator (cc) l.yielded_by c.in-None.ensures.steps in
    λ r q h. l.invariant r q h
    ∙ ap₂ (λ (x y : Bool). x && y) (among_all q a.rules l.yielded (omega arith) e)
    (bit_and_lem (get_or a.feed.now q 0) a.rules r)
