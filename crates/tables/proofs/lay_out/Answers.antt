use native.Mathlib.Omega.{arith}
use mathlib.Core.Path.{◌≡◌, sym, ap, ◌∙◌}
use mathlib.Core.Bool.{true≢false}
use Prim.Native.Nat.{suc, ◌≤◌, ◌+◌, ◌<◌}
use lib.Dec.{eqb, ltb}
use lib.ListN.{length}
use lib.Seq.{get_or-set_same, get_or-set_other}
use Rattle.foundation.specs.Tests.{cases, true_eq, false_eq, true-le, false-le}
use Rattle.words.proofs.SetBitLoops.{Turn, turn, finished, place_start, place_turn}
use Rattle.places.specs.Regions.{size_of}
use Rattle.tables.specs.TableLayout.{region_at, room_of}
use Rattle.tables.proofs.Rooms.{room_none, room-taken, room_same, room_mono, rules_laid}
use Rattle.tables.proofs.lay_out.Goals as goal
use Rattle.tables.proofs.lay_out.Goals.{In-Some}

at : (c : In-Some) → Turn c.args.rules c.loop-r.yielded c.in-Some.r
at c = turn c.loop-r.r-iterator (cc) c.loop-r.yielded_by c.in-Some.ensures.steps

-- n, and the room that the table of r takes
room_at : (c : In-Some) → (c.loop-r.n ≡ c.args.from + room_of c.args.g c.args.codes.now c.args.rules c.in-Some.r)
    × (c.loop-r.n + size_of c.args.g (region_at c.args.codes.now c.in-Some.r)
    ≡ c.args.from + room_of c.args.g c.args.codes.now c.args.rules (suc c.in-Some.r))
    × (room_of c.args.g c.args.codes.now c.args.rules (suc c.in-Some.r)
    ≤ room_of c.args.g c.args.codes.now c.args.rules 64)
room_at c =
    let a = c.args in
    let t = at c in
    let n = (c.loop-r.invariant c.in-Some.r t.passed).0 in (
      n,
      omega (arith, room-taken a.g a.codes.now a.rules c.in-Some.r t.own),
      room_mono a.g a.codes.now a.rules (suc c.in-Some.r) 64 t.low,
    )

pub loop-r-init : goal.loop-r-init
loop-r-init c =
    let a = c.args in
    place_start a.rules _ (λ n z. (
      omega (arith, room_same a.g a.codes.now a.rules 0 n (omega arith) z, room_none a.g a.codes.now a.rules),
      λ i h t. absurd (true≢false (sym t ∙ z i (omega arith) h)),
    ))

pub bounds-first-i : goal.bounds-first-i
bounds-first-i c = omega (arith, (at c).low)

pub region_at-requires : goal.region_at-requires
region_at-requires c = ((at c).low, c.requires.1)

pub size_of-n-requires : goal.size_of-n-requires
size_of-n-requires c =
    let s = room_at (goal.at.size_of-n-requires c).In-Some in
    omega (arith, ap (size_of c.args.g) c.region_at.ensures)

pub overflow_add-n : goal.overflow_add-n
overflow_add-n c =
    let s = room_at (goal.at.overflow_add-n c).In-Some in
    omega (arith, c.size_of-n.ensures, ap (size_of c.args.g) c.region_at.ensures)

pub loop-r-preserved : goal.loop-r-preserved
loop-r-preserved c =
    let a = c.args in
    let l = c.loop-r in
    let r = c.in-Some.r in
    let w = (goal.at.loop-r-preserved c).In-Some in
    let t = at w in
    let s = room_at w in
    let h : r < length l.first = omega (arith, t.low) in
    place_turn _ _ t l.invariant (λ i n g z. (
      omega (
        arith,
        c.size_of-n.ensures,
        ap (size_of a.g) c.region_at.ensures,
        room_same a.g a.codes.now a.rules (suc r) n g (λ j k m. z j (omega arith) m),
      ),
      λ j g' b. cases (eqb j r)
          (λ y. let q = true_eq j r y in rw q (get_or-set_same l.first r l.n 0 h ∙ i.0))
          (λ y. let d = false_eq j r y in cases (ltb j r)
          (λ m. get_or-set_other l.first r j l.n 0 d ∙ i.1 j (true-le (suc j) r m) b)
          (λ m. absurd (true≢false (sym b ∙ z j (omega (arith, false-le (suc j) r m)) g')))),
    ))

pub returns : goal.returns
returns c =
    let a = c.args in
    let l = c.loop-r in
    let i = l.invariant 64 (finished l.r-iterator (cc) l.yielded_by c.in-None.ensures.steps) in (
      i.0,
      rw i.0 (rules_laid a.g a.codes.now a.rules l.first a.from (omega arith) i.1),
      l.auto.first,
    )
