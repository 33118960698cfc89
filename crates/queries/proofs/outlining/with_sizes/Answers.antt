use native.Mathlib.Omega.{arith}
use Prim.Native.Nat.{ℕ, ◌+◌, ◌*◌, ◌≤◌}
use lib.Dec.{leb}
use Rattle.foundation.specs.Tests.{and-true, true-le}
use Rattle.queries.proofs.AskingFacts.{outline_few}
use Rattle.queries.proofs.outlining.with_sizes.Goals as goal

pub overflow_mul-size : goal.overflow_mul-size
overflow_mul-size c =
    let s = c in
    omega (arith, outline_few s.requires.1.1.asked_outline)

pub with_room-requires : goal.with_room-requires
with_room-requires c =
    let size : ℕ = c.args.k.extent.objects * c.args.k.extent.subjects in
    let lines : ℕ = c.args.k.totals.authorizations in
    let t = c in
    let s = t in
    let both = and-true (leb (size) 64) (leb (lines) 64) t.if-size-k.true in
    let few : size ≤ 64 = true-le (size) 64 both.0 in
    let short : lines ≤ 64 = true-le (lines) 64 both.1 in
    let room : 2 * size + lines ≤ 192 = omega arith in
    (s.requires.0, omega arith, omega arith, few, room, s.requires.1)

pub with_room-requires-then-size-le512 : goal.with_room-requires-then-size-le512
with_room-requires-then-size-le512 c =
    let size : ℕ = c.args.k.extent.objects * c.args.k.extent.subjects in
    let lines : ℕ = c.args.k.totals.authorizations in
    let t = c in
    let s = t in
    let few : size ≤ 512 = t.if-size-le512.true in
    let room : 2 * size + lines ≤ 2048 = omega (arith, s.requires.1.1.bodies.few) in
    (s.requires.0, omega arith, omega arith, few, room, s.requires.1)

pub with_room-requires-2 : goal.with_room-requires-2
with_room-requires-2 c =
    let size : ℕ = c.args.k.extent.objects * c.args.k.extent.subjects in
    let lines : ℕ = c.args.k.totals.authorizations in
    let s = c in
    let few : size ≤ 4225 = outline_few s.requires.1.1.asked_outline in
    let room : 2 * size + lines ≤ 9474 = omega (arith, s.requires.1.1.bodies.few) in
    (s.requires.0, omega arith, omega arith, few, room, s.requires.1)
