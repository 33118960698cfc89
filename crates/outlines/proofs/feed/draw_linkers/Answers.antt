use borrow.Author.Rules.{rules}
use native.Mathlib.Omega.{arith}
use mathlib.Core.Path.{◌≡◌, refl, sym, ap₂, ◌∙◌}
use Prim.Native.Nat.{ℕ, suc, ◌+◌, ◌<◌}
use lib.Bits.{bit_or}
use lib.ListN.{length, get_or, set, length-set}
use lib.Seq.{length-take-le, take-set-le}
use Rattle.foundation.specs.Tests.{le-false}
use Rattle.foundation.specs.BytesFacts.{set_word}
use Rattle.sections.specs.Sections.{left_of, feed_of, rights_of, sides_of}
use Rattle.sections.proofs.SectionWrites.{part_long, in_part, part-word}
use Rattle.outlines.specs.Feed.{linkers_word}
use Rattle.outlines.proofs.MaskWords.{join-turn}
use Rattle.outlines.proofs.feed.draw_linkers.Goals as goal

pub loop-i-init : goal.loop-i-init
loop-i-init c =
    (search rules, (λ w. rw (le-false (suc w) 0 (omega arith))), refl, refl)

pub linkers-f-requires : goal.linkers-f-requires
linkers-f-requires c =
    let l = c.loop-i in
    let b = c in
    let s = b.args.coordinates.now in
    let p = b.requires.3 in (
      omega (arith, b.requires.0),
      b.requires.1 l.i (omega arith),
      length-take-le 152 l.outline (omega (arith, l.invariant.3, b.requires.2)),
      omega (arith, part_long 256 256 s (omega (arith, p))),
      omega (arith, length-take-le 256 s (omega (arith, p))),
    )

pub bounds-outline-i : goal.bounds-outline-i
bounds-outline-i c =
    let l = c in
    let p = l.requires in
    omega (arith, l.loop-i.invariant.3, p.0, p.2)

pub bounds-outline-i-in-loop-i : goal.bounds-outline-i-in-loop-i
bounds-outline-i-in-loop-i c =
    let l = c in
    let p = l.requires in
    omega (arith, l.loop-i.invariant.3, p.0, p.2)

pub loop-i-preserved : goal.loop-i-preserved
loop-i-preserved c =
    let j = c in
    let b = j in
    let o = b.args.outline.now in
    let s = b.args.coordinates.now in
    let l = j.loop-i in
    let k = c.linkers-f in
    let few : l.i < 64 = omega (arith, b.requires.0) in
    let there : 152 + l.i < length l.outline = omega (arith, l.invariant.3, b.requires.2) in
    let v = bit_or (get_or l.outline (152 + l.i) 0) k.result in
    let f : ℕ → ℕ = λ w. bit_or (get_or (feed_of o) w 0) (linkers_word (left_of o) (rights_of s) (sides_of s) w) in
    let old : get_or l.outline (152 + l.i) 0 ≡ get_or (feed_of o) l.i 0 =
    sym (in_part 152 128 l.outline l.i (omega arith))
    ∙ l.invariant.1 l.i ∙ rw (le-false (suc l.i) l.i (omega arith)) in
    let own : k.result ≡ linkers_word (left_of o) (rights_of s) (sides_of s) l.i =
    rw l.invariant.2 at k.ensures in (
      search rules,
      (λ w. part-word 152 128 l.outline (set l.outline (152 + l.i) v) l.i v (omega arith)
          (set_word l.outline (152 + l.i) v there) w
          ∙ join-turn f l.i w v (get_or (feed_of l.outline) w 0) (get_or (feed_of o) w 0)
          (ap₂ bit_or old own) (l.invariant.1 w)),
      take-set-le 152 l.outline (152 + l.i) v (omega arith) ∙ l.invariant.2,
      length-set l.outline (152 + l.i) v ∙ l.invariant.3,
    )

pub returns : goal.returns
returns c =
    let l = c.loop-i in
    let e : l.i ≡ c.args.n = omega arith in
    rw (← e) (l.invariant.1, l.invariant.2)
