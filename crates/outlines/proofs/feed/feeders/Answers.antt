use native.Mathlib.Omega.{arith}
use mathlib.Core.Path.{ap, ◌∙◌}
use Prim.Native.Nat.{ℕ, ◌/◌}
use Rattle.foundation.specs.BitMasks.{bit_le}
use Rattle.encoding.specs.Format.{rule_at}
use Rattle.outlines.specs.Feed.{meeting_word}
use Rattle.outlines.proofs.Feeding.{sign_bit, right_placed, meeting_inside, feeders_same}
use Rattle.outlines.proofs.feed.feeders.Goals as goal

pub overflow_mul-i : goal.overflow_mul-i
overflow_mul-i c = omega (arith, c.requires.1.well_formed.few)

pub overflow_add-i : goal.overflow_add-i
overflow_add-i c = omega (arith, c.requires.1.well_formed.few)

pub bounds-sides-i : goal.bounds-sides-i
bounds-sides-i c =
    let b = c in
    omega (arith, b.requires.4, b.requires.1.well_formed.few)

pub meeting-f-requires : goal.meeting-f-requires
meeting-f-requires c =
    let b = c in
    let o = b.requires.1 in
    let h = b.requires.0 in
    let i = b.args.i in
    let s = bit_le (rule_at b.args.body.now i).right.negative in (
      omega (arith, o.well_formed.few),
      omega (arith, s, sign_bit o i h, c.from.ensures),
      right_placed o i h,
      b.requires.2,
      b.requires.3,
    )

pub overflow_mul-i-2 : goal.overflow_mul-i-2
overflow_mul-i-2 c =
    omega (arith, c.requires.1.well_formed.few)

pub rule_at-requires : goal.rule_at-requires
rule_at-requires c =
    omega (arith, c.requires.1.well_formed.there)

pub by_grantor_and_option-requires : goal.by_grantor_and_option-requires
by_grantor_and_option-requires c =
    let b = c in
    let a = b.args in (
      b.requires.1.well_formed.there,
      meeting_inside b.requires.1 a.i b.requires.0 _ (c.meeting-f.ensures
          ∙ ap (λ (k : ℕ). meeting_word a.left.now a.right.now a.i (k / 2))
          c.from.ensures),
    )

pub returns : goal.returns
returns c =
    let b = c in
    let a = b.args in
    feeders_same b.requires.1 a.i b.requires.0 c.meeting-f.result
    c.by_grantor_and_option.result
    (c.meeting-f.ensures
    ∙ ap (λ (k : ℕ). meeting_word a.left.now a.right.now a.i (k / 2))
    c.from.ensures)
    (λ q. rw c.rule_at.ensures at (c.by_grantor_and_option.ensures q))
