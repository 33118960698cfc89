use native.Mathlib.Omega.{arith}
use mathlib.Core.Path.{ap, ap₂, ◌∙◌}
use Prim.Native.Nat.{ℕ, ◌+◌}
use lib.Dec.{eqb}
use lib.ListN.{get_or}
use lib.Bits.{bit_and, bit_or}
use Rattle.foundation.specs.Tests.{pick}
use Rattle.outlines.specs.Feed.{right_mode_word, meeting_word}
use Rattle.outlines.proofs.MaskWords.{depends_below}
use Rattle.outlines.proofs.feed.meeting.Goals as goal

pub offset_bounds-left-w : goal.offset_bounds-left-w
offset_bounds-left-w c =
    let b = c in
    let e = c.right_mode_word-w.ensures
    ∙ ap (λ (m : ℕ). right_mode_word m b.args.sign) c.from.ensures in
    omega (arith, depends_below b.args.right.now b.args.i b.requires.2 b.args.sign b.requires.1)

pub bounds-left-w : goal.bounds-left-w
bounds-left-w c =
    let b = c in
    let e = c.right_mode_word-w.ensures
    ∙ ap (λ (m : ℕ). right_mode_word m b.args.sign) c.from.ensures in
    let d = depends_below b.args.right.now b.args.i b.requires.2 b.args.sign b.requires.1 in
    omega (arith, b.requires.3, d)

pub meet_subject-f-requires : goal.meet_subject-f-requires
meet_subject-f-requires c =
    let b = c in
    (rw c.from-2.ensures b.requires.2.subject, b.requires.3)

pub meet_object-requires : goal.meet_object-requires
meet_object-requires c =
    let b = c in
    (rw c.from-3.ensures b.requires.2.object, b.requires.3)

pub returns : goal.returns
unfolding meeting_word
returns c =
    let a = c.args in
    let l = a.left.now in
    let k = c in
    let e = k.right_mode_word-w.ensures ∙ ap (λ (m : ℕ). right_mode_word m a.sign)
    k.from.ensures in
    let f = c.meet_subject-f.ensures
    ∙ ap₂ (λ (w s : ℕ). pick (eqb s 255) (get_or l w 0) (bit_and (get_or l w 0) (get_or l (65 + s) 0))) e
    c.from-2.ensures in
    c.meet_object.ensures
    ∙ ap₂ (λ (w o : ℕ). pick (eqb o 255) w (bit_and w (bit_or (get_or l 151 0) (get_or l o 0)))) f
    c.from-3.ensures
