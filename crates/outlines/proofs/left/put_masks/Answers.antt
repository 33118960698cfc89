use native.Mathlib.Omega.{arith}
use mathlib.Core.Path.{ap, ap₂, ◌∙◌}
use mathlib.Core.Bool.{Bool, ◌&&◌, ◌||◌}
use Prim.Native.Nat.{ℕ, ◌+◌, ◌%◌}
use lib.Dec.{eqb}
use lib.ListN.{get_or}
use Rattle.foundation.specs.BitMasks.{bit}
use Rattle.outlines.specs.LeftMasks.{object_word, subject_word, mode_word}
use Rattle.outlines.proofs.MaskWords.{in_word_lem, object-below, subject-below, mode-below}
use Rattle.outlines.proofs.left.put_masks.Goals as goal

pub put_four-requires : goal.put_four-requires
put_four-requires c =
    let j = c in
    let k = c in
    let b = k in
    let s = b.args.sides.now in
    let i = b.args.i in
    let p = b.requires.1 in
    let d = k.object_word-object.ensures ∙ ap object_word k.from.ensures in
    let e = j.subject_word-subject.ensures ∙ ap subject_word j.from-2.ensures in
    let f = c.mode_word-mode.ensures
    ∙ ap₂ (λ (m g : ℕ). mode_word m (g % 2)) c.from-3.ensures
    k.from-sign.ensures in (
      b.requires.0,
      omega (arith, object-below s i p),
      omega (arith, subject-below s i p),
      omega (arith, mode-below s i p),
      omega arith,
    )

pub returns : goal.returns
returns c =
    let j = c in
    let k = c in
    let g = k in
    let b = g in
    let s = b.args.sides.now in
    let i = b.args.i in
    let d = k.object_word-object.ensures ∙ ap object_word k.from.ensures in
    let e = j.subject_word-subject.ensures ∙ ap subject_word j.from-2.ensures in
    let f = c.mode_word-mode.ensures
    ∙ ap₂ (λ (m x : ℕ). mode_word m (x % 2)) c.from-3.ensures
    g.from-sign.ensures in
    λ w r. c.put_four.ensures w r
    ∙ ap (λ (x : Bool). bit r (get_or b.args.left.now w 0) || (eqb r i && x))
    (in_word_lem s i w k.object_word-object.result j.subject_word-subject.result
    c.mode_word-mode.result (146 + g.from-sign.result % 2) d e f
    (ap (λ (x : ℕ). 146 + x % 2) g.from-sign.ensures))
