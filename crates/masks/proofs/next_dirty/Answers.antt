use native.Mathlib.Omega.{arith}
use borrow.Author.Numbers.{trailing_lt}
use mathlib.Core.Path.{◌≡◌, sym, ap, ◌∙◌}
use mathlib.Core.Bool.{true}
use Prim.Native.Nat.{◌+◌, ◌<◌}
use lib.Count.{count_trailing_zeros}
use lib.Dec.{leb, ltb}
use Rattle.foundation.specs.Tests.{and-true}
use Rattle.foundation.specs.BitMasks.{bit}
use Rattle.words.specs.SetBits.{bits_left}
use Rattle.words.proofs.FieldLaws.{lowest_set}
use Rattle.words.proofs.SetBitLoops.{first_bit, last_bit}
use Rattle.masks.proofs.next_dirty.Goals as goal

pub returns-in-Some : goal.returns-in-Some
returns-in-Some c =
    let k = c.in-Some.k in
    let w = first_bit c.ones.result.left c.in-Some.ensures.steps in
    let e = c.high_part.ensures k in
    let b : bit k c.high_part.result ≡ true = ap (bit k) (sym c.ones.ensures) ∙ w.1 in
    (w.0, (and-true (leb (c.args.last.rule + 1) k) (bit k c.args.dirty) (sym e ∙ b)).1)

pub returns-in-Some-next_back : goal.returns-in-Some-next_back
returns-in-Some-next_back c =
    let k = c.in-Some-next_back.k in
    let w = last_bit c.ones-2.result.left (bits_left c.next_back.new.self) c.in-Some-next_back.ensures.steps in
    let e = c.low_part.ensures k in
    let b : bit k c.low_part.result ≡ true = ap (bit k) (sym c.ones-2.ensures) ∙ w.1 in
    (w.0, (and-true (ltb k c.args.last.rule) (bit k c.args.dirty) (sym e ∙ b)).1)

pub returns-in-None : goal.returns-in-None
returns-in-None c =
    let m = c.args.dirty in
    let l : count_trailing_zeros 64 m < 64 = trailing_lt 64 m c.requires.0 (omega arith) in
    (l, lowest_set 64 m l)
