use native.Mathlib.Omega.{arith}
use mathlib.Core.Path.{◌≡◌, refl, sym, ap}
use mathlib.Core.List.{List}
use Prim.Native.Nat.{ℕ}
use lib.ListN.{length, take, replicate}
use lib.Seq.{length-take-le}
use Rattle.sections.proofs.SectionWrites.{put_back, back_own, back-length}
use Rattle.queries.proofs.Sectioning.{drawn_moved, drawn_left, drawn_feed}
use Rattle.queries.proofs.Handing.{drawn_same}
use Rattle.queries.proofs.prepared.holds_drawn.Goals as goal

-- ---- the outline: zeros, and the words that are copied to its front
abbrev blank : List ℕ
blank = replicate 536 0

pub slice_bounds-with_drawn-end : goal.slice_bounds-with_drawn-end
slice_bounds-with_drawn-end c =
    let words : List ℕ = c.copy_from_slice.new.self in
    let outline : List ℕ = put_back blank 0 280 words in
    let outline_long : length (outline) ≡ 536 = back-length blank 0 280 words (omega arith) c.copy_from_slice.auto.self in
    let o = c in sym (outline_long)

pub with_drawn-requires : goal.with_drawn-requires
with_drawn-requires c =
    let words : List ℕ = c.copy_from_slice.new.self in
    let outline : List ℕ = put_back blank 0 280 words in
    let outline-own : take 280 (outline) ≡ words = back_own blank 0 280 words (omega arith) c.copy_from_slice.auto.self in
    let outline_long : length (outline) ≡ 536 = back-length blank 0 280 words (omega arith) c.copy_from_slice.auto.self in
    let o = c in
    let s = o in
    let p = c.unpack in (
      record {
        recorded = s.args.base.now.there;
        outlined = outline_long;
        placed = length-take-le 1666 p.new.bytes (omega (arith, p.auto.bytes));
      },
      drawn_moved (drawn_left (outline) words (outline-own))
          (drawn_feed (outline) words (outline-own))
          (drawn_same refl refl (sym o.copy_from_slice.ensures.after) (ap (take 1666) (sym p.ensures)) refl
          s.requires.1),
      s.requires.2,
      s.requires.3,
    )

pub returns : goal.returns
returns c = λ base b. (c.with_drawn.ensures base b).yes _ refl
