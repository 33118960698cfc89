use native.Mathlib.Omega.{arith}
use mathlib.Core.Path.{◌≡◌, sym, ap, ◌∙◌, subst}
use mathlib.Core.List.{List}
use Prim.Native.Nat.{ℕ, ◌≤◌}
use lib.ListN.{length, get_or}
use Rattle.model.specs.Encoding.{decode}
use Rattle.foundation.specs.BitMasks.{bit}
use Rattle.sections.specs.Sections.{left_of, feed_of, sides_of, rights_of, subjects_of, objects_of}
use Rattle.sections.proofs.SectionWrites.{put_back, part_long, zero-part}
use Rattle.outlines.specs.Coordinates.{Chart, Charted}
use Rattle.outlines.proofs.CoordinateFacts.{numbered_apart}
use Rattle.outlines.specs.Outline.{LeftSides}
use Rattle.outlines.specs.LeftMasks.{WrittenMasks, Controlled}
use Rattle.outlines.proofs.StandingRules.{left_placed, masked, starred_below}
use Rattle.queries.specs.Drawing.{RulesDrawn}
use Rattle.queries.proofs.Sectioning.{still_charted, still_rights, still_lefts, still_behind}
use Rattle.queries.proofs.Sectioning.{left_long, left_back, left_feed, drawn_moved}
use Rattle.queries.proofs.outlining.draw.Goals as goal

pub number_sides-sizes-requires : goal.number_sides-sizes-requires
number_sides-sizes-requires c =
    let s = c in
    (s.requires.0, s.requires.4, s.requires.2)

pub draw_right-requires : goal.draw_right-requires
draw_right-requires c =
    let one : List ℕ = c.number_sides-sizes.new.coordinates in
    let one-long : length (one) ≡ 1666 =
    let s = c in
    c.number_sides-sizes.auto.coordinates ∙ s.requires.4 in
    let u = c in
    let s = u in
    (s.requires.0, one-long)

pub draw_left-requires : goal.draw_left-requires
draw_left-requires c =
    let one : List ℕ = c.number_sides-sizes.new.coordinates in
    let one-long : length (one) ≡ 1666 =
    let s = c in
    c.number_sides-sizes.auto.coordinates ∙ s.requires.4 in
    let two : List ℕ = c.draw_right.new.coordinates in
    let two-long : length (two) ≡ 1666 =
    let u = c in
    c.draw_right.auto.coordinates ∙ one-long in
    let r = c in
    let s = r in
    (s.requires.0, two-long)

pub slice_bounds-draw_masks-end : goal.slice_bounds-draw_masks-end
slice_bounds-draw_masks-end c =
    let one : List ℕ = c.number_sides-sizes.new.coordinates in
    let one-long : length (one) ≡ 1666 =
    let s = c in
    c.number_sides-sizes.auto.coordinates ∙ s.requires.4 in
    let two : List ℕ = c.draw_right.new.coordinates in
    let two-long : length (two) ≡ 1666 =
    let u = c in
    c.draw_right.auto.coordinates ∙ one-long in
    let three : List ℕ = c.draw_left.new.coordinates in
    let three-long : length (three) ≡ 1666 =
    let r = c in
    c.draw_left.auto.coordinates ∙ two-long in
    let l = c in
    omega (arith, three-long)

pub slice_bounds-draw_masks-end-2 : goal.slice_bounds-draw_masks-end-2
slice_bounds-draw_masks-end-2 c =
    let s = c in
    omega (arith, s.requires.3)

pub draw_masks-requires : goal.draw_masks-requires
draw_masks-requires c =
    let one : List ℕ = c.number_sides-sizes.new.coordinates in
    let one-long : length (one) ≡ 1666 =
    let s = c in
    c.number_sides-sizes.auto.coordinates ∙ s.requires.4 in
    let two : List ℕ = c.draw_right.new.coordinates in
    let two-long : length (two) ≡ 1666 =
    let u = c in
    c.draw_right.auto.coordinates ∙ one-long in
    let three : List ℕ = c.draw_left.new.coordinates in
    let three-long : length (three) ≡ 1666 =
    let r = c in
    c.draw_left.auto.coordinates ∙ two-long in
    let chart : Chart =
    let u = c in
    record {
      subjects = subjects_of (three);
      objects = objects_of (three);
      width = u.number_sides-sizes.result.subjects;
      height = u.number_sides-sizes.result.objects;
    } in
    let charted : (let s = c in Charted s.args.n s.args.body.now (chart)) =
    let r = c in
    let u = r in
    let s = u in
    still_charted (one) (two) (three) r.draw_right.ensures.2 c.draw_left.ensures.1
    s.args.n s.args.body.now u.number_sides-sizes.result.subjects u.number_sides-sizes.result.objects
    u.number_sides-sizes.ensures.0 u.number_sides-sizes.ensures.1 in
    let lefts : (let s = c in LeftSides (chart).subjects (chart).objects s.args.n s.args.body.now (sides_of (three))) =
    let r = c in
    let u = r in
    let s = u in
    still_lefts (one) (two) (three) r.draw_right.ensures.2 c.draw_left.ensures.1
    s.args.n s.args.body.now c.draw_left.ensures.0 in
    let l = c in
    let s = l in (
      s.requires.0.few,
      omega (arith, (charted).subjects.few, s.requires.0.few),
      left_placed s.requires.0 (chart) (charted) (sides_of (three)) (lefts),
      zero-part 0 152 s.args.outline.now s.requires.1,
      (let long = part_long 0 256 (three) (omega (arith, three-long)) in omega arith),
      part_long 0 152 s.args.outline.now (omega (arith, s.requires.3)),
    )

pub choosy_of-choosy-requires : goal.choosy_of-choosy-requires
choosy_of-choosy-requires c =
    let s = c in
    (s.requires.0.there, s.requires.0.few)

pub draw_feed-requires : goal.draw_feed-requires
draw_feed-requires c =
    let one : List ℕ = c.number_sides-sizes.new.coordinates in
    let one-long : length (one) ≡ 1666 =
    let s = c in
    c.number_sides-sizes.auto.coordinates ∙ s.requires.4 in
    let two : List ℕ = c.draw_right.new.coordinates in
    let two-long : length (two) ≡ 1666 =
    let u = c in
    c.draw_right.auto.coordinates ∙ one-long in
    let three : List ℕ = c.draw_left.new.coordinates in
    let three-long : length (three) ≡ 1666 =
    let r = c in
    c.draw_left.auto.coordinates ∙ two-long in
    let chart : Chart =
    let u = c in
    record {
      subjects = subjects_of (three);
      objects = objects_of (three);
      width = u.number_sides-sizes.result.subjects;
      height = u.number_sides-sizes.result.objects;
    } in
    let charted : (let s = c in Charted s.args.n s.args.body.now (chart)) =
    let r = c in
    let u = r in
    let s = u in
    still_charted (one) (two) (three) r.draw_right.ensures.2 c.draw_left.ensures.1
    s.args.n s.args.body.now u.number_sides-sizes.result.subjects u.number_sides-sizes.result.objects
    u.number_sides-sizes.ensures.0 u.number_sides-sizes.ensures.1 in
    let lefts : (let s = c in LeftSides (chart).subjects (chart).objects s.args.n s.args.body.now (sides_of (three))) =
    let r = c in
    let u = r in
    let s = u in
    still_lefts (one) (two) (three) r.draw_right.ensures.2 c.draw_left.ensures.1
    s.args.n s.args.body.now c.draw_left.ensures.0 in
    let masks-in : List ℕ =
    let s = c in
    put_back s.args.outline.now 0 152 c.draw_masks.new.left in
    let room : 152 ≤ length c.args.outline.now = omega (arith, c.requires.3) in
    let mask-long : length c.draw_masks.new.left ≡ 152 =
    let s = c in
    c.draw_masks.auto.left
    ∙ part_long 0 152 s.args.outline.now (omega (arith, s.requires.3)) in
    let masked-left : left_of (masks-in) ≡ c.draw_masks.new.left =
    let s = c in
    left_back s.args.outline.now c.draw_masks.new.left (room) (mask-long) in
    let masks-long : 280 ≤ length (masks-in) =
    let s = c in
    omega (
      arith,
      left_long s.args.outline.now c.draw_masks.new.left (room) (mask-long),
      s.requires.3,
    ) in
    let written : (let l = c in let s = l in WrittenMasks s.args.n (chart).width (sides_of (three)) (left_of (masks-in))) =
    let l = c in
    let s = l in
    subst (λ (w : List ℕ). WrittenMasks s.args.n (chart).width
    (sides_of (three)) w) (sym (masked-left)) c.draw_masks.ensures in
    let m = c in
    let l = m in
    let r = l in
    let u = r in
    let s = u in (
      record {
        well_formed = s.requires.0;
        chart = chart;
        charted = charted;
        rights = still_rights (one) (two) (three) r.draw_right.ensures.2 l.draw_left.ensures.1
            s.args.n s.args.body.now r.draw_right.ensures.0;
        lefts = lefts;
        masks = written;
      },
      masks-long,
      three-long,
      λ k. ap (λ (f : List ℕ). get_or f k 0)
          (left_feed s.args.outline.now m.draw_masks.new.left (room) (mask-long))
          ∙ zero-part 152 128 s.args.outline.now s.requires.1 k,
    )

pub slice_bounds-draw_controlled-end : goal.slice_bounds-draw_controlled-end
slice_bounds-draw_controlled-end c =
    let one : List ℕ = c.number_sides-sizes.new.coordinates in
    let one-long : length (one) ≡ 1666 =
    let s = c in
    c.number_sides-sizes.auto.coordinates ∙ s.requires.4 in
    let two : List ℕ = c.draw_right.new.coordinates in
    let two-long : length (two) ≡ 1666 =
    let u = c in
    c.draw_right.auto.coordinates ∙ one-long in
    let three : List ℕ = c.draw_left.new.coordinates in
    let three-long : length (three) ≡ 1666 =
    let r = c in
    c.draw_left.auto.coordinates ∙ two-long in
    let l = c in
    omega (arith, three-long)

pub slice_bounds-draw_controlled-end-2 : goal.slice_bounds-draw_controlled-end-2
slice_bounds-draw_controlled-end-2 c =
    let masks-in : List ℕ =
    let s = c in
    put_back s.args.outline.now 0 152 c.draw_masks.new.left in
    let room : 152 ≤ length c.args.outline.now = omega (arith, c.requires.3) in
    let mask-long : length c.draw_masks.new.left ≡ 152 =
    let s = c in
    c.draw_masks.auto.left
    ∙ part_long 0 152 s.args.outline.now (omega (arith, s.requires.3)) in
    let masks-long : 280 ≤ length (masks-in) =
    let s = c in
    omega (
      arith,
      left_long s.args.outline.now c.draw_masks.new.left (room) (mask-long),
      s.requires.3,
    ) in
    let fed : List ℕ = c.draw_feed.new.outline in
    let fed-long : 280 ≤ length (fed) =
    let m = c in
    omega (arith, c.draw_feed.auto.outline, masks-long) in
    let f = c in
    omega (arith, fed-long)

-- behind the feeders
pub draw_controlled-requires : goal.draw_controlled-requires
draw_controlled-requires c =
    let one : List ℕ = c.number_sides-sizes.new.coordinates in
    let one-long : length (one) ≡ 1666 =
    let s = c in
    c.number_sides-sizes.auto.coordinates ∙ s.requires.4 in
    let two : List ℕ = c.draw_right.new.coordinates in
    let two-long : length (two) ≡ 1666 =
    let u = c in
    c.draw_right.auto.coordinates ∙ one-long in
    let three : List ℕ = c.draw_left.new.coordinates in
    let three-long : length (three) ≡ 1666 =
    let r = c in
    c.draw_left.auto.coordinates ∙ two-long in
    let chart : Chart =
    let u = c in
    record {
      subjects = subjects_of (three);
      objects = objects_of (three);
      width = u.number_sides-sizes.result.subjects;
      height = u.number_sides-sizes.result.objects;
    } in
    let charted : (let s = c in Charted s.args.n s.args.body.now (chart)) =
    let r = c in
    let u = r in
    let s = u in
    still_charted (one) (two) (three) r.draw_right.ensures.2 c.draw_left.ensures.1
    s.args.n s.args.body.now u.number_sides-sizes.result.subjects u.number_sides-sizes.result.objects
    u.number_sides-sizes.ensures.0 u.number_sides-sizes.ensures.1 in
    let masks-in : List ℕ =
    let s = c in
    put_back s.args.outline.now 0 152 c.draw_masks.new.left in
    let room : 152 ≤ length c.args.outline.now = omega (arith, c.requires.3) in
    let mask-long : length c.draw_masks.new.left ≡ 152 =
    let s = c in
    c.draw_masks.auto.left
    ∙ part_long 0 152 s.args.outline.now (omega (arith, s.requires.3)) in
    let masked-left : left_of (masks-in) ≡ c.draw_masks.new.left =
    let s = c in
    left_back s.args.outline.now c.draw_masks.new.left (room) (mask-long) in
    let masks-long : 280 ≤ length (masks-in) =
    let s = c in
    omega (
      arith,
      left_long s.args.outline.now c.draw_masks.new.left (room) (mask-long),
      s.requires.3,
    ) in
    let fed : List ℕ = c.draw_feed.new.outline in
    let fed-long : 280 ≤ length (fed) =
    let m = c in
    omega (arith, c.draw_feed.auto.outline, masks-long) in
    let fed-left : (let m = c in left_of (fed) ≡ m.draw_masks.new.left) =
    let m = c in
    c.draw_feed.ensures.1 ∙ masked-left in
    let f = c in
    let m = f in
    let l = m in
    let s = l in (
      s.requires.0.there,
      numbered_apart (charted).objects s.requires.0.few,
      (λ q e. starred_below m.draw_masks.ensures q
          (ap (λ (k : List ℕ). bit q (get_or k 151 0)) (sym (fed-left)) ∙ e)),
      part_long 1536 130 (three) (omega (arith, three-long)),
      part_long 0 152 (fed) (omega (arith, fed-long)),
    )

pub shape_of-coordinates : goal.shape_of-coordinates
shape_of-coordinates c =
    let one : List ℕ = c.number_sides-sizes.new.coordinates in
    let one-long : length (one) ≡ 1666 =
    let s = c in
    c.number_sides-sizes.auto.coordinates ∙ s.requires.4 in
    let two : List ℕ = c.draw_right.new.coordinates in
    let two-long : length (two) ≡ 1666 =
    let u = c in
    c.draw_right.auto.coordinates ∙ one-long in
    let three : List ℕ = c.draw_left.new.coordinates in
    let three-long : length (three) ≡ 1666 =
    let r = c in
    c.draw_left.auto.coordinates ∙ two-long in
    let l = c in
    let s = l in
    three-long ∙ sym s.requires.4

pub returns : goal.returns
returns c =
    let one : List ℕ = c.number_sides-sizes.new.coordinates in
    let two : List ℕ = c.draw_right.new.coordinates in
    let three : List ℕ = c.draw_left.new.coordinates in
    let chart : Chart =
    let u = c in
    record {
      subjects = subjects_of (three);
      objects = objects_of (three);
      width = u.number_sides-sizes.result.subjects;
      height = u.number_sides-sizes.result.objects;
    } in
    let charted : (let s = c in Charted s.args.n s.args.body.now (chart)) =
    let r = c in
    let u = r in
    let s = u in
    still_charted (one) (two) (three) r.draw_right.ensures.2 c.draw_left.ensures.1
    s.args.n s.args.body.now u.number_sides-sizes.result.subjects u.number_sides-sizes.result.objects
    u.number_sides-sizes.ensures.0 u.number_sides-sizes.ensures.1 in
    let lefts : (let s = c in LeftSides (chart).subjects (chart).objects s.args.n s.args.body.now (sides_of (three))) =
    let r = c in
    let u = r in
    let s = u in
    still_lefts (one) (two) (three) r.draw_right.ensures.2 c.draw_left.ensures.1
    s.args.n s.args.body.now c.draw_left.ensures.0 in
    let masks-in : List ℕ =
    let s = c in
    put_back s.args.outline.now 0 152 c.draw_masks.new.left in
    let room : 152 ≤ length c.args.outline.now = omega (arith, c.requires.3) in
    let mask-long : length c.draw_masks.new.left ≡ 152 =
    let s = c in
    c.draw_masks.auto.left
    ∙ part_long 0 152 s.args.outline.now (omega (arith, s.requires.3)) in
    let masked-left : left_of (masks-in) ≡ c.draw_masks.new.left =
    let s = c in
    left_back s.args.outline.now c.draw_masks.new.left (room) (mask-long) in
    let masks-long : 280 ≤ length (masks-in) =
    let s = c in
    omega (
      arith,
      left_long s.args.outline.now c.draw_masks.new.left (room) (mask-long),
      s.requires.3,
    ) in
    let fed : List ℕ = c.draw_feed.new.outline in
    let fed-long : 280 ≤ length (fed) =
    let m = c in
    omega (arith, c.draw_feed.auto.outline, masks-long) in
    let fed-left : (let m = c in left_of (fed) ≡ m.draw_masks.new.left) =
    let m = c in
    c.draw_feed.ensures.1 ∙ masked-left in
    let d = c in
    let f = d in
    let h = f in
    let m = h in
    let l = m in
    let r = l in
    let u = r in
    let s = u in
    let k = d.draw_controlled in
    let bytes : List ℕ = s.args.bytes.now in
    let body : List ℕ = s.args.body.now in
    let left : List ℕ = k.new.left in
    let long : length left ≡ 152 = k.auto.left
    ∙ part_long 0 152 (fed) (omega (arith, fed-long)) in
    let controlled : Controlled bytes body (objects_of (three)) m.draw_masks.new.left left =
    subst (λ (w : List ℕ). Controlled bytes body (objects_of (three)) w left) (fed-left) k.ensures in
    let drawn : RulesDrawn (decode bytes) s.args.n (chart) body left (feed_of (fed))
    (sides_of (three)) (rights_of (three)) h.choosy_of-choosy.result = record {
      well_formed = s.requires.0;
      charted = charted;
      rights = still_rights (one) (two) (three) r.draw_right.ensures.2 l.draw_left.ensures.1
          s.args.n body r.draw_right.ensures.0;
      behind = still_behind (one) (two) (three) r.draw_right.ensures.2 l.draw_left.ensures.1
          s.args.n body u.number_sides-sizes.ensures.2 r.draw_right.ensures.1;
      lefts = lefts;
      masks = masked s.requires.0 (chart) (charted) (sides_of (three)) (lefts) bytes
          m.draw_masks.new.left left m.draw_masks.ensures controlled;
      fed = f.draw_feed.ensures.0;
      choosy_is = h.choosy_of-choosy.ensures;
    } in
    let most : 152 ≤ length (fed) = omega (arith, fed-long) in
    drawn_moved (left_back (fed) left most long) (left_feed (fed) left most long) drawn
