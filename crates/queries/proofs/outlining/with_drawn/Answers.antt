use native.Mathlib.Omega.{arith}
use mathlib.Core.Path.{◌≡◌, sym, ap, ◌∙◌, subst}
use mathlib.Core.List.{List}
use Prim.Native.Nat.{ℕ, ◌+◌, ◌*◌, ◌≤◌}
use lib.Dec.{eqb}
use lib.ListN.{length, get_or, drop}
use Rattle.foundation.specs.Tests.{pick}
use Rattle.model.specs.declared.Access.{Access}
use Rattle.model.specs.Base.{Base}
use Rattle.model.specs.Encoding.{decode}
use Rattle.sections.specs.Sections.{left_of, subjects_of, objects_of}
use Rattle.foundation.specs.Lists.{lent_rest}
use Rattle.sections.proofs.SectionWrites.{put_back, part_long, in_part}
use Rattle.outlines.specs.LeftMasks.{Owned}
use Rattle.queries.specs.declared.Inquiry.{Inquiry}
use Rattle.queries.specs.Drawing.{chart_for, own_of}
use Rattle.queries.specs.Asking.{TaskIn, BodiesIn}
use Rattle.queries.proofs.AskingFacts.{access_ranges, asked_outlined}
use Rattle.queries.proofs.Sectioning.{left_long, left_back, left_feed, outline_moved, outline_at}
use Rattle.queries.proofs.outlining.with_drawn.Goals as goal

pub overflow_add-s : goal.overflow_add-s
overflow_add-s c =
    let s = c in
    omega (arith, (access_ranges s.args.a.access s.requires.2).0)

pub bounds-coordinates-x : goal.bounds-coordinates-x
bounds-coordinates-x c =
    let s = c in
    omega (arith, (access_ranges s.args.a.access s.requires.2).0, s.requires.0.placed)

pub overflow_add-o : goal.overflow_add-o
overflow_add-o c =
    let s = c in
    omega (arith, (access_ranges s.args.a.access s.requires.2).3)

pub bounds-coordinates-x-2 : goal.bounds-coordinates-x-2
bounds-coordinates-x-2 c =
    let s = c in
    omega (arith, (access_ranges s.args.a.access s.requires.2).3, s.requires.0.placed)

pub overflow_mul-from : goal.overflow_mul-from
overflow_mul-from c =
    let s = c in
    omega (arith, s.requires.3.1.few)

pub slice_bounds-own_masks-start : goal.slice_bounds-own_masks-start
slice_bounds-own_masks-start c =
    let s = c in
    s.requires.0.recorded

pub slice_bounds-own_masks-end-2 : goal.slice_bounds-own_masks-end-2
slice_bounds-own_masks-end-2 c =
    let s = c in
    omega (arith, s.requires.0.outlined)

pub own_masks-requires : goal.own_masks-requires
own_masks-requires c =
    let s = c in
    let d = s.requires.1 in
    let from : ℕ = s.args.base.now.totals.authorizations * 24 in (
      omega (arith, ap length (lent_rest from s.args.base.now.records.now), d.well_formed.there),
      d.well_formed.few,
      part_long 0 152 s.args.outline.now (omega (arith, s.requires.0.outlined)),
    )

pub overflow_cast-k : goal.overflow_cast-k
overflow_cast-k c =
    let subject-at : get_or (subjects_of c.args.coordinates.now) c.args.a.access.subject 0 ≡ get_or c.args.coordinates.now (512 + c.args.a.access.subject) 0 = in_part 512 1024 c.args.coordinates.now c.args.a.access.subject
    (omega (arith, (access_ranges c.args.a.access c.requires.2).0)) in
    let s = c in
    let d = s.requires.1 in
    omega (
      arith,
      d.charted.subjects.below s.args.a.access.subject,
      subject-at,
      d.charted.subjects.few,
      d.well_formed.few,
    )

pub overflow_cast-k-2 : goal.overflow_cast-k-2
overflow_cast-k-2 c =
    let object-at : get_or (objects_of c.args.coordinates.now) c.args.a.access.object 0 ≡ get_or c.args.coordinates.now (1536 + c.args.a.access.object) 0 = in_part 1536 130 c.args.coordinates.now c.args.a.access.object
    (omega (arith, (access_ranges c.args.a.access c.requires.2).3)) in
    let s = c in
    let d = s.requires.1 in
    omega (
      arith,
      d.charted.objects.below s.args.a.access.object,
      object-at,
      d.charted.objects.few,
      d.well_formed.few,
    )

pub with_sizes-requires : goal.with_sizes-requires
with_sizes-requires c =
    let subject-at : get_or (subjects_of c.args.coordinates.now) c.args.a.access.subject 0 ≡ get_or c.args.coordinates.now (512 + c.args.a.access.subject) 0 = in_part 512 1024 c.args.coordinates.now c.args.a.access.subject
    (omega (arith, (access_ranges c.args.a.access c.requires.2).0)) in
    let object-at : get_or (objects_of c.args.coordinates.now) c.args.a.access.object 0 ≡ get_or c.args.coordinates.now (1536 + c.args.a.access.object) 0 = in_part 1536 130 c.args.coordinates.now c.args.a.access.object
    (omega (arith, (access_ranges c.args.a.access c.requires.2).3)) in
    let own : Access =
    let f = c in
    let s = f in
    record {
      subject = f.own_of.result;
      mode = s.args.a.access.mode;
      object = c.own_of-2.result;
    } in
    let own_is : (let s = c in own ≡ own_of (chart_for (subjects_of s.args.coordinates.now) (objects_of s.args.coordinates.now) s.args.e) s.args.a.access) =
    let f = c in
    let s = f in
    let x = s.args.a.access in
    let u = f.own_of.ensures
    ∙ ap (λ (k : ℕ). pick (eqb k 0) x.subject 0) (sym (subject-at)) in
    let v = c.own_of-2.ensures ∙ ap (λ (k : ℕ). pick (eqb k 0) x.object 0) (sym (object-at)) in
    λ i. record { subject = u i; mode = x.mode; object = v i } in
    let left : List ℕ = c.own_masks.new.left in
    let room : 152 ≤ length c.args.outline.now = omega (arith, c.requires.0.outlined) in
    let left_is : length (left) ≡ 152 =
    let s = c in
    c.own_masks.auto.left
    ∙ part_long 0 152 s.args.outline.now (omega (arith, s.requires.0.outlined)) in
    let owned : (let g = c in let s = g in Owned (decode s.args.base.now.bytes.now) s.args.base.now.totals.rules (drop (s.args.base.now.totals.authorizations * 24) s.args.base.now.records.now) (own) (left_of s.args.outline.now) (left)) =
    let g = c in
    let s = g in
    subst (λ (b : List ℕ). Owned (decode s.args.base.now.bytes.now) s.args.base.now.totals.rules b
    (own) (left_of s.args.outline.now) (left))
    (lent_rest (s.args.base.now.totals.authorizations * 24) s.args.base.now.records.now) c.own_masks.ensures in
    let outlined : List ℕ =
    let s = c in
    put_back s.args.outline.now 0 152 (left) in
    let inquiry : Inquiry =
    let g = c in
    let s = g in
    record {
      asked = s.args.a;
      own = own;
      subject = get_or s.args.coordinates.now (512 + s.args.a.access.subject) 0;
      object = get_or s.args.coordinates.now (1536 + s.args.a.access.object) 0;
      totals = s.args.base.now.totals;
      extent = s.args.e;
    } in
    let task : (let s = c in (base : Base) → BodiesIn s.args.base.now.records.now s.args.base.now.totals (decode s.args.base.now.bytes.now) base → TaskIn s.args.base.now.records.now (outlined) s.args.coordinates.now (inquiry) base) = λ base b. let g = c in
    let s = g in
    let o : List ℕ = s.args.outline.now in
    record {
      holder = decode s.args.base.now.bytes.now;
      asked_outline = outline_at (sym (subject-at)) (sym (object-at))
          (outline_moved (left_back o (left) (room) (left_is))
          (left_feed o (left) (room) (left_is))
          (asked_outlined s.requires.1 s.args.a.access (own) s.requires.2 (own_is)
          (owned)));
      bodies = b;
    } in
    let outlined-long : length (outlined) ≡ 536 =
    let s = c in
    left_long s.args.outline.now (left) (room) (left_is) ∙ s.requires.0.outlined in
    let m = c in
    let s = m in (
      record {
        recorded = s.requires.0.recorded;
        outlined = outlined-long;
        placed = s.requires.0.placed;
      },
      (s.requires.3.0, task s.requires.3.0 s.requires.3.1),
    )

pub shape_of-outline : goal.shape_of-outline
shape_of-outline c =
    let left : List ℕ = c.own_masks.new.left in
    let room : 152 ≤ length c.args.outline.now = omega (arith, c.requires.0.outlined) in
    let left_is : length (left) ≡ 152 =
    let s = c in
    c.own_masks.auto.left
    ∙ part_long 0 152 s.args.outline.now (omega (arith, s.requires.0.outlined)) in
    let outlined : List ℕ =
    let s = c in
    put_back s.args.outline.now 0 152 (left) in
    let outlined-long : length (outlined) ≡ 536 =
    let s = c in
    left_long s.args.outline.now (left) (room) (left_is) ∙ s.requires.0.outlined in
    let z = c in
    let m = z in
    let s = m in
    z.with_sizes.auto.outline ∙ outlined-long
    ∙ sym s.requires.0.outlined

pub returns : goal.returns
returns c =
    let subject-at : get_or (subjects_of c.args.coordinates.now) c.args.a.access.subject 0 ≡ get_or c.args.coordinates.now (512 + c.args.a.access.subject) 0 = in_part 512 1024 c.args.coordinates.now c.args.a.access.subject
    (omega (arith, (access_ranges c.args.a.access c.requires.2).0)) in
    let object-at : get_or (objects_of c.args.coordinates.now) c.args.a.access.object 0 ≡ get_or c.args.coordinates.now (1536 + c.args.a.access.object) 0 = in_part 1536 130 c.args.coordinates.now c.args.a.access.object
    (omega (arith, (access_ranges c.args.a.access c.requires.2).3)) in
    let own : Access =
    let f = c in
    let s = f in
    record {
      subject = f.own_of.result;
      mode = s.args.a.access.mode;
      object = c.own_of-2.result;
    } in
    let own_is : (let s = c in own ≡ own_of (chart_for (subjects_of s.args.coordinates.now) (objects_of s.args.coordinates.now) s.args.e) s.args.a.access) =
    let f = c in
    let s = f in
    let x = s.args.a.access in
    let u = f.own_of.ensures
    ∙ ap (λ (k : ℕ). pick (eqb k 0) x.subject 0) (sym (subject-at)) in
    let v = c.own_of-2.ensures ∙ ap (λ (k : ℕ). pick (eqb k 0) x.object 0) (sym (object-at)) in
    λ i. record { subject = u i; mode = x.mode; object = v i } in
    let left : List ℕ = c.own_masks.new.left in
    let room : 152 ≤ length c.args.outline.now = omega (arith, c.requires.0.outlined) in
    let left_is : length (left) ≡ 152 =
    let s = c in
    c.own_masks.auto.left
    ∙ part_long 0 152 s.args.outline.now (omega (arith, s.requires.0.outlined)) in
    let owned : (let g = c in let s = g in Owned (decode s.args.base.now.bytes.now) s.args.base.now.totals.rules (drop (s.args.base.now.totals.authorizations * 24) s.args.base.now.records.now) (own) (left_of s.args.outline.now) (left)) =
    let g = c in
    let s = g in
    subst (λ (b : List ℕ). Owned (decode s.args.base.now.bytes.now) s.args.base.now.totals.rules b
    (own) (left_of s.args.outline.now) (left))
    (lent_rest (s.args.base.now.totals.authorizations * 24) s.args.base.now.records.now) c.own_masks.ensures in
    let outlined : List ℕ =
    let s = c in
    put_back s.args.outline.now 0 152 (left) in
    let inquiry : Inquiry =
    let g = c in
    let s = g in
    record {
      asked = s.args.a;
      own = own;
      subject = get_or s.args.coordinates.now (512 + s.args.a.access.subject) 0;
      object = get_or s.args.coordinates.now (1536 + s.args.a.access.object) 0;
      totals = s.args.base.now.totals;
      extent = s.args.e;
    } in
    let task : (let s = c in (base : Base) → BodiesIn s.args.base.now.records.now s.args.base.now.totals (decode s.args.base.now.bytes.now) base → TaskIn s.args.base.now.records.now (outlined) s.args.coordinates.now (inquiry) base) = λ base b. let g = c in
    let s = g in
    let o : List ℕ = s.args.outline.now in
    record {
      holder = decode s.args.base.now.bytes.now;
      asked_outline = outline_at (sym (subject-at)) (sym (object-at))
          (outline_moved (left_back o (left) (room) (left_is))
          (left_feed o (left) (room) (left_is))
          (asked_outlined s.requires.1 s.args.a.access (own) s.requires.2 (own_is)
          (owned)));
      bodies = b;
    } in
    let z = c in
    let m = z in
    λ base b. z.with_sizes.ensures base (task base b)
