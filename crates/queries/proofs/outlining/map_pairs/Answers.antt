use native.Mathlib.Omega.{arith}
use native.Mathlib.Nat.{mul-le-mul, mul-le-mul_right}
use mathlib.Core.Path.{◌≡◌, refl, sym, ap, ◌∙◌}
use mathlib.Core.List.{List}
use Prim.Native.Nat.{ℕ, ◌*◌, ◌-◌, ◌≤◌}
use lib.ListN.{length}
use lib.Seq.{length-take-le}
use Rattle.foundation.specs.BitMasks.{bit}
use Rattle.sections.proofs.SectionWrites.{put_back, back-length, part_long}
use Rattle.reach.specs.Net.{Formed}
use Rattle.places.proofs.NumberFacts.{used_before-le}
use Rattle.queries.proofs.Sectioning.{map_moved, twice-number, twice-listed}
use Rattle.queries.proofs.outlining.map_pairs.Goals as goal

few : (right : List ℕ) (subjects size : ℕ) → Formed right subjects size → size ≤ 4225
few right subjects size f =
    let h : f.objects * subjects ≤ 4225 = mul-le-mul f.few f.low in
    omega (arith, f.rows)

pub overflow_mul-end : goal.overflow_mul-end
overflow_mul-end c =
    let s = c in
    omega (arith, few _ _ _ s.requires.7)

pub slice_bounds-reach-end-2 : goal.slice_bounds-reach-end-2
slice_bounds-reach-end-2 c =
    let s = c in
    sym (length-take-le (length s.args.need.now) s.args.numbers.now (omega (arith, s.requires.4)))

pub reach-requires : goal.reach-requires
reach-requires c =
    let s = c in
    let size : ℕ = length s.args.need.now in
    let numbers : List ℕ = s.args.numbers.now in (
      s.requires.7,
      length-take-le size numbers (omega (arith, s.requires.4)),
      s.requires.5,
      (λ i. (s.requires.0 i, s.requires.1 i)),
      s.requires.8,
      s.requires.9,
    )

pub slice_bounds-number_pairs-end-2 : goal.slice_bounds-number_pairs-end-2
slice_bounds-number_pairs-end-2 c =
    let reached : List ℕ =
    let s = c in
    put_back s.args.numbers.now 0 (length s.args.need.now)
    c.reach.new.todo in
    let reached-long : (let s = c in 2 * length s.args.need.now ≤ length (reached)) =
    let s = c in
    let size : ℕ = length s.args.need.now in
    let numbers : List ℕ = s.args.numbers.now in
    let y = c.reach in
    let room : size ≤ length numbers = omega (arith, s.requires.4) in
    omega (
      arith,
      s.requires.4,
      back-length numbers 0 size y.new.todo (omega arith)
          (y.auto.todo ∙ length-take-le size numbers room),
    ) in
    let y = c in
    let s = y in
    sym (length-take-le (length s.args.need.now) (reached) (omega (arith, reached-long)))

pub number_pairs-pairs-requires : goal.number_pairs-pairs-requires
number_pairs-pairs-requires c =
    let reached : List ℕ =
    let s = c in
    put_back s.args.numbers.now 0 (length s.args.need.now)
    c.reach.new.todo in
    let reached-long : (let s = c in 2 * length s.args.need.now ≤ length (reached)) =
    let s = c in
    let size : ℕ = length s.args.need.now in
    let numbers : List ℕ = s.args.numbers.now in
    let y = c.reach in
    let room : size ≤ length numbers = omega (arith, s.requires.4) in
    omega (
      arith,
      s.requires.4,
      back-length numbers 0 size y.new.todo (omega arith)
          (y.auto.todo ∙ length-take-le size numbers room),
    ) in
    let y = c in
    let s = y in (
      omega (arith, few _ _ _ s.requires.7, y.reach.ensures.2),
      length-take-le (length s.args.need.now) (reached) (omega (arith, reached-long))
          ∙ sym y.reach.ensures.2,
    )

pub offset_bounds-numbers-size : goal.offset_bounds-numbers-size
offset_bounds-numbers-size c =
    let s = c in
    omega (arith, few _ _ _ s.requires.7)

pub slice_bounds-list_pairs-end : goal.slice_bounds-list_pairs-end
slice_bounds-list_pairs-end c =
    let reached : List ℕ =
    let s = c in
    put_back s.args.numbers.now 0 (length s.args.need.now)
    c.reach.new.todo in
    let reached-long : (let s = c in 2 * length s.args.need.now ≤ length (reached)) =
    let s = c in
    let size : ℕ = length s.args.need.now in
    let numbers : List ℕ = s.args.numbers.now in
    let y = c.reach in
    let room : size ≤ length numbers = omega (arith, s.requires.4) in
    omega (
      arith,
      s.requires.4,
      back-length numbers 0 size y.new.todo (omega arith)
          (y.auto.todo ∙ length-take-le size numbers room),
    ) in
    let number-long : (let s = c in length c.number_pairs-pairs.new.number ≡ length s.args.need.now) =
    let w = c in
    let s = w in
    c.number_pairs-pairs.auto.number
    ∙ length-take-le (length s.args.need.now) (reached)
    (omega (arith, reached-long)) in
    let numbered : List ℕ =
    let w = c in
    let s = w in
    put_back (reached) 0 (length s.args.need.now)
    c.number_pairs-pairs.new.number in
    let numbered-long : (let s = c in 2 * length s.args.need.now ≤ length (numbered)) =
    let w = c in
    let s = w in
    let size : ℕ = length s.args.need.now in
    let room = reached-long in
    omega (
      arith,
      room,
      back-length (reached) 0 size c.number_pairs-pairs.new.number (omega (arith, room))
          (number-long),
    ) in
    let n = c in
    omega (arith, numbered-long)

pub list_pairs-requires : goal.list_pairs-requires
list_pairs-requires c =
    let reached : List ℕ =
    let s = c in
    put_back s.args.numbers.now 0 (length s.args.need.now)
    c.reach.new.todo in
    let reached-long : (let s = c in 2 * length s.args.need.now ≤ length (reached)) =
    let s = c in
    let size : ℕ = length s.args.need.now in
    let numbers : List ℕ = s.args.numbers.now in
    let y = c.reach in
    let room : size ≤ length numbers = omega (arith, s.requires.4) in
    omega (
      arith,
      s.requires.4,
      back-length numbers 0 size y.new.todo (omega arith)
          (y.auto.todo ∙ length-take-le size numbers room),
    ) in
    let number-long : (let s = c in length c.number_pairs-pairs.new.number ≡ length s.args.need.now) =
    let w = c in
    let s = w in
    c.number_pairs-pairs.auto.number
    ∙ length-take-le (length s.args.need.now) (reached)
    (omega (arith, reached-long)) in
    let numbered : List ℕ =
    let w = c in
    let s = w in
    put_back (reached) 0 (length s.args.need.now)
    c.number_pairs-pairs.new.number in
    let numbered-long : (let s = c in 2 * length s.args.need.now ≤ length (numbered)) =
    let w = c in
    let s = w in
    let size : ℕ = length s.args.need.now in
    let room = reached-long in
    omega (
      arith,
      room,
      back-length (reached) 0 size c.number_pairs-pairs.new.number (omega (arith, room))
          (number-long),
    ) in
    let n = c in
    let w = n in
    let s = w in
    let y = w.reach in
    let size : ℕ = length s.args.need.now in
    let f = s.requires.7 in
    let v : 2 * size - size ≡ size = omega arith in
    let l : s.args.e.objects * s.args.e.subjects ≤ 256 * s.args.e.subjects =
    mul-le-mul_right s.args.e.subjects (omega (arith, s.requires.3)) in (
      f.some,
      omega (arith, f.low),
      omega (arith, s.requires.2, l, y.ensures.2),
      part_long size (2 * size - size) (numbered)
          (omega (arith, numbered-long))
          ∙ v ∙ sym y.ensures.2,
    )

pub overflow_cast-result : goal.overflow_cast-result
overflow_cast-result c =
    let n = c in
    let w = n in
    let s = w in
    let y = w.reach in
    let need : List ℕ = y.new.need in
    omega (
      arith,
      n.number_pairs-pairs.ensures.0,
      used_before-le need (length need),
      few _ _ _ s.requires.7,
      y.ensures.2,
    )

pub returns : goal.returns
returns c =
    let reached : List ℕ =
    let s = c in
    put_back s.args.numbers.now 0 (length s.args.need.now)
    c.reach.new.todo in
    let reached-long : (let s = c in 2 * length s.args.need.now ≤ length (reached)) =
    let s = c in
    let size : ℕ = length s.args.need.now in
    let numbers : List ℕ = s.args.numbers.now in
    let y = c.reach in
    let room : size ≤ length numbers = omega (arith, s.requires.4) in
    omega (
      arith,
      s.requires.4,
      back-length numbers 0 size y.new.todo (omega arith)
          (y.auto.todo ∙ length-take-le size numbers room),
    ) in
    let number-long : (let s = c in length c.number_pairs-pairs.new.number ≡ length s.args.need.now) =
    let w = c in
    let s = w in
    c.number_pairs-pairs.auto.number
    ∙ length-take-le (length s.args.need.now) (reached)
    (omega (arith, reached-long)) in
    let numbered : List ℕ =
    let w = c in
    let s = w in
    put_back (reached) 0 (length s.args.need.now)
    c.number_pairs-pairs.new.number in
    let numbered-long : (let s = c in 2 * length s.args.need.now ≤ length (numbered)) =
    let w = c in
    let s = w in
    let size : ℕ = length s.args.need.now in
    let room = reached-long in
    omega (
      arith,
      room,
      back-length (reached) 0 size c.number_pairs-pairs.new.number (omega (arith, room))
          (number-long),
    ) in
    let l = c in
    let n = l in
    let w = n in
    let g = w in
    let s = g in
    let y = w.reach in
    let l = l.list_pairs in
    let size : ℕ = length s.args.need.now in
    let need : List ℕ = y.new.need in
    let number : List ℕ = n.number_pairs-pairs.new.number in
    let codes : List ℕ = l.new.codes in
    let v : 2 * size - size ≡ size = omega arith in
    let room = reached-long in
    let long : length codes ≡ size = l.auto.codes
    ∙ part_long size (2 * size - size) (numbered) (omega (arith, numbered-long)) ∙ v in (
      (λ U O. map_moved
          (twice-number (reached) number codes size size (2 * size - size) refl v room
          (number-long) long (length need) y.ensures.2)
          (twice-listed (reached) number codes size size (2 * size - size) refl v room
          (number-long) long (length need) y.ensures.2)
          (record {
            closed = y.ensures.0;
            size = y.ensures.2 ∙ s.requires.2;
            only = (s.args.pair, omega (arith, s.requires.5, y.ensures.2), y.ensures.3);
            numbers = (number-long ∙ sym y.ensures.2, n.number_pairs-pairs.ensures.1);
            codes_are = (long ∙ sym y.ensures.2, l.ensures);
            grid = (refl, refl, n.number_pairs-pairs.ensures.0);
            modes = c.modes_in.ensures;
          })),
      λ b e. y.ensures.1 b (ap (bit b) g.both_signs.ensures ∙ e),
    )
