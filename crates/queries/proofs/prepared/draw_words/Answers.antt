use native.Mathlib.Omega.{arith}
use mathlib.Core.Path.{◌≡◌, sym, ap, ◌∙◌}
use mathlib.Core.List.{List}
use Prim.Native.Nat.{ℕ, ◌*◌}
use lib.ListN.{length, take, drop}
use Rattle.sections.proofs.SectionWrites.{put_back, part_long, zero-part, back-length}
use Rattle.queries.proofs.Handing.{second_in, third_in, handed_long, put_together}
use Rattle.queries.proofs.prepared.draw_words.Goals as goal

pub draw-e-requires : goal.draw-e-requires
draw-e-requires c =
    let words : List ℕ = c.args.words.now in
    let bytes : List ℕ = c.args.bytes.now in
    let s = c in (
      s.requires.0,
      zero-part 0 280 s.args.words.now s.requires.1,
      zero-part 0 1666 s.args.bytes.now s.requires.2,
      omega (arith, part_long 0 280 s.args.words.now (omega (arith, s.requires.3))),
      part_long 0 1666 s.args.bytes.now (omega (arith, s.requires.4)),
      s.requires.5,
    )

pub pack-requires : goal.pack-requires
pack-requires c =
    let words : List ℕ = c.args.words.now in
    let bytes : List ℕ = c.args.bytes.now in
    let outline : List ℕ = c.draw-e.new.outline in
    let outline_long : length outline ≡ 280 = c.draw-e.auto.outline ∙ part_long 0 280 words (omega (arith, c.requires.3)) in
    let coordinates : List ℕ = c.draw-e.new.coordinates in
    let coordinates-long : length coordinates ≡ 1666 = c.draw-e.auto.coordinates ∙ part_long 0 1666 bytes (omega (arith, c.requires.4)) in
    let bytes_long : length (put_back bytes 0 1666 coordinates) ≡ length bytes = back-length bytes 0 1666 coordinates (omega (arith, c.requires.4)) coordinates-long in
    let room-long : length (take 209 (drop 280 (put_back words 0 280 outline))) ≡ 209 =
    let p = c.requires.3 in
    part_long 280 209 (put_back words 0 280 outline)
    (omega (arith, back-length words 0 280 outline (omega (arith, p)) outline_long, p)) in
    bytes_long ∙ c.requires.4 ∙ ap (λ (n : ℕ). 8 * n) (sym room-long)

pub bounds-words-490 : goal.bounds-words-490
bounds-words-490 c =
    let words : List ℕ = c.args.words.now in
    let outline : List ℕ = c.draw-e.new.outline in
    let outline_long : length outline ≡ 280 = c.draw-e.auto.outline ∙ part_long 0 280 words (omega (arith, c.requires.3)) in
    let room-long : length (take 209 (drop 280 (put_back words 0 280 outline))) ≡ 209 =
    let p = c.requires.3 in
    part_long 280 209 (put_back words 0 280 outline)
    (omega (arith, back-length words 0 280 outline (omega (arith, p)) outline_long, p)) in
    let packed : List ℕ = c.pack.new.words in
    let packed-long : length packed ≡ 209 = c.pack.auto.words ∙ room-long in
    second_in words outline packed c.draw-e.result c.requires.3 outline_long
    packed-long

pub bounds-words-491 : goal.bounds-words-491
bounds-words-491 c =
    let words : List ℕ = c.args.words.now in
    let outline : List ℕ = c.draw-e.new.outline in
    let outline_long : length outline ≡ 280 = c.draw-e.auto.outline ∙ part_long 0 280 words (omega (arith, c.requires.3)) in
    let room-long : length (take 209 (drop 280 (put_back words 0 280 outline))) ≡ 209 =
    let p = c.requires.3 in
    part_long 280 209 (put_back words 0 280 outline)
    (omega (arith, back-length words 0 280 outline (omega (arith, p)) outline_long, p)) in
    let packed : List ℕ = c.pack.new.words in
    let packed-long : length packed ≡ 209 = c.pack.auto.words ∙ room-long in
    third_in words outline packed c.draw-e.result c.requires.3 outline_long
    packed-long

pub shape_of-bytes : goal.shape_of-bytes
shape_of-bytes c =
    let bytes : List ℕ = c.args.bytes.now in
    let coordinates : List ℕ = c.draw-e.new.coordinates in
    let coordinates-long : length coordinates ≡ 1666 = c.draw-e.auto.coordinates ∙ part_long 0 1666 bytes (omega (arith, c.requires.4)) in
    let bytes_long : length (put_back bytes 0 1666 coordinates) ≡ length bytes = back-length bytes 0 1666 coordinates (omega (arith, c.requires.4)) coordinates-long in
    bytes_long

pub shape_of-words : goal.shape_of-words
shape_of-words c =
    let words : List ℕ = c.args.words.now in
    let outline : List ℕ = c.draw-e.new.outline in
    let outline_long : length outline ≡ 280 = c.draw-e.auto.outline ∙ part_long 0 280 words (omega (arith, c.requires.3)) in
    let room-long : length (take 209 (drop 280 (put_back words 0 280 outline))) ≡ 209 =
    let p = c.requires.3 in
    part_long 280 209 (put_back words 0 280 outline)
    (omega (arith, back-length words 0 280 outline (omega (arith, p)) outline_long, p)) in
    let packed : List ℕ = c.pack.new.words in
    let packed-long : length packed ≡ 209 = c.pack.auto.words ∙ room-long in
    handed_long words outline packed c.draw-e.result c.requires.3 outline_long
    packed-long ∙ sym c.requires.3

pub returns : goal.returns
returns c =
    let words : List ℕ = c.args.words.now in
    let bytes : List ℕ = c.args.bytes.now in
    let outline : List ℕ = c.draw-e.new.outline in
    let outline_long : length outline ≡ 280 = c.draw-e.auto.outline ∙ part_long 0 280 words (omega (arith, c.requires.3)) in
    let coordinates : List ℕ = c.draw-e.new.coordinates in
    let coordinates-long : length coordinates ≡ 1666 = c.draw-e.auto.coordinates ∙ part_long 0 1666 bytes (omega (arith, c.requires.4)) in
    let room-long : length (take 209 (drop 280 (put_back words 0 280 outline))) ≡ 209 =
    let p = c.requires.3 in
    part_long 280 209 (put_back words 0 280 outline)
    (omega (arith, back-length words 0 280 outline (omega (arith, p)) outline_long, p)) in
    let packed : List ℕ = c.pack.new.words in
    let packed-long : length packed ≡ 209 = c.pack.auto.words ∙ room-long in
    put_together words outline packed c.draw-e.result c.requires.3 outline_long
    packed-long bytes coordinates (omega (arith, c.requires.4)) coordinates-long
    c.pack.ensures c.draw-e.ensures
