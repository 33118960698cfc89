use native.Mathlib.Omega.{arith}
use mathlib.Core.Path.{◌≡◌, sym, ap, ap₂, ◌∙◌}
use mathlib.Core.List.{List}
use mathlib.Core.Bool.{Bool, ◌&&◌}
use Prim.Native.Nat.{ℕ, suc, ◌+◌, ◌≤◌, ◌<◌}
use lib.Bits.{bit_or, or_zero_r}
use lib.Dec.{ltb}
use lib.ListN.{length, get_or}
use lib.Seq.{get_or-take}
use Rattle.foundation.specs.Tests.{pick, cases, true-le, le-true, le-false}
use Rattle.foundation.specs.BitMasks.{bit}
use Rattle.model.specs.Stratification.{feeds}
use Rattle.encoding.specs.Format.{rules_in, rule_at}
use Rattle.rules.specs.RankTables.{RuleTable}
use Rattle.sections.specs.Sections.{left_of, feed_of, rights_of, sides_of}
use Rattle.sections.proofs.SectionWrites.{part_long, put_back, back-length, back_own, back-before, same_front}
use Rattle.outlines.proofs.StandingRules.{rule-bit}
use Rattle.outlines.specs.Feed.{Outlined, FeedTable, linkers_word, feeders_of}
use Rattle.outlines.proofs.Feeding.{right_placed, none_link, preceders_same}
use Rattle.outlines.proofs.feed.draw_feed.Goals as goal

-- what is fed, back in the outline o
fed_back : (o y : List ℕ) → 280 ≤ length o → length y ≡ length (feed_of o) →
    (280 ≤ length (put_back o 152 128 y)) × (feed_of (put_back o 152 128 y) ≡ y)
    × (left_of (put_back o 152 128 y) ≡ left_of o)
fed_back o y long e =
    let p = e ∙ part_long 152 128 o (omega arith) in
    let q = back-length o 152 128 y (omega arith) p in (
      omega (arith, q, long),
      back_own o 152 128 y (omega arith) p,
      same_front o (put_back o 152 128 y) q 152 (back-before o 152 128 y (omega arith) p),
    )

-- the table from the feeders, what is fed, and the linkers joined to each word
module _ {n choosy : ℕ} {body left right sides : List ℕ} (w : Outlined n body left right sides) where
  table : (feeders fed feed : List ℕ) → RuleTable n body (feeders_of (rules_in n body)) feeders →
      ((k : ℕ) → k < 64 → get_or fed k 0 ≡ get_or feeders k 0)
      × ((i c : ℕ) → i < 64 → c < 64 →
      bit c (get_or fed (64 + i) 0) ≡ bit c choosy && bit i (get_or feeders c 0)) →
      ((k : ℕ) → get_or feed k 0
      ≡ pick (ltb k n) (bit_or (get_or fed k 0) (linkers_word left right sides k)) (get_or fed k 0)) →
      FeedTable n body choosy feed
  table feeders fed feed d f e = let few = w.well_formed.few in record {
    preceders = λ i h. e i ∙ rw (le-true (suc i) n h)
        (ap (λ (m : ℕ). bit_or m (linkers_word left right sides i)) (f.0 i (omega arith) ∙ d i h)
        ∙ preceders_same w i h);
    onward = λ i q h k. ap (bit q) (e (64 + i) ∙ rw (le-false (suc (64 + i)) n (omega arith)))
        ∙ f.1 i q (omega arith) (omega arith)
        ∙ ap (λ (v : Bool). bit q choosy && v) (ap (bit i) (d q k)
        ∙ rule-bit n body (λ r. feeds r (rule_at body q)) i ∙ rw (le-true (suc i) n h));
  }

pub draw_feeders-requires : goal.draw_feeders-requires
draw_feeders-requires c =
    let p = c.requires in
    (p.0, p.1, p.2)

-- the outline after the feeders
pub slice_bounds-draw_fed-end : goal.slice_bounds-draw_fed-end
slice_bounds-draw_fed-end c =
    let d = c.draw_feeders in
    omega (arith, d.auto.outline, c.requires.1)

pub draw_fed-requires : goal.draw_fed-requires
draw_fed-requires c =
    let b = c in
    let d = c.draw_feeders in
    let long : 280 ≤ length d.new.outline = omega (arith, d.auto.outline, b.requires.1) in (
      (λ k h. d.ensures.1 k (omega (arith, b.requires.0.well_formed.few)) ∙ b.requires.3 k),
      part_long 152 128 d.new.outline (omega arith),
    )

pub draw_linkers-requires : goal.draw_linkers-requires
draw_linkers-requires c =
    let b = c in
    let d = c.draw_feeders in
    let f = c.draw_fed in
    let long : 280 ≤ length d.new.outline = omega (arith, d.auto.outline, b.requires.1) in (
      b.requires.0.well_formed.few,
      (λ i h. right_placed b.requires.0 i h),
      (fed_back d.new.outline f.new.feed long f.auto.feed).0,
      b.requires.2,
    )

pub returns-then-outline-eq0 : goal.returns-then-outline-eq0
returns-then-outline-eq0 c =
    let b = c in
    let a = b.args in
    let n = a.n in
    let d = c.draw_feeders in
    let f = c.draw_fed in
    let w = b.requires.0 in
    let o = d.new.outline in
    let y = f.new.feed in
    let g = fed_back o y (omega (arith, d.auto.outline, b.requires.1)) f.auto.feed in
    let front : left_of (put_back o 152 128 y) ≡ left_of a.outline.now = g.2 ∙ d.ensures.2 in
    let none : get_or (left_of a.outline.now) 147 0 ≡ 0 =
    ap (λ (m : List ℕ). get_or m 147 0) (sym front) ∙ get_or-take 152 (put_back o 152 128 y) 147 0 (omega arith)
    ∙ c.if-outline-eq0.true in (
      table w (feed_of o) y (feed_of (put_back o 152 128 y)) d.ensures.0 f.ensures
          (λ k. ap (λ (m : List ℕ). get_or m k 0) g.1 ∙ cases (ltb k n)
          (λ e. rw (e, none_link w k (true-le (suc k) n e) none) (sym (or_zero_r (get_or y k 0))))
          (λ e. rw e)),
      front,
    )

pub returns : goal.returns
returns c =
    let b = c in
    let a = b.args in
    let d = c.draw_feeders in
    let f = c.draw_fed in
    let l = c.draw_linkers in
    let o = d.new.outline in
    let y = f.new.feed in
    let g = fed_back o y (omega (arith, d.auto.outline, b.requires.1)) f.auto.feed in
    let front : left_of (put_back o 152 128 y) ≡ left_of a.outline.now = g.2 ∙ d.ensures.2 in
    let word : ℕ → List ℕ → List ℕ → ℕ = λ k m x. pick (ltb k a.n) (bit_or (get_or x k 0)
    (linkers_word m (rights_of a.coordinates.now) (sides_of a.coordinates.now) k)) (get_or x k 0) in (
      table b.requires.0 (feed_of o) y (feed_of l.new.outline) d.ensures.0 f.ensures
          (λ k. l.ensures.0 k ∙ ap₂ (word k) front g.1),
      l.ensures.1 ∙ front,
    )
