use native.Mathlib.Omega.{arith}
use mathlib.Core.Path.{◌≡◌, refl, sym, ap, ◌∙◌, subst}
use mathlib.Core.Bool.{◌&&◌}
use mathlib.Core.List.{List}
use Prim.Native.Nat.{ℕ, ◌*◌, ◌-◌, ◌≤◌, ◌<◌}
use lib.Bits.{bit_and}
use lib.ListN.{length, get_or, take, drop, length-drop}
use lib.Seq.{get_or-take}
use Rattle.foundation.specs.Tests.{and-true}
use Rattle.foundation.specs.BitMasks.{bit}
use Rattle.foundation.specs.BitLaws.{bit_and_lem}
use Rattle.model.specs.Base.{Base}
use Rattle.encoding.specs.Format.{rule_at}
use Rattle.model.specs.Stratification.{lasting}
use Rattle.sections.specs.Sections.{left_of, first_of, starts_of, rights_of, subjects_of, objects_of}
use Rattle.sections.specs.Sections.{numbered_of, listed_of}
use Rattle.foundation.specs.Lists.{lent_rest}
use Rattle.sections.proofs.SectionWrites.{put_back, back-length, part_long}
use Rattle.places.specs.ReachedNumbers.{pair_index}
use Rattle.places.proofs.NumberFacts.{used_before-le}
use Rattle.masks.specs.RuleMasks.{Needed, PairCode, RulesIn}
use Rattle.facts.specs.Sharing.{TablesArranged}
use Rattle.engine.specs.declared.WindowWalk.{WindowWalk}
use Rattle.queries.specs.Drawing.{Mapped, chart_for}
use Rattle.queries.specs.Starting.{WalkGivenIn}
use Rattle.queries.specs.Asking.{TaskIn, WalkStart}
use Rattle.queries.proofs.DrawingFacts.{chart_small, map_small, code_pair, needed_in_lem}
use Rattle.queries.proofs.AskingFacts.{pair_in_lem, pair_few, outline_formed, lasts_in, lasts-room}
use Rattle.queries.proofs.AskingFacts.{outline_tabled, finds_answers, part-blank, outline_few}
use Rattle.queries.proofs.Sectioning.{listed_at, needed-listed, laid_long, laid_front, laid_first}
use Rattle.queries.proofs.Sectioning.{laid_starts, front_left, front_feed, ground_moved}
use Rattle.queries.proofs.outlining.with_pairs.Goals as goal

pub overflow_mul-from : goal.overflow_mul-from
overflow_mul-from c =
    let s = c in
    omega (arith, s.requires.4.1.bodies.few)

pub slice_bounds-body-start : goal.slice_bounds-body-start
slice_bounds-body-start c =
    let s = c in
    s.requires.0.recorded

pub pair_index-pair-requires : goal.pair_index-pair-requires
pair_index-pair-requires c =
    let s = c in
    omega (arith, pair_few s.requires.4.1.asked_outline)

pub overflow_sub-mode : goal.overflow_sub-mode
overflow_sub-mode c =
    let s = c in
    s.requires.4.1.asked_outline.some

pub slice_bounds-map_pairs-end : goal.slice_bounds-map_pairs-end
slice_bounds-map_pairs-end c =
    let s = c in
    omega (arith, s.requires.0.outlined)

pub slice_bounds-map_pairs-end-2 : goal.slice_bounds-map_pairs-end-2
slice_bounds-map_pairs-end-2 c =
    let s = c in
    omega (arith, s.requires.0.placed)

pub map_pairs-g-requires : goal.map_pairs-g-requires
map_pairs-g-requires c =
    let left-whole : length (left_of c.args.outline.now) ≡ 152 = part_long 0 152 c.args.outline.now (omega (arith, c.requires.0.outlined)) in
    let rights-whole : length (rights_of c.args.coordinates.now) ≡ 256 = part_long 256 256 c.args.coordinates.now (omega (arith, c.requires.0.placed)) in
    let i = c in
    let s = i in
    let k = s.requires.4.1.asked_outline in
    let need : List ℕ = s.args.need.now in (
      (λ i. (s.requires.1 i).0),
      part-blank (length need) s.args.numbers.now (λ i. (s.requires.1 i).1),
      s.requires.2,
      (chart_small _ k.outline.rules.well_formed.few k.outline.rules.charted).2,
      omega (arith, s.requires.3),
      omega (arith, i.pair_index-pair.ensures, pair_in_lem k need s.requires.2),
      omega (arith, k.some, k.few),
      outline_formed k need s.requires.2,
      omega (arith, left-whole),
      omega (arith, rights-whole),
    )

pub slice_bounds-needed_rules-end : goal.slice_bounds-needed_rules-end
slice_bounds-needed_rules-end c =
    let s = c in
    omega (arith, s.requires.0.outlined)

pub offset_bounds-numbers-size : goal.offset_bounds-numbers-size
offset_bounds-numbers-size c =
    let s = c in
    omega (arith, s.requires.2, outline_few s.requires.4.1.asked_outline)

pub slice_bounds-needed_rules-count-2 : goal.slice_bounds-needed_rules-count-2
slice_bounds-needed_rules-count-2 c =
    let numbered : List ℕ = c.map_pairs-g.new.numbers in
    let numbered-long : (let s = c in length (numbered) ≡ length s.args.numbers.now) = c.map_pairs-g.auto.numbers in
    let y = c in
    let s = y in
    omega (arith, s.requires.3, numbered-long)

pub slice_bounds-needed_rules-start-2 : goal.slice_bounds-needed_rules-start-2
slice_bounds-needed_rules-start-2 c =
    let numbered : List ℕ = c.map_pairs-g.new.numbers in
    let numbered-long : (let s = c in length (numbered) ≡ length s.args.numbers.now) = c.map_pairs-g.auto.numbers in
    let y = c in
    let s = y in
    omega (arith, s.requires.3, numbered-long)

pub needed_rules-needed-requires : goal.needed_rules-needed-requires
needed_rules-needed-requires c =
    let left-whole : length (left_of c.args.outline.now) ≡ 152 = part_long 0 152 c.args.outline.now (omega (arith, c.requires.0.outlined)) in
    let needed : List ℕ = c.map_pairs-g.new.need in
    let numbered : List ℕ = c.map_pairs-g.new.numbers in
    let needed-long : (let s = c in length (needed) ≡ length s.args.need.now) = c.map_pairs-g.auto.need in
    let numbered-long : (let s = c in length (numbered) ≡ length s.args.numbers.now) = c.map_pairs-g.auto.numbers in
    let mapped : (let s = c in Mapped (chart_for (subjects_of s.args.coordinates.now) (objects_of s.args.coordinates.now) s.args.k.extent) (left_of s.args.outline.now) (rights_of s.args.coordinates.now) (needed) (numbered_of (length (needed)) (numbered)) (listed_of (length (needed)) (numbered)) c.map_pairs-g.result) =
    let s = c in
    c.map_pairs-g.ensures.0 (subjects_of s.args.coordinates.now)
    (objects_of s.args.coordinates.now) in
    let few-pairs : c.map_pairs-g.result.pairs ≤ length (needed) = omega (arith, (mapped).grid.2, used_before-le (needed) (length (needed))) in
    let y = c in
    let s = y in
    let m = mapped in
    let few = few-pairs in
    let long = needed-long in
    let size : ℕ = length s.args.need.now in
    let rest = lent_rest size (numbered) in (
      omega (arith, few, long, numbered-long, s.requires.3, length-drop size (numbered), ap length rest),
      (λ i h. subst (λ (u : ℕ). PairCode s.args.k.extent.subjects (length (needed)) u)
          (listed_at (numbered) size (length (needed)) long i (omega (arith, few))
          ∙ ap (λ (l : List ℕ). get_or l i 0) (sym rest))
          (code_pair s.requires.4.1.asked_outline.outline m i h)),
      omega (arith, left-whole),
    )

pub lasting_of-lasting-requires : goal.lasting_of-lasting-requires
lasting_of-lasting-requires c =
    let body_is : (let from : ℕ = c.args.k.totals.authorizations * 24 in take (length c.args.records.now - from) (drop from c.args.records.now) ≡ drop from c.args.records.now) = lent_rest (c.args.k.totals.authorizations * 24) c.args.records.now in
    let needed : List ℕ = c.map_pairs-g.new.need in
    let numbered : List ℕ = c.map_pairs-g.new.numbers in
    let needed-long : (let s = c in length (needed) ≡ length s.args.need.now) = c.map_pairs-g.auto.need in
    let mapped : (let s = c in Mapped (chart_for (subjects_of s.args.coordinates.now) (objects_of s.args.coordinates.now) s.args.k.extent) (left_of s.args.outline.now) (rights_of s.args.coordinates.now) (needed) (numbered_of (length (needed)) (numbered)) (listed_of (length (needed)) (numbered)) c.map_pairs-g.result) =
    let s = c in
    c.map_pairs-g.ensures.0 (subjects_of s.args.coordinates.now)
    (objects_of s.args.coordinates.now) in
    let few-pairs : c.map_pairs-g.result.pairs ≤ length (needed) = omega (arith, (mapped).grid.2, used_before-le (needed) (length (needed))) in
    let rules-needed : (let y = c in let s = y in Needed (left_of s.args.outline.now) (needed) (listed_of (length (needed)) (numbered)) s.args.k.extent.subjects y.map_pairs-g.result.pairs c.needed_rules-needed.result) =
    let y = c in
    let s = y in
    let size : ℕ = length s.args.need.now in
    needed-listed (numbered) size (length (needed)) (needed-long) (few-pairs)
    (subst (λ (l : List ℕ). Needed (left_of s.args.outline.now) (needed) l
    s.args.k.extent.subjects y.map_pairs-g.result.pairs c.needed_rules-needed.result)
    (lent_rest size (numbered)) c.needed_rules-needed.ensures) in
    let y = c in
    let s = y in
    subst (λ (b : List ℕ). RulesIn c.needed_rules-needed.result b) (sym (body_is))
    (needed_in_lem s.requires.4.1.asked_outline.outline (mapped) (rules-needed))

pub slice_bounds-lay_tables-end : goal.slice_bounds-lay_tables-end
slice_bounds-lay_tables-end c =
    let s = c in
    omega (arith, s.requires.0.placed)

pub slice_bounds-lay_tables-end-2 : goal.slice_bounds-lay_tables-end-2
slice_bounds-lay_tables-end-2 c =
    let s = c in
    omega (arith, s.requires.0.outlined)

pub lay_tables-t-requires : goal.lay_tables-t-requires
lay_tables-t-requires c =
    let body_is : (let from : ℕ = c.args.k.totals.authorizations * 24 in take (length c.args.records.now - from) (drop from c.args.records.now) ≡ drop from c.args.records.now) = lent_rest (c.args.k.totals.authorizations * 24) c.args.records.now in
    let rights-whole : length (rights_of c.args.coordinates.now) ≡ 256 = part_long 256 256 c.args.coordinates.now (omega (arith, c.requires.0.placed)) in
    let needed : List ℕ = c.map_pairs-g.new.need in
    let numbered : List ℕ = c.map_pairs-g.new.numbers in
    let needed-long : (let s = c in length (needed) ≡ length s.args.need.now) = c.map_pairs-g.auto.need in
    let mapped : (let s = c in Mapped (chart_for (subjects_of s.args.coordinates.now) (objects_of s.args.coordinates.now) s.args.k.extent) (left_of s.args.outline.now) (rights_of s.args.coordinates.now) (needed) (numbered_of (length (needed)) (numbered)) (listed_of (length (needed)) (numbered)) c.map_pairs-g.result) =
    let s = c in
    c.map_pairs-g.ensures.0 (subjects_of s.args.coordinates.now)
    (objects_of s.args.coordinates.now) in
    let few-pairs : c.map_pairs-g.result.pairs ≤ length (needed) = omega (arith, (mapped).grid.2, used_before-le (needed) (length (needed))) in
    let rules-needed : (let y = c in let s = y in Needed (left_of s.args.outline.now) (needed) (listed_of (length (needed)) (numbered)) s.args.k.extent.subjects y.map_pairs-g.result.pairs c.needed_rules-needed.result) =
    let y = c in
    let s = y in
    let size : ℕ = length s.args.need.now in
    needed-listed (numbered) size (length (needed)) (needed-long) (few-pairs)
    (subst (λ (l : List ℕ). Needed (left_of s.args.outline.now) (needed) l
    s.args.k.extent.subjects y.map_pairs-g.result.pairs c.needed_rules-needed.result)
    (lent_rest size (numbered)) c.needed_rules-needed.ensures) in
    let choosy : ℕ =
    let n = c in
    let s = (n) in
    bit_and s.args.k.extent.choosy n.needed_rules-needed.result in
    let choosy-in : (let s = c in RulesIn (choosy) (drop (s.args.k.totals.authorizations * 24) s.args.records.now)) = λ r e. let n = c in
    let y = n in
    let s = y in
    let all : ℕ = s.args.k.extent.choosy in
    let rules : ℕ = n.needed_rules-needed.result in
    needed_in_lem s.requires.4.1.asked_outline.outline (mapped) (rules-needed) r
    (and-true (bit r all) (bit r rules) (sym (bit_and_lem all rules r) ∙ e)).1 in
    let first-whole : length (take 64 (drop 280 c.args.outline.now)) ≡ 64 = part_long 280 64 c.args.outline.now (omega (arith, c.requires.0.outlined)) in
    let l = c in
    let y = l in
    let s = y in (
      subst (λ (b : List ℕ). RulesIn (choosy) b) (sym (body_is)) (choosy-in),
      omega (arith, rights-whole),
      omega (arith, first-whole),
      map_small s.requires.4.1.asked_outline.outline (mapped),
    )

pub slice_bounds-lay_out-end : goal.slice_bounds-lay_out-end
slice_bounds-lay_out-end c =
    let s = c in
    omega (arith, s.requires.0.placed)

pub slice_bounds-lay_out-end-2 : goal.slice_bounds-lay_out-end-2
slice_bounds-lay_out-end-2 c =
    let first-whole : length (take 64 (drop 280 c.args.outline.now)) ≡ 64 = part_long 280 64 c.args.outline.now (omega (arith, c.requires.0.outlined)) in
    let first : List ℕ = c.lay_tables-t.new.first in
    let half : List ℕ =
    let s = c in
    put_back s.args.outline.now 280 64 (first) in
    let first-long : length (first) ≡ 64 =
    let s = c in
    c.lay_tables-t.auto.first ∙ first-whole in
    let half_long : length (half) ≡ 536 =
    let s = c in
    back-length s.args.outline.now 280 64 (first) (omega (arith, s.requires.0.outlined)) (first-long)
    ∙ s.requires.0.outlined in
    omega (arith, half_long)

pub lay_out-bits-requires : goal.lay_out-bits-requires
lay_out-bits-requires c =
    let body_is : (let from : ℕ = c.args.k.totals.authorizations * 24 in take (length c.args.records.now - from) (drop from c.args.records.now) ≡ drop from c.args.records.now) = lent_rest (c.args.k.totals.authorizations * 24) c.args.records.now in
    let needed : List ℕ = c.map_pairs-g.new.need in
    let numbered : List ℕ = c.map_pairs-g.new.numbers in
    let needed-long : (let s = c in length (needed) ≡ length s.args.need.now) = c.map_pairs-g.auto.need in
    let mapped : (let s = c in Mapped (chart_for (subjects_of s.args.coordinates.now) (objects_of s.args.coordinates.now) s.args.k.extent) (left_of s.args.outline.now) (rights_of s.args.coordinates.now) (needed) (numbered_of (length (needed)) (numbered)) (listed_of (length (needed)) (numbered)) c.map_pairs-g.result) =
    let s = c in
    c.map_pairs-g.ensures.0 (subjects_of s.args.coordinates.now)
    (objects_of s.args.coordinates.now) in
    let few-pairs : c.map_pairs-g.result.pairs ≤ length (needed) = omega (arith, (mapped).grid.2, used_before-le (needed) (length (needed))) in
    let rules-needed : (let y = c in let s = y in Needed (left_of s.args.outline.now) (needed) (listed_of (length (needed)) (numbered)) s.args.k.extent.subjects y.map_pairs-g.result.pairs c.needed_rules-needed.result) =
    let y = c in
    let s = y in
    let size : ℕ = length s.args.need.now in
    needed-listed (numbered) size (length (needed)) (needed-long) (few-pairs)
    (subst (λ (l : List ℕ). Needed (left_of s.args.outline.now) (needed) l
    s.args.k.extent.subjects y.map_pairs-g.result.pairs c.needed_rules-needed.result)
    (lent_rest size (numbered)) c.needed_rules-needed.ensures) in
    let lasts : (let n = c in let s = (n) in (r : ℕ) → bit r c.lasting_of-lasting.result ≡ bit r n.needed_rules-needed.result && lasting (rule_at (drop (s.args.k.totals.authorizations * 24) s.args.records.now) r).operator) = λ r. let n = c in
    let s = (n) in
    c.lasting_of-lasting.ensures r
    ∙ ap (λ (b : List ℕ). bit r n.needed_rules-needed.result && lasting (rule_at b r).operator)
    (body_is) in
    let first-whole : length (take 64 (drop 280 c.args.outline.now)) ≡ 64 = part_long 280 64 c.args.outline.now (omega (arith, c.requires.0.outlined)) in
    let first : List ℕ = c.lay_tables-t.new.first in
    let half : List ℕ =
    let s = c in
    put_back s.args.outline.now 280 64 (first) in
    let first-long : length (first) ≡ 64 =
    let s = c in
    c.lay_tables-t.auto.first ∙ first-whole in
    let half_long : length (half) ≡ 536 =
    let s = c in
    back-length s.args.outline.now 280 64 (first) (omega (arith, s.requires.0.outlined)) (first-long)
    ∙ s.requires.0.outlined in
    let starts-whole : length (take 64 (drop 344 (half))) ≡ 64 = part_long 344 64 (half) (omega (arith, half_long)) in
    let u = c in
    let f = u in
    let n = f in
    let y = n in
    let s = y in
    let l = f.lasting_of-lasting in (
      omega (
        arith,
        lasts-room s.requires.4.1.asked_outline (mapped) (rules-needed) l.result
            (lasts),
      ),
      omega (
        arith,
        part_long 0 256 s.args.coordinates.now (omega (arith, s.requires.0.placed)),
      ),
      omega (arith, starts-whole),
    )

pub offset_bounds-numbers-pair : goal.offset_bounds-numbers-pair
offset_bounds-numbers-pair c =
    let asked : ℕ =
    let k = c.args.k in
    pair_index k.extent.subjects k.object k.subject in
    let asked_is : c.pair_index-pair.result ≡ asked = c.pair_index-pair.ensures in
    let y = c in
    let s = y in
    omega (arith, asked_is, pair_few s.requires.4.1.asked_outline)

pub bounds-numbers-pair : goal.bounds-numbers-pair
bounds-numbers-pair c =
    let needed : List ℕ = c.map_pairs-g.new.need in
    let numbered : List ℕ = c.map_pairs-g.new.numbers in
    let needed-long : (let s = c in length (needed) ≡ length s.args.need.now) = c.map_pairs-g.auto.need in
    let numbered-long : (let s = c in length (numbered) ≡ length s.args.numbers.now) = c.map_pairs-g.auto.numbers in
    let mapped : (let s = c in Mapped (chart_for (subjects_of s.args.coordinates.now) (objects_of s.args.coordinates.now) s.args.k.extent) (left_of s.args.outline.now) (rights_of s.args.coordinates.now) (needed) (numbered_of (length (needed)) (numbered)) (listed_of (length (needed)) (numbered)) c.map_pairs-g.result) =
    let s = c in
    c.map_pairs-g.ensures.0 (subjects_of s.args.coordinates.now)
    (objects_of s.args.coordinates.now) in
    let asked : ℕ =
    let k = c.args.k in
    pair_index k.extent.subjects k.object k.subject in
    let asked_is : c.pair_index-pair.result ≡ asked = c.pair_index-pair.ensures in
    let pair-there : asked < length (needed) =
    let s = c in
    pair_in_lem s.requires.4.1.asked_outline (needed) (mapped).size in
    let y = c in
    let s = y in
    omega (arith, asked_is, pair-there, needed-long, numbered-long, s.requires.3)

pub overflow_cast-place : goal.overflow_cast-place
overflow_cast-place c =
    let needed : List ℕ = c.map_pairs-g.new.need in
    let numbered : List ℕ = c.map_pairs-g.new.numbers in
    let mapped : (let s = c in Mapped (chart_for (subjects_of s.args.coordinates.now) (objects_of s.args.coordinates.now) s.args.k.extent) (left_of s.args.outline.now) (rights_of s.args.coordinates.now) (needed) (numbered_of (length (needed)) (numbered)) (listed_of (length (needed)) (numbered)) c.map_pairs-g.result) =
    let s = c in
    c.map_pairs-g.ensures.0 (subjects_of s.args.coordinates.now)
    (objects_of s.args.coordinates.now) in
    let asked : ℕ =
    let k = c.args.k in
    pair_index k.extent.subjects k.object k.subject in
    let asked_is : c.pair_index-pair.result ≡ asked = c.pair_index-pair.ensures in
    let pair-there : asked < length (needed) =
    let s = c in
    pair_in_lem s.requires.4.1.asked_outline (needed) (mapped).size in
    let y = c in
    let s = y in
    omega (
      arith,
      ap (λ (j : ℕ). get_or (numbered) j 0) (asked_is),
      get_or-take (length (needed)) (numbered) (asked) 0 (pair-there),
      (mapped).numbers.1 (asked) (pair-there),
      used_before-le (needed) (asked),
      pair_few s.requires.4.1.asked_outline,
    )

pub walk_start-requires : goal.walk_start-requires
walk_start-requires c =
    let body_is : (let from : ℕ = c.args.k.totals.authorizations * 24 in take (length c.args.records.now - from) (drop from c.args.records.now) ≡ drop from c.args.records.now) = lent_rest (c.args.k.totals.authorizations * 24) c.args.records.now in
    let needed : List ℕ = c.map_pairs-g.new.need in
    let numbered : List ℕ = c.map_pairs-g.new.numbers in
    let needed-long : (let s = c in length (needed) ≡ length s.args.need.now) = c.map_pairs-g.auto.need in
    let mapped : (let s = c in Mapped (chart_for (subjects_of s.args.coordinates.now) (objects_of s.args.coordinates.now) s.args.k.extent) (left_of s.args.outline.now) (rights_of s.args.coordinates.now) (needed) (numbered_of (length (needed)) (numbered)) (listed_of (length (needed)) (numbered)) c.map_pairs-g.result) =
    let s = c in
    c.map_pairs-g.ensures.0 (subjects_of s.args.coordinates.now)
    (objects_of s.args.coordinates.now) in
    let few-pairs : c.map_pairs-g.result.pairs ≤ length (needed) = omega (arith, (mapped).grid.2, used_before-le (needed) (length (needed))) in
    let rules-needed : (let y = c in let s = y in Needed (left_of s.args.outline.now) (needed) (listed_of (length (needed)) (numbered)) s.args.k.extent.subjects y.map_pairs-g.result.pairs c.needed_rules-needed.result) =
    let y = c in
    let s = y in
    let size : ℕ = length s.args.need.now in
    needed-listed (numbered) size (length (needed)) (needed-long) (few-pairs)
    (subst (λ (l : List ℕ). Needed (left_of s.args.outline.now) (needed) l
    s.args.k.extent.subjects y.map_pairs-g.result.pairs c.needed_rules-needed.result)
    (lent_rest size (numbered)) c.needed_rules-needed.ensures) in
    let lasts : (let n = c in let s = (n) in (r : ℕ) → bit r c.lasting_of-lasting.result ≡ bit r n.needed_rules-needed.result && lasting (rule_at (drop (s.args.k.totals.authorizations * 24) s.args.records.now) r).operator) = λ r. let n = c in
    let s = (n) in
    c.lasting_of-lasting.ensures r
    ∙ ap (λ (b : List ℕ). bit r n.needed_rules-needed.result && lasting (rule_at b r).operator)
    (body_is) in
    let f = c in
    let n = f in
    let y = n in
    let s = y in
    let l = f.lasting_of-lasting in
    subst (λ (b : List ℕ). RulesIn l.result b) (sym (body_is))
    (lasts_in s.requires.4.1.asked_outline (mapped) (rules-needed) l.result
    (lasts))

pub with_lines-requires : goal.with_lines-requires
with_lines-requires c =
    let body_is : (let from : ℕ = c.args.k.totals.authorizations * 24 in take (length c.args.records.now - from) (drop from c.args.records.now) ≡ drop from c.args.records.now) = lent_rest (c.args.k.totals.authorizations * 24) c.args.records.now in
    let needed : List ℕ = c.map_pairs-g.new.need in
    let numbered : List ℕ = c.map_pairs-g.new.numbers in
    let needed-long : (let s = c in length (needed) ≡ length s.args.need.now) = c.map_pairs-g.auto.need in
    let numbered-long : (let s = c in length (numbered) ≡ length s.args.numbers.now) = c.map_pairs-g.auto.numbers in
    let mapped : (let s = c in Mapped (chart_for (subjects_of s.args.coordinates.now) (objects_of s.args.coordinates.now) s.args.k.extent) (left_of s.args.outline.now) (rights_of s.args.coordinates.now) (needed) (numbered_of (length (needed)) (numbered)) (listed_of (length (needed)) (numbered)) c.map_pairs-g.result) =
    let s = c in
    c.map_pairs-g.ensures.0 (subjects_of s.args.coordinates.now)
    (objects_of s.args.coordinates.now) in
    let few-pairs : c.map_pairs-g.result.pairs ≤ length (needed) = omega (arith, (mapped).grid.2, used_before-le (needed) (length (needed))) in
    let rules-needed : (let y = c in let s = y in Needed (left_of s.args.outline.now) (needed) (listed_of (length (needed)) (numbered)) s.args.k.extent.subjects y.map_pairs-g.result.pairs c.needed_rules-needed.result) =
    let y = c in
    let s = y in
    let size : ℕ = length s.args.need.now in
    needed-listed (numbered) size (length (needed)) (needed-long) (few-pairs)
    (subst (λ (l : List ℕ). Needed (left_of s.args.outline.now) (needed) l
    s.args.k.extent.subjects y.map_pairs-g.result.pairs c.needed_rules-needed.result)
    (lent_rest size (numbered)) c.needed_rules-needed.ensures) in
    let lasts : (let n = c in let s = (n) in (r : ℕ) → bit r c.lasting_of-lasting.result ≡ bit r n.needed_rules-needed.result && lasting (rule_at (drop (s.args.k.totals.authorizations * 24) s.args.records.now) r).operator) = λ r. let n = c in
    let s = (n) in
    c.lasting_of-lasting.ensures r
    ∙ ap (λ (b : List ℕ). bit r n.needed_rules-needed.result && lasting (rule_at b r).operator)
    (body_is) in
    let choosy : ℕ =
    let n = c in
    let s = (n) in
    bit_and s.args.k.extent.choosy n.needed_rules-needed.result in
    let first-whole : length (take 64 (drop 280 c.args.outline.now)) ≡ 64 = part_long 280 64 c.args.outline.now (omega (arith, c.requires.0.outlined)) in
    let first : List ℕ = c.lay_tables-t.new.first in
    let half : List ℕ =
    let s = c in
    put_back s.args.outline.now 280 64 (first) in
    let first-long : length (first) ≡ 64 =
    let s = c in
    c.lay_tables-t.auto.first ∙ first-whole in
    let half_long : length (half) ≡ 536 =
    let s = c in
    back-length s.args.outline.now 280 64 (first) (omega (arith, s.requires.0.outlined)) (first-long)
    ∙ s.requires.0.outlined in
    let arranged : (let l = c in let y = l in let s = y in TablesArranged (drop (s.args.k.totals.authorizations * 24) s.args.records.now) (rights_of s.args.coordinates.now) (choosy) y.map_pairs-g.result (first) c.lay_tables-t.result) =
    let l = c in
    let y = l in
    let s = y in
    subst (λ (b : List ℕ). TablesArranged b (rights_of s.args.coordinates.now) (choosy)
    y.map_pairs-g.result (first) c.lay_tables-t.result) (body_is) c.lay_tables-t.ensures.0 in
    let starts-whole : length (take 64 (drop 344 (half))) ≡ 64 = part_long 344 64 (half) (omega (arith, half_long)) in
    let starts : List ℕ = c.lay_out-bits.new.first in
    let starts-long : length (starts) ≡ 64 = c.lay_out-bits.auto.first ∙ starts-whole in
    let full : List ℕ = put_back (half) 344 64 (starts) in
    let full-long : length (full) ≡ 536 =
    let u = c in
    let s = c in
    laid_long s.args.outline.now (first) (starts) s.requires.0.outlined (first-long)
    (starts-long) in
    let full-front : (let s = c in take 280 (full) ≡ take 280 s.args.outline.now) =
    let u = c in
    let s = c in
    laid_front s.args.outline.now (first) (starts) s.requires.0.outlined (first-long)
    (starts-long) in
    let full-first : first_of (full) ≡ first =
    let u = c in
    let s = c in
    laid_first s.args.outline.now (first) (starts) s.requires.0.outlined (first-long)
    (starts-long) in
    let full-starts : starts_of (full) ≡ starts =
    let u = c in
    let s = c in
    laid_starts s.args.outline.now (first) (starts) s.requires.0.outlined (first-long)
    (starts-long) in
    let asked : ℕ =
    let k = c.args.k in
    pair_index k.extent.subjects k.object k.subject in
    let asked_is : c.pair_index-pair.result ≡ asked = c.pair_index-pair.ensures in
    let pair-there : asked < length (needed) =
    let s = c in
    pair_in_lem s.requires.4.1.asked_outline (needed) (mapped).size in
    let history : (let f = c in let s = (f) in WalkStart s.args.k.asked.instant (drop (s.args.k.totals.authorizations * 24) s.args.records.now) f.lasting_of-lasting.result c.walk_start.result) =
    let f = c in
    let s = (f) in
    subst (λ (b : List ℕ). WalkStart s.args.k.asked.instant b
    f.lasting_of-lasting.result c.walk_start.result) (body_is) c.walk_start.ensures in
    let going : WindowWalk =
    let v = c in
    let h = c in
    let u = h in
    let f = u in
    let n = f in
    let y = n in
    let s = y in
    let k = s.args.k in
    let rules : ℕ = n.needed_rules-needed.result in
    record {
      chosen = record {
        authorizations = k.totals.authorizations;
        rules = k.totals.rules;
        needed = rules;
      };
      offset = k.totals.authorizations * 24;
      lasting = f.lasting_of-lasting.result;
      bits = h.lay_out-bits.result;
      query = record {
        own = k.own;
        place = record {
          pair = get_or (numbered) (y).pair_index-pair.result 0;
          point = record { subject = k.subject; mode = k.asked.access.mode - 1; object = k.object };
        };
        from = v.walk_start.result;
        to = c.last_asked.result;
        listing = c.is_none.result;
      };
      frame = record {
        grid = y.map_pairs-g.result;
        width = 0;
        fields = u.lay_tables-t.result.fields;
        choosy = bit_and k.extent.choosy rules;
        tables = u.lay_tables-t.result.tables;
        wide = u.lay_tables-t.result.wide;
      };
    } in
    let ground : (let h = c in let y = (h) in let s = y in (base : Base) → TaskIn s.args.records.now s.args.outline.now s.args.coordinates.now s.args.k base → WalkGivenIn s.args.records.now (full) s.args.coordinates.now (needed) (numbered) (going) base s.args.k.asked.access) = λ base b. let v = c in
    let h = c in
    let u = h in
    let l = u in
    let n = l in
    let y = n in
    let s = y in
    let k = s.args.k in
    let e = ap (λ (j : ℕ). get_or (numbered) j 0) (asked_is)
    ∙ sym (get_or-take (length (needed)) (numbered) (asked) 0 (pair-there)) in
    ground_moved (front_left s.args.outline.now (full) (full-front))
    (front_feed s.args.outline.now (full) (full-front)) (full-first) (full-starts)
    (record {
      holder = b.holder;
      tabled = outline_tabled b.asked_outline (mapped) (rules-needed) l.lasting_of-lasting.result
          h.lay_out-bits.result (going).query k.asked.instant
          (λ r h. ap (λ (j : ℕ). bit r (get_or (needed) j 0)) (sym (asked_is))
          ∙ y.map_pairs-g.ensures.1 r h) (record {
            chosen = refl;
            arranged = arranged;
            lasts_is = lasts;
            total_is = omega (arith, h.lay_out-bits.ensures.0);
            starts_laid = h.lay_out-bits.ensures.1;
          }) refl
          (λ i. record {
            pair = e i;
            point = record { subject = k.subject; mode = k.asked.access.mode - 1; object = k.object };
          }) c.last_asked.ensures c.is_none.ensures (history);
      bodies = b.bodies;
    }) in
    let z = c in
    let h = z in
    let y = (h) in
    let s = y in (
      record {
        bodied = s.requires.0.recorded;
        outlined = full-long;
        placed = s.requires.0.placed;
        numbered = omega (arith, s.requires.3, needed-long, numbered-long);
      },
      (s.requires.4.0, s.args.k.asked.access, ground s.requires.4.0 s.requires.4.1),
    )

pub shape_of-outline : goal.shape_of-outline
shape_of-outline c =
    let first-whole : length (take 64 (drop 280 c.args.outline.now)) ≡ 64 = part_long 280 64 c.args.outline.now (omega (arith, c.requires.0.outlined)) in
    let first : List ℕ = c.lay_tables-t.new.first in
    let half : List ℕ =
    let s = c in
    put_back s.args.outline.now 280 64 (first) in
    let first-long : length (first) ≡ 64 =
    let s = c in
    c.lay_tables-t.auto.first ∙ first-whole in
    let half_long : length (half) ≡ 536 =
    let s = c in
    back-length s.args.outline.now 280 64 (first) (omega (arith, s.requires.0.outlined)) (first-long)
    ∙ s.requires.0.outlined in
    let starts-whole : length (take 64 (drop 344 (half))) ≡ 64 = part_long 344 64 (half) (omega (arith, half_long)) in
    let starts : List ℕ = c.lay_out-bits.new.first in
    let starts-long : length (starts) ≡ 64 = c.lay_out-bits.auto.first ∙ starts-whole in
    let full : List ℕ = put_back (half) 344 64 (starts) in
    let full-long : length (full) ≡ 536 =
    let u = c in
    let s = c in
    laid_long s.args.outline.now (first) (starts) s.requires.0.outlined (first-long)
    (starts-long) in
    let t = c in
    let h = t in
    let s = h in
    t.with_lines.auto.outline ∙ full-long
    ∙ sym s.requires.0.outlined

pub shape_of-need : goal.shape_of-need
shape_of-need c =
    let needed : List ℕ = c.map_pairs-g.new.need in
    let needed-long : (let s = c in length (needed) ≡ length s.args.need.now) = c.map_pairs-g.auto.need in
    let y = c in
    needed-long

pub shape_of-numbers : goal.shape_of-numbers
shape_of-numbers c =
    let numbered : List ℕ = c.map_pairs-g.new.numbers in
    let numbered-long : (let s = c in length (numbered) ≡ length s.args.numbers.now) = c.map_pairs-g.auto.numbers in
    let t = c in
    let y = t in
    t.with_lines.auto.numbers ∙ numbered-long

pub returns : goal.returns
returns c =
    let body_is : (let from : ℕ = c.args.k.totals.authorizations * 24 in take (length c.args.records.now - from) (drop from c.args.records.now) ≡ drop from c.args.records.now) = lent_rest (c.args.k.totals.authorizations * 24) c.args.records.now in
    let needed : List ℕ = c.map_pairs-g.new.need in
    let numbered : List ℕ = c.map_pairs-g.new.numbers in
    let needed-long : (let s = c in length (needed) ≡ length s.args.need.now) = c.map_pairs-g.auto.need in
    let mapped : (let s = c in Mapped (chart_for (subjects_of s.args.coordinates.now) (objects_of s.args.coordinates.now) s.args.k.extent) (left_of s.args.outline.now) (rights_of s.args.coordinates.now) (needed) (numbered_of (length (needed)) (numbered)) (listed_of (length (needed)) (numbered)) c.map_pairs-g.result) =
    let s = c in
    c.map_pairs-g.ensures.0 (subjects_of s.args.coordinates.now)
    (objects_of s.args.coordinates.now) in
    let few-pairs : c.map_pairs-g.result.pairs ≤ length (needed) = omega (arith, (mapped).grid.2, used_before-le (needed) (length (needed))) in
    let rules-needed : (let y = c in let s = y in Needed (left_of s.args.outline.now) (needed) (listed_of (length (needed)) (numbered)) s.args.k.extent.subjects y.map_pairs-g.result.pairs c.needed_rules-needed.result) =
    let y = c in
    let s = y in
    let size : ℕ = length s.args.need.now in
    needed-listed (numbered) size (length (needed)) (needed-long) (few-pairs)
    (subst (λ (l : List ℕ). Needed (left_of s.args.outline.now) (needed) l
    s.args.k.extent.subjects y.map_pairs-g.result.pairs c.needed_rules-needed.result)
    (lent_rest size (numbered)) c.needed_rules-needed.ensures) in
    let lasts : (let n = c in let s = (n) in (r : ℕ) → bit r c.lasting_of-lasting.result ≡ bit r n.needed_rules-needed.result && lasting (rule_at (drop (s.args.k.totals.authorizations * 24) s.args.records.now) r).operator) = λ r. let n = c in
    let s = (n) in
    c.lasting_of-lasting.ensures r
    ∙ ap (λ (b : List ℕ). bit r n.needed_rules-needed.result && lasting (rule_at b r).operator)
    (body_is) in
    let choosy : ℕ =
    let n = c in
    let s = (n) in
    bit_and s.args.k.extent.choosy n.needed_rules-needed.result in
    let first-whole : length (take 64 (drop 280 c.args.outline.now)) ≡ 64 = part_long 280 64 c.args.outline.now (omega (arith, c.requires.0.outlined)) in
    let first : List ℕ = c.lay_tables-t.new.first in
    let half : List ℕ =
    let s = c in
    put_back s.args.outline.now 280 64 (first) in
    let first-long : length (first) ≡ 64 =
    let s = c in
    c.lay_tables-t.auto.first ∙ first-whole in
    let half_long : length (half) ≡ 536 =
    let s = c in
    back-length s.args.outline.now 280 64 (first) (omega (arith, s.requires.0.outlined)) (first-long)
    ∙ s.requires.0.outlined in
    let arranged : (let l = c in let y = l in let s = y in TablesArranged (drop (s.args.k.totals.authorizations * 24) s.args.records.now) (rights_of s.args.coordinates.now) (choosy) y.map_pairs-g.result (first) c.lay_tables-t.result) =
    let l = c in
    let y = l in
    let s = y in
    subst (λ (b : List ℕ). TablesArranged b (rights_of s.args.coordinates.now) (choosy)
    y.map_pairs-g.result (first) c.lay_tables-t.result) (body_is) c.lay_tables-t.ensures.0 in
    let starts-whole : length (take 64 (drop 344 (half))) ≡ 64 = part_long 344 64 (half) (omega (arith, half_long)) in
    let starts : List ℕ = c.lay_out-bits.new.first in
    let starts-long : length (starts) ≡ 64 = c.lay_out-bits.auto.first ∙ starts-whole in
    let full : List ℕ = put_back (half) 344 64 (starts) in
    let full-front : (let s = c in take 280 (full) ≡ take 280 s.args.outline.now) =
    let u = c in
    let s = c in
    laid_front s.args.outline.now (first) (starts) s.requires.0.outlined (first-long)
    (starts-long) in
    let full-first : first_of (full) ≡ first =
    let u = c in
    let s = c in
    laid_first s.args.outline.now (first) (starts) s.requires.0.outlined (first-long)
    (starts-long) in
    let full-starts : starts_of (full) ≡ starts =
    let u = c in
    let s = c in
    laid_starts s.args.outline.now (first) (starts) s.requires.0.outlined (first-long)
    (starts-long) in
    let asked : ℕ =
    let k = c.args.k in
    pair_index k.extent.subjects k.object k.subject in
    let asked_is : c.pair_index-pair.result ≡ asked = c.pair_index-pair.ensures in
    let pair-there : asked < length (needed) =
    let s = c in
    pair_in_lem s.requires.4.1.asked_outline (needed) (mapped).size in
    let history : (let f = c in let s = (f) in WalkStart s.args.k.asked.instant (drop (s.args.k.totals.authorizations * 24) s.args.records.now) f.lasting_of-lasting.result c.walk_start.result) =
    let f = c in
    let s = (f) in
    subst (λ (b : List ℕ). WalkStart s.args.k.asked.instant b
    f.lasting_of-lasting.result c.walk_start.result) (body_is) c.walk_start.ensures in
    let going : WindowWalk =
    let v = c in
    let h = c in
    let u = h in
    let f = u in
    let n = f in
    let y = n in
    let s = y in
    let k = s.args.k in
    let rules : ℕ = n.needed_rules-needed.result in
    record {
      chosen = record {
        authorizations = k.totals.authorizations;
        rules = k.totals.rules;
        needed = rules;
      };
      offset = k.totals.authorizations * 24;
      lasting = f.lasting_of-lasting.result;
      bits = h.lay_out-bits.result;
      query = record {
        own = k.own;
        place = record {
          pair = get_or (numbered) (y).pair_index-pair.result 0;
          point = record { subject = k.subject; mode = k.asked.access.mode - 1; object = k.object };
        };
        from = v.walk_start.result;
        to = c.last_asked.result;
        listing = c.is_none.result;
      };
      frame = record {
        grid = y.map_pairs-g.result;
        width = 0;
        fields = u.lay_tables-t.result.fields;
        choosy = bit_and k.extent.choosy rules;
        tables = u.lay_tables-t.result.tables;
        wide = u.lay_tables-t.result.wide;
      };
    } in
    let ground : (let h = c in let y = (h) in let s = y in (base : Base) → TaskIn s.args.records.now s.args.outline.now s.args.coordinates.now s.args.k base → WalkGivenIn s.args.records.now (full) s.args.coordinates.now (needed) (numbered) (going) base s.args.k.asked.access) = λ base b. let v = c in
    let h = c in
    let u = h in
    let l = u in
    let n = l in
    let y = n in
    let s = y in
    let k = s.args.k in
    let e = ap (λ (j : ℕ). get_or (numbered) j 0) (asked_is)
    ∙ sym (get_or-take (length (needed)) (numbered) (asked) 0 (pair-there)) in
    ground_moved (front_left s.args.outline.now (full) (full-front))
    (front_feed s.args.outline.now (full) (full-front)) (full-first) (full-starts)
    (record {
      holder = b.holder;
      tabled = outline_tabled b.asked_outline (mapped) (rules-needed) l.lasting_of-lasting.result
          h.lay_out-bits.result (going).query k.asked.instant
          (λ r h. ap (λ (j : ℕ). bit r (get_or (needed) j 0)) (sym (asked_is))
          ∙ y.map_pairs-g.ensures.1 r h) (record {
            chosen = refl;
            arranged = arranged;
            lasts_is = lasts;
            total_is = omega (arith, h.lay_out-bits.ensures.0);
            starts_laid = h.lay_out-bits.ensures.1;
          }) refl
          (λ i. record {
            pair = e i;
            point = record { subject = k.subject; mode = k.asked.access.mode - 1; object = k.object };
          }) c.last_asked.ensures c.is_none.ensures (history);
      bodies = b.bodies;
    }) in
    let t = c in
    let z = t in
    let v = z in
    let h = z in
    let s = h in
    let k = s.args.k in
    let w = t.with_lines in
    λ base b. finds_answers k.asked.instant (going).query base
    k.asked.access _ _ _ z.last_asked.ensures
    (history).all c.is_none.ensures
    (w.ensures base k.asked.access (ground base b))
