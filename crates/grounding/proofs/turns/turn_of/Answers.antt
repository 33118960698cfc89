use native.Mathlib.Omega.{arith}
use mathlib.Core.Path.{◌≡◌, sym, ap, ap₂, ◌∙◌}
use mathlib.Core.Bool.{Bool}
use lib.Dec.{eqb}
use lib.ListN.{get_or}
use lib.Seq.{get_or-take, length-take-le}
use Prim.Native.Nat.{ℕ, ◌+◌, ◌*◌, ◌/◌, ◌%◌, ◌<◌}
use Rattle.foundation.specs.Tests.{pick}
use Rattle.model.specs.declared.Rule.{Rule}
use Rattle.sections.specs.Sections.{feed_of, first_of, sides_of, rights_of}
use Rattle.places.specs.Regions.{size_of}
use Rattle.tables.specs.TableLayout.{region_at, whole_region}
use Rattle.tables.specs.TableGiving.{shapes_of}
use Rattle.sections.proofs.SectionWrites.{in_part, part_long}
use Rattle.grounding.specs.RuleTurns.{takers_for}
use Rattle.grounding.proofs.turns.turn_of.Goals as goal

pub region_at-requires : goal.region_at-requires
region_at-requires c =
    let s = c in
    (s.requires.0, omega (arith, part_long 256 256 s.args.coordinates.now (omega (arith, s.requires.8))))

pub table_start-requires : goal.table_start-requires
table_start-requires c =
    let b = c in
    let s = b in (
      s.requires.0,
      s.requires.4,
      omega (arith, part_long 280 64 s.args.outline.now (omega (arith, s.requires.7))),
      λ e. s.requires.5 (sym b.has_bit-own.ensures ∙ e),
    )

pub table_region-requires : goal.table_region-requires
table_region-requires c =
    let s = c in
    (s.requires.0, omega (arith, part_long 256 256 s.args.coordinates.now (omega (arith, s.requires.8))))

pub region_at-requires-2 : goal.region_at-requires-2
region_at-requires-2 c =
    let early = c in
    let s = early in
    (s.requires.0, omega (arith, length-take-le 256 s.args.coordinates.now (omega (arith, s.requires.8))))

pub given_to-requires : goal.given_to-requires
given_to-requires c =
    let early = c in
    early.requires.2

pub words_for-requires : goal.words_for-requires
words_for-requires c =
    let early = c in
    early.requires.6

pub returns : goal.returns
returns c =
    let d = c in
    let b = d in
    let s = b in
    let a = s.args in
    let outline = a.outline.now in
    let coordinates = a.coordinates.now in
    let h : 4 * a.r + 3 < 256 = omega (arith, s.requires.0) in
    let z : get_or coordinates (4 * a.r + 3) 0 ≡ get_or (sides_of coordinates) (4 * a.r + 3) 0 =
    sym (get_or-take 256 coordinates (4 * a.r + 3) 0 h) in
    let fed : get_or outline (216 + a.r) 0 ≡ get_or (feed_of outline) (64 + a.r) 0 =
    ap (λ (n : ℕ). get_or outline n 0) (omega arith)
    ∙ sym (in_part 152 128 outline (64 + a.r) (omega (arith, s.requires.0))) in
    λ k. record {
      rule = a.r;
      operator = ap (λ (q : Rule). q.operator) b.rule_at-q.ensures k;
      active = sym (in_part 408 64 outline a.r s.requires.0) k;
      right = d.region_at.ensures k;
      denied = eqb (z k / 2) 1;
      first = (d.table_start.ensures
          ∙ ap₂ (λ (x : Bool) (n : ℕ). pick x (get_or (first_of outline) a.r 0)
          (pick (eqb (n / 2) 1) (size_of a.f.grid whole_region) 0)) b.has_bit-own.ensures z) k;
      table = (d.table_region.ensures
          ∙ ap (λ (x : Bool). pick x (region_at (shapes_of a.f (rights_of coordinates)) a.r) whole_region)
          b.has_bit-own.ensures) k;
      left = d.region_at-2.ensures k;
      sign = (c.from.ensures ∙ ap (λ (n : ℕ). n % 2) z) k;
      bits = sym (in_part 344 64 outline a.r s.requires.0) k;
      takers = (c.given_to.ensures
          ∙ ap₂ (λ (q : Rule) (n : ℕ). takers_for a.f a.body.now q n)
          b.rule_at-q.ensures fed) k;
      words = c.words_for.ensures k;
    }
