use borrow.Author.Rules.{rules}
use native.Mathlib.Omega.{arith}
use mathlib.Core.Path.{refl, sym, subst}
use mathlib.Core.List.{List}
use Prim.Native.Nat.{ℕ, ◌*◌}
use Rattle.model.specs.Encoding.{decode}
use Rattle.sections.specs.Sections.{left_of, feed_of, sides_of, rights_of, subjects_of, objects_of}
use Rattle.foundation.specs.Lists.{lent_rest}
use Rattle.outlines.specs.Coordinates.{WellFormed}
use Rattle.queries.specs.Drawing.{RulesDrawn, chart_for}
use Rattle.queries.proofs.AskingFacts.{zeros-blank}
use Rattle.queries.proofs.outlining.with_outline.Goals as goal

pub overflow_mul-from : goal.overflow_mul-from
overflow_mul-from c =
    let s = c in
    omega (arith, s.requires.1.1.few)

pub slice_bounds-draw-start : goal.slice_bounds-draw-start
slice_bounds-draw-start c = c.args.base.now.there

pub draw-e-requires : goal.draw-e-requires
draw-e-requires c =
    let s = c in (
      subst (λ (b : List ℕ). WellFormed s.args.base.now.totals.rules b)
          (sym (lent_rest (s.args.base.now.totals.authorizations * 24) s.args.base.now.records.now))
          s.requires.1.1.well_formed,
      zeros-blank 536,
      zeros-blank 1666,
      search rules,
      refl {a = 1666},
      s.args.base.now.sound,
    )

pub with_drawn-requires : goal.with_drawn-requires
with_drawn-requires c =
    let p = c in
    let s = p in
    let d = p.draw-e in
    let o : List ℕ = d.new.outline in
    let p : List ℕ = d.new.coordinates in (
      record { recorded = s.args.base.now.there; outlined = d.auto.outline; placed = d.auto.coordinates },
      subst (λ (b : List ℕ). RulesDrawn (decode s.args.base.now.bytes.now) s.args.base.now.totals.rules
          (chart_for (subjects_of p) (objects_of p) d.result) b (left_of o) (feed_of o) (sides_of p) (rights_of p)
          d.result.choosy) (lent_rest (s.args.base.now.totals.authorizations * 24) s.args.base.now.records.now)
          d.ensures,
      s.requires.0,
      s.requires.1,
    )

pub returns : goal.returns
returns c =
    let w = c in
    w.with_drawn.ensures
