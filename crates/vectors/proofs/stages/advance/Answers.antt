use Rattle.std.proofs.Common.{List, refl, subst, sym, ℕ, ◌∙◌}
use borrow.Author.Rules.{part_to_end}
use Rattle.serving.specs.LineTurns.{Turned}
use Rattle.vectors.proofs.LineWalks.{marked_long, leads-opens, leads-asks, leads_other}
use Rattle.vectors.proofs.stages.advance.Goals as goal

pub returns-then-marked : goal.returns-then-marked
returns-then-marked c = (
  leads-opens c.args.s.now c.args.line.now _ _ c.requires.0
      (sym c.marked.ensures ∙ c.if-marked.true) c.create.ensures.1,
  refl,
)

pub slice_bounds-serve_line-count : goal.slice_bounds-serve_line-count
slice_bounds-serve_line-count c = marked_long 62 _ (sym c.marked-2.ensures ∙ c.if-marked-2.true)

pub slice_bounds-serve_line-start : goal.slice_bounds-serve_line-start
slice_bounds-serve_line-start c = marked_long 62 _ (sym c.marked-2.ensures ∙ c.if-marked-2.true)

pub returns-then-marked-2 : goal.returns-then-marked-2
returns-then-marked-2 c =
    let line = c.args.line.now in
    let t = c.serve_line in (
      leads-asks c.args.s.now line
          (sym c.marked.ensures ∙ c.if-marked.false)
          (sym c.marked-2.ensures ∙ c.if-marked-2.true)
          (subst (λ (l : List ℕ). Turned c.args.s.now l t.result t.new.out t.new.s)
          (part_to_end line 2) t.ensures.0),
      t.ensures.1,
    )

pub returns : goal.returns
returns c = (
  leads_other c.args.s.now c.args.line.now _ c.requires.0
      (sym c.marked.ensures ∙ c.if-marked.false)
      (sym c.marked-2.ensures ∙ c.if-marked-2.false),
  refl,
)
