use native.Mathlib.Omega.{arith}
use mathlib.Core.Path.{refl, ◌∙◌}
use mathlib.Core.List.{List}
use Prim.Native.Nat.{ℕ}
use Rattle.model.specs.EncodingFacts.{sound-length}
use Rattle.queries.proofs.AskingFacts.{zeros-blank}
use Rattle.lookup.proofs.LentBodies.{rules_begin}
use Rattle.queries.proofs.Handing.{rules_formed, handed_on}
use Rattle.queries.proofs.prepared.prepare.Goals as goal

pub counts_of-c-requires : goal.counts_of-c-requires
counts_of-c-requires c =
    let d = c in omega (arith, sound-length d.args.s.now d.requires.0)

pub slice_bounds-draw_words-count : goal.slice_bounds-draw_words-count
slice_bounds-draw_words-count c =
    let d = c in
    let n = c.counts_of-c in
    let l = c.rules_at-at in
    rules_begin d.args.s.now n.result d.requires.0 n.ensures l.result l.ensures

pub slice_bounds-draw_words-start : goal.slice_bounds-draw_words-start
slice_bounds-draw_words-start c =
    let d = c in
    let n = c.counts_of-c in
    let l = c.rules_at-at in
    rules_begin d.args.s.now n.result d.requires.0 n.ensures l.result l.ensures

pub draw_words-requires : goal.draw_words-requires
draw_words-requires c =
    let d = c in
    let n = c.counts_of-c in
    let l = c.rules_at-at in (
      rules_formed d.args.s.now d.requires.0 n.result n.ensures l.result l.ensures,
      d.requires.2,
      zeros-blank 1672,
      d.requires.1,
      refl {a = 1672},
      d.requires.0,
    )

pub returns : goal.returns
returns c =
    let at = c in
    let d = at in
    let n = at.counts_of-c in
    let l = at.rules_at-at in
    let w = c.draw_words in
    let s : List ℕ = d.args.s.now in
    record {
      size = w.auto.words ∙ d.requires.1;
      drawn = handed_on s w.new.words n.result n.ensures l.result l.ensures
          w.ensures;
    }
