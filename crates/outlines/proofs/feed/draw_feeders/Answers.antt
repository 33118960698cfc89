use borrow.Author.Rules.{rules}
use native.Mathlib.Omega.{arith}
use mathlib.Core.Path.{refl, sym, ap, ◌∙◌}
use Prim.Native.Nat.{ℕ, ◌+◌, ◌<◌}
use lib.Dec.{eqb}
use lib.Seq.{length-take-le}
use Rattle.foundation.specs.Tests.{cases, true_eq, false_eq, ne_false}
use Rattle.encoding.specs.Format.{rules_in, rule_at}
use Rattle.sections.proofs.SectionWrites.{part_long, part-word, same_front}
use Rattle.outlines.specs.Feed.{feeders_of}
use Rattle.outlines.proofs.feed.draw_feeders.Goals as goal

pub loop-i-init : goal.loop-i-init
loop-i-init c =
    (search rules, (λ i h. absurd (omega arith)), (λ k h. refl), refl, refl)

pub feeders-f-requires : goal.feeders-f-requires
feeders-f-requires c =
    let l = c.loop-i in
    let b = c in
    let s = b.args.coordinates.now in
    let p = b.requires.2 in (
      omega arith,
      rw l.invariant.3 b.requires.0,
      length-take-le 152 l.outline (omega (arith, l.invariant.4, b.requires.1)),
      omega (arith, part_long 256 256 s (omega (arith, p))),
      omega (arith, length-take-le 256 s (omega (arith, p))),
    )

pub put_word-requires : goal.put_word-requires
put_word-requires c =
    let l = c in
    let p = l.requires in
    omega (arith, l.loop-i.invariant.4, p.0.well_formed.few, p.1)

pub loop-i-preserved : goal.loop-i-preserved
loop-i-preserved c =
    let i = c in
    let j = i in
    let b = j in
    let n = b.args.n in
    let body = b.args.body.now in
    let l = j.loop-i in
    let f = c.feeders-f in
    let p = c.put_word in
    let few : l.i < 64 = omega (arith, i.loop-i-test.true, b.requires.0.well_formed.few) in
    let w = part-word 152 128 l.outline p.new.table l.i f.result (omega arith) p.ensures in (
      search rules,
      (λ k h. cases (eqb k l.i)
          (λ e. w k ∙ rw e (f.ensures
          ∙ ap (λ (q : ℕ). feeders_of (rules_in n body) (rule_at body q)) (sym (true_eq k l.i e))))
          (λ e. let z = false_eq k l.i e in w k ∙ rw e (l.invariant.1 k (omega arith)))),
      (λ k h. w k ∙ rw (ne_false k l.i (λ z. omega arith)) (l.invariant.2 k (omega arith))),
      same_front l.outline p.new.table p.auto.table 152
          (λ k h. p.ensures k ∙ rw (ne_false k (152 + l.i) (λ z. omega arith))) ∙ l.invariant.3,
      p.auto.table ∙ l.invariant.4,
    )

pub returns : goal.returns
returns c =
    let l = c.loop-i in
    (λ k h. l.invariant.1 k (omega arith), (λ k h. l.invariant.2 k (omega arith)), l.invariant.3)
