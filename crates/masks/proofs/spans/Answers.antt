use native.Mathlib.Omega.{arith}
use mathlib.Core.Path.{◌≡◌, ap, ◌∙◌}
use lib.ListN.{set}
use lib.Seq.{get_or-set_same, get_or-set_other}
use Rattle.foundation.specs.BitMasks.{bit}
use Rattle.model.specs.declared.Rule.{Rule}
use Rattle.windows.specs.Windows.{inside}
use Rattle.words.specs.SetBits.{set_bits}
use Rattle.words.proofs.SetBitLoops.{Turn, turn, finished, each_start, each_turn, each_end}
use Rattle.masks.proofs.spans.Invariants.{Spanned}
use Rattle.masks.proofs.spans.Goals as goal
use Rattle.masks.proofs.spans.Goals.{In-Some}

at : (c : In-Some) → Turn c.args.needed c.loop-r.yielded c.in-Some.r
at c = turn c.loop-r.r-iterator (cc) c.loop-r.yielded_by c.in-Some.ensures.steps

pub loop-r-init : goal.loop-r-init
loop-r-init c = each_start (Spanned c.args.body.now c.args.marks.now c.args.count c.args.active.now)

pub rule_at-q-requires : goal.rule_at-q-requires
rule_at-q-requires c =
    let p = c.requires in
    omega (arith, p.0 c.in-Some.r (at (goal.at.rule_at-q-requires c).In-Some).own, p.1)

pub bounds-active-i : goal.bounds-active-i
bounds-active-i c = omega (arith, (at (goal.at.bounds-active-i c).In-Some).low, c.requires.5)

pub loop-r-preserved : goal.loop-r-preserved
loop-r-preserved c =
    let a = c.args in
    let l = c.loop-r in
    let r = c.in-Some.r in
    let s = c.span in
    let t = at (goal.at.loop-r-preserved c).In-Some in
    let word = Spanned a.body.now a.marks.now a.count in
    each_turn (word l.active) (word (set l.active r s.result)) t l.invariant
    (λ i h f j. ap (bit j) (get_or-set_other l.active r i s.result 0 (λ z. omega arith)) ∙ f j)
    (λ j. ap (bit j) (get_or-set_same l.active r s.result 0 (omega (arith, t.low, c.requires.5))) ∙ s.ensures j
    ∙ ap (λ (q : Rule). inside a.count a.marks.now q.interval j) c.rule_at-q.ensures)

pub returns : goal.returns
returns c =
    let a = c.args in
    let l = c.loop-r in
    let e : l.yielded ≡ set_bits a.needed = finished l.r-iterator (cc) l.yielded_by c.in-None.ensures.steps in
    record {
      by_index = λ r j h. each_end a.needed (Spanned a.body.now a.marks.now a.count l.active) (omega arith) e
          l.invariant r h j;
      active_len = omega (arith, c.requires.5);
    }
