use Rattle.std.proofs.Common.{◌≡◌, ℕ, List, sym, ap, ◌∙◌, arith}
use Rattle.foundation.specs.Marks.{next}
use Rattle.encoding.specs.Format.{rules_in}
use Rattle.relevance.specs.Chosen.{marks_for, picked, selected}
use Rattle.relevance.proofs.PickedFacts.{marks_for_lem}
use Rattle.relevance.proofs.Growing.{grown_start, only_one, grown_turn, grown_end}
use Rattle.relevance.proofs.filling.fill.Goals as goal

pub loop-count-init : goal.loop-count-init
loop-count-init c =
    let b = c in
    let a = b.args in (
      grown_start (marks_for a.lines.now a.which.now a.body.now a.c) a.from a.to
          a.width a.marks.now b.requires.4 b.requires.1 (omega arith),
      c.nothing_near-near.ensures (picked a.lines.now a.which.now a.c.authorizations)
          (selected a.c.needed (rules_in a.c.rules a.body.now)) a.from,
    )

pub loop-count-preserved : goal.loop-count-preserved
loop-count-preserved c =
    let b = c in
    let a = b.args in
    let l = c.loop-count in
    let e = c.next_of-t.ensures (picked a.lines.now a.which.now a.c.authorizations)
    (selected a.c.needed (rules_in a.c.rules a.body.now)) l.t
    c.near_at-near.ensures in (
      grown_turn (marks_for a.lines.now a.which.now a.body.now a.c) a.from a.to
          a.width b.requires.3 l.marks l.count l.t l.invariant.0 (omega arith) (omega arith)
          c.next_of-t.result (e.0
          ∙ ap (λ (ms : List ℕ). next l.t ms 4294967296)
          (sym (marks_for_lem a.lines.now a.which.now a.body.now a.c))),
      e.2,
    )

pub returns-then-from-to : goal.returns-then-from-to
returns-then-from-to c =
    let b = c in
    let a = b.args in
    only_one (marks_for a.lines.now a.which.now a.body.now a.c) a.from a.to
    a.width a.marks.now b.requires.4 c.if-from-to.true (omega arith) b.requires.2

pub returns-then-t-to : goal.returns-then-t-to
returns-then-t-to c =
    let a = c.args in
    let l = c.loop-count in
    grown_end (marks_for a.lines.now a.which.now a.body.now a.c) a.from a.to
    a.width l.marks l.count l.t l.invariant.0 c.requires.1 (omega arith) c.requires.2 (λ h. absurd (omega arith))

pub returns : goal.returns
returns c =
    let a = c.args in
    let l = c.loop-count in
    let e : l.count ≡ a.width = omega arith in
    rw e at (grown_end (marks_for a.lines.now a.which.now a.body.now a.c) a.from a.to
    a.width l.marks l.count l.t l.invariant.0 c.requires.1 (omega arith) c.requires.2 (λ h. omega arith))
