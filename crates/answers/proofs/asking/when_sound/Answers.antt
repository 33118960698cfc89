use native.Mathlib.Omega.{arith}
use mathlib.Core.Path.{sym, ap, ◌∙◌}
use Prim.Native.Nat.{◌/◌, ◌≤◌, ◌<◌}
use lib.ListN.{length}
use Rattle.model.specs.Encoding.{decode}
use Rattle.model.specs.declared.Reply.TheVariants.{Refused, Runs}
use Rattle.model.specs.Rules.{when}
use Rattle.model.specs.Answers.{answering, refusing}
use Rattle.scan.proofs.FilledFacts.{listed_if_room-short, listed_if_room_all}
use Rattle.answers.specs.AskingRows.{access_rows}
use Rattle.answers.proofs.AnswersByRows.{asked_in, no_row, first_row, when-refused, when-short, when-listed}
use Rattle.answers.proofs.asking.when_sound.Goals as goal

pub returns-in-Some : goal.returns-in-Some
returns-in-Some c =
    let a = c.args in
    let r = first_row (access_rows (decode a.s.now) a.x) _ (sym c.in-Some.ensures) in
    ap (refusing a.list.now) r.0 ∙ sym (when-refused a.s.now a.x a.list.now c.requires r.1)

pub list_runs-count-requires : goal.list_runs-count-requires
list_runs-count-requires c =
    let passes = no_row (access_rows (decode c.args.s.now) c.args.x) (sym c.in_default.ensures) in
    (c.requires, asked_in (decode c.args.s.now) c.args.x passes)

pub returns-then-pairs-count : goal.returns-then-pairs-count
returns-then-pairs-count c =
    let a = c.args in
    let passes = no_row (access_rows (decode a.s.now) a.x) (sym c.in_default.ensures) in
    let e = c.list_runs-count.ensures in
    let runs = when (decode a.s.now) a.x in
    let h : length a.list.now / 2 < length runs = omega (arith, e.count, c.if-pairs-count.true) in
    ap (answering (Refused 13)) (e.lent ∙ listed_if_room-short runs a.list.now h)
    ∙ sym (when-short a.s.now a.x a.list.now c.requires passes h)

-- how many there are fits in 32 bits
pub overflow_cast-result : goal.overflow_cast-result
overflow_cast-result c = omega (arith, c.list_runs-count.ensures.few)

pub returns : goal.returns
returns c =
    let a = c.args in
    let passes = no_row (access_rows (decode a.s.now) a.x) (sym c.in_default.ensures) in
    let e = c.list_runs-count.ensures in
    let runs = when (decode a.s.now) a.x in
    let h : length runs ≤ length a.list.now / 2 = omega (arith, e.count, c.if-pairs-count.false) in
    (λ k. answering (Runs (e.count k)) ((e.lent ∙ listed_if_room_all runs a.list.now h) k))
    ∙ sym (when-listed a.s.now a.x a.list.now c.requires passes h)
