use borrow.Author.Rules.{rules}
use native.Mathlib.Omega.{arith}
use native.Mathlib.Numerals.{add-one}
use mathlib.Core.Path.{◌≡◌, sym, ap, ◌∙◌}
use lib.ListN.{set, get_or, length-set}
use Rattle.model.specs.Batch.{byte_for, question}
use Rattle.batch.proofs.AnswerBytes.{bytes_filled, filled_none, filled_next, Known, know}
use Rattle.batch.proofs.batch.Goals as goal

pub loop-i-init : goal.loop-i-init
loop-i-init c = (
  search rules,
  search rules,
  filled_none c.args.base.now c.args.questions.now c.args.replies.now,
)

pub prepare-table-requires : goal.prepare-table-requires
prepare-table-requires c =
    let a = c.args in
    let known : Known a.base.now a.questions.now a.replies.now c.batch_refusal-r.result c.answered-n.result =
    know a.base.now a.questions.now a.replies.now c.batch_refusal-r.result c.answered-n.result
    c.batch_refusal-r.ensures c.answered-n.ensures in
    known.sound

pub bounds-questions-i : goal.bounds-questions-i
bounds-questions-i c =
    let a = c.args in
    let known : Known a.base.now a.questions.now a.replies.now c.batch_refusal-r.result c.answered-n.result =
    know a.base.now a.questions.now a.replies.now c.batch_refusal-r.result c.answered-n.result
    c.batch_refusal-r.ensures c.answered-n.ensures in
    omega (arith, known.in_questions)

pub byte_for-requires : goal.byte_for-requires
byte_for-requires c =
    let a = c.args in
    let known : Known a.base.now a.questions.now a.replies.now c.batch_refusal-r.result c.answered-n.result =
    know a.base.now a.questions.now a.replies.now c.batch_refusal-r.result c.answered-n.result
    c.batch_refusal-r.ensures c.answered-n.ensures in
    (known.sound (omega arith), c.prepare-table.ensures (omega arith))

pub bounds-replies-i : goal.bounds-replies-i
bounds-replies-i c =
    let a = c.args in
    let known : Known a.base.now a.questions.now a.replies.now c.batch_refusal-r.result c.answered-n.result =
    know a.base.now a.questions.now a.replies.now c.batch_refusal-r.result c.answered-n.result
    c.batch_refusal-r.ensures c.answered-n.ensures in
    omega (arith, known.in_room)

pub loop-i-preserved : goal.loop-i-preserved
loop-i-preserved c =
    let a = c.args in
    let known : Known a.base.now a.questions.now a.replies.now c.batch_refusal-r.result c.answered-n.result =
    know a.base.now a.questions.now a.replies.now c.batch_refusal-r.result c.answered-n.result
    c.batch_refusal-r.ensures c.answered-n.ensures in
    let l = c.loop-i in
    let x = question 0 0 0 0 in
    let byte : c.byte_for.result ≡ byte_for a.base.now (get_or a.questions.now l.i x) = c.byte_for.ensures in (
      search rules,
      simp length-set (search rules),
      (λ j. set (l.invariant.2 j) l.i (byte j))
          ∙ filled_next a.base.now a.questions.now a.replies.now x l.i
          (omega (arith, known.in_questions))
          (omega (arith, known.in_room))
          ∙ ap (bytes_filled a.base.now a.questions.now a.replies.now) (sym (add-one l.i)),
    )

pub returns : goal.returns
returns c =
    let a = c.args in
    let known : Known a.base.now a.questions.now a.replies.now c.batch_refusal-r.result c.answered-n.result =
    know a.base.now a.questions.now a.replies.now c.batch_refusal-r.result c.answered-n.result
    c.batch_refusal-r.ensures c.answered-n.ensures in
    let l = c.loop-i in
    let e : l.i ≡ c.answered-n.result = omega arith in
    record {
      refusal = known.refusal;
      replies =
          l.invariant.2 ∙ ap (bytes_filled a.base.now a.questions.now a.replies.now) e
          ∙ known.bytes;
    }
