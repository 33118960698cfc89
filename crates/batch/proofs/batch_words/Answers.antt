use borrow.Author.Rules.{rules}
use native.Mathlib.Omega.{arith}
use native.Mathlib.Numerals.{add-one}
use mathlib.Core.Path.{◌≡◌, sym, ap, ◌∙◌}
use Prim.Native.Nat.{ℕ, ◌/◌, ◌<◌}
use lib.ListN.{length, set, get_or, length-set}
use lib.Dec.{eqb}
use Rattle.foundation.specs.Tests.{pick}
use Rattle.model.specs.Batch.{byte_for, batch_refusal, question, questions_in}
use Rattle.model.proofs.BatchFacts.{length_questions, nth_question}
use Rattle.batch.proofs.AnswerBytes.{bytes_filled, filled_none, filled_next, Known, know}
use Rattle.batch.proofs.batch_words.Invariants.{invariant-loop-i}
use Rattle.batch.proofs.batch_words.Goals as goal

pub loop-i-init : goal.loop-i-init
loop-i-init c =
    let a = c.args in (
      search rules,
      search rules,
      filled_none a.base.now (questions_in a.words.now)
          a.replies.now,
    )

pub prepare-table-requires : goal.prepare-table-requires
prepare-table-requires c =
    let known : (let a = c.args in Known a.base.now (questions_in a.words.now) a.replies.now c.batch_refusal-r.result c.answered-n.result) =
    let a = c.args in
    let l = sym (length_questions a.words.now) in
    let r = c.batch_refusal-r.result in
    know a.base.now (questions_in a.words.now) a.replies.now r c.answered-n.result
    (c.batch_refusal-r.ensures ∙ ap (λ (k : ℕ). batch_refusal a.base.now k
    (length a.replies.now)) l)
    (c.answered-n.ensures ∙ ap (λ (k : ℕ). pick (eqb r 0) k 0) l) in
    (known).sound

pub question_at-requires : goal.question_at-requires
question_at-requires c =
    let known : (let a = c.args in Known a.base.now (questions_in a.words.now) a.replies.now c.batch_refusal-r.result c.answered-n.result) =
    let a = c.args in
    let l = sym (length_questions a.words.now) in
    let r = c.batch_refusal-r.result in
    know a.base.now (questions_in a.words.now) a.replies.now r c.answered-n.result
    (c.batch_refusal-r.ensures ∙ ap (λ (k : ℕ). batch_refusal a.base.now k
    (length a.replies.now)) l)
    (c.answered-n.ensures ∙ ap (λ (k : ℕ). pick (eqb r 0) k 0) l) in
    let d = c in
    let w = d.args.words.now in
    omega (arith, (known).in_questions, length_questions w)

pub byte_for-requires : goal.byte_for-requires
byte_for-requires c =
    let known : (let a = c.args in Known a.base.now (questions_in a.words.now) a.replies.now c.batch_refusal-r.result c.answered-n.result) =
    let a = c.args in
    let l = sym (length_questions a.words.now) in
    let r = c.batch_refusal-r.result in
    know a.base.now (questions_in a.words.now) a.replies.now r c.answered-n.result
    (c.batch_refusal-r.ensures ∙ ap (λ (k : ℕ). batch_refusal a.base.now k
    (length a.replies.now)) l)
    (c.answered-n.ensures ∙ ap (λ (k : ℕ). pick (eqb r 0) k 0) l) in
    let p = c in
    ((known).sound (omega arith), p.prepare-table.ensures (omega arith))

pub bounds-replies-i : goal.bounds-replies-i
bounds-replies-i c =
    let known : (let a = c.args in Known a.base.now (questions_in a.words.now) a.replies.now c.batch_refusal-r.result c.answered-n.result) =
    let a = c.args in
    let l = sym (length_questions a.words.now) in
    let r = c.batch_refusal-r.result in
    know a.base.now (questions_in a.words.now) a.replies.now r c.answered-n.result
    (c.batch_refusal-r.ensures ∙ ap (λ (k : ℕ). batch_refusal a.base.now k
    (length a.replies.now)) l)
    (c.answered-n.ensures ∙ ap (λ (k : ℕ). pick (eqb r 0) k 0) l) in
    omega (arith, (known).in_room)

pub loop-i-preserved : goal.loop-i-preserved
loop-i-preserved c =
    let known : (let a = c.args in Known a.base.now (questions_in a.words.now) a.replies.now c.batch_refusal-r.result c.answered-n.result) =
    let a = c.args in
    let l = sym (length_questions a.words.now) in
    let r = c.batch_refusal-r.result in
    know a.base.now (questions_in a.words.now) a.replies.now r c.answered-n.result
    (c.batch_refusal-r.ensures ∙ ap (λ (k : ℕ). batch_refusal a.base.now k
    (length a.replies.now)) l)
    (c.answered-n.ensures ∙ ap (λ (k : ℕ). pick (eqb r 0) k 0) l) in
    let l = c.loop-i in
    let d = c in
    let a = d.args in
    let w = a.words.now in
    let k = known in
    let in_words : l.i < length w / 4 = omega (arith, k.in_questions, length_questions w) in
    let x = question 0 0 0 0 in
    let byte : c.byte_for.result ≡ byte_for a.base.now (get_or (questions_in w) l.i x) =
    c.byte_for.ensures
    ∙ ap (byte_for a.base.now) (c.question_at.ensures
    ∙ sym (nth_question w l.i x in_words)) in (
      search rules,
      simp length-set (search rules),
      (λ j. set (l.invariant.2 j) l.i (byte j))
          ∙ filled_next a.base.now (questions_in w) a.replies.now x l.i
          (omega (arith, k.in_questions))
          (omega (arith, k.in_room))
          ∙ ap (bytes_filled a.base.now (questions_in w) a.replies.now) (sym (add-one l.i)),
    )

pub returns : goal.returns
returns c =
    let known : (let a = c.args in Known a.base.now (questions_in a.words.now) a.replies.now c.batch_refusal-r.result c.answered-n.result) =
    let a = c.args in
    let l = sym (length_questions a.words.now) in
    let r = c.batch_refusal-r.result in
    know a.base.now (questions_in a.words.now) a.replies.now r c.answered-n.result
    (c.batch_refusal-r.ensures ∙ ap (λ (k : ℕ). batch_refusal a.base.now k
    (length a.replies.now)) l)
    (c.answered-n.ensures ∙ ap (λ (k : ℕ). pick (eqb r 0) k 0) l) in
    let l = c.loop-i in
    let d = c in
    let a = d.args in
    let k = known in
    let e : l.i ≡ d.answered-n.result = omega arith in
    record {
      refusal = k.refusal;
      replies =
          l.invariant.2 ∙ ap (bytes_filled a.base.now (questions_in a.words.now) a.replies.now) e
          ∙ k.bytes;
    }
