-- The replies to requests and to MAY are short: with its newline none is longer than 16 bytes. Those to WHEN
-- fit the list of 1,100 pairs.
use mathlib.Core.Path.{◌≡◌, refl}
use mathlib.Core.Bool.{Bool, true, false, not}
use mathlib.Core.List.{List, ◌∷◌, ◌++◌}
use Prim.Native.Nat.{ℕ, suc, ◌*◌, ◌/◌, ◌<◌}
use native.Mathlib.Omega.{arith}
use lib.Dec.{ltb, eqb}
use lib.ListN.{length, drop, length-append}
use Rattle.foundation.specs.Tests.{cases, pick, true-le}
use Rattle.foundation.specs.Lists.{allb}
use Rattle.model.specs.declared.Request.{Request}
use Rattle.model.specs.declared.Access.{Access}
use Rattle.model.specs.declared.Question.{Question}
use Rattle.model.specs.declared.Reply.TheVariants.{Refused, Runs}
use Rattle.model.specs.Base.{Base}
use Rattle.model.specs.Rules.{may, when}
use Rattle.model.specs.Means.{plainly}
use Rattle.model.specs.Step.{Row, row, first_number, refusal, accepting, table, effect, refusal_reply}
use Rattle.model.specs.Requests.{labels}
use Rattle.model.proofs.StepFacts.{accepted, first_all, by_rows}
use Rattle.model.specs.Encoding.{encode, decode}
use Rattle.model.specs.FitsFacts.{counts_fit_lem}
use Rattle.model.specs.Soundness.{sound, sound_bytes}
use Rattle.model.specs.SoundnessFacts.{sound_tests_lem, sound_bytes_lem}
use Rattle.model.specs.Answers.{Answer, answering, refusing, request_table, may_table, when_table, may_reply}
use Rattle.model.specs.Answers.{words, request, may_answer, when_answer}
use Rattle.laws.specs.Preservation.{effect-sound}
use Rattle.laws.specs.RequestFacts.{refused_with}
use Rattle.laws.specs.Rows.{label_left}
use Rattle.laws.specs.SessionFacts.{words-length, when-most}
use Rattle.printing.specs.Print.{RunsFit, Short}

-- ---- rows of a table

-- where no row behind that of unsound bytes applies, and not that one, the bytes are sound
sound_passed : (s : List ℕ) (rows : List Row) → first_number (row 2 (not (sound_bytes s)) ∷ rows) ≡ 0 →
    (sound_bytes s ≡ true) × (first_number rows ≡ 0)
sound_passed s rows z = cases (sound_bytes s)
    (λ e. (e, (rw e at z)))
    (λ e. let w : ◌≡◌ {A = ℕ} 2 0 = rw e at z in absurd (omega arith))

-- ---- refusals

refused-short : (rows : List Row) → allb (λ r. ltb r.number 100) rows ≡ true →
    Short (Refused (first_number rows))
refused-short rows e =
    omega (arith, true-le (suc (first_number rows)) 100 (first_all (λ n. ltb n 100) rows refl e))

-- a refusal's text is as short with an instant, which is not printed
reply_short : (b : Base) (q : Request) (n : ℕ) → Short (Refused n) → Short (refusal_reply plainly b q n)
reply_short b q n h = cases (eqb n 9) (λ e. rw (e, refusal_reply) tt) (λ e. rw (e, refusal_reply) h)

-- ---- the replies to a request and to MAY

-- a request that is accepted is given a label of 16 bits, and leaves at most 1,024 authorizations
accepting-short : (s : List ℕ) (q : Request) → first_number (request_table s q) ≡ 0 →
    Short (accepting (decode s) q (effect plainly (decode s) q))
accepting-short s q z =
    let passed = sound_passed s (table plainly (decode s) q) z in
    let after = effect plainly (decode s) q in
    let kept : sound after ≡ true = effect-sound (decode s) q (sound_bytes_lem s passed.0).1 passed.1 in
    (label (labels q) refl passed.1, (counts_fit_lem after (sound_tests_lem after kept).counts).authorizations)
  where
    label : (x : Bool) → labels q ≡ x → refusal plainly (decode s) q ≡ 0 →
        pick x (suc (decode s).last) 0 < 65536
    label true e z = omega (arith, label_left (decode s) q (accepted (decode s) q z) e)
    label false e z = omega arith

pub request-short : (s : List ℕ) (q : Request) → Short (request s q).reply
unfolding request
request-short s q =
    let after = effect plainly (decode s) q in
    let t = request_table s q in
    by_rows t (refused_with s q) (answering (accepting (decode s) q after) (encode after))
    (λ (a : Answer). Short a.reply) (reply_short (decode s) q (first_number t) (refused-short t refl))
    (accepting-short s q)

pub may-short : (s : List ℕ) (q : Question) → Short (may_answer s q)
unfolding may_answer
may-short s q =
    let yes? = may (decode s) q.access q.instant in
    let rows = row 2 (not (sound_bytes s)) ∷ may_table (decode s) q in
    by_rows rows Refused (may_reply yes?) Short (refused-short rows refl) (λ z. said yes?)
  where
    said : (yes? : Bool) → Short (may_reply yes?)
    said true = tt
    said false = tt

-- ---- the reply to WHEN: its runs are in the list, and few enough to be printed

pub when-fits : (s : List ℕ) (x : Access) (list : List ℕ) →
    (let a = when_answer s x list in RunsFit a.reply a.lent)
unfolding when_answer
when-fits s x list =
    let runs = when (decode s) x in
    let n = length runs in
    let rows = when_table (decode s) x (length list / 2) n in
    by_rows (row 2 (not (sound_bytes s)) ∷ rows) (refusing list)
    (answering (Runs n) (words runs ++ drop (2 * n) list))
    (λ (a : Answer). RunsFit a.reply a.lent) tt
    (λ z. (
      omega (arith, length-append (words runs) (drop (2 * n) list), words-length runs),
      when-most (decode s) (sound_bytes_lem s (sound_passed s rows z).0).1 x,
    ))
