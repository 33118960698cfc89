-- What the batch's definitions say: when the call is accepted, which bytes it leaves, that a reply to MAY
-- fits a byte, and that questions are read back from their words.
use Rattle.std.specs.Prelude.{◌≡◌, refl, ◌≢◌, Bool, true, false, not, ◌&&◌, List, [], ◌∷◌, ◌++◌, map, ℕ, zero, suc, ◌+◌, ◌*◌, ◌/◌, ◌≤◌, ◌<◌, ltb, length, drop, get_or}
use Rattle.std.proofs.Common.{sym, ap, ◌∙◌, inl, inr, append-nil, arith, mul-zero, mul-suc, drop-drop}
use Rattle.foundation.specs.Tests.{cases, not-false, true-le, false-le, le-false}
use Rattle.foundation.specs.Lists.{Mem, each, length-each}
use Rattle.foundation.specs.Bytes.{records, records-back}
use Rattle.foundation.specs.ByteRecords.{length-records}
use Rattle.model.specs.declared.Question.{Question}
use Rattle.model.specs.declared.Reply.{Reply}
use Rattle.model.specs.declared.Reply.TheVariants.{Refused}
use Rattle.model.specs.Rules.{may}
use Rattle.model.specs.Step.{Row, row, first_number}
use Rattle.model.proofs.StepFacts.{first_all, first-given, first_none, numbered, by_rows, answered}
use Rattle.model.proofs.StepFacts.{turned_away}
use Rattle.model.specs.Encoding.{decode}
use Rattle.model.specs.Soundness.{sound_bytes}
use Rattle.model.specs.Ranges.{is_instant}
use Rattle.model.specs.Base.{exists}
use Rattle.model.specs.Answers.{access_in, may_table, may_reply, may_answer}
use Rattle.model.specs.Batch.{reply_byte, byte_for, batch_rows, batch_refusal, batch_bytes, Batched}
use Rattle.model.specs.Batch.{question_in, questions_in, words_of}

-- over a sound base: no, yes, and 3 and 6 with 16 added
pub byte_values : (s : List ℕ) (q : Question) → sound_bytes s ≡ true → Mem (byte_for s q) (0 ∷ 1 ∷ 19 ∷ 22 ∷ [])
unfolding byte_for may_answer
byte_values s q e =
    let off = not (access_in q.access && is_instant q.instant) in
    let unknown = not (exists (decode s) q.access.object) in
    cases off
    (λ a. rw (e, a) (inr (inr (inl refl))))
    (λ a. cases unknown
    (λ b. rw (e, a, b) (inr (inr (inr (inl refl)))))
    (λ b. rw (e, a, b) (answers (may (decode s) q.access q.instant))))
  where
    answers : (yes? : Bool) → Mem (reply_byte (may_reply yes?)) (0 ∷ 1 ∷ 19 ∷ 22 ∷ [])
    answers true = inr (inl refl)
    answers false = inl refl

-- a sound base and a byte for each question suffice, and none for no question
pub batch_accepts : (s : List ℕ) (questions room : ℕ) → sound_bytes s ≡ true → questions ≤ room →
    batch_refusal s questions room ≡ 0
unfolding batch_refusal
batch_accepts s questions room e h =
    let fits : ltb room questions ≡ false = le-false (suc room) questions (omega arith) in rw (e, fits)

-- a refusal by rows 2, 3 and 6, yes and no fit a byte
pub byte_small : (s : List ℕ) (q : Question) → reply_byte (may_answer s q) < 256
unfolding may_answer
byte_small s q =
    let yes? = may (decode s) q.access q.instant in
    let rows = row 2 (not (sound_bytes s)) ∷ may_table (decode s) q in
    let low = true-le (suc (first_number rows)) 240 (first_all (λ n. ltb n 240) rows refl refl) in
    by_rows rows Refused (may_reply yes?) (λ (r : Reply). reply_byte r < 256) (omega arith) (λ z. said yes?)
  where
    said : (yes? : Bool) → reply_byte (may_reply yes?) < 256
    said true = omega arith
    said false = omega arith

-- an accepted call: the base is sound, and every question has its byte
pub batch-accepted : (s : List ℕ) (questions room : ℕ) → batch_refusal s questions room ≡ 0 →
    (sound_bytes s ≡ true) × (questions ≤ room)
unfolding batch_refusal
batch-accepted s questions room z =
    let rows = batch_rows s questions room in
    let t : (r : Row) → _ = first_none rows (numbered rows refl) z in (
      not-false (sound_bytes s) (t _ (inl refl)),
      omega (
        arith,
        false-le (suc room) questions (t _ (inr (inl refl))),
      ),
    )

-- a refused call gets 2 or 13
pub batch_refuses : (s : List ℕ) (questions room : ℕ) → batch_refusal s questions room ≢ 0 →
    Mem (batch_refusal s questions room) (2 ∷ 13 ∷ [])
unfolding batch_refusal
batch_refuses s questions room n = one_of (first-given (batch_rows s questions room) n)
  where
    one_of : (r : Row) × Mem r (batch_rows s questions room) × (r.given ≡ true)
        × (r.number ≡ first_number (batch_rows s questions room)) →
        Mem (first_number (batch_rows s questions room)) (2 ∷ 13 ∷ [])
    one_of (r, inl e, g, f) = inl (sym f ∙ ap (λ (x : Row). x.number) e)
    one_of (r, inr (inl e), g, f) = inr (inl (sym f ∙ ap (λ (x : Row). x.number) e))
    one_of (r, inr (inr m), g, f) = absurd m.lower

module _ (s : List ℕ) (questions : List Question) (bytes : List ℕ) where
  abbrev written : List ℕ
  written = map (byte_for s) questions ++ drop (length questions) bytes

  abbrev rows : List Row
  rows = batch_rows s (length questions) (length bytes)

  pub batch-written : batch_refusal s (length questions) (length bytes) ≡ 0 →
      batch_bytes s questions bytes ≡ written
  unfolding batch_refusal batch_bytes
  batch-written z = answered rows (λ n. bytes) written z

  -- "nothing written"
  pub batch-refused : batch_refusal s (length questions) (length bytes) ≢ 0 →
      batch_bytes s questions bytes ≡ bytes
  unfolding batch_refusal batch_bytes
  batch-refused n = turned_away rows (λ n. bytes) written n

-- ---- questions in words

pub length_questions : (words : List ℕ) → length (questions_in words) ≡ length words / 4
unfolding questions_in
length_questions words = length-records 4 question_in (length words / 4) words

-- the i-th record
nth_record : {A : Type 0} (w : ℕ) (f : List ℕ → A) (n : ℕ) (s : List ℕ) (i : ℕ) (d : A) → i < n →
    get_or (records w f n s) i d ≡ f (drop (w * i) s)
nth_record w f zero s i d h = absurd (omega arith)
nth_record w f (suc n) s zero d h = rw (mul-zero w)
nth_record w f (suc n) s (suc i) d h =
    let q : w * suc i ≡ w + w * i = rw (mul-suc w i) (omega arith) in
    nth_record w f n (drop w s) i d (omega arith) ∙ ap f
    (drop-drop (w * i) w s ∙ ap (λ (k : ℕ). drop k s) (sym q))

pub nth_question : (words : List ℕ) (i : ℕ) (d : Question) → i < length words / 4 →
    get_or (questions_in words) i d ≡ question_in (drop (4 * i) words)
unfolding questions_in
nth_question words i d h = nth_record 4 question_in (length words / 4) words i d h

-- the words of questions say those questions
pub questions_back : (questions : List Question) → questions_in (each questions words_of) ≡ questions
unfolding questions_in
questions_back questions =
    let words = each questions words_of in
    let n : length words / 4 ≡ length questions =
    omega (arith, length-each questions words_of 4 (λ q. refl)) in
    ap (λ (k : ℕ). records 4 question_in k words) n
    ∙ ap (records 4 question_in (length questions)) (sym (append-nil words))
    ∙ records-back question_in words_of 4 (λ q. Unit {0}) (λ q. refl) (λ q rest h. refl) questions
    (λ q m. tt) []

-- A list of questions and the list of their words get the same number and the same bytes.
pub same_batch : (s : List ℕ) (questions : List Question) (bytes : List ℕ) (r r' : ℕ)
    (after after' : List ℕ) →
    Batched s questions bytes r after → Batched s (questions_in (each questions words_of)) bytes r' after' →
    (r ≡ r') × (after ≡ after')
same_batch s questions bytes r r' after after' b b' =
    let e = questions_back questions in (
      b.refusal ∙ ap (λ (l : List Question). batch_refusal s (length l) (length bytes)) (sym e)
          ∙ sym b'.refusal,
      b.replies ∙ ap (λ (l : List Question). batch_bytes s l bytes) (sym e) ∙ sym b'.replies,
    )
