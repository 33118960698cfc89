-- A round's questions in one call (02, CR 2): the bytes of the replies, the refusals of the whole call, and
-- how a list of words is read as questions.
use Rattle.std.specs.Prelude.{ℕ, ◌+◌, ◌/◌, ◌≡◌, not, List, [], ◌∷◌, ◌++◌, map, ltb, length, drop, get_or}
use Rattle.foundation.specs.Bytes.{records}
use Rattle.model.specs.declared.Question.{Question}
use Rattle.model.specs.declared.Reply.{Reply}
use Rattle.model.specs.declared.Reply.TheVariants.{Done, Refused, Unsupported, Yes, No, Runs}
use Rattle.model.specs.Step.{Row, row, first_number, refused_or}
use Rattle.model.specs.Soundness.{sound_bytes}
use Rattle.model.specs.Answers.{may_answer}

-- 02: "0 no, 1 yes, 16 plus the number for a refused question". MAY gives no other reply (`byte-values` in
-- BatchFacts).
abbrev pub reply_byte : Reply → ℕ
reply_byte No = 0
reply_byte Yes = 1
reply_byte (Refused n) = 16 + n
reply_byte (Unsupported t) = 16 + 9
reply_byte (Done label count) = 16 + 0
reply_byte (Runs n) = 16 + 0

-- 02: "Each byte equals the reply to that question put alone", to the same bytes
unfoldable pub byte_for : List ℕ → Question → ℕ
byte_for s q = reply_byte (may_answer s q)

-- 02: "A byte list shorter than the questions gets 13 with nothing written; an unsound base gets 2 for the
-- whole call"
abbrev pub batch_rows : List ℕ → ℕ → ℕ → List Row
batch_rows s questions room = row 2 (not (sound_bytes s)) ∷ row 13 (ltb room questions) ∷ []

-- the reply to the call: the refusal's number, or 0
unfoldable pub batch_refusal : List ℕ → ℕ → ℕ → ℕ
batch_refusal s questions room = first_number (batch_rows s questions room)

-- the byte list after the call. 02: "Bytes past the last question's are untouched"
unfoldable pub batch_bytes : List ℕ → List Question → List ℕ → List ℕ
batch_bytes s questions bytes =
    refused_or (batch_rows s (length questions) (length bytes)) (λ n. bytes)
    (map (byte_for s) questions ++ drop (length questions) bytes)

-- What the contract says: the number r, and the byte list that stands in the place of `bytes`
pub record Batched (s : List ℕ) (questions : List Question) (bytes : List ℕ) (r : ℕ)
    (after : List ℕ) : Type 0 where
  pub refusal : r ≡ batch_refusal s (length questions) (length bytes)
  pub replies : after ≡ batch_bytes s questions bytes

-- ---- questions in words

abbrev pub question : ℕ → ℕ → ℕ → ℕ → Question
question subject mode object instant = record {
  access = record { subject = subject; mode = mode; object = object };
  instant = instant;
}

-- 02: "question records (subject, mode, object, instant)", a word each
abbrev pub question_in : List ℕ → Question
question_in words = question (get_or words 0 0) (get_or words 1 0) (get_or words 2 0) (get_or words 3 0)

-- Four words a question. Up to three words behind the last question say nothing.
unfoldable pub questions_in : List ℕ → List Question
questions_in words = records 4 question_in (length words / 4) words

abbrev pub words_of : Question → List ℕ
words_of q = q.access.subject ∷ q.access.mode ∷ q.access.object ∷ q.instant ∷ []
