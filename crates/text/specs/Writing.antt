-- What the functions of this crate write, and the definition's answer by cases: refused, or written. The laws
-- that stand here lead to the claims of `Room`.
use Rattle.std.specs.Prelude.{◌≡◌, refl, Bool, true, ◌||◌, List, [], ◌∷◌, ◌++◌, ℕ, suc, ◌≤◌, ◌<◌, length, drop}
use Rattle.std.proofs.Math.Path.{ap}
use Rattle.std.proofs.Common.{◌∙◌, arith}
use Rattle.std.proofs.Math.Bool.{false}
use Rattle.std.proofs.Math.Dec.{ltb}
use Rattle.std.proofs.Math.ListN.{length-append}
use Rattle.foundation.specs.Tests.{le-true, le-false, or_intro_left, or_true_right}
use Rattle.model.specs.Step.{Row, row, first_number, refused_or}
use Rattle.model.proofs.StepFacts.{answered, turned_away}
use Rattle.model.specs.Text.{Line, newline, read_line}
use Rattle.model.specs.Session.{byte_turn, turn_text, WrittenText, shortest_buffer, text_answer}
use Rattle.text.specs.declared.TextReply.{TextReply}

-- what a function gives, and the base and the buffer after it
abbrev pub written_text : TextReply → List ℕ → List ℕ → WrittenText
written_text w s out = record { refusal = w.refusal; count = w.count; lent = s; out = out }

-- a text and a newline were written at the front of a buffer
pub record Wrote (text before after : List ℕ) (w : TextReply) : Type 0 where
  pub refusal : w.refusal ≡ 0
  pub count : w.count ≡ length (text ++ (newline ∷ []))
  pub bytes : after ≡ (text ++ (newline ∷ [])) ++ drop (length (text ++ (newline ∷ []))) before

-- ---- the answer to what a line says

module _ (s : List ℕ) (l : Line) (out : List ℕ) where
  abbrev too_short : Bool
  too_short =
      ltb (length out) shortest_buffer || ltb (length out)
      (length (turn_text s l ++ (newline ∷ [])))

  abbrev rows : List Row
  rows = row 13 too_short ∷ []

  abbrev pub written_refusal : ℕ → WrittenText
  written_refusal k = record { refusal = k; count = 0; lent = s; out = out }

  abbrev pub written_answer : WrittenText
  written_answer =
      let text = turn_text s l ++ (newline ∷ []) in
      record {
        refusal = 0;
        count = length text;
        lent = (byte_turn s l).lent;
        out =
            text ++ drop (length text) out;
      }

  unfoldable pub answer_to : WrittenText
  answer_to = refused_or rows written_refusal written_answer

  refused-rows : too_short ≡ true → answer_to ≡ written_refusal 13
  unfolding answer_to
  refused-rows e =
      let n : first_number rows ≡ 13 = rw e in
      turned_away rows written_refusal written_answer (λ z. omega (arith, n)) ∙ ap written_refusal n

  -- a buffer of fewer than 16 bytes
  pub too_short_lem : length out < shortest_buffer → answer_to ≡ written_refusal 13
  too_short_lem h = refused-rows (or_intro_left (ltb (length out) shortest_buffer) _
      (le-true (suc (length out)) 16 h))

  -- a buffer that has no room for the text and its newline
  pub no_room_lem : length out ≤ length (turn_text s l) → answer_to ≡ written_refusal 13
  no_room_lem h =
      let text = turn_text s l in
      let long : ltb (length out) (length (text ++ (newline ∷ []))) ≡ true =
      le-true (suc (length out)) (length (text ++ (newline ∷ [])))
      (omega (arith, length-append text (newline ∷ []))) in
      refused-rows (or_true_right (ltb (length out) shortest_buffer) _ long)

  module _ (h : shortest_buffer ≤ length out) (room : length (turn_text s l) < length out) where
    -- a buffer that has
    pub has_room : answer_to ≡ written_answer
    unfolding answer_to
    has_room =
        let text = turn_text s l in
        let a : ltb (length out) shortest_buffer ≡ false = le-false (suc (length out)) 16 (omega arith) in
        let b : ltb (length out) (length (text ++ (newline ∷ []))) ≡ false =
        le-false (suc (length out)) (length (text ++ (newline ∷ [])))
        (omega (arith, length-append text (newline ∷ []))) in
        answered rows written_refusal written_answer (rw (a, b))

-- the answer to a line of text is that to what it says
pub text_answer_lem : (s line out : List ℕ) → text_answer s line out ≡ answer_to s (read_line line) out
unfolding text_answer answer_to
text_answer_lem s line out = refl
