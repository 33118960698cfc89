-- When a buffer suffices, and that a refusal alters nothing: the theorems on `text_answer`.
use Rattle.std.specs.Prelude.{◌≡◌, ◌⊎◌, List, [], ℕ, ◌≤◌, ◌<◌, leb, length}
use Rattle.std.proofs.Common.{ap, ◌∙◌, inl, inr, arith}
use Rattle.foundation.specs.Tests.{cases, true-le, false-le}
use Rattle.model.specs.declared.Request.{Request}
use Rattle.model.specs.declared.Reply.TheVariants.{Refused}
use Rattle.model.specs.Answers.{request, may_answer, when_answer}
use Rattle.model.specs.Text.{Line, order, asks_may, asks_when, unreadable, read_line}
use Rattle.model.specs.Session.{turn_text, when_list, WrittenText, shortest_buffer, text_answer}
use Rattle.printing.specs.Print.{longest_reply}
use Rattle.printing.proofs.Lengths.{reply_most}
use Rattle.printing.proofs.ShortFacts.{short-length}
use Rattle.printing.proofs.ShortReplies.{request-short, may-short, when-fits}
use Rattle.text.specs.Writing.{answer_to, too_short_lem, no_room_lem, has_room, text_answer_lem}

-- no text of a reply is longer than 24,000 bytes
pub turn-most : (s : List ℕ) (l : Line) → length (turn_text s l) ≤ longest_reply
turn-most s (order q) = omega (arith, short-length (request s q).reply [] (request-short s q))
turn-most s (asks_may q) = omega (arith, short-length (may_answer s q) [] (may-short s q))
turn-most s (asks_when x) =
    let a = when_answer s x when_list in reply_most a.reply a.lent (when-fits s x when_list)
turn-most s unreadable = omega (arith, short-length (Refused 1) [] (omega arith))

-- a buffer of 24,001 bytes is never refused
pub suffices : (s line out : List ℕ) → longest_reply < length out → (text_answer s line out).refusal ≡ 0
suffices s line out h =
    let l = read_line line in
    ap (λ (w : WrittenText). w.refusal)
    (text_answer_lem s line out ∙ has_room s l out (omega arith) (omega (arith, turn-most s l)))

-- nor is one of 16 bytes where the line is a request: none is carried out whose reply is not told
pub request-told : (s line out : List ℕ) (q : Request) → read_line line ≡ order q →
    shortest_buffer ≤ length out →
    (text_answer s line out).refusal ≡ 0
request-told s line out q e h =
    ap (λ (w : WrittenText). w.refusal)
    (text_answer_lem s line out ∙ ap (λ (l : Line). answer_to s l out) e
    ∙ has_room s (order q) out h (omega (arith, short-length (request s q).reply [] (request-short s q))))

-- the only refusal is 13, and it leaves the base and the buffer as they were
pub refused_untouched : (s line out : List ℕ) → ((text_answer s line out).refusal ≡ 0)
    ⊎ (text_answer s line out ≡ record { refusal = 13; count = 0; lent = s; out = out })
refused_untouched s line out =
    let l = read_line line in
    let e = text_answer_lem s line out in
    cases (leb shortest_buffer (length out))
    (λ a. cases (leb (length out) (length (turn_text s l)))
    (λ b. inr (e ∙ no_room_lem s l out (true-le _ _ b)))
    (λ b. inl (ap (λ (w : WrittenText). w.refusal)
    (e ∙ has_room s l out (true-le shortest_buffer (length out) a) (false-le _ _ b)))))
    (λ a. inr (e ∙ too_short_lem s l out (false-le shortest_buffer (length out) a)))
