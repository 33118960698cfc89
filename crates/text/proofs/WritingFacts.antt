-- What the functions of this crate wrote is the definition's answer (`all-written`, `short-written`,
-- `answers-line`).
use mathlib.Core.Path.{◌≡◌, sym, ap, ◌∙◌}
use mathlib.Core.Bool.{false}
use mathlib.Core.List.{List, [], ◌∷◌, ◌++◌}
use Prim.Native.Nat.{ℕ, ◌≤◌, ◌<◌}
use native.Mathlib.Omega.{arith}
use lib.ListN.{length, drop}
use Rattle.model.specs.declared.Reply.{Reply}
use Rattle.model.specs.declared.Reply.TheVariants.{Refused}
use Rattle.model.specs.Soundness.{sound_bytes}
use Rattle.model.specs.Answers.{Answer}
use Rattle.model.specs.Text.{Line, newline, read_line, print_reply}
use Rattle.model.specs.Session.{ByteTurn, runs_of, when_list, byte_turn, turn_text, WrittenText}
use Rattle.model.specs.Session.{shortest_buffer, text_answer}
use Rattle.laws.specs.RequestFacts.{request_unsound}
use Rattle.printing.specs.Print.{Short}
use Rattle.printing.proofs.ShortFacts.{short-length, short_runs}
use Rattle.reading.specs.declared.Asked.{Asked}
use Rattle.reading.specs.declared.Asked.TheVariants.{Order, May, When}
use Rattle.reading.specs.ParsedLines.{asked_of}
use Rattle.answers.proofs.AnswersByRows.{may_unsound, when_unsound}
use Rattle.text.specs.declared.TextReply.{TextReply}
use Rattle.text.specs.Writing.{written_text, Wrote, written_answer, answer_to, has_room}
use Rattle.text.specs.Writing.{text_answer_lem}

-- the same text by another name
pub wrote_as : {text text' before after : List ℕ} {w : TextReply} → text ≡ text' → Wrote text before after w →
    Wrote text' before after w
wrote_as {before = before} e p = record {
  refusal = p.refusal;
  count = p.count ∙ ap (λ (t : List ℕ). length (t ++ (newline ∷ []))) e;
  bytes = p.bytes
      ∙ ap (λ (t : List ℕ). (t ++ (newline ∷ [])) ++ drop (length (t ++ (newline ∷ []))) before) e;
}

-- ---- the answer to what a line says

-- a reply without runs, and the bytes after it
abbrev pub plain_turn : Reply → List ℕ → ByteTurn
plain_turn r s = record { reply = r; runs = []; lent = s }

-- whatever is asked of bytes that are no sound base is refused with 2, and they are left
pub unsound_turn : (s : List ℕ) (a : Asked) → sound_bytes s ≡ false →
    byte_turn s (asked_of a) ≡ plain_turn (Refused 2) s
unsound_turn s (Order q) e = ap (λ (a : Answer). plain_turn a.reply a.lent) (request_unsound s q e)
unsound_turn s (May q) e = ap (λ (r : Reply). plain_turn r s) (may_unsound s q e)
unsound_turn s (When x) e =
    ap (λ (a : Answer). record { reply = a.reply; runs = runs_of a.reply a.lent; lent = s })
    (when_unsound s x when_list e)

module _ (s : List ℕ) (l : Line) (out : List ℕ) where
  module _ (h : shortest_buffer ≤ length out) (room : length (turn_text s l) < length out) where
    -- the text was written, and the base is left as the definition says
    pub all_written : {s' out' : List ℕ} {w : TextReply} → Wrote (turn_text s l) out out' w →
        s' ≡ (byte_turn s l).lent → written_text w s' out' ≡ answer_to s l out
    all_written p e =
        let q : written_text _ _ _ ≡ written_answer s l out =
        λ i. record { refusal = p.refusal i; count = p.count i; lent = e i; out = p.bytes i } in
        q ∙ sym (has_room s l out h room)

  -- a short reply has room in 16 bytes
  pub short-written : {s' out' : List ℕ} {w : TextReply} {r : Reply} → shortest_buffer ≤ length out →
      Short r → byte_turn s l ≡ plain_turn r s' → Wrote (print_reply r (runs_of r [])) out out' w →
      written_text w s' out' ≡ answer_to s l out
  short-written {r = r} h short e p =
      let text : turn_text s l ≡ print_reply r [] =
      ap (λ (x : ByteTurn). print_reply x.reply x.runs) e in
      all_written h (omega (arith, ap length text, short-length r [] short))
      (wrote_as (ap (print_reply r) (short_runs r [] short) ∙ sym text) p)
      (sym (ap (λ (x : ByteTurn). x.lent) e))

-- so what answers what it says answers it
pub answers-line : {x : WrittenText} (s line out : List ℕ) (l : Line) → l ≡ read_line line → x ≡ answer_to s l
    out →
    x ≡ text_answer s line out
answers-line s line out l e w = w ∙ ap (λ (l : Line). answer_to s l out) e ∙ sym (text_answer_lem s line out)
