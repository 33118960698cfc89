-- A newline behind a reply, and a line that was answered by its kind.
use mathlib.Core.Path.{◌≡◌, ap, ◌∙◌}
use Prim.Native.Nat.{ℕ, ◌+◌, ◌≤◌}
use native.Mathlib.Omega.{arith}
use native.Mathlib.Numerals.{add-one}
use mathlib.Core.Bool.{true}
use mathlib.Core.List.{List, [], ◌∷◌, ◌++◌}
use lib.ListN.{length, take, set, length-set}
use lib.Seq.{take-suc-set}
use Rattle.model.specs.Soundness.{sound_bytes}
use Rattle.model.specs.Text.{Line, order, asks_may, asks_when, unreadable, newline, read_line}
use Rattle.model.specs.Session.{byte_turn, turn_text}
use Rattle.laws.specs.RequestFacts.{request-sound}
use Rattle.printing.specs.Print.{longest_reply}
use Rattle.serving.specs.LineTurns.{Turned}
use Rattle.serving.specs.Replies.{PrintedLine}

-- a newline behind a reply
pub reply_ended : {text before : List ℕ} (out : List ℕ) (n : ℕ) → 24001 ≤ length before → take n out ≡ text →
    n ≤ longest_reply → length out ≡ length before → PrintedLine text before (set out n newline) (n + 1)
reply_ended out n h e few room = record {
  front = ap (λ (k : ℕ). take k (set out n newline)) (add-one n)
      ∙ take-suc-set out n newline (omega (arith, h, few, room)) ∙ ap (λ (t : List ℕ). t ++ (newline ∷ [])) e;
  few = omega (arith, few);
  room = length-set out n newline ∙ room;
}

-- the same text by another name
pub printed_line_as : {text text' before after : List ℕ} {n : ℕ} → text ≡ text' → PrintedLine text before after
    n →
    PrintedLine text' before after n
printed_line_as e p = record {
  front = p.front ∙ ap (λ (t : List ℕ). t ++ (newline ∷ [])) e;
  few = p.few;
  room = p.room;
}

-- ---- a line that was answered

pub turn-sound : (s : List ℕ) (l : Line) → sound_bytes s ≡ true → sound_bytes (byte_turn s l).lent ≡ true
turn-sound s (order q) e = request-sound s q e
turn-sound s (asks_may q) e = e
turn-sound s (asks_when x) e = e
turn-sound s unreadable e = e

-- where the line says l, and the bytes are left as l leaves them
pub line-turned : {line before after s' : List ℕ} {n : ℕ} (s : List ℕ) (l : Line) → sound_bytes s ≡ true →
    l ≡ read_line line → PrintedLine (turn_text s l) before after n → s' ≡ (byte_turn s l).lent →
    Turned s line n after s' × (length after ≡ length before)
line-turned s l e said p left = (
  record {
    text = p.front ∙ ap (λ (l : Line). turn_text s l ++ (newline ∷ [])) said;
    few = p.few;
    bytes = left ∙ ap (λ (l : Line). (byte_turn s l).lent) said;
    sound = ap sound_bytes left ∙ turn-sound s l e;
  },
  p.room,
)
