-- A whole session, from bytes to bytes (01, "Text session").
use Rattle.std.specs.Prelude.{ℕ, zero, suc, ◌*◌, ◌||◌, List, [], ◌∷◌, ◌++◌, ltb, length, replicate, drop, get_or}
use Rattle.foundation.specs.declared.Interval.{Interval}
use Rattle.foundation.specs.Intervals.{interval}
use Rattle.model.specs.declared.Reply.{Reply}
use Rattle.model.specs.declared.Reply.TheVariants.{Done, Refused, Unsupported, Yes, No, Runs}
use Rattle.model.specs.Base.{Base, empty_base}
use Rattle.model.specs.Means.{Means, plainly}
use Rattle.model.specs.Questions.{Questions, as_defined}
use Rattle.model.specs.Step.{row, refused_or, step_by}
use Rattle.model.specs.Encoding.{encode}
use Rattle.model.specs.Answers.{may_table, when_table, may_reply, request, may_answer, when_answer}
use Rattle.model.specs.Text.{Line, order, asks_may, asks_when, unreadable, newline, lines, read_line}
use Rattle.model.specs.Text.{print_reply}

-- the reply to one line, with the runs of a WHEN, and the base after it
pub record Turn : Type 0 where
  pub reply : Reply
  pub runs : List Interval
  pub base : Base

-- "WHEN gets a list of 1,100 pairs"
abbrev pub pairs : ℕ
pairs = 1100

module _ (M : Means) (Q : Questions) where
  -- "A line that cannot be read is answered with 1 and reading goes on"
  abbrev pub turn : Base → Line → Turn
  turn b (order q) = let x = step_by M b q in record { reply = x.reply; runs = []; base = x.base }
  turn b (asks_may q) =
      let r = may_reply (Q.may_at b q.access q.instant) in
      record { reply = refused_or (may_table b q) Refused r; runs = []; base = b }
  turn b (asks_when x) =
      let runs = Q.when_in b x in
      let n = length runs in
      record { reply = refused_or (when_table b x pairs n) Refused (Runs n); runs = runs; base = b }
  turn b unreadable = record { reply = Refused 1; runs = []; base = b }

  -- every reply on a line of its own
  abbrev pub transcript : List (List ℕ) → Base → List ℕ
  transcript [] b = []
  transcript (l ∷ rest) b =
      let x = turn b (read_line l) in
      print_reply x.reply x.runs ++ (newline ∷ transcript rest x.base)

-- "The program starts with an empty base"
unfoldable pub session : List ℕ → List ℕ
session input = transcript plainly as_defined (lines input) empty_base

-- ---- the same through the library's answers over lent bytes (`session-bytes` in crate laws, SessionFacts)

pub record ByteTurn : Type 0 where
  pub reply : Reply
  pub runs : List Interval
  pub lent : List ℕ

-- the first n pairs of a list
abbrev pub pairs_of : ℕ → List ℕ → List Interval
pairs_of zero list = []
pairs_of (suc n) list = interval (get_or list 0 0) (get_or list 1 0) ∷ pairs_of n (drop 2 list)

-- the runs that a reply says are in the list
abbrev pub runs_of : Reply → List ℕ → List Interval
runs_of (Done label count) list = []
runs_of (Refused n) list = []
runs_of (Unsupported t) list = []
runs_of Yes list = []
runs_of No list = []
runs_of (Runs n) list = pairs_of n list

-- a list of 1,100 pairs
unfoldable pub when_list : List ℕ
when_list = replicate (2 * pairs) 0

abbrev pub byte_turn : List ℕ → Line → ByteTurn
byte_turn s (order q) = let a = request s q in record { reply = a.reply; runs = []; lent = a.lent }
byte_turn s (asks_may q) = record { reply = may_answer s q; runs = []; lent = s }
byte_turn s (asks_when x) =
    let a = when_answer s x when_list in
    record { reply = a.reply; runs = runs_of a.reply a.lent; lent = s }
byte_turn s unreadable = record { reply = Refused 1; runs = []; lent = s }

abbrev pub byte_transcript : List (List ℕ) → List ℕ → List ℕ
byte_transcript [] s = []
byte_transcript (l ∷ rest) s =
    let x = byte_turn s (read_line l) in
    print_reply x.reply x.runs ++ (newline ∷ byte_transcript rest x.lent)

unfoldable pub byte_session : List ℕ → List ℕ
byte_session input = byte_transcript (lines input) (encode empty_base)

-- the base's bytes after lines that are answered one after the other, as in `byte_transcript`
abbrev pub turns : List (List ℕ) → List ℕ → List ℕ
turns [] s = s
turns (l ∷ rest) s = turns rest (byte_turn s (read_line l)).lent

-- the base's bytes after the session over an input
abbrev pub bytes_after : List ℕ → List ℕ
bytes_after input = turns (lines input) (encode empty_base)

-- ---- one line of text over lent bytes, its reply as text in a lent buffer

-- 0 or why nothing was written, how many bytes were, and the base and the buffer after it
pub record WrittenText : Type 0 where
  pub refusal : ℕ
  pub count : ℕ
  pub lent : List ℕ
  pub out : List ℕ

-- the longest reply but WHEN's, with its newline: `done 65535 1024`
abbrev pub shortest_buffer : ℕ
shortest_buffer = 16

-- what is printed of the answer to what a line says
abbrev pub turn_text : List ℕ → Line → List ℕ
turn_text s l = let x = byte_turn s l in print_reply x.reply x.runs

-- the text of the reply, with its newline
abbrev pub reply_line : List ℕ → List ℕ → List ℕ
reply_line s line = turn_text s (read_line line) ++ (newline ∷ [])

-- 13: the buffer has fewer than 16 bytes, whatever the line says, or fewer than the text has; nothing lent is
-- altered then. So no request is carried out whose reply cannot be told: only WHEN's can be longer, and WHEN
-- changes nothing.
unfoldable pub text_answer : List ℕ → List ℕ → List ℕ → WrittenText
text_answer s line out =
    let text = reply_line s line in
    let n = length text in
    refused_or (row 13 (ltb (length out) shortest_buffer || ltb (length out) n) ∷ [])
    (λ k. record { refusal = k; count = 0; lent = s; out = out })
    (record { refusal = 0; count = n; lent = (byte_turn s (read_line line)).lent; out = text ++ drop n out })
