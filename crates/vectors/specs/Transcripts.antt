-- Stored sessions, as the program `vectors` reads them. A transcript is lines: `# title` opens a case on an
-- empty base, `> line` is a line of the session, `< reply` is what the line before it must get, an empty line
-- parts cases. Any other line is a fault. What a transcript that agrees says of the model is in Said.
use Rattle.std.specs.Prelude.{ℕ, suc, Bool, ◌&&◌, ◌||◌, List, [], ◌∷◌, ◌++◌, leb, eqb, length, drop, get_or}
use Rattle.foundation.specs.Tests.{pick}
use Rattle.foundation.specs.Bytes.{eq_list}
use Rattle.model.specs.Base.{empty_base}
use Rattle.model.specs.Encoding.{encode}
use Rattle.model.specs.Text.{newline, space}
use Rattle.model.specs.Session.{reply_line}
use Rattle.serving.specs.LineTurns.{line_turn}

-- ---- the marks of lines

-- a line begins with c and a space
unfoldable pub marked : ℕ → List ℕ → Bool
marked c l = leb 2 (length l) && (eqb (get_or l 0 0) c && eqb (get_or l 1 0) space)

-- #, > and <
abbrev pub opens : List ℕ → Bool
opens l = marked 35 l

abbrev pub asks : List ℕ → Bool
asks l = marked 62 l

abbrev pub tells : List ℕ → Bool
tells l = marked 60 l

-- what stands behind the mark
abbrev pub unmarked : List ℕ → List ℕ
unmarked l = drop 2 l

-- ---- going through the lines

-- the bytes of the base, and the printed reply, with its newline, that is still to be compared ([] if none)
pub record TranscriptState : Type 0 where
  pub base : List ℕ
  pub owed : List ℕ

abbrev pub stage : List ℕ → List ℕ → TranscriptState
stage base owed = record { base = base; owed = owed }

abbrev pub fresh : TranscriptState
fresh = stage (encode empty_base) []

-- a line stands: it tells the reply that is owed, or none is owed and it is of another known kind
unfoldable pub line_stands : TranscriptState → List ℕ → Bool
line_stands g l = pick (tells l)
    (eq_list (unmarked l ++ (newline ∷ [])) g.owed)
    (eqb (length g.owed) 0 && (eqb (length l) 0 || (opens l || asks l)))

-- what is owed of a reply is owed once; a new case forgets the base of the one before
unfoldable pub next_state : TranscriptState → List ℕ → TranscriptState
next_state g l = pick (opens l) fresh
    (pick (asks l) (stage (line_turn g.base (unmarked l)).lent (reply_line g.base (unmarked l)))
    (stage g.base []))

-- every line stands, and no reply is owed at the end
abbrev pub agrees : TranscriptState → List (List ℕ) → Bool
agrees g [] = eqb (length g.owed) 0
agrees g (l ∷ rest) = let r = agrees (next_state g l) rest in line_stands g l && r

-- how many lines stand before the first that does not
abbrev pub count_standing : TranscriptState → List (List ℕ) → ℕ
count_standing g [] = 0
count_standing g (l ∷ rest) = let n = suc (count_standing (next_state g l) rest) in pick (line_stands g l) n 0

-- where the lines that stand have led
abbrev pub state_after : TranscriptState → List (List ℕ) → TranscriptState
state_after g [] = g
state_after g (l ∷ rest) = let h = state_after (next_state g l) rest in pick (line_stands g l) h g

-- the lines from the first that does not stand on
abbrev pub lines_left : TranscriptState → List (List ℕ) → List (List ℕ)
lines_left g [] = []
lines_left g (l ∷ rest) = let ls = lines_left (next_state g l) rest in pick (line_stands g l) ls (l ∷ rest)
