-- What a transcript that agrees says: in each case the replies are those of the model's session, on an empty
-- base, to the lines of the case (`case-said`, and `case-behind` for the cases behind a title). For lines and
-- replies in turn that is `pairs-said`.
use Rattle.std.specs.Prelude.{◌≡◌, refl, ℕ, true, false, ◌&&◌, ◌||◌, List, [], ◌∷◌, ◌++◌, leb, eqb, length, get_or}
use Rattle.std.proofs.Common.{sym, ap, ◌∙◌, arith, append_assoc}
use Rattle.foundation.specs.Tests.{cases, pick, le-true, and-true, true_eq, false_eq, and_yes}
use Rattle.foundation.specs.Bytes.{eq_list_eq}
use Rattle.model.specs.Base.{empty_base}
use Rattle.model.specs.EncodingFacts.{empty_sound}
use Rattle.model.specs.Means.{plainly}
use Rattle.model.specs.Questions.{as_defined}
use Rattle.model.specs.Text.{newline, space, print_reply}
use Rattle.model.specs.Session.{transcript, byte_transcript, reply_line}
use Rattle.laws.specs.SessionFacts.{same_transcript}
use Rattle.serving.specs.LineTurns.{line_turn}
use Rattle.vectors.specs.Transcripts.{marked, opens, asks, tells, unmarked, TranscriptState, stage}
use Rattle.vectors.specs.Transcripts.{fresh, line_stands}
use Rattle.vectors.specs.Transcripts.{next_state}
use Rattle.vectors.specs.Transcripts.{agrees}

-- ---- a case

-- the lines of the session before the next title
abbrev pub asked_lines : List (List ℕ) → List (List ℕ)
asked_lines [] = []
asked_lines (l ∷ rest) = let more = asked_lines rest in pick (opens l) []
    (pick (asks l) (unmarked l ∷ more) more)

-- the replies before it, each with its newline
abbrev pub told_lines : List (List ℕ) → List ℕ
told_lines [] = []
told_lines (l ∷ rest) =
    let more = told_lines rest in
    pick (opens l) [] (pick (tells l) ((unmarked l ++ (newline ∷ [])) ++ more) more)

-- ---- marks part

first_byte : (c : ℕ) (l : List ℕ) → marked c l ≡ true → get_or l 0 0 ≡ c
unfolding marked
first_byte c l e =
    let p = and-true (leb 2 (length l)) (eqb (get_or l 0 0) c && eqb (get_or l 1 0) space) e in
    true_eq (get_or l 0 0) c (and-true (eqb (get_or l 0 0) c) (eqb (get_or l 1 0) space) p.1).0

-- a line has one mark
one_mark : (c d : ℕ) (l : List ℕ) → eqb c d ≡ false → marked c l ≡ true → marked d l ≡ false
one_mark c d l h e = cases (marked d l)
    (λ q. absurd (false_eq c d h (sym (first_byte c l e) ∙ first_byte d l q)))
    (λ q. q)

-- ---- one line

no_bytes : (s : List ℕ) → eqb (length s) 0 ≡ true → s ≡ []
no_bytes [] e = refl
no_bytes (c ∷ s) e = absurd (omega (arith, true_eq (length (c ∷ s)) 0 e))

module _ (g : TranscriptState) (l : List ℕ) where
  stands-told : tells l ≡ true → line_stands g l ≡ true → unmarked l ++ (newline ∷ []) ≡ g.owed
  unfolding line_stands
  stands-told t e = eq_list_eq (unmarked l ++ (newline ∷ [])) g.owed (rw t at e)

  stands_other : tells l ≡ false → line_stands g l ≡ true → g.owed ≡ []
  unfolding line_stands
  stands_other t e =
      no_bytes g.owed
      (and-true (eqb (length g.owed) 0) (eqb (length l) 0 || (opens l || asks l)) (rw t at e)).0

  pub next_opens : opens l ≡ true → next_state g l ≡ fresh
  unfolding next_state
  next_opens o = rw o

  pub next_asks : opens l ≡ false → asks l ≡ true →
      next_state g l ≡ stage (line_turn g.base (unmarked l)).lent (reply_line g.base (unmarked l))
  unfolding next_state
  next_asks o a = rw (o, a)

  pub next_other : opens l ≡ false → asks l ≡ false → next_state g l ≡ stage g.base []
  unfolding next_state
  next_other o a = rw (o, a)

-- ---- the first case

-- what is owed, and the replies to the lines of the case, on the bytes of the base
abbrev answers : TranscriptState → List (List ℕ) → List ℕ
answers g ls = g.owed ++ byte_transcript (asked_lines ls) g.base

module _ (g : TranscriptState) (l : List ℕ) (rest : List (List ℕ)) (s : line_stands g l ≡ true)
    (more : answers (next_state g l) rest ≡ told_lines rest) where
  said-opens : opens l ≡ true → answers g (l ∷ rest) ≡ told_lines (l ∷ rest)
  said-opens o = rw (o, stands_other g l (one_mark 35 60 l refl o) s)

  said-asks : opens l ≡ false → asks l ≡ true → answers g (l ∷ rest) ≡ told_lines (l ∷ rest)
  said-asks o a =
      let t = one_mark 62 60 l refl a in
      let x = line_turn g.base (unmarked l) in
      rw (o, a, t, stands_other g l t s)
      (sym (append_assoc (print_reply x.reply x.runs) (newline ∷ [])
      (byte_transcript (asked_lines rest) x.lent))
      ∙ ap (λ (h : TranscriptState). answers h rest) (sym (next_asks g l o a)) ∙ more)

  said_other : opens l ≡ false → asks l ≡ false → answers g (l ∷ rest) ≡ told_lines (l ∷ rest)
  said_other o a =
      let m = ap (λ (h : TranscriptState). answers h rest) (sym (next_other g l o a)) ∙ more in
      cases (tells l)
      (λ t. rw (o, a, t) (rw (← stands-told g l t s)
      (ap (λ (r : List ℕ). (unmarked l ++ (newline ∷ [])) ++ r) m)))
      (λ t. rw (o, a, t, stands_other g l t s) m)

case_bytes : (g : TranscriptState) (ls : List (List ℕ)) → agrees g ls ≡ true → answers g ls ≡ told_lines ls
case_bytes g [] e = rw (no_bytes g.owed e)
case_bytes g (l ∷ rest) e =
    let p = and-true (line_stands g l) (agrees (next_state g l) rest) e in
    let m = case_bytes (next_state g l) rest p.1 in
    cases (opens l)
    (λ o. said-opens g l rest p.0 m o)
    (λ o. cases (asks l) (λ a. said-asks g l rest p.0 m o a) (λ a. said_other g l rest p.0 m o a))

-- the replies that a transcript tells before its next title are those of the model's session to the lines
-- there
pub case-said : (ls : List (List ℕ)) → agrees fresh ls ≡ true →
    transcript plainly as_defined (asked_lines ls) empty_base ≡ told_lines ls
case-said ls e = sym (same_transcript (asked_lines ls) empty_base empty_sound) ∙ case_bytes fresh ls e

-- and behind every title a case begins of which the same holds
pub case_behind : (g : TranscriptState) (front : List (List ℕ)) (title : List ℕ) (rest : List (List ℕ)) →
    opens title ≡ true →
    agrees g (front ++ (title ∷ rest)) ≡ true → agrees fresh rest ≡ true
case_behind g [] title rest o e =
    let p = and-true (line_stands g title) (agrees (next_state g title) rest) e in
    ap (λ (h : TranscriptState). agrees h rest) (sym (next_opens g title o)) ∙ p.1
case_behind g (l ∷ front) title rest o e =
    let p = and-true (line_stands g l) (agrees (next_state g l) (front ++ (title ∷ rest))) e in
    case_behind (next_state g l) front title rest o p.1

-- ---- lines and replies in turn

pub record Exchange : Type 0 where
  pub input : List ℕ
  pub reply : List ℕ

-- `> input` and `< reply` for each
abbrev pub exchanged : List Exchange → List (List ℕ)
exchanged [] = []
exchanged (x ∷ xs) = (62 ∷ space ∷ x.input) ∷ (60 ∷ space ∷ x.reply) ∷ exchanged xs

abbrev pub inputs : List Exchange → List (List ℕ)
inputs [] = []
inputs (x ∷ xs) = x.input ∷ inputs xs

-- every reply with its newline
abbrev pub replies : List Exchange → List ℕ
replies [] = []
replies (x ∷ xs) = (x.reply ++ (newline ∷ [])) ++ replies xs

has-mark : (c d : ℕ) (l : List ℕ) → marked d (c ∷ space ∷ l) ≡ eqb c d
unfolding marked
has-mark c d l = rw (le-true 2 (length (c ∷ space ∷ l)) (omega arith)) (and_yes (eqb c d))

exchanged-asked : (xs : List Exchange) → asked_lines (exchanged xs) ≡ inputs xs
exchanged-asked [] = refl
exchanged-asked (x ∷ xs) =
    rw (
      has-mark 62 35 x.input,
      has-mark 62 62 x.input,
      has-mark 60 35 x.reply,
      has-mark 60 62 x.reply,
    )
    (ap (λ (ls : List (List ℕ)). x.input ∷ ls) (exchanged-asked xs))

exchanged-told : (xs : List Exchange) → told_lines (exchanged xs) ≡ replies xs
exchanged-told [] = refl
exchanged-told (x ∷ xs) =
    rw (
      has-mark 62 35 x.input,
      has-mark 62 60 x.input,
      has-mark 60 35 x.reply,
      has-mark 60 60 x.reply,
    )
    (ap (λ (t : List ℕ). (x.reply ++ (newline ∷ [])) ++ t) (exchanged-told xs))

pub pairs-said : (xs : List Exchange) → agrees fresh (exchanged xs) ≡ true →
    transcript plainly as_defined (inputs xs) empty_base ≡ replies xs
pairs-said xs e =
    ap (λ (ls : List (List ℕ)). transcript plainly as_defined ls empty_base) (sym (exchanged-asked xs))
    ∙ case-said (exchanged xs) e ∙ exchanged-told xs
