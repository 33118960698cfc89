-- A session through the library's answers over lent bytes is the session: `session-bytes`. The bytes always
-- encode the base that the session has, which is sound.
use Rattle.std.specs.Prelude.{◌≡◌, refl, ℕ, ◌*◌, ◌/◌, ◌≤◌, true, List, [], ◌∷◌, ◌++◌, eqb, length, drop}
use Rattle.std.proofs.Common.{sym, ap₂, ◌∙◌, arith}
use Rattle.std.proofs.Math.Path.{ap, subst₂}
use Rattle.std.proofs.lemmas.List.{length-replicate}
use Rattle.foundation.specs.Tests.{cases, true_eq, false_eq}
use Rattle.foundation.specs.declared.Interval.{Interval}
use Rattle.model.specs.declared.Request.{Request}
use Rattle.model.specs.declared.Access.{Access}
use Rattle.model.specs.declared.Question.{Question}
use Rattle.model.specs.declared.Reply.{Reply}
use Rattle.model.specs.declared.Reply.TheVariants.{Refused, Runs}
use Rattle.model.specs.Base.{Base, empty_base}
use Rattle.model.specs.Rules.{may, when}
use Rattle.model.proofs.HoldsMarks.{when-count}
use Rattle.model.specs.Means.{plainly}
use Rattle.model.specs.Questions.{as_defined}
use Rattle.model.specs.Step.{first_number, refused_or, Outcome, refusal, step}
use Rattle.model.proofs.StepFacts.{answered, turned_away, step-accepted, step-refused}
use Rattle.model.specs.Encoding.{encode}
use Rattle.model.specs.EncodingFacts.{decode-encode, encode-sound, empty_sound}
use Rattle.model.specs.FitsFacts.{counts_fit_lem}
use Rattle.model.specs.Soundness.{sound}
use Rattle.model.specs.SoundnessFacts.{sound_tests_lem}
use Rattle.model.specs.Answers.{Answer, answering, refusing, may_table, when_table, may_reply, words, may_answer}
use Rattle.model.specs.Answers.{when_answer}
use Rattle.model.specs.Text.{Line, order, asks_may, asks_when, unreadable, newline, lines, read_line, print_runs}
use Rattle.model.specs.Text.{print_reply}
use Rattle.model.specs.Session.{Turn, pairs, turn, transcript, session, ByteTurn, pairs_of, runs_of, when_list}
use Rattle.model.specs.Session.{byte_turn}
use Rattle.model.specs.Session.{byte_transcript, byte_session}
use Rattle.laws.specs.Preservation.{effect-sound}
use Rattle.laws.specs.RequestFacts.{request-accepted, request-refused}

-- a turn through the bytes and one on the base print the same and leave the same base, a sound one
record SameTurn (x : ByteTurn) (y : Turn) : Type 0 where
  text : print_reply x.reply x.runs ≡ print_reply y.reply y.runs
  bytes : x.lent ≡ encode y.base
  kept : sound y.base ≡ true

pub words-length : (xs : List Interval) → length (words xs) ≡ 2 * length xs
words-length [] = refl
words-length (i ∷ xs) = omega (arith, words-length xs)

-- pairs written are read back
pairs-back : (runs : List Interval) (rest : List ℕ) → pairs_of (length runs) (words runs ++ rest) ≡ runs
pairs-back [] rest = refl
pairs-back (i ∷ runs) rest = ap (λ (is : List Interval). i ∷ is) (pairs-back runs rest)

list_pairs : length when_list / 2 ≡ pairs
unfolding when_list
list_pairs = ap (λ (n : ℕ). n / 2) (length-replicate {A = ℕ} (2 * pairs) 0)

module _ (b : Base) (s : sound b ≡ true) where
  abbrev Both : Answer → Outcome → Type 0
  Both a o = SameTurn (record { reply = a.reply; runs = []; lent = a.lent })
      (record { reply = o.reply; runs = []; base = o.base })

  ordered : (q : Request) → SameTurn (byte_turn (encode b) (order q)) (turn plainly as_defined b (order q))
  unfolding step
  ordered q = cases (eqb (refusal plainly b q) 0)
      (λ e. let z = true_eq (refusal plainly b q) 0 e in
      subst₂ Both (sym (request-accepted b q s z)) (sym (step-accepted b q z))
      (record { text = refl; bytes = refl; kept = effect-sound b q s z }))
      (λ e. let n = false_eq (refusal plainly b q) 0 e in
      subst₂ Both (sym (request-refused b q s n)) (sym (step-refused b q n))
      (record { text = refl; bytes = refl; kept = s }))

  asked-may : (q : Question) → SameTurn (byte_turn (encode b) (asks_may q))
      (turn plainly as_defined b (asks_may q))
  unfolding may_answer
  asked-may q =
      let e : may_answer (encode b) q ≡ refused_or (may_table b q) Refused
      (may_reply (may b q.access q.instant)) =
      rw (encode-sound b s, decode-encode b s) in
      record { text = ap (λ (r : Reply). print_reply r []) e; bytes = refl; kept = s }

  -- WHEN over the bytes and the list
  when_answer_lem : (x : Access) → when_answer (encode b) x when_list
      ≡ refused_or (when_table b x pairs (length (when b x))) (refusing when_list)
      (answering (Runs (length (when b x))) (words (when b x) ++ drop (2 * length (when b x)) when_list))
  unfolding when_answer
  when_answer_lem x = rw (encode-sound b s, decode-encode b s, list_pairs)

  asked-when : (x : Access) → SameTurn (byte_turn (encode b) (asks_when x))
      (turn plainly as_defined b (asks_when x))
  asked-when x =
      let rows = when_table b x pairs (length (when b x)) in
      let a = answering (Runs (length (when b x)))
      (words (when b x) ++ drop (2 * length (when b x)) when_list) in
      record {
        text = ap shown_runs (when_answer_lem x) ∙ cases (eqb (first_number rows) 0)
            (λ e. let z = true_eq (first_number rows) 0 e in
            ap shown_runs (answered rows (refusing when_list) a z)
            ∙ ap print_runs (pairs-back (when b x) (drop (2 * length (when b x)) when_list))
            ∙ ap (λ (r : Reply). print_reply r (when b x))
            (sym (answered rows Refused (Runs (length (when b x))) z)))
            (λ e. let n = false_eq (first_number rows) 0 e in
            ap shown_runs (turned_away rows (refusing when_list) a n)
            ∙ ap (λ (r : Reply). print_reply r (when b x))
            (sym (turned_away rows Refused (Runs (length (when b x))) n)));
        bytes = refl;
        kept = s;
      }
    where
      -- what is printed of a WHEN's answer
      shown_runs : Answer → List ℕ
      shown_runs a = print_reply a.reply (runs_of a.reply a.lent)

  same_turn : (l : Line) → SameTurn (byte_turn (encode b) l) (turn plainly as_defined b l)
  same_turn (order q) = ordered q
  same_turn (asks_may q) = asked-may q
  same_turn (asks_when x) = asked-when x
  same_turn unreadable = record { text = refl; bytes = refl; kept = s }

pub same_transcript : (ls : List (List ℕ)) (b : Base) → sound b ≡ true →
    byte_transcript ls (encode b) ≡ transcript plainly as_defined ls b
same_transcript [] b s = refl
same_transcript (l ∷ ls) b s =
    let w = same_turn b s (read_line l) in
    ap₂ (λ (x y : List ℕ). x ++ (newline ∷ y)) w.text
    (ap (byte_transcript ls) w.bytes ∙ same_transcript ls (turn plainly as_defined b (read_line l)).base
    w.kept)

-- the program may keep its base as bytes and ask the library
pub session_bytes : (input : List ℕ) → byte_session input ≡ session input
unfolding byte_session session
session_bytes input = same_transcript (lines input) empty_base empty_sound

-- ---- "a list of 1,100 pairs, which always suffices" (theorem 5; `list-suffices` in Refusals)

-- at most 1,089 runs: as many as there can be authorizations and rules, and one
pub when-most : (b : Base) → sound b ≡ true → (x : Access) → length (when b x) ≤ 1089
when-most b s x =
    let c = counts_fit_lem b (sound_tests_lem b s).counts in
    omega (arith, when-count b x, c.authorizations, c.rules)
