-- A session whose input comes in pieces: wherever it is cut, there are the bytes of the base and the line
-- that is not ended yet (`FedUpTo`). At the end of the input the text is that of the session over all of it
-- (`stream-session`).
use Rattle.std.specs.Prelude.{◌≡◌, refl, ℕ, List, [], ◌∷◌, ◌++◌, eqb}
use Rattle.std.proofs.Common.{sym, ap, ◌∙◌, append_assoc, append-nil}
use Rattle.std.proofs.Math.Seq.{append_snoc}
use Rattle.foundation.specs.Tests.{cases, pick}
use Rattle.model.specs.Base.{empty_base}
use Rattle.model.specs.Encoding.{encode}
use Rattle.model.specs.Text.{newline, extend, split, without_empty_last, print_reply}
use Rattle.model.specs.Session.{session, byte_transcript, byte_session, turns, bytes_after, reply_line}
use Rattle.laws.specs.SessionFacts.{session_bytes}
use Rattle.serving.specs.LineTurns.{line_turn}

-- what a piece has led to: the text that was printed, the bytes of the base, and the line that is not ended
-- yet
pub record FeedResult : Type 0 where
  pub text : List ℕ
  pub lent : List ℕ
  pub pending : List ℕ

-- behind a text
abbrev pub printed : List ℕ → FeedResult → FeedResult
printed text f = record { text = text ++ f.text; lent = f.lent; pending = f.pending }

-- a piece, on the bytes s, behind the bytes of a line: each newline ends a line, which is answered
abbrev pub feed : List ℕ → List ℕ → List ℕ → FeedResult
feed s pending [] = record { text = []; lent = s; pending = pending }
feed s pending (c ∷ w) =
    let answered = printed (reply_line s pending) (feed (line_turn s pending).lent [] w) in
    let longer = feed s (pending ++ (c ∷ [])) w in
    pick (eqb c newline) answered longer

-- the end of the input: a line that is not ended counts if it has a byte
abbrev pub finish : List ℕ → List ℕ → List ℕ
finish s [] = []
finish s (c ∷ p) = reply_line s (c ∷ p)

-- and the bytes of the base then
abbrev pub finish_bytes : List ℕ → List ℕ → List ℕ
finish_bytes s [] = s
finish_bytes s (c ∷ p) = (line_turn s (c ∷ p)).lent

-- all that is printed if the input ends there
abbrev pub ending : FeedResult → List ℕ
ending f = f.text ++ finish f.lent f.pending

-- ---- where the input is cut is of no account

printed-twice : (a b : List ℕ) (f : FeedResult) → printed a (printed b f) ≡ printed (a ++ b) f
printed-twice a b f =
    ap {B = FeedResult} (λ (t : List ℕ). record { text = t; lent = f.lent; pending = f.pending })
    (sym (append_assoc a b f.text))

pub feed_append : (s pending v w : List ℕ) →
    feed s pending (v ++ w)
    ≡ printed (feed s pending v).text (feed (feed s pending v).lent (feed s pending v).pending w)
feed_append s pending [] w = refl
feed_append s pending (c ∷ v) w = cases (eqb c newline)
    (λ p. let f = feed (line_turn s pending).lent [] v in
    rw p (ap (printed (reply_line s pending)) (feed_append (line_turn s pending).lent [] v w)
    ∙ printed-twice (reply_line s pending) f.text (feed f.lent f.pending w)))
    (λ p. rw p (feed_append s (pending ++ (c ∷ [])) v w))

-- all of `input` but `rest` was fed: `text` was printed, the bytes are s', and `left` is the line that is not
-- ended
pub record FedUpTo (s pending input rest text s' left : List ℕ) : Type 0 where
  pub done : List ℕ
  pub parts : done ++ rest ≡ input
  pub fed : feed s pending done ≡ record { text = text; lent = s'; pending = left }

pub feeds-then : {s pending input middle text s' left rest text' s'' left' : List ℕ} →
    FedUpTo s pending input middle text s' left → FedUpTo s' left middle rest text' s'' left' →
    FedUpTo s pending input rest (text ++ text') s'' left'
feeds-then {s} {pending} {rest = rest} {text' = text'} f g = record {
  done = f.done ++ g.done;
  parts = append_assoc f.done g.done rest ∙ ap (λ (v : List ℕ). f.done ++ v) g.parts ∙ f.parts;
  fed = feed_append s pending f.done g.done ∙ rw (f.fed, g.fed);
}

-- ---- the whole input is a session

-- some bytes in front of the first part
abbrev onto : List ℕ → List (List ℕ) → List (List ℕ)
onto p [] = p ∷ []
onto p (q ∷ ps) = (p ++ q) ∷ ps

onto-extend : (p : List ℕ) (c : ℕ) (ps : List (List ℕ)) → onto p (extend c ps) ≡ onto (p ++ (c ∷ [])) ps
onto-extend p c [] = refl
onto-extend p c (q ∷ ps) = ap (λ (r : List ℕ). r ∷ ps) (sym (append_snoc p c q))

onto_none : (c : ℕ) (ps : List (List ℕ)) → onto [] (extend c ps) ≡ extend c ps
onto_none c [] = refl
onto_none c (q ∷ ps) = refl

onto-split : (w : List ℕ) → onto [] (split newline w) ≡ split newline w
onto-split [] = refl
onto-split (c ∷ w) = cases (eqb c newline)
    (λ e. rw e)
    (λ e. rw e (onto_none c (split newline w)))

parts_more : (p q : List ℕ) (ps : List (List ℕ)) → without_empty_last (p ∷ q ∷ ps) ≡ p ∷ without_empty_last
    (q ∷ ps)
parts_more [] q ps = refl
parts_more (c ∷ p) q ps = refl

parts-onto : (p : List ℕ) (ps : List (List ℕ)) → without_empty_last (p ∷ onto [] ps) ≡ p ∷ without_empty_last
    (onto [] ps)
parts-onto p [] = parts_more p [] []
parts-onto p (q ∷ ps) = parts_more p q ps

finish-lines : (s p : List ℕ) → finish s p ≡ byte_transcript (without_empty_last (p ∷ [])) s
finish-lines s [] = refl
finish-lines s (c ∷ p) = refl

-- a newline ends the line that is not ended yet
ended_line : (p w : List ℕ) → without_empty_last ((p ++ []) ∷ split newline w) ≡ p ∷ without_empty_last
    (onto [] (split newline w))
ended_line p w = rw (append-nil p) (ap (λ (ps : List (List ℕ)). without_empty_last (p ∷ ps))
    (sym (onto-split w))
    ∙ parts-onto p (split newline w))

-- the lines from the one that is not ended yet on
fed_lines : (s p w : List ℕ) → ending (feed s p w) ≡ byte_transcript
    (without_empty_last (onto p (split newline w))) s
fed_lines s p [] = finish-lines s p ∙ rw (append-nil p)
fed_lines s p (c ∷ w) = cases (eqb c newline)
    (λ e.
    let t = (line_turn s p).lent in
    let f = feed t [] w in
    let text = print_reply (line_turn s p).reply (line_turn s p).runs in
    let rest = without_empty_last (onto [] (split newline w)) in
    rw e (append_assoc (reply_line s p) f.text (finish f.lent f.pending)
    ∙ ap (λ (x : List ℕ). reply_line s p ++ x) (fed_lines t [] w)
    ∙ append_snoc text newline (byte_transcript rest t)
    ∙ sym (ap (λ (ls : List (List ℕ)). byte_transcript ls s) (ended_line p w))))
    (λ e. rw e (fed_lines s (p ++ (c ∷ [])) w
    ∙ ap (λ (ls : List (List ℕ)). byte_transcript (without_empty_last ls) s)
    (sym (onto-extend p c (split newline w)))))

-- the base's bytes after those lines
finish-turns : (s p : List ℕ) → finish_bytes s p ≡ turns (without_empty_last (p ∷ [])) s
finish-turns s [] = refl
finish-turns s (c ∷ p) = refl

fed_turns : (s p w : List ℕ) →
    finish_bytes (feed s p w).lent (feed s p w).pending ≡ turns (without_empty_last (onto p (split newline w)))
    s
fed_turns s p [] = finish-turns s p ∙ rw (append-nil p)
fed_turns s p (c ∷ w) = cases (eqb c newline)
    (λ e. rw e (fed_turns (line_turn s p).lent [] w
    ∙ sym (ap (λ (ls : List (List ℕ)). turns ls s) (ended_line p w))))
    (λ e. rw e (fed_turns s (p ++ (c ∷ [])) w
    ∙ ap (λ (ls : List (List ℕ)). turns (without_empty_last ls) s) (sym (onto-extend p c (split newline w)))))

-- the base's bytes at the end of the input are those after the session over it
pub stream_base : (input : List ℕ) →
    (let f = feed (encode empty_base) [] input in finish_bytes f.lent f.pending ≡ bytes_after input)
stream_base input =
    fed_turns (encode empty_base) [] input
    ∙ ap (λ (ls : List (List ℕ)). turns (without_empty_last ls) (encode empty_base)) (onto-split input)

-- "The program starts with an empty base"
pub stream_session : (input : List ℕ) → ending (feed (encode empty_base) [] input) ≡ session input
unfolding byte_session
stream_session input =
    fed_lines (encode empty_base) [] input
    ∙ ap (λ (ls : List (List ℕ)). byte_transcript (without_empty_last ls) (encode empty_base)) (onto-split input)
    ∙ session_bytes input
