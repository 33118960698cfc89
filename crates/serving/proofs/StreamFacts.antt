-- What one line of a piece feeds, and a piece of input fed at once or in parts (`feeds-more`, `feeds-front`).
use mathlib.Core.Path.{◌≡◌, refl, sym, ap, ◌∙◌}
use Prim.Native.Nat.{ℕ}
use mathlib.Core.Bool.{false, true≢false}
use mathlib.Core.List.{List, [], ◌∷◌, ◌++◌, append_assoc, append-nil}
use lib.Dec.{eqb}
use lib.Seq.{append_snoc}
use Rattle.foundation.specs.Tests.{cases}
use Rattle.model.specs.Text.{newline}
use Rattle.model.specs.Session.{reply_line}
use Rattle.serving.specs.LineTurns.{line_turn}
use Rattle.laws.specs.FirstLine.{has_newline}
use Rattle.serving.specs.Stream.{printed, feed, finish, ending, feed_append, FedUpTo}

-- ---- one line of a piece

-- without a newline all of it belongs to the line
pub feed_goes_on : (s pending w : List ℕ) → has_newline w ≡ false →
    feed s pending w ≡ record { text = []; lent = s; pending = pending ++ w }
feed_goes_on s pending [] e = rw (append-nil pending)
feed_goes_on s pending (c ∷ w) e = cases (eqb c newline)
    (λ p. absurd (true≢false (rw p at e)))
    (λ p. rw p (feed_goes_on s (pending ++ (c ∷ [])) w (rw p at e) ∙ rw (append_snoc pending c w)))

-- ---- where the input is cut is of no account

-- a line and its newline: it is answered
pub feed-line : (s pending l : List ℕ) → has_newline l ≡ false →
    feed s pending (l ++ (newline ∷ []))
    ≡ record { text = reply_line s (pending ++ l); lent = (line_turn s (pending ++ l)).lent; pending = [] }
feed-line s pending l e =
    feed_append s pending l (newline ∷ []) ∙ rw (
      feed_goes_on s pending l e,
      append-nil (reply_line s (pending ++ l)),
    )

pub feeds_none : (s pending input : List ℕ) → FedUpTo s pending input input [] s pending
feeds_none s pending input = record { done = []; parts = refl; fed = refl }

module _ {s pending input rest text s' left : List ℕ} (f : FedUpTo s pending input rest text s' left) where
  through : rest ≡ [] → f.done ≡ input
  through e = sym (append-nil f.done) ∙ ap (λ (v : List ℕ). f.done ++ v) (sym e) ∙ f.parts

  -- where nothing is left over
  pub feeds_all : rest ≡ [] → feed s pending input ≡ record { text = text; lent = s'; pending = left }
  feeds_all e = ap (feed s pending) (sym (through e)) ∙ f.fed

  -- input that comes behind it is still to be fed
  pub feeds_more : (more : List ℕ) → rest ≡ [] → FedUpTo s pending (input ++ more) more text s' left
  feeds_more more e = record {
    done = f.done;
    parts = ap (λ (v : List ℕ). v ++ more) (through e);
    fed =
        f.fed;
  }

  -- what was printed comes first of all that is to be printed
  pub feeds_front : ending (feed s pending input) ≡ text ++ ending (feed s' left rest)
  feeds_front =
      let g = feed s' left rest in
      let e : feed s pending (f.done ++ rest) ≡ printed text g =
      feed_append s pending f.done rest ∙ rw f.fed in
      ap (λ (v : List ℕ). ending (feed s pending v)) (sym f.parts) ∙ ap ending e
      ∙ append_assoc text g.text (finish g.lent g.pending)
