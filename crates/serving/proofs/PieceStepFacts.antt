-- One step through a piece of input does what `feed` says: a line was answered (`step-ended`), or it goes on
-- (`step-goes-on`).
use mathlib.Core.Path.{◌≡◌, refl, sym, ap, ◌∙◌, subst}
use Prim.Native.Nat.{ℕ, ◌≤◌, ◌<◌}
use native.Mathlib.Omega.{arith}
use mathlib.Core.Bool.{true, false}
use mathlib.Core.List.{List, [], ◌∷◌, ◌++◌, append-nil}
use lib.ListN.{length, take, drop}
use lib.Seq.{drop-length, append_snoc}
use Rattle.model.specs.Soundness.{sound_bytes}
use Rattle.model.specs.Text.{newline}
use Rattle.serving.specs.declared.taking.Reached.{Reached}
use Rattle.serving.specs.LineTurns.{Turned, LineKept}
use Rattle.laws.specs.FirstLine.{before_newline}
use Rattle.serving.specs.Pieces.{Took}
use Rattle.laws.specs.FirstLine.{before_all, before_behind, before_none}
use Rattle.serving.proofs.PieceFacts.{kept_turned, kept_none}
use Rattle.serving.specs.Stream.{finish, finish_bytes}
use Rattle.serving.proofs.StreamFacts.{feed-line, feed_goes_on}
use Rattle.serving.specs.PieceSteps.{PieceStepped}

-- a line was answered
pub step_ended : {s pending piece : List ℕ} {from : ℕ} {r : Reached} {line' : List ℕ} {n : ℕ}
    {out s' : List ℕ} →
    Took pending piece from r line' → r.ended ≡ true → Turned s (take r.len line') n out s' →
    24001 ≤ length out → PieceStepped s pending piece from (record { n = n; len = 0; at = r.at }) s' line'
    out
step_ended {s} {pending} {piece} {from} {r} {line'} {n} {out} {s'} k e t room =
    let u = kept_turned k.kept t in
    let w = drop from piece in
    record {
      left = [];
      kept = kept_none line' k.kept.size;
      feeds = record {
        done = before_newline w ++ (newline ∷ []);
        parts = append_snoc (before_newline w) newline (drop r.at piece)
            ∙ ap (λ (v : List ℕ). before_newline w ++ (newline ∷ v)) k.rest
            ∙ sym (before_behind w (sym k.ended ∙ e));
        fed = feed-line s pending (before_newline w) (before_none w) ∙ rw (u.text, u.bytes);
      };
      sound = t.sound;
      few = omega (arith, t.few);
      within = k.within;
      further = λ h. k.further e;
    }

-- the piece ended before the line
pub step_goes_on : {s pending piece : List ℕ} {from : ℕ} {r : Reached} {line' out : List ℕ} →
    Took pending piece from r line' → r.ended ≡ false → sound_bytes s ≡ true →
    PieceStepped s pending piece from (record { n = 0; len = r.len; at = r.at }) s line' out
step_goes_on {s} {pending} {piece} {from} {r} {line'} {out} k e h =
    let w = drop from piece in
    let none = sym k.ended ∙ e in
    record {
      left = pending ++ w;
      kept = subst (λ (p : List ℕ). LineKept (pending ++ p) r.len line') (before_all w none) k.kept;
      feeds = record {
        done = w;
        parts = rw (k.whole e, drop-length piece) (append-nil w);
        fed = feed_goes_on s pending w none;
      };
      sound = h;
      few = omega arith;
      within = k.within;
      further = λ h. omega (arith, k.whole e);
    }

-- ---- the end of the input

-- no byte is kept of a line that has none
pub finish_none : (s pending : List ℕ) {len : ℕ} {line : List ℕ} → LineKept pending len line → len ≡ 0 →
    ([] ≡ finish s pending) × (s ≡ finish_bytes s pending)
finish_none s [] k e = (refl, refl)
finish_none s (c ∷ p) k e = absurd (omega (arith, k.count))

-- of any other line there is one, and it is answered
pub finish-line : (s pending : List ℕ) {len : ℕ} {line : List ℕ} {n : ℕ} {out s' : List ℕ} →
    LineKept pending len line →
    0 < len → Turned s (take len line) n out s' →
    (take n out ≡ finish s pending) × (s' ≡ finish_bytes s pending)
finish-line s [] k h t = absurd (omega (arith, k.count))
finish-line s (c ∷ p) k h t = let u = kept_turned k t in (u.text, u.bytes)
