-- A walk through a piece of input, byte by byte: what is kept of the line, and what is still to come of it.
-- Assumes nothing.
use mathlib.Core.Path.{◌≡◌, refl, sym, ap, ◌∙◌, subst}
use Prim.Native.Nat.{ℕ, suc, ◌+◌, ◌≤◌, ◌<◌}
use native.Mathlib.Numerals.{add-one}
use native.Mathlib.Omega.{arith}
use mathlib.Core.Bool.{true, false, true≢false, false≢true}
use mathlib.Core.List.{List, [], ◌∷◌, ◌++◌, append-nil}
use lib.Dec.{eqb}
use lib.ListN.{length, drop, set, get_or, length-set, length-append}
use lib.Seq.{take_all, take-append-le, take-suc-set, drop-cons, drop-length, append_snoc}
use Rattle.model.specs.Text.{newline}
use Rattle.serving.specs.LineTurns.{LineKept}
use Rattle.laws.specs.FirstLine.{has_newline, before_newline, behind_newline}
use Rattle.serving.specs.Pieces.{Took}

-- ---- one byte more of a line

-- of a line that is too long already no more is kept
pub kept_full : (p : List ℕ) (len : ℕ) (line : List ℕ) (c : ℕ) → 97 ≤ len → LineKept p len line →
    LineKept (p ++ (c ∷ [])) len line
kept_full p len line c h k =
    let l = length-append p (c ∷ []) in
    let long : 97 ≤ length p = omega (arith, k.count) in
    record {
      count = omega (arith, k.count);
      front = k.front ∙ sym (take-append-le 97 p (c ∷ []) long);
      size = k.size;
    }

pub kept_more : (p : List ℕ) (len : ℕ) (line : List ℕ) (c : ℕ) → len < 97 → LineKept p len line →
    LineKept (p ++ (c ∷ [])) (len + 1) (set line len c)
kept_more p len line c h k =
    let l = length-append p (c ∷ []) in
    let all : length p ≡ len = omega (arith, k.count) in
    record {
      count = omega (arith, k.count);
      front = rw add-one (take-suc-set line len c (omega (arith, k.size)))
          ∙ ap (λ (r : List ℕ). r ++ (c ∷ [])) (k.front ∙ take_all 97 p (omega arith))
          ∙ sym (take_all 97 (p ++ (c ∷ [])) (omega arith));
      size = length-set line len c ∙ k.size;
    }

-- ---- the walk

-- from i on the same line is to be ended as from `from` on, and what is kept is the bytes up to there
pub record LineWalk (len : ℕ) (line₀ piece : List ℕ) (from n i : ℕ) (line : List ℕ) : Type 0 where
  pub low : from ≤ i
  pub high : i ≤ length piece
  pub few : n ≤ 97
  pub size : length line ≡ 97
  pub end : has_newline (drop i piece) ≡ has_newline (drop from piece)
  pub rest : behind_newline (drop i piece) ≡ behind_newline (drop from piece)
  pub kept : (pending : List ℕ) → LineKept pending len line₀ →
      (p : List ℕ) × LineKept p n line × (p ++ before_newline (drop i piece) ≡ pending ++ before_newline
      (drop from piece))

pub take-start : (len : ℕ) (line piece : List ℕ) (from : ℕ) → from ≤ length piece → len ≤ 97 →
    length line ≡ 97 →
    LineWalk len line piece from len from line
take-start len line piece from h f z = record {
  low = omega arith;
  high = h;
  few = f;
  size = z;
  end = refl;
  rest = refl;
  kept = λ pending k. (pending, k, refl);
}

module _ {len : ℕ} {line₀ piece : List ℕ} {from n i : ℕ} {line : List ℕ}
    (w : LineWalk len line₀ piece from n i line) where
  -- a byte that is no newline is one more of the line
  pub walk-byte : (n' : ℕ) (line' : List ℕ) → i < length piece → eqb (get_or piece i 0) newline ≡ false →
      ((p : List ℕ) → LineKept p n line → LineKept (p ++ (get_or piece i 0 ∷ [])) n' line') → n' ≤ 97 →
      length line' ≡ 97 →
      LineWalk len line₀ piece from n' (i + 1) line'
  walk-byte n' line' h e more f z =
      let c = get_or piece i 0 in
      let d = drop-cons piece i 0 h in
      let b : before_newline (drop i piece) ≡ c ∷ before_newline (drop (suc i) piece) = rw (d, e) in
      record {
        low = omega (arith, w.low);
        high = omega arith;
        few = f;
        size = z;
        end = rw add-one (sym (ap has_newline d ∙ rw e) ∙ w.end);
        rest = rw add-one (sym (ap behind_newline d ∙ rw e) ∙ w.rest);
        kept = λ pending k. let g = w.kept pending k in (
          g.0 ++ (c ∷ []),
          more g.0 g.1,
          rw add-one (append_snoc g.0 c (before_newline (drop (suc i) piece))
              ∙ ap (λ (r : List ℕ). g.0 ++ r) (sym b) ∙ g.2),
        );
      }

  -- at a newline the line is ended
  pub walk_ended : i < length piece → eqb (get_or piece i 0) newline ≡ true →
      (pending : List ℕ) → LineKept pending len line₀ →
      Took pending piece from (record { len = n; at = i + 1; ended = true }) line
  walk_ended h e pending k =
      let d = drop-cons piece i 0 h in
      let g = w.kept pending k in
      let b : before_newline (drop i piece) ≡ [] = rw (d, e) in
      let same : g.0 ≡ pending ++ before_newline (drop from piece) =
      sym (append-nil g.0) ∙ ap (λ (r : List ℕ). g.0 ++ r) (sym b) ∙ g.2 in
      record {
        ended = sym (ap has_newline d ∙ rw e) ∙ w.end;
        rest = rw add-one (sym (ap behind_newline d ∙ rw e) ∙ w.rest);
        kept = subst (λ (p : List ℕ). LineKept p n line) same g.1;
        within = omega arith;
        further = λ q. omega (arith, w.low);
        whole = λ q. absurd (true≢false q);
      }

  -- at the end of the piece it is not
  pub walk-whole : i ≡ length piece → (pending : List ℕ) → LineKept pending len line₀ →
      Took pending piece from (record { len = n; at = i; ended = false }) line
  walk-whole h pending k =
      let d : drop i piece ≡ [] = rw (h, drop-length piece) in
      let g = w.kept pending k in
      let same : g.0 ≡ pending ++ before_newline (drop from piece) =
      sym (append-nil g.0) ∙ ap (λ (r : List ℕ). g.0 ++ before_newline r) (sym d) ∙ g.2 in
      record {
        ended = sym (ap has_newline d) ∙ w.end;
        rest = d ∙ sym (ap behind_newline d) ∙ w.rest;
        kept = subst (λ (p : List ℕ). LineKept p n line) same g.1;
        within = w.high;
        further = λ q. absurd (false≢true q);
        whole = λ q. h;
      }
