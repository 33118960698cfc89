-- A row that is filled from its front, part by part, and a column that is filled.
use mathlib.Core.Path.{◌≡◌, refl, sym, ap, ◌∙◌}
use mathlib.Core.List.{List, [], ◌++◌, append_assoc, append-nil}
use Prim.Native.Nat.{ℕ, ◌+◌, ◌-◌, ◌≤◌}
use native.Mathlib.Omega.{arith}
use lib.ListN.{length, take, drop, replicate, length-append, length-drop, length-replicate}
use lib.ListN.{replicate-append-replicate, drop_of_length-le}
use lib.Seq.{take_at, drop_at, drop-drop, take-length, length-take-le}
use Rattle.fields.specs.Field.{splice}
use Rattle.fields.proofs.ByteLaws.{part-back}
use Rattle.model.specs.Text.{space}
use Rattle.model.specs.Report.{aligned}
use Rattle.model.specs.ReportFacts.{aligned-width}

-- blanks, with the text at their end
pub right : (w : ℕ) (text : List ℕ) → length text ≤ w →
    splice (w - length text) text (replicate w space) ≡ aligned w text
unfolding splice aligned
right w text h =
    let n = w - length text in
    let whole : w ≡ n + length text = omega arith in
    let blanks : replicate w space ≡ replicate n space ++ replicate (length text) space =
    ap (λ (k : ℕ). replicate k space) whole ∙ sym (replicate-append-replicate n (length text) space) in
    let front : take n (replicate w space) ≡ replicate n space =
    ap (take n) blanks ∙ take_at (replicate n space) (replicate (length text) space) n
    (length-replicate n space) in
    let behind : drop (n + length text) (replicate w space) ≡ [] =
    drop_of_length-le (replicate w space) {i = n + length text}
    (rw (length-replicate w space) (omega arith)) in
    rw (front, behind) (append-nil (replicate n space ++ text))

-- s with y in the place of its part from a to e, as it comes back from who was lent it
abbrev pub put : List ℕ → ℕ → ℕ → List ℕ → List ℕ
put s a e y = take a s ++ (y ++ drop (e - a) (drop a s))

-- s begins with n bytes of text, and goes on as s₀ does
pub record BeginsWith (s₀ text s : List ℕ) (n : ℕ) : Type 0 where
  pub long : length text ≡ n
  pub bytes : s ≡ text ++ drop n s₀

pub begun_none : (s : List ℕ) → BeginsWith s [] s 0
begun_none s = record { long = refl; bytes = refl }

module _ {s₀ text s : List ℕ} {a : ℕ} (b : BeginsWith s₀ text s a) where
  pub begun-length : a ≤ length s₀ → length s ≡ length s₀
  begun-length h = omega (
    arith,
    ap length b.bytes ∙ length-append text (drop a s₀),
    length-drop a s₀,
    b.long,
  )

  -- what is lent behind the text
  pub begun-room : (e : ℕ) → a ≤ e → e ≤ length s₀ → length (take (e - a) (drop a s)) ≡ e - a
  begun-room e h k = length-take-le (e - a) (drop a s)
      (omega (arith, length-drop a s, begun-length (omega arith)))

  -- a part behind the text is filled with y
  pub begun-part : (e : ℕ) (y : List ℕ) → a ≤ e → length y ≡ e - a →
      BeginsWith s₀ (text ++ y) (put s a e y) e
  begun-part e y h l =
      let front : take a s ≡ text = ap (take a) b.bytes ∙ take_at text (drop a s₀) a b.long in
      let rest : drop a s ≡ drop a s₀ = ap (drop a) b.bytes ∙ drop_at text (drop a s₀) a b.long in
      let whole : a + (e - a) ≡ e = omega arith in
      let behind : drop (e - a) (drop a s₀) ≡ drop e s₀ =
      drop-drop (e - a) a s₀ ∙ ap (λ (n : ℕ). drop n s₀) whole in
      record {
        long = omega (arith, length-append text y, b.long);
        bytes = rw (front, rest, behind) (sym (append_assoc text y (drop e s₀)));
      }

  -- with a text that is right-aligned in it
  pub begun_column : (e : ℕ) (t y : List ℕ) → a ≤ e → e ≤ length s₀ → length t ≤ e - a →
      y ≡ aligned (length (take (e - a) (drop a s))) t →
      BeginsWith s₀ (text ++ aligned (e - a) t) (put s a e y) e
  begun_column e t y h k l q =
      let f : y ≡ aligned (e - a) t = q ∙ ap (λ (n : ℕ). aligned n t) (begun-room e h k) in
      rw f (begun-part e (aligned (e - a) t) h (aligned-width (e - a) t l))

  -- bytes are put behind the text
  pub begun-splice : (bs : List ℕ) → a + length bs ≤ length s₀ →
      BeginsWith s₀ (text ++ bs) (splice a bs s) (a + length bs)
  begun-splice bs h =
      let e = a + length bs in
      let d : length bs ≡ a + length bs - a = omega arith in
      rw (← part-back s a (a + length bs) bs (omega arith) (omega (arith, begun-length (omega arith))) d)
      (begun-part (a + length bs) bs (omega arith) d)

-- the row is full
pub begun_all : {s₀ text s : List ℕ} {n : ℕ} → BeginsWith s₀ text s n → length s₀ ≡ n → s ≡ text
begun_all {s₀} {text} {n = n} b h =
    b.bytes
    ∙ ap (λ (r : List ℕ). text ++ r) (drop_of_length-le s₀ {i = n} (omega arith))
    ∙ append-nil text
