-- What is kept of a line is read (`kept-reads`) and answered (`kept-turned`) as the whole line would be.
use mathlib.Core.Path.{◌≡◌, refl, sym, ap, ◌∙◌}
use Prim.Native.Nat.{ℕ, ◌≤◌, ◌<◌}
use native.Mathlib.Omega.{arith}
use mathlib.Core.List.{List, [], ◌∷◌, ◌++◌}
use lib.Dec.{leb}
use lib.ListN.{length, take}
use lib.Seq.{take_all, length-take-le}
use Rattle.foundation.specs.Tests.{cases, le-false, true-le, false-le}
use Rattle.model.specs.Text.{newline, unreadable, read_line, print_reply}
use Rattle.model.specs.Session.{ByteTurn, byte_turn}
use Rattle.serving.specs.LineTurns.{Turned, LineKept}

-- a line of more than 96 bytes cannot be read
too_long : (s : List ℕ) → 96 < length s → read_line s ≡ unreadable
unfolding read_line
too_long s h = rw (le-false (length s) 96 h, read_line)

-- the first 97 bytes of a line are read as the line
front_reads : (s : List ℕ) → read_line (take 97 s) ≡ read_line s
front_reads s = cases (leb (length s) 96)
    (λ e. let h = true-le (length s) 96 e in ap read_line (take_all 97 s (omega arith)))
    (λ e. let h = false-le (length s) 96 e in
    let l = length-take-le 97 s (omega arith) in
    too_long (take 97 s) (omega arith) ∙ sym (too_long s h))

pub kept_reads : {pending : List ℕ} {len : ℕ} {line : List ℕ} → LineKept pending len line →
    read_line (take len line) ≡ read_line pending
kept_reads {pending} k = ap read_line k.front ∙ front_reads pending

-- the answer to what is kept is the answer to the line
pub kept_turned : {pending : List ℕ} {len : ℕ} {line s : List ℕ} {n : ℕ} {out s' : List ℕ} →
    LineKept pending len line →
    Turned s (take len line) n out s' → Turned s pending n out s'
kept_turned {s = s} k t =
    let e = ap (byte_turn s) (kept_reads k) in
    record {
      text = t.text ∙ ap (λ (x : ByteTurn). print_reply x.reply x.runs ++ (newline ∷ [])) e;
      few = t.few;
      bytes = t.bytes ∙ ap (λ (x : ByteTurn). x.lent) e;
      sound = t.sound;
    }

-- at the start nothing is kept
pub kept_none : (line : List ℕ) → length line ≡ 97 → LineKept [] 0 line
kept_none line h = record { count = refl; front = refl; size = h }

-- whatever the first bytes are, there is a line of which they are kept
pub kept_front : {len : ℕ} {line : List ℕ} → len ≤ 97 → length line ≡ 97 → LineKept (take len line) len line
kept_front {len} {line} h z =
    let l = length-take-le len line (omega arith) in
    record { count = omega arith; front = sym (take_all 97 (take len line) (omega arith)); size = z }
