-- The fields of a record that starts at a place, as fields of the bytes from there on. Assumes nothing.
use mathlib.Core.Path.{◌≡◌, sym, ap, ◌∙◌}
use mathlib.Core.List.{List}
use Prim.Native.Nat.{ℕ, ◌+◌}
use native.Mathlib.Nat.{add_assoc}
use lib.ListN.{drop, get_or}
use lib.Seq.{get_or-drop}
use Rattle.foundation.specs.Bytes.{le}
use Rattle.foundation.specs.Intervals.{interval}
use Rattle.foundation.specs.BytesFacts.{le_at}

pub byte_at : (s : List ℕ) (at o : ℕ) → get_or s (at + o) 0 ≡ get_or (drop at s) o 0
byte_at s at o = sym (get_or-drop at s o 0)

pub interval_at : (s : List ℕ) (at o : ℕ) →
    interval (le 4 (drop (at + o) s)) (le 4 (drop (at + o + 4) s))
    ≡ interval (le 4 (drop o (drop at s))) (le 4 (drop (o + 4) (drop at s)))
interval_at s at o = λ k. record {
  start = le_at 4 s at o k;
  end = (ap (λ (n : ℕ). le 4 (drop n s)) (add_assoc at o 4) ∙ le_at 4 s at (o + 4)) k;
}
