-- What a look back finds of a rule: the least start, and whether a rule is at work before an instant.
use mathlib.Core.Path.{◌≡◌, sym, ap, ◌∙◌}
use mathlib.Core.Logic.{◌⊎◌, inl, inr}
use mathlib.Core.Bool.{Bool, false, ◌&&◌}
use mathlib.Core.List.{List}
use Prim.Native.Nat.{ℕ, suc, ◌≤◌}
use native.Mathlib.Omega.{arith}
use lib.Dec.{leb, ltb}
use Rattle.foundation.specs.Tests.{cases, false-le, and-false}
use Rattle.foundation.specs.Intervals.{in_interval}
use Rattle.foundation.specs.declared.Interval.{Interval}
use Rattle.encoding.specs.Format.{rule_at}

-- not active at t, or not before t
abbrev pub Idle : Interval → ℕ → Type 0
Idle q t = (t ≤ q.start) ⊎ (in_interval q t ≡ false)

-- `least` is no later than rule i starts, and unless `back` says that a rule is at work before t, i is not
abbrev pub Seen : List ℕ → ℕ → ℕ → Bool → ℕ → Type 0
Seen body t least back i =
    (least ≤ (rule_at body i).interval.start) × (back ≡ false → Idle (rule_at body i).interval t)

pub idle : (q : Interval) (t : ℕ) → ltb q.start t && leb t q.end ≡ false → Idle q t
idle q t e = cases (ltb q.start t)
    (λ y. let z : leb t q.end ≡ false = ap (λ (b : Bool). b && leb t q.end) (sym y) ∙ e in
    inr (ap (λ (b : Bool). leb q.start t && b) z ∙ and-false (leb q.start t)))
    (λ y. inl (omega (arith, false-le (suc q.start) t y)))
