use Rattle.std.proofs.Common.{◌≡◌, ◌++◌, ◌-◌, ◌≤◌, length, take, drop, List, ℕ}
use Rattle.fields.proofs.move_up.Given as goal

-- s with the bytes from index i on moved up already
abbrev pub raised : List ℕ → ℕ → ℕ → List ℕ
raised s w i = take i s ++ drop (i - w) (take (length s - w) s)

abbrev pub invariant-loop-i : goal.invariant-loop-i
invariant-loop-i l = (l.w ≤ l.i) × (l.i ≤ length l.initial.s) × (length l.s ≡ length l.initial.s) × (l.s ≡ raised l.initial.s l.w l.i)
