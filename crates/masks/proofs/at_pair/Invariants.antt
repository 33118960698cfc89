use mathlib.Core.Path.{◌≡◌}
use mathlib.Core.Bool.{true}
use mathlib.Core.List.{List}
use Prim.Native.Nat.{ℕ, ◌+◌}
use lib.ListN.{get_or}
use Rattle.foundation.specs.BitMasks.{bit}
use Rattle.words.proofs.SetBitLoops.{ForEach}
use Rattle.masks.proofs.at_pair.Given as goal

-- m has the rules that stand on mode k
abbrev pub Has : List ℕ → ℕ → ℕ → Type 0
Has left m k = (r : ℕ) → bit r (get_or left (130 + k) 0) ≡ true → bit r m ≡ true

abbrev pub invariant-loop-k : goal.invariant-loop-k
invariant-loop-k l = ForEach l.yielded (Has l.left l.m)
