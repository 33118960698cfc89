use Rattle.std.proofs.Common.{◌≡◌, true, Bool, ℕ}
use Rattle.foundation.specs.BitMasks.{bit}
use Rattle.words.proofs.SetBitLoops.{Collected}
use Rattle.masks.proofs.subset.those.Given as goal

abbrev pub invariant-loop-r : goal.invariant-loop-r
invariant-loop-r g l =
    (t : ℕ → Bool) → ((r : ℕ) (b : Bool) → bit r l.rules ≡ true → goal.F-post g l.test r b → b ≡ t r) →
    Collected t l.yielded l.m
