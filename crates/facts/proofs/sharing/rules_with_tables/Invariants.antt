use mathlib.Core.Path.{◌≡◌}
use mathlib.Core.Bool.{true}
use Prim.Native.Nat.{ℕ}
use Rattle.foundation.specs.BitMasks.{bit}
use Rattle.words.specs.SetBits.{among}
use Rattle.facts.proofs.TableSharing.{Served}
use Rattle.facts.proofs.sharing.rules_with_tables.Given as goal

abbrev pub invariant-loop-c : goal.invariant-loop-c
invariant-loop-c l =
    ((i : ℕ) → bit i l.tables ≡ true → bit i l.rules ≡ true)
    × ((i : ℕ) → among i l.yielded ≡ true → Served l.body l.right l.tables i)
