-- What a rule derives over a window, as a word: of the words that say at which instants the rule is active
-- and its right side is held, and of whether the rule is broken, as a rule is that looks back, has started
-- before the window and gave nothing at the instant before it. And the words of accesses, table by table.
use Rattle.std.specs.Prelude.{ℕ, ◌*◌, ◌/◌, ◌^◌, Bool}
use Rattle.std.specs.Int.Bits.{bit_and}
use Rattle.foundation.specs.Tests.{pick}
use Rattle.model.specs.declared.Access.{Access}
use Rattle.model.specs.declared.Operator.{Operator}
use Rattle.model.specs.Stratification.{negating, lasting}
use Rattle.words.specs.Ones.{ones}
use Rattle.words.specs.Bits.{less}

-- the active instants at which the right side is as the operator wants
abbrev pub wanted_word : Operator → ℕ → ℕ → ℕ
wanted_word o held active = pick (negating o) (less active held) (bit_and active held)

-- what the rule derives, a being its first active instant
abbrev pub derived_word : Operator → ℕ → ℕ → Bool → ℕ → ℕ
derived_word o held active broken a =
    let x = wanted_word o held active in
    pick (lasting o) (pick broken 0 (ones (x / 2 ^ a) * 2 ^ a)) x

-- the word of each access in each table
abbrev pub AccessWords : Type 0
AccessWords = ℕ → Access → ℕ
