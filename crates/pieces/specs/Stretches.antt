-- The maximal intervals of a stretch, whose end is not in it.
use Rattle.std.specs.Prelude.{ℕ, ◌-◌, Bool, ◌&&◌, List, leb, ltb}
use Rattle.foundation.specs.declared.Interval.{Interval}
use Rattle.foundation.specs.Intervals.{maximal_from}

-- t is one of the instants from a on, before b
abbrev pub in_stretch : ℕ → ℕ → ℕ → Bool
in_stretch a b t = leb a t && ltb t b

-- the maximal intervals of those where f holds
unfoldable pub maximal_to : ℕ → ℕ → (ℕ → Bool) → List Interval
unfolding maximal_from
maximal_to a b f = maximal_from f a (b - a)
