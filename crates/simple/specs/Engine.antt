-- What the engine's functions are to say of lent bytes, in the words of crate model.
use Rattle.std.specs.Prelude.{Bool, not, ◌&&◌, List, ℕ}
use Rattle.foundation.specs.Tests.{pick}
use Rattle.foundation.specs.Lists.{Mem, anyb}
use Rattle.foundation.specs.Intervals.{always}
use Rattle.model.specs.declared.Rule.{Rule}
use Rattle.model.specs.declared.Pattern.{Pattern}
use Rattle.model.specs.Base.{Base}
use Rattle.model.specs.Support.{live}
use Rattle.model.specs.Rules.{fact, fits, derives_for, holds}
use Rattle.model.specs.Rules.{derived, holding}
use Rattle.model.specs.Encoding.{decode}

-- p is held at t
abbrev pub held_at : List ℕ → Pattern → ℕ → Bool
held_at s p t = holds always (decode s) t p

-- p counts as held on a right side at t
abbrev pub in_force_at : List ℕ → Pattern → ℕ → Bool
in_force_at s p t = holding (decode s) t p

-- some authorization gives p at t
abbrev pub granted_at : List ℕ → Pattern → ℕ → Bool
granted_at s p t = anyb (fits p) (live t (decode s).authorizations)

-- a rule of the base
abbrev pub RuleOfBase : List ℕ → Rule → Type 0
RuleOfBase s r = Mem r (decode s).rules

-- the rule gives p at t
abbrev pub gives_in : Base → Pattern → ℕ → Rule → Bool
gives_in b p t r = derives_for b p r && derived b (fact r p.access t)

abbrev pub given_at : List ℕ → Rule → Pattern → ℕ → Bool
given_at s r p t = gives_in (decode s) p t r

-- what is wanted of p at u: that it counts as held on a right side, or that it does not
abbrev pub wanted_in : Base → Pattern → Bool → ℕ → Bool
wanted_in b p wanted u = pick wanted (holding b u p) (not (holding b u p))

-- and so at every instant from a to t
abbrev pub wanted_from : List ℕ → Pattern → ℕ → ℕ → Bool → Bool
wanted_from s p a t wanted = always a t (wanted_in (decode s) p wanted)
