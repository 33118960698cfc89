-- A table says, for one instant, which rule derives its left side for which access (`Bits`); `truth` is the
-- right one.
use Rattle.std.specs.Prelude.{ℕ, Bool}
use Rattle.model.specs.declared.Rule.{Rule}
use Rattle.model.specs.declared.Access.{Access}
use Rattle.model.specs.Base.{Base}
use Rattle.model.specs.Rules.{fact}
use Rattle.model.specs.Rules.{derived}

-- for each rule and access, whether the rule derives its left side for that access
abbrev pub Bits : Type 0
Bits = Rule → Access → Bool

module _ (base : Base) where
  -- what the rules do derive at t
  abbrev pub truth : ℕ → Bits
  truth t r x = derived base (fact r x t)
