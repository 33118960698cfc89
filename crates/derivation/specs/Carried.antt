-- What a rule derived before a window. Only a rule that looks back and goes on in the window wants to know
-- it, and all it wants to know is whether the rule is broken, as it is once it gave nothing at an instant of
-- its interval (`Carried`).
use Rattle.std.specs.Prelude.{◌≡◌, ℕ, ◌-◌, ◌≤◌, ◌<◌, Bool, true, false, not}
use Rattle.foundation.specs.Intervals.{in_interval}
use Rattle.model.specs.declared.Rule.{Rule}
use Rattle.model.specs.declared.Access.{Access}
use Rattle.model.specs.Base.{Base}
use Rattle.model.specs.Stratification.{lasting}
use Rattle.questions.specs.Table.{truth}

-- what is said of r at x before a window that starts at t
pub record Carried (base : Base) (t : ℕ) (r : Rule) (x : Access) (broken : Bool) : Type 0 where
  pub fresh : t ≤ r.interval.start → broken ≡ false
  pub past : lasting r.operator ≡ true → r.interval.start < t → in_interval r.interval t ≡ true →
      truth base (t - 1) r x ≡ not broken
