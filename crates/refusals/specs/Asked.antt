-- What an answer says of row 9: the earliest uncovered instant, or that the row does not apply.
use Rattle.std.specs.Prelude.{◌≡◌, ℕ, true, false, Option, Some, None}
use Rattle.model.specs.declared.Request.{Request}
use Rattle.model.specs.Base.{Base}
use Rattle.model.specs.Means.{plainly}
use Rattle.model.specs.Step.{not_supported, earliest_gap}

-- what an answer says: the earliest uncovered instant, or that row 9 does not apply
abbrev pub UncoveredIs : Base → Request → Option ℕ → Type 0
UncoveredIs b q (Some t) = (not_supported plainly b q ≡ true) × (t ≡ earliest_gap plainly b q)
UncoveredIs b q None = not_supported plainly b q ≡ false
