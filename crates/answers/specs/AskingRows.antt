-- The rows of the table that MAY and WHEN share.
use Rattle.std.specs.Prelude.{not, List, [], ◌∷◌}
use Rattle.model.specs.declared.Access.{Access}
use Rattle.model.specs.Base.{Base, exists}
use Rattle.model.specs.Step.{Row, row}
use Rattle.model.specs.Answers.{access_in}

-- rows 3 and 6: what is asked about is in range, and its object exists
abbrev pub access_rows : Base → Access → List Row
access_rows b x = row 3 (not (access_in x)) ∷ row 6 (not (exists b x.object)) ∷ []
