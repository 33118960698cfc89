use native.Mathlib.Omega.{arith}
use mathlib.Core.Path.{◌∙◌}
use Rattle.foundation.specs.BitLaws.{bit_rest}
use Rattle.queries.proofs.outlining.modes_in.Goals as goal

pub returns : goal.returns
returns c = (
  omega arith,
  λ j k h l e. bit_rest c.modes_of.result k 8 l ∙ c.modes_of.ensures j k h l e,
)
