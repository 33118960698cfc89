-- What of a base's soundness is left to ask once its bytes have the format.
use Rattle.std.specs.Prelude.{Bool, ◌&&◌}
use Rattle.model.specs.Base.{Base}
use Rattle.model.specs.Stratification.{stratified}
use Rattle.model.specs.Soundness.{all_supported}
use Rattle.bodies.specs.Asked.{bodies_hold}

abbrev pub parts_hold : Base → Bool
parts_hold b = bodies_hold b && all_supported b && stratified b.rules
