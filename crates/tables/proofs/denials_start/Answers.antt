use mathlib.Core.Path.{ap, ◌∙◌}
use Rattle.places.specs.Regions.{size_of}
use Rattle.tables.proofs.denials_start.Goals as goal

pub size_of-requires : goal.size_of-requires
size_of-requires c = rw c.all_places.ensures c.requires

pub returns : goal.returns
returns c = c.size_of.ensures ∙ ap (size_of c.args.g) c.all_places.ensures
