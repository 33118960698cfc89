use native.Mathlib.Omega.{arith}
use Rattle.words.proofs.FieldLaws.{starts_small}
use Rattle.words.proofs.start_of.Goals as goal

pub returns : goal.returns
returns c = starts_small c.args.k c.args.i c.requires (omega arith)
