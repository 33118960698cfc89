use Rattle.model.proofs.SideFacts.{right_eq}
use Rattle.simple.proofs.sides.right_of.Goals as goal

pub returns : goal.returns
returns c = rw (right_eq _ _, c.number_or.ensures, c.number_or-2.ensures, c.from.ensures, c.number_or-3.ensures)
