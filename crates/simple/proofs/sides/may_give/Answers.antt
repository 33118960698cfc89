use Rattle.model.proofs.SideFacts.{derives_eq}
use Rattle.simple.proofs.sides.may_give.Goals as goal

pub returns : goal.returns
returns c = rw (derives_eq _ _ _, c.stands_for.ensures, c.fits_option.ensures)
