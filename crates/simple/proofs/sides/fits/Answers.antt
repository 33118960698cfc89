use Rattle.model.proofs.SideFacts.{fits_eq}
use Rattle.simple.proofs.sides.fits.Goals as goal

pub returns : goal.returns
returns c = rw (fits_eq _ _, c.fits_option.ensures)
