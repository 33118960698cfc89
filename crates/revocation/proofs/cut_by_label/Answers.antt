use Rattle.revocation.proofs.Revoked.{label-cut}
use Rattle.revocation.proofs.cut_by_label.Goals as goal

pub returns : goal.returns
returns c = label-cut c.args.q c.requires.1
