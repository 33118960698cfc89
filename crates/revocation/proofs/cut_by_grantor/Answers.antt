use Rattle.revocation.proofs.Revoked.{grantor_cut}
use Rattle.revocation.proofs.cut_by_grantor.Goals as goal

pub returns : goal.returns
returns c = grantor_cut c.args.q c.requires.1
