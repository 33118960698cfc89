use Rattle.std.proofs.Common.{refl}
use lib.Dec.{eqb}
use Rattle.model.specs.Requests.{REVOKEN}
use Rattle.revocation.proofs.Revoked.{name_cut, name_ordered}
use Rattle.revocation.proofs.cut_by_name.Goals as goal

pub returns : goal.returns
returns c =
    let q = c.args.q in (
      name_cut q (record {
        grantor = q.requester;
        subject = q.subject;
        object = q.object;
        mode = q.mode;
        negative = eqb q.kind REVOKEN;
        interval = q.interval;
      }) c.requires.2 refl refl refl refl refl refl,
      name_ordered q c.requires.1 c.requires.2,
    )
