use mathlib.Core.Path.{sym}
use mathlib.Core.Bool.{◌&&◌}
use lib.Dec.{eqb}
use Rattle.foundation.specs.Tests.{or_false}
use Rattle.model.specs.Requests.{GRANT, DENY}
use Rattle.effects.proofs.records.new_authorization.Goals as goal

pub returns : goal.returns
returns c =
    let a = c.args in
    let q = a.q in
    λ k. record {
      head = record {
        label = a.label;
        grantor = q.requester;
        subject = q.subject;
        object = q.object;
        mode = q.mode;
        negative = sym (or_false (eqb q.kind DENY)) k;
        option = sym (or_false (eqb q.kind GRANT)) k && q.option;
        granted = q.now;
      };
      interval = q.interval;
    }
