use mathlib.Core.Path.{refl}
use Rattle.foundation.specs.Tests.{eq_true, ne_false}
use Rattle.printing.proofs.instant_length.Goals as goal

pub returns-then-t-eq4294967295 : goal.returns-then-t-eq4294967295
returns-then-t-eq4294967295 c = rw (eq_true c.args.t 4294967295 c.if-t-eq4294967295.true) refl

pub returns : goal.returns
returns c =
    rw (ne_false c.args.t 4294967295 c.if-t-eq4294967295.false) c.decimal_length.ensures
