use Rattle.foundation.specs.Tests.{eq_true, ne_false}
use Rattle.printing.proofs.Placed.{printed_as}
use Rattle.printing.proofs.put_instant.Goals as goal

pub put_bytes-requires : goal.put_bytes-requires
put_bytes-requires c =
    let c₀ = c in
    let h = c₀.requires in
    rw (eq_true c₀.args.t 4294967295 c₀.if-t-eq4294967295.true) at h

pub put_decimal-requires : goal.put_decimal-requires
put_decimal-requires c =
    let c₀ = c in
    let h = c₀.requires in
    rw (ne_false c₀.args.t 4294967295 c₀.if-t-eq4294967295.false) at h

pub returns-then-t-eq4294967295 : goal.returns-then-t-eq4294967295
returns-then-t-eq4294967295 c =
    let c₁ = c in
    let e = c₁.if-t-eq4294967295.true in
    printed_as (rw (eq_true _ _ e)) c₁.put_bytes.ensures

pub returns : goal.returns
returns c =
    let c₁ = c in
    let e = c₁.if-t-eq4294967295.false in
    printed_as (rw (ne_false _ _ e)) c₁.put_decimal.ensures
