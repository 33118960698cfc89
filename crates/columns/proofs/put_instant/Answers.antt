use mathlib.Core.Path.{◌∙◌}
use Rattle.foundation.specs.Tests.{eq_true, ne_false}
use Rattle.columns.proofs.put_instant.Goals as goal

pub put_right-requires : goal.put_right-requires
put_right-requires c =
    let c₀ = c in
    let h = c₀.requires in
    rw (eq_true c₀.args.t 4294967295 c₀.if-t-eq4294967295.true) at h

pub put_number-requires : goal.put_number-requires
put_number-requires c =
    let c₀ = c in
    let h = c₀.requires in
    rw (ne_false c₀.args.t 4294967295 c₀.if-t-eq4294967295.false) at h

pub returns-then-t-eq4294967295 : goal.returns-then-t-eq4294967295
returns-then-t-eq4294967295 c =
    let c₁ = c in
    let e = c₁.if-t-eq4294967295.true in
    c₁.put_right.ensures ∙ rw (eq_true _ _ e)

pub returns : goal.returns
returns c =
    let c₁ = c in
    let e = c₁.if-t-eq4294967295.false in
    c₁.put_number.ensures ∙ rw (ne_false _ _ e)
