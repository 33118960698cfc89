use mathlib.Core.Path.{◌≡◌}
use mathlib.Core.Bool.{true}
use mathlib.Core.Logic.{◌↔◌}
use Rattle.foundation.specs.Tests.{and_intro, and-true}
use Rattle.encoding.specs.Format.{rule_at}
use Rattle.tables.specs.TableLayout.{region_at}
use Rattle.facts.specs.Sharing.{SameKind}
use Rattle.facts.proofs.TableSharing.{same_region}
use Rattle.facts.proofs.sharing.shares_table.Goals as goal

pub returns : goal.returns
returns c =
    let p = c in
    let k = p in
    let s = k in
    let a = s.args in
    let body = a.body.now in
    let right = a.right.now in
    let kind : (k.is_same_kind-kind.result ≡ true) ↔ SameKind (rule_at body a.c) (rule_at body a.d) =
    rw (k.rule_at.ensures, k.rule_at-2.ensures) at k.is_same_kind-kind.ensures in
    let region : (c.eq.result ≡ true) ↔ (region_at right a.c ≡ region_at right a.d) =
    rw (← p.region_at.ensures, ← p.region_at-2.ensures, c.eq.ensures)
    (same_region p.region_at.result p.region_at-2.result) in (
      (λ t. let v = and-true k.is_same_kind-kind.result c.eq.result t in
          record { kind = kind.0 v.0; region = region.0 v.1 }),
      (λ e. and_intro k.is_same_kind-kind.result c.eq.result (kind.1 e.kind)
          (region.1 e.region)),
    )
