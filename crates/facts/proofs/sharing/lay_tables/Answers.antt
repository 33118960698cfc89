use native.Mathlib.Omega.{arith}
use mathlib.Core.Path.{refl, sym, ◌∙◌}
use mathlib.Core.Bool.{true, false}
use Rattle.tables.proofs.WholeCodes.{whole_codes_lem}
use Rattle.facts.proofs.TableSharing.{own_tables, arranged}
use Rattle.facts.proofs.sharing.lay_tables.Goals as goal

pub returns-then-fields-most : goal.returns-then-fields-most
returns-then-fields-most c =
    let x = c in
    let t = x in
    let y = t in
    let z = y in
    let m = z in
    let s = x.share_starts.ensures in
    let l = y.lay_all-fields.ensures in (
      arranged true (sym whole_codes_lem) y.lay_all-fields.new.first z.rules_with_tables-kinds.ensures.some l.1 refl s.1 s.0
          (omega (arith, t.if-fields-most.true, m.lay_all-most.ensures.0)),
      s.2 ∙ l.2 ∙ m.lay_all-most.ensures.2,
    )

pub returns-else-fields-most : goal.returns-else-fields-most
returns-else-fields-most c =
    let y = c in
    let w = y in
    let m = w in
    let l = y.lay_all.ensures in
    let k = m.lay_all-most.ensures in (
      arranged false refl y.lay_all.new.first (λ i e. e) l.1 (k.0 ∙ sym l.0) (λ i e. refl) (own_tables _ _ _ _)
          (omega (arith, k.0)),
      l.2 ∙ w.lay_all-fields.ensures.2 ∙ k.2,
    )

pub returns-else-rules-ne0 : goal.returns-else-rules-ne0
returns-else-rules-ne0 c =
    let k = c.lay_all-most.ensures in (
      arranged false refl c.lay_all-most.new.first (λ i e. e) k.1 refl (λ i e. refl) (own_tables _ _ _ _) (omega (arith, k.0)),
      k.2,
    )
