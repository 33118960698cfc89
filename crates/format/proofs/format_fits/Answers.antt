use Rattle.std.proofs.Common.{rules, tests, sym, ap, ◌∙◌, arith}
use Rattle.std.proofs.lemmas.Iterator.{YieldsList-from_range, serves_from_Range}
use Rattle.std.proofs.lemmas.Iterator.Search.{all_from_yields_List}
use Rattle.std.specs.Prelude.{refl, drop, ◌+◌, ◌*◌}
use Rattle.encoding.specs.Format.{counts_fit, end_at, authorization_clean, rule_clean}
use Rattle.encoding.proofs.Contents.{fit_within}
use Rattle.format.proofs.FormatTests.{other_length, counts_beyond, format_asked, asked_each}
use Rattle.format.proofs.format_fits.Goals as goal

pub returns-then-s-ne-BASE_BYTES : goal.returns-then-s-ne-BASE_BYTES
returns-then-s-ne-BASE_BYTES c = other_length c.args.s.now c.if-s-ne-BASE_BYTES.true

pub returns-then-not-counts_fit : goal.returns-then-not-counts_fit
returns-then-not-counts_fit c =
    counts_beyond c.args.s.now (search rules)
    (ap counts_fit (sym c.counts_of-c.ensures) ∙ sym c.counts_fit.ensures ∙ c.if-not-counts_fit.true)

pub all-requires-2-clause-callable : goal.all-requires-2-clause-callable
all-requires-2-clause-callable c =
    let w = fit_within c.counts_of-c.result (sym c.counts_fit.ensures ∙ c.if-not-counts_fit.false) in
    let e = c.rules_at-rules.ensures in
    serves_from_Range (λ x q k. search (rules, tests))
    (λ x low high. (omega (arith, w), omega (arith, w), omega (arith, w)))

pub returns : goal.returns
returns c =
    let s = c.args.s.now in
    let n = c.counts_of-c.result in
    let a = c.authorizations_at-authorizations.result in
    let r = c.rules_at-rules.result in
    let as_counted = c.counts_of-c.ensures in
    let authorizations = all_from_yields_List (λ i. authorization_clean (drop (a + i * 24) s)) _ _ c.all.result
    c.all.ensures.ran (YieldsList-from_range 0 n.authorizations _ refl (omega arith)) (λ x b q k. search (rules, tests))
    ∙ asked_each 24 authorization_clean a s n.authorizations in
    let rules = all_from_yields_List (λ i. rule_clean (drop (r + i * 28) s)) _ _ c.all-2.result
    c.all-2.ensures.ran (YieldsList-from_range 0 n.rules _ refl (omega arith)) (λ x b q k. search (rules, tests))
    ∙ asked_each 28 rule_clean r s n.rules in
    rw (c.heading_fits.ensures, authorizations, rules, c.zeros.ensures, c.authorizations_at-authorizations.ensures, c.rules_at-rules.ensures, as_counted) (
    format_asked s (search) _ (ap counts_fit (sym as_counted) ∙ sym c.counts_fit.ensures ∙ c.if-not-counts_fit.false)
    (c.end_at-end.ensures ∙ ap end_at as_counted)
    )
