use Rattle.std.proofs.Common.{arith, ◌∙◌}
use Rattle.model.specs.Encoding.{decode}
use Rattle.encoding.proofs.SoundBodies.{rest_long, objects-lent, administrators_lent, referrers_lent, authorizations-lent, rules_lent}
use Rattle.bodies.proofs.Formatted.{format_length, formatted}
use Rattle.bodies.proofs.Bodies.of.Goals as goal

pub counts_of-c-requires : goal.counts_of-c-requires
counts_of-c-requires c = omega (arith, format_length c.args.s.now c.requires)

pub le32-requires : goal.le32-requires
le32-requires c = omega (arith, format_length c.args.s.now c.requires)

pub le16-requires : goal.le16-requires
le16-requires c = omega (arith, format_length c.args.s.now c.requires)

pub slice_bounds-new-count : goal.slice_bounds-new-count
slice_bounds-new-count c = omega (arith, format_length c.args.s.now c.requires)

pub slice_bounds-new-start : goal.slice_bounds-new-start
slice_bounds-new-start c = omega (arith, format_length c.args.s.now c.requires)

pub new-requires : goal.new-requires
new-requires c =
    let f = formatted c.args.s.now c.requires c.counts_of-c.result c.counts_of-c.ensures in
    rest_long c.args.s.now 32 _ (omega (arith, f.long, f.counts))

pub slice_bounds-new-count-2 : goal.slice_bounds-new-count-2
slice_bounds-new-count-2 c =
    let f = formatted c.args.s.now c.requires c.counts_of-c.result c.counts_of-c.ensures in
    omega (arith, f.long, f.counts, c.administrators_at-administrators.ensures)

pub slice_bounds-new-start-2 : goal.slice_bounds-new-start-2
slice_bounds-new-start-2 c =
    let f = formatted c.args.s.now c.requires c.counts_of-c.result c.counts_of-c.ensures in
    omega (arith, f.long, f.counts, c.administrators_at-administrators.ensures)

pub new-requires-2 : goal.new-requires-2
new-requires-2 c =
    let f = formatted c.args.s.now c.requires c.counts_of-c.result c.counts_of-c.ensures in
    rest_long c.args.s.now c.administrators_at-administrators.result _ (omega (arith, f.long, f.counts, c.administrators_at-administrators.ensures))

pub slice_bounds-new-count-3 : goal.slice_bounds-new-count-3
slice_bounds-new-count-3 c =
    let f = formatted c.args.s.now c.requires c.counts_of-c.result c.counts_of-c.ensures in
    omega (arith, f.long, f.counts, c.referrers_at-referrers.ensures)

pub slice_bounds-new-start-3 : goal.slice_bounds-new-start-3
slice_bounds-new-start-3 c =
    let f = formatted c.args.s.now c.requires c.counts_of-c.result c.counts_of-c.ensures in
    omega (arith, f.long, f.counts, c.referrers_at-referrers.ensures)

pub new-requires-3 : goal.new-requires-3
new-requires-3 c =
    let f = formatted c.args.s.now c.requires c.counts_of-c.result c.counts_of-c.ensures in
    rest_long c.args.s.now c.referrers_at-referrers.result _ (omega (arith, f.long, f.counts, c.referrers_at-referrers.ensures))

pub slice_bounds-new-count-4 : goal.slice_bounds-new-count-4
slice_bounds-new-count-4 c =
    let f = formatted c.args.s.now c.requires c.counts_of-c.result c.counts_of-c.ensures in
    omega (arith, f.long, f.counts, c.authorizations_at-authorizations.ensures)

pub slice_bounds-new-start-4 : goal.slice_bounds-new-start-4
slice_bounds-new-start-4 c =
    let f = formatted c.args.s.now c.requires c.counts_of-c.result c.counts_of-c.ensures in
    omega (arith, f.long, f.counts, c.authorizations_at-authorizations.ensures)

pub new-requires-4 : goal.new-requires-4
new-requires-4 c =
    let f = formatted c.args.s.now c.requires c.counts_of-c.result c.counts_of-c.ensures in
    rest_long c.args.s.now c.authorizations_at-authorizations.result _ (omega (arith, f.long, f.counts, c.authorizations_at-authorizations.ensures))

pub slice_bounds-new-count-5 : goal.slice_bounds-new-count-5
slice_bounds-new-count-5 c =
    let f = formatted c.args.s.now c.requires c.counts_of-c.result c.counts_of-c.ensures in
    omega (arith, f.long, f.counts, c.rules_at-rules.ensures)

pub slice_bounds-new-start-5 : goal.slice_bounds-new-start-5
slice_bounds-new-start-5 c =
    let f = formatted c.args.s.now c.requires c.counts_of-c.result c.counts_of-c.ensures in
    omega (arith, f.long, f.counts, c.rules_at-rules.ensures)

pub new-requires-5 : goal.new-requires-5
new-requires-5 c =
    let f = formatted c.args.s.now c.requires c.counts_of-c.result c.counts_of-c.ensures in
    rest_long c.args.s.now c.rules_at-rules.result _ (omega (arith, f.long, f.counts, c.rules_at-rules.ensures))

pub returns : goal.returns
unfolding decode
returns c =
    let s = c.args.s.now in
    let n = c.counts_of-c.result in
    let q = c.counts_of-c.ensures in
    λ k. record {
      clock = c.le32.ensures k;
      last = c.le16.ensures k;
      objects = (c.new.ensures ∙ objects-lent s n q) k;
      administrators =
          (c.new-2.ensures ∙ administrators_lent s n q c.administrators_at-administrators.result
          c.administrators_at-administrators.ensures) k;
      referrers =
          (c.new-3.ensures ∙ referrers_lent s n q c.referrers_at-referrers.result c.referrers_at-referrers.ensures) k;
      authorizations =
          (c.new-4.ensures ∙ authorizations-lent s n q c.authorizations_at-authorizations.result
          c.authorizations_at-authorizations.ensures) k;
      rules = (c.new-5.ensures ∙ rules_lent s n q c.rules_at-rules.result c.rules_at-rules.ensures) k;
    }
