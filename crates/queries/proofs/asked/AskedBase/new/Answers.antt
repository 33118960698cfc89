use native.Mathlib.Omega.{arith}
use mathlib.Core.Path.{refl, ap, ◌∙◌}
use mathlib.Core.List.{List}
use Prim.Native.Nat.{ℕ}
use lib.ListN.{drop}
use Rattle.model.specs.EncodingFacts.{sound-length}
use Rattle.encoding.specs.declared.Counts.{Counts}
use Rattle.encoding.specs.Format.{authorizations_at}
use Rattle.encoding.proofs.SoundBodies.{rest_of}
use Rattle.queries.specs.HandedOn.{totals_of}
use Rattle.queries.proofs.QuestionBodies.{records_in, records-bodies}
use Rattle.queries.proofs.asked.AskedBase.new.Goals as goal

pub counts_of-c-requires : goal.counts_of-c-requires
counts_of-c-requires c = omega (arith, sound-length c.args.s.now c.requires)

pub slice_bounds-result-count : goal.slice_bounds-result-count
slice_bounds-result-count c =
    records_in c.args.s.now c.requires c.counts_of-c.result c.counts_of-c.ensures _ c.authorizations_at-at.ensures

pub slice_bounds-result-start : goal.slice_bounds-result-start
slice_bounds-result-start c =
    records_in c.args.s.now c.requires c.counts_of-c.result c.counts_of-c.ensures _ c.authorizations_at-at.ensures

pub invariant_of-result-clause-there : goal.invariant_of-result-clause-there
invariant_of-result-clause-there c =
    (records-bodies c.args.s.now c.requires c.counts_of-c.result c.counts_of-c.ensures _
    c.authorizations_at-at.ensures).there

pub returns : goal.returns
returns c =
    let s : List ℕ = c.args.s.now in
    let n = c.counts_of-c.ensures in
    let l = c.authorizations_at-at.ensures in (
      refl,
      rest_of s _ _ l ∙ ap (λ (k : Counts). drop (authorizations_at k) s) n,
      ap totals_of n,
      records-bodies s c.requires c.counts_of-c.result n _ l,
    )
