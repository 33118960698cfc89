use Rattle.std.proofs.Common.{refl, ap, ◌∙◌, subst, inl, inr, true, List}
use Rattle.model.specs.declared.Authorization.{Authorization}
use Rattle.model.specs.Encoding.{decode}
use Rattle.model.specs.Support.{root_in}
use Rattle.model.specs.Withdrawal.{keep, restrict}
use Rattle.laws.specs.SoundFacts.{sorted}
use Rattle.pieces.specs.Cuts.{spared}
use Rattle.pieces.specs.Puts.{Makes}
use Rattle.revocation.proofs.CarriedFacts.{passed_row}
use Rattle.revocation.proofs.Revoking.{passed_sound, remains}
use Rattle.revocation.proofs.build_remaining.Goals as goal

pub cut_of-requires : goal.cut_of-requires
cut_of-requires c =
    let row = passed_row c.args.base.now.bytes.now c.args.q c.requires.passes_early.0 in
    (row _ (inl refl), row _ (inr (inr (inl refl))), c.requires.passes_early.1)

pub withdraw-requires-clause-cut_ordered : goal.withdraw-requires-clause-cut_ordered
withdraw-requires-clause-cut_ordered c = c.cut_of.ensures.1

pub withdraw-requires-clause-sorted : goal.withdraw-requires-clause-sorted
withdraw-requires-clause-sorted c =
    let s = c.args.base.now.bytes.now in
    rw c.authorizations.ensures (sorted (decode s) (passed_sound s c.args.q c.requires.passes_early.0))

pub returns : goal.returns
returns c =
    let s = c.args.base.now.bytes.now in
    let r = c.requires in
    let cut = c.cut_of in
    let os = c.privileges in
    let as' = c.privileges-2 in
    subst (λ (ys : List Authorization). Makes ys c.withdraw.result c.withdraw.new.body)
    (ap (λ (xs : List Authorization).
    restrict (root_in os.result as'.result) (λ h. true) (keep (spared cut.result) xs)) c.authorizations.ensures
    ∙ remains (decode s) c.args.q (passed_sound s c.args.q r.passes_early.0) r.passes_early.1 cut.result cut.ensures.0
    os.result as'.result (os.ensures ∙ r.roots_value.0) (as'.ensures ∙ r.roots_value.1))
    c.withdraw.ensures
