use borrow.Author.Rules.{rules}
use Rattle.std.proofs.Common.{◌≡◌, refl, sym, ap, ◌∙◌, List, ℕ, ◌+◌, ◌*◌, ◌≤◌, arith}
use Rattle.foundation.specs.Bytes.{records}
use Rattle.foundation.specs.ByteRecords.{length-records}
use Rattle.model.specs.Ranges.{most_authorizations}
use Rattle.model.specs.Effects.{with_authorizations}
use Rattle.model.specs.Encoding.{decode, authorization_of, authorization_bytes}
use Rattle.foundation.specs.Lists.{each}
use lib.Seq.{length-take-le}
use Rattle.fields.specs.Field.{splice}
use Rattle.fields.proofs.ByteLaws.{part-put}
use Rattle.encoding.specs.declared.Counts.{Counts}
use Rattle.encoding.specs.Format.{counts_of, authorizations_at}
use Rattle.edits.specs.Edits.{Written, with_authorization_count}
use Rattle.edits.proofs.EditedBytes.{Edit, edited}
use Rattle.edits.proofs.BodyEdits.{authorizations, replacement}
use Rattle.edits.proofs.BodyEditRules.{number-within, edit-rules}
use Rattle.edits.proofs.replace_authorizations.Goals as goal

-- m authorizations that stand in t are put in for those of the base
for_all : (s : List ℕ) (W : Written s) (c : Counts) (e : c ≡ counts_of s) (at m : ℕ) → at ≡ authorizations_at c →
    m ≤ most_authorizations → (t : List ℕ) →
    Edit s (with_authorizations (records 24 authorization_of m t) (decode s)) at
    (24 * c.authorizations) (24 * m) (with_authorization_count m c)
    (each (records 24 authorization_of m t) authorization_bytes)
for_all s W c e at m p h t =
    replacement authorizations s W c e at m (records 24 authorization_of m t) (with_authorization_count m c) p refl
    (sym (length-records 24 authorization_of m t)) h

pub counts_of-c-requires : goal.counts_of-c-requires
counts_of-c-requires = λ c. search edit-rules

pub reshape-requires : goal.reshape-requires
reshape-requires c =
    let q = c.requires in
    let f = for_all _ q.0 _ c.counts_of-c.ensures _ c.args.m c.authorizations_at-at.ensures q.1 c.args.built.now in
    (f.old-room, f.new-room, number-within _ 32 q.0 tt, f.counts)

pub slice_bounds-copy-end : goal.slice_bounds-copy-end
slice_bounds-copy-end c =
    let q = c.requires in
    let f = for_all _ q.0 _ c.counts_of-c.ensures _ c.args.m c.authorizations_at-at.ensures q.1 c.args.built.now in
    omega (arith, f.new-room)

pub returns : goal.returns
returns c =
    let q = c.requires in
    let at = c.authorizations_at-at.result in
    let m = c.args.m in
    edited (for_all _ q.0 _ c.counts_of-c.ensures _ m c.authorizations_at-at.ensures q.1 c.args.built.now)
    c.reshape.ensures
    (part-put at (at + 24 * m) c.reshape.new.s c.copy.ensures.after
    (ap (λ (n : ℕ). at + n) (length-take-le (24 * m) c.args.built.now (omega arith)))
    ∙ ap (λ (x : List ℕ). splice at x c.reshape.new.s) q.3)
