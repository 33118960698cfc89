use mathlib.Core.Path.{◌≡◌, sym, ap, ◌∙◌}
use mathlib.Core.List.{List}
use Prim.Native.Nat.{ℕ}
use lib.ListN.{replicate}
use borrow.Author.Tests.{eq-eqb, ne_eqb}
use Rattle.fields.specs.Field.{splice}
use Rattle.model.specs.Base.{empty_base}
use Rattle.model.specs.Encoding.{mark, encode}
use Rattle.model.specs.Answers.{Answer}
use Rattle.encoding.specs.Format.{contents_of}
use Rattle.encoding.proofs.Empty.{no_records, empty_bytes, create-refused, create-made}
use Rattle.encoding.proofs.heading.create.Goals as goal

pub returns-then-s-ne-BASE_BYTES : goal.returns-then-s-ne-BASE_BYTES
returns-then-s-ne-BASE_BYTES c =
    let e = sym (create-refused c.args.s.now (ne_eqb _ _ c.if-s-ne-BASE_BYTES.true)) in
    (ap (λ (a : Answer). a.reply) e, ap (λ (a : Answer). a.lent) e)

pub returns : goal.returns
returns c =
    let c₃ = c in
    let c₂ = c₃ in
    let c₁ = c₂ in
    let fits = c₁.if-s-ne-BASE_BYTES.false in
    let s = c₁.args.s.now in
    let e = sym (create-made s (eq-eqb _ _ fits)) in
    let b : c₃.put_counts.new.s ≡ encode empty_base =
    c₃.put_counts.ensures
    ∙ ap (splice 12 (contents_of no_records)) c₂.put_mark.ensures
    ∙ ap (λ (l : List ℕ). splice 12 (contents_of no_records) (splice 0 mark l)) (c₁.fill.ensures.after (λ y h. h))
    ∙ ap (λ (n : ℕ). splice 12 (contents_of no_records) (splice 0 mark (replicate n 0))) fits
    ∙ empty_bytes in
    (ap (λ (a : Answer). a.reply) e, b ∙ ap (λ (a : Answer). a.lent) e)
