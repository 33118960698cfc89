use Rattle.std.proofs.Common.{suc, ℕ, drop, sym, ap, ◌∙◌, add-one, drop_of_length-le}
use Rattle.channel.specs.Digests.{digest}
use Rattle.channel.proofs.DigestFacts.{digest_none, digest_next}
use Rattle.channel.proofs.mix_all.Goals as goal

pub loop-b-preserved : goal.loop-b-preserved
loop-b-preserved c =
    let l = c.loop-b in
    let bytes = c.args.bytes.now in
    l.invariant ∙ digest_next l.d l.b-index bytes c.loop-b-test.true
    ∙ ap (λ (d : ℕ). digest d (drop (suc l.b-index) bytes)) (sym c.mix-d.ensures)
    ∙ ap (λ (n : ℕ). digest c.mix-d.result (drop n bytes)) (sym (add-one l.b-index))

pub returns : goal.returns
returns c =
    let l = c.loop-b in
    let bytes = c.args.bytes.now in
    sym (l.invariant ∙ ap (digest l.d) (drop_of_length-le bytes c.loop-b-test.false) ∙ digest_none l.d)
