use mathlib.Core.Path.{◌≡◌, ◌∙◌, ap}
use mathlib.Core.Bool.{◌&&◌}
use lib.Dec.{eqb}
use lib.ListN.{take, drop}
use Rattle.foundation.specs.Bytes.{eq_list}
use Rattle.encoding.specs.Format.{counts_of, contents_of, counts_fit}
use Rattle.encoding.proofs.Contents.{contents-alone}
use borrow.Author.Rules.{rules}
use Rattle.encoding.proofs.heading.heading_fits.Goals as goal

pub put_contents-requires : goal.put_contents-requires
put_contents-requires c = (
  search rules,
  ap counts_fit c.counts_of.ensures
      ∙ c.requires.1,
)

pub returns : goal.returns
returns c =
    let c₁ = c in
    let s = c₁.args.s.now in
    let n = c₁.counts_of in
    let w : c₁.put_contents.new.s ≡ contents_of (counts_of s) =
    c₁.put_contents.ensures ∙ contents-alone n.result ∙ ap contents_of n.ensures in
    λ k.
    c.marked.ensures k && eqb (c.le16.ensures k) 0
    && (c.eq.ensures ∙ ap (eq_list (take 20 (drop 12 s))) w) k
