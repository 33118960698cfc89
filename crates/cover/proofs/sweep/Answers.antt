use borrow.Author.Tests.{le-leb, lt-leb}
use Rattle.std.proofs.Common.{◌≡◌, sym, ◌∙◌, ℕ, List, ◌∷◌, arith, rules}
use Rattle.std.proofs.lemmas.List.{at_drop_all}
use lib.Dec.{leb}
use Rattle.foundation.specs.Tests.{pick}
use Rattle.model.specs.declared.Authorization.{Authorization}
use Rattle.cover.specs.declared.Want.{Want}
use Rattle.cover.specs.Sweep.{end_from, sweep_of}
use Rattle.cover.proofs.sweep.Goals as goal

-- a turn, over the rest a ∷ zs of ys
turn : (w : Want) (b u r : ℕ) (ys zs : List Authorization) (a : Authorization) → ys ≡ a ∷ zs →
    r ≡ end_from w a u → sweep_of w b ys u ≡ pick (leb b r) r (sweep_of w b zs r)
unfolding sweep_of
turn w b u r ys zs a e q = rw (e, q)

pub returns-then-b-u : goal.returns-then-b-u
returns-then-b-u c =
    sym (c.loop-i.invariant.1 ∙ turn _ _ _ _ _ _ _ c.get.ensures c.end_from-u.ensures
    ∙ rw (le-leb _ _ c.if-b-u.true))

pub loop-i-preserved : goal.loop-i-preserved
loop-i-preserved c = (
  search rules,
  c.loop-i.invariant.1 ∙ turn _ _ _ _ _ _ _ c.get.ensures c.end_from-u.ensures
      ∙ rw (lt-leb _ _ c.if-b-u.false),
)

pub returns : goal.returns
unfolding sweep_of
returns c =
    let a = c.args in
    sym (c.loop-i.invariant.1
    ∙ at_drop_all (λ (xs : List Authorization). sweep_of a.w a.b xs c.loop-i.u) a.authorizations.now c.loop-i.i (omega arith))
