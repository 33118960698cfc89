use borrow.Author.Rules.{rules}
use native.Mathlib.Omega.{arith}
use mathlib.Core.Path.{subst}
use mathlib.Core.Bool.{Bool}
use Prim.Native.Nat.{ℕ}
use Rattle.encoding.specs.Format.{authorizations_in}
use Rattle.relevance.proofs.ChoiceFacts.{choice_picks}
use Rattle.scan.specs.Runs.{ScannedTo}
use Rattle.direct.specs.Among.{is_for}
use Rattle.direct.proofs.Choosing.{chosen_held}
use Rattle.direct.proofs.intervals.walk_directly.Goals as goal

pub walk_among-requires : goal.walk_among-requires
walk_among-requires c =
    let k = c in
    let s = k in
    let a = s.args in
    let e = k.choose_for-n.ensures in (
      choice_picks (is_for a.x) a.lines.now a.total _ _ k.choose_for-n.result s.requires.1
          (search rules) e,
      omega (arith, e.few, s.requires.0),
    )

pub returns : goal.returns
returns c =
    let w = c in
    let k = w in
    let a = k.args in
    subst (λ (f : ℕ → Bool). ScannedTo f 4294967295 a.list.now 4294967296 w.walk_among.result
    w.walk_among.new.list)
    (chosen_held a.x (authorizations_in a.total a.lines.now) _ k.choose_for-n.ensures.chosen)
    w.walk_among.ensures
