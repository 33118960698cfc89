use native.Mathlib.Omega.{arith}
use mathlib.Core.Path.{◌≡◌, refl, sym, ap, subst, ◌∙◌}
use mathlib.Core.Bool.{true, false}
use mathlib.Core.List.{[]}
use Prim.Native.Nat.{ℕ}
use Rattle.model.specs.Stratification.{lasting}
use Rattle.words.specs.Ones.{all_from}
use Rattle.words.proofs.SetBitLoops.{Turn, turn, finished}
use Rattle.derivation.specs.Derive.{Derived}
use Rattle.evaluation.proofs.RuleWords.{wanted-le, first_given, none-given, plain-derived}
use Rattle.evaluation.proofs.RuleWords.{broken_derived, idle_derived, lasting-derived}
use Rattle.evaluation.proofs.derive.Goals as goal
use Rattle.evaluation.proofs.derive.Goals.{In-Some}

pub returns-then-not-is_lasting : goal.returns-then-not-is_lasting
returns-then-not-is_lasting c =
    let a = c.args in
    let e : lasting a.o ≡ false = sym c.is_lasting.ensures
    ∙ c.if-not-is_lasting.true in
    subst (λ (r : ℕ). Derived a.o a.held a.active a.broken r) (sym c.wanted_word-x.ensures)
    (plain-derived a.o a.held a.active a.broken e)

pub returns-then-broken : goal.returns-then-broken
returns-then-broken c =
    let a = c.args in
    let e : lasting a.o ≡ true = sym c.is_lasting.ensures
    ∙ c.if-not-is_lasting.false in
    broken_derived a.o a.held a.active a.broken e c.if-broken.true

-- the first active instant
at : (c : In-Some) → Turn c.args.active [] c.in-Some.first
at c = turn c.ones.result (cc) refl c.in-Some.ensures.steps

pub ones_from-requires : goal.ones_from-requires
ones_from-requires c =
    let a = c.args in (
      omega (
        arith,
        c.wanted_word-x.ensures,
        wanted-le a.o a.held a.active,
        c.requires,
      ),
      (at (goal.at.ones_from-requires c).In-Some).low,
    )

pub returns-in-Some : goal.returns-in-Some
returns-in-Some c =
    let a = c.args in
    let e : lasting a.o ≡ true = sym c.is_lasting.ensures
    ∙ c.if-not-is_lasting.false in
    let f = c.in-Some.first in
    let w = c.wanted_word-x.ensures in
    let o = c.ones_from.ensures in
    lasting-derived a.o a.held a.active a.broken e c.if-broken.false f
    c.ones_from.result (first_given (at (goal.at.returns-in-Some c).In-Some)) (omega (arith, o.0))
    (λ i. o.1 i ∙ ap (all_from f i) w)

pub returns-in-None : goal.returns-in-None
returns-in-None c =
    let a = c.args in
    idle_derived a.o a.held a.active a.broken (none-given a.active c.requires
    (finished c.ones.result (cc) refl c.in-None.ensures.steps))
