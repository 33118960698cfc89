use native.Mathlib.Omega.{arith}
use mathlib.Core.Path.{◌≡◌, sym, ◌∙◌, subst}
use mathlib.Core.Bool.{false, false≢true}
use lib.Dec.{eqb}
use Rattle.foundation.specs.BitMasks.{none_set}
use Rattle.foundation.specs.Tests.{or_cases, true_eq}
use Rattle.words.specs.SetBits.{among}
use Rattle.words.proofs.SetBitLoops.{Turn, turn, finished, among_more, among_all}
use Rattle.facts.proofs.TableSharing.{found_one, Served, served_still, served_new, only-new}
use Rattle.facts.proofs.sharing.rules_with_tables.Goals as goal
use Rattle.facts.proofs.sharing.rules_with_tables.Goals.{In-Some}

at : (c : In-Some) → Turn c.args.rules c.loop-c.yielded c.in-Some.c
at c = turn c.loop-c.c-iterator (cc) c.loop-c.yielded_by c.in-Some.ensures.steps

pub loop-c-init : goal.loop-c-init
loop-c-init c = (
  (λ i t. absurd (none_set i t)),
  λ i t. absurd (false≢true t),
)

pub first_sharing-requires : goal.first_sharing-requires
first_sharing-requires c =
    let t = at (goal.at.first_sharing-requires c).In-Some in
    let p = c.requires in
    let w = p.0 c.in-Some.c t.own in
    ((λ i e. p.0 i (c.loop-c.invariant.0 i e)), w.0, w.1, p.1)

pub with_if-tables-requires : goal.with_if-tables-requires
with_if-tables-requires c = (at (goal.at.with_if-tables-requires c).In-Some).low

pub loop-c-preserved : goal.loop-c-preserved
loop-c-preserved c =
    let t = at (goal.at.loop-c-preserved c).In-Some in
    let l = c.loop-c in
    let r = c.in-Some.c in
    let body = c.args.body.now in
    let right = c.args.right.now in
    let alone = c.is_none-alone.result in
    let found : alone ≡ false → Served body right l.tables r =
    found_one body right l.tables r _ c.first_sharing.result alone c.is_none-alone.ensures c.first_sharing.ensures in
    let new = c.with_if-tables.result in
    let grown = c.with_if-tables.ensures in (
      only-new body right r l.tables new alone found grown c.args.rules t.own l.invariant.0,
      λ i e. or_cases (among i l.yielded) (eqb i r) (sym (among_more i r l.yielded) ∙ e)
          (λ y. served_still body right r l.tables new alone found grown i (l.invariant.1 i y))
          (λ y. subst (Served body right new) (sym (true_eq i r y))
          (served_new body right r l.tables new alone found grown)),
    )

pub returns : goal.returns
returns c =
    let l = c.loop-c in
    record {
      some = l.invariant.0;
      enough = λ i e. l.invariant.1 i (among_all i c.args.rules l.yielded (omega arith)
          (finished l.c-iterator (cc) l.yielded_by c.in-None.ensures.steps) ∙ e);
    }
