use mathlib.Core.Path.{◌≡◌, sym, ap, ◌∙◌}
use mathlib.Core.Bool.{true}
use mathlib.Core.List.{List}
use Prim.Native.Nat.{ℕ, ◌-◌}
use lib.Dec.{eqb}
use lib.ListN.{length, take, drop}
use lib.Seq.{length-take-le}
use Rattle.foundation.specs.Tests.{and-true}
use Rattle.model.specs.Stratification.{lasting}
use Rattle.words.specs.Fields.{field_of}
use Rattle.sections.specs.Sections.{fields_of, broken_of}
use Rattle.tables.specs.declared.Place.{Place}
use Rattle.evaluation.proofs.RuleWords.{broken_derived}
use Rattle.grounding.specs.RuleSteps.{force_at, force_in, broken_at, broken_in, Ordinary}
use Rattle.foundation.specs.Lists.{lent_rest}
use Rattle.grounding.proofs.pairs.value_at.Goals as goal

pub is_broken-requires : goal.is_broken-requires
is_broken-requires c =
    let s = c in
    let a = s.args in
    let w = a.work.now in
    let k = a.t.words in
    let o : Ordinary a.t a.f.grid (length (take (length w - k) (drop k w))) a.p =
    rw (lent_rest k w) s.requires.0.here in
    o

pub returns-then-is_broken : goal.returns-then-is_broken
returns-then-is_broken c =
    let b = c.is_broken in
    let a = c.args in
    let g = a.f.grid in
    let bits = broken_of a.t.words a.work.now in
    let words = fields_of a.t.words a.work.now in
    let l = lasting a.t.operator in
    let v = eqb (field_of 0 bits (broken_at a.t g a.p)) 1 in
    let e : broken_in a.t g bits a.p ≡ true =
    ap (λ (l : List ℕ). broken_in a.t g l a.p) (sym (lent_rest a.t.words a.work.now))
    ∙ sym b.ensures ∙ c.if-is_broken.true in
    broken_derived a.t.operator (force_in a.t a.f a.number.now words a.p.point)
    a.t.active (broken_in a.t g bits a.p) (and-true l v e).0 e

pub right_place-y-requires : goal.right_place-y-requires
right_place-y-requires c =
    c.requires.0.pair

pub slice_bounds-instants_in_force-end : goal.slice_bounds-instants_in_force-end
slice_bounds-instants_in_force-end c =
    let s = c in
    sym (length-take-le s.args.t.words s.args.work.now s.requires.1)

pub instants_in_force-requires : goal.instants_in_force-requires
instants_in_force-requires c =
    let p = c.requires.0 in
    rw c.right_place-y.ensures (p.looked, p.denials)

pub returns : goal.returns
returns c =
    let w = c in
    let d = w in
    let a = d.args in
    let words = fields_of a.t.words a.work.now in
    let h : w.instants_in_force.result ≡ force_in a.t a.f a.number.now words a.p.point =
    w.instants_in_force.ensures
    ∙ ap (λ (y : Place). force_at a.t a.f words y) w.right_place-y.ensures in
    let b = sym w.if-is_broken.false ∙ d.is_broken.ensures
    ∙ ap (λ (l : List ℕ). broken_in a.t a.f.grid l a.p) (lent_rest a.t.words a.work.now) in
    rw (h, b) at c.derive.ensures
