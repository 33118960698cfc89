use native.Mathlib.Omega.{arith}
use mathlib.Core.Path.{◌≡◌, ap, ap₂, ◌∙◌}
use Prim.Native.Nat.{ℕ, ◌+◌, ◌*◌}
use lib.ListN.{length}
use Rattle.words.specs.Fields.{joined}
use Rattle.words.proofs.SumFacts.{grown_both}
use Rattle.places.specs.declared.Region.{Region}
use Rattle.places.specs.Regions.{size_of, index_in}
use Rattle.tables.specs.TableGiving.{tables_of, table_takes}
use Rattle.tables.proofs.GivingSteps.{plain_fits, given-plain, given_nothing, given-then}
use Rattle.tables.proofs.GivingSteps.{taken_by, taken_none, taken_once, taken_more, plain_once, taken_all}
use Rattle.words.proofs.SetBitLoops.{Turn, turn, finished}
use mathlib.Core.List.{[], ◌∷◌, ◌++◌}
use Rattle.tables.proofs.give.Goals as goal
use Rattle.tables.proofs.give.Goals.{In-Some}

pub denials_start-requires : goal.denials_start-requires
denials_start-requires c =
    let s = c in
    let a = s.args in
    omega (arith, plain_fits a.f a.right.now a.first.now s.requires.0.laid a.sign s.requires.2)

pub overflow_mul-sign : goal.overflow_mul-sign
overflow_mul-sign c =
    let s = c in
    let a = s.args in
    omega (
      arith,
      ap (λ (n : ℕ). a.sign * n) c.denials_start.ensures,
      plain_fits a.f a.right.now a.first.now s.requires.0.laid a.sign s.requires.2,
    )

pub join_in-fresh-requires : goal.join_in-fresh-requires
join_in-fresh-requires c =
    let s = c in
    let a = s.args in
    let p = s.requires in
    let b = ap (size_of a.f.grid) c.all_places-b.ensures in
    let e = ap (λ (n : ℕ). a.sign * n) c.denials_start.ensures in
    let h = plain_fits a.f a.right.now a.first.now p.0.laid a.sign p.2 in
    (record { narrow = p.0.narrow; fits = p.0.fits; high = omega arith; within = p.1 }, p.4)

at : (c : In-Some) → Turn c.args.takers c.loop-c.yielded c.in-Some.c
at c = turn c.loop-c.c-iterator (cc) c.loop-c.yielded_by c.in-Some.ensures.steps

pub loop-c-init : goal.loop-c-init
loop-c-init c =
    let a = c.args in (
      given_nothing (tables_of a.f a.right.now a.first.now) a.f.width a.p.pair
          a.p.point a.v (taken_by []) c.join_in-fresh.new.words taken_none,
      λ old g. g,
    )

pub give_rule-fresh-requires : goal.give_rule-fresh-requires
give_rule-fresh-requires c =
    let l = c.loop-c in
    let p = c.requires in
    let t = at (goal.at.give_rule-fresh-requires c).In-Some in
    let e : length l.words ≡ length c.args.words.now =
    l.invariant.0.lengths ∙ c.join_in-fresh.ensures.1 in (
      record {
        laid = p.0.laid;
        narrow = p.0.narrow;
        fits = rw e p.0.fits;
        rights = p.0.rights;
        firsts = p.0.firsts;
      },
      p.1,
      t.low,
      p.3 c.in-Some.c t.own,
      p.4,
    )

pub loop-c-preserved : goal.loop-c-preserved
loop-c-preserved c =
    let l = c.loop-c in
    let r = c.in-Some.c in
    let g = c.give_rule-fresh in (
      given-then (taken_by (l.yielded ++ r ∷ [])) (taken_once (at (goal.at.loop-c-preserved c).In-Some))
          (taken_more r l.yielded) l.invariant.0 g.ensures.0,
      λ old h. grown_both l.fresh g.result (l.invariant.1 old h) g.ensures.1,
    )

pub returns : goal.returns
returns c =
    let j = c.join_in-fresh in
    let z = c.denials_start.ensures in
    let b = c.all_places-b.ensures in
    let a = c.args in
    let p = c.requires in
    let l = c.loop-c in
    let plain = given-plain a.f a.right.now a.first.now p.0.laid a.f.width a.p.pair
    a.p.point a.v p.1 a.words.now j.new.words j.ensures.1 a.sign p.2
    (λ i. j.ensures.0 i ∙ ap₂ (λ (n : ℕ) (r : Region). joined a.f.width a.words.now
    (a.sign * n + index_in a.f.grid r a.p.pair a.p.point) a.v i)
    z b) in (
      given-then (table_takes a.sign a.takers) (plain_once a.sign l.yielded p.2)
          (taken_all a.sign a.takers l.yielded p.2 (omega arith)
          (finished l.c-iterator (cc) l.yielded_by c.in-None.ensures.steps)) plain l.invariant.0,
      l.invariant.1 a.words.now j.ensures.2,
    )
