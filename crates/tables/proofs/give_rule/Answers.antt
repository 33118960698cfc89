use native.Mathlib.Omega.{arith}
use mathlib.Core.Path.{sym, ap, ◌∙◌}
use mathlib.Core.Bool.{true≢false}
use Prim.Native.Nat.{suc, ◌+◌}
use lib.ListN.{get_or}
use Rattle.words.specs.Fields.{joined}
use Rattle.words.proofs.SumFacts.{grown_none}
use Rattle.places.specs.declared.Region.{Region}
use Rattle.places.specs.Regions.{index_in, In}
use Rattle.tables.specs.TableLayout.{region_at}
use Rattle.tables.specs.TableGiving.{shapes_of, tables_of}
use Rattle.tables.proofs.GivingSteps.{reaches, given_one, given_none}
use Rattle.tables.proofs.give_rule.Goals as goal

-- a table lies below the number of fields
pub overflow_cast-first : goal.overflow_cast-first
overflow_cast-first c =
    let s = c in
    omega (arith, s.requires.0.laid.high (suc (suc s.args.c)) s.requires.3)

pub join_in-requires : goal.join_in-requires
join_in-requires c =
    let s = c in
    let a = s.args in
    let p = s.requires in (
      rw c.shape_at-b.ensures
          (reaches a.f a.right.now a.first.now _ a.p p.0 p.1 (suc (suc a.c)) p.3),
      p.4,
    )

pub returns-then-is_in : goal.returns-then-is_in
returns-then-is_in c =
    let s = c in
    let a = s.args in
    let p = s.requires in
    let e = c.join_in.ensures in
    let b = c.shape_at-b.ensures in
    let t = tables_of a.f a.right.now a.first.now in
    let x = a.p.point in
    let i : In (region_at (shapes_of a.f a.right.now) a.c) x =
    rw b at (c.is_in.ensures.0
    c.if-is_in.true) in (
      given_one t a.f.width a.p.pair x a.v 0 a.f.fields p.0.laid (suc (suc a.c))
          record { table = p.3; within = p.1; inside = i } a.words.now
          c.join_in.new.words
          (λ j. e.0 j ∙ ap (λ (r : Region). joined a.f.width a.words.now
          (get_or a.first.now a.c 0
          + index_in a.f.grid r a.p.pair x) a.v j) b) e.1,
      e.2,
    )

pub returns : goal.returns
returns c =
    let s = c in
    let a = s.args in
    let b = c.shape_at-b.ensures in
    let t = tables_of a.f a.right.now a.first.now in (
      given_none t a.f.width a.p.pair a.p.point a.v (suc (suc a.c)) a.words.now
          (λ i. true≢false (sym (c.is_in.ensures.1 (rw b i)) ∙ c.if-is_in.false)),
      grown_none a.words.now,
    )
