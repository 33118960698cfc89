use native.Mathlib.Omega.{arith}
use mathlib.Core.Path.{sym, ◌∙◌, subst}
use mathlib.Core.Bool.{Bool}
use Prim.Native.Nat.{ℕ}
use Rattle.foundation.specs.Tests.{and-true}
use Rattle.foundation.specs.BitMasks.{bit, bit_le}
use Rattle.sections.specs.Sections.{first_of, rights_of}
use Rattle.tables.specs.declared.Place.{Place}
use Rattle.tables.specs.TableGiving.{tables_of, TablesGiven}
use Rattle.tables.proofs.GivingSteps.{given-zero}
use Rattle.facts.specs.Facts.{fits_rule, taken_by, setting_in, place_in}
use Rattle.facts.proofs.LineGiving.{span_fits, takes_mask}
use Rattle.facts.proofs.give_line.Goals as goal

pub span-v-requires : goal.span-v-requires
span-v-requires c =
    let u = c.requires.0 in
    (u.short, u.rising)

pub returns-then-v-eq0 : goal.returns-then-v-eq0
returns-then-v-eq0 c =
    let s = c in
    let a = s.args in
    let f = a.w.frame in
    let h = a.a.head in
    let e = setting_in a.body.now a.w a.outline.now a.coordinates.now a.number.now
    a.marks.now in
    record {
      value = s.span-v.result;
      instants = s.span-v.ensures;
      given = given-zero (tables_of f e.right e.first) f.width (place_in e h).pair
          (place_in e h).point (taken_by a.body.now f.tables h) s.span-v.result a.words.now
          c.if-v-eq0.true;
    }

pub place_for-p-requires : goal.place_for-p-requires
place_for-p-requires c =
    let p = c.requires in
    (p.1.placed, p.1.pair, p.0.few, omega (arith, p.3))

pub takers_of-takers-requires : goal.takers_of-takers-requires
takers_of-takers-requires c =
    let s = c in
    s.requires.0.rules

pub give-requires : goal.give-requires
give-requires c =
    let k = c in
    let q = k in
    let s = q in
    let b = s in
    let a = b.args in
    let f = a.w.frame in
    let p = b.requires in (
      p.0.ready,
      rw q.place_for-p.ensures p.1.within,
      omega (arith, c.sign_of.ensures, bit_le a.a.head.negative),
      λ d m. (and-true (bit d f.tables) (fits_rule a.body.now a.a.head d)
          (sym (k.takers_of-takers.ensures.1 d) ∙ m)).0,
      span_fits a.w.count f.width s.span-v.result a.marks.now a.a.interval
          p.0.fits s.span-v.ensures,
    )

pub returns : goal.returns
returns c =
    let g = c in
    let n = g in
    let k = n in
    let q = k in
    let s = q in
    let a = s.args in
    let f = a.w.frame in
    let t = tables_of f (rights_of a.coordinates.now) (first_of a.outline.now) in
    let v = s.span-v.result in
    record {
      value = v;
      instants = s.span-v.ensures;
      given = subst (λ (z : Place). TablesGiven t f.width z.pair z.point
          (taken_by a.body.now f.tables a.a.head) v a.words.now g.give.new.words)
          q.place_for-p.ensures
          (subst (λ (taken : ℕ → Bool). TablesGiven t f.width q.place_for-p.result.pair
          q.place_for-p.result.point taken v a.words.now g.give.new.words)
          (takes_mask a.body.now f.tables a.a.head n.sign_of.result k.takers_of-takers.result
          n.sign_of.ensures k.takers_of-takers.ensures.1)
          g.give.ensures.0);
    }
