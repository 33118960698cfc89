use mathlib.Core.Path.{refl, sym}
use lib.Seq.{length_front, length-take-le}
use Rattle.words.proofs.SumFacts.{grown_none}
use Rattle.sections.specs.Sections.{fields_of}
use Rattle.tables.specs.TableGiving.{tables_of, table_takes}
use Rattle.tables.proofs.GivingSteps.{given-zero}
use Rattle.grounding.proofs.Parts.{fields_own, fields_rest}
use Rattle.grounding.proofs.pairs.derive_at.Goals as goal

pub returns-then-v-eq0 : goal.returns-then-v-eq0
returns-then-v-eq0 c =
    let a = c.args in
    let v = c.value_at-v in
    let words = fields_of a.t.words a.work.now in (
      record {
        value = v.result;
        derived = v.ensures;
        given = given-zero (tables_of a.f a.right.now a.first.now) a.f.width a.p.pair
            a.p.point (table_takes a.t.sign a.t.takers) v.result words c.if-v-eq0.true;
      },
      grown_none words,
      refl,
    )

pub slice_bounds-give-end-2 : goal.slice_bounds-give-end-2
slice_bounds-give-end-2 c =
    let s = c in
    sym (length-take-le s.args.t.words s.args.work.now s.requires.1)

pub shape_of-work : goal.shape_of-work
shape_of-work c =
    let s = c in
    let w = s.args.work.now in
    let g = c.give in
    length_front w g.new.words s.args.t.words g.ensures.0.lengths

pub returns : goal.returns
returns c =
    let d = c in
    let s = d in
    let a = s.args in
    let w = a.work.now in
    let k = a.t.words in
    let g = c.give in
    let e = fields_own k w s.requires.1 g.new.words g.ensures.0.lengths in (
      record { value = d.value_at-v.result; derived = d.value_at-v.ensures; given = rw e g.ensures.0 },
      rw e g.ensures.1,
      fields_rest k w s.requires.1 g.new.words g.ensures.0.lengths,
    )
