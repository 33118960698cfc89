use native.Mathlib.Omega.{arith}
use mathlib.Core.Path.{refl, sym, ap, ap₂, ◌∙◌}
use mathlib.Core.List.{List}
use Prim.Native.Nat.{ℕ, ◌+◌}
use lib.ListN.{length}
use Rattle.words.specs.Fields.{field_of, joined}
use Rattle.sections.specs.Sections.{broken_of}
use Rattle.grounding.specs.RuleSteps.{broken_at}
use Rattle.grounding.proofs.StepBits.{bit-number, bit-room, mark_set, mark_none, joined_empty}
use Rattle.foundation.specs.Lists.{lent_rest}
use Rattle.grounding.proofs.Parts.{bits_back, bits_own, bits_rest, both-length}
use Rattle.grounding.proofs.pairs.mark_broken_at.Goals as goal

pub overflow_cast-at : goal.overflow_cast-at
overflow_cast-at c =
    let w = c in
    let s = w in
    omega (arith, s.requires.0.here.number s.requires.3)

pub overflow_add-at : goal.overflow_add-at
overflow_add-at c =
    let w = c in
    let s = w in
    let a = s.args in
    omega (
      arith,
      c.index_in.ensures,
      bit-number a.t a.f.grid (length (broken_of a.t.words a.work.now)) a.p
          s.requires.0.here s.requires.3,
    )

pub join_at-requires : goal.join_at-requires
join_at-requires c =
    let w = c in
    let s = w in
    let a = s.args in (
      omega arith,
      omega (
        arith,
        c.index_in.ensures,
        ap length (lent_rest a.t.words a.work.now),
        bit-room a.t a.f.grid (length (broken_of a.t.words a.work.now)) a.p
            s.requires.0.here s.requires.3,
      ),
      omega arith,
    )

pub shape_of-work-then-v-last-eq0 : goal.shape_of-work-then-v-last-eq0
shape_of-work-then-v-last-eq0 c =
    let w = c in
    let s = w in
    let a = s.args in
    let l = a.work.now in
    let k = a.t.words in
    let g = c.join_at in
    let y = g.new.words in
    both-length k (bits_back k l s.requires.1 y) l (ap length (bits_rest k l s.requires.1 y))
    (ap length (bits_own k l s.requires.1 y) ∙ g.ensures.1 ∙ ap length (lent_rest k l))

pub returns-then-v-last-eq0 : goal.returns-then-v-last-eq0
returns-then-v-last-eq0 c =
    let d = c in
    let w = d in
    let s = w in
    let a = s.args in
    let l = a.work.now in
    let k = a.t.words in
    let v = w.value_at-v in
    let g = c.join_at in
    let e = g.ensures in
    let y = g.new.words in
    let x = c.index_in in
    let q = bits_own k l s.requires.1 y in
    let z = lent_rest k l in (
      record {
        value = v.result;
        derived = v.ensures;
        marked = λ j. ap (λ (m : List ℕ). field_of 0 m j) q ∙ e.0 j
            ∙ ap (λ (m : List ℕ). joined 0 m (a.t.bits + x.result) 1 j) z
            ∙ ap₂ (λ (i n : ℕ). joined 0 (broken_of k l) (a.t.bits + i) n j) x.ensures
            (sym (mark_set v.result a.last d.if-v-last-eq0.true));
        lengths = ap length q ∙ e.1 ∙ ap length z;
      },
      bits_rest k l s.requires.1 y,
    )

pub returns-else-v-last-eq0 : goal.returns-else-v-last-eq0
returns-else-v-last-eq0 c =
    let w = c in
    let a = w.args in
    let l = broken_of a.t.words a.work.now in
    let v = w.value_at-v in
    let i = broken_at a.t a.f.grid a.p in (
      record {
        value = v.result;
        derived = v.ensures;
        marked = λ j. joined_empty 0 l i j
            ∙ ap (λ (n : ℕ). joined 0 l i n j) (sym (mark_none v.result a.last c.if-v-last-eq0.false));
        lengths = refl;
      },
      refl,
    )
