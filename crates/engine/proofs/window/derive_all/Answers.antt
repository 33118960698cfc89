use mathlib.Core.Path.{refl, sym, ap, ◌∙◌}
use mathlib.Core.Logic.{inl, inr}
use mathlib.Core.List.{[]}
use Rattle.foundation.specs.BitMasks.{bit, none_set}
use Rattle.grounding.specs.RuleTurns.{words_for}
use Rattle.engine.proofs.Sectioned.{part_alike}
use Rattle.engine.proofs.window.derive_all.Goals as goal

pub derive_rest-requires : goal.derive_rest-requires
derive_rest-requires c =
    let k = c in
    let d = k in
    let s = d in
    let f = s.args.w.frame in
    let n = words_for f.fields f.width in
    let held = s.requires.by_index.1 in
    let long = k.derive_rules-rest.auto.work in
    let e = d.derive_rules-rest.ensures in record {
      by_index = (
        (λ r b. rw (part_alike n _ s.args.work.now long, e.1) (s.requires.by_index.0 r (e.2 r b))),
        record {
          outlined = held.outlined;
          placed = held.placed;
          numbered = held.numbered;
          roomy = rw long held.roomy;
        },
      );
      by_index_2 = s.requires.by_index_2;
    }

pub returns-then-rest-ne0 : goal.returns-then-rest-ne0
returns-then-rest-ne0 c =
    let t = c in
    let d = t in
    let e = d.derive_rules-rest.ensures in
    let y = t.derive_rest.ensures in
    let r = y.0.ran in (
      record {
        rest = d.derive_rules-rest.result;
        turned = _;
        turns = e.0;
        fewer = e.2;
        strata = _;
        closed = inr (y.0.numbered, rw e.1 at r);
      },
      y.1 ∙ e.1,
      (λ _. y.2),
      y.3,
    )

pub returns : goal.returns
returns c =
    let d = c in (
      record {
        rest = d.derive_rules-rest.result;
        turned = _;
        turns = d.derive_rules-rest.ensures.0;
        fewer = d.derive_rules-rest.ensures.2;
        strata = [];
        closed = inl ((λ q h e. none_set q (ap (bit q) (sym c.if-rest-ne0.false) ∙ e)), refl);
      },
      d.derive_rules-rest.ensures.1,
      d.requires.by_index_2.4,
      refl,
    )
