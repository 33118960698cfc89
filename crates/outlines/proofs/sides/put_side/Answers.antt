use mathlib.Core.Path.{sym, ap, ◌∙◌}
use Prim.Native.Nat.{ℕ, ◌+◌, ◌<◌}
use native.Mathlib.Omega.{arith}
use lib.Dec.{eqb}
use lib.ListN.{length-set, get_or, set}
use lib.Seq.{get_or-set_other}
use Rattle.foundation.specs.Tests.{pick}
use Rattle.sections.proofs.SectionWrites.{in_part}
use Rattle.outlines.proofs.SideCodes.{four_kept, four-first, four_second, four_third, four_fourth}
use Rattle.outlines.proofs.sides.put_side.Goals as goal

pub bounds-coordinates-object : goal.bounds-coordinates-object
bounds-coordinates-object c =
    let p = c.requires in
    omega (arith, p.1, p.2.object)

pub bounds-coordinates-at : goal.bounds-coordinates-at
bounds-coordinates-at c =
    let p = c.requires in
    omega (arith, p.0, p.1)

pub bounds-coordinates-subject : goal.bounds-coordinates-subject
bounds-coordinates-subject c =
    let p = c.requires in
    simp length-set (omega (arith, p.1, p.2.subject))

pub bounds-coordinates-at-2 : goal.bounds-coordinates-at-2
bounds-coordinates-at-2 c =
    let p = c.requires in
    simp length-set (omega (arith, p.0, p.1))

pub bounds-coordinates-at-3 : goal.bounds-coordinates-at-3
bounds-coordinates-at-3 c =
    let p = c.requires in
    simp length-set (omega (arith, p.0, p.1))

pub bounds-coordinates-at-4 : goal.bounds-coordinates-at-4
bounds-coordinates-at-4 c =
    let p = c.requires in
    simp length-set (omega (arith, p.0, p.1))

pub returns : goal.returns
returns c =
    let b = c in
    let a = b.args in
    let l = a.coordinates.now in
    let o = a.s.object in
    let s = a.s.subject in
    let f = c.coded in
    let g = c.coded-2 in
    let m = c.mode_code in
    let h : a.at + 3 < 1666 = omega (arith, b.requires.0) in
    let h = rw (← b.requires.1) at h in (
      record {
        object = four-first l a.at f.result g.result m.result a.signs h ∙ f.ensures
            ∙ ap (λ (n : ℕ). pick (eqb o 0) 255 (get_or l (1536 + n) 0)) c.from-object.ensures
            ∙ ap (pick (eqb o 0) 255) (sym (in_part 1536 130 l o (omega (arith, b.requires.2.object))));
        subject = four_second l a.at f.result g.result m.result a.signs h ∙ g.ensures
            ∙ ap (λ (n : ℕ). pick (eqb s 0) 255 (get_or (set l a.at f.result) (512 + n) 0)) c.from-subject.ensures
            ∙ ap (pick (eqb s 0) 255)
            (get_or-set_other l a.at (512 + s) f.result 0 (λ z. omega (arith, b.requires.0))
            ∙ sym (in_part 512 1024 l s (omega (arith, b.requires.2.subject))));
        mode = four_third l a.at f.result g.result m.result a.signs h ∙ m.ensures;
        signs = four_fourth l a.at f.result g.result m.result a.signs h;
      },
      four_kept l a.at f.result g.result m.result a.signs,
    )
