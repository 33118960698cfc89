use native.Mathlib.Omega.{arith}
use mathlib.Core.Path.{subst}
use Prim.Native.Nat.{ℕ, ◌+◌, ◌<◌}
use Rattle.scan.specs.Runs.{ScannedTo}
use Rattle.scan.proofs.RunFacts.{instant-there, instant_behind, within_end, next_reached}
use Rattle.scan.proofs.runs.note_word.Goals as goal

pub loop-i-preserved : goal.loop-i-preserved
loop-i-preserved c =
    let a = c.args in
    let l = c.loop-i in
    let ms = a.marks.now in
    let rising = c.requires.2 in
    let h : l.i < a.count = omega arith in
    let noted = c.note-r in (
      omega (arith, noted.ensures.count_bound, l.invariant.0),
      (λ i g. omega (arith, rising l.i (l.i + 1) (omega arith) g)),
      λ f e lent m r w. next_reached f e lent a.count ms m a.yes rising w l.i noted.result _
          h
          (noted.ensures.by_index f e lent
          (subst (λ (t : ℕ). ScannedTo f e lent t l.r l.list) (instant-there a.count ms m l.i h)
          (l.invariant.2 f e lent m r w))
          (w.answers l.i h) (within_end f e lent a.count ms m a.yes rising w l.i h)),
    )

pub returns : goal.returns
returns c =
    let l = c.loop-i in
    let a = c.args in
    λ f e lent m r w. subst (λ (t : ℕ). ScannedTo f e lent t l.r l.list)
    (instant_behind a.count a.marks.now m l.i (omega arith)) (l.invariant.2 f e lent m r w)
