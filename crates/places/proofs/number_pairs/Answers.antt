use native.Mathlib.Numerals.{add-one}
use native.Mathlib.Omega.{arith}
use mathlib.Core.Path.{sym, ap, ◌∙◌}
use Prim.Native.Nat.{ℕ, ◌+◌, ◌<◌}
use lib.Dec.{eqb}
use lib.ListN.{length, get_or}
use lib.Seq.{get_or-set_same, get_or-set_other}
use Rattle.foundation.specs.Tests.{cases, true_eq, false_eq}
use Rattle.foundation.specs.BitMasks.{as_bit}
use Rattle.places.specs.ReachedNumbers.{used, used_before}
use Rattle.places.proofs.NumberFacts.{used_before_none, used_before-step, used_before-le}
use Rattle.places.proofs.number_pairs.Goals as goal

pub loop-j-init : goal.loop-j-init
loop-j-init c = (sym (used_before_none c.args.need.now), λ i h. absurd (omega arith))

pub counted-n-requires : goal.counted-n-requires
counted-n-requires c =
    let l = c.loop-j in
    let a = c.args in
    omega (
      arith,
      l.invariant.0,
      used_before-le a.need.now l.j,
      c.requires.0,
    )

pub loop-j-preserved : goal.loop-j-preserved
loop-j-preserved c =
    let a = c.args in
    let l = c.loop-j in
    let i = l.invariant in
    let need = a.need.now in
    let h : l.j < length l.number = omega arith in (
      c.counted-n.ensures ∙ ap (λ (n : ℕ). n + as_bit (used (get_or need l.j 0))) i.0
          ∙ sym (used_before-step need l.j (omega arith)) ∙ ap (used_before need) (sym (add-one l.j)),
      λ k g. cases (eqb k l.j)
          (λ e. let q = true_eq k l.j e in rw q (get_or-set_same l.number l.j l.n 0 h ∙ i.0))
          (λ e. let d = false_eq k l.j e in
          get_or-set_other l.number l.j k l.n 0 d ∙ i.1 k (omega arith)),
    )
