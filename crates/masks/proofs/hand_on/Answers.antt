use native.Mathlib.Omega.{arith}
use mathlib.Core.Path.{◌≡◌, refl, sym, ap, ap₂, ◌∙◌}
use mathlib.Core.Bool.{Bool, true, false, ◌&&◌, ◌||◌}
use Prim.Native.Nat.{ℕ, ◌+◌, ◌<◌}
use lib.Dec.{eqb}
use lib.ListN.{length, get_or}
use lib.Seq.{get_or-set_other}
use Rattle.foundation.specs.BitMasks.{bit}
use Rattle.foundation.specs.Tests.{agree, true_eq, eq_true, or_false, and-false}
use Rattle.words.specs.SetBits.{among, set_bits}
use Rattle.words.proofs.SetBitLoops.{Turn, turn, finished, among_more, among_all}
use Rattle.masks.proofs.Puts.{put-bit}
use Rattle.masks.proofs.hand_on.Goals as goal
use Rattle.masks.proofs.hand_on.Goals.{In-Some}

at : (c : In-Some) → Turn c.args.m c.loop-i.yielded c.in-Some.i
at c = turn c.loop-i.i-iterator (cc) c.loop-i.yielded_by c.in-Some.ensures.steps

moved : (k i j : ℕ) → eqb (k + i) (k + j) ≡ eqb i j
moved k i j = agree (eqb (k + i) (k + j)) (eqb i j)
    (λ e. let z = true_eq (k + i) (k + j) e in eq_true i j (omega arith))
    (λ e. eq_true (k + i) (k + j) (ap (λ (n : ℕ). k + n) (true_eq i j e)))

-- what two steps bring
both : (x e a b : Bool) → (x || (e && a)) || (e && b) ≡ x || (e && (a || b))
both true e a b = refl
both false true a b = refl
both false false a b = refl

pub loop-i-init : goal.loop-i-init
loop-i-init c =
    let a = c.args in (
      (λ w h. refl),
      λ j q. let old : Bool = bit q (get_or a.words.now (a.from + j) 0) in
          sym (ap (λ (x : Bool). old || x) (and-false (eqb q a.r)) ∙ or_false old),
    )

pub bounds-words-from : goal.bounds-words-from
bounds-words-from c = omega (arith, (at (goal.at.bounds-words-from c).In-Some).low, c.requires.1)

pub bounds-words-from-in-loop-i : goal.bounds-words-from-in-loop-i
bounds-words-from-in-loop-i c =
    omega (arith, (at (goal.at.bounds-words-from-in-loop-i c).In-Some).low, c.requires.1)

pub loop-i-preserved : goal.loop-i-preserved
loop-i-preserved c =
    let a = c.args in
    let l = c.loop-i in
    let i = c.in-Some.i in
    let t = at (goal.at.loop-i-preserved c).In-Some in
    let h : a.from + i < length l.words = omega (arith, t.low, c.requires.1) in
    let old : ℕ → ℕ → Bool = λ j q. bit q (get_or a.words.now (a.from + j) 0) in (
      (λ w k. get_or-set_other l.words (a.from + i) w _ 0 (λ z. omega arith) ∙ l.invariant.0 w k),
      λ j q. put-bit l.words (a.from + i) a.r (a.from + j) q h c.requires.0
          ∙ ap₂ (λ (x y : Bool). x || (eqb q a.r && y)) (l.invariant.1 j q) (moved a.from j i)
          ∙ both (old j q) (eqb q a.r) (among j l.yielded) (eqb j i)
          ∙ ap (λ (x : Bool). old j q || (eqb q a.r && x)) (sym (among_more j i l.yielded)),
    )

pub returns : goal.returns
returns c =
    let a = c.args in
    let l = c.loop-i in
    let e : l.yielded ≡ set_bits a.m = finished l.i-iterator (cc) l.yielded_by c.in-None.ensures.steps in (
      l.invariant.0,
      λ j q. l.invariant.1 j q
          ∙ ap (λ (x : Bool). bit q (get_or a.words.now (a.from + j) 0) || (eqb q a.r && x))
          (among_all j a.m l.yielded (omega arith) e),
    )
