use native.Mathlib.Omega.{arith}
use mathlib.Core.Path.{◌≡◌, sym, ap, ◌∙◌}
use mathlib.Core.List.{List, [], ◌∷◌, ◌++◌}
use Prim.Native.Nat.{ℕ, ◌+◌, ◌-◌, ◌*◌, ◌≤◌}
use lib.ListN.{length, take, drop, length-drop}
use lib.Seq.{length-take-le}
use Rattle.foundation.specs.Lists.{lent_rest}
use Rattle.foundation.specs.Tests.{cases}
use Rattle.foundation.specs.BitMasks.{bit}
use Rattle.fields.specs.Field.{splice}
use Rattle.fields.proofs.ByteLaws.{length-splice, part-put}
use Rattle.model.specs.declared.Rule.{Rule}
use Rattle.encoding.specs.Format.{rules_in, rule_at}
use Rattle.words.proofs.SetBitLoops.{Turn, turn, finished, place_start, place_turn}
use Rattle.selection.proofs.SelectedLoop.{up_same, up_turn, rule_copied}
use Rattle.selection.proofs.ranking.select.Goals as goal
use Rattle.selection.proofs.ranking.select.Goals.{In-Some}

at_ : (c : In-Some) → Turn c.args.needed c.loop-r.yielded c.in-Some.r
at_ c = turn c.loop-r.r-iterator (cc) c.loop-r.yielded_by c.in-Some.ensures.steps

-- the rule's bytes are there
there : (c : In-Some) → c.in-Some.r * 28 + 28 ≤ length c.args.body.now
there c =
    let p = c.requires in
    omega (arith, p.2 c.in-Some.r (at_ c).own, p.1)

-- there are no more rules before it than places
few : (c : In-Some) → c.loop-r.k ≤ c.in-Some.r
few c = (c.loop-r.invariant.1 c.in-Some.r (at_ c).passed).0

pub loop-r-init : goal.loop-r-init
loop-r-init c =
    let a = c.args in (
      c.requires.3,
      place_start a.needed _ (λ n z. (omega arith, sym (up_same a.needed a.body.now 0 n (omega arith) z))),
    )

-- what is copied is 28 bytes
front : (c : In-Some) →
    length (take 28 (take (length c.args.body.now - c.in-Some.r * 28) (drop (c.in-Some.r * 28) c.args.body.now))) ≡ 28
front c = rw (lent_rest (c.in-Some.r * 28) c.args.body.now)
    (length-take-le 28 _ (omega (arith, there c, length-drop (c.in-Some.r * 28) c.args.body.now)))

pub slice_bounds-rule-start : goal.slice_bounds-rule-start
slice_bounds-rule-start c = omega (arith, there (goal.at.slice_bounds-rule-start c).In-Some)

pub slice_bounds-rule-count : goal.slice_bounds-rule-count
slice_bounds-rule-count c = omega (arith, there (goal.at.slice_bounds-rule-count c).In-Some)

pub overflow_mul-at : goal.overflow_mul-at
overflow_mul-at c =
    let i = (goal.at.overflow_mul-at c).In-Some in
    omega (arith, few i, (at_ i).low)

pub overflow_add-at : goal.overflow_add-at
overflow_add-at c =
    let i = (goal.at.overflow_add-at c).In-Some in
    omega (arith, few i, (at_ i).low)

pub slice_bounds-copy_from_slice-end : goal.slice_bounds-copy_from_slice-end
slice_bounds-copy_from_slice-end c =
    let i = (goal.at.slice_bounds-copy_from_slice-end c).In-Some in
    omega (arith, few i, (at_ i).low, c.loop-r.invariant.0)

pub slice_bounds-copy_from_slice-end-in-loop-r : goal.slice_bounds-copy_from_slice-end-in-loop-r
slice_bounds-copy_from_slice-end-in-loop-r c = sym (front (goal.at.slice_bounds-copy_from_slice-end-in-loop-r c).In-Some)

pub copy_from_slice-requires : goal.copy_from_slice-requires
copy_from_slice-requires c =
    let i = (goal.at.copy_from_slice-requires c).In-Some in
    let l = c.loop-r in
    let at = l.k * 28 in
    let n : at + 28 - at ≡ 28 = omega arith in
    length-take-le (at + 28 - at) (drop at l.few) (omega (arith, n, few i, (at_ i).low, l.invariant.0, length-drop at l.few))
    ∙ n ∙ sym (front i)

pub overflow_add-k : goal.overflow_add-k
overflow_add-k c =
    let i = (goal.at.overflow_add-k c).In-Some in
    omega (arith, few i, (at_ i).low)

pub loop-r-preserved : goal.loop-r-preserved
loop-r-preserved c =
    let i = (goal.at.loop-r-preserved c).In-Some in
    let t = at_ i in
    let l = c.loop-r in
    let a = c.args in
    let body = a.body.now in
    let r = c.in-Some.r in
    let rest = drop (r * 28) body in
    let v : 28 ≤ length rest = omega (arith, there i, length-drop (r * 28) body) in
    let h : l.k * 28 + 28 ≤ length l.few = omega (arith, few i, t.low, l.invariant.0) in
    let z : length (take 28 rest) ≡ 28 = length-take-le 28 rest v in
    let w = part-put (l.k * 28) (l.k * 28 + 28) l.few (c.copy_from_slice.ensures.after
    ∙ ap (take 28) (lent_rest (r * 28) body)) (ap (λ (n : ℕ). l.k * 28 + n) z) in (
      ap length w ∙ length-splice (l.k * 28) (take 28 rest) l.few (omega arith) ∙ l.invariant.0,
      place_turn _ _ t l.invariant.1 (λ p n g z. (
        omega (arith, p.0),
        ap (rules_in (l.k + 1)) w ∙ rule_copied l.k l.few rest h v
            ∙ ap (λ (rs : List Rule). rs ++ (rule_at body r ∷ [])) p.1
            ∙ sym (up_turn a.needed body r n g t.own z),
      )),
    )

pub returns : goal.returns
returns c =
    let l = c.loop-r in
    let a = c.args in
    let p = l.invariant.1 64 (finished l.r-iterator (cc) l.yielded_by c.in-None.ensures.steps) in (
      p.0,
      l.invariant.0,
      p.1
          ∙ up_same a.needed a.body.now a.n 64 c.requires.0
          (λ i p q. cases (bit i a.needed) (λ e. absurd (omega (arith, c.requires.2 i e))) (λ e. e)),
    )
