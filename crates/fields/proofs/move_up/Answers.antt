use Rattle.std.proofs.Common.{rules, ◌≡◌, ap, ◌∙◌, ◌-◌, ◌≤◌, ◌<◌, List, ℕ, suc, arith, length}
use lib.ListN.{get_or, set, length-set}
use Rattle.fields.proofs.ByteLaws.{up_step}
use Rattle.fields.proofs.move_up.Invariants.{raised}
use Rattle.fields.proofs.move_up.Goals as goal

turn : (s₀ s : List ℕ) (w i : ℕ) → w < i → i ≤ length s₀ → s ≡ raised s₀ w i →
    set s (i - 1) (get_or s (i - 1 - w) 0) ≡ raised s₀ w (i - 1)
turn s₀ s w i h k e =
    let q : i ≡ suc (i - 1) = omega arith in
    let e' : s ≡ raised s₀ w (suc (i - 1)) = e ∙ ap (raised s₀ w) q in
    rw e' (up_step s₀ w (i - 1) (omega arith) (omega arith))

pub loop-i-preserved : goal.loop-i-preserved
loop-i-preserved c = (
  search rules,
  search rules,
  simp length-set (search rules),
  turn c.args.s.now c.loop-i.s c.args.w c.loop-i.i (search rules) (search rules) c.loop-i.invariant.3,
)
