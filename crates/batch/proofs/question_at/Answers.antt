use native.Mathlib.Omega.{arith}
use mathlib.Core.Path.{◌≡◌, sym, ap, ◌∙◌}
use Prim.Native.Nat.{ℕ, ◌+◌, ◌*◌}
use lib.ListN.{get_or, drop}
use lib.Seq.{get_or-drop}
use Rattle.model.specs.Batch.{question}
use Rattle.batch.proofs.question_at.Goals as goal

pub returns : goal.returns
returns c =
    let a = c.args in
    let w = a.words.now in
    let n = 4 * a.i in
    let z : n + 0 ≡ n = omega arith in
    let at : (k : ℕ) → get_or w (n + k) 0 ≡ get_or (drop n w) k 0 = λ k. sym (get_or-drop n w k 0) in
    let first : get_or w n 0 ≡ get_or (drop n w) 0 0 = ap (λ (k : ℕ). get_or w k 0) (sym z) ∙ at 0 in
    λ j. question (first j) (at 1 j) (at 2 j) (at 3 j)
