use borrow.Author.Rules.{rules}
use native.Mathlib.Omega.{arith}
use mathlib.Core.Path.{refl, sym, ap, ◌∙◌}
use Prim.Native.Nat.{ℕ, ◌+◌, ◌*◌}
use lib.ListN.{take, set, length-set}
use lib.Seq.{take_all}
use Rattle.queries.specs.HandedOn.{bytes_in}
use Rattle.queries.proofs.Handing.{one_packed}
use Rattle.queries.proofs.prepared.pack.Goals as goal

pub loop-i-init : goal.loop-i-init
loop-i-init c = (search rules, refl)

pub loop-i-preserved : goal.loop-i-preserved
loop-i-preserved c =
    let k = c in
    let a = k.args in
    let l = c.loop-i in
    let w = c.word_at in (
      simp length-set (search rules),
      ap (λ (v : ℕ). bytes_in (take (l.i + 1) (set l.words l.i v))) w.ensures
          ∙ one_packed a.bytes.now l.words l.i (omega arith) (omega arith)
          (λ j. omega (arith, k.shared_slice_known-1.given j)) l.invariant.1,
    )

pub returns : goal.returns
returns c =
    let b = c.args.bytes.now in
    let l = c.loop-i in
    ap bytes_in (sym (take_all l.i l.words (omega arith))) ∙ l.invariant.1
    ∙ take_all (8 * l.i) b (omega arith)
