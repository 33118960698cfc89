use native.Mathlib.Omega.{arith}
use mathlib.Core.Path.{sym, ap}
use Prim.Native.Nat.{ℕ, ◌+◌, ◌-◌, ◌≤◌}
use lib.ListN.{length, take, drop, length-append}
use Rattle.model.specs.Text.{print_run, print_more, print_runs}
use Rattle.model.specs.Session.{pairs_of}
use Rattle.printing.proofs.Placed.{printed-room, printed-then, printed_as}
use Rattle.printing.proofs.Pairs.{pair_at, runs_first}
use borrow.Author.Rules.{rules}
use Rattle.printing.proofs.put_runs.Goals as goal

pub put_bytes-requires : goal.put_bytes-requires
put_bytes-requires c =
    let c₀ = c in
    let h = c₀.requires.0 in
    rw c₀.if-n-eq0.true at h

pub put_run-more-requires : goal.put_run-more-requires
put_run-more-requires c =
    let fits : (let a = c.args in a.at + (length (print_run (pair_at 0 a.list.now)) + length (print_more (pairs_of (a.n - 1) (take (length a.list.now - 2) (drop 2 a.list.now))))) ≤ length a.out.now) =
    let a = c.args in
    let first = print_run (pair_at 0 a.list.now) in
    let more = print_more (pairs_of (a.n - 1) (take (length a.list.now - 2) (drop 2 a.list.now))) in
    omega (
      arith,
      length-append first more,
      ap length (runs_first a.n a.list.now (omega arith)),
      c.requires.0,
    ) in
    let w = fits in omega arith

pub put_more-requires : goal.put_more-requires
put_more-requires c =
    let fits : (let a = c.args in a.at + (length (print_run (pair_at 0 a.list.now)) + length (print_more (pairs_of (a.n - 1) (take (length a.list.now - 2) (drop 2 a.list.now))))) ≤ length a.out.now) =
    let a = c.args in
    let first = print_run (pair_at 0 a.list.now) in
    let more = print_more (pairs_of (a.n - 1) (take (length a.list.now - 2) (drop 2 a.list.now))) in
    omega (
      arith,
      length-append first more,
      ap length (runs_first a.n a.list.now (omega arith)),
      c.requires.0,
    ) in
    let c₁ = c in
    let w = fits in
    let r = printed-room c₁.put_run-more.ensures (omega arith) in
    (omega (arith, c₁.put_run-more.ensures.ends), search rules)

pub returns-then-n-eq0 : goal.returns-then-n-eq0
returns-then-n-eq0 c =
    let c₁ = c in
    let c₀ = c₁ in
    let a = c₀.args in
    let e = ap (λ (j : ℕ). print_runs (pairs_of j a.list.now)) (sym c₀.if-n-eq0.true) in
    printed_as e c₁.put_bytes.ensures

pub returns : goal.returns
returns c =
    let fits : (let a = c.args in a.at + (length (print_run (pair_at 0 a.list.now)) + length (print_more (pairs_of (a.n - 1) (take (length a.list.now - 2) (drop 2 a.list.now))))) ≤ length a.out.now) =
    let a = c.args in
    let first = print_run (pair_at 0 a.list.now) in
    let more = print_more (pairs_of (a.n - 1) (take (length a.list.now - 2) (drop 2 a.list.now))) in
    omega (
      arith,
      length-append first more,
      ap length (runs_first a.n a.list.now (omega arith)),
      c.requires.0,
    ) in
    let c₂ = c in
    let c₁ = c₂ in
    let c₀ = c₁ in
    let a = c₀.args in
    let w = fits in
    printed_as (runs_first a.n a.list.now (omega arith))
    (printed-then c₁.put_run-more.ensures (omega arith) c₂.put_more.ensures)
