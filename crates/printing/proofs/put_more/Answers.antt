use native.Mathlib.Omega.{arith}
use native.Mathlib.Numerals.{add-one}
use mathlib.Core.Path.{◌≡◌, sym, ap, ◌∙◌}
use Prim.Native.Nat.{ℕ, ◌+◌, ◌≤◌, ◌<◌}
use mathlib.Core.List.{List}
use lib.ListN.{length}
use Rattle.model.specs.Text.{print_run, print_more}
use Rattle.model.specs.Session.{pairs_of}
use Rattle.printing.specs.Print.{Printed}
use Rattle.printing.proofs.Lengths.{more_rises}
use Rattle.printing.proofs.Placed.{printed_none, printed-room, printed-then, printed_as}
use Rattle.printing.proofs.Pairs.{pair_at, more_last, more_last-length}
use borrow.Author.Rules.{rules}
use Rattle.printing.proofs.put_more.Goals as goal

-- the buffer is as long as it was, what is printed fits it, and so does one run more
record Room (out now list : List ℕ) (at end i : ℕ) : Type 0 where
  same : length out ≡ length now
  fits : at + length (print_more (pairs_of i list)) ≤ length now
  next : end + 1 + length (print_run (pair_at i list)) ≤ length out

room : (out now list : List ℕ) (at end i n : ℕ) → i < n → at + length (print_more (pairs_of n list)) ≤ length now →
    Printed at (print_more (pairs_of i list)) now out end → Room out now list at end i
room out now list at end i n h q p =
    let m = more_last-length i list in
    let r = more_rises (i + 1) n list (omega arith) in
    let e = printed-room p (omega arith) in
    record { same = e; fits = omega arith; next = omega (arith, p.ends) }

pub loop-i-init : goal.loop-i-init
loop-i-init c = (search rules, printed_none _ _)

pub put_bytes-run-requires : goal.put_bytes-run-requires
put_bytes-run-requires c =
    let a = c.args in
    let l = c.loop-i in
    omega (arith, (room l.out a.out.now a.list.now a.at l.end l.i a.n (search rules) c.requires.0 l.invariant.1).next)

pub put_run-end-requires : goal.put_run-end-requires
put_run-end-requires c =
    let a = c.args in
    let l = c.loop-i in
    let w = room l.out a.out.now a.list.now a.at l.end l.i a.n (search rules) c.requires.0 l.invariant.1 in
    let r = printed-room c.put_bytes-run.ensures (omega (arith, w.next)) in
    omega (arith, w.next, c.put_bytes-run.ensures.ends)

pub loop-i-preserved : goal.loop-i-preserved
loop-i-preserved c =
    let a = c.args in
    let l = c.loop-i in
    let w = room l.out a.out.now a.list.now a.at l.end l.i a.n (search rules) c.requires.0 l.invariant.1 in
    let list = a.list.now in
    let e = sym (ap (λ (j : ℕ). print_more (pairs_of j list)) (add-one l.i) ∙ more_last l.i list) in (
      search rules,
      printed_as e
          (printed-then l.invariant.1 w.fits
          (printed-then c.put_bytes-run.ensures (omega (arith, w.next)) c.put_run-end.ensures)),
    )
