use borrow.Author.Rules.{rules}
use native.Mathlib.Nat.{mul-le-mul}
use native.Mathlib.Omega.{arith}
use mathlib.Core.Path.{ap₂}
use Prim.Native.Nat.{ℕ, ◌*◌, ◌≤◌, ◌<◌}
use Rattle.foundation.specs.Tests.{eq_true, ne_false}
use Rattle.places.specs.ReachedNumbers.{pair_index}
use Rattle.grounding.specs.declared.Range.{Range}
use Rattle.grounding.proofs.turns.range_of.Goals as goal

abbrev numbers_from : ℕ → ℕ → Range
numbers_from x y = record { from = x; to = y }

-- where a pair of a row lies
row_fits : (b g s : ℕ) → b ≤ 255 → g ≤ 4294967295 → s ≤ 4294967295 →
    pair_index g b s < 18446744073709551615
row_fits b g s h k l = let m : b * g ≤ 255 * 4294967295 = mul-le-mul h k in omega arith

pub returns-then-b-eq255 : goal.returns-then-b-eq255
returns-then-b-eq255 c = rw (eq_true c.args.b.object 255 (search rules))

pub row_index-row-requires : goal.row_index-row-requires
row_index-row-requires c =
    let a = c.args in
    omega (arith, row_fits a.b.object a.g.subjects 0 (omega arith) (omega arith) (omega arith))

pub overflow_add-row : goal.overflow_add-row
overflow_add-row c =
    let a = c.args in
    omega (
      arith,
      c.row_index-row.ensures,
      row_fits a.b.object a.g.subjects a.g.subjects (omega arith) (omega arith) (omega arith),
    )

pub returns-then-b-eq255-2 : goal.returns-then-b-eq255-2
returns-then-b-eq255-2 c =
    let a = c.args in
    let i = c.row_index-row.ensures in
    rw (ne_false a.b.object 255 (search rules), eq_true a.b.subject 255 (search rules))
    (ap₂ numbers_from (rw i at c.pair_number_at.ensures) (rw i at c.pair_number_at-then-b-eq255-2.ensures))

pub pair_index-j-requires : goal.pair_index-j-requires
pair_index-j-requires c =
    let a = c.args in
    omega (
      arith,
      row_fits a.b.object a.g.subjects a.b.subject (omega arith) (omega arith) (omega arith),
    )

pub overflow_add-j : goal.overflow_add-j
overflow_add-j c =
    let a = c.args in
    omega (
      arith,
      c.pair_index-j.ensures,
      row_fits a.b.object a.g.subjects a.b.subject (omega arith) (omega arith) (omega arith),
    )

pub returns : goal.returns
returns c =
    let a = c.args in
    let i = c.pair_index-j.ensures in
    rw (ne_false a.b.object 255 (search rules), ne_false a.b.subject 255 (search rules))
    (ap₂ numbers_from (rw i at c.pair_number_at-2.ensures) (rw i at c.pair_number_at-3.ensures))
