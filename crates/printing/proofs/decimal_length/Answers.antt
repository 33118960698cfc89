use borrow.Author.Rules.{rules}
use native.Mathlib.Omega.{arith}
use mathlib.Core.Path.{◌≡◌, ap, ◌∙◌}
use Prim.Native.Nat.{ℕ, suc, ◌+◌, ◌-◌, ◌/◌}
use lib.ListN.{length}
use Rattle.model.specs.Text.{digits, decimal}
use Rattle.model.specs.TextFacts.{digits_more}
use Rattle.printing.proofs.Digits.{below_next}
use Rattle.printing.proofs.decimal_length.Goals as goal

pub loop-rest-init : goal.loop-rest-init
unfolding decimal
loop-rest-init c = (search rules, search rules, omega arith)

-- a turn is taken where there is more than one digit
pub loop-rest-preserved : goal.loop-rest-preserved
loop-rest-preserved c =
    let l = c.loop-rest in
    let w = below_next l.i l.rest (omega arith) l.invariant.1 in
    let e : suc (l.i - 1) ≡ l.i = omega arith in (
      search rules,
      rw e w.1,
      ap (λ (j : ℕ). length (digits j (l.rest / 10)) + (9 - (l.i - 1))) e
          ∙ omega (arith, digits_more l.i l.rest (omega arith), l.invariant.2),
    )
