use native.Mathlib.Omega.{arith}
use mathlib.Core.Path.{◌≡◌}
use Prim.Native.Nat.{ℕ, zero, suc, ◌*◌, ◌^◌, ◌%◌, ◌≤◌}
use Rattle.engine.proofs.walking.instants.Goals as goal

-- a power below 2^6
small : (w : ℕ) → w ≤ 6 → (w ≡ 6 → ⊥) → (1 ≤ 1 * 2 ^ w % 18446744073709551616)
    × (1 * 2 ^ w % 18446744073709551616 ≤ 63) × (1 * 2 ^ w % 18446744073709551616 ≤ 2 ^ w)
small zero h n = (omega arith, omega arith, omega arith)
small (suc zero) h n = (omega arith, omega arith, omega arith)
small (suc (suc zero)) h n = (omega arith, omega arith, omega arith)
small (suc (suc (suc zero))) h n = (omega arith, omega arith, omega arith)
small (suc (suc (suc (suc zero)))) h n = (omega arith, omega arith, omega arith)
small (suc (suc (suc (suc (suc zero))))) h n = (omega arith, omega arith, omega arith)
small (suc (suc (suc (suc (suc (suc w)))))) h n = absurd (n (omega arith))

pub returns-then-width-eq6 : goal.returns-then-width-eq6
returns-then-width-eq6 c = (omega arith, omega arith, rw c.if-width-eq6.true (omega arith))

pub returns : goal.returns
returns c = small c.args.width c.requires c.if-width-eq6.false
