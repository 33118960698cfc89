use native.Mathlib.Omega.{arith}
use native.Mathlib.Nat.{mod-eq_of_lt, one-mul}
use mathlib.Core.Path.{◌≡◌, sym, ap, ◌∙◌}
use Prim.Native.Nat.{ℕ, ◌*◌, ◌-◌, ◌%◌, ◌^◌, ◌<◌}
use lib.Bits.{bit_and, and_mask}
use lib.Count.{ones, ones-ones}
use lib.Pow.{pow-lt, pow_pos}
use Rattle.places.proofs.rank_of.Goals as goal

shifted : (m : ℕ) → m < 32 → 1 * 2 ^ m % 4294967296 ≡ 2 ^ m
shifted m h = rw (one-mul (2 ^ m)) (mod-eq_of_lt (pow-lt h))

-- the modes below m, by the mask that is made for them
masked : (modes m : ℕ) → m < 32 → bit_and modes (1 * 2 ^ m % 4294967296 - 1) ≡ modes % 2 ^ m
masked modes m h = ap (λ (x : ℕ). bit_and modes (x - 1)) (shifted m h) ∙ and_mask modes m

pub overflow_sub-below : goal.overflow_sub-below
overflow_sub-below c = omega (arith, shifted c.args.m c.requires, pow_pos c.args.m)

pub returns-then-modes-below : goal.returns-then-modes-below
returns-then-modes-below c =
    let a = c.args in
    let h = c.requires in
    let all : a.modes % 2 ^ a.m ≡ 2 ^ a.m - 1 =
    sym (masked a.modes a.m h) ∙ c.if-modes-below.true ∙ ap (λ (x : ℕ). x - 1) (shifted a.m h) in
    sym (ap ones all ∙ ones-ones a.m)

pub returns-else-modes-below : goal.returns-else-modes-below
returns-else-modes-below c = ap ones (masked c.args.modes c.args.m c.requires)
