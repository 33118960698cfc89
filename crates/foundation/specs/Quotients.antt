-- A number with a rest below q has one quotient and one rest.
use Rattle.std.specs.Prelude.{◌≡◌, ℕ, ◌+◌, ◌*◌, ◌/◌, ◌%◌, ◌<◌}
use Rattle.std.proofs.Common.{sym, ap, ◌∙◌, mod-eq_of_lt, arith}
use Rattle.std.proofs.Math.Nat.{mul-add-div_right, mul-add-mod_self_right, div-eq_of_lt}

pub quotient_back : (a q r : ℕ) → r < q → (a * q + r) / q ≡ a
quotient_back a q r h =
    mul-add-div_right (omega arith) a r ∙ ap (λ (n : ℕ). a + n) (div-eq_of_lt h) ∙ omega arith

pub rest_back : (a q r : ℕ) → r < q → (a * q + r) % q ≡ r
rest_back a q r h = mul-add-mod_self_right a q r ∙ mod-eq_of_lt h

pub parted : (a c q r t : ℕ) → r < q → t < q → a * q + r ≡ c * q + t → (a ≡ c) × (r ≡ t)
parted a c q r t h l e = (
  sym (quotient_back a q r h) ∙ ap (λ (n : ℕ). n / q) e ∙ quotient_back c q t l,
  sym (rest_back a q r h) ∙ ap (λ (n : ℕ). n % q) e ∙ rest_back c q t l,
)
