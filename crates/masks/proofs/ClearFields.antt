-- Fields in words that are cleared.
use mathlib.Core.Path.{◌≡◌, ap, ◌∙◌}
use mathlib.Core.List.{List}
use Prim.Native.Nat.{ℕ, ◌*◌, ◌/◌, ◌%◌, ◌^◌, ◌<◌}
use native.Mathlib.Nat.{zero-div, mod-eq_of_lt}
use native.Mathlib.Omega.{arith}
use lib.ListN.{get_or}
use lib.Pow.{pow_pos}
use Rattle.words.specs.Fields.{starts, field_of}

-- fields in words that are 0 are 0
pub clear_fields : (k n : ℕ) (ws : List ℕ) → ((j : ℕ) → j < n → get_or ws j 0 ≡ 0) → (i : ℕ) →
    starts k i < 64 * n → field_of k ws i ≡ 0
unfolding field_of
clear_fields k n ws z i h =
    let w : starts k i / 64 < n = omega arith in
    ap (λ (x : ℕ). x / 2 ^ (starts k i % 64) % 2 ^ (2 ^ k)) (z (starts k i / 64) w)
    ∙ ap (λ (x : ℕ). x % 2 ^ (2 ^ k)) (zero-div (2 ^ (starts k i % 64))) ∙ mod-eq_of_lt (pow_pos (2 ^ k))
