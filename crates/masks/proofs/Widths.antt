-- Numbers of 32 bits, shifted by up to 6: how many bits so many fields take.
use mathlib.Core.Path.{◌≡◌}
use Prim.Native.Nat.{ℕ, ◌+◌, ◌*◌, ◌%◌, ◌^◌, ◌≤◌, ◌<◌}
use native.Mathlib.Nat.{lt_of_lt_of_le}
use native.Mathlib.Omega.{arith}
use lib.Pow.{pow_mono, shl_exact, shl_lt}

pub wide_exact : (x k : ℕ) → x < 4294967296 → k ≤ 6 → x * 2 ^ k % 18446744073709551616 ≡ x * 2 ^ k
wide_exact x k h l = shl_exact 32 k 64 h (omega arith)

pub wide_lt : (x k : ℕ) → x < 4294967296 → k ≤ 6 → x * 2 ^ k < 274877906944
wide_lt x k h l =
    let u : x * 2 ^ k < 2 ^ (32 + k) = shl_lt 32 k h in
    let v : 32 + k ≤ 38 = omega arith in
    lt_of_lt_of_le u (pow_mono v)
