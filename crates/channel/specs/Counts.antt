-- How many bytes a read left at the front of a buffer.
use Rattle.std.specs.Prelude.{◌≡◌, ℕ, ◌≤◌, min, List, length, take}
use Rattle.channel.specs.declared.Got.{Got}
use Rattle.channel.specs.declared.Got.TheVariants.{Unasked, Bytes, End, Failed}

-- `&xs[..n]` is in bounds and has n bytes
abbrev pub IsPrefixLen : ℕ → List ℕ → Type 0
IsPrefixLen n xs = (n ≤ length xs) × (n ≡ length (take n xs))

-- what a read answered, brought into `0..=most`: none where it gave none
abbrev pub clamp_len : Got → ℕ → ℕ
clamp_len Unasked most = 0
clamp_len (Bytes k) most = min k most
clamp_len End most = 0
clamp_len Failed most = 0
