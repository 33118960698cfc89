-- The answers of calls that count (02): how many, or a refusal's number, and what was lent after it.
use Rattle.std.specs.Prelude.{ℕ, List, Result, Ok, Err}

-- the refusal's number, or 0
abbrev pub counted_refusal : Result ℕ ℕ → ℕ
counted_refusal (Ok n) = 0
counted_refusal (Err k) = k

-- how many, or 0
abbrev pub counted_number : Result ℕ ℕ → ℕ
counted_number (Ok n) = n
counted_number (Err k) = 0

-- a reply that counts, and the lent bytes or list after it
pub record Counting : Type 0 where
  pub reply : Result ℕ ℕ
  pub lent : List ℕ

abbrev pub counting : Result ℕ ℕ → List ℕ → Counting
counting r s = record { reply = r; lent = s }

-- a refusal leaves what was lent
abbrev pub declining : List ℕ → ℕ → Counting
declining s k = counting (Err k) s
