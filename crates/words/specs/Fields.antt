-- Fields in words: a table of 64-bit words holds fields of 2 ^ k bits, k from 0 to 6, one behind the other
-- from the low end of each word. The bits of a field are the instants of a window.
use Rattle.std.specs.Prelude.{List, ℕ, ◌*◌, ◌/◌, ◌%◌, ◌^◌, get_or, eqb}
use Rattle.std.specs.Int.Bits.{bit_or}
use Rattle.foundation.specs.Tests.{pick}

-- where field i starts: this many bits behind the first of the table
abbrev pub starts : ℕ → ℕ → ℕ
starts k i = i * 2 ^ k

-- field i
unfoldable pub field_of : ℕ → List ℕ → ℕ → ℕ
field_of k ws i = get_or ws (starts k i / 64) 0 / 2 ^ (starts k i % 64) % 2 ^ (2 ^ k)

-- field j once v is joined to field i
abbrev pub joined : ℕ → List ℕ → ℕ → ℕ → ℕ → ℕ
joined k ws i v j = pick (eqb j i) (bit_or (field_of k ws i) v) (field_of k ws j)
