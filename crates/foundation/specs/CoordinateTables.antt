-- The coordinate of a number by a table. An entry of 0 says that the table has none for it.
use Rattle.std.specs.Prelude.{List, ℕ, eqb, get_or}
use Rattle.foundation.specs.Tests.{pick}

-- the coordinate of v: that of the table, else 0 of the own one; 255 where v has none
unfoldable pub coordinate : List ℕ → ℕ → ℕ → ℕ
coordinate U own v = pick (eqb (get_or U v 0) 0) (pick (eqb v own) 0 255) (get_or U v 0)
