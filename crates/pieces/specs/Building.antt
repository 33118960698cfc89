-- What holds of the bytes of a body of authorizations under construction, with a copy in another order to look
-- up in.
use Rattle.std.specs.Prelude.{◌≡◌, ℕ, ◌≤◌, List}
use Rattle.cover.specs.declared.Want.{Want}
use Rattle.cover.specs.Cover.{covered_by}
use Rattle.encoding.specs.Format.{authorizations_in}
use Rattle.encoding.specs.Insertions.{Clean}

-- The bytes of the k authorizations of `out` are theirs alone. `sorted` has k that cover the same: its order
-- makes a look quick, and nothing is said of it.
pub record Building (k : ℕ) (out sorted : List ℕ) : Type 0 where
  pub fits : k ≤ 1024
  pub clean : Clean k (authorizations_in k out) out
  pub same : (w : Want) (t : ℕ) →
      covered_by w (authorizations_in k sorted) t ≡ covered_by w (authorizations_in k out) t
