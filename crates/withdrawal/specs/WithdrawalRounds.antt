-- What a withdrawal leaves of what was granted before a time.
use Rattle.std.specs.Prelude.{ℕ, Bool, List}
use Rattle.model.specs.declared.Head.{Head}
use Rattle.model.specs.declared.Authorization.{Authorization}
use Rattle.model.specs.Withdrawal.{keep}
use Rattle.pieces.specs.declared.cut.Cut.{Cut}
use Rattle.withdrawal.specs.Stays.{stays, until_instant}
use Rattle.pieces.specs.Cuts.{spared}

-- what stays of what was granted before T, as a test and as authorizations
module _ (root : Head → Bool) (c : Cut) (xs : List Authorization) (T : ℕ) where
  abbrev pub stayed : Head → ℕ → Bool
  stayed = until_instant T (stays root (spared c) xs)

  abbrev pub stayers : List Authorization
  stayers = keep stayed xs
