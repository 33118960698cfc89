-- The requests that withdraw no instants.
use Rattle.std.specs.Prelude.{ℕ, List, [], ◌∷◌}
use Rattle.model.specs.Requests.{NEW, GRANT, DENY, ADDRULE, DROPRULE, GRANTADM, GRANTREF, REVOKEREF}

-- the kinds that withdraw no instants
abbrev pub keeping_kinds : List ℕ
keeping_kinds = NEW ∷ GRANT ∷ DENY ∷ ADDRULE ∷ DROPRULE ∷ GRANTADM ∷ GRANTREF ∷ REVOKEREF ∷ []
