-- An instant that an entry of the account of demand 3 has lost stays lost.
use Rattle.std.specs.Prelude.{ℕ, Bool, List, [], ◌∷◌}
use Rattle.foundation.specs.Tests.{and-true}
use Rattle.model.specs.declared.Head.{Head}
use Rattle.model.specs.Support.{supported}
use Rattle.model.specs.Ledger.{Entry, standing_heads, keep_entries, settle, NoMore}

-- ---- lost instants stay lost

-- whatever is kept, nothing comes back: not by a new administrator either, since `settle` keeps entries
pub keep-loses : (p : Head → ℕ → Bool) (es : List Entry) → NoMore (keep_entries p es) es
keep-loses p [] = tt
keep-loses p (e ∷ es) = ((λ t h. (and-true (e.at t) (p e.head t) h).0), keep-loses p es)

pub settle-loses : (root : Head → Bool) (es : List Entry) → NoMore (settle root es) es
settle-loses root es = keep-loses (λ h t. supported root (standing_heads t es) h) es
