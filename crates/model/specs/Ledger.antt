-- The account of demand 3 (01, "Requests", last paragraph), fed the requests alone.
use Rattle.std.specs.Prelude.{ℕ, suc, Bool, true, false, not, ◌&&◌, List, [], ◌∷◌, ◌++◌, eqb, ◌≡◌}
use Rattle.foundation.specs.Tests.{pick}
use Rattle.foundation.specs.Intervals.{in_interval, maximal}
use Rattle.model.specs.declared.Privilege.{Privilege}
use Rattle.model.specs.declared.Head.{Head}
use Rattle.model.specs.declared.Authorization.{Authorization}
use Rattle.model.specs.declared.Request.{Request}
use Rattle.model.specs.Ranges.{last_instant}
use Rattle.model.specs.Base.{Base, empty_base}
use Rattle.model.specs.Support.{supported, root_in}
use Rattle.model.specs.Withdrawal.{pieces}
use Rattle.model.specs.Requests.{grants, labels, objects_after, administrators_after, new_head, takes}
use Rattle.model.specs.Means.{plainly}
use Rattle.model.specs.Step.{refusal, effect}

-- 01: "GRANT and DENY enter label, requester, sign, fields, now and their instants": what one of them
-- entered, and the instants that are left of it
pub record Entry : Type 0 where
  pub head : Head
  pub at : ℕ → Bool

abbrev pub entry : Head → (ℕ → Bool) → Entry
entry h at = record { head = h; at = at }

pub record Ledger : Type 0 where
  pub owners : List Privilege
  pub administrators : List Privilege
  -- 01: "labels from 1 up"
  pub last : ℕ
  pub entries : List Entry

abbrev pub empty_ledger : Ledger
empty_ledger = record { owners = []; administrators = []; last = 0; entries = [] }

-- the entries read as authorizations at t: the heads of those that have it left
abbrev pub standing_heads : ℕ → List Entry → List Head
standing_heads t [] = []
standing_heads t (e ∷ rest) = let r = standing_heads t rest in pick (e.at t) (e.head ∷ r) r

-- the entries with only the instants that p keeps
abbrev pub keep_entries : (Head → ℕ → Bool) → List Entry → List Entry
keep_entries p [] = []
keep_entries p (e ∷ rest) = entry e.head (λ t. e.at t && p e.head t) ∷ keep_entries p rest

-- 01: "After each accepted request all entries, read as lines, lose unbacked instants"
abbrev pub settle : (Head → Bool) → List Entry → List Entry
settle root es = keep_entries (λ h t. supported root (standing_heads t es) h) es

-- what GRANT and DENY enter
abbrev pub new_entry : Ledger → Request → List Entry
new_entry a q = pick (grants q) (entry (new_head (suc a.last) q) (in_interval q.interval) ∷ []) []

-- 01: "NEW, GRANTADM and REVOKEADM settle owners and administrators; GRANT, DENY and ADDRULE take labels from
-- 1 up. ... REVOKE empties its label's entry, REVOKEADM all that its subject gave on the object; REVOKEP and
-- REVOKEN cut the interval from the requester's grants or denials of that mode, object and subject" (`takes`)
abbrev pub enter : Ledger → Request → Ledger
enter a q =
    let owners = objects_after q a.owners in
    let administrators = administrators_after q a.administrators in
    record {
      owners = owners;
      administrators = administrators;
      last = pick (labels q) (suc a.last) a.last;
      entries = settle (root_in owners administrators)
          (keep_entries (λ h t. not (takes q h t)) a.entries ++ new_entry a q);
    }

-- 01: "The account skips exactly the requests that the table below refuses, each on the base that those
-- before it leave"
abbrev pub follow : List Request → Base → Ledger → Ledger
follow [] b a = a
follow (q ∷ rest) b a = elim (eqb (refusal plainly b q) 0) [
  | true ↦ follow rest (effect plainly b q) (enter a q)
  | false ↦ follow rest b a
]

-- the account of a list of requests from the empty base
unfoldable pub ledger : List Request → Ledger
ledger qs = follow qs empty_base empty_ledger

-- 01: "the longest runs of each entry's instants, with that entry's label, giver, receiver, meter, mode,
-- sign, option and time"
unfoldable pub lines_of : List Entry → List Authorization
lines_of [] = []
lines_of (e ∷ rest) = pieces e.head (maximal 0 last_instant e.at) ++ lines_of rest

-- ---- lost instants stay lost

-- each entry has at most what the one at its place had
abbrev pub NoMore : List Entry → List Entry → Type 0
NoMore [] [] = Unit {0}
NoMore [] (e ∷ es) = ⊥
NoMore (d ∷ ds) [] = ⊥
NoMore (d ∷ ds) (e ∷ es) = ((t : ℕ) → d.at t ≡ true → e.at t ≡ true) × NoMore ds es
