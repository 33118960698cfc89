-- What the code asks of an accepted request and of the base before it: where a record stands in its body, and
-- which rules go.
use Rattle.std.specs.Prelude.{◌≡◌, ℕ, suc, Bool, true, false, not, ◌&&◌, ◌||◌, List, [], ◌∷◌, eqb}
use Rattle.foundation.specs.Tests.{pick}
use Rattle.model.specs.declared.Rule.{Rule}
use Rattle.model.specs.declared.Request.{Request}
use Rattle.model.specs.Encoding.{decode}
use Rattle.model.specs.Soundness.{sound_bytes}
use Rattle.model.specs.Step.{Accepted}
use Rattle.model.specs.Requests.{DROPRULE, GRANTADM, REVOKEADM, REVOKEREF, is}
use Rattle.edits.specs.declared.PrivilegeBody.{PrivilegeBody}
use Rattle.edits.specs.declared.PrivilegeBody.TheVariants.{Administrators, Referrers}

-- a request of one of these kinds that the base in sound bytes accepts
pub record Allowed (kinds : List ℕ) (s : List ℕ) (q : Request) : Type 0 where
  pub sound : sound_bytes s ≡ true
  pub accepted : Accepted (decode s) q
  pub kind : is q kinds ≡ true

-- how many elements stand before the first that passes
abbrev pub first_index : {A : Type 0} → (A → Bool) → List A → ℕ
first_index p [] = 0
first_index p (x ∷ xs) = pick (p x) 0 (suc (first_index p xs))

-- the body of the privileges that GRANTADM and REVOKEADM, or GRANTREF and REVOKEREF, change
abbrev pub privilege_body_of : ℕ → PrivilegeBody
privilege_body_of kind = pick (eqb kind GRANTADM || eqb kind REVOKEADM) Administrators Referrers

-- The rules that a request removes (`drops` in Requests), where it is known whether its subject refers to its
-- object or administers it
abbrev pub drops_by : Bool → Bool → Request → Rule → Bool
drops_by refers administers q r =
    pick (is q (DROPRULE ∷ [])) (eqb r.label q.label)
    (pick (is q (REVOKEADM ∷ [])) (eqb r.author q.subject && (eqb r.left.object q.object
    || (eqb r.right.object q.object && not refers)))
    (pick (is q (REVOKEREF ∷ [])) (eqb r.author q.subject && eqb r.right.object q.object
    && not administers)
    false))
