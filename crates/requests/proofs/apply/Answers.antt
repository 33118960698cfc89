use mathlib.Core.Path.{◌≡◌}
use mathlib.Core.Logic.{◌⊎◌, ◌≢◌, inl, inr, ⊎_elim}
use Prim.Native.Nat.{ℕ, ◌≤◌, ◌<◌}
use native.Mathlib.Omega.{arith}
use mathlib.Core.Bool.{true, false}
use mathlib.Core.List.{List, [], ◌∷◌}
use lib.Dec.{eqb}
use Rattle.foundation.specs.Tests.{eq_true, ne_false, or_intro_left, or_true_right}
use Rattle.model.specs.declared.Request.{Request}
use Rattle.model.specs.Requests.{NEW, GRANT, DENY, REVOKE, ADDRULE, DROPRULE, GRANTADM, GRANTREF}
use Rattle.model.specs.Requests.{REVOKEREF, is}
use Rattle.effects.specs.EffectRecords.{Allowed}
use Rattle.requests.specs.KeepingKinds.{keeping_kinds}
use Rattle.requests.proofs.KindNumbers.{kind_among, kind_apart, is_one}
use Rattle.requests.proofs.apply.Goals as goal
use Rattle.requests.proofs.apply.Goals.{in_default-via-then-q-lt1, in_default-via-else-q-lt1+else-q-lt4}

module _ {s : List ℕ} {q : Request} (a : Allowed keeping_kinds s q) where
  allowed : (ks : List ℕ) → is q ks ≡ true → Allowed ks s q
  allowed ks k = record { sound = a.sound; accepted = a.accepted; kind = k }

  -- the last of the eight, where it is none of the others
  last_kind : (q.kind < NEW) ⊎ (REVOKE ≤ q.kind) → q.kind ≢ NEW → q.kind ≢ ADDRULE → q.kind ≢ DROPRULE →
      q.kind ≢ GRANTADM → q.kind ≢ GRANTREF → is q (REVOKEREF ∷ []) ≡ true
  last_kind far n₁ n₇ n₈ n₉ n₁₁ =
      let no : (k : ℕ) → q.kind ≢ k → eqb q.kind k ≡ false = ne_false q.kind in
      rw (
        no NEW n₁,
        kind_apart q.kind NEW REVOKE GRANT far (omega arith) (omega arith),
        kind_apart q.kind NEW REVOKE DENY far (omega arith) (omega arith),
        no ADDRULE n₇,
        no DROPRULE n₈,
        no GRANTADM n₉,
        no GRANTREF n₁₁,
      ) at a.kind

pub new_object-requires : goal.new_object-requires
new_object-requires c = allowed c.requires (NEW ∷ []) (is_one c.args.q NEW c.in-1.is)

pub add_rule-requires : goal.add_rule-requires
add_rule-requires c = allowed c.requires (ADDRULE ∷ []) (is_one c.args.q ADDRULE c.in-7.is)

pub drop_rule-requires : goal.drop_rule-requires
drop_rule-requires c = allowed c.requires (DROPRULE ∷ []) (is_one c.args.q DROPRULE c.in-8.is)

pub grant_privilege-requires : goal.grant_privilege-requires
grant_privilege-requires c =
    let q = c.args.q in
    allowed c.requires (GRANTADM ∷ GRANTREF ∷ [])
    (⊎_elim
    (λ e. or_intro_left (eqb q.kind GRANTADM) (is q (GRANTREF ∷ [])) (eq_true q.kind GRANTADM e))
    (λ e. or_true_right (eqb q.kind GRANTADM) (is q (GRANTREF ∷ [])) (is_one q GRANTREF e))
    c.in-9.is)

pub grant-requires : goal.grant-requires
grant-requires c =
    allowed c.requires (GRANT ∷ DENY ∷ []) (kind_among c.args.q.kind GRANT 2 (omega arith) (omega arith))

pub revoke_referrer-requires : goal.revoke_referrer-requires
revoke_referrer-requires c =
    allowed c.requires (REVOKEREF ∷ [])
    (last_kind c.requires
    (elim c.in_default.branch [
      | in_default-via-then-q-lt1 w ↦ inl (omega arith)
      | in_default-via-else-q-lt1+else-q-lt4 w ↦ inr (omega arith)
    ])
    (λ e. omega arith) (λ e. omega arith) (λ e. omega arith) (λ e. grind arith) (λ e. grind arith))
