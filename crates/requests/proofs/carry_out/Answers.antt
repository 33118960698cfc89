use mathlib.Core.Path.{◌≡◌}
use mathlib.Core.Logic.{◌⊎◌, ◌≢◌, inl, inr}
use Prim.Native.Nat.{◌≤◌, ◌<◌}
use native.Mathlib.Omega.{arith}
use mathlib.Core.Bool.{false}
use Rattle.foundation.specs.Tests.{ne_false}
use Rattle.model.specs.declared.Request.{Request}
use Rattle.model.specs.Requests.{REVOKE, REVOKEP, REVOKEN, ADDRULE, REVOKEADM, withdraws}
use Rattle.requests.proofs.KindNumbers.{kind_among, kind_apart, is_one}
use Rattle.requests.proofs.carry_out.Goals as goal
use Rattle.requests.proofs.carry_out.Goals.{in_default-via-then-q-lt4, in_default-via-else-q-lt4+else-q-lt7}

-- none of the kinds that withdraw
keeps : (q : Request) → (q.kind < REVOKE) ⊎ (ADDRULE ≤ q.kind) → q.kind ≢ REVOKEADM → withdraws q ≡ false
keeps q far n = rw (
  kind_apart q.kind REVOKE ADDRULE REVOKE far (omega arith) (omega arith),
  kind_apart q.kind REVOKE ADDRULE REVOKEP far (omega arith) (omega arith),
  kind_apart q.kind REVOKE ADDRULE REVOKEN far (omega arith) (omega arith),
  ne_false q.kind REVOKEADM n,
)

pub revoke_administrator-requires : goal.revoke_administrator-requires
revoke_administrator-requires c = (c.requires, is_one c.args.q REVOKEADM c.in-10.is)

pub revoke-requires : goal.revoke-requires
revoke-requires c = (c.requires, kind_among c.args.q.kind REVOKE 3 (omega arith) (omega arith))

pub add_or_drop-requires : goal.add_or_drop-requires
add_or_drop-requires c = (
  c.requires,
  keeps c.args.q
      (elim c.in_default.branch [
        | in_default-via-then-q-lt4 w ↦ inl (omega arith)
        | in_default-via-else-q-lt4+else-q-lt7 w ↦ inr (omega arith)
      ])
      (λ e. omega arith),
)
