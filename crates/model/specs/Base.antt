-- The authorization base as records (01, "The base as bytes"; the report's TAB).
use Rattle.std.specs.Prelude.{ℕ, Bool, ◌&&◌, ◌||◌, List, [], eqb}
use Rattle.foundation.specs.Lists.{anyb}
use Rattle.model.specs.declared.Privilege.{Privilege}
use Rattle.model.specs.declared.Authorization.{Authorization}
use Rattle.model.specs.declared.Rule.{Rule}

pub record Base : Type 0 where
  -- the instant of the last accepted request
  pub clock : ℕ
  -- the last label given
  pub last : ℕ
  -- each object with its owner
  pub objects : List Privilege
  pub administrators : List Privilege
  pub referrers : List Privilege
  -- 01: lines
  pub authorizations : List Authorization
  pub rules : List Rule

-- 01: "An empty base has clock 0, last label 0 and no bodies"
abbrev pub empty_base : Base
empty_base = record {
  clock = 0;
  last = 0;
  objects = [];
  administrators = [];
  referrers = [];
  authorizations = [];
  rules = [];
}

abbrev pub privilege : ℕ → ℕ → Privilege
privilege o s = record { object = o; subject = s }

abbrev pub is_privilege : ℕ → ℕ → Privilege → Bool
is_privilege o s p = eqb p.object o && eqb p.subject s

-- the privileges of the list include that of s on o
abbrev pub listed : List Privilege → ℕ → ℕ → Bool
listed ps o s = anyb (is_privilege o s) ps

-- the object exists
abbrev pub exists : Base → ℕ → Bool
exists b o = anyb (λ p. eqb p.object o) b.objects

-- the subject owns, administers, may refer to the object
abbrev pub owns : Base → ℕ → ℕ → Bool
owns b o s = listed b.objects o s

abbrev pub administers : Base → ℕ → ℕ → Bool
administers b o s = listed b.administrators o s

abbrev pub refers : Base → ℕ → ℕ → Bool
refers b o s = listed b.referrers o s

-- owner or administrator
abbrev pub controls : Base → ℕ → ℕ → Bool
controls b o s = owns b o s || administers b o s

-- 01, ADDRULE: "the author needs own or administer on the left object, and own, administer or refer on the
-- right one"
abbrev pub may_rule : Base → ℕ → ℕ → ℕ → Bool
may_rule b s left right = controls b left s && (controls b right s || refers b right s)
