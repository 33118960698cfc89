-- What an edit leaves can be edited again: the edited base fits where what was put in fits (with
-- `written-encode` of Edits).
use mathlib.Core.Path.{◌≡◌, ◌∙◌, subst}
use mathlib.Core.Logic.{◌⊎◌, inl, inr}
use Prim.Native.Nat.{ℕ, suc, ◌-◌, ◌^◌, ◌≤◌, ◌<◌}
use native.Mathlib.Omega.{arith}
use mathlib.Core.List.{List, ◌∷◌}
use lib.ListN.{length, take, drop, length-append, length-take, length-drop, take-append-drop}
use Rattle.foundation.specs.Lists.{Mem, mem_left, mem_right, append_mem, placed, insert_at}
use Rattle.model.specs.declared.Privilege.{Privilege}
use Rattle.model.specs.declared.Authorization.{Authorization}
use Rattle.model.specs.declared.Rule.{Rule}
use Rattle.model.specs.Ranges.{most_objects, most_authorizations, most_rules}
use Rattle.model.specs.Base.{Base}
use Rattle.model.specs.FitsFacts.{BaseFits, CountsFit, PrivilegeFits, AuthorizationFits, RuleFits}
use Rattle.edits.specs.declared.PrivilegeBody.{PrivilegeBody}
use Rattle.edits.specs.declared.PrivilegeBody.TheVariants.{Objects, Administrators, Referrers}
use Rattle.edits.specs.Edits.{with_stamp, with_privileges, remove_at}
use Rattle.model.specs.Effects.{with_authorizations, with_rules}

-- ---- lists

pub length-remove_at : {A : Type 0} (i : ℕ) (xs : List A) → i < length xs →
    length (remove_at i xs) ≡ length xs - 1
length-remove_at i xs h =
    length-append (take i xs) (drop (suc i) xs) ∙ rw (length-take i xs, length-drop (suc i) xs) (omega arith)

mem-take : {A : Type 0} (i : ℕ) (xs : List A) (y : A) → Mem y (take i xs) → Mem y xs
mem-take {A} i xs y m =
    subst (λ (l : List A). Mem y l) (take-append-drop i xs) (mem_left y (take i xs) (drop i xs) m)

mem-drop : {A : Type 0} (i : ℕ) (xs : List A) (y : A) → Mem y (drop i xs) → Mem y xs
mem-drop {A} i xs y m =
    subst (λ (l : List A). Mem y l) (take-append-drop i xs) (mem_right y (take i xs) (drop i xs) m)

-- what holds of x and of each of xs holds of each of xs with x put in
pub insert_all : {A : Type 0} (P : A → Type 0) (i : ℕ) (x : A) (xs : List A) → P x →
    ((y : A) → Mem y xs → P y) →
    (y : A) → Mem y (insert_at i x xs) → P y
unfolding placed
insert_all {A} P i x xs p h y m = part (append_mem y (take i xs) (x ∷ drop i xs) m)
  where
    part : Mem y (take i xs) ⊎ Mem y (x ∷ drop i xs) → P y
    part (inl a) = h y (mem-take i xs y a)
    part (inr (inl e)) = rw e p
    part (inr (inr b)) = h y (mem-drop i xs y b)

-- ---- the counts

pub counts-privileges : (k : PrivilegeBody) (ps : List Privilege) (b : Base) → CountsFit b →
    length ps ≤ most_objects →
    CountsFit (with_privileges k ps b)
counts-privileges Objects ps b f h = omega arith
counts-privileges Administrators ps b f h = omega arith
counts-privileges Referrers ps b f h = omega arith

pub counts-authorizations : (as' : List Authorization) (b : Base) → CountsFit b →
    length as' ≤ most_authorizations →
    CountsFit (with_authorizations as' b)
counts-authorizations as' b f h = omega arith

pub counts_rules : (rs : List Rule) (b : Base) → CountsFit b → length rs ≤ most_rules →
    CountsFit (with_rules rs b)
counts_rules rs b f h = omega arith

-- ---- the base

pub fits_clock : (clock last : ℕ) (b : Base) → BaseFits b → clock < 256 ^ 4 → last < 256 ^ 2 →
    BaseFits (with_stamp clock last b)
fits_clock clock last b f c l = record {
  counts = record {
    objects = f.counts.objects;
    administrators = f.counts.administrators;
    referrers = f.counts.referrers;
    authorizations = f.counts.authorizations;
    rules = f.counts.rules;
  };
  clock = c;
  last = l;
  objects = f.objects;
  administrators = f.administrators;
  referrers = f.referrers;
  authorizations = f.authorizations;
  rules = f.rules;
}

pub fits-privileges : (k : PrivilegeBody) (ps : List Privilege) (b : Base) → BaseFits b →
    length ps ≤ most_objects →
    ((p : Privilege) → Mem p ps → PrivilegeFits p) → BaseFits (with_privileges k ps b)
fits-privileges Objects ps b f h g = record {
  counts = counts-privileges Objects ps b f.counts h;
  clock = f.clock;
  last = f.last;
  objects = g;
  administrators = f.administrators;
  referrers = f.referrers;
  authorizations = f.authorizations;
  rules = f.rules;
}
fits-privileges Administrators ps b f h g = record {
  counts = counts-privileges Administrators ps b f.counts h;
  clock = f.clock;
  last = f.last;
  objects = f.objects;
  administrators = g;
  referrers = f.referrers;
  authorizations = f.authorizations;
  rules = f.rules;
}
fits-privileges Referrers ps b f h g = record {
  counts = counts-privileges Referrers ps b f.counts h;
  clock = f.clock;
  last = f.last;
  objects = f.objects;
  administrators = f.administrators;
  referrers = g;
  authorizations = f.authorizations;
  rules = f.rules;
}

pub fits-authorizations : (as' : List Authorization) (b : Base) → BaseFits b →
    length as' ≤ most_authorizations →
    ((a : Authorization) → Mem a as' → AuthorizationFits a) → BaseFits (with_authorizations as' b)
fits-authorizations as' b f h g = record {
  counts = counts-authorizations as' b f.counts h;
  clock = f.clock;
  last = f.last;
  objects = f.objects;
  administrators = f.administrators;
  referrers = f.referrers;
  authorizations = g;
  rules = f.rules;
}

pub fits_rules : (rs : List Rule) (b : Base) → BaseFits b → length rs ≤ most_rules →
    ((r : Rule) → Mem r rs → RuleFits r) → BaseFits (with_rules rs b)
fits_rules rs b f h g = record {
  counts = counts_rules rs b f.counts h;
  clock = f.clock;
  last = f.last;
  objects = f.objects;
  administrators = f.administrators;
  referrers = f.referrers;
  authorizations = f.authorizations;
  rules = g;
}
