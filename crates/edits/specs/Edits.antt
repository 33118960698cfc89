-- A base with one of its parts replaced, and the bytes that an edit starts from.
use Rattle.std.specs.Prelude.{◌≡◌, ℕ, suc, ◌+◌, ◌-◌, List, ◌++◌, length, take, drop, replicate}
use Rattle.model.specs.declared.Privilege.{Privilege}
use Rattle.model.specs.Base.{Base}
use Rattle.model.specs.Effects.{with_clock, with_last, with_objects, with_administrators, with_referrers}
use Rattle.model.specs.Encoding.{encode, decode}
use Rattle.model.specs.FitsFacts.{BaseFits}
use Rattle.encoding.specs.declared.Counts.{Counts}
use Rattle.encoding.specs.Format.{administrators_at, referrers_at}
use Rattle.edits.specs.declared.PrivilegeBody.{PrivilegeBody}
use Rattle.edits.specs.declared.PrivilegeBody.TheVariants.{Objects, Administrators, Referrers}

-- ---- a base with one part replaced

-- the clock and the last label
abbrev pub with_stamp : ℕ → ℕ → Base → Base
with_stamp clock last b = with_clock clock (with_last last b)

-- the privileges of one of the three bodies, and the base with them replaced
abbrev pub privileges_of : PrivilegeBody → Base → List Privilege
privileges_of Objects b = b.objects
privileges_of Administrators b = b.administrators
privileges_of Referrers b = b.referrers

abbrev pub with_privileges : PrivilegeBody → List Privilege → Base → Base
with_privileges Objects ps b = with_objects ps b
with_privileges Administrators ps b = with_administrators ps b
with_privileges Referrers ps b = with_referrers ps b

-- ---- lists

-- without the element at i
abbrev pub remove_at : {A : Type 0} → ℕ → List A → List A
remove_at i xs = take i xs ++ drop (suc i) xs

-- ---- counts

-- where the privileges of a body start
abbrev pub privileges_at : PrivilegeBody → Counts → ℕ
privileges_at Objects c = 32
privileges_at Administrators c = administrators_at c
privileges_at Referrers c = referrers_at c

-- how many they are
abbrev pub privilege_count : PrivilegeBody → Counts → ℕ
privilege_count Objects c = c.objects
privilege_count Administrators c = c.administrators
privilege_count Referrers c = c.referrers

-- the counts with n of them
abbrev pub with_privilege_count : PrivilegeBody → ℕ → Counts → Counts
with_privilege_count Objects n c = record c { objects = n }
with_privilege_count Administrators n c = record c { administrators = n }
with_privilege_count Referrers n c = record c { referrers = n }

abbrev pub with_authorization_count : ℕ → Counts → Counts
with_authorization_count n c = record c { authorizations = n }

abbrev pub with_rule_count : ℕ → Counts → Counts
with_rule_count n c = record c { rules = n }

-- ---- bytes

-- s with the `old` bytes at `at` made `new` ones: what stands behind them is moved, and the end is cut or
-- filled with zeros, so that the length remains
unfoldable pub resized : ℕ → ℕ → ℕ → List ℕ → List ℕ
resized at old new s =
    take (at + new) s ++ take (length s - at - new) (drop (at + old) s ++ replicate (old - new) 0)

-- the bytes are those of a base whose fields fit their widths and whose counts are within their limits
pub record Written (s : List ℕ) : Type 0 where
  pub encoded : encode (decode s) ≡ s
  pub fits : BaseFits (decode s)
