-- The authorizations of a body under construction, and authorizations placed between others.
use mathlib.Core.Path.{◌≡◌, sym, ap, ◌∙◌}
use Prim.Native.Nat.{ℕ, ◌+◌, ◌*◌, ◌≤◌}
use native.Mathlib.Omega.{arith}
use mathlib.Core.Bool.{Bool, ◌||◌}
use mathlib.Core.List.{List, [], ◌++◌, append_assoc}
use lib.ListN.{length, take, drop, length-append, take-append-drop}
use lib.Seq.{take_at, drop_at, length-take-le}
use Rattle.foundation.specs.Lists.{placed, any_append, each}
use Rattle.foundation.specs.ByteRecords.{length-records}
use Rattle.model.specs.Encoding.{authorization_of, authorization_bytes}
use Rattle.encoding.specs.Format.{authorizations_in}
use Rattle.encoding.specs.Insertions.{Clean}
use Rattle.model.specs.declared.Authorization.{Authorization}
use Rattle.cover.specs.declared.Want.{Want}
use Rattle.cover.specs.Cover.{covers, covered_by}
use Rattle.foundation.specs.Tests.{or_swap}

-- ---- the authorizations zs that some bytes begin with

module _ (k : ℕ) (s : List ℕ) (zs : List Authorization) (e : authorizations_in k s ≡ zs) where
  pub counted : k ≡ length zs
  counted = sym (length-records 24 authorization_of k s) ∙ ap (λ (x : List Authorization). length x) e

  pub own_records : authorizations_in (length zs) s ≡ zs
  own_records = ap (λ (n : ℕ). authorizations_in n s) (sym counted) ∙ e

  pub own_clean : Clean k (authorizations_in k s) s → take (24 * length zs) s ≡ each zs authorization_bytes
  own_clean h =
      ap (λ (n : ℕ). take (24 * n) s) (sym counted) ∙ h
      ∙ ap (λ (x : List Authorization). each x authorization_bytes) e

-- ---- placing

pub placed_none : (p : ℕ) (ys : List Authorization) → placed p [] ys ≡ ys
unfolding placed
placed_none p ys = take-append-drop p ys

pub length-placed : (p : ℕ) (xs ys : List Authorization) → length (placed p xs ys) ≡ length ys + length xs
unfolding placed
length-placed p xs ys =
    let t = ap (λ (x : List Authorization). length x) (take-append-drop p ys) in
    omega (
      arith,
      t,
      length-append (take p ys) (xs ++ drop p ys),
      length-append xs (drop p ys),
      length-append (take p ys) (drop p ys),
    )

-- one after the other
pub placed-then : (p : ℕ) (xs zs ys : List Authorization) → p ≤ length ys →
    placed (p + length xs) zs (placed p xs ys) ≡ placed p (xs ++ zs) ys
unfolding placed
placed-then p xs zs ys h =
    let f : List Authorization = take p ys ++ xs in
    let n : length f ≡ p + length xs =
    length-append (take p ys) xs ∙ ap (λ (k : ℕ). k + length xs) (length-take-le p ys h) in
    rw (
      ← append_assoc (take p ys) xs (drop p ys),
      take_at f (drop p ys) (p + length xs) n,
      drop_at f (drop p ys) (p + length xs) n,
    ) (simp append_assoc)

-- what is placed covers besides what was there
pub covered-placed : (w : Want) (p : ℕ) (xs ys : List Authorization) (t : ℕ) →
    covered_by w (placed p xs ys) t ≡ covered_by w xs t || covered_by w ys t
unfolding placed
covered-placed w p xs ys t =
    any_append (covers w t) (take p ys) (xs ++ drop p ys)
    ∙ ap (λ (b : Bool). covered_by w (take p ys) t || b) (any_append (covers w t) xs (drop p ys))
    ∙ or_swap (covered_by w (take p ys) t) (covered_by w xs t) (covered_by w (drop p ys) t)
    ∙ ap (λ (b : Bool). covered_by w xs t || b)
    (sym (any_append (covers w t) (take p ys) (drop p ys))
    ∙ ap (λ (x : List Authorization). covered_by w x t) (take-append-drop p ys))
