-- Where a privilege stands among others: a loop that looks for it, and what is put in or taken out there.
-- Assumes nothing.
use mathlib.Core.Path.{◌≡◌, refl, ap, ◌∙◌, subst}
use mathlib.Core.Logic.{inl, inr}
use Prim.Native.Nat.{ℕ, suc, ◌+◌, ◌-◌, ◌≤◌, ◌<◌}
use native.Mathlib.Omega.{arith}
use mathlib.Core.Bool.{Bool, true, false, not, false≢true}
use mathlib.Core.List.{List, [], ◌∷◌}
use lib.ListN.{length, drop}
use lib.Seq.{drop-length}
use Rattle.foundation.specs.Tests.{cases, must_fail}
use Rattle.foundation.specs.Lists.{Mem, keep_if, any_mem, placed, insert_at}
use Rattle.model.specs.declared.Privilege.{Privilege}
use Rattle.model.specs.Base.{is_privilege, listed}
use Rattle.model.specs.Requests.{before, insert, without}
use Rattle.model.specs.Soundness.{chained}
use Rattle.laws.specs.Chained.{Pairwise, Passing, chained_all}
use Rattle.laws.specs.Privileges.{before_cases, before_trans, the_privilege}
use Rattle.edits.specs.Edits.{remove_at}
use Rattle.effects.specs.EffectRecords.{first_index}

-- ---- a loop over the elements of a list: r is the i-th

module _ {A : Type 0} (p : A → Bool) (xs : List A) where
  -- the first that passes is among those from the i-th on
  abbrev pub FirstFrom : ℕ → Type 0
  FirstFrom i = (i ≤ length xs) × (first_index p xs ≡ i + first_index p (drop i xs))

  nothing_left : (i : ℕ) → length xs ≤ i → i ≤ length xs → drop i xs ≡ []
  nothing_left i h l = let e : i ≡ length xs = omega arith in ap (λ (n : ℕ). drop n xs) e ∙ drop-length xs

  pub first-starts : FirstFrom 0
  first-starts = (omega arith, omega arith)

  pub first_ends : (i : ℕ) → length xs ≤ i → FirstFrom i → i ≡ first_index p xs
  first_ends i h v =
      let e = ap (first_index p) (nothing_left i h v.0) in
      omega (arith, e, v.1)

  module _ (i : ℕ) (r : A) (h : i < length xs) (e : drop i xs ≡ r ∷ drop (i + 1) xs) where
    pub first_found : p r ≡ true → FirstFrom i → i ≡ first_index p xs
    first_found t v =
        let z : first_index p (drop i xs) ≡ 0 = ap (first_index p) e ∙ rw t in
        omega (arith, z, v.1)

    pub first-later : p r ≡ false → FirstFrom i → FirstFrom (i + 1)
    first-later t v =
        let z : first_index p (drop i xs) ≡ suc (first_index p (drop (i + 1) xs)) = ap (first_index p) e
        ∙ rw t in
        (omega arith, omega (arith, z, v.1))

pub first-most : {A : Type 0} (p : A → Bool) (xs : List A) → first_index p xs ≤ length xs
first-most p [] = omega arith
first-most p (x ∷ xs) = let h = first-most p xs in
    cases (p x) (λ e. rw e (omega arith)) (λ e. rw e (omega arith))

-- ---- privileges

-- put in its place
pub insert-place : (p : Privilege) (ps : List Privilege) →
    insert p ps ≡ insert_at (first_index (before p) ps) p ps
unfolding placed
insert-place p [] = refl
insert-place p (q ∷ qs) = cases (before p q)
    (λ e. rw e)
    (λ e. rw e (ap (λ (l : List Privilege). q ∷ l) (insert-place p qs)))

before_self : (p : Privilege) → before p p ≡ false
before_self p = must_fail false (before p p) refl
    (λ e. before_cases p p e (λ l. absurd (omega arith)) (λ i l. absurd (omega arith)))

-- all pass
first-zero : {A : Type 0} (p : A → Bool) (xs : List A) → ((x : A) → Mem x xs → p x ≡ true) →
    first_index p xs ≡ 0
first-zero p [] h = refl
first-zero p (x ∷ xs) h = rw (h x (inl refl))

keep_all : {A : Type 0} (p : A → Bool) (xs : List A) → ((x : A) → Mem x xs → p x ≡ true) → keep_if p xs ≡ xs
keep_all p [] h = refl
keep_all {A} p (x ∷ xs) h = rw (h x (inl refl))
    (ap (λ (l : List A). x ∷ l) (keep_all p xs (λ y m. h y (inr m))))

module _ (p : Privilege) where
  abbrev is_it : Privilege → Bool
  is_it x = is_privilege p.object p.subject x

  -- no privilege behind it is the same
  behind_other : (x : Privilege) → before p x ≡ true → is_it x ≡ false
  behind_other x e = must_fail (before p p) (is_it x) (before_self p)
      (λ t. subst (λ (y : Privilege). before p y ≡ true) (the_privilege p.object p.subject x t) e)

  -- taken out: it stands right before its place
  removed : (ps : List Privilege) → Pairwise (Passing before) ps → listed ps p.object p.subject ≡ true →
      (0 < first_index (before p) ps)
      × (without p.object p.subject ps ≡ remove_at (first_index (before p) ps - 1) ps)
  removed [] a l = absurd (false≢true l)
  removed (x ∷ xs) a l = cases (is_it x)
      (λ e. let g : x ≡ p = the_privilege p.object p.subject x e in
      let f : (y : Privilege) → Mem y xs → before p y ≡ true =
      λ y m. subst (λ (z : Privilege). before z y ≡ true) g (a.0 y m) in
      rw (e, ap (before p) g ∙ before_self p, first-zero (before p) xs f)
      (omega arith, keep_all (λ y. not (is_it y)) xs (λ y m. ap not (behind_other y (f y m)))))
      (λ e. let m : listed xs p.object p.subject ≡ true = rw e at l in
      let w = any_mem is_it xs m in
      let f : before x p ≡ true =
      subst (λ (y : Privilege). before x y ≡ true) (the_privilege p.object p.subject w.0 w.2)
      (a.0 w.0 w.1) in
      let n : before p x ≡ false = must_fail (before p p) (before p x) (before_self p)
      (λ t. before_trans p x p t f) in
      let h = removed xs a.1 m in
      let i : suc (first_index (before p) xs) - 1 ≡ suc (first_index (before p) xs - 1) = omega (arith, h.0) in
      rw (e, n, i) (omega arith, ap (λ (l : List Privilege). x ∷ l) h.1))

  pub remove_place : (ps : List Privilege) → chained before ps ≡ true →
      listed ps p.object p.subject ≡ true →
      (0 < first_index (before p) ps)
      × (without p.object p.subject ps ≡ remove_at (first_index (before p) ps - 1) ps)
  remove_place ps e l = removed ps (chained_all before before_trans ps e) l
