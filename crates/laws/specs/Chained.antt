-- Lists in order: each element and the next pass a test (`chained`), or each stands so to all that follow
-- (`Pairwise`). By a transitive relation the one gives the other; members left out or put last keep the
-- order.
use Rattle.std.specs.Prelude.{◌≡◌, refl, Bool, true, ◌&&◌, List, [], ◌∷◌, ◌++◌}
use Rattle.std.proofs.Common.{inl, inr, ⊎_elim}
use Rattle.foundation.specs.Tests.{cases, and-true, and_intro}
use Rattle.foundation.specs.Lists.{keep_if, Mem, append_mem, kept}
use Rattle.model.specs.Soundness.{chained}

-- each element stands so to all that follow
abbrev pub Pairwise : {A : Type 0} → (A → A → Type 0) → List A → Type 0
Pairwise R [] = Unit {0}
Pairwise {A = A} R (x ∷ xs) = ((y : A) → Mem y xs → R x y) × Pairwise R xs

pub pairwise_append : {A : Type 0} (R : A → A → Type 0) (xs ys : List A) → Pairwise R xs → Pairwise R ys →
    ((x y : A) → Mem x xs → Mem y ys → R x y) → Pairwise R (xs ++ ys)
pairwise_append R [] ys a c h = c
pairwise_append R (x ∷ xs) ys a c h = (
  (λ y m. ⊎_elim (λ n. a.0 y n) (λ n. h x y (inl refl) n) (append_mem y xs ys m)),
  pairwise_append R xs ys a.1 c (λ u v m n. h u v (inr m) n),
)

-- one more at the end
pub pairwise_last : {A : Type 0} (R : A → A → Type 0) (xs : List A) (z : A) → Pairwise R xs →
    ((x : A) → Mem x xs → R x z) → Pairwise R (xs ++ (z ∷ []))
pairwise_last R xs z a h = pairwise_append R xs (z ∷ []) a ((λ y m. absurd m.lower), tt)
    (λ x y m. ⊎_elim (λ e. rw e (h x m)) (λ n. absurd n.lower))

-- some left out
pub pairwise_keep : {A : Type 0} (R : A → A → Type 0) (k : A → Bool) (xs : List A) → Pairwise R xs →
    Pairwise R (keep_if k xs)
pairwise_keep R k [] a = tt
pairwise_keep R k (x ∷ xs) a = cases (k x)
    (λ q. rw q ((λ y m. a.0 y (kept k xs y m).0), pairwise_keep R k xs a.1))
    (λ q. rw q (pairwise_keep R k xs a.1))

-- neighbours that stand so, by a transitive relation
pub chained_pairwise : {A : Type 0} (R : A → A → Type 0) (p : A → A → Bool) →
    ((x y z : A) → R x y → R y z → R x z) → (xs : List A) →
    ((x y : A) → Mem x xs → Mem y xs → p x y ≡ true → R x y) → chained p xs ≡ true → Pairwise R xs
chained_pairwise R p tr [] h e = tt
chained_pairwise R p tr (x ∷ []) h e = ((λ y m. absurd m.lower), tt)
chained_pairwise R p tr (x ∷ y ∷ zs) h e =
    let w = and-true (p x y) (chained p (y ∷ zs)) e in
    let r = h x y (inl refl) (inr (inl refl)) w.0 in
    let k = chained_pairwise R p tr (y ∷ zs) (λ u v m n. h u v (inr m) (inr n)) w.1 in
    ((λ z. ⊎_elim (λ q. rw q r) (λ m. tr x y z r (k.0 z m))), k)

pub pairwise_chained : {A : Type 0} (R : A → A → Type 0) (p : A → A → Bool) →
    ((x y : A) → R x y → p x y ≡ true) → (xs : List A) → Pairwise R xs → chained p xs ≡ true
pairwise_chained R p h [] a = refl
pairwise_chained R p h (x ∷ []) a = refl
pairwise_chained R p h (x ∷ y ∷ zs) a =
    and_intro (p x y) (chained p (y ∷ zs)) (h x y (a.0 y (inl refl)))
    (pairwise_chained R p h (y ∷ zs) a.1)

-- ---- a test that is transitive

abbrev pub Passing : {A : Type 0} → (A → A → Bool) → A → A → Type 0
Passing p x y = p x y ≡ true

pub all_chained : {A : Type 0} (p : A → A → Bool) (xs : List A) → Pairwise (Passing p) xs →
    chained p xs ≡ true
all_chained p xs a = pairwise_chained (Passing p) p (λ x y f. f) xs a

module _ {A : Type 0} (p : A → A → Bool) (trans : (x y z : A) → p x y ≡ true → p y z ≡ true → p x z ≡ true)
  where
    pub chained_all : (xs : List A) → chained p xs ≡ true → Pairwise (Passing p) xs
    chained_all xs e = chained_pairwise (Passing p) p trans xs (λ x y m n f. f) e

    pub chained-keep : (k : A → Bool) (xs : List A) → chained p xs ≡ true → chained p (keep_if k xs) ≡ true
    chained-keep k xs e = all_chained p (keep_if k xs) (pairwise_keep (Passing p) k xs (chained_all xs e))

    pub chained-last : (xs : List A) (z : A) → chained p xs ≡ true → ((y : A) → Mem y xs → p y z ≡ true) →
        chained p (xs ++ (z ∷ [])) ≡ true
    chained-last xs z e h = all_chained p (xs ++ (z ∷ []))
        (pairwise_last (Passing p) xs z (chained_all xs e) h)

-- ---- two tests of each element and the next: one after the other, or both at once

pub chained-both : {A : Type 0} (p q : A → A → Bool) (xs : List A) → chained p xs ≡ true →
    chained q xs ≡ true →
    chained (λ x y. p x y && q x y) xs ≡ true
chained-both p q [] e f = refl
chained-both p q (x ∷ []) e f = refl
chained-both p q (x ∷ y ∷ xs) e f =
    let u = and-true (p x y) (chained p (y ∷ xs)) e in
    let v = and-true (q x y) (chained q (y ∷ xs)) f in
    and_intro (p x y && q x y) (chained (λ x y. p x y && q x y) (y ∷ xs))
    (and_intro (p x y) (q x y) u.0 v.0) (chained-both p q (y ∷ xs) u.1 v.1)

pub chained-each : {A : Type 0} (p q : A → A → Bool) (xs : List A) →
    chained (λ x y. p x y && q x y) xs ≡ true →
    (chained p xs ≡ true) × (chained q xs ≡ true)
chained-each p q [] e = (refl, refl)
chained-each p q (x ∷ []) e = (refl, refl)
chained-each p q (x ∷ y ∷ xs) e =
    let u = and-true (p x y && q x y) (chained (λ x y. p x y && q x y) (y ∷ xs)) e in
    let v = and-true (p x y) (q x y) u.0 in
    let w = chained-each p q (y ∷ xs) u.1 in (
      and_intro (p x y) (chained p (y ∷ xs)) v.0 w.0,
      and_intro (q x y) (chained q (y ∷ xs)) v.1 w.1,
    )
