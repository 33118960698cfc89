-- Lists of any element: tests of their members, tests joined by &&, membership, what is kept, what is put in
-- at a place, and what two lists make together.
use Rattle.std.specs.Prelude.{◌≡◌, refl, ◌⊎◌, ℕ, suc, ◌*◌, ◌-◌, ◌≤◌, Bool, true, false, ◌&&◌, ◌||◌, List, [], ◌∷◌, ◌++◌, map, length, take, drop}
use Rattle.std.proofs.Common.{sym, ap, ◌∙◌, subst, inl, inr, ⊎_elim, arith, zero-mul, append_assoc, take-append-drop, length-append, length-take, length-drop, take_all}
use Rattle.std.proofs.Math.Logic.{Lift}
use Rattle.std.proofs.lemmas.Bool.{false≢true}
use Rattle.std.proofs.lemmas.List.{length-map}
use Rattle.foundation.specs.Tests.{pick, cases, must_fail, and-true, and_intro, or_true_right, or_assoc}
use Rattle.foundation.specs.Tests.{or_swap}

-- one of the list passes the test. The rest is asked only where the first fails
abbrev pub anyb {ℓ} : {A : Type ℓ} → (A → Bool) → List A → Bool
anyb p [] = false
anyb p (x ∷ xs) = let r = anyb p xs in p x || r

abbrev pub allb {ℓ} : {A : Type ℓ} → (A → Bool) → List A → Bool
allb p [] = true
allb p (x ∷ xs) = let r = allb p xs in p x && r

abbrev pub keep_if {ℓ} : {A : Type ℓ} → (A → Bool) → List A → List A
keep_if p [] = []
keep_if p (x ∷ xs) = let r = keep_if p xs in pick (p x) (x ∷ r) r

-- x is one of the list
abbrev pub Mem {ℓ} : {A : Type ℓ} → A → List A → Type ℓ
Mem x [] = Lift {0, ℓ} ⊥
Mem x (y ∷ ys) = (x ≡ y) ⊎ Mem x ys

-- f x for each x of the list, one after the other
abbrev pub each {ℓ κ} : {A : Type ℓ} {B : Type κ} → List A → (A → List B) → List B
each [] f = []
each (x ∷ xs) f = f x ++ each xs f

-- ---- some pass

pub any_mem {ℓ} : {A : Type ℓ} (p : A → Bool) (xs : List A) → anyb p xs ≡ true →
    (x : A) × Mem x xs × (p x ≡ true)
any_mem p [] e = absurd (false≢true e)
any_mem p (x ∷ xs) e = cases (p x)
    (λ q. (x, inl refl, q))
    (λ q. let r = any_mem p xs (rw q at e) in (r.0, inr r.1, r.2))

pub mem_any {ℓ} : {A : Type ℓ} (p : A → Bool) (xs : List A) (x : A) → Mem x xs → p x ≡ true → anyb p xs ≡ true
mem_any p [] x m e = absurd m.lower
mem_any p (y ∷ ys) x (inl q) e = rw (rw q at e)
mem_any p (y ∷ ys) x (inr m) e = or_true_right (p y) (anyb p ys) (mem_any p ys x m e)

-- where none passes, each fails
pub any_false {ℓ} : {A : Type ℓ} (p : A → Bool) (xs : List A) → anyb p xs ≡ false → (x : A) → Mem x xs →
    p x ≡ false
any_false p xs e x m = must_fail (anyb p xs) (p x) e (mem_any p xs x m)

pub any_none {ℓ} : {A : Type ℓ} (p : A → Bool) (xs : List A) → ((x : A) → p x ≡ false) → anyb p xs ≡ false
any_none p [] h = refl
any_none p (x ∷ xs) h = rw (h x, any_none p xs h)

pub any_cong_mem {ℓ} : {A : Type ℓ} (p q : A → Bool) (xs : List A) → ((x : A) → Mem x xs → p x ≡ q x) →
    anyb p xs ≡ anyb q xs
any_cong_mem p q [] h = refl
any_cong_mem p q (x ∷ xs) h = rw (h x (inl refl), any_cong_mem p q xs (λ y m. h y (inr m)))

pub any_cong {ℓ} : {A : Type ℓ} (p q : A → Bool) (xs : List A) → ((x : A) → p x ≡ q x) → anyb p xs ≡ anyb q xs
any_cong p q xs h = any_cong_mem p q xs (λ x m. h x)

pub any_map {ℓ κ} : {A : Type ℓ} {B : Type κ} (p : B → Bool) (f : A → B) (xs : List A) →
    anyb p (map f xs) ≡ anyb (λ x. p (f x)) xs
any_map p f [] = refl
any_map p f (x ∷ xs) = ap (λ (b : Bool). p (f x) || b) (any_map p f xs)

pub any_mono {ℓ} : {A : Type ℓ} (p q : A → Bool) (xs : List A) → ((x : A) → p x ≡ true → q x ≡ true) →
    anyb p xs ≡ true → anyb q xs ≡ true
any_mono p q xs h e = let m = any_mem p xs e in mem_any q xs m.0 m.1 (h m.0 m.2)

-- ---- all pass

pub all_mem : {A : Type 0} (p : A → Bool) (xs : List A) → allb p xs ≡ true → (x : A) → Mem x xs → p x ≡ true
all_mem p [] e x m = absurd m.lower
all_mem p (y ∷ ys) e x (inl q) = ap p q ∙ (and-true (p y) (allb p ys) e).0
all_mem p (y ∷ ys) e x (inr m) = all_mem p ys (and-true (p y) (allb p ys) e).1 x m

pub mem_all : {A : Type 0} (p : A → Bool) (xs : List A) → ((x : A) → Mem x xs → p x ≡ true) → allb p xs ≡ true
mem_all p [] h = refl
mem_all p (y ∷ ys) h = and_intro (p y) (allb p ys) (h y (inl refl)) (mem_all p ys (λ x m. h x (inr m)))

pub all_cong : {A : Type 0} (p q : A → Bool) (xs : List A) → ((x : A) → p x ≡ q x) → allb p xs ≡ allb q xs
all_cong p q [] h = refl
all_cong p q (x ∷ xs) h = rw (h x, all_cong p q xs h)

-- two tests of each: one after the other, or both at once
pub all_both : {A : Type 0} (p q : A → Bool) (xs : List A) → allb p xs ≡ true → allb q xs ≡ true →
    allb (λ x. p x && q x) xs ≡ true
all_both p q xs e f = mem_all (λ x. p x && q x) xs
    (λ x m. and_intro (p x) (q x) (all_mem p xs e x m) (all_mem q xs f x m))

pub all_each : {A : Type 0} (p q : A → Bool) (xs : List A) → allb (λ x. p x && q x) xs ≡ true →
    (allb p xs ≡ true) × (allb q xs ≡ true)
all_each {A} p q xs e = (mem_all p xs (λ x m. (both x m).0), mem_all q xs (λ x m. (both x m).1))
  where
    both : (x : A) → Mem x xs → (p x ≡ true) × (q x ≡ true)
    both x m = and-true (p x) (q x) (all_mem (λ x. p x && q x) xs e x m)

-- ---- tests joined by &&, which nests to the left

-- a && b && c is `conjunction true (a ∷ b ∷ c ∷ [])`
abbrev pub conjunction : Bool → List Bool → Bool
conjunction a [] = a
conjunction a (x ∷ xs) = conjunction (a && x) xs

conjunction-first : (a : Bool) (xs : List Bool) → conjunction a xs ≡ true → a ≡ true
conjunction-first a [] e = e
conjunction-first a (x ∷ xs) e = (and-true a x (conjunction-first (a && x) xs e)).0

conjunction_rest : (a : Bool) (xs : List Bool) → conjunction a xs ≡ true → (x : Bool) → Mem x xs → x ≡ true
conjunction_rest a [] e x m = absurd m.lower
conjunction_rest a (y ∷ xs) e x (inl p) = p ∙ (and-true a y (conjunction-first (a && y) xs e)).1
conjunction_rest a (y ∷ xs) e x (inr m) = conjunction_rest (a && y) xs e x m

-- a conjunction that passes passes each of its tests
pub conjunct : (xs : List Bool) → conjunction true xs ≡ true → (x : Bool) → Mem x xs → x ≡ true
conjunct = conjunction_rest true

-- ---- membership

pub mem_left {ℓ} : {A : Type ℓ} (x : A) (xs ys : List A) → Mem x xs → Mem x (xs ++ ys)
mem_left x [] ys m = absurd m.lower
mem_left x (y ∷ xs) ys (inl e) = inl e
mem_left x (y ∷ xs) ys (inr m) = inr (mem_left x xs ys m)

pub mem_right {ℓ} : {A : Type ℓ} (x : A) (xs ys : List A) → Mem x ys → Mem x (xs ++ ys)
mem_right x [] ys m = m
mem_right x (y ∷ xs) ys m = inr (mem_right x xs ys m)

pub append_mem {ℓ} : {A : Type ℓ} (x : A) (xs ys : List A) → Mem x (xs ++ ys) → Mem x xs ⊎ Mem x ys
append_mem x [] ys m = inr m
append_mem x (y ∷ xs) ys (inl e) = inl (inl e)
append_mem x (y ∷ xs) ys (inr m) = ⊎_elim (λ a. inl (inr a)) (λ b. inr b) (append_mem x xs ys m)

-- of a list with one more at its end: a member, or that one
pub last_mem {ℓ} : {A : Type ℓ} (x : A) (xs : List A) (z : A) → Mem x (xs ++ (z ∷ [])) → Mem x xs ⊎ (x ≡ z)
last_mem x xs z m =
    ⊎_elim (λ n. inl n) (λ n. inr (⊎_elim (λ e. e) (λ o. absurd o.lower) n)) (append_mem x xs (z ∷ []) m)

pub mem-map {ℓ κ} : {A : Type ℓ} {B : Type κ} (f : A → B) (xs : List A) (x : A) → Mem x xs →
    Mem (f x) (map f xs)
mem-map f [] x m = absurd m.lower
mem-map f (y ∷ xs) x (inl e) = inl (ap f e)
mem-map f (y ∷ xs) x (inr m) = inr (mem-map f xs x m)

pub map-mem {ℓ κ} : {A : Type ℓ} {B : Type κ} (f : A → B) (xs : List A) (z : B) → Mem z (map f xs) →
    (x : A) × Mem x xs × (z ≡ f x)
map-mem f [] z m = absurd m.lower
map-mem f (x ∷ xs) z (inl e) = (x, inl refl, e)
map-mem f (x ∷ xs) z (inr m) = let r = map-mem f xs z m in (r.0, inr r.1, r.2)

pub mem-each {ℓ κ} : {A : Type ℓ} {B : Type κ} (xs : List A) (f : A → List B) (x : A) (y : B) → Mem x xs →
    Mem y (f x) → Mem y (each xs f)
mem-each [] f x y m n = absurd m.lower
mem-each {B = B} (z ∷ xs) f x y (inl e) n = mem_left y (f z) (each xs f) (subst (λ w. Mem y (f w)) e n)
mem-each (z ∷ xs) f x y (inr m) n = mem_right y (f z) (each xs f) (mem-each xs f x y m n)

pub each-mem {ℓ κ} : {A : Type ℓ} {B : Type κ} (xs : List A) (f : A → List B) (y : B) → Mem y (each xs f) →
    (x : A) × Mem x xs × Mem y (f x)
each-mem [] f y m = absurd m.lower
each-mem (x ∷ xs) f y m = ⊎_elim
    (λ a. (x, inl refl, a))
    (λ b. let w = each-mem xs f y b in (w.0, inr w.1, w.2))
    (append_mem y (f x) (each xs f) m)

pub length-each {ℓ κ} : {A : Type ℓ} {B : Type κ} (xs : List A) (f : A → List B) (n : ℕ) →
    ((x : A) → length (f x) ≡ n) → length (each xs f) ≡ length xs * n
length-each [] f n h = sym (zero-mul n)
length-each (x ∷ xs) f n h = length-append (f x) (each xs f) ∙ rw (h x, length-each xs f n h) (omega arith)

pub each_append {ℓ κ} : {A : Type ℓ} {B : Type κ} (xs ys : List A) (f : A → List B) →
    each (xs ++ ys) f ≡ each xs f ++ each ys f
each_append [] ys f = refl
each_append (x ∷ xs) ys f = rw (each_append xs ys f) (sym (append_assoc (f x) (each xs f) (each ys f)))

-- ---- what is kept

pub keep_if-mem : {A : Type 0} (p : A → Bool) (xs : List A) (x : A) → Mem x xs → p x ≡ true →
    Mem x (keep_if p xs)
keep_if-mem p [] x m e = m
keep_if-mem p (y ∷ ys) x (inl q) e = rw (rw q at e) (inl q)
keep_if-mem p (y ∷ ys) x (inr m) e = cases (p y)
    (λ q. rw q (inr (keep_if-mem p ys x m e)))
    (λ q. rw q (keep_if-mem p ys x m e))

-- what is kept is of the list, and passes
pub kept : {A : Type 0} (p : A → Bool) (xs : List A) (x : A) → Mem x (keep_if p xs) → Mem x xs × (p x ≡ true)
kept p [] x m = absurd m.lower
kept p (y ∷ ys) x m = cases (p y)
    (λ q. let n : (x ≡ y) ⊎ Mem x (keep_if p ys) = rw q at m in
    ⊎_elim (λ e. (inl e, rw e q)) (λ k. let w = kept p ys x k in (inr w.0, w.1)) n)
    (λ q. let w = kept p ys x (rw q at m) in (inr w.0, w.1))

pub kept_length : {A : Type 0} (p : A → Bool) (xs : List A) → length (keep_if p xs) ≤ length xs
kept_length p [] = omega arith
kept_length p (x ∷ xs) = cases (p x)
    (λ e. rw e (omega (arith, kept_length p xs)))
    (λ e. rw e (omega (arith, kept_length p xs)))

pub keep_if_append : {A : Type 0} (p : A → Bool) (xs ys : List A) →
    keep_if p (xs ++ ys) ≡ keep_if p xs ++ keep_if p ys
keep_if_append p [] ys = refl
keep_if_append p (x ∷ xs) ys = cases (p x)
    (λ e. rw (e, keep_if_append p xs ys))
    (λ e. rw (e, keep_if_append p xs ys))

-- ---- elements put in at a place

-- ys with xs in front of those from index k on
unfoldable pub placed : {A : Type 0} → ℕ → List A → List A → List A
placed k xs ys = take k ys ++ (xs ++ drop k ys)

-- x put before the element at k, or at the end where k is the length
abbrev pub insert_at : {A : Type 0} → ℕ → A → List A → List A
insert_at k x ys = placed k (x ∷ []) ys

pub length-insert_at : {A : Type 0} (i : ℕ) (x : A) (xs : List A) → length (insert_at i x xs) ≡ suc (length xs)
unfolding placed
length-insert_at i x xs =
    length-append (take i xs) (x ∷ drop i xs) ∙ rw (length-take i xs, length-drop i xs) (omega arith)

pub any_append : {A : Type 0} (p : A → Bool) (xs ys : List A) → anyb p (xs ++ ys) ≡ anyb p xs || anyb p ys
any_append p [] ys = refl
any_append p (x ∷ xs) ys =
    ap (λ (b : Bool). p x || b) (any_append p xs ys) ∙ sym (or_assoc (p x) (anyb p xs) (anyb p ys))

-- wherever x is put, it is one more
pub any_placed : {A : Type 0} (p : A → Bool) (k : ℕ) (x : A) (ys : List A) →
    anyb p (insert_at k x ys) ≡ p x || anyb p ys
unfolding placed
any_placed {A} p k x ys =
    any_append p (take k ys) (x ∷ drop k ys)
    ∙ or_swap (anyb p (take k ys)) (p x) (anyb p (drop k ys))
    ∙ ap (λ (b : Bool). p x || b) (sym (any_append p (take k ys) (drop k ys))
    ∙ ap (anyb p) (take-append-drop k ys))

-- ---- two lists together

module _ {A B C : Type 0} (f : A → B → C) where
  -- f x y for each x of the one list and each y of the other
  abbrev pub combine : List A → List B → List C
  combine xs ys = each xs (λ x. map (f x) ys)

  pub combine-length : (xs : List A) (ys : List B) → length (combine xs ys) ≡ length xs * length ys
  combine-length xs ys = length-each xs (λ x. map (f x) ys) (length ys) (λ x. length-map ys (f x))

  pub in_combine : (xs : List A) (ys : List B) (x : A) (y : B) → Mem x xs → Mem y ys →
      Mem (f x y) (combine xs ys)
  in_combine xs ys x y a b = mem-each xs (λ x. map (f x) ys) x (f x y) a (mem-map (f x) ys y b)

  pub combine-mem : (xs : List A) (ys : List B) (z : C) → Mem z (combine xs ys) →
      (x : A) × (y : B) × Mem x xs × Mem y ys × (z ≡ f x y)
  combine-mem xs ys z m =
      let a = each-mem xs (λ x. map (f x) ys) z m in
      let b = map-mem (f a.0) ys z a.2 in
      (a.0, b.0, a.1, b.1, b.2)

-- what is lent from a place on to the end
pub lent_rest : {A : Type 0} (a : ℕ) (l : List A) → take (length l - a) (drop a l) ≡ drop a l
lent_rest a l = take_all (length l - a) (drop a l) (omega (arith, length-drop a l))
