-- Lists of privileges: one put in its place or left out, what becomes of the others, and their order.
use Rattle.std.specs.Prelude.{◌≡◌, refl, ◌⊎◌, Bool, true, false, not, ◌&&◌, List, [], ◌∷◌, ℕ, suc, ◌≤◌, ◌<◌, ltb, eqb}
use Rattle.std.proofs.Common.{sym, ap, ap₂, ◌∙◌, inl, inr, ⊎_elim, arith}
use Rattle.foundation.specs.Tests.{pick, cases, and-true, and_intro, or_cases, or_intro_left, or_true_right}
use Rattle.foundation.specs.Tests.{or_none}
use Rattle.foundation.specs.Tests.{true-le, le-true, false-le, true_eq, eq_true, false_eq}
use Rattle.foundation.specs.Lists.{allb, Mem, any_mem, mem_any, any_false, mem_all, kept, keep_if-mem}
use Rattle.model.specs.declared.Privilege.{Privilege}
use Rattle.model.specs.Base.{privilege, is_privilege, listed}
use Rattle.model.specs.Requests.{before, insert, without}
use Rattle.model.specs.Soundness.{chained}
use Rattle.laws.specs.Chained.{Pairwise, Passing, chained_all, all_chained, chained-keep}

-- ---- a privilege put in

insert-old : (p : Privilege) (ps : List Privilege) (x : Privilege) → Mem x ps → Mem x (insert p ps)
insert-old p [] x m = absurd m.lower
insert-old p (y ∷ ps) x (inl e) = cases (before p y) (λ h. rw h (inr (inl e))) (λ h. rw h (inl e))
insert-old p (y ∷ ps) x (inr m) =
    cases (before p y) (λ h. rw h (inr (inr m))) (λ h. rw h (inr (insert-old p ps x m)))

insert-mem : (p : Privilege) (ps : List Privilege) (x : Privilege) → Mem x (insert p ps) → (x ≡ p) ⊎ Mem x ps
insert-mem p [] x (inl e) = inl e
insert-mem p [] x (inr m) = absurd m.lower
insert-mem p (y ∷ ps) x m = cases (before p y)
    (λ h. rw h at m)
    (λ h. let n : (x ≡ y) ⊎ Mem x (insert p ps) = rw h at m in ⊎_elim
    (λ e. inr (inl e))
    (λ k. ⊎_elim (λ e. inl e) (λ l. inr (inr l)) (insert-mem p ps x k))
    n)

-- ---- the order of privileges

module _ (p x : Privilege) where
  -- the two ways to be before
  abbrev lower : Bool
  lower = ltb p.object x.object

  abbrev level : Bool
  level = eqb p.object x.object && ltb p.subject x.subject

  before-object : p.object < x.object → before p x ≡ true
  before-object l = or_intro_left lower level (le-true (suc p.object) x.object l)

  before-subject : p.object ≡ x.object → p.subject < x.subject → before p x ≡ true
  before-subject e l = or_true_right lower level
      (and_intro (eqb p.object x.object) (ltb p.subject x.subject)
      (eq_true p.object x.object e) (le-true (suc p.subject) x.subject l))

  pub before_cases : {X : Type 0} → before p x ≡ true → (p.object < x.object → X) →
      (p.object ≡ x.object → p.subject < x.subject → X) → X
  before_cases e f h = or_cases lower level e
      (λ a. f (true-le (suc p.object) x.object a))
      (λ a. let w = and-true (eqb p.object x.object) (ltb p.subject x.subject) a in
      h (true_eq p.object x.object w.0) (true-le (suc p.subject) x.subject w.1))

  pub before-not : before p x ≡ false → x.object ≤ p.object
  before-not e =
      let l = false-le (suc p.object) x.object (or_none lower level e).0 in
      omega arith

  before-level : before p x ≡ false → p.object ≡ x.object → x.subject ≤ p.subject
  before-level e i =
      let l = false-le (suc p.subject) x.subject
      (rw (eq_true p.object x.object i) at (or_none lower level e).1) in
      omega arith

pub before_trans : (x y z : Privilege) → before x y ≡ true → before y z ≡ true → before x z ≡ true
before_trans x y z e f = before_cases x y e
    (λ a. before-object x z (before_cases y z f (λ c. omega arith) (λ c d. omega arith)))
    (λ a l. before_cases y z f
    (λ c. before-object x z (omega arith))
    (λ c d. before-subject x z (omega arith) (omega arith)))

-- one of two different privileges is before the other
before_other : (p x : Privilege) → before p x ≡ false → is_privilege p.object p.subject x ≡ false →
    before x p ≡ true
before_other p x e n = cases (eqb x.object p.object)
    (λ a. let i = true_eq x.object p.object a in before-subject x p i
    (omega (arith, false_eq x.subject p.subject (rw a at n), before-level p x e (sym i))))
    (λ a. before-object x p (omega (arith, false_eq x.object p.object a, before-not p x e)))

-- a privilege put in among those that stand in order with it
insert_all : (R : Privilege → Privilege → Type 0) (p : Privilege) (ps : List Privilege) →
    ((x y z : Privilege) → R x y → R y z → R x z) →
    ((x : Privilege) → Mem x ps → before p x ≡ true → R p x) →
    ((x : Privilege) → Mem x ps → before p x ≡ false → R x p) →
    Pairwise R ps → Pairwise R (insert p ps)
insert_all R p [] trans up down a = ((λ x m. absurd m.lower), tt)
insert_all R p (y ∷ ps) trans up down a = cases (before p y)
    (λ h. let r = up y (inl refl) h in
    rw h ((λ x. ⊎_elim (λ e. rw e r) (λ m. trans p y x r (a.0 x m))), a))
    (λ h. rw h (
      (λ x m. ⊎_elim (λ e. rw e (down y (inl refl) h)) (λ n. a.0 x n) (insert-mem p ps x m)),
      insert_all R p ps trans (λ x m. up x (inr m)) (λ x m. down x (inr m)) a.1,
    ))

-- the only privilege that passes the test
pub the_privilege : (o s : ℕ) (x : Privilege) → is_privilege o s x ≡ true → x ≡ privilege o s
the_privilege o s x e =
    let w = and-true (eqb x.object o) (eqb x.subject s) e in
    ap₂ privilege (true_eq x.object o w.0) (true_eq x.subject s w.1)

-- ---- what a request makes of a list of privileges

-- that of s on o put in, left out, or neither
abbrev pub changed : Bool → Bool → ℕ → ℕ → List Privilege → List Privilege
changed given withdrawn o s ps = pick given (insert (privilege o s) ps) (pick withdrawn (without o s ps) ps)

module _ (given withdrawn : Bool) (o s : ℕ) (ps : List Privilege) where
  abbrev now : List Privilege
  now = changed given withdrawn o s ps

  pub changed-order : (r : Privilege → Privilege → Bool) →
      ((x y z : Privilege) → r x y ≡ true → r y z ≡ true → r x z ≡ true) →
      (given ≡ true → (x : Privilege) → Mem x ps → before (privilege o s) x ≡ true →
      r (privilege o s) x ≡ true) →
      (given ≡ true → (x : Privilege) → Mem x ps → before (privilege o s) x ≡ false →
      r x (privilege o s) ≡ true) →
      chained r ps ≡ true → chained r now ≡ true
  changed-order r trans up down e = cases given
      (λ k. rw k (all_chained r (insert (privilege o s) ps)
      (insert_all (Passing r) (privilege o s) ps trans (up k) (down k) (chained_all r trans ps e))))
      (λ k. cases withdrawn
      (λ l. rw (k, l) (chained-keep r trans (λ p. not (is_privilege o s p)) ps e))
      (λ l. rw (k, l) e))

  -- each is that of s on o, or was there
  pub changed-mem : (x : Privilege) → Mem x now → ((given ≡ true) × (x ≡ privilege o s)) ⊎ Mem x ps
  changed-mem x m = cases given
      (λ k. ⊎_elim (λ e. inl (k, e)) (λ n. inr n) (insert-mem (privilege o s) ps x (rw k at m)))
      (λ k. cases withdrawn
      (λ l. inr (kept (λ p. not (is_privilege o s p)) ps x (rw (k, l) at m)).0)
      (λ l. inr (rw (k, l) at m)))

  pub changed_all : (t : Privilege → Bool) → (given ≡ true → t (privilege o s) ≡ true) →
      ((x : Privilege) → Mem x ps → t x ≡ true) → allb t now ≡ true
  changed_all t h old = mem_all t now
      (λ x m. ⊎_elim (λ w. ap t w.1 ∙ h w.0) (λ n. old x n) (changed-mem x m))

  -- what is not withdrawn stays
  pub changed-stays : (x : Privilege) → (withdrawn ≡ true → is_privilege o s x ≡ false) → Mem x ps → Mem x now
  changed-stays x h m = cases given
      (λ k. rw k (insert-old (privilege o s) ps x m))
      (λ k. cases withdrawn
      (λ l. rw (k, l) (keep_if-mem (λ p. not (is_privilege o s p)) ps x m (ap not (h l))))
      (λ l. rw (k, l) m))

  -- in order, if that of s on o is put in only where it is not there
  pub changed-before : chained before ps ≡ true → (given ≡ true → listed ps o s ≡ false) →
      chained before now ≡ true
  changed-before e h = changed-order before before_trans (λ k x m c. c)
      (λ k x m c. before_other (privilege o s) x c (any_false (is_privilege o s) ps (h k) x m)) e

  pub listed-stays : (p r : ℕ) → (withdrawn ≡ true → is_privilege o s (privilege p r) ≡ false) →
      listed ps p r ≡ true → listed now p r ≡ true
  listed-stays p r h e =
      let w = any_mem (is_privilege p r) ps e in
      mem_any (is_privilege p r) now w.0 (changed-stays w.0
      (λ l. rw (the_privilege p r w.0 w.2) (h l)) w.1) w.2
