-- How many pairs a question can reach. A rule whose right side names a subject only keeps the object, one
-- that names an object only keeps the subject, and one that names both leads to one pair. So the pairs that
-- are reached are among `candidates` (`carried`), and those are few (`candidates-few`, `pairs-within`).
use mathlib.Core.Path.{◌≡◌, refl, sym, ap, ap₂, ◌∙◌, subst}
use mathlib.Core.Logic.{inl, inr, ⊎_elim}
use mathlib.Core.Bool.{Bool, true, false, not, ◌&&◌, true≢false}
use mathlib.Core.List.{List, [], ◌∷◌, ◌++◌, map}
use Prim.Native.Nat.{ℕ, zero, suc, ◌+◌, ◌*◌, ◌/◌, ◌%◌, ◌≤◌, ◌<◌}
use native.Mathlib.Nat.{mod-lt, div-add-mod'}
use native.Mathlib.Omega.{arith}
use lib.Dec.{eqb, leb}
use lib.ListN.{length, get_or, length-append, length-map}
use Rattle.foundation.specs.Tests.{cases, true_eq, eq_true, true-le, false-le, le-true}
use Rattle.foundation.specs.Tests.{le-false, and-true, not-true, must_fail}
use Rattle.foundation.specs.Lists.{Mem, anyb, keep_if, each, any_mem, mem_any, mem_left, mem_right, append_mem}
use Rattle.foundation.specs.Lists.{mem-map, map-mem, mem-each, each-mem, length-each, keep_if-mem, kept}
use Rattle.foundation.specs.Quotients.{parted}
use Rattle.foundation.specs.Closure.{set_size, set_size-le, set_size_mono, set_size-less}
use Rattle.foundation.specs.BitMasks.{as_bit, bit, power_above}
use Rattle.foundation.specs.BitLaws.{no_bits}
use Rattle.reach.specs.Net.{Net, standing, turned, right_pair, ClosedUnderRules, Only}
use Rattle.places.specs.ReachedNumbers.{used, used_before}
use Rattle.places.proofs.NumberFacts.{used_before-step, used_before_none}

-- ---- counting

unfoldable pub numbers_below : ℕ → List ℕ
numbers_below zero = []
numbers_below (suc n) = n ∷ numbers_below n

pub in_below : (n m : ℕ) → m < n → Mem m (numbers_below n)
unfolding numbers_below
in_below zero m h = absurd (omega arith)
in_below (suc n) m h = cases (leb (suc m) n)
    (λ e. inr (in_below n m (true-le (suc m) n e)))
    (λ e. let l = false-le (suc m) n e in inl (omega arith))

pub below_in : (n m : ℕ) → Mem m (numbers_below n) → m < n
unfolding numbers_below
below_in zero m i = absurd i.lower
below_in (suc n) m (inl e) = omega arith
below_in (suc n) m (inr i) = let l = below_in n m i in omega arith

-- those below n that pass a test, and how many they are
abbrev pub passing : (ℕ → Bool) → ℕ → List ℕ
passing t n = keep_if t (numbers_below n)

abbrev pub many : (ℕ → Bool) → ℕ → ℕ
many t n = length (passing t n)

-- no more are used than candidates are there that have all used ones
module _ (need l : List ℕ) (h : (j : ℕ) → used (get_or need j 0) ≡ true → Mem j l) where
  used-below : (k : ℕ) → k ≤ length need → used_before need k + set_size (leb k) l ≤ length l
  used-below zero p = omega (arith, used_before_none need, set_size-le (leb 0) l)
  used-below (suc k) p =
      let i = used-below k (omega arith) in
      let s = used_before-step need k p in
      let m : (y : ℕ) → Mem y l → leb (suc k) y ≡ true → leb k y ≡ true =
      (λ y n e. let g = true-le (suc k) y e in le-true k y (omega arith)) in
      cases (used (get_or need k 0))
      (λ e. let c : as_bit (used (get_or need k 0)) ≡ 1 = rw e in
      omega (
        arith,
        set_size-less (leb (suc k)) (leb k) l m k (h k e) (le-false (suc k) k (omega arith))
            (le-true k k (omega arith)),
      ))
      (λ e. let c : as_bit (used (get_or need k 0)) ≡ 0 = rw e in
      omega (arith, set_size_mono (leb (suc k)) (leb k) l m))

  used-few : used_before need (length need) ≤ length l
  used-few = omega (arith, used-below (length need) (omega arith))

-- ---- boxes of pairs

module _ (W : ℕ) where
  -- the pairs of some objects with some subjects
  abbrev box : List ℕ → List ℕ → List ℕ
  box O S = each O (λ o. map (λ s. o * W + s) S)

  pub record Boxed (O S : List ℕ) (j : ℕ) : Type 0 where
    pub object : ℕ
    pub subject : ℕ
    pub there : Mem object O
    pub here : Mem subject S
    pub is : j ≡ object * W + subject

  box_in : (O S : List ℕ) (o s : ℕ) → Mem o O → Mem s S → Mem (o * W + s) (box O S)
  box_in O S o s a b =
      mem-each O (λ o. map (λ s. o * W + s) S) o (o * W + s) a (mem-map (λ s. o * W + s) S s b)

  box_out : (O S : List ℕ) (j : ℕ) → Mem j (box O S) → Boxed O S j
  box_out O S j m =
      let w = each-mem O (λ o. map (λ s. o * W + s) S) j m in
      let v = map-mem (λ s. w.0 * W + s) S j w.2 in
      record { object = w.0; subject = v.0; there = w.1; here = v.1; is = v.2 }

  box-length : (O S : List ℕ) → length (box O S) ≡ length O * length S
  box-length O S =
      length-each O (λ o. map (λ s. o * W + s) S) (length S) (λ o. length-map S (λ s. o * W + s))

-- ---- candidates

-- by what is starred on the right: rules that name the subject only, the object only, both, neither
module _ (S O : ℕ → Bool) where
  abbrev pub subject_only : ℕ → Bool
  subject_only r = not (S r) && O r

  abbrev pub object_only : ℕ → Bool
  object_only r = S r && not (O r)

  abbrev pub named : ℕ → Bool
  named r = not (S r) && not (O r)

  abbrev pub names_none : ℕ → Bool
  names_none r = S r && O r

  -- each rule is of one kind
  pub kinds_all : (n : ℕ) → many subject_only n + many object_only n + many named n + many names_none n ≡ n
  unfolding numbers_below
  kinds_all zero = refl
  kinds_all (suc n) =
      let i = kinds_all n in
      cases (S n)
      (λ s. cases (O n) (λ o. rw (s, o) (omega arith)) (λ o. rw (s, o) (omega arith)))
      (λ s. cases (O n) (λ o. rw (s, o) (omega arith)) (λ o. rw (s, o) (omega arith)))

-- with `a` rules that name a subject only, `b` an object only, and `c` both
abbrev pub pairs_most : ℕ → ℕ → ℕ → ℕ
pairs_most a b c = suc b * suc a + c * (suc b + a)

-- the codes of the right sides of n rules, over W subjects and H objects
pub record Codes (n W H : ℕ) (S O : ℕ → Bool) (right : List ℕ) : Type 0 where
  pub subject : (r : ℕ) → r < n → eqb (get_or right (4 * r + 1) 0) 255 ≡ S r
  pub object : (r : ℕ) → r < n → eqb (get_or right (4 * r) 0) 255 ≡ O r
  pub subject_low : (r : ℕ) → r < n → S r ≡ false → get_or right (4 * r + 1) 0 < W
  pub object_low : (r : ℕ) → r < n → O r ≡ false → get_or right (4 * r) 0 < H

module _ (n W H : ℕ) (S O : ℕ → Bool) (right : List ℕ) (codes : Codes n W H S O right) (o₀ s₀ : ℕ)
    (high : o₀ < H) (low : s₀ < W) where
  abbrev subject_at : ℕ → ℕ
  subject_at r = get_or right (4 * r + 1) 0

  abbrev object_at : ℕ → ℕ
  object_at r = get_or right (4 * r) 0

  -- the subjects that rules name that keep the object, and the objects that those name that keep the subject
  abbrev subjects : List ℕ
  subjects = map subject_at (passing (subject_only S O) n)

  abbrev objects : List ℕ
  objects = map object_at (passing (object_only S O) n)

  -- from the pair that rule q leads to
  abbrev from_rule : ℕ → List ℕ
  from_rule q = box W (object_at q ∷ objects) (subject_at q ∷ []) ++ box W (object_at q ∷ []) subjects

  abbrev from_asked : List ℕ
  from_asked = box W (o₀ ∷ objects) (s₀ ∷ subjects)

  pub candidates : List ℕ
  candidates = from_asked ++ each (passing (named S O) n) from_rule

  pub candidates_few : length candidates
      ≡ pairs_most (many (subject_only S O) n) (many (object_only S O) n) (many (named S O) n)
  unfolding candidates
  candidates_few =
      let rules = passing (named S O) n in
      let A = length-map (passing (subject_only S O) n) subject_at in
      let B = length-map (passing (object_only S O) n) object_at in
      let first : length from_asked ≡ suc (length objects) * suc (length subjects) =
      box-length W (o₀ ∷ objects) (s₀ ∷ subjects) in
      let each-rule : (q : ℕ) → length (from_rule q) ≡ suc (length objects) + length subjects =
      (λ q. length-append (box W (object_at q ∷ objects) (subject_at q ∷ [])) (box W (object_at q ∷ []) subjects)
      ∙ omega (
        arith,
        box-length W (object_at q ∷ objects) (subject_at q ∷ []),
        box-length W (object_at q ∷ []) subjects,
      )) in
      length-append from_asked (each rules from_rule)
      ∙ ap₂ (λ (x y : ℕ). x + y) first (length-each rules from_rule (suc (length objects) + length subjects)
      each-rule)
      ∙ rw (A, B)

  -- ---- what is among them

  asked_in : (o s : ℕ) → Mem o (o₀ ∷ objects) → Mem s (s₀ ∷ subjects) → Mem (o * W + s) candidates
  unfolding candidates
  asked_in o s a b = mem_left (o * W + s) from_asked (each (passing (named S O) n) from_rule)
      (box_in W (o₀ ∷ objects) (s₀ ∷ subjects) o s a b)

  pub asked_candidate : Mem (o₀ * W + s₀) candidates
  asked_candidate = asked_in o₀ s₀ (inl refl) (inl refl)

  rule_in_lem : (q j : ℕ) → Mem q (passing (named S O) n) → Mem j (from_rule q) → Mem j candidates
  unfolding candidates
  rule_in_lem q j m i = mem_right j from_asked (each (passing (named S O) n) from_rule)
      (mem-each (passing (named S O) n) from_rule q j m i)

  object_in_lem : (q o s : ℕ) → Mem q (passing (named S O) n) → Mem o (object_at q ∷ objects) →
      Mem s (subject_at q ∷ []) → Mem (o * W + s) candidates
  object_in_lem q o s m a b = rule_in_lem q (o * W + s) m (mem_left (o * W + s)
      (box W (object_at q ∷ objects) (subject_at q ∷ [])) (box W (object_at q ∷ []) subjects)
      (box_in W (object_at q ∷ objects) (subject_at q ∷ []) o s a b))

  subject_in_lem : (q o s : ℕ) → Mem q (passing (named S O) n) → Mem o (object_at q ∷ []) → Mem s subjects →
      Mem (o * W + s) candidates
  subject_in_lem q o s m a b = rule_in_lem q (o * W + s) m (mem_right (o * W + s)
      (box W (object_at q ∷ objects) (subject_at q ∷ [])) (box W (object_at q ∷ []) subjects)
      (box_in W (object_at q ∷ []) subjects o s a b))

  -- ---- their coordinates

  subject-listed : (s : ℕ) → Mem s subjects → s < W
  subject-listed s m =
      let w = map-mem subject_at (passing (subject_only S O) n) s m in
      let k = kept (subject_only S O) (numbers_below n) w.0 w.1 in
      let e = and-true (not (S w.0)) (O w.0) k.1 in
      omega (
        arith,
        w.2,
        codes.subject_low w.0 (below_in n w.0 k.0) (not-true (S w.0) e.0),
      )

  object-listed : (o : ℕ) → Mem o objects → o < H
  object-listed o m =
      let w = map-mem object_at (passing (object_only S O) n) o m in
      let k = kept (object_only S O) (numbers_below n) w.0 w.1 in
      let e = and-true (S w.0) (not (O w.0)) k.1 in
      omega (
        arith,
        w.2,
        codes.object_low w.0 (below_in n w.0 k.0) (not-true (O w.0) e.1),
      )

  rule_low : (q : ℕ) → Mem q (passing (named S O) n) → (object_at q < H) × (subject_at q < W)
  rule_low q m =
      let k = kept (named S O) (numbers_below n) q m in
      let e = and-true (not (S q)) (not (O q)) k.1 in
      let l = below_in n q k.0 in (
        codes.object_low q l (not-true (O q) e.1),
        codes.subject_low q l (not-true (S q) e.0),
      )

  -- ---- where rules lead from them

  -- with a candidate, those are that a listed subject or object in place of its own makes
  pub record Open (j : ℕ) : Type 0 where
    pub object : ℕ
    pub subject : ℕ
    pub is : j ≡ object * W + subject
    pub object-below : object < H
    pub subject-below : subject < W
    pub other_subject : (s : ℕ) → Mem s subjects → Mem (object * W + s) candidates
    pub other_object : (o : ℕ) → Mem o objects → Mem (o * W + subject) candidates

  asked_open : (j : ℕ) → Boxed W (o₀ ∷ objects) (s₀ ∷ subjects) j → Open j
  asked_open j w = record {
    object = w.object;
    subject = w.subject;
    is = w.is;
    object-below = ⊎_elim (λ e. omega arith) (λ m. object-listed w.object m) w.there;
    subject-below = ⊎_elim (λ e. omega arith) (λ m. subject-listed w.subject m) w.here;
    other_subject = λ s m. asked_in w.object s w.there (inr m);
    other_object = λ o m. asked_in o w.subject (inr m) w.here;
  }

  object_open : (q j : ℕ) → Mem q (passing (named S O) n) →
      Boxed W (object_at q ∷ objects) (subject_at q ∷ []) j → Open j
  object_open q j i w =
      let l = rule_low q i in
      record {
        object = w.object;
        subject = w.subject;
        is = w.is;
        object-below = ⊎_elim (λ e. omega arith) (λ m. object-listed w.object m) w.there;
        subject-below = ⊎_elim (λ e. omega arith) (λ m. absurd m.lower) w.here;
        other_subject = λ s m. ⊎_elim
            (λ e. subject_in_lem q w.object s i (inl e) m)
            (λ k. asked_in w.object s (inr k) (inr m)) w.there;
        other_object = λ o m. object_in_lem q o w.subject i (inr m) w.here;
      }

  subject_open : (q j : ℕ) → Mem q (passing (named S O) n) → Boxed W (object_at q ∷ []) subjects j → Open j
  subject_open q j i w =
      let l = rule_low q i in
      record {
        object = w.object;
        subject = w.subject;
        is = w.is;
        object-below = ⊎_elim (λ e. omega arith) (λ m. absurd m.lower) w.there;
        subject-below = subject-listed w.subject w.here;
        other_subject = λ s m. subject_in_lem q w.object s i w.there m;
        other_object = λ o m. asked_in o w.subject (inr m) (inr w.here);
      }

  opened : (j : ℕ) → Mem j candidates → Open j
  unfolding candidates
  opened j m = ⊎_elim
      (λ a. asked_open j (box_out W (o₀ ∷ objects) (s₀ ∷ subjects) j a))
      (λ a. let w = each-mem (passing (named S O) n) from_rule j a in
      let q = w.0 in
      ⊎_elim
      (λ b. object_open q j w.1 (box_out W (object_at q ∷ objects) (subject_at q ∷ []) j b))
      (λ b. subject_open q j w.1 (box_out W (object_at q ∷ []) subjects j b))
      (append_mem j (box W (object_at q ∷ objects) (subject_at q ∷ [])) (box W (object_at q ∷ []) subjects)
      w.2))
      (append_mem j from_asked (each (passing (named S O) n) from_rule) m)

  by_test : (t : ℕ → Bool) (r : ℕ) → r < n → t r ≡ true → Mem r (passing t n)
  by_test t r h e = keep_if-mem t (numbers_below n) r (in_below n r h) e

  right_open : (j r : ℕ) → (w : Open j) → Mem j candidates → r < n →
      Mem (turned (object_at r) w.object * W + turned (subject_at r) w.subject) candidates
  right_open j r w m h =
      let s = codes.subject r h in
      let o = codes.object r h in
      cases (S r)
      (λ x. cases (O r)
      (λ y. rw (s, o, x, y) (subst (λ (i : ℕ). Mem i candidates) w.is m))
      (λ y. rw (s, o, x, y) (w.other_object (object_at r)
      (mem-map object_at (passing (object_only S O) n) r (by_test (object_only S O) r h (rw (x, y)))))))
      (λ x. cases (O r)
      (λ y. rw (s, o, x, y) (w.other_subject (subject_at r)
      (mem-map subject_at (passing (subject_only S O) n) r (by_test (subject_only S O) r h (rw (x, y))))))
      (λ y. rw (s, o, x, y) (object_in_lem r (object_at r) (subject_at r) (by_test (named S O) r h (rw (x, y)))
      (inl refl) (inl refl))))

  -- the coordinates of a candidate
  parts : (j : ℕ) (w : Open j) → (j / W ≡ w.object) × (j % W ≡ w.subject)
  parts j w = parted (j / W) w.object W (j % W) w.subject (mod-lt j (omega (arith, low)))
      w.subject-below (div-add-mod' j W ∙ w.is)

  -- ---- what is needed is among them

  abbrev is_candidate : ℕ → Bool
  is_candidate j = anyb (eqb j) candidates

  is_in : (j : ℕ) → is_candidate j ≡ true → Mem j candidates
  is_in j e =
      let w = any_mem (eqb j) candidates e in
      subst (λ (i : ℕ). Mem i candidates) (sym (true_eq j w.0 w.2)) w.1

  in_is : (j : ℕ) → Mem j candidates → is_candidate j ≡ true
  in_is j m = mem_any (eqb j) candidates j m (eq_true j j refl)

  module _ (left : List ℕ)
      (rules : (o s k r : ℕ) → o < H → bit r (standing left o s k) ≡ true → r < n) where
    abbrev net : Net
    net = record { left = left; right = right; subjects = W }

    carried : ClosedUnderRules net is_candidate
    unfolding right_pair
    carried j k r e h b =
        let m = is_in j e in
        let w = opened j m in
        let p = parts j w in
        let l = rules (j / W) (j % W) k r (omega (arith, p.0, w.object-below)) b in
        in_is (turned (object_at r) (j / W) * W + turned (subject_at r) (j % W))
        (rw (p.0, p.1) (right_open j r w m l))

    module _ (need : List ℕ) (only : Only net (o₀ * W + s₀) need) where
      needed_in_lem : (j : ℕ) → used (get_or need j 0) ≡ true → Mem j candidates
      needed_in_lem j u = cases (is_candidate j)
          (λ e. is_in j e)
          (λ e. let x = get_or need j 0 in
          let z : x ≡ 0 = no_bits x x (power_above x) (λ k l.
          must_fail (is_candidate j) (bit k x) e (only is_candidate (in_is (o₀ * W + s₀) asked_candidate)
          carried j k)) in
          absurd (true≢false (sym u ∙ ap used z)))

      pub pairs-within : used_before need (length need)
          ≤ pairs_most (many (subject_only S O) n) (many (object_only S O) n) (many (named S O) n)
      pairs-within = omega (arith, used-few need candidates needed_in_lem, candidates_few)
