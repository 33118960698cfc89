-- The facts that those about an access can rest on: finitely many about accesses near it, at 0 and at the
-- marks (`keys`). A round looks at these only (`round-local`).
use Rattle.std.specs.Prelude.{◌≡◌, refl, Bool, true, false, ◌&&◌, List, ◌∷◌, map, ltb, eqb, length}
use Rattle.std.proofs.Common.{sym, ◌∙◌, inr, le_of_eq, mul_assoc}
use Rattle.std.proofs.Math.Path.{ap, subst}
use Prim.Native.Nat.{ℕ, ◌≤◌}
use Rattle.std.proofs.Math.Nat.{le_step}
use Rattle.std.proofs.Math.ListN.{length-append, length-map}
use Rattle.foundation.specs.Tests.{pick}
use Rattle.foundation.specs.Lists.{Mem, mem-map, combine, combine-length, in_combine, combine-mem}
use Rattle.foundation.specs.Intervals.{in_interval, always}
use Rattle.foundation.specs.Marks.{rep}
use Rattle.model.specs.declared.Rule.{Rule}
use Rattle.model.specs.declared.Access.{Access}
use Rattle.model.specs.Base.{Base}
use Rattle.model.specs.Stratification.{is_star, stratum}
use Rattle.model.specs.Rules.{Pattern, Fact, fact, right_of, enough}
use Rattle.model.proofs.RightFacts.{right_cong, operate_cong}
use Rattle.model.specs.Means.{all_marks}
use Rattle.model.proofs.HoldsSteady.{marks-length, rule_marks-length, Stead, holds_cong}
use Rattle.model.proofs.HoldsSteady.{holds_from, right_from, round_from}

abbrev access : ℕ → ℕ → ℕ → Access
access s m o = record { subject = s; mode = m; object = o }

module _ (base : Base) where
  -- n, and that number of every rule's right side
  abbrev numbers : (Rule → ℕ) → ℕ → List ℕ
  numbers f n = n ∷ map f base.rules

  abbrev subjects : Access → List ℕ
  subjects x = numbers (λ r. r.right.subject) x.subject

  abbrev modes : Access → List ℕ
  modes x = numbers (λ r. r.right.mode) x.mode

  abbrev objects : Access → List ℕ
  objects x = numbers (λ r. r.right.object) x.object

  -- y is an access that facts about x can rest on
  abbrev pub WithinKeys : Access → Access → Type 0
  WithinKeys x y = Mem y.subject (subjects x) × Mem y.mode (modes x) × Mem y.object (objects x)

  right_number : (f : Rule → ℕ) (n : ℕ) (r : Rule) → Mem r base.rules → Mem (f r) (numbers f n)
  right_number f n r m = inr (mem-map f base.rules r m)

  starred_number : (f : Rule → ℕ) (n k : ℕ) (r : Rule) → Mem r base.rules → Mem k (numbers f n) →
      Mem (pick (is_star (f r)) k (f r)) (numbers f n)
  starred_number f n k r m a = go (is_star (f r))
    where
      go : (b : Bool) → Mem (pick b k (f r)) (numbers f n)
      go true = a
      go false = right_number f n r m

  -- the right side of a rule leads to nothing that is not near
  right_near : (x y : Access) (r : Rule) → Mem r base.rules → WithinKeys x y →
      WithinKeys x (right_of r y).access
  unfolding right_of
  right_near x y r m a = (
    starred_number (λ r. r.right.subject) x.subject y.subject r m a.0,
    starred_number (λ r. r.right.mode) x.mode y.mode r m a.1,
    starred_number (λ r. r.right.object) x.object y.object r m a.2,
  )

  -- the accesses near x
  accesses : Access → List Access
  accesses x = combine (λ (f : ℕ → Access). f) (combine access (subjects x) (modes x)) (objects x)

  -- the facts about them, at 0 and at the marks
  pub keys : Access → List Fact
  unfolding accesses
  keys x = combine (λ (f : ℕ → Fact). f) (combine fact base.rules (accesses x)) (0 ∷ all_marks base)

  pub keys_enough : (x : Access) → length (keys x) ≤ enough always base
  unfolding keys
  keys_enough x = le_step (le_of_eq
      (simp (combine-length, length-map, length-append, marks-length, rule_marks-length, mul_assoc)))

  in_accesses : (x y : Access) → WithinKeys x y → Mem y (accesses x)
  unfolding accesses
  in_accesses x y a = in_combine (λ (f : ℕ → Access). f) (combine access (subjects x) (modes x)) (objects x)
      (access y.subject y.mode) y.object
      (in_combine access (subjects x) (modes x) y.subject y.mode a.0 a.1) a.2

  accesses_near : (x y : Access) → Mem y (accesses x) → WithinKeys x y
  unfolding accesses
  accesses_near x y m =
      let a = combine-mem (λ (f : ℕ → Access). f) (combine access (subjects x) (modes x)) (objects x) y m in
      let b = combine-mem access (subjects x) (modes x) a.0 a.2 in
      let e : y ≡ access b.0 b.1 a.1 = a.4 ∙ ap (λ (f : ℕ → Access). f a.1) b.4 in
      subst (WithinKeys x) (sym e) (b.2, b.3, a.3)

  pub in_keys : (x : Access) (r : Rule) (y : Access) (t : ℕ) → Mem r base.rules → WithinKeys x y →
      Mem t (0 ∷ all_marks base) →
      Mem (fact r y t) (keys x)
  unfolding keys
  in_keys x r y t m a n =
      in_combine (λ (f : ℕ → Fact). f) (combine fact base.rules (accesses x)) (0 ∷ all_marks base)
      (fact r y) t
      (in_combine fact base.rules (accesses x) r y m (in_accesses x y a)) n

  keys_near : (x : Access) (z : Fact) → Mem z (keys x) → Mem z.rule base.rules × WithinKeys x
      z.access
  unfolding keys
  keys_near x z m =
      let a = combine-mem (λ (f : ℕ → Fact). f) (combine fact base.rules (accesses x)) (0 ∷ all_marks base)
      z m in
      let b = combine-mem fact base.rules (accesses x) a.0 a.2 in
      let e : z ≡ fact b.0 b.1 a.1 = a.4 ∙ ap (λ (f : ℕ → Fact). f a.1) b.4 in
      subst (λ (z : Fact). Mem z.rule base.rules × WithinKeys x z.access) (sym e)
      (b.2, accesses_near x b.1 b.3)

  -- two steady sets that agree on the keys of x agree on all that facts about x can rest on
  module _ (x : Access) (S Q : Fact → Bool) (c : Stead base S) (d : Stead base Q)
      (h : (z : Fact) → Mem z (keys x) → S z ≡ Q z) where
    everywhere : (r : Rule) (y : Access) (u : ℕ) → Mem r base.rules → WithinKeys x y →
        S (fact r y u) ≡ Q (fact r y u)
    everywhere r y u m n =
        let a = rep (all_marks base) u in
        c r m y a.0 u a.2 a.3
        ∙ h (fact r y a.0) (in_keys x r y a.0 m n a.1)
        ∙ sym (d r m y a.0 u a.2 a.3)

    right_local : (L : Fact → Bool) (p : Pattern) → WithinKeys x p.access → (u : ℕ) →
        right_from base L S p u ≡ right_from base L Q p u
    right_local L p n u = right_cong (holds_from base S u) (holds_from base Q u)
        (holds_from base L u) (holds_from base L u) p
        (λ q e. holds_cong base S Q u u q refl
        (λ r m. everywhere r q.access u m (subst (WithinKeys x) (sym e) n)))
        (λ q e. refl)

    pub round_local : (k : ℕ) (L : Fact → Bool) (z : Fact) → Mem z (keys x) →
        round_from base k L S z ≡ round_from base k L Q z
    round_local k L z m =
        let a = keys_near x z m in
        let r = z.rule in
        let p = right_of r z.access in
        let n = stratum base.rules r in
        ap (λ (v : Bool). pick (ltb n k) (L z) (eqb n k && (in_interval r.interval z.at && v)))
        (operate_cong (right_from base L S p) (right_from base L Q p) (right_from base L L p)
        (right_local L p (right_near x z.access r a.0 a.1))
        r.operator r.interval.start z.at)
