-- The next mark is the least instant above the given one at which an authorization or a rule starts, or
-- directly after the end of one, and there is none exactly if no such instant is left (`NextMark`,
-- `next-mark`).
use Rattle.std.specs.Prelude.{◌≡◌, refl, ◌⊎◌, ◌↔◌, ℕ, suc, ◌≤◌, ◌<◌, true, List, [], ◌∷◌, ◌++◌, ltb}
use Rattle.std.proofs.Common.{ap, inl, inr, arith}
use Rattle.foundation.specs.Tests.{cases, true-le, false-le}
use Rattle.foundation.specs.Lists.{Mem, mem_left, mem_right, append_mem, each, mem-each, each-mem}
use Rattle.foundation.specs.declared.Interval.{Interval}
use Rattle.foundation.specs.Marks.{next, MarkOrNone, next_least, next_is, next_none}
use Rattle.model.specs.declared.Authorization.{Authorization}
use Rattle.model.specs.declared.Rule.{Rule}
use Rattle.model.specs.Base.{Base}
use Rattle.model.specs.Soundness.{sound}
use Rattle.model.specs.FitsFacts.{IntervalFits, base-fits}
use Rattle.model.specs.Means.{boundaries, marks_of, rule_marks, marks}

-- m is the start of the interval, or the instant directly after its end
abbrev pub IsEdge : Interval → ℕ → Type 0
IsEdge i m = (m ≡ i.start) ⊎ (m ≡ suc i.end)

-- something can change at m: an authorization or a rule starts there, or ended right before
abbrev pub CanChangeAt : List Authorization → List Rule → ℕ → Type 0
CanChangeAt auths rules m =
    ((a : Authorization) × Mem a auths × IsEdge a.interval m) ⊎
    ((r : Rule) × Mem r rules × IsEdge r.interval m)

marks-each : (xs : List Authorization) → marks_of xs ≡ each xs (λ x. boundaries x.interval)
marks-each [] = refl
marks-each (x ∷ xs) = ap (λ (ms : List ℕ). boundaries x.interval ++ ms) (marks-each xs)

rule_marks-each : (rs : List Rule) → rule_marks rs ≡ each rs (λ r. boundaries r.interval)
rule_marks-each [] = refl
rule_marks-each (r ∷ rs) = ap (λ (ms : List ℕ). boundaries r.interval ++ ms) (rule_marks-each rs)

-- the boundaries of things that have an interval
module _ {A : Type 0} (interval : A → Interval) (xs : List A) (m : ℕ) where
  one_bound : (i : Interval) → Mem m (boundaries i) → IsEdge i m
  one_bound i (inl e) = inl e
  one_bound i (inr (inl e)) = inr e
  one_bound i (inr (inr n)) = absurd n.lower

  bound_one : (i : Interval) → IsEdge i m → Mem m (boundaries i)
  bound_one i (inl e) = inl e
  bound_one i (inr e) = inr (inl e)

  each-bound : Mem m (each xs (λ x. boundaries (interval x))) → (x : A) × Mem x xs × IsEdge (interval x) m
  each-bound k =
      let w = each-mem xs (λ x. boundaries (interval x)) m k in
      (w.0, w.1, one_bound (interval w.0) w.2)

  bound-each : ((x : A) × Mem x xs × IsEdge (interval x) m) → Mem m (each xs (λ x. boundaries (interval x)))
  bound-each w = mem-each xs (λ x. boundaries (interval x)) w.0 m w.1
      (bound_one (interval w.0) w.2)

module _ (auths : List Authorization) (rules : List Rule) where
  -- the marks are the instants at which something can change
  pub mark-turns : (m : ℕ) → Mem m (marks auths rules) ↔ CanChangeAt auths rules m
  mark-turns m = ((λ k. there (append_mem m (marks_of auths) (rule_marks rules) k)), back)
    where
      there : Mem m (marks_of auths) ⊎ Mem m (rule_marks rules) → CanChangeAt auths rules m
      there (inl k) = inl (each-bound (λ a. a.interval) auths m (rw marks-each at k))
      there (inr k) = inr (each-bound (λ r. r.interval) rules m (rw rule_marks-each at k))

      back : CanChangeAt auths rules m → Mem m (marks auths rules)
      back (inl w) = mem_left m (marks_of auths) (rule_marks rules)
          (rw marks-each (bound-each (λ a. a.interval) auths m w))
      back (inr w) = mem_right m (marks_of auths) (rule_marks rules)
          (rw rule_marks-each (bound-each (λ r. r.interval) rules m w))

  -- an instant above t at which something can change
  abbrev pub Ahead : ℕ → ℕ → Type 0
  Ahead t m = CanChangeAt auths rules m × (t < m) × (m < 4294967296)

  -- 02, "Marks without a list": "the least instant above a given one at which a line or rule starts, or
  -- directly after the end of one, and none exactly if there is none". m is the mark found above t; 2^32
  -- stands for none
  pub record NextMark (t m : ℕ) : Type 0 where
    pub found : m < 4294967296 → Ahead t m
    pub least : (k : ℕ) → Ahead t k → m ≤ k
    pub none : (m ≡ 4294967296) ↔ ((k : ℕ) → Ahead t k → ⊥)

  pub next_mark : (t : ℕ) → NextMark t (next t (marks auths rules) 4294967296)
  next_mark t =
      let ms = marks auths rules in
      let none = next_none t 4294967296 ms in
      record {
        found = λ h. there h (next_is t 4294967296 ms);
        least = λ k w. next_least t 4294967296 ms k ((mark-turns k).1 w.0) w.1 w.2;
        none = (
          (λ e k w. none.0 e k ((mark-turns k).1 w.0) w.1 w.2),
          (λ f. none.1 (λ k i h l. f k ((mark-turns k).0 i, h, l))),
        );
      }
    where
      there : {m : ℕ} → m < 4294967296 → MarkOrNone t 4294967296 (marks auths rules) m → Ahead t m
      there h (inl e) = absurd (omega arith)
      there h (inr w) = ((mark-turns _).0 w.0, w.1, w.2)

  -- no other number is the mark found
  pub next_mark-only : {t m k : ℕ} → NextMark t m → NextMark t k → m ≡ k
  next_mark-only {t} p q = omega (arith, not-above p q, not-above q p)
    where
      bounded : {m : ℕ} → NextMark t m → m ≤ 4294967296
      bounded {m} p = cases (ltb 4294967296 m)
          (λ e. let h = true-le 4294967297 m e in
          omega (arith, p.none.1 (λ k w. omega (arith, p.least k w, w.2))))
          (λ e. omega (arith, false-le 4294967297 m e))

      not-above : {m k : ℕ} → NextMark t m → NextMark t k → m ≤ k
      not-above {m} {k} p q = cases (ltb k 4294967296)
          (λ e. p.least k (q.found (true-le (suc k) 4294967296 e)))
          (λ e. omega (arith, bounded p, false-le (suc k) 4294967296 e))

-- In a sound base nothing changes behind 2^32, so that only what ends with the last instant has no mark
-- behind it
pub turns_until : (b : Base) → sound b ≡ true → (m : ℕ) → CanChangeAt b.authorizations b.rules m →
    m ≤ 4294967296
turns_until b e m w = until w
  where
    within : (i : Interval) → IntervalFits i → IsEdge i m → m ≤ 4294967296
    within i f (inl q) = omega (arith, f.start)
    within i f (inr q) = omega (arith, f.end)

    until : CanChangeAt b.authorizations b.rules m → m ≤ 4294967296
    until (inl w) = within w.0.interval ((base-fits b e).authorizations w.0 w.1).interval w.2
    until (inr w) = within w.0.interval ((base-fits b e).rules w.0 w.1).interval w.2
