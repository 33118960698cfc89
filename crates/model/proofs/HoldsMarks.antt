-- Theorem 5: MAY changes at marks only (`may-steady`), so that asking at marks gives the definition's answers
-- (`may-marks`, `when-marks`) and WHEN writes at most one interval more than there are authorizations and
-- rules (`when-count`).
use Rattle.std.specs.Prelude.{◌≡◌, Bool, true, false, not, ◌&&◌, List, ltb, eqb}
use Rattle.std.proofs.Math.Path.{refl, fun_ext}
use Rattle.std.proofs.Common.{sym, ap, ap₂, ◌∙◌, arith, length-append}
use Prim.Native.Nat.{ℕ, zero, suc, ◌+◌, ◌*◌, ◌≤◌}
use Rattle.std.proofs.Math.ListN.{length}
use Rattle.foundation.specs.Tests.{pick}
use Rattle.foundation.specs.Lists.{Mem}
use Rattle.foundation.specs.Closure.{iter}
use Rattle.foundation.specs.Intervals.{in_interval, none?, always}
use Rattle.foundation.specs.Marks.{Steady, not_steady, walk, walk_maximal}
use Rattle.foundation.specs.MaximalCount.{maximal_count}
use Rattle.model.specs.declared.Operator.{Operator}
use Rattle.model.specs.declared.Operator.TheVariants.{Whenever, AsLongAs, WheneverNot, Unless}
use Rattle.model.specs.declared.Access.{Access}
use Rattle.model.specs.Ranges.{last_instant}
use Rattle.model.specs.Base.{Base}
use Rattle.model.specs.Stratification.{stratum}
use Rattle.model.specs.Rules.{Pattern, Fact, fact, right_of, operate, holds_by, right_by, round, enough}
use Rattle.model.specs.Rules.{derived_below, holds, asked, may, when}
use Rattle.model.specs.Means.{marks_of, rule_marks, all_marks}
use Rattle.model.specs.Questions.{always_at, may_at_marks, when_at_marks}
use Rattle.model.proofs.RightFacts.{right_cong}
use Rattle.model.proofs.HoldsSteady.{marks-length, rule_marks-length, Stead, holds_cong, holds_steady}
use Rattle.model.proofs.HoldsSteady.{right_from, below, right_by_steady}
use Rattle.model.proofs.HoldsFacts.{rounds, rounds_steady, below_steady}

-- ---- `always` at marks

always_at_lem : (n : ℕ) (ms : List ℕ) (a t : ℕ) (f : ℕ → Bool) → Steady f ms → always a t f ≡ always_at n ms a t f
unfolding always always_at
always_at_lem n ms a t f c = ap none? (sym (walk_maximal (λ u. not (f u)) ms (not_steady ms f c) t n a))

operate_at : (n : ℕ) (ms : List ℕ) (o : Operator) (f g : ℕ → Bool) → Steady f ms → Steady g ms → (a t : ℕ) →
    operate always o f g a t ≡ operate (always_at n ms) o f g a t
operate_at n ms Whenever f g c d a t = refl
operate_at n ms AsLongAs f g c d a t = always_at_lem n ms a t f c
operate_at n ms WheneverNot f g c d a t = refl
operate_at n ms Unless f g c d a t = always_at_lem n ms a t (λ u. not (g u)) (not_steady ms g d)

-- ---- what holds, at marks

module _ (n : ℕ) (base : Base) where
  abbrev at : ℕ → ℕ → (ℕ → Bool) → Bool
  at = always_at n (all_marks base)

  -- the definitions for this base, in short: plainly, and at marks
  abbrev right_at : (Fact → Bool) → (Fact → Bool) → Pattern → ℕ → Bool
  right_at = right_by at base

  abbrev below_at : ℕ → Fact → Bool
  below_at = derived_below at base

  abbrev rounds_at : ℕ → ℕ → Fact → Bool
  rounds_at k j = iter (λ S. round at base k (below_at k) S) j (below_at k)

  -- the same about the rules at hand
  abbrev Agree : (Fact → Bool) → (Fact → Bool) → Type 0
  Agree S Q = (x : Fact) → Mem x.rule base.rules → S x ≡ Q x

  holds_agree : (S Q : Fact → Bool) → Agree S Q → (t : ℕ) (p : Pattern) →
      holds_by always base S t p ≡ holds_by at base Q t p
  holds_agree S Q h t p = holds_cong base S Q t t p refl (λ r m. h (fact r p.access t) m)

  right_agree : (L L' S S' : Fact → Bool) → Agree L L' → Agree S S' → (p : Pattern) →
      right_from base L S p ≡ right_at L' S' p
  right_agree L L' S S' h k p = fun_ext (λ u. right_cong
      (holds_by always base S u) (holds_by at base S' u)
      (holds_by always base L u) (holds_by at base L' u) p
      (λ q e. holds_agree S S' k u q) (λ q e. holds_agree L L' h u q))

  round_agree : (k : ℕ) (L L' S S' : Fact → Bool) → Stead base L → Stead base S →
      Agree L L' → Agree S S' → Agree (round always base k L S) (round at base k L' S')
  round_agree k L L' S S' c d g h x m =
      let r = x.rule in
      let p = right_of r x.access in
      let i = stratum base.rules r in
      ap₂ (λ (l v : Bool). pick (ltb i k) l (eqb i k && (in_interval r.interval x.at && v))) (g x m)
      (operate_at n (all_marks base) r.operator (right_from base L S p) (right_from base L L p)
      (right_by_steady base L S c d p) (right_by_steady base L L c c p) r.interval.start x.at
      ∙ ap₂ (λ (same lower : ℕ → Bool). operate at r.operator same lower r.interval.start x.at)
      (right_agree L L' S S' g h p) (right_agree L L' L L' g g p))

  rounds_agree : (k : ℕ) → Agree (below base k) (below_at k) → (j : ℕ) → Agree (rounds base k j) (rounds_at k j)
  unfolding iter
  rounds_agree k h zero = h
  rounds_agree k h (suc j) = round_agree k (below base k) (below_at k) (rounds base k j) (rounds_at k j)
      (below_steady base k) (rounds_steady base k j) h (rounds_agree k h j)

  below_agree : (k : ℕ) → Agree (below base k) (below_at k)
  unfolding derived_below
  below_agree zero = λ x m. refl
  below_agree (suc k) = rounds_agree k (below_agree k) (enough always base)

  holds_at : (t : ℕ) (p : Pattern) → holds always base t p ≡ holds at base t p
  unfolding holds
  holds_at t p =
      let k = suc (2 * length base.rules) in holds_agree (below base k) (below_at k) (below_agree k) t p

-- ---- MAY and WHEN

pub may_steady : (b : Base) (x : Access) → Steady (λ t. may b x t) (all_marks b)
unfolding may holds
may_steady b x a t h e = ap₂ (λ (y z : Bool). y && not z) (same false) (same true)
  where
    k : ℕ
    k = suc (2 * length b.rules)

    same : (negative : Bool) → holds always b t (asked x negative) ≡ holds always b a (asked x negative)
    same negative = holds_steady b (derived_below always b k) (below_steady b k) (asked x negative) a t h e

pub may-marks : (n : ℕ) (b : Base) (x : Access) (t : ℕ) → may b x t ≡ may_at_marks n b x t
unfolding may may_at_marks
may-marks n b x t =
    ap₂ (λ (y z : Bool). y && not z) (holds_at n b t (asked x false)) (holds_at n b t (asked x true))

pub when-marks : (n : ℕ) (b : Base) (x : Access) → when b x ≡ when_at_marks n b x
unfolding when when_at_marks
when-marks n b x = sym (walk_maximal (λ t. may b x t) (all_marks b) (may_steady b x) last_instant n 0)
    ∙ ap (λ (f : ℕ → Bool). walk f (all_marks b) last_instant n 0) (fun_ext (λ t. may-marks n b x t))

pub all_marks-length : (b : Base) → length (all_marks b)
    ≡ 2 * length b.authorizations + 2 * length b.rules
all_marks-length b = length-append (marks_of b.authorizations) (rule_marks b.rules)
    ∙ ap₂ (λ (i j : ℕ). i + j) (marks-length b.authorizations) (rule_marks-length b.rules)

-- An interval begins and ends at marks, and no two share one. With 01's 1,024 authorizations and 64 rules
-- there are at most 1,089
pub when-count : (b : Base) (x : Access) → length (when b x) ≤ length b.authorizations + length
    b.rules + 1
unfolding when
when-count b x =
    omega (
      arith,
      maximal_count (λ t. may b x t) (all_marks b) (may_steady b x) last_instant,
      all_marks-length b,
    )
