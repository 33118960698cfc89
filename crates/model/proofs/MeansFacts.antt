-- The two readings agree: what is found at marks is the definition's (`same-means`, `same-questions`), and so
-- is the outcome of a request (`step-marks`), for every fuel.
use Rattle.std.specs.Prelude.{◌≡◌, refl, ℕ, Bool, not, ◌||◌, List, [], ◌∷◌}
use Rattle.std.proofs.Common.{sym, ap}
use Rattle.std.proofs.Math.Path.{fun_ext}
use Rattle.foundation.specs.Lists.{anyb}
use Rattle.foundation.specs.declared.Interval.{Interval}
use Rattle.foundation.specs.Marks.{Steady, not_steady, walk_maximal}
use Rattle.model.specs.declared.Head.{Head}
use Rattle.model.specs.declared.Authorization.{Authorization}
use Rattle.model.specs.declared.Request.{Request}
use Rattle.model.specs.Base.{Base}
use Rattle.model.specs.Support.{supports, supported, live, covered_for, gaps}
use Rattle.model.specs.Withdrawal.{keep, restrict}
use Rattle.model.specs.Requests.{takes, leave}
use Rattle.model.specs.Means.{Means, plainly, at_marks, boundaries, marks_of, keep_at, leave_at, restrict_at}
use Rattle.model.specs.Means.{gaps_at}
use Rattle.model.specs.Questions.{as_defined, read_at_marks}
use Rattle.model.specs.Step.{step_by, step}
use Rattle.model.specs.SupportMarks.{interval_steady, live_steady, supported_steady}
use Rattle.model.proofs.HoldsMarks.{may-marks, when-marks}

-- ---- withdrawals

keep-marks : (n : ℕ) (marks : List ℕ) (p : Head → ℕ → Bool) → ((h : Head) → Steady (p h) marks) →
    (xs : List Authorization) → keep p xs ≡ keep_at n marks p xs
unfolding keep keep_at
keep-marks n marks p c [] = refl
keep-marks n marks p c (x ∷ xs) =
    rw (
      walk_maximal (p x.head) marks (c x.head) x.interval.end n x.interval.start,
      keep-marks n marks p c xs,
    )

-- what a request takes changes at the boundaries of its interval only, whatever its kind
takes_steady : (q : Request) (h : Head) → Steady (takes q h) (boundaries q.interval)
unfolding takes
takes_steady q h a t l e = rw (interval_steady q.interval a t l e)

pub leave-marks : (n : ℕ) (q : Request) (xs : List Authorization) → leave q xs ≡ leave_at n q xs
unfolding leave leave_at
leave-marks n q xs = keep-marks n (boundaries q.interval) (λ h t. not (takes q h t))
    (λ h. not_steady (boundaries q.interval) (takes q h) (takes_steady q h)) xs

pub restrict-marks : (n : ℕ) (root affected : Head → Bool) (xs : List Authorization) →
    restrict root affected xs ≡ restrict_at n root affected xs
unfolding restrict restrict_at
restrict-marks n root affected xs =
    keep-marks n (marks_of xs) (λ h t. not (affected h) || supported root (live t xs) h)
    (λ h a t l e. ap (λ (b : Bool). not (affected h) || b) (supported_steady root xs h a t l e)) xs

-- ---- cover

covered_steady : (xs : List Authorization) (h : Head) → Steady (covered_for xs h) (marks_of xs)
unfolding covered_for
covered_steady xs h a t l e = ap (λ (hs : List Head). anyb (λ k. supports k h) hs) (live_steady xs a t l e)

pub gaps-marks : (n : ℕ) (xs : List Authorization) (h : Head) (i : Interval) → gaps xs h i ≡ gaps_at n xs h i
unfolding gaps gaps_at
gaps-marks n xs h i = sym (walk_maximal (λ t. not (covered_for xs h t)) (marks_of xs)
    (not_steady (marks_of xs) (covered_for xs h) (covered_steady xs h)) i.end n i.start)

-- ---- all of them

pub same_means : (n : ℕ) → plainly ≡ at_marks n
same_means n = λ i. record {
  left = fun_ext (λ q. fun_ext (λ xs. leave-marks n q xs)) i;
  restricted = fun_ext (λ root. fun_ext (λ affected. fun_ext (λ xs. restrict-marks n root affected xs))) i;
  uncovered = fun_ext (λ xs. fun_ext (λ h. fun_ext (λ j. gaps-marks n xs h j))) i;
}

pub same_questions : (n : ℕ) → as_defined ≡ read_at_marks n
same_questions n = λ i. record {
  may_at = fun_ext (λ b. fun_ext (λ x. fun_ext (λ t. may-marks n b x t))) i;
  when_in = fun_ext (λ b. fun_ext (λ x. when-marks n b x)) i;
}

pub step-marks : (n : ℕ) (b : Base) (q : Request) → step b q ≡ step_by (at_marks n) b q
unfolding step
step-marks n b q = ap (λ (M : Means). step_by M b q) (same_means n)
