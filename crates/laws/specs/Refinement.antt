-- Intervals replaced by the maximal ones in them where a test holds (`refine`): of maximal intervals that
-- gives the maximal ones of both tests (`refine-maximal`), and it is what keeping does to the pieces of an
-- authorization (`keep-pieces`).
use Rattle.std.specs.Prelude.{◌≡◌, refl, ℕ, suc, ◌≤◌, Bool, true, ◌&&◌, ◌||◌, List, [], ◌∷◌, ◌++◌}
use Rattle.std.proofs.Common.{sym, ap, ◌∙◌, arith, append_assoc}
use Rattle.std.proofs.lemmas.List.{map-append}
use Rattle.foundation.specs.Tests.{cases, and-true, and_assoc, or_true_right, or_intro_left, or_and}
use Rattle.foundation.specs.declared.Interval.{Interval}
use Rattle.foundation.specs.Intervals.{interval, in_interval, in_interval_in, in_interval-true, covered}
use Rattle.foundation.specs.Intervals.{Separate, separate_weaken, maximal, maximal_separate, maximal_covered}
use Rattle.foundation.specs.Intervals.{maximal_unique}
use Rattle.model.specs.declared.Head.{Head}
use Rattle.model.specs.declared.Authorization.{Authorization}
use Rattle.model.specs.Withdrawal.{authorization, pieces, keep}

-- ---- intervals

-- intervals that end by b, and then intervals from b + 2 on
pub separate_append : (xs ys : List Interval) (k b : ℕ) → Separate k xs →
    ((t : ℕ) → covered xs t ≡ true → t ≤ b) →
    k ≤ suc (suc b) → Separate (suc (suc b)) ys → Separate k (xs ++ ys)
separate_append [] ys k b a h l c = separate_weaken ys k (suc (suc b)) l c
separate_append (x ∷ xs) ys k b a h l c =
    let u : x.end ≤ b = h x.end
    (or_intro_left (in_interval x x.end) (covered xs x.end)
    (in_interval_in x x.end a.1 (omega arith))) in (
      a.0,
      a.1,
      separate_append xs ys (suc (suc x.end)) b a.2
          (λ t e. h t (or_true_right (in_interval x t) (covered xs t) e)) (omega arith) c,
    )

pub covered_append : (xs ys : List Interval) (t : ℕ) → covered (xs ++ ys) t ≡ covered xs t || covered ys t
covered_append [] ys t = refl
covered_append (x ∷ xs) ys t = cases (in_interval x t) (λ e. rw e) (λ e. rw (e, covered_append xs ys t))

-- each interval replaced by the maximal ones in it where p holds
abbrev pub refine : (ℕ → Bool) → List Interval → List Interval
refine p [] = []
refine p (i ∷ is) = maximal i.start i.end p ++ refine p is

refine_separate : (p : ℕ → Bool) (is : List Interval) (k : ℕ) → Separate k is → Separate k (refine p is)
refine_separate p [] k a = tt
refine_separate p (i ∷ is) k a =
    separate_weaken (maximal i.start i.end p ++ refine p is) k i.start a.0
    (separate_append (maximal i.start i.end p) (refine p is) i.start i.end
    (maximal_separate i.start i.end p)
    (λ t e. (in_interval-true i t
    (and-true (in_interval i t) (p t) (sym (maximal_covered i.start i.end p t) ∙ e)).0).1)
    (omega (arith, a.1)) (refine_separate p is (suc (suc i.end)) a.2))

refine-covered : (p : ℕ → Bool) (is : List Interval) (t : ℕ) → covered (refine p is) t ≡ covered is t && p t
refine-covered p [] t = refl
refine-covered p (i ∷ is) t =
    covered_append (maximal i.start i.end p) (refine p is) t
    ∙ rw (maximal_covered i.start i.end p t, refine-covered p is t)
    (or_and (in_interval i t) (covered is t) (p t))

pub refine_maximal : (a e : ℕ) (f p : ℕ → Bool) → refine p (maximal a e f) ≡ maximal a e (λ t. f t && p t)
refine_maximal a e f p =
    maximal_unique a e (λ t. f t && p t) a (refine p (maximal a e f))
    (refine_separate p (maximal a e f) a (maximal_separate a e f))
    (λ t. refine-covered p (maximal a e f) t
    ∙ rw (maximal_covered a e f t) (and_assoc (in_interval (interval a e) t) (f t) (p t)))

-- ---- keeping

pub keep_append : (p : Head → ℕ → Bool) (xs ys : List Authorization) →
    keep p (xs ++ ys) ≡ keep p xs ++ keep p ys
unfolding keep
keep_append p [] ys = refl
keep_append p (x ∷ xs) ys =
    let front = pieces x.head (maximal x.interval.start x.interval.end (p x.head)) in
    ap (λ (l : List Authorization). front ++ l) (keep_append p xs ys)
    ∙ sym (append_assoc front (keep p xs) (keep p ys))

pub keep-pieces : (p : Head → ℕ → Bool) (h : Head) (is : List Interval) →
    keep p (pieces h is) ≡ pieces h (refine (p h) is)
unfolding keep
keep-pieces p h [] = refl
keep-pieces p h (i ∷ is) =
    ap (λ (l : List Authorization). pieces h (maximal i.start i.end (p h)) ++ l) (keep-pieces p h is)
    ∙ sym (map-append (authorization h) (maximal i.start i.end (p h)) (refine (p h) is))
