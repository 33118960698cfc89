-- The ledger's entries and the authorizations that are their maximal intervals: the same instants, kept
-- alike.
use Rattle.std.specs.Prelude.{◌≡◌, refl, ℕ, ◌≤◌, Bool, true, ◌&&◌, List, [], ◌∷◌, ◌++◌}
use Rattle.std.proofs.Common.{sym, ap, ap₂, ◌∙◌, inl, inr, arith, append_assoc}
use Rattle.std.proofs.Math.Path.{fun_ext}
use Rattle.foundation.specs.Tests.{cases, and-true, and-false, or_false}
use Rattle.foundation.specs.Lists.{Mem}
use Rattle.foundation.specs.declared.Interval.{Interval}
use Rattle.foundation.specs.Intervals.{interval, in_interval, in_interval_in, in_interval-true}
use Rattle.foundation.specs.Intervals.{maximal, maximal_separate, maximal_covered, maximal_unique}
use Rattle.model.specs.declared.Head.{Head}
use Rattle.model.specs.declared.Authorization.{Authorization}
use Rattle.model.specs.Ranges.{last_instant}
use Rattle.model.specs.Support.{supported, live}
use Rattle.model.specs.Withdrawal.{authorization, pieces, keep, restrict}
use Rattle.model.proofs.SupportFacts.{live_append}
use Rattle.model.specs.Ledger.{Entry, entry, standing_heads, keep_entries, settle, lines_of}
use Rattle.laws.specs.KeepFacts.{live-pieces}
use Rattle.laws.specs.Refinement.{refine_maximal, keep_append, keep-pieces}

-- no entry has an instant behind the last
abbrev pub WithinLast : List Entry → Type 0
WithinLast [] = Unit {0}
WithinLast (e ∷ es) = ((t : ℕ) → e.at t ≡ true → t ≤ last_instant) × WithinLast es

pub within-keep : (p : Head → ℕ → Bool) (es : List Entry) → WithinLast es → WithinLast (keep_entries p es)
within-keep p [] f = tt
within-keep p (e ∷ es) f = (
  (λ t h. f.0 t (and-true (e.at t) (p e.head t) h).0),
  within-keep p es f.1,
)

pub within_append : (xs ys : List Entry) → WithinLast xs → WithinLast ys → WithinLast (xs ++ ys)
within_append [] ys f g = g
within_append (x ∷ xs) ys f g = (f.0, within_append xs ys f.1 g)

-- ---- what stands at t, by authorizations and by entries

-- where a test passes at no instant behind the last, to ask for one up to the last changes nothing
up_to-last : (f : ℕ → Bool) → ((t : ℕ) → f t ≡ true → t ≤ last_instant) → (t : ℕ) →
    in_interval (interval 0 last_instant) t && f t ≡ f t
up_to-last f h t = cases (f t)
    (λ e. rw (e, in_interval_in (interval 0 last_instant) t (omega arith) (h t e)))
    (λ e. rw e (and-false (in_interval (interval 0 last_instant) t)))

pub live-lines : (es : List Entry) → WithinLast es → (t : ℕ) → live t (lines_of es) ≡ standing_heads t es
unfolding lines_of
live-lines [] f t = refl
live-lines (e ∷ es) f t =
    let runs = maximal 0 last_instant e.at in
    live_append t (pieces e.head runs) (lines_of es)
    ∙ rw (
      live-pieces t e.head runs 0 (maximal_separate 0 last_instant e.at),
      maximal_covered 0 last_instant e.at t,
      up_to-last e.at f.0 t,
      live-lines es f.1 t,
    )
    (cases (e.at t) (λ p. rw p) (λ p. rw p))

-- ---- keeping, by authorizations and by entries

-- what is kept of the authorizations is what is kept of the entries
pub keep-lines : (p : Head → ℕ → Bool) (es : List Entry) → keep p (lines_of es) ≡ lines_of (keep_entries p es)
unfolding lines_of keep
keep-lines p [] = refl
keep-lines p (e ∷ es) =
    keep_append p (pieces e.head (maximal 0 last_instant e.at)) (lines_of es)
    ∙ ap₂ (λ (a b : List Authorization). a ++ b)
    (keep-pieces p e.head (maximal 0 last_instant e.at)
    ∙ ap (λ (is : List Interval). pieces e.head is) (refine_maximal 0 last_instant e.at (p e.head)))
    (keep-lines p es)

-- restricting the authorizations is settling the entries
pub restrict-settle : (root : Head → Bool) (es : List Entry) → WithinLast es →
    restrict root (λ h. true) (lines_of es) ≡ lines_of (settle root es)
unfolding restrict
restrict-settle root es f =
    ap (λ (p : Head → ℕ → Bool). keep p (lines_of es))
    (fun_ext (λ h. fun_ext (λ t. ap (λ (hs : List Head). supported root hs h) (live-lines es f t))))
    ∙ keep-lines (λ h t. supported root (standing_heads t es) h) es

-- ---- nothing is lost where all is kept

-- a test that every instant passes keeps the entries as they are
pub keep_all : (p : Head → ℕ → Bool) (es : List Entry) →
    ((t : ℕ) (h : Head) → Mem h (standing_heads t es) → p h t ≡ true) →
    keep_entries p es ≡ es
keep_all p [] h = refl
keep_all p (e ∷ es) h = ap₂ {C = List Entry} (λ (x : Entry) (xs : List Entry). x ∷ xs)
    (λ i. entry e.head (fun_ext stays i))
    (keep_all p es (λ t k m. h t k (later t k m)))
  where
    later : (t : ℕ) (k : Head) → Mem k (standing_heads t es) → Mem k (standing_heads t (e ∷ es))
    later t k m = cases (e.at t) (λ a. rw a (inr m)) (λ a. rw a m)

    here : (t : ℕ) → e.at t ≡ true → Mem e.head (standing_heads t (e ∷ es))
    here t a = rw a (inl refl)

    stays : (t : ℕ) → e.at t && p e.head t ≡ e.at t
    stays t = cases (e.at t) (λ a. rw (a, h t e.head (here t a))) (λ a. rw a)

-- ---- one entry more

pub lines_of_append : (xs ys : List Entry) → lines_of (xs ++ ys) ≡ lines_of xs ++ lines_of ys
unfolding lines_of
lines_of_append [] ys = refl
lines_of_append (x ∷ xs) ys =
    let front = pieces x.head (maximal 0 last_instant x.at) in
    ap (λ (l : List Authorization). front ++ l) (lines_of_append xs ys)
    ∙ sym (append_assoc front (lines_of xs) (lines_of ys))

-- an interval's entry is one authorization
pub lines_of_one : (h : Head) (i : Interval) → i.start ≤ i.end → i.end ≤ last_instant →
    lines_of (entry h (in_interval i) ∷ []) ≡ authorization h i ∷ []
unfolding lines_of
lines_of_one h i up fit =
    ap (λ (is : List Interval). pieces h is ++ [])
    (sym (maximal_unique 0 last_instant (in_interval i) 0 (i ∷ []) (omega arith, up, tt)
    (λ t. or_false (in_interval i t)
    ∙ sym (up_to-last (in_interval i) (λ u e. let w = in_interval-true i u e in omega arith) t))))
