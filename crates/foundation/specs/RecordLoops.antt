-- A loop over n records that answers at the first that fails, or passes, or that asks all of them: what its
-- start, a turn and its end show. `r` is what the test answered of the record x that was read. The sets
-- `any-loop`, `all-loop` and `found-loop` prove such a loop whole by `search`, once its invariant is given,
-- whatever the records, their width and the test.
use Rattle.std.proofs.Common.{rules, sym, ap, ◌∙◌}
use Rattle.std.proofs.lemmas.Bool.{not-true, not-false}
use Rattle.std.specs.Prelude.{◌≡◌, refl, Bool, true, false, ◌||◌, List, ℕ, ◌+◌, ◌*◌, ◌≤◌, ◌<◌, drop}
use Rattle.foundation.specs.Tests.{or_false, or_assoc}
use Rattle.foundation.specs.Lists.{anyb, allb}
use Rattle.foundation.specs.Bytes.{records}
use Rattle.foundation.specs.ByteRecords.{rest, rest_all, rest_end, all_step, any_step}

-- the test of records that are read as answers
abbrev pub itself : Bool → Bool
itself x = x

module _ {R : Type 0} (w : ℕ) (f : List ℕ → R) where
  module _ (p : R → Bool) (n : ℕ) (s : List ℕ) where
    -- every record passes
    abbrev pub AllFrom : ℕ → Type 0
    AllFrom i = (i ≤ n) × (allb p (records w f n s) ≡ allb p (rest w f n s i))

    pub all_starts : allb p (records w f n s) ≡ allb p (rest w f n s 0)
    all_starts = sym (ap (allb p) (rest_all w f n s))

    pub all_ends : (i : ℕ) → n ≤ i → AllFrom i → true ≡ allb p (records w f n s)
    all_ends i h v = sym (v.1 ∙ ap (allb p) (rest_end w f n s i h))

    -- some record passes
    abbrev pub AnyFrom : ℕ → Type 0
    AnyFrom i = (i ≤ n) × (anyb p (records w f n s) ≡ anyb p (rest w f n s i))

    pub any_starts : anyb p (records w f n s) ≡ anyb p (rest w f n s 0)
    any_starts = sym (ap (anyb p) (rest_all w f n s))

    pub any_ends : (i : ℕ) → n ≤ i → AnyFrom i → false ≡ anyb p (records w f n s)
    any_ends i h v = sym (v.1 ∙ ap (anyb p) (rest_end w f n s i h))

    -- some record passes, one that was asked or one of the rest
    abbrev pub FoundFrom : Bool → ℕ → Type 0
    FoundFrom found i = (i ≤ n) × (anyb p (records w f n s) ≡ found || anyb p (rest w f n s i))

    pub found-starts : anyb p (records w f n s) ≡ false || anyb p (rest w f n s 0)
    found-starts = any_starts

    pub found_ends : (found : Bool) (i : ℕ) → n ≤ i → FoundFrom found i → found ≡ anyb p (records w f n s)
    found_ends found i h v =
        sym (v.1 ∙ ap (λ (l : List R). found || anyb p l) (rest_end w f n s i h) ∙ or_false found)

    module _ (i : ℕ) (r : Bool) (x : R) (h : i < n) (t : r ≡ p x) (e : x ≡ f (drop (i * w) s)) where
      said : (b : Bool) → r ≡ b → p (f (drop (i * w) s)) ≡ b
      said b q = sym (t ∙ ap p e) ∙ q

      pub all_fails : r ≡ false → AllFrom i → false ≡ allb p (records w f n s)
      all_fails q v = sym (v.1 ∙ all_step w f p n s i false h (said false q))

      pub all_passes : r ≡ true → AllFrom i → allb p (records w f n s) ≡ allb p (rest w f n s (i + 1))
      all_passes q v = v.1 ∙ all_step w f p n s i true h (said true q)

      pub any_passes : r ≡ true → AnyFrom i → true ≡ anyb p (records w f n s)
      any_passes q v = sym (v.1 ∙ any_step w f p n s i true h (said true q))

      pub any_fails : r ≡ false → AnyFrom i → anyb p (records w f n s) ≡ anyb p (rest w f n s (i + 1))
      any_fails q v = v.1 ∙ any_step w f p n s i false h (said false q)

      pub found_more : (found : Bool) → FoundFrom found i →
          anyb p (records w f n s) ≡ (found || r) || anyb p (rest w f n s (i + 1))
      found_more found v =
          v.1 ∙ ap (λ (b : Bool). found || b) (any_step w f p n s i r h (said r refl))
          ∙ sym (or_assoc found r (anyb p (rest w f n s (i + 1))))

pub ruleset any-loop = (any_starts, any_fails, any_passes, any_ends, rules)

pub ruleset all-loop = (all_starts, all_fails, all_passes, all_ends, not-true, not-false, rules)

pub ruleset found-loop = (found-starts, found_more, found_ends, rules)
