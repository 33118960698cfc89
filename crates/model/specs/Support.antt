-- Support of an authorization by a chain of others (01, "Backing"; report, section 5).
-- Theorem 2: `supported-chain` in SupportChains; one hop is enough: `one_hop` in SupportFacts.
use Rattle.std.specs.Prelude.{◌≡◌, Bool, true, false, not, ◌&&◌, ◌||◌, List, [], ◌∷◌, ltb, eqb}
use Prim.Native.Nat.{ℕ, zero, suc, ◌≤◌, ◌<◌}
use Rattle.foundation.specs.Tests.{pick}
use Rattle.foundation.specs.Lists.{anyb, Mem}
use Rattle.foundation.specs.declared.Interval.{Interval}
use Rattle.foundation.specs.Intervals.{in_interval, maximal}
use Rattle.model.specs.declared.Privilege.{Privilege}
use Rattle.model.specs.declared.Head.{Head}
use Rattle.model.specs.declared.Authorization.{Authorization}
use Rattle.model.specs.Base.{Base, listed}

-- 01: "lines on its object and mode"
abbrev pub same_object_and_mode : Head → Head → Bool
same_object_and_mode h k = eqb h.object k.object && eqb h.mode k.mode

-- 01: "every line but the last is positive and transferable; each one's subject is the next one's granter;
-- granted-at rises strictly": `earlier` may stand directly before `later` in a chain. Its laws are
-- `supports-rises`, `supports-object` and `supports-mode`, and `supports-eq` and `supports-is` for all its
-- tests.
unfoldable pub supports : Head → Head → Bool
supports earlier later =
    same_object_and_mode earlier later
    && not earlier.negative
    && earlier.option
    && eqb earlier.subject later.grantor
    && ltb earlier.granted later.granted

-- 01: "the first granter is the object's owner or administrator"
abbrev pub root_in : List Privilege → List Privilege → Head → Bool
root_in owners administrators h =
    listed owners h.object h.grantor || listed administrators h.object h.grantor

-- A chain of `heads` ends in h. Before each of a chain stands one granted strictly earlier, so that no chain
-- is longer than h's granted-at says; that is the fuel n.
unfoldable pub supported_in : (Head → Bool) → List Head → ℕ → Head → Bool
supported_in root heads zero h = root h
supported_in root heads (suc n) h =
    let further = anyb (λ k. let r = supported_in root heads n k in supports k h && r) heads in
    root h || further

-- 01: "A line is backed at t if a chain of lines on its object and mode ends in it", `heads` being those that
-- cover t
unfoldable pub supported : (Head → Bool) → List Head → Head → Bool
unfolding supported_in
supported root heads h = supported_in root heads h.granted h

-- 01: "every line covers t": the heads of the authorizations that cover t
abbrev pub live : ℕ → List Authorization → List Head
live t [] = []
live t (a ∷ rest) = let r = live t rest in pick (in_interval a.interval t) (a.head ∷ r) r

abbrev pub root : Base → Head → Bool
root b h = root_in b.objects b.administrators h

abbrev pub supported_at : Base → ℕ → Head → Bool
supported_at b t h = supported (root b) (live t b.authorizations) h

-- ---- the cover that a new authorization needs

-- 01, GRANT: "positive transferable lines on that object and mode, granted strictly before now, that together
-- cover every instant": t is covered for h if some authorization that covers t may stand directly before h in
-- a chain
unfoldable pub covered_for : List Authorization → Head → ℕ → Bool
covered_for xs h t = anyb (λ k. supports k h) (live t xs)

unfoldable pub gaps : List Authorization → Head → Interval → List Interval
gaps xs h i = maximal i.start i.end (λ t. not (covered_for xs h t))

-- ---- the same in 01's words

-- A chain ends in the index. `first`: its grantor is owner or administrator. `then`: one of the heads, itself
-- the end of a chain, stands directly before it
pub data Chain (root : Head → Bool) (heads : List Head) : Head → Type 0 where
  first : {h : Head} → root h ≡ true → Chain root heads h
  then : {k h : Head} → Chain root heads k → Mem k heads → supports k h ≡ true → Chain root heads h

-- ---- the laws of `supports`

-- field by field, in 01's words
pub record Supports (k h : Head) : Type 0 where
  pub object : k.object ≡ h.object
  pub mode : k.mode ≡ h.mode
  pub positive : k.negative ≡ false
  pub transferable : k.option ≡ true
  pub receiver : k.subject ≡ h.grantor
  pub rises : k.granted < h.granted

-- ---- one hop

-- a root, or a head that covers t and may stand directly before h
abbrev pub hop : (Head → Bool) → List Authorization → Head → ℕ → Bool
hop root xs h t = root h || anyb (λ k. supports k h) (live t xs)

-- ---- the earliest instant that is not covered

-- t is the earliest instant of i that nothing covers for h
pub record Earliest (xs : List Authorization) (h : Head) (i : Interval) (t : ℕ) : Type 0 where
  pub within : in_interval i t ≡ true
  pub uncovered : covered_for xs h t ≡ false
  pub before : (u : ℕ) → i.start ≤ u → u < t → covered_for xs h u ≡ true
