-- Rows of steps of any kind: one behind another, over more places, and the places visited on the way. The
-- loops over the modes of a pair (`ModesTo`) and over the pairs of a range (`PairsTo`) make such rows.
use mathlib.Core.Path.{◌≡◌, refl, ◌∙◌}
use mathlib.Core.Bool.{true, ◌||◌, false≢true}
use mathlib.Core.List.{List, [], ◌∷◌, ◌++◌}
use Prim.Native.Nat.{ℕ, suc, ◌+◌, ◌*◌, ◌≤◌, ◌<◌}
use native.Mathlib.Omega.{arith}
use lib.Dec.{eqb, ltb}
use lib.ListN.{length, get_or}
use Rattle.foundation.specs.Tests.{cases, true_eq, false_eq, true-le, and_three}
use Rattle.foundation.specs.BitMasks.{bit}
use Rattle.places.specs.Needs.{both_at}
use Rattle.places.specs.Regions.{free}
use Rattle.tables.specs.declared.Frame.{Frame}
use Rattle.tables.specs.declared.Place.{Place}
use Rattle.words.specs.SetBits.{bits_below, among}
use Rattle.words.proofs.SetBitLoops.{Turn, each_turn, each_end}
use Rattle.grounding.specs.declared.RuleTurn.{RuleTurn}
use Rattle.grounding.specs.RuleSteps.{Steps, none, then, Visited, AtMode, with_mode, ModesRan}
use Rattle.grounding.specs.RuleSteps.{object_at, subject_at, StandsAt, place_at, AtPair, PairsRan}

module _ {Does : Place → List ℕ → List ℕ → Type 0} where
  -- ---- rows

  -- one row behind another
  pub row_on : {At : Place → Type 0} {a b c : List ℕ} → Steps Does At a b → Steps Does At b c →
      Steps Does At a c
  row_on none s = s
  row_on (then p i d r) s = then p i d (row_on r s)

  -- a row over places of another kind
  pub row_as : {At Bt : Place → Type 0} {a b : List ℕ} → ((p : Place) → At p → Bt p) → Steps Does At a b →
      Steps Does Bt a b
  row_as f none = none
  row_as f (then p i d r) = then p (f p i) d (row_as f r)

  -- steps that keep the length
  pub row-length : {At : Place → Type 0} {a b : List ℕ} →
      ((p : Place) (u v : List ℕ) → Does p u v → length v ≡ length u) → Steps Does At a b →
      length b ≡ length a
  row-length f none = refl
  row-length f (then {u} {v} p i d r) = row-length f r ∙ f p u v d

  -- ---- visits

  -- a place that is visited, once more steps are done behind
  pub visited_on : {At : Place → Type 0} {p : Place} {a b c : List ℕ} → Visited Does At p a b →
      Steps Does At b c → Visited Does At p a c
  visited_on v s = record {
    before = v.before;
    after = v.after;
    to = v.to;
    step = v.step;
    from = row_on v.from s;
  }

  -- and once they are done before
  pub visited_behind : {At : Place → Type 0} {p : Place} {a b c : List ℕ} → Steps Does At a b →
      Visited Does At p b c → Visited Does At p a c
  visited_behind s v = record {
    before = v.before;
    after = v.after;
    to = row_on s v.to;
    step = v.step;
    from = v.from;
  }

  pub visited_as : {At Bt : Place → Type 0} {p : Place} {a b : List ℕ} → ((p : Place) → At p → Bt p) →
      Visited Does At p a b → Visited Does Bt p a b
  visited_as f v = record {
    before = v.before;
    after = v.after;
    to = row_as f v.to;
    step = v.step;
    from = row_as f v.from;
  }

  -- the last step
  pub visited_last : {At : Place → Type 0} {a b c : List ℕ} (p : Place) → Steps Does At a b → Does p b c →
      Visited Does At p a c
  visited_last {b = b} {c = c} p s d = record { before = b; after = c; to = s; step = d; from = none }

-- ---- the modes of a mask, one after the other

-- those given so far are done
pub record ModesTo (Does : Place → List ℕ → List ℕ → Type 0) (p : Place) (modes : ℕ) (given old new : List ℕ) :
    Type 0 where
  pub steps : Steps Does (AtMode p modes) old new
  pub all : (m : ℕ) → among m given ≡ true → Visited Does (AtMode p modes) (with_mode p m) old new

module _ {Does : Place → List ℕ → List ℕ → Type 0} {p : Place} {modes : ℕ} where
  pub modes_start : {w : List ℕ} → ModesTo Does p modes [] w w
  modes_start = record { steps = none; all = λ m e. absurd (false≢true e) }

  pub modes-turn : {a b c xs : List ℕ} {r : ℕ} → Turn modes xs r → ModesTo Does p modes xs a b →
      Does (with_mode p r) b c → ModesTo Does p modes (xs ++ r ∷ []) a c
  modes-turn {a} {b} {c} {xs} {r} t d s =
      let more : Steps Does (AtMode p modes) b c = then (with_mode p r) (r, t.low, t.own, refl) s none in
      record {
        steps = row_on d.steps more;
        all = each_turn (λ m. Visited Does (AtMode p modes) (with_mode p m) a b)
            (λ m. Visited Does (AtMode p modes) (with_mode p m) a c) t d.all (λ i l v. visited_on v more)
            (visited_last (with_mode p r) d.steps s);
      }

  pub modes-end : {a b xs : List ℕ} → modes < 18446744073709551616 → xs ≡ bits_below 64 modes →
      ModesTo Does p modes xs a b → ModesRan Does p modes a b
  modes-end {a} {b} h e d = record {
    steps = d.steps;
    all = λ m l y. each_end _ (λ m. Visited Does (AtMode p modes) (with_mode p m) a b) h e d.all m y;
  }

-- ---- the pairs of a range, one after the other

module _ (t : RuleTurn) (f : Frame) (left need codes : List ℕ) where
  -- a mode at which a rule stands is one of eight
  pub low_mode : (n m : ℕ) → StandsAt t f left need codes n m → m < 8
  low_mode n m s =
      let w : ℕ = get_or need (object_at t f left need codes n * f.grid.subjects
      + subject_at t f left need codes n) 0 in
      true-le (suc m) 8 ((and_three (ltb m 8) (both_at w m)
      (free t.left.mode || eqb t.left.mode m)).0 s.mode).0

  -- those below n are done
  pub record PairsTo (Does : Place → List ℕ → List ℕ → Type 0) (from to n : ℕ) (old new : List ℕ) :
      Type 0 where
    pub steps : Steps Does (AtPair t f left need codes from to) old new
    pub all : (i m : ℕ) → from ≤ i → i < n → StandsAt t f left need codes i m →
        Visited Does (AtPair t f left need codes from to) (place_at t f left need codes i m) old new

  pub pairs_start : {Does : Place → List ℕ → List ℕ → Type 0} (from to : ℕ) (w : List ℕ) →
      PairsTo Does from to from w w
  pairs_start from to w = record { steps = none; all = λ i m h l. absurd (omega arith) }

  pub pairs_end : {Does : Place → List ℕ → List ℕ → Type 0} {from to : ℕ} {a b : List ℕ} (n : ℕ) → to ≤ n →
      PairsTo Does from to n a b → PairsRan t f left need codes Does from to a b
  pairs_end n h d = record { steps = d.steps; all = λ i m g l s. d.all i m g (omega arith) s }

  -- the modes at which the rule stands are done at pair n
  module _ (from to n modes : ℕ) (h : from ≤ n) (l : n < to)
      (only : (m : ℕ) → bit m modes ≡ true → StandsAt t f left need codes n m)
      (each : (m : ℕ) → StandsAt t f left need codes n m → bit m modes ≡ true) where
    at_pair : (q : Place) → AtMode (place_at t f left need codes n 0) modes q →
        AtPair t f left need codes from to q
    at_pair q w = (n, w.0, h, l, only w.0 w.2, w.3)

    pub pairs-turn : {Does : Place → List ℕ → List ℕ → Type 0} {a b c : List ℕ} → PairsTo Does from to n a b →
        ModesRan Does (place_at t f left need codes n 0) modes b c → PairsTo Does from to (n + 1) a c
    pairs-turn d r =
        let more = row_as at_pair r.steps in
        record {
          steps = row_on d.steps more;
          all = λ i m g k s. cases (eqb i n)
              (λ y. let e = true_eq i n y in
              let u : StandsAt t f left need codes n m = rw e at s in
              let v = visited_as at_pair (r.all m (omega (arith, low_mode n m u)) (each m u)) in
              rw e (visited_behind d.steps v))
              (λ y. let e = false_eq i n y in visited_on (d.all i m g (omega arith) s) more);
        }
