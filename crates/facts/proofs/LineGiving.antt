-- What an authorization gives: its instants as a word fit a field; and the tables that take it, by a mask.
use mathlib.Core.Path.{◌≡◌, sym, ap, ◌∙◌, subst}
use mathlib.Core.Bool.{Bool, true, ◌&&◌, true≢false}
use mathlib.Core.List.{List, [], ◌∷◌, ◌++◌}
use Prim.Native.Nat.{ℕ, zero, suc, ◌+◌, ◌^◌, ◌≤◌, ◌<◌}
use native.Mathlib.Nat.{lt_of_lt_of_le}
use native.Mathlib.Numerals.{add-one}
use native.Mathlib.Omega.{arith}
use lib.ListN.{length, get_or}
use lib.Pow.{pow_mono}
use Rattle.foundation.specs.declared.Interval.{Interval}
use Rattle.foundation.specs.Intervals.{in_interval}
use Rattle.foundation.specs.Tests.{cases, le-false, and-true}
use Rattle.foundation.specs.BitMasks.{as_bit, bit, mask_of, mask_at}
use Rattle.foundation.specs.BitLaws.{below_power, bit_and_lem}
use Rattle.model.specs.declared.Authorization.{Authorization}
use Rattle.model.specs.declared.Head.{Head}
use Rattle.model.specs.Encoding.{rule_of}
use Rattle.encoding.specs.Format.{rules_in}
use Rattle.windows.specs.Windows.{inside}
use Rattle.relevance.specs.Chosen.{authorization_at, picked}
use Rattle.relevance.proofs.PickedFacts.{picked_none, picked_more}
use Rattle.tables.specs.TableGiving.{table_takes}
use Rattle.masks.specs.RuleMasks.{RulesIn}
use Rattle.masks.proofs.SameBits.{same_bits}
use Rattle.facts.specs.Facts.{fits_kind, fits_rule, takers_in, taken_by}
use Rattle.facts.specs.Facts.{Setting, LineStep, LineSteps, none, then}

-- ---- the instants

pub span_fits : (n k v : ℕ) (ms : List ℕ) (i : Interval) → n ≤ 2 ^ k →
    ((j : ℕ) → bit j v ≡ inside n ms i j) → v < 2 ^ (2 ^ k)
span_fits n k v ms i l e = lt_of_lt_of_le (below_power n v (λ j m.
    e j ∙ ap (λ (b : Bool). b && in_interval i (get_or ms j 0)) (le-false (suc j) n (omega arith)))) (pow_mono l)

-- ---- who takes it

-- the tables, by a mask
pub takes_mask : (body : List ℕ) (rules : ℕ) (h : Head) (sign takers : ℕ) → sign ≡ as_bit h.negative →
    ((c : ℕ) → bit c takers ≡ bit c rules && fits_rule body h c) →
    table_takes sign takers ≡ taken_by body rules h
takes_mask body rules h sign takers s e i d = go d i
  where
    go : (d : ℕ) → table_takes sign takers d ≡ taken_by body rules h d
    go zero = rw s
    go (suc zero) = rw s
    go (suc (suc c)) = e c

-- the mask has those of the rules that it fits
pub takers_bit : (body : List ℕ) (rules : ℕ) (h : Head) (c : ℕ) → c < 64 →
    bit c (takers_in body rules h) ≡ bit c rules && fits_rule body h c
unfolding takers_in
takers_bit body rules h c l = bit_and_lem rules (mask_of (fits_kind h) (rules_in 64 body)) c
    ∙ ap (λ (b : Bool). bit c rules && b) (mask_at 28 rule_of (fits_kind h) 64 body c l)

pub takers_some : (body : List ℕ) (rules : ℕ) (h : Head) (c : ℕ) → bit c (takers_in body rules h) ≡ true →
    bit c rules ≡ true
unfolding takers_in
takers_some body rules h c e =
    let m = mask_of (fits_kind h) (rules_in 64 body) in
    (and-true (bit c rules) (bit c m) (sym (bit_and_lem rules m c) ∙ e)).0

-- the mask, by its bits
pub takers_same : (body : List ℕ) (rules : ℕ) (h : Head) (m : ℕ) → RulesIn rules body →
    ((c : ℕ) → bit c m ≡ bit c rules && fits_rule body h c) → m ≡ takers_in body rules h
takers_same body rules h m held e = same_bits m (takers_in body rules h) (λ c. cases (bit c rules)
    (λ y. e c ∙ sym (takers_bit body rules h c (held c y).0))
    (λ y. e c ∙ ap (λ (b : Bool). b && fits_rule body h c) y
    ∙ sym (cases (bit c (takers_in body rules h))
    (λ t. absurd (true≢false (sym (takers_some body rules h c t) ∙ y)))
    (λ t. t))))

-- ---- rows of steps

module _ {e : Setting} where
  -- one more
  steps_more : {l : List Authorization} {u v w : List ℕ} (a : Authorization) → LineSteps e l u v →
      LineStep e a v w → LineSteps e (l ++ (a ∷ [])) u w
  steps_more a none s = then s none
  steps_more a (then t rest) s = then t (steps_more a rest s)

  pub picked-start : (lines which : List ℕ) {w : List ℕ} → LineSteps e (picked lines which 0) w w
  picked-start lines which {w} =
      subst (λ (l : List Authorization). LineSteps e l w w) (sym (picked_none lines which)) none

  pub picked-turn : (lines which : List ℕ) (i : ℕ) {u v w : List ℕ} (a : Authorization) → i < length which →
      a ≡ authorization_at lines (get_or which i 0) → LineSteps e (picked lines which i) u v → LineStep e a v w →
      LineSteps e (picked lines which (i + 1)) u w
  picked-turn lines which i {u} {v} {w} a h q row s =
      let p : picked lines which i ++ (a ∷ []) ≡ picked lines which (i + 1) =
      ap (λ (b : Authorization). picked lines which i ++ (b ∷ [])) q
      ∙ sym (picked_more lines which i h) ∙ ap (picked lines which) (sym (add-one i)) in
      subst (λ (l : List Authorization). LineSteps e l u w) p (steps_more a row s)
