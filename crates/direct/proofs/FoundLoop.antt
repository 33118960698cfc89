-- The loop over the authorizations: what a turn adds to what is found (`granted-turn`, `denied-turn`,
-- `no-turn`), and what is found at the end (`all_held`).
use mathlib.Core.Path.{◌≡◌, refl, sym, ap, ap₂, ◌∙◌}
use mathlib.Core.Bool.{Bool, true, false, not, ◌&&◌, ◌||◌, beq}
use mathlib.Core.List.{List, ◌∷◌}
use Prim.Native.Nat.{ℕ, ◌+◌, ◌*◌, ◌≤◌, ◌<◌}
use native.Mathlib.Omega.{arith}
use lib.Dec.{eqb}
use lib.ListN.{drop}
use Rattle.foundation.specs.Tests.{cases, or_assoc, or_false, true_eq, and-true, and-false}
use Rattle.foundation.specs.Bytes.{le}
use Rattle.foundation.specs.Lists.{anyb}
use Rattle.foundation.specs.Intervals.{in_interval}
use Rattle.foundation.specs.ByteRecords.{rest_all, rest_end, rest_step}
use Rattle.foundation.specs.BytesFacts.{le_add_at, le_at}
use Rattle.model.specs.declared.Access.{Access}
use Rattle.model.specs.declared.Authorization.{Authorization}
use Rattle.model.specs.declared.Pattern.{Pattern}
use Rattle.model.specs.Encoding.{authorization_of}
use Rattle.model.specs.Support.{live}
use Rattle.model.specs.Rules.{fits, asked}
use Rattle.model.proofs.SideFacts.{fits_eq}
use Rattle.encoding.specs.Format.{authorizations_in, authorizations_from}
use Rattle.direct.specs.Direct.{held_directly, live_for}

-- a question asks for any grantor and any option
regroup : (s m o n i : Bool) → i && (s && m && o && n && true && true) ≡ s && m && o && i && n
regroup false m o n false = refl
regroup false m o n true = refl
regroup true false o n false = refl
regroup true false o n true = refl
regroup true true false n false = refl
regroup true true false n true = refl
regroup true true true false false = refl
regroup true true true false true = refl
regroup true true true true false = refl
regroup true true true true true = refl

pub by_sign : (x : Access) (t : ℕ) (negative : Bool) (a : Authorization) →
    in_interval a.interval t && fits (asked x negative) a.head
    ≡ live_for x t a && beq a.head.negative negative
by_sign x t negative a = rw (fits_eq (asked x negative) a.head) (
    regroup (eqb a.head.subject x.subject) (eqb a.head.mode x.mode)
    (eqb a.head.object x.object) (beq a.head.negative negative)
    (in_interval a.interval t))

pub live-step : (p : Pattern) (t : ℕ) (a : Authorization) (xs : List Authorization) →
    anyb (fits p) (live t (a ∷ xs))
    ≡ (in_interval a.interval t && fits p a.head) || anyb (fits p) (live t xs)
live-step p t a xs = cases (in_interval a.interval t) (λ e. rw e) (λ e. rw e)

pub is_positive : (n : Bool) → not n ≡ beq n false
is_positive true = refl
is_positive false = refl

pub is_negative_lem : (n : Bool) → n ≡ beq n true
is_negative_lem true = refl
is_negative_lem false = refl

-- the numbers of the access next to each other, as an authorization has them
abbrev pub sides : Access → ℕ
sides x = x.subject + 65536 * x.object

module _ (lines : List ℕ) (total : ℕ) (x : Access) (t : ℕ) where
  abbrev pub line_at : ℕ → Authorization
  line_at i = authorization_of (drop (i * 24) lines)

  -- some authorization from the i-th on fits
  abbrev pub held_from : Bool → ℕ → Bool
  held_from negative i = anyb (fits (asked x negative)) (live t (authorizations_from total lines i))

  held-step : (negative : Bool) (i : ℕ) → i < total → held_from negative i
      ≡ (live_for x t (line_at i) && beq (line_at i).head.negative negative) || held_from negative (i + 1)
  held-step negative i h =
      ap (λ (xs : List Authorization). anyb (fits (asked x negative)) (live t xs))
      (rest_step 24 authorization_of total lines i h)
      ∙ live-step (asked x negative) t (line_at i) (authorizations_from total lines (i + 1))
      ∙ ap (λ (b : Bool). b || held_from negative (i + 1)) (by_sign x t negative (line_at i))

  -- one authorization more, g being what is found before it
  next_turn : (negative all g v : Bool) (i : ℕ) → i < total →
      v ≡ live_for x t (line_at i) && beq (line_at i).head.negative negative →
      all ≡ g || held_from negative i → all ≡ (g || v) || held_from negative (i + 1)
  next_turn negative all g v i h e q =
      q ∙ ap (λ (b : Bool). g || b) (held-step negative i h
      ∙ ap (λ (b : Bool). b || held_from negative (i + 1)) (sym e))
      ∙ sym (or_assoc g v (held_from negative (i + 1)))

  -- where a was read, and l says whether it has t and is for the access
  module _ (all g : Bool) (i : ℕ) (h : i < total) (a : Authorization) (l : Bool) (read : a ≡ line_at i)
      (e : l ≡ live_for x t a) where
    pub granted_turn : all ≡ g || held_from false i →
        all ≡ (g || (l && not a.head.negative)) || held_from false (i + 1)
    granted_turn = next_turn false all g (l && not a.head.negative) i h
        ((λ k. e k && is_positive a.head.negative k)
        ∙ ap (λ (b : Authorization). live_for x t b && beq b.head.negative false) read)

    pub denied_turn : all ≡ g || held_from true i →
        all ≡ (g || (l && a.head.negative)) || held_from true (i + 1)
    denied_turn = next_turn true all g (l && a.head.negative) i h
        ((λ k. e k && is_negative_lem a.head.negative k)
        ∙ ap (λ (b : Authorization). live_for x t b && beq b.head.negative true) read)

  -- the subject and the object of the i-th stand next to each other
  beside : (i : ℕ) → le 4 (drop (i * 24 + 4) lines)
      ≡ (line_at i).head.subject + 65536 * (line_at i).head.object
  beside i =
      let there : i * 24 + 4 + 2 ≡ i * 24 + 6 = omega arith in
      let object = ap (λ (k : ℕ). le 2 (drop k lines)) there ∙ le_at 2 lines (i * 24) 6 in
      omega (arith, le_add_at 2 2 lines (i * 24 + 4), le_at 2 lines (i * 24) 4, object)

  -- it is not for the access
  not_live : (i : ℕ) → (le 4 (drop (i * 24 + 4) lines) ≡ sides x → ⊥) → live_for x t (line_at i) ≡ false
  not_live i n =
      let h = (line_at i).head in
      let s = eqb h.subject x.subject in
      let m = eqb h.mode x.mode in
      let o = eqb h.object x.object in
      let j = in_interval (line_at i).interval t in
      cases (live_for x t (line_at i))
      (λ e. let w = and-true (s && m) o (and-true (s && m && o) j e).0 in
      absurd (n (beside i ∙ ap₂ (λ (a b : ℕ). a + 65536 * b)
      (true_eq h.subject x.subject (and-true s m w.0).0)
      (true_eq h.object x.object w.1))))
      (λ e. e)

  pub no_turn : (negative all g : Bool) (i : ℕ) → i < total →
      (le 4 (drop (i * 24 + 4) lines) ≡ sides x → ⊥) →
      all ≡ g || held_from negative i → all ≡ g || held_from negative (i + 1)
  no_turn negative all g i h n q =
      q ∙ ap (λ (b : Bool). g || b) (held-step negative i h
      ∙ ap (λ (b : Bool). (b && beq (line_at i).head.negative negative) || held_from negative (i + 1))
      (not_live i n))

  -- a denial fits
  pub denied_held : held_from true 0 ≡ true → held_directly (authorizations_in total lines) x t ≡ false
  denied_held e =
      ap (λ (d : Bool). anyb (fits (asked x false)) (live t (authorizations_in total lines)) && not d)
      (ap (λ (xs : List Authorization). anyb (fits (asked x true)) (live t xs))
      (sym (rest_all 24 authorization_of total lines)) ∙ e)
      ∙ and-false (anyb (fits (asked x false)) (live t (authorizations_in total lines)))

  -- none is left
  pub all_held : (i : ℕ) (granted denied : Bool) → total ≤ i →
      held_from false 0 ≡ granted || held_from false i → held_from true 0 ≡ denied || held_from true i →
      held_directly (authorizations_in total lines) x t ≡ granted && not denied
  all_held i granted denied h g d =
      ap₂ (λ (p q : Bool). p && not q) (whole false granted g) (whole true denied d)
    where
      whole : (negative found : Bool) → held_from negative 0 ≡ found || held_from negative i →
          anyb (fits (asked x negative)) (live t (authorizations_in total lines)) ≡ found
      whole negative found e =
          ap (λ (xs : List Authorization). anyb (fits (asked x negative)) (live t xs))
          (sym (rest_all 24 authorization_of total lines))
          ∙ e ∙ ap (λ (xs : List Authorization). found || anyb (fits (asked x negative)) (live t xs))
          (rest_end 24 authorization_of total lines i h)
          ∙ or_false found
