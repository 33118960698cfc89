-- The rules of a mask among the first r of a base's bytes (`rules_up_to`): what a turn of a loop over the bits
-- of the mask adds to them, and where a rule stands among them (`position`).
use mathlib.Core.Path.{◌≡◌, refl, sym, ap, ◌∙◌}
use mathlib.Core.Bool.{Bool, true, false}
use mathlib.Core.List.{List, [], ◌∷◌, ◌++◌, append_assoc, append-nil}
use Prim.Native.Nat.{ℕ, zero, suc, ◌+◌, ◌*◌, ◌-◌, ◌≤◌, ◌<◌}
use native.Mathlib.Numerals.{add-one}
use native.Mathlib.Omega.{arith}
use lib.Dec.{leb}
use lib.ListN.{length, take, drop, length-append, take-append-drop}
use lib.Seq.{length-take-le, drop_at}
use Rattle.foundation.specs.Tests.{pick, cases, true-le, false-le}
use Rattle.foundation.specs.BitMasks.{as_bit, bit, bit_le}
use Rattle.foundation.specs.ByteRecords.{length-records, record_nth, records-split, records_copy}
use Rattle.fields.specs.Field.{splice}
use Rattle.fields.proofs.ByteLaws.{drop-splice}
use Rattle.model.specs.declared.Rule.{Rule}
use Rattle.model.specs.Encoding.{rule_of}
use Rattle.encoding.specs.Format.{rules_in, rule_at}
use Rattle.encoding.proofs.OwnBytes.{rule_own}
use Rattle.relevance.specs.Chosen.{selected_from, selected}
use Rattle.selection.specs.Selection.{position}

-- what no step changes
unchanged : {X : Type 0} (f : ℕ → X) (a b : ℕ) → a ≤ b → ((i : ℕ) → a ≤ i → i < b → f (suc i) ≡ f i) →
    f b ≡ f a
unchanged f a zero h s = ap f (omega arith)
unchanged f a (suc b) h s = cases (leb a b)
    (λ y. let l = true-le a b y in s b l (omega arith) ∙ unchanged f a b l (λ i p q. s i p (omega arith)))
    (λ y. let l = false-le a b y in ap f (omega arith))

module _ (m : ℕ) where
  -- ---- how many bits lie below

  pub position-le : (r : ℕ) → position m r ≤ r
  position-le zero = omega arith
  position-le (suc r) = omega (arith, position-le r, bit_le (bit r m))

  pub position-start : (r : ℕ) → ((i : ℕ) → 0 ≤ i → i < r → bit i m ≡ false) → position m r ≡ 0
  position-start r z = unchanged (position m) 0 r (omega arith)
      (λ i p q. ap (λ (b : Bool). position m i + as_bit b) (z i p q) ∙ omega arith)

  pub position-turn : (r r' : ℕ) → r < r' → bit r m ≡ true →
      ((i : ℕ) → r + 1 ≤ i → i < r' → bit i m ≡ false) → position m r' ≡ position m r + 1
  position-turn r r' h e z = unchanged (position m) (suc r) r' (omega arith)
      (λ i p q. ap (λ (b : Bool). position m i + as_bit b) (z i (omega arith) q) ∙ omega arith)
      ∙ ap (λ (b : Bool). position m r + as_bit b) e

  -- ---- those of a list

  selected_append : {A : Type 0} (i : ℕ) (xs ys : List A) →
      selected_from m i (xs ++ ys) ≡ selected_from m i xs ++ selected_from m (i + length xs) ys
  selected_append i [] ys = ap (λ (n : ℕ). selected_from m n ys) (omega arith)
  selected_append {A} i (x ∷ xs) ys =
      let ks = selected_from m (suc i) xs in
      let ls = selected_from m (i + suc (length xs)) ys in
      let e : selected_from m (suc i) (xs ++ ys) ≡ ks ++ ls = selected_append (suc i) xs ys
      ∙ ap (λ (n : ℕ). ks ++ selected_from m n ys) (omega arith) in
      ap (λ (l : List A). pick (bit i m) (x ∷ l) l) e ∙ front (bit i m) ks ls
    where
      front : (b : Bool) (ks ls : List A) → pick b (x ∷ (ks ++ ls)) (ks ++ ls) ≡ pick b (x ∷ ks) ks ++ ls
      front true ks ls = refl
      front false ks ls = refl

  module _ (body : List ℕ) where
    abbrev pub rules_up_to : ℕ → List Rule
    rules_up_to r = selected m (rules_in r body)

    up_step : (r : ℕ) → rules_up_to (suc r) ≡ rules_up_to r ++ pick (bit r m) (rule_at body r ∷ []) []
    up_step r =
        ap rules_up_to (sym (add-one r)) ∙ ap (selected m) (records-split 28 rule_of r 1 body)
        ∙ selected_append 0 (rules_in r body) (rule_at body r ∷ [])
        ∙ ap (λ (n : ℕ). rules_up_to r ++ selected_from m n (rule_at body r ∷ []))
        (let l = length-records 28 rule_of r body in omega arith)

    up_over : (r : ℕ) → bit r m ≡ false → rules_up_to (suc r) ≡ rules_up_to r
    up_over r e = up_step r ∙ ap (λ (b : Bool). rules_up_to r ++ pick b (rule_at body r ∷ []) []) e
        ∙ append-nil (rules_up_to r)

    up_one : (r : ℕ) → bit r m ≡ true → rules_up_to (suc r) ≡ rules_up_to r ++ (rule_at body r ∷ [])
    up_one r e = up_step r ∙ ap (λ (b : Bool). rules_up_to r ++ pick b (rule_at body r ∷ []) []) e

    -- where the bits are none, no rule comes in
    pub up_same : (a b : ℕ) → a ≤ b → ((i : ℕ) → a ≤ i → i < b → bit i m ≡ false) → rules_up_to b ≡ rules_up_to a
    up_same a b h z = unchanged rules_up_to a b h (λ i p q. up_over i (z i p q))

    -- rule r has its turn, and r' is the next
    pub up_turn : (r r' : ℕ) → r < r' → bit r m ≡ true → ((i : ℕ) → r + 1 ≤ i → i < r' → bit i m ≡ false) →
        rules_up_to r' ≡ rules_up_to r ++ (rule_at body r ∷ [])
    up_turn r r' h e z = up_same (suc r) r' (omega arith) (λ i p q. z i (omega arith) q) ∙ up_one r e

    pub up_length : (r : ℕ) → length (rules_up_to r) ≡ position m r
    up_length zero = refl
    up_length (suc r) = ap length (up_step r)
        ∙ length-append (rules_up_to r) (pick (bit r m) (rule_at body r ∷ []) [])
        ∙ more (bit r m) (up_length r)
      where
        more : (b : Bool) → length (rules_up_to r) ≡ position m r →
            length (rules_up_to r) + length (pick b (rule_at body r ∷ []) []) ≡ position m r + as_bit b
        more true e = omega arith
        more false e = omega arith

    -- those from a rule on that is selected
    up_split : (r d : ℕ) → bit r m ≡ true →
        (rest : List Rule) × (rules_up_to (suc r + d) ≡ rules_up_to r ++ (rule_at body r ∷ rest))
    up_split r d e =
        let more = rules_in d (drop (suc r * 28) body) in
        let n = 0 + length (rules_in (suc r) body) in (
          selected_from m n more,
          ap (selected m) (records-split 28 rule_of (suc r) d body)
              ∙ selected_append 0 (rules_in (suc r) body) more
              ∙ ap (λ (l : List Rule). l ++ selected_from m n more) (up_one r e)
              ∙ append_assoc (rules_up_to r) (rule_at body r ∷ []) (selected_from m n more),
        )

    -- where the selected rules are k in other bytes, a rule that is one of them stands there at its position
    pub at_position : (few : List ℕ) (k n r : ℕ) → rules_in k few ≡ rules_up_to n → r < n → bit r m ≡ true →
        (position m r < k) × (rule_at few (position m r) ≡ rule_at body r)
    at_position few k n r w h e =
        let j = position m r in
        let s = up_split r (n - suc r) e in
        let c : suc r + (n - suc r) ≡ n = omega arith in
        let u : rules_in k few ≡ rules_up_to r ++ (rule_at body r ∷ s.0) = w ∙ ap rules_up_to (sym c) ∙ s.1 in
        let l : k ≡ length (rules_up_to r) + suc (length s.0) = sym (length-records 28 rule_of k few)
        ∙ ap length u ∙ length-append (rules_up_to r) (rule_at body r ∷ s.0) in
        let p : j < k = omega (arith, up_length r) in
        let d : rule_at few j ∷ drop (suc j) (rules_in k few) ≡ rule_at body r ∷ s.0 =
        sym (record_nth 28 rule_of k few j p) ∙ ap (drop j) u
        ∙ drop_at (rules_up_to r) (rule_at body r ∷ s.0) j (up_length r) in
        (p, cc)

-- ---- a rule's bytes, copied behind k rules

front : (k : ℕ) (few bytes : List ℕ) → k * 28 ≤ length few →
    rules_in k (splice (k * 28) bytes few) ≡ rules_in k few
unfolding splice
front k few bytes h = rw (append_assoc (take (k * 28) few) bytes (drop (k * 28 + length bytes) few))
    (records_copy 28 rule_of rule_own k few (bytes ++ drop (k * 28 + length bytes) few) h)

pub rule_copied : (k : ℕ) (few t : List ℕ) → k * 28 + 28 ≤ length few → 28 ≤ length t →
    rules_in (k + 1) (splice (k * 28) (take 28 t) few) ≡ rules_in k few ++ (rule_of t ∷ [])
rule_copied k few t h v =
    let bytes = take 28 t in
    let l : length bytes ≡ 28 = length-take-le 28 t v in
    let after = drop (k * 28 + length bytes) few in
    let b : rule_of (drop (k * 28) (splice (k * 28) bytes few)) ≡ rule_of t =
    ap rule_of (drop-splice (k * 28) bytes few (omega arith)) ∙ rule_own bytes after (omega arith)
    ∙ sym (rule_own bytes (drop 28 t) (omega arith)) ∙ ap rule_of (take-append-drop 28 t) in
    records-split 28 rule_of k 1 (splice (k * 28) bytes few)
    ∙ ap (λ (x : Rule). rules_in k (splice (k * 28) bytes few) ++ (x ∷ [])) b
    ∙ ap (λ (rs : List Rule). rs ++ (rule_of t ∷ [])) (front k few bytes (omega arith))
