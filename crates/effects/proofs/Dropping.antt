-- Rules taken out from the last to the first: what is left on the way, and a turn of the loop. Assumes
-- nothing.
use mathlib.Core.Path.{◌≡◌, sym, ap, ◌∙◌, subst}
use mathlib.Core.Logic.{⊎_elim}
use Prim.Native.Nat.{ℕ, zero, suc, ◌+◌, ◌-◌, ◌≤◌, ◌<◌}
use native.Mathlib.Numerals.{add-one}
use native.Mathlib.Omega.{arith}
use native.Mathlib.Nat.{not-suc-le-zero}
use mathlib.Core.Bool.{Bool, true, false}
use mathlib.Core.List.{List, [], ◌∷◌, ◌++◌, append-nil}
use lib.ListN.{length, take, drop, length-append, length-take, length-drop, take-append-drop}
use lib.Seq.{take_all, drop-length}
use Rattle.foundation.specs.Lists.{Mem, keep_if, kept, kept_length, append_mem, mem_left, mem_right}
use Rattle.model.specs.declared.Rule.{Rule}
use Rattle.model.specs.Base.{Base}
use Rattle.model.specs.Encoding.{encode, decode}
use Rattle.model.specs.FitsFacts.{BaseFits}
use Rattle.edits.specs.Edits.{Written, remove_at}
use Rattle.model.specs.Effects.{with_rules}
use Rattle.edits.proofs.Kept.{fits_rules}
use Rattle.effects.proofs.AllowedEffects.{HoldsBase, holds-base}

-- ---- lists

module _ {A : Type 0} (k : A → Bool) where
  -- the first i as they are, and of the others those that are kept
  abbrev pub partly : ℕ → List A → List A
  partly i xs = take i xs ++ keep_if k (drop i xs)

  partly_all : (xs : List A) → xs ≡ partly (length xs) xs
  partly_all xs = sym ((λ j. take_all (length xs) xs (omega arith) j ++ keep_if k (drop-length xs j))
      ∙ append-nil xs)

  partly-length : (i : ℕ) (xs : List A) → i ≤ length xs →
      (i ≤ length (partly i xs)) × (length (partly i xs) ≤ length xs)
  partly-length i xs h =
      let e = length-append (take i xs) (keep_if k (drop i xs)) in
      let l = kept_length k (drop i xs) in
      let t = length-take i xs in
      let d = length-drop i xs in
      omega arith

  partly-mem : (i : ℕ) (xs : List A) (x : A) → Mem x (partly i xs) → Mem x xs
  partly-mem i xs x m = subst (λ (l : List A). Mem x l) (take-append-drop i xs) (⊎_elim
      (mem_left x (take i xs) (drop i xs))
      (λ n. mem_right x (take i xs) (drop i xs) (kept k (drop i xs) x n).0)
      (append_mem x (take i xs) (keep_if k (drop i xs)) m))

  -- one more is looked at, r: it is kept, or taken out
  stays : (i : ℕ) (xs : List A) (r : A) → i < length xs →
      drop i (partly (suc i) xs) ≡ r ∷ drop (suc i) (partly (suc i) xs) → k r ≡ true →
      partly (suc i) xs ≡ partly i xs
  stays i [] r h e t = absurd (not-suc-le-zero h)
  stays zero (x ∷ xs) r h e t = let g : x ≡ r = cc in rw (g, t)
  stays (suc i) (x ∷ xs) r h e t = ap (λ (l : List A). x ∷ l) (stays i xs r (omega arith) e t)

  goes : (i : ℕ) (xs : List A) (r : A) → i < length xs →
      drop i (partly (suc i) xs) ≡ r ∷ drop (suc i) (partly (suc i) xs) → k r ≡ false →
      remove_at i (partly (suc i) xs) ≡ partly i xs
  goes i [] r h e t = absurd (not-suc-le-zero h)
  goes zero (x ∷ xs) r h e t = let g : x ≡ r = cc in rw (g, t)
  goes (suc i) (x ∷ xs) r h e t = ap (λ (l : List A). x ∷ l) (goes i xs r (omega arith) e t)

-- ---- the loop

-- the rules from the i-th on were looked at
abbrev pub Dropped : (Rule → Bool) → Base → ℕ → List ℕ → Type 0
Dropped k b i s = (i ≤ length b.rules) × (s ≡ encode (with_rules (partly k i b.rules) b))

module _ (k : Rule → Bool) (b : Base) where
  abbrev left : ℕ → Base
  left i = with_rules (partly k i b.rules) b

  pub drop-starts : (s : List ℕ) (i : ℕ) → s ≡ encode b → i ≡ length b.rules → Dropped k b i s
  drop-starts s i e h = (
    omega arith,
    e ∙ ap (λ (rs : List Rule). encode (with_rules rs b))
        (partly_all k b.rules ∙ ap (λ (n : ℕ). partly k n b.rules) (sym h)),
  )

  pub drop_ends : (s : List ℕ) (i : ℕ) → i ≡ 0 → Dropped k b i s →
      s ≡ encode (with_rules (keep_if k b.rules) b)
  drop_ends s i e v = v.1 ∙ ap (λ (n : ℕ). encode (left n)) e

  pub dropped_holds : BaseFits b → (i : ℕ) (s : List ℕ) → Dropped k b i s → HoldsBase (left i) s
  dropped_holds f i s v =
      let l = partly-length k i b.rules v.0 in
      holds-base (left i) s (fits_rules (partly k i b.rules) b f (omega (arith, l, f.counts.rules))
      (λ r m. f.rules r (partly-mem k i b.rules r m))) v.1

  -- a turn looks at the rule before the i-th
  module _ (f : BaseFits b) (s : List ℕ) (i : ℕ) (h : 0 < i) (v : Dropped k b i s) where
    before_it : i ≡ suc (i - 1)
    before_it = omega arith

    turn_rules : (decode s).rules ≡ partly k (suc (i - 1)) b.rules
    turn_rules = ap (λ (c : Base). c.rules) (dropped_holds f i s v).base
        ∙ ap (λ (n : ℕ). partly k n b.rules) before_it

    pub turn_reads : Written s × (i - 1 < length (decode s).rules)
    turn_reads =
        let l = partly-length k i b.rules v.0 in
        let e = ap (λ (c : Base). length c.rules) (dropped_holds f i s v).base in
        ((dropped_holds f i s v).written, omega (arith, l, e))

    module _ (r : Rule) (e : drop (i - 1) (decode s).rules ≡ r ∷ drop (i - 1 + 1) (decode s).rules) where
      read : drop (i - 1) (partly k (suc (i - 1)) b.rules) ≡ r
          ∷ drop (suc (i - 1)) (partly k (suc (i - 1)) b.rules)
      read = subst (λ (rs : List Rule). drop (i - 1) rs ≡ r ∷ drop (suc (i - 1)) rs) turn_rules (rw add-one at e)

      pub turn_keeps : k r ≡ true → Dropped k b (i - 1) s
      turn_keeps t = (
        omega (arith, v.0),
        v.1 ∙ ap (λ (n : ℕ). encode (left n)) before_it
            ∙ ap (λ (rs : List Rule). encode (with_rules rs b))
            (stays k (i - 1) b.rules r (omega (arith, v.0)) read t),
      )

      pub turn-drops : k r ≡ false → (s' : List ℕ) →
          s' ≡ encode (with_rules (remove_at (i - 1) (decode s).rules) (decode s)) → Dropped k b (i - 1) s'
      turn-drops t s' e' = (
        omega (arith, v.0),
        e' ∙ (λ j. encode (with_rules (remove_at (i - 1) (turn_rules j)) ((dropped_holds f i s v).base j)))
            ∙ ap (λ (rs : List Rule). encode (with_rules rs b))
            (goes k (i - 1) b.rules r (omega (arith, v.0)) read t),
      )
