-- Which authorization may stand directly before another, test by test (`supports_eq`, `supports_is`), and that
-- supported is the existence of a chain. Theorem 2: `supported-chain`; one hop is enough: `one_hop` in SupportFacts.
use Rattle.std.specs.Prelude.{◌≡◌, refl, ◌↔◌, Bool, true, not, ◌&&◌, ◌||◌, List, [], ◌∷◌, ltb, eqb}
use Rattle.std.proofs.Common.{sym, ◌∙◌, inl, inr, arith}
use Rattle.std.proofs.Math.Path.{ap}
use Prim.Native.Nat.{ℕ, zero, suc, ◌≤◌, ◌<◌}
use Rattle.foundation.specs.Tests.{cases, agree, true-le, true_eq, and-true, and_intro, or_true_right}
use Rattle.foundation.specs.Tests.{or_false, not-true, eq_true, le-true}
use Rattle.foundation.specs.Lists.{anyb, Mem, any_mem, mem_any, any_cong, any_none, conjunct}
use Rattle.model.specs.declared.Head.{Head}
use Rattle.model.specs.Support.{same_object_and_mode, supports, supported_in, supported, root, Chain}
use Rattle.model.specs.Support.{Supports, first, then}

-- ---- the laws of `supports`

-- all its tests, as one
pub supports_eq : (k h : Head) → supports k h
    ≡ same_object_and_mode k h
    && not k.negative
    && k.option
    && eqb k.subject h.grantor
    && ltb k.granted h.granted
unfolding supports
supports_eq k h = refl

module _ (k h : Head) (s : supports k h ≡ true) where
  abbrev tests : List Bool
  tests =
      eqb k.object h.object
      ∷ eqb k.mode h.mode
      ∷ not k.negative
      ∷ k.option
      ∷ eqb k.subject h.grantor
      ∷ ltb k.granted h.granted
      ∷ []

  -- each test passes
  passes : (x : Bool) → Mem x tests → x ≡ true
  unfolding supports
  passes = conjunct tests s

  -- time rises
  pub supports-rises : k.granted < h.granted
  supports-rises = true-le (suc k.granted) h.granted (passes _ (inr (inr (inr (inr (inr (inl refl)))))))

  -- object and mode are the same
  pub supports-object : k.object ≡ h.object
  supports-object = true_eq k.object h.object (passes _ (inl refl))

  pub supports-mode : k.mode ≡ h.mode
  supports-mode = true_eq k.mode h.mode (passes _ (inr (inl refl)))

pub supports_is : (k h : Head) → (supports k h ≡ true) ↔ Supports k h
unfolding supports
supports_is k h = (
  (λ s. record {
    object = supports-object k h s;
    mode = supports-mode k h s;
    positive = not-true k.negative (passes k h s _ (inr (inr (inl refl))));
    transferable = passes k h s _ (inr (inr (inr (inl refl))));
    receiver = true_eq k.subject h.grantor (passes k h s _ (inr (inr (inr (inr (inl refl))))));
    rises = supports-rises k h s;
  }),
  (λ w. rw (
    eq_true k.object h.object w.object,
    eq_true k.mode h.mode w.mode,
    w.positive,
    w.transferable,
    eq_true k.subject h.grantor w.receiver,
    le-true (suc k.granted) h.granted w.rises,
  )),
)

-- ---- supported is the existence of a chain

supported_in-step : (root : Head → Bool) (heads : List Head) (n : ℕ) (h : Head) →
    supported_in root heads (suc n) h ≡ root h || anyb (λ k. supports k h && supported_in root heads n k) heads
unfolding supported_in
supported_in-step root heads n h = refl

module _ (root : Head → Bool) (heads : List Head) where
  found : (n : ℕ) (h : Head) → supported_in root heads n h ≡ true → Chain root heads h
  unfolding supported_in
  found zero h e = first e
  found (suc n) h e = cases (root h) (λ r. first r)
      (λ r. let m = any_mem (λ k. supports k h && supported_in root heads n k) heads
      (rw r at (sym (supported_in-step root heads n h) ∙ e)) in
      let p = and-true (supports m.0 h) (supported_in root heads n m.0) m.2 in
      then (found n m.0 p.1) m.1 p.0)

  finds : {h : Head} → Chain root heads h → (n : ℕ) → h.granted ≤ n → supported_in root heads n h ≡ true
  unfolding supported_in
  finds (first r) zero l = r
  finds (first {h} r) (suc n) l = rw (supported_in-step root heads n h, r)
  finds (then {k} {h} c m s) zero l = absurd (omega (arith, supports-rises k h s))
  finds (then {k} {h} c m s) (suc n) l =
      rw (supported_in-step root heads n h)
      (or_true_right (root h) _ (mem_any (λ k. supports k h && supported_in root heads n k) heads k m
      (and_intro (supports k h) (supported_in root heads n k) s
      (finds c n (omega (arith, supports-rises k h s))))))

  -- THEOREM 2: supported exactly if a chain exists
  pub supported-chain : (h : Head) → (supported root heads h ≡ true) ↔ Chain root heads h
  unfolding supported
  supported-chain h = (found h.granted h, λ c. finds c h.granted (omega arith))

  only : (g : Head → Bool) → ((h : Head) → g h ≡ root h || anyb (λ k. supports k h && g k) heads) →
      (n : ℕ) (h : Head) → h.granted ≤ n → g h ≡ supported_in root heads n h
  unfolding supported_in
  only g q zero h l =
      q h
      ∙ rw (any_none (λ k. supports k h && g k) heads
      (λ k. cases (supports k h) (λ s. absurd (omega (arith, supports-rises k h s))) (λ s. rw s)))
      (or_false (root h))
  only g q (suc n) h l =
      q h
      ∙ ap (λ (b : Bool). root h || b)
      (any_cong (λ k. supports k h && g k) (λ k. supports k h && supported_in root heads n k) heads
      (λ k. cases (supports k h) (λ s. rw (only g q n k (omega (arith, supports-rises k h s)))) (λ s. rw s)))

  -- the equation that a reader expects: a root, or a supported head stands directly before
  pub supported-step : (h : Head) →
      supported root heads h ≡ root h || anyb (λ k. supports k h && supported root heads k) heads
  supported-step h = agree (supported root heads h)
      (root h || anyb (λ k. supports k h && supported root heads k) heads)
      (λ e. fold ((supported-chain h).0 e))
      (λ e. cases (root h) (λ r. (supported-chain h).1 (first r))
      (λ r. let m = any_mem (λ k. supports k h && supported root heads k) heads (rw r at e) in
      let p = and-true (supports m.0 h) (supported root heads m.0) m.2 in
      (supported-chain h).1 (then ((supported-chain m.0).0 p.1) m.1 p.0)))
    where
      fold : {h : Head} → Chain root heads h →
          root h || anyb (λ k. supports k h && supported root heads k) heads ≡ true
      fold (first r) = rw r
      fold (then {k} {h} c m s) = or_true_right (root h) _
          (mem_any (λ k. supports k h && supported root heads k) heads k m
          (and_intro (supports k h) (supported root heads k) s ((supported-chain k).1 c)))

  -- and the only solution of that equation
  pub supported-only : (g : Head → Bool) → ((h : Head) →
      g h ≡ root h || anyb (λ k. supports k h && g k) heads) →
      (h : Head) → g h ≡ supported root heads h
  unfolding supported
  supported-only g q h = only g q h.granted h (omega arith)
