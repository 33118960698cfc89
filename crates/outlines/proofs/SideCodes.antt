-- Four codes of a side stored (`four-kept`), and the codes of one rule more in their section
-- (`section-turn`).
use mathlib.Core.Path.{◌≡◌, sym, ap, ◌∙◌}
use mathlib.Core.Logic.{◌⊎◌, inl, inr}
use mathlib.Core.List.{List}
use Prim.Native.Nat.{ℕ, suc, ◌+◌, ◌*◌, ◌/◌, ◌≤◌, ◌<◌}
use native.Mathlib.Omega.{arith}
use lib.Dec.{eqb, ltb}
use lib.ListN.{length, get_or, set, take, drop, length-set}
use lib.Seq.{get_or-set_same, get_or-set_other}
use Rattle.foundation.specs.Tests.{cases, true_eq, false_eq, true-le, false-le}
use Rattle.foundation.specs.BytesFacts.{rest_behind}
use Rattle.model.specs.declared.Side.{Side}
use Rattle.sections.specs.Sections.{subjects_of, objects_of}
use Rattle.sections.proofs.SectionWrites.{in_part, beyond_part}
use Rattle.outlines.specs.Outline.{CodedAt, Coded}

-- four numbers from `at` on
abbrev pub four : List ℕ → ℕ → ℕ → ℕ → ℕ → ℕ → List ℕ
four l at a b d e = set (set (set (set l at a) (at + 1) b) (at + 2) d) (at + 3) e

module _ (l : List ℕ) (at a b d e : ℕ) where
  pub four_kept : (k : ℕ) → (k < at) ⊎ (at + 4 ≤ k) → get_or (four l at a b d e) k 0 ≡ get_or l k 0
  four_kept k h =
      get_or-set_other (set (set (set l at a) (at + 1) b) (at + 2) d) (at + 3) k e 0
      (λ q. elsewhere h (omega arith) (omega arith))
      ∙ get_or-set_other (set (set l at a) (at + 1) b) (at + 2) k d 0
      (λ q. elsewhere h (omega arith) (omega arith))
      ∙ get_or-set_other (set l at a) (at + 1) k b 0 (λ q. elsewhere h (omega arith) (omega arith))
      ∙ get_or-set_other l at k a 0 (λ q. elsewhere h (omega arith) (omega arith))
    where
      elsewhere : (k < at) ⊎ (at + 4 ≤ k) → at ≤ k → k < at + 4 → ⊥
      elsewhere (inl x) p q = omega arith
      elsewhere (inr x) p q = omega arith

  module _ (h : at + 3 < length l) where
    pub four-first : get_or (four l at a b d e) at 0 ≡ a
    four-first =
        get_or-set_other (set (set (set l at a) (at + 1) b) (at + 2) d) (at + 3) at e 0 (λ q. omega arith)
        ∙ get_or-set_other (set (set l at a) (at + 1) b) (at + 2) at d 0 (λ q. omega arith)
        ∙ get_or-set_other (set l at a) (at + 1) at b 0 (λ q. omega arith)
        ∙ get_or-set_same l at a 0 (omega arith)

    pub four_second : get_or (four l at a b d e) (at + 1) 0 ≡ b
    four_second =
        get_or-set_other (set (set (set l at a) (at + 1) b) (at + 2) d) (at + 3) (at + 1) e 0 (λ q. omega arith)
        ∙ get_or-set_other (set (set l at a) (at + 1) b) (at + 2) (at + 1) d 0 (λ q. omega arith)
        ∙ get_or-set_same (set l at a) (at + 1) b 0 (omega (arith, length-set l at a))

    pub four_third : get_or (four l at a b d e) (at + 2) 0 ≡ d
    four_third =
        get_or-set_other (set (set (set l at a) (at + 1) b) (at + 2) d) (at + 3) (at + 2) e 0 (λ q. omega arith)
        ∙ get_or-set_same (set (set l at a) (at + 1) b) (at + 2) d 0
        (omega (arith, length-set (set l at a) (at + 1) b, length-set l at a))

    pub four_fourth : get_or (four l at a b d e) (at + 3) 0 ≡ e
    four_fourth = get_or-set_same (set (set (set l at a) (at + 1) b) (at + 2) d) (at + 3) e 0
        (omega (
          arith,
          length-set (set (set l at a) (at + 1) b) (at + 2) d,
          length-set (set l at a) (at + 1) b,
          length-set l at a,
        ))

-- the codes at j are those that were there
kept_coded : {U O : List ℕ} {s : Side} {g : ℕ} {l l' : List ℕ} (j : ℕ) →
    ((k : ℕ) → k / 4 ≡ j → get_or l' k 0 ≡ get_or l k 0) → Coded U O s g l j → Coded U O s g l' j
kept_coded {U} {O} {s} {g} {l} {l'} j e w = record {
  object = e (4 * j) (omega arith) ∙ w.object;
  subject = e (4 * j + 1) (omega arith) ∙ w.subject;
  mode = e (4 * j + 2) (omega arith) ∙ w.mode;
  signs = e (4 * j + 3) (omega arith) ∙ w.signs;
}

coded_turn : {U O l l' : List ℕ} (i : ℕ) (f : ℕ → Side) (g : ℕ → ℕ) →
    ((j : ℕ) → j < i → Coded U O (f j) (g j) l j) →
    Coded U O (f i) (g i) l' i → ((k : ℕ) → (k / 4 ≡ i → ⊥) → get_or l' k 0 ≡ get_or l k 0) →
    (j : ℕ) → j < i + 1 → Coded U O (f j) (g j) l' j
coded_turn {U} {O} {l} {l'} i f g before own kept j h = cases (eqb j i)
    (λ q. rw (true_eq j i q) own)
    (λ q. let ne = false_eq j i q in
    kept_coded j (λ k m. kept k (λ z. ne (sym m ∙ z))) (before j (omega arith)))

-- ---- in the section of 256 bytes from a on

-- the codes of rule i, by their place in the whole
section_coded : {U O : List ℕ} {s : Side} {g : ℕ} (c : List ℕ) (a i : ℕ) → i < 64 →
    CodedAt U O s g c (a + 4 * i) → Coded U O s g (take 256 (drop a c)) i
section_coded {U} {O} {s} {g} c a i h w = record {
  object = in_part a 256 c (4 * i) (omega arith) ∙ w.object;
  subject = in_part a 256 c (4 * i + 1) (omega arith) ∙ there 1 ∙ w.subject;
  mode = in_part a 256 c (4 * i + 2) (omega arith) ∙ there 2 ∙ w.mode;
  signs = in_part a 256 c (4 * i + 3) (omega arith) ∙ there 3 ∙ w.signs;
}
  where
    there : (k : ℕ) → get_or c (a + (4 * i + k)) 0 ≡ get_or c (a + 4 * i + k) 0
    there k = let e : a + (4 * i + k) ≡ a + 4 * i + k = omega arith in ap (λ (j : ℕ). get_or c j 0) e

-- those of the others stay
pub section_kept : (c c' : List ℕ) (a i : ℕ) →
    ((k : ℕ) → (k < a + 4 * i) ⊎ (a + 4 * i + 4 ≤ k) → get_or c' k 0 ≡ get_or c k 0) → (k : ℕ) →
    (k / 4 ≡ i → ⊥) → get_or (take 256 (drop a c')) k 0 ≡ get_or (take 256 (drop a c)) k 0
section_kept c c' a i e k ne = cases (ltb k 256)
    (λ q. let h = true-le (suc k) 256 q in
    in_part a 256 c' k h ∙ e (a + k) side ∙ sym (in_part a 256 c k h))
    (λ q. let h = false-le (suc k) 256 q in
    beyond_part 256 (drop a c') k (omega arith) ∙ sym (beyond_part 256 (drop a c) k (omega arith)))
  where
    side : (a + k < a + 4 * i) ⊎ (a + 4 * i + 4 ≤ a + k)
    side = cases (ltb k (4 * i))
        (λ q. let h = true-le (suc k) (4 * i) q in inl (omega arith))
        (λ q. let h = false-le (suc k) (4 * i) q in
        cases (ltb k (4 * i + 4))
        (λ y. let b = true-le (suc k) (4 * i + 4) y in absurd (ne (omega arith)))
        (λ y. let b = false-le (suc k) (4 * i + 4) y in inr (omega arith)))

-- the tables of coordinates, which lie behind, are the same
tables_same : (c₀ c : List ℕ) → drop 512 c ≡ drop 512 c₀ →
    (subjects_of c ≡ subjects_of c₀) × (objects_of c ≡ objects_of c₀)
tables_same c₀ c e = (ap (take 1024) e, ap (take 130) (rest_behind c₀ c 512 1536 (omega arith) e))

pub section_turn : (c₀ c c' : List ℕ) (a i : ℕ) (f : ℕ → Side) (g : ℕ → ℕ) → i < 64 →
    drop 512 c ≡ drop 512 c₀ →
    ((j : ℕ) → j < i → Coded (subjects_of c₀) (objects_of c₀) (f j) (g j) (take 256 (drop a c)) j) →
    CodedAt (subjects_of c) (objects_of c) (f i) (g i) c' (a + 4 * i) →
    ((k : ℕ) → (k < a + 4 * i) ⊎ (a + 4 * i + 4 ≤ k) → get_or c' k 0 ≡ get_or c k 0) →
    (j : ℕ) → j < i + 1 → Coded (subjects_of c₀) (objects_of c₀) (f j) (g j) (take 256 (drop a c')) j
section_turn c₀ c c' a i f g h tables before own kept =
    let t = tables_same c₀ c tables in
    coded_turn i f g before (section_coded c' a i h (rw (t.0, t.1) at own)) (section_kept c c' a i kept)
