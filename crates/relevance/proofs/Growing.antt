-- A window that is being filled: each instant is the next mark behind the one before.
use Rattle.std.proofs.Common.{◌≡◌, ℕ, zero, suc, ◌+◌, ◌-◌, ◌<◌, ◌≤◌, ltb, leb, List, length, get_or, set, sym, refl, ap, ◌∙◌, arith, length-set, get_or-set_other, get_or-set_same}
use Rattle.foundation.specs.Tests.{cases, true-le, false-le}
use Rattle.foundation.specs.Marks.{next, next_above, next_le, next_clear}
use Rattle.windows.specs.Windows.{Rising}
use Rattle.relevance.specs.Filling.{Fills}

-- the mark behind m, or 2^32
abbrev after : List ℕ → ℕ → ℕ
after ms m = next m ms 4294967296

after-le : (ms : List ℕ) (m : ℕ) → after ms m ≤ 4294967296
after-le ms m = next_le m ms 4294967296

module _ (ms : List ℕ) (from to width : ℕ) where
  -- `count` instants, and the one that comes next
  pub record MarksGrown (marks : List ℕ) (count t : ℕ) : Type 0 where
    pub full : length marks ≡ 63
    pub few : count ≤ width
    pub start : count ≡ 0 → t ≡ from
    pub first : 0 < count → get_or marks 0 0 ≡ from
    pub steps : (i : ℕ) → suc i < count → get_or marks (suc i) 0 ≡ after ms (get_or marks i 0)
    pub last : (i : ℕ) → suc i ≡ count → t ≡ after ms (get_or marks i 0)
    pub within : (i : ℕ) → i < count → get_or marks i 0 ≤ to
    pub bounded : t ≤ 4294967296

  pub grown_start : (marks : List ℕ) → length marks ≡ 63 → from ≤ to → to < 4294967296 → MarksGrown marks 0
      from
  grown_start marks l h b = record {
    full = l;
    few = omega arith;
    start = λ e. refl;
    first = λ k. absurd (omega arith);
    steps = λ i k. absurd (omega arith);
    last = λ i k. absurd (omega arith);
    within = λ i k. absurd (omega arith);
    bounded = omega arith;
  }

  -- the only instant is a window, and the next one comes right behind it
  pub only_one : (marks : List ℕ) → length marks ≡ 63 → from ≡ to → to < 4294967296 → 1 ≤ width →
      Fills ms from to width (set marks 0 to) (record { count = 1; next = from + 1 })
  only_one marks l e b w =
      let at : get_or (set marks 0 to) 0 0 ≡ to = get_or-set_same marks 0 to 0 (omega arith) in
      record {
        full = length-set marks 0 to ∙ l;
        some = omega arith;
        few = w;
        first = at ∙ sym e;
        rising = λ i j h k. absurd (omega arith);
        between = λ i h. absurd (omega arith);
        within = λ i h. let z : i ≡ 0 = omega arith in
            omega (arith, ap (λ (n : ℕ). get_or (set marks 0 to) n 0) z, at);
        last = omega (arith, at);
        behind = next_clear (get_or (set marks 0 to) 0 0) ms 4294967296 (from + 1 - 1)
            (omega (arith, at, next_above (get_or (set marks 0 to) 0 0) ms 4294967296 (omega (arith, at))));
        bounded = omega arith;
        whole = λ h. omega arith;
      }

  module _ (room : width ≤ 63) (marks : List ℕ) (count t : ℕ) (g : MarksGrown marks count t)
      (h : count < width)
      (l : t ≤ to) where
    here : get_or (set marks count t) count 0 ≡ t
    here = get_or-set_same marks count t 0 (omega (arith, g.full))

    old : (i : ℕ) → i < count → get_or (set marks count t) i 0 ≡ get_or marks i 0
    old i k = get_or-set_other marks count i t 0 (λ e. omega arith)

    first_kept : get_or (set marks count t) 0 0 ≡ from
    first_kept = cases (leb count 0)
        (λ e. let z : count ≡ 0 = omega (arith, true-le count 0 e) in
        ap (λ (k : ℕ). get_or (set marks count t) k 0) (sym z) ∙ here ∙ g.start z)
        (λ e. let k = false-le count 0 e in old 0 k ∙ g.first k)

    step_more : (i : ℕ) → suc i < count + 1 →
        get_or (set marks count t) (suc i) 0 ≡ after ms (get_or (set marks count t) i 0)
    step_more i k = cases (ltb (suc i) count)
        (λ e. let j = true-le (suc (suc i)) count e in
        old (suc i) j ∙ g.steps i j ∙ ap (after ms) (sym (old i (omega arith))))
        (λ e. let j : suc i ≡ count = omega (arith, false-le (suc (suc i)) count e) in
        ap (λ (n : ℕ). get_or (set marks count t) n 0) j ∙ here ∙ g.last i j
        ∙ ap (after ms) (sym (old i (omega arith))))

    within_more : (i : ℕ) → i < count + 1 → get_or (set marks count t) i 0 ≤ to
    within_more i k = cases (ltb i count)
        (λ e. let j = true-le (suc i) count e in omega (arith, old i j, g.within i j))
        (λ e. let j : i ≡ count = omega (arith, false-le (suc i) count e) in
        omega (arith, ap (λ (n : ℕ). get_or (set marks count t) n 0) j, here))

    pub grown_turn : (t' : ℕ) → t' ≡ after ms t → MarksGrown (set marks count t) (count + 1) t'
    grown_turn t' e = record {
      full = length-set marks count t ∙ g.full;
      few = omega arith;
      start = λ k. absurd (omega arith);
      first = λ k. first_kept;
      steps = step_more;
      last = λ i k. let j : i ≡ count = omega arith in
          e ∙ ap (after ms) (sym (ap (λ (n : ℕ). get_or (set marks count t) n 0) j ∙ here));
      within = within_more;
      bounded = omega (arith, after-le ms t);
    }

  module _ (marks : List ℕ) (count t : ℕ) (g : MarksGrown marks count t) (h : from ≤ to) (b : to < 4294967296)
      (w : 1 ≤ width) (stop : t ≤ to → width ≤ count) where
    some : 1 ≤ count
    some = cases (leb count 0)
        (λ e. let z : count ≡ 0 = omega (arith, true-le count 0 e) in
        let k = stop (omega (arith, g.start z)) in absurd (omega arith))
        (λ e. false-le count 0 e)

    whole : count < width → to < t
    whole k = cases (leb t to)
        (λ e. let n = stop (true-le t to e) in absurd (omega arith))
        (λ e. false-le t to e)

    up : (i : ℕ) → i < count → get_or marks i 0 < after ms (get_or marks i 0)
    up i k = next_above (get_or marks i 0) ms 4294967296 (omega (arith, g.within i k))

    -- d instants further
    rises : (i d : ℕ) → i + suc d < count → get_or marks i 0 < get_or marks (i + suc d) 0
    rises i zero k =
        let j : i + 1 ≡ suc i = omega arith in
        let e : get_or marks (i + 1) 0 ≡ get_or marks (suc i) 0 = ap (λ (n : ℕ). get_or marks n 0) j in
        omega (arith, up i (omega arith), g.steps i (omega arith))
    rises i (suc d) k =
        let j : i + suc (suc d) ≡ suc (i + suc d) = omega arith in
        let e : get_or marks (i + suc (suc d)) 0 ≡ get_or marks (suc (i + suc d)) 0 = ap (λ (n : ℕ). get_or marks n
        0) j in
        omega (
          arith,
          rises i d (omega arith),
          up (i + suc d) (omega arith),
          g.steps (i + suc d) (omega arith),
        )

    rising : Rising count marks
    rising i j k l =
        let e : i + suc (j - suc i) ≡ j = omega arith in
        let f : get_or marks (i + suc (j - suc i)) 0 ≡ get_or marks j 0 = ap (λ (n : ℕ). get_or marks n 0) e in
        omega (arith, rises i (j - suc i) (omega arith))

    pub grown_end : Fills ms from to width marks (record { count = count; next = t })
    grown_end =
        let n : suc (count - 1) ≡ count = omega (arith, some) in
        let e = g.last (count - 1) n in
        let u = up (count - 1) (omega (arith, some)) in
        record {
          full = g.full;
          some = some;
          few = g.few;
          first = g.first (omega (arith, some));
          rising = rising;
          between = λ i k. next_clear (get_or marks i 0) ms 4294967296 (get_or marks (suc i) 0 - 1)
              (omega (arith, up i (omega arith), g.steps i k));
          within = g.within;
          last = omega arith;
          behind = next_clear (get_or marks (count - 1) 0) ms 4294967296 (t - 1) (omega arith);
          bounded = g.bounded;
          whole = whole;
        }
