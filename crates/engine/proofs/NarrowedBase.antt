-- The base narrowed to what a question needs: the rules that matter, and the authorizations on accesses that
-- are needed. About these accesses it says what the whole base says (`narrowed-may`).
use mathlib.Core.Path.{◌≡◌, refl, sym, ap, ◌∙◌, subst}
use mathlib.Core.Logic.{◌↔◌}
use mathlib.Core.Bool.{Bool, true, false, not, ◌&&◌, ◌||◌, beq, true≢false}
use mathlib.Core.List.{List, [], ◌∷◌}
use Prim.Native.Nat.{ℕ, zero, suc, ◌+◌, ◌*◌, ◌-◌, ◌<◌}
use native.Mathlib.Omega.{arith}
use lib.Dec.{eqb, leb, ltb}
use lib.ListN.{length, drop, get_or}
use lib.Seq.{drop-nil}
use Rattle.foundation.specs.Tests.{cases, ne_false, le-true, true-le, not-true, and-true, and_intro}
use Rattle.foundation.specs.Tests.{pick, or_none, beq_self}
use Rattle.foundation.specs.Lists.{keep_if, Mem, keep_if-mem, kept}
use Rattle.foundation.specs.BitMasks.{as_bit, bit}
use Rattle.foundation.specs.ByteRecords.{length-records}
use Rattle.model.specs.declared.Authorization.{Authorization}
use Rattle.model.specs.declared.Head.{Head}
use Rattle.model.specs.declared.Rule.{Rule}
use Rattle.model.specs.declared.Access.{Access}
use Rattle.model.specs.Base.{Base}
use Rattle.model.specs.Ranges.{is_mode}
use Rattle.model.specs.Encoding.{rule_of}
use Rattle.model.specs.Stratification.{stratified}
use Rattle.model.specs.Rules.{stands_for, right_of, may}
use Rattle.encoding.specs.Format.{rules_in, rule_at, authorizations_in}
use Rattle.laws.specs.Narrowing.{access_of, narrowed, needed-may}
use Rattle.questions.specs.RuleNumbers.{Numbering}
use Rattle.relevance.specs.declared.choice.Cell.{Cell}
use Rattle.relevance.specs.Chosen.{picked, selected_from, selected}
use Rattle.relevance.specs.Needed.{cell_of, Choice}
use Rattle.reach.specs.Net.{standing}
use Rattle.places.specs.ReachedNumbers.{used_before}
use Rattle.outlines.specs.Coordinates.{HasCoordinates, Chart, coordinate, subject_of, object_of, mode_of, pair_of}
use Rattle.outlines.proofs.CoordinateFacts.{known_is}
use Rattle.outlines.specs.Outline.{StandingMasks}
use Rattle.outlines.proofs.StandingRules.{stands, stands_alike}
use Rattle.outlines.specs.NeededAccesses.{needed}
use Rattle.outlines.proofs.NeededFacts.{needed-known, needed-bit, needed-both}
use Rattle.grounding.specs.RuleTurns.{Prepared}
use Rattle.engine.specs.Drawn.{SamePowers, Drawn}
use Rattle.engine.proofs.AccessPlaces.{number-below, pair_back}
use Rattle.engine.proofs.TurnReads.{right_needed}

-- those that pass two tests, by one after the other
keep-both : {A : Type 0} (p q : A → Bool) (xs : List A) → keep_if (λ x. p x && q x) xs ≡ keep_if p (keep_if q xs)
keep-both p q [] = refl
keep-both {A} p q (x ∷ xs) =
    let i = keep-both p q xs in
    cases (q x)
    (λ e. cases (p x) (λ f. rw (e, f) (ap (λ (l : List A). x ∷ l) i)) (λ f. rw (e, f) i))
    (λ e. cases (p x) (λ f. rw (e, f) i) (λ f. rw (e, f) i))

-- ---- rules by the bits of their numbers

module _ {A : Type 0} (m : ℕ) where
  selected_by : (test : A → Bool) (i : ℕ) (xs : List A) →
      ((j : ℕ) (x : A) (rest : List A) → drop j xs ≡ x ∷ rest → test x ≡ bit (i + j) m) →
      selected_from m i xs ≡ keep_if test xs
  selected_by test i [] h = refl
  selected_by test i (x ∷ xs) h =
      let z : i + 0 ≡ i = omega arith in
      let e : test x ≡ bit i m = h 0 x xs refl ∙ ap (λ (k : ℕ). bit k m) z in
      let r = selected_by test (suc i) xs (λ j y rest d. h (suc j) y rest d
      ∙ ap (λ (k : ℕ). bit k m) (omega arith)) in
      ap (λ (l : List A). pick (bit i m) (x ∷ l) l) r
      ∙ ap (λ (b : Bool). pick b (x ∷ keep_if test xs) (keep_if test xs)) (sym e)

  -- where each has the number of its place, those with the bit of their number
  selected-numbers : (xs : List A) (number : A → ℕ) (nth : ℕ → A) →
      ((i : ℕ) → i < length xs → number (nth i) ≡ i) →
      ((i : ℕ) → i < length xs → drop i xs ≡ nth i ∷ drop (suc i) xs) →
      selected m xs ≡ keep_if (λ x. bit (number x) m) xs
  selected-numbers xs number nth ruled at = selected_by (λ x. bit (number x) m) 0 xs go
    where
      shorter : (j : ℕ) (ys : List A) (x : A) (rest : List A) → drop j ys ≡ x ∷ rest → j < length ys
      shorter j [] x rest d =
          let n : ◌≡◌ {A = List A} [] (x ∷ rest) = sym (drop-nil j) ∙ d in
          let z : ◌≡◌ {A = ℕ} 0 1 = cc in
          absurd (omega arith)
      shorter zero (y ∷ ys) x rest d = omega arith
      shorter (suc j) (y ∷ ys) x rest d = omega (arith, shorter j ys x rest d)

      go : (j : ℕ) (x : A) (rest : List A) → drop j xs ≡ x ∷ rest → bit (number x) m ≡ bit (0 + j) m
      go j x rest d =
          let h = shorter j xs x rest d in
          let p : x ∷ rest ≡ nth j ∷ drop (suc j) xs = sym d ∙ at j h in
          let q : x ≡ nth j = cc in
          ap (λ (y : A). bit (number y) m) q ∙ ap (λ (k : ℕ). bit k m) (ruled j h ∙ omega arith)

-- ---- authorizations by coordinates

-- both coordinates of a cell are there, and a mode is needed there with both signs
pub record Both (stride : ℕ) (need : List ℕ) (c : Cell) (h : Head) : Type 0 where
  pub there : not (eqb c.subject 255 || eqb c.object 255) ≡ true
  pub held : bit (h.mode - 1) (get_or need (c.object * stride + c.subject) 0) ≡ true
  pub denied : bit (8 + (h.mode - 1)) (get_or need (c.object * stride + c.subject) 0) ≡ true

-- a coordinate that is there is below their count
there-below : {field : Rule → ℕ} {n : ℕ} {body U : List ℕ} {size : ℕ} → HasCoordinates field n body U size →
    (own v : ℕ) → eqb (coordinate U own v) 255 ≡ false → coordinate U own v < size
unfolding coordinate
there-below {U = U} m own v e = cases (eqb (get_or U v 0) 0)
    (λ y. cases (eqb v own)
    (λ q. rw (y, q) m.some)
    (λ q. absurd (true≢false (rw (y, q) at e))))
    (λ y. rw y (m.below v))

-- authorizations are chosen by the coordinates of their accesses
abbrev cell_at : Chart → Access → Access → Cell
cell_at C asked x = record { subject = subject_of C asked x; object = object_of C asked x }

cell_is : (C : Chart) (asked : Access) (h : Head) →
    cell_of C.subjects C.objects asked h ≡ cell_at C asked (access_of h)
unfolding coordinate
cell_is C asked h = refl

module _ {holder : Base} {n : ℕ} {C : Chart} {asked : Access} {p : Prepared} {matter words bits : ℕ}
    (d : Drawn holder n C asked p matter words bits) where
  abbrev cell_in : Head → Cell
  cell_in h = cell_of C.subjects C.objects asked h

  -- an authorization is on a needed access exactly if both signs are needed at its coordinates
  pub line-needed : (h : Head) → is_mode h.mode ≡ true → Both C.width p.need (cell_in h) h →
      needed C asked p.need (access_of h) ≡ true
  line-needed h m b =
      let x = access_of h in
      let w : Both C.width p.need (cell_at C asked x) h = rw (cell_is C asked h) at b in
      let v = and-true (leb 1 h.mode) (leb h.mode 8) m in
      let t = or_none (eqb (subject_of C asked x) 255) (eqb (object_of C asked x) 255)
      (not-true (eqb (subject_of C asked x) 255 || eqb (object_of C asked x) 255) w.there) in
      needed-both C asked p.need x
      ((known_is C asked x).1 (
        there-below d.charted.objects asked.object x.object t.1,
        there-below d.charted.subjects asked.subject x.subject t.0,
        true-le 1 h.mode v.0,
        true-le h.mode 8 v.1,
      )) w.held w.denied

  pub needed_line_lem : (h : Head) → needed C asked p.need (access_of h) ≡ true →
      Both C.width p.need (cell_in h) h
  needed_line_lem h e =
      let x = access_of h in
      let k = (known_is C asked x).0 (needed-known C asked p.need x e) in
      let s = ne_false (subject_of C asked x) 255 (λ z. omega (
        arith,
        d.charted.subjects.few,
        d.well_formed.few,
      )) in
      let o = ne_false (object_of C asked x) 255 (λ z. omega (
        arith,
        d.charted.objects.few,
        d.well_formed.few,
      )) in
      let a : mode_of x + 8 * 0 ≡ mode_of x = omega arith in
      let b : mode_of x + 8 * 1 ≡ 8 + mode_of x = omega arith in
      let w : Both C.width p.need (cell_at C asked x) h = record {
        there = rw (s, o);
        held = rw a at (needed-bit C asked p.need x e false);
        denied = rw b at (needed-bit C asked p.need x e true);
      } in
      rw (cell_is C asked h) w

  -- ---- rules

  drawn_stands : (b : Base) → SamePowers b holder → StandingMasks b n p.body C asked p.left
  drawn_stands b powers = stands_alike holder b n p.body C asked p.left (λ o u. sym (powers o u))
      (stands d.well_formed C d.charted p.sides d.lefts holder asked d.outlined p.left
      d.masks d.own)

  -- a rule that stands for a needed access matters
  pub standing-matters : (b : Base) → SamePowers b holder → (r : ℕ) → r < n → (x : Access) →
      needed C asked p.need x ≡ true → stands_for b (rule_at p.body r) x ≡ true → bit r matter ≡ true
  standing-matters b powers r h x e s =
      let k = needed-known C asked p.need x e in
      let sign = (rule_at p.body r).left.negative in
      let q : ℕ = mode_of x + 8 * as_bit sign in
      let i : ℕ = used_before p.need (pair_of C asked x) in
      let back = pair_back d x e in
      let there : bit r (standing p.left (object_of C asked x) (subject_of C asked x) q) ≡ true =
      drawn_stands b powers x k r (omega (arith, d.well_formed.few)) sign
      ∙ and_intro (ltb r n) (stands_for b (rule_at p.body r) x && beq sign sign) (le-true (suc r) n h)
      (and_intro (stands_for b (rule_at p.body r) x) (beq sign sign) s (beq_self sign)) in
      d.needs.all i q r (number-below d x e)
      (rw (back.0, back.1) (needed-bit C asked p.need x e sign))
      (rw (back.0, back.1) there)

  module _ (base : Base) (powers : SamePowers base holder) (whole : base.rules ≡ rules_in n p.body)
      (number : Rule → ℕ) (numbering : Numbering base.rules number (rule_at p.body)) where
    -- the rules that matter
    abbrev pub rule_matters : Rule → Bool
    rule_matters r = bit (number r) matter

    -- the rules are n
    count_is : length base.rules ≡ n
    count_is = ap length whole ∙ length-records 28 rule_of n p.body

    -- each has its number
    rule-number : (r : Rule) → Mem r base.rules → (number r < n) × (rule_at p.body (number r) ≡ r)
    rule-number r m = let w = numbering.numbered r m in (omega (arith, count_is, w.0), w.1)

    -- with a needed access the rules that stand for it are kept, and what they look at is needed
    pub rules_standing : (r : Rule) (x : Access) → Mem r base.rules → needed C asked p.need x ≡ true →
        stands_for base r x ≡ true → rule_matters r ≡ true
    rules_standing r x m e s =
        let w = rule-number r m in
        standing-matters base powers (number r) w.0 x e (rw w.1 s)

    pub rules_inward : (r : Rule) (x : Access) → Mem r base.rules → needed C asked p.need x ≡ true →
        stands_for base r x ≡ true → needed C asked p.need (right_of r x).access ≡ true
    rules_inward r x m e s =
        let w = rule-number r m in
        subst (λ (q : Rule). needed C asked p.need (right_of q x).access ≡ true) w.1
        (right_needed d base (number r) (rules_standing r x m e s) powers x e (rw w.1 s))

    -- the rules of the narrowed base are those that matter
    pub selected_rules : keep_if rule_matters base.rules ≡ selected matter (rules_in n p.body)
    selected_rules =
        sym (selected-numbers matter base.rules number (rule_at p.body) (λ i h. (numbering.ruled i h).1)
        numbering.nth)
        ∙ ap (selected matter) whole

    pub rule_kept : (r : ℕ) → r < n → bit r matter ≡ true →
        Mem (rule_at p.body r) (keep_if rule_matters base.rules)
    rule_kept r h e =
        let w = numbering.ruled r (omega (arith, count_is)) in
        keep_if-mem rule_matters base.rules (rule_at p.body r) w.0
        (ap (λ (i : ℕ). bit i matter) w.1 ∙ e)

    -- ---- the narrowed base

    module _ (keep_line : Authorization → Bool)
        (lines : (a : Authorization) →
        (keep_line a ≡ true) ↔ Both C.width p.need (cell_in a.head) a.head) where
      -- those of its authorizations that pass a further test are those that were chosen by both tests
      pub chosen_lines : (test : Authorization → Bool) (s : List ℕ) (total : ℕ) (entry exit : List ℕ)
          (k : ℕ) → base.authorizations ≡ authorizations_in total s →
          Choice (λ a. test a && keep_line a) s total entry exit k →
          picked s exit k ≡ keep_if test (narrowed base keep_line rule_matters).authorizations
      chosen_lines test s total entry exit k e c =
          c.chosen ∙ keep-both test keep_line (authorizations_in total s)
          ∙ ap (λ (xs : List Authorization). keep_if test (keep_if keep_line xs)) (sym e)

      -- they are on needed accesses
      pub kept_line : (a : Authorization) → is_mode a.head.mode ≡ true →
          Mem a (narrowed base keep_line rule_matters).authorizations →
          needed C asked p.need (access_of a.head) ≡ true
      kept_line a m l = line-needed a.head m ((lines a).0 (kept keep_line base.authorizations a l).1)

      -- what it says about a needed access
      pub narrowed-may : stratified base.rules ≡ true → (x : Access) → needed C asked p.need x ≡ true →
          (t : ℕ) → may base x t ≡ may (narrowed base keep_line rule_matters) x t
      narrowed-may strata = needed-may base strata (needed C asked p.need) keep_line rule_matters
          rules_inward rules_standing (λ a m l. (lines a).1 (needed_line_lem a.head l))
