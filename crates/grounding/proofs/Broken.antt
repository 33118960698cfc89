-- What is kept from a window for the next one: a rule that looks back is marked where it derives nothing at
-- the last instant. So what is kept stays right (`marked-carried`, `next-carried`).
use mathlib.Core.Path.{◌≡◌, refl, sym, ap, ap₂, ◌∙◌, subst}
use mathlib.Core.Logic.{◌⊎◌, inl, inr, ⊎_elim}
use mathlib.Core.Bool.{Bool, true, false, not, ◌&&◌, ◌||◌, true≢false}
use mathlib.Core.List.{List}
use Prim.Native.Nat.{ℕ, zero, suc, ◌-◌, ◌≤◌, ◌<◌}
use native.Mathlib.Omega.{arith}
use lib.Bits.{bit_or}
use lib.Dec.{eqb, leb, ltb}
use Rattle.foundation.specs.Tests.{pick, cases, le-true, le-false, true-le, false-le, true_eq, eq_true}
use Rattle.foundation.specs.Tests.{or_none, or_false}
use Rattle.foundation.specs.Lists.{Mem}
use Rattle.foundation.specs.Marks.{clear}
use Rattle.foundation.specs.BitMasks.{as_bit, bit}
use Rattle.words.specs.Fields.{field_of}
use Rattle.tables.specs.declared.Place.{Place}
use Rattle.tables.specs.TableLayout.{Tables, TablesLaid, Has, rule_tables}
use Rattle.tables.proofs.FieldsApart.{field_apart}
use Rattle.model.specs.declared.Rule.{Rule}
use Rattle.model.specs.declared.Access.{Access}
use Rattle.model.specs.Means.{all_marks}
use Rattle.model.specs.Rules.{stands_for}
use Rattle.model.specs.Stratification.{lasting}
use Rattle.questions.specs.Table.{truth}
use Rattle.derivation.specs.Derive.{Derived}
use Rattle.derivation.specs.Carried.{Carried}
use Rattle.derivation.proofs.CarriedOn.{carried_on, carried_first, window_framed}
use Rattle.derivation.proofs.Turn.{turn_right}
use Rattle.grounding.specs.RuleSteps.{force_in, broken_at, broken_in, Mark, Steps, Visited}
use Rattle.grounding.specs.Meaning.{StandsIn, Kept, place_of}
use Rattle.grounding.proofs.MeaningFacts.{pat_on, evaluated_at}
use Rattle.grounding.specs.RuleTurns as turns
use Rattle.grounding.specs.RuleTurns.{turn_in, RuleMarked, Marked}
use Rattle.grounding.proofs.Order.{WindowInputs, Staged, window_mapping, window_rule}
use Rattle.grounding.proofs.Order.{pattern_of, turn_of, W, RightIn, DoneIn}
use Rattle.grounding.proofs.Order.{steps_along, steps_within, visited_within}

-- ---- fields of one bit

one_bit : (ws : List ℕ) (i : ℕ) → field_of 0 ws i < 2
unfolding field_of
one_bit ws i = omega arith

or_bit : (n : ℕ) (b : Bool) → n < 2 → eqb (bit_or n (as_bit b)) 1 ≡ eqb n 1 || b
or_bit zero true h = refl
or_bit zero false h = refl
or_bit (suc zero) true h = refl
or_bit (suc zero) false h = refl
or_bit (suc (suc n)) b h = absurd (omega arith)

module _ (o : WindowInputs) where
  -- the bits of the rules of a set: a table for each, with the places of its left side
  abbrev pub broken_tables : ℕ → Tables
  broken_tables rules =
      rule_tables o.prepared.frame.grid o.prepared.sides rules o.prepared.starts

  -- rule r is kept as broken at x
  abbrev pub is_broken : List ℕ → ℕ → Access → Bool
  is_broken bits r x = broken_in (turn_of o r) o.prepared.frame.grid bits (place_of (window_mapping o) x)

  -- a rule that does not look back is never broken
  pub plain_carried : (r : ℕ) → lasting (window_rule o r).operator ≡ false → (x : Access) (t : ℕ)
      (bits : List ℕ) → Carried o.base t (window_rule o r) x (is_broken bits r x)
  plain_carried r e x t bits =
      let z : is_broken bits r x ≡ false = rw e in
      subst (Carried o.base t (window_rule o r) x) (sym z) (carried_first o.base t (window_rule o r) x
      (λ l. absurd (true≢false (sym l ∙ e))))

  module _ (staged : Staged o) (words : List ℕ) (right : RightIn o words)
      (done : (q : Rule) → Mem q o.base.rules → DoneIn o words q) (last : ℕ) (end : suc last ≡ o.count)
      (rules : ℕ)
      (within : (r : ℕ) → bit r rules ≡ true →
      (bit r o.needed ≡ true) × (lasting (window_rule o r).operator ≡ true))
      (from to : ℕ) (laid : TablesLaid (broken_tables rules) from to)
      (has : (r : ℕ) → bit r rules ≡ true → (x : Access) → o.matters x ≡ true →
      stands_for o.base (window_rule o r) x ≡ true →
      Has (broken_tables rules) r (place_of (window_mapping o) x).pair (o.point x)) where
    abbrev mark : ℕ
    mark = o.ms last

    -- where the bit of rule r at x is
    abbrev bit_of : ℕ → Access → ℕ
    bit_of r x = broken_at (turn_of o r) o.prepared.frame.grid (place_of (window_mapping o) x)

    -- what is kept before the window, and what is to be kept behind it
    abbrev was : ℕ → Access → Bool
    was = is_broken o.bits

    abbrev final : ℕ → Access → Bool
    final r x = was r x
        || (leb (window_rule o r).interval.start mark && not (truth o.base mark (window_rule o r) x))

    -- a rule of the set at an access where it stands
    pub record Instance (r : ℕ) (x : Access) : Type 0 where
      pub rule : bit r rules ≡ true
      pub matters : o.matters x ≡ true
      pub stands : stands_for o.base (window_rule o r) x ≡ true

    -- each bit is as before or as behind
    pub record Marking (bits : List ℕ) : Type 0 where
      pub each : (r : ℕ) (x : Access) → Instance r x →
          (is_broken bits r x ≡ was r x) ⊎ (is_broken bits r x ≡ final r x)

    read-bit : (bits : List ℕ) (r : ℕ) → bit r rules ≡ true → (x : Access) →
        is_broken bits r x ≡ eqb (field_of 0 bits (bit_of r x)) 1
    read-bit bits r e x = rw (within r e).1

    -- different instances have different bits
    instance_same : (r q : ℕ) (x y : Access) → Instance r x → Instance q y → bit_of r x ≡ bit_of q y →
        (r ≡ q) × (x ≡ y)
    instance_same r q x y i j e =
        let a = field_apart (broken_tables rules) from to laid r q
        (place_of (window_mapping o) x).pair (place_of (window_mapping o) y).pair (o.point x) (o.point y)
        (has r i.rule x i.matters i.stands) (has q j.rule y j.matters j.stands)
        (staged.placed.paired x y i.matters j.matters).0 e in
        (a.0, staged.placed.apart x y i.matters j.matters a.1 a.2 a.3)

    -- ---- a rule is marked at a place

    abbrev Marks : ℕ → Place → List ℕ → List ℕ → Type 0
    Marks q = Mark (turn_of o q) o.prepared.frame o.prepared.number words last

    module _ (q : ℕ) (y : Access) (j : Instance q y) (started : (window_rule o q).interval.start ≤ mark)
        (old new : List ℕ) (d : Marks q (place_of (window_mapping o) y) old new) (m : Marking old) where
      own_bit : is_broken new q y ≡ is_broken old q y || not (bit last d.value)
      own_bit =
          let i = bit_of q y in
          read-bit new q j.rule y ∙ ap (λ (n : ℕ). eqb n 1) (d.marked i)
          ∙ ap (λ (b : Bool). eqb (pick b (bit_or (field_of 0 old i) (as_bit (not (bit last d.value))))
          (field_of 0 old i)) 1) (eq_true i i refl)
          ∙ or_bit (field_of 0 old i) (not (bit last d.value)) (one_bit old i)
          ∙ ap (λ (b : Bool). b || not (bit last d.value)) (sym (read-bit old q j.rule y))

      -- the word that it derives is right
      value_right : is_broken old q y ≡ was q y → bit last d.value ≡ truth o.base mark (window_rule o q) y
      value_right e =
          let n = (within q j.rule).0 in
          let t = staged.turn q n in
          let held : ℕ = force_in (turn_of o q) o.prepared.frame o.prepared.number words (o.point y) in
          let f : Derived (turn_of o q).operator held (turn_of o q).active (was q y) d.value =
          subst (λ (b : Bool). Derived (turn_of o q).operator held (turn_of o q).active b d.value) e
          d.derived in
          turn_right o.base staged.strata o.count o.ms staged.window (pattern_of o)
          (pat_on (window_rule o)) (Kept (window_mapping o)) (W o words) right (window_rule o q) t.mem y
          d.value
          (evaluated_at (window_mapping o) staged.placed staged.strata o.count o.ms
          staged.window
          (window_rule o q) (turn_of o q) t o.bits (staged.carried q n) words y j.matters j.stands
          d.value f)
          j.stands (λ r m f. done r m) last (omega arith)

      own_first : is_broken old q y ≡ was q y → is_broken new q y ≡ final q y
      own_first e = own_bit
          ∙ ap₂ (λ (a b : Bool). a || not b) e (value_right e)
          ∙ rw (le-true (window_rule o q).interval.start mark started)

      own_final : is_broken new q y ≡ final q y
      own_final = ⊎_elim own_first
          (λ e. cases (final q y)
          (λ f. own_bit ∙ ap (λ (b : Bool). b || not (bit last d.value)) (e ∙ f) ∙ sym f)
          (λ f. own_first (e ∙ f ∙ sym (or_none (was q y)
          (leb (window_rule o q).interval.start mark && not (truth o.base mark (window_rule o q) y))
          f).0)))
          (m.each q y j)

      -- each bit stays or is as behind
      step-each : (r : ℕ) (x : Access) → Instance r x →
          (is_broken new r x ≡ is_broken old r x) ⊎ (is_broken new r x ≡ final r x)
      step-each r x i = cases (eqb (bit_of r x) (bit_of q y))
          (λ e. let s = instance_same r q x y i j (true_eq (bit_of r x) (bit_of q y) e) in
          inr (ap₂ (is_broken new) s.0 s.1 ∙ own_final ∙ sym (ap₂ final s.0 s.1)))
          (λ e. inl (read-bit new r i.rule x
          ∙ ap (λ (n : ℕ). eqb n 1) (d.marked (bit_of r x))
          ∙ ap (λ (b : Bool). eqb (pick b (bit_or (field_of 0 old (bit_of q y))
          (as_bit (not (bit last d.value)))) (field_of 0 old (bit_of r x))) 1) e
          ∙ sym (read-bit old r i.rule x)))

      step-final : (r : ℕ) (x : Access) → Instance r x → is_broken old r x ≡ final r x →
          is_broken new r x ≡ final r x
      step-final r x i e = ⊎_elim (λ s. s ∙ e) (λ s. s) (step-each r x i)

      step_marking : Marking new
      step_marking = record {
        each = λ r x i. ⊎_elim
            (λ s. ⊎_elim (λ e. inl (s ∙ e)) (λ e. inr (s ∙ e)) (m.each r x i))
            (λ s. inr s) (step-each r x i);
      }

    -- ---- a rule is marked at all places

    -- bits that are as behind stay so
    abbrev Finals : List ℕ → List ℕ → Type 0
    Finals u v = (r : ℕ) (x : Access) → Instance r x → is_broken u r x ≡ final r x → is_broken v r x ≡ final r x

    module _ (q : ℕ) (e : bit q rules ≡ true) where
      module _ (started : (window_rule o q).interval.start ≤ mark) where
        one_marking : (a b : List ℕ) (p : Place) → StandsIn (window_mapping o) (window_rule o q) p →
            Marks q p a b →
            Marking a → Marking b × Finals a b
        one_marking a b p s d m =
            let y = s.access in
            let j : Instance q y = record { rule = e; matters = s.matters; stands = s.stands } in
            let there : Marks q (place_of (window_mapping o) y) a b =
            subst (λ (p : Place). Marks q p a b) s.place d in
            (step_marking q y j started a b there m, step-final q y j started a b there m)

        row_marking : {u v : List ℕ} → Steps (Marks q) (StandsIn (window_mapping o) (window_rule o q)) u v →
            Marking u →
            Marking v × Finals u v
        row_marking {u} row m = steps_along (λ v. Marking v × Finals u v)
            (λ a b p s d g.
            let h = one_marking a b p s d g.0 in (h.0, λ r x i f. h.1 r x i (g.1 r x i f)))
            row (m, λ r x i f. f)

        seen-final : {u v : List ℕ} (x : Access) → Instance q x →
            Visited (Marks q) (StandsIn (window_mapping o) (window_rule o q)) (place_of (window_mapping o) x) u
            v → Marking u
            →
            is_broken v q x ≡ final q x
        seen-final x i seen m =
            let a = (row_marking seen.to m).0 in
            let b = step_marking q x i started seen.before seen.after seen.step a in
            (row_marking seen.from b).1 q x i
            (own_final q x i started seen.before seen.after seen.step a)

      pub record RuleFinal (u v : List ℕ) : Type 0 where
        pub marking : Marking v
        pub finals : Finals u v
        pub own : (x : Access) → Instance q x → is_broken v q x ≡ final q x

      rule-final : {u v : List ℕ} → RuleMarked o.prepared o.active words last mark q u v → Marking u →
          RuleFinal u v
      rule-final {u} {v} (inl (late, z)) m =
          let same : (r : ℕ) (x : Access) → is_broken v r x ≡ is_broken u r x =
          λ r x. ap (λ (b : List ℕ). is_broken b r x) z in
          record {
            marking = subst Marking (sym z) m;
            finals = λ r x i f. same r x ∙ f;
            own = λ x i. same q x ∙ ⊎_elim
                (λ s. s ∙ sym (ap (λ (b : Bool). was q x
                || (b && not (truth o.base mark (window_rule o q) x)))
                (le-false (window_rule o q).interval.start mark late) ∙ or_false (was q x)))
                (λ s. s) (m.each q x i);
          }
      rule-final {u} {v} (inr (started, ran)) m =
          let n = (within q e).0 in
          let row = row_marking started (steps_within (staged.stands q n) ran.steps) m in
          record {
            marking = row.0;
            finals = row.1;
            own = λ x i.
                let a = staged.reached q n x i.matters i.stands in
                seen-final started x i
                (subst (λ (p : Place). Visited (Marks q) (StandsIn (window_mapping o) (window_rule o q)) p u v)
                (sym a.5)
                (visited_within (staged.stands q n) (ran.all a.0 a.1 a.2 a.3 a.4))) m;
          }

    -- ---- all rules of the set

    all_final : {r : ℕ} {u v : List ℕ} → Marked o.prepared o.active words last mark rules r u v →
        Marking u → ((q : ℕ) → q < r → (x : Access) → Instance q x → is_broken u q x ≡ final q x) →
        (q : ℕ) (x : Access) → Instance q x → is_broken v q x ≡ final q x
    all_final {r} (turns.Marked.none clean) m f q x i = cases (ltb q r)
        (λ c. f q (true-le (suc q) r c) x i)
        (λ c. absurd (clean q (omega (arith, false-le (suc q) r c)) (staged.low q (within q i.rule).0)
        i.rule))
    all_final {u = u} (turns.Marked.then {v = b} r k low high between e ran more) m f q x i =
        let a = rule-final k e ran m in
        all_final more a.marking (λ q l x i. cases (ltb q r)
        (λ c. a.finals q x i (f q (true-le (suc q) r c) x i))
        (λ c. cases (ltb q k)
        (λ g. absurd (between q (omega (arith, false-le (suc q) r c)) (true-le (suc q) k g) i.rule))
        (λ g. let s : q ≡ k = omega (arith, false-le (suc q) k g) in
        subst (λ (c : ℕ). Instance c x → is_broken b c x ≡ final c x) (sym s) (a.own x) i))) q x i

    -- behind the window, u being the first instant of the next one, what is kept is right
    pub marked_carried : {bits : List ℕ} →
        Marked o.prepared o.active words last mark rules 0 o.bits bits →
        (r : ℕ) → bit r rules ≡ true → (x : Access) → o.matters x ≡ true →
        stands_for o.base (window_rule o r) x ≡ true →
        (u : ℕ) → mark < u → clear (all_marks o.base) mark (u - 1) ≡ true → (active : List ℕ) →
        Carried o.base u (window_rule o r) x
        (broken_in (turn_in o.prepared active r) o.prepared.frame.grid bits
        (place_of (window_mapping o) x))
    marked_carried {bits} marked r e x m s u h c active =
        let n = (within r e).0 in
        let t = staged.turn r n in
        let i : Instance r x = record { rule = e; matters = m; stands = s } in
        let start : Marking o.bits = record { each = λ r x i. inl refl } in
        let z = all_final marked start (λ q l x i. absurd (omega arith)) r x i in
        subst (Carried o.base u (window_rule o r) x) (sym z)
        (carried_on o.base staged.strata (window_rule o r) t.mem x (o.ms 0) mark u (was r x)
        (truth o.base mark (window_rule o r) x) (rises last refl) h c refl (staged.carried r n x m s))
      where
        rises : (i : ℕ) → i ≡ last → o.ms 0 ≤ o.ms i
        rises zero q = omega arith
        rises (suc i) q =
            let g = (window_framed o.base o.count o.ms staged.window (window_rule o r)
            (staged.turn r (within r e).0).mem).rising 0 (suc i) (omega arith) (omega arith) in
            omega arith

    -- and so for all rules, if the set has those that look back
    pub next_carried : {bits : List ℕ} →
        Marked o.prepared o.active words last mark rules 0 o.bits bits →
        ((r : ℕ) → bit r o.needed ≡ true → lasting (window_rule o r).operator ≡ true → bit r rules ≡ true)
        →
        (u : ℕ) → mark < u → clear (all_marks o.base) mark (u - 1) ≡ true → (active : List ℕ) →
        (r : ℕ) → bit r o.needed ≡ true → (x : Access) → o.matters x ≡ true →
        stands_for o.base (window_rule o r) x ≡ true → Carried o.base u (window_rule o r) x
        (broken_in (turn_in o.prepared active r) o.prepared.frame.grid bits
        (place_of (window_mapping o) x))
    next_carried {bits} marked lasts u h c active r n x m s = cases (lasting (window_rule o r).operator)
        (λ l. marked_carried marked r (lasts r n l) x m s u h c active)
        (λ l. plain_carried r l x u bits)
