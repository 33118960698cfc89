-- The bodies of a sound base are as a question wants them (`records-bodies`), also where its rules are left
-- out (`ruleless-bodies`, `ruleless-listing`); and what is listed are WHEN's intervals (`filling`,
-- `listing`). A rule's number is its place (`numbers`).
use mathlib.Core.Path.{◌≡◌, refl, sym, ap, ◌∙◌, subst}
use mathlib.Core.Logic.{inl, inr}
use mathlib.Core.Bool.{Bool, true, false, ◌&&◌, ◌||◌, beq}
use mathlib.Core.List.{List, [], ◌∷◌}
use Prim.Native.Nat.{ℕ, zero, suc, ◌+◌, ◌*◌, ◌/◌, ◌≤◌, ◌<◌}
use native.Mathlib.Omega.{arith}
use lib.Dec.{leb, ltb, eqb}
use lib.ListN.{length, drop}
use lib.Seq.{drop-nil, drop-drop}
use Rattle.foundation.specs.declared.Interval.{Interval}
use Rattle.foundation.specs.Tests.{pick, cases, le-true, true-le, eq_true, true_eq, ne_false, and-true}
use Rattle.foundation.specs.Tests.{and_three, beq_eq}
use Rattle.foundation.specs.Intervals.{maximal}
use Rattle.foundation.specs.Lists.{anyb, Mem, all_mem, conjunct}
use Rattle.foundation.specs.ByteRecords.{length-records, record_nth, record_mem, mem_record}
use Rattle.model.specs.declared.Access.{Access}
use Rattle.model.specs.declared.Authorization.{Authorization}
use Rattle.model.specs.declared.Rule.{Rule}
use Rattle.model.specs.declared.Side.{Side}
use Rattle.model.specs.Base.{Base}
use Rattle.model.specs.Effects.{with_rules}
use Rattle.model.specs.Encoding.{decode, authorization_of, rule_of}
use Rattle.model.proofs.HoldsMarks.{when-count}
use Rattle.model.specs.Ranges.{is_label, is_subject, is_object, is_mode}
use Rattle.model.specs.Rules.{stands_for, may, when}
use Rattle.model.specs.Soundness.{sound_bytes, or_star, side_in, interval_in, starts_first}
use Rattle.model.specs.Soundness.{chained, authorization_in, rule_in, stars_meet}
use Rattle.model.specs.SoundTests.{intervals_test, order_test}
use Rattle.model.specs.Stratification.{is_star}
use Rattle.laws.specs.Chained.{Pairwise, Passing, chained_all}
use Rattle.laws.specs.RulesAfter.{stratified-less}
use Rattle.encoding.specs.declared.Counts.{Counts}
use Rattle.encoding.specs.Format.{counts_of, authorizations_at, rules_at, authorizations_in, rules_in, rule_at}
use Rattle.encoding.proofs.SoundBodies.{lent, base-sound, authorizations_in_lem, rules_in_lem, fitting, there}
use Rattle.encoding.proofs.SoundBodies.{authorizations-lent, rules_lent, rest_of}
use Rattle.direct.specs.Direct.{held_directly}
use Rattle.direct.proofs.DirectFacts.{direct-may, ruleless_when}
use Rattle.questions.specs.RuleNumbers.{Numbering}
use Rattle.relevance.proofs.ChoiceFacts.{placed_in}
use Rattle.scan.specs.declared.Track.{Track}
use Rattle.scan.specs.Filled.{filled}
use Rattle.scan.specs.Runs.{inside, ScannedTo}
use Rattle.scan.proofs.RunFacts.{fewer}
use Rattle.scan.specs.Listing.{Filling, Listing}
use Rattle.scan.proofs.FilledFacts.{filled_all, listed_if_room_all, listed_if_room-short}
use Rattle.outlines.specs.Coordinates.{Ranged}
use Rattle.queries.specs.declared.Totals.{Totals}
use Rattle.queries.specs.Starting.{Bodies}
use Rattle.queries.specs.Asking.{BodiesIn}

-- ---- ranges

side_ranged : (s : Side) → side_in s ≡ true → Ranged s
side_ranged s e =
    let a = or_star is_subject s.subject in
    let b = or_star is_mode s.mode in
    let w = and-true (a && b) (or_star is_object s.object) e in
    let v = and-true a b w.0 in
    record {
      subject = star-below 1023 s.subject v.0;
      object = star-below 128 s.object w.1;
      mode = star-below 8 s.mode v.1;
    }
  where
    star-below : (m n : ℕ) → is_star n || (leb 1 n && leb n m) ≡ true → n ≤ m
    star-below m n e = cases (is_star n)
        (λ z. omega (arith, true_eq n 0 z))
        (λ z. let w : leb 1 n && leb n m ≡ true = rw z at e in
        true-le n m (and-true (leb 1 n) (leb n m) w).1)

rule-sides : (r : Rule) → rule_in r ≡ true → Ranged r.left × Ranged r.right
rule-sides r e =
    let t = conjunct (is_label r.label ∷ is_subject r.author ∷ side_in r.left ∷ side_in r.right
    ∷ or_star is_subject r.grantor ∷ interval_in r.interval ∷ []) e in (
      side_ranged r.left (t _ (inr (inr (inl refl)))),
      side_ranged r.right (t _ (inr (inr (inr (inl refl))))),
    )

-- stars stand on both sides or on neither
rule_stars : (r : Rule) → stars_meet r ≡ true →
    (is_star r.left.subject ≡ is_star r.right.subject)
    × (is_star r.left.object ≡ is_star r.right.object)
rule_stars r e =
    let w = (and_three (beq (is_star r.left.subject) (is_star r.right.subject))
    (beq (is_star r.left.mode) (is_star r.right.mode))
    (beq (is_star r.left.object) (is_star r.right.object))).0 e in (
      beq_eq (is_star r.left.subject) (is_star r.right.subject) w.0,
      beq_eq (is_star r.left.object) (is_star r.right.object) w.2,
    )

-- ---- numbers

-- a rule's number is its place; labels tell the rules apart
abbrev number_in : List Rule → Rule → ℕ
number_in [] r = 0
number_in (q ∷ rest) r = let i = number_in rest r in pick (eqb q.label r.label) 0 (suc i)

abbrev rising : Rule → Rule → Bool
rising q r = ltb q.label r.label

rising_trans : (x y z : Rule) → rising x y ≡ true → rising y z ≡ true → rising x z ≡ true
rising_trans x y z e f =
    let a = true-le (suc x.label) y.label e in
    let b = true-le (suc y.label) z.label f in
    le-true (suc x.label) z.label (omega arith)

-- where the labels rise, a rule's number is its place
number_nth : (rules : List Rule) → Pairwise (Passing rising) rules → (i : ℕ) (r : Rule) (rest : List Rule) →
    Mem r rules → drop i rules ≡ r ∷ rest → number_in rules r ≡ i
number_nth [] w i r rest m e = absurd m.lower
number_nth (q ∷ rules) w zero r rest m e =
    let p : q ≡ r = cc in
    rw (eq_true q.label r.label (ap (λ (z : Rule). z.label) p))
number_nth (q ∷ rules) w (suc i) r rest m e =
    let n = mem-drop rules i r rest e in
    let l = true-le (suc q.label) r.label (w.0 r n) in
    rw (ne_false q.label r.label (λ z. omega arith)) (ap suc (number_nth rules w.1 i r rest n e))
  where
    mem-drop : (rules : List Rule) (i : ℕ) (r : Rule) (rest : List Rule) → drop i rules ≡ r ∷ rest →
        Mem r rules
    mem-drop [] i r rest e =
        let n : ◌≡◌ {A = List Rule} [] (r ∷ rest) = sym (drop-nil i) ∙ e in
        let z : ◌≡◌ {A = ℕ} 0 1 = cc in
        absurd (omega arith)
    mem-drop (q ∷ rules) zero r rest e = let p : r ≡ q = cc in inl p
    mem-drop (q ∷ rules) (suc i) r rest e = inr (mem-drop rules i r rest e)

numbers : (n : ℕ) (body : List ℕ) → chained rising (rules_in n body) ≡ true →
    Numbering (rules_in n body) (number_in (rules_in n body)) (rule_at body)
numbers n body e =
    let rules = rules_in n body in
    let w = chained_all rising rising_trans rules e in
    let count = length-records 28 rule_of n body in
    let at : (i : ℕ) → i < n → number_in rules (rule_at body i) ≡ i =
    λ i h. number_nth rules w i (rule_at body i) (drop (suc i) rules) (record_mem 28 rule_of n body i h)
    (record_nth 28 rule_of n body i h) in
    record {
      numbered = λ r m. let z = mem_record 28 rule_of n body r m in
          let k : number_in rules r ≡ z.0 = ap (number_in rules) z.2 ∙ at z.0 z.1 in
          (omega (arith, count, k, z.1), ap (rule_at body) k ∙ sym z.2);
      ruled = λ i h. let l : i < n = omega (arith, count) in (record_mem 28 rule_of n body i l, at i l);
      nth = λ i h. record_nth 28 rule_of n body i (omega (arith, count));
    }

-- ---- a sound base

module _ (s : List ℕ) (e : sound_bytes s ≡ true) (c : Counts) (q : c ≡ counts_of s) (la ra : ℕ)
    (al : la ≡ authorizations_at c) (ar : ra ≡ rules_at c) where
  as_rules : rules_in c.rules (lent s ra) ≡ (decode s).rules
  as_rules = rules_lent s c q ra ar

  sides : (i : ℕ) → i < c.rules → Ranged (rule_at (lent s ra) i).left × Ranged (rule_at (lent s ra) i).right
  sides i h =
      let r = rule_at (lent s ra) i in
      let m = record_mem 28 rule_of c.rules (lent s ra) i h in
      rule-sides r (all_mem rule_in (rules_in c.rules (lent s ra)) (rw as_rules (rules_in_lem s e)) r m)

  stars : (i : ℕ) → i < c.rules →
      (is_star (rule_at (lent s ra) i).left.subject ≡ is_star (rule_at (lent s ra) i).right.subject)
      × (is_star (rule_at (lent s ra) i).left.object ≡ is_star (rule_at (lent s ra) i).right.object)
  stars i h =
      let r = rule_at (lent s ra) i in
      let m = record_mem 28 rule_of c.rules (lent s ra) i h in
      rule_stars r (all_mem stars_meet (rules_in c.rules (lent s ra)) (rw as_rules (base-sound s e).stars)
      r m)

  sound-bodies : Bodies (decode s) (lent s la) c.authorizations (lent s ra) c.rules (decode s)
  sound-bodies =
      let f = fitting s e c q in
      let w = base-sound s e in
      record {
        lines_are = sym (authorizations-lent s c q la al);
        rules_are = sym as_rules;
        few = omega (arith, f);
        there = there s la (authorizations_at c) (c.authorizations * 24) al (omega (arith, f));
        well_formed = record {
          few = omega (arith, f);
          there = there s ra (rules_at c) (c.rules * 28) ar (omega (arith, f));
          left = λ i h. (sides i h).0;
          right = λ i h. (sides i h).1;
          stars = stars;
        };
        strata = w.strata;
        number = number_in (rules_in c.rules (lent s ra));
        numbering = subst (λ (rules : List Rule). Numbering rules (number_in (rules_in c.rules (lent s ra)))
            (rule_at (lent s ra))) as_rules (numbers c.rules (lent s ra)
            (rw as_rules (order_test (decode s) w _ (inr (inr (inr (inr (inl refl))))))));
        lines_in = λ a m. (
          placed_in a (all_mem authorization_in (decode s).authorizations (authorizations_in_lem s e) a m),
          true-le a.interval.start a.interval.end
              (all_mem (λ a. starts_first a.interval) (decode s).authorizations
              (intervals_test (decode s) w _ (inl refl)) a m),
        );
        powers = λ o u. refl;
      }

-- as they are lent from the authorizations on, with the rules behind these
module _ (s : List ℕ) (e : sound_bytes s ≡ true) (c : Counts) (q : c ≡ counts_of s) (at : ℕ)
    (al : at ≡ authorizations_at c) where
  pub records_in : at ≤ length s
  records_in = omega (arith, al, fitting s e c q)

  rules_behind : lent s (rules_at c) ≡ drop (c.authorizations * 24) (lent s at)
  rules_behind =
      rest_of s (rules_at c) (authorizations_at c + c.authorizations * 24) (omega arith)
      ∙ sym (drop-drop (c.authorizations * 24) (authorizations_at c) s)
      ∙ ap (drop (c.authorizations * 24)) (sym (rest_of s at (authorizations_at c) al))

  pub records-bodies : BodiesIn (lent s at)
      (record { authorizations = c.authorizations; rules = c.rules }) (decode s) (decode s)
  records-bodies = subst (λ (body : List ℕ). Bodies (decode s) (lent s at) c.authorizations body
      c.rules (decode s)) rules_behind (sound-bodies s e c q at (rules_at c) al refl)

-- rules that are lent
pub rules_as : {holder : Base} {records : List ℕ} {n : Totals} {base : Base} →
    BodiesIn records n holder base → base.rules ≡ rules_in n.rules (lent records (n.authorizations * 24))
rules_as {records = records} {n = n} b = b.rules_are
    ∙ ap (rules_in n.rules) (sym (rest_of records (n.authorizations * 24) (n.authorizations * 24) refl))

pub rules_there : {holder : Base} {records : List ℕ} {n : Totals} {base : Base} →
    BodiesIn records n holder base → n.rules * 28 ≤ length (lent records (n.authorizations * 24))
rules_there {records = records} {n = n} b =
    rw (rest_of records (n.authorizations * 24) (n.authorizations * 24) refl) b.well_formed.there

-- where none stands for the access, the authorizations decide
pub held-alone : {holder : Base} {records : List ℕ} {n : Totals} {base : Base} →
    BodiesIn records n holder base → (x : Access) (t : ℕ) →
    anyb (λ r. stands_for base r x) base.rules ≡ false → {yes : Bool} →
    yes ≡ held_directly (authorizations_in n.authorizations records) x t → yes ≡ may base x t
held-alone {base = base} b x t none e = e
    ∙ ap (λ (xs : List Authorization). held_directly xs x t) (sym b.lines_are)
    ∙ sym (direct-may base x t none)

-- ---- a base without its rules

pub ruleless_bodies : {holder : Base} {lines : List ℕ} {total : ℕ} {body : List ℕ} {n : ℕ} {base : Base} →
    Bodies holder lines total body n base → Bodies holder lines total body 0 (with_rules [] base)
ruleless_bodies {base = base} b = record {
  lines_are = b.lines_are;
  rules_are = refl;
  few = b.few;
  there = b.there;
  well_formed = record {
    few = omega arith;
    there = omega arith;
    left = λ i h. absurd (omega arith);
    right = λ i h. absurd (omega arith);
    stars = λ i h. absurd (omega arith);
  };
  strata = stratified-less [] base.rules (λ r m. absurd m.lower) b.strata;
  number = λ r. 0;
  numbering = record {
    numbered = λ r m. absurd m.lower;
    ruled = λ i h. absurd (omega arith);
    nth = λ i h. absurd (omega arith);
  };
  lines_in = b.lines_in;
  powers = b.powers;
}

-- ---- WHEN

module _ {holder : Base} {lines : List ℕ} {total : ℕ} {body : List ℕ} {n : ℕ} {base : Base}
    (b : Bodies holder lines total body n base) (x : Access) where
  -- no more intervals than there are authorizations and rules, and one
  pub most : length (when base x) ≤ total + n + 1
  most = omega (
    arith,
    when-count base x,
    ap length b.lines_are,
    ap length b.rules_are,
    length-records 24 authorization_of total lines,
    length-records 28 rule_of n body,
  )

  -- an interval that is open behind the last instant is one of them
  pub open_few : (lent : List ℕ) (w : Track) (list : List ℕ) →
      ScannedTo (may base x) 4294967295 lent 4294967296 w list → inside w ≡ true → w.count < 1089
  unfolding when
  open_few lent w list r o = omega (
    arith,
    fewer (may base x) 4294967295 lent 4294967296 w list r o (omega arith) (λ h. absurd (omega arith)),
    most,
    b.few,
    b.well_formed.few,
  )

  -- the intervals where MAY says yes are WHEN's
  pub filling : (r : ℕ) (list list' : List ℕ) → (r ≡ length (maximal 0 4294967295 (may base x)))
      × (list' ≡ filled (maximal 0 4294967295 (may base x)) list) → Filling (when base x) r list list'
  unfolding when
  filling r list list' e = record { count = e.0; lent = e.1 }

  -- what a list is filled with is all of it, where it has room
  pub listing : (r : ℕ) (list list' : List ℕ) → length (when base x) ≤ length list / 2 →
      Filling (when base x) r list list' → Listing (when base x) r list list'
  listing r list list' room w = record {
    count = w.count;
    few = omega (arith, w.count, most, b.few, b.well_formed.few);
    lent = w.lent ∙ filled_all (when base x) list (omega arith)
        ∙ sym (listed_if_room_all (when base x) list room);
  }

  -- and a list that has none is as it was
  pub listing_short : (r : ℕ) (list : List ℕ) → length list / 2 < length (when base x) →
      r ≡ length (when base x) → Listing (when base x) r list list
  listing_short r list short e = record {
    count = e;
    few = omega (arith, most, b.few, b.well_formed.few);
    lent = sym (listed_if_room-short (when base x) list short);
  }

-- where no rule stands for the access, WHEN's intervals are those without the rules
pub ruleless_listing : (base : Base) (x : Access) → anyb (λ r. stands_for base r x) base.rules ≡ false →
    {r : ℕ} {list list' : List ℕ} → Listing (when (with_rules [] base) x) r list list' →
    Listing (when base x) r list list'
ruleless_listing base x none {r} {list} {list'} w =
    subst (λ (xs : List Interval). Listing xs r list list')
    (ruleless_when base (with_rules [] base) x none refl refl) w
