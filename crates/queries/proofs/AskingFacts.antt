-- A question by its access and instant: from what is known before places are reached (`asked-outlined`) to
-- the tables as the steps leave them (`outline-tabled`), and from what is found to the answer
-- (`finds-answers`).
use mathlib.Core.Path.{◌≡◌, refl, sym, ap, ap₂, ◌∙◌, subst}
use mathlib.Core.Bool.{true, false, not, ◌&&◌, true≢false}
use mathlib.Core.List.{List}
use Prim.Native.Nat.{ℕ, suc, ◌+◌, ◌*◌, ◌-◌, ◌≤◌, ◌<◌}
use native.Mathlib.Omega.{arith}
use native.Mathlib.Nat.{min-le_left}
use lib.Dec.{leb, ltb}
use lib.ListN.{length, get_or, replicate, take, length-take, get_or-eq_default}
use lib.Seq.{get_or-take}
use Rattle.std.specs.Prelude.{Option, Some, None}
use Rattle.std.specs.Option.{is_some}
use Rattle.foundation.specs.Tests.{not-false, and-true, cases, true-le, false-le}
use Rattle.foundation.specs.BitMasks.{bit}
use Rattle.model.specs.declared.Access.{Access}
use Rattle.model.specs.Base.{Base}
use Rattle.model.specs.Ranges.{is_subject, is_mode, is_object}
use Rattle.model.specs.Answers.{access_in}
use Rattle.model.specs.Rules.{may}
use Rattle.encoding.specs.Format.{rule_at}
use Rattle.model.specs.Stratification.{lasting}
use Rattle.reach.specs.Net.{Formed, has}
use Rattle.places.specs.declared.Grid.{Grid}
use Rattle.places.specs.Needs.{both_signs}
use Rattle.tables.specs.declared.Frame.{Frame}
use Rattle.tables.specs.declared.Place.{Place}
use Rattle.tables.specs.TableLayout.{room_of}
use Rattle.masks.specs.RuleMasks.{RulesIn, Needed}
use Rattle.scan.specs.Runs.{ScannedTo}
use Rattle.outlines.specs.Coordinates.{Chart, mode_of, pair_of}
use Rattle.outlines.proofs.CoordinateFacts.{pair_below}
use Rattle.outlines.specs.NeededAccesses.{needed}
use Rattle.grounding.specs.RuleTurns.{prepared}
use Rattle.engine.specs.declared.Query.{Query}
use Rattle.engine.specs.declared.Found.{Found}
use Rattle.outlines.specs.LeftMasks.{Owned}
use Rattle.engine.specs.Posed.{Finds}
use Rattle.engine.specs.Going.{chart_of}
use Rattle.queries.specs.Drawing.{RulesDrawn, Blank, own_of, Mapped, Arranged}
use Rattle.queries.specs.Starting.{Tabled}
use Rattle.queries.specs.Asking.{last_asked, Answers, WalkStart, AskedOutline}
use Rattle.queries.proofs.Bounds.{bits-few}
use Rattle.queries.proofs.DrawingFacts.{chart_small, net_formed, own_known, own_pair, map_gridded}
use Rattle.queries.proofs.DrawingFacts.{needed_low, needed_in_lem, asked-needed}
use Rattle.queries.proofs.StartingFacts.{zeros_at}

-- ---- the answer

none_of : (o : Option ℕ) → is_some o ≡ false → o ≡ None
none_of None e = refl
none_of (Some t) e = absurd (true≢false e)

pub finds_answers : (instant : Option ℕ) (q : Query) (base : Base) (x : Access) (r : Found) (old new : List ℕ) →
    q.to ≡ last_asked instant → (instant ≡ None → q.from ≡ 0) → is_some instant ≡ not q.listing →
    Finds q base x r old new → Answers instant base x r old new
finds_answers instant q base x r old new to from listing f = record {
  yes = λ t e. let z : q.to ≡ t = to ∙ ap last_asked e in f.last ∙ ap (may base x) z;
  listed = λ e.
      let z : q.to ≡ 4294967295 = to ∙ ap last_asked e in
      let y : suc q.to ≡ 4294967296 = omega arith in
      subst (λ (u : ℕ). ScannedTo (may base x) u old 4294967296 r.track new) z
      (subst (λ (v : ℕ). ScannedTo (may base x) q.to old v r.track new) y
      (f.listed (not-false q.listing (sym listing ∙ ap is_some e))));
}

-- ---- before places are reached

module _ {holder : Base} {n : ℕ} {C : Chart} {x own : Access} {s o : ℕ} {body left feed sides right : List ℕ}
    {choosy : ℕ} (k : AskedOutline holder n C x own s o body left feed sides right choosy) where
  outline_pair : pair_of C (own_of C x) x ≡ o * C.width + s
  outline_pair = own_pair k.outline ∙ rw (k.subject, k.object)

  -- the asked pair is one of the net's
  pub pair_in_lem : (need : List ℕ) → length need ≡ C.height * C.width → o * C.width + s < length need
  pair_in_lem need size = omega (
    arith,
    size,
    outline_pair,
    pair_below C (own_of C x) x (own_known k.outline k.some k.few),
  )

  pub pair_few : o * C.width + s < 4225
  pair_few = omega (
    arith,
    outline_pair,
    pair_below C (own_of C x) x (own_known k.outline k.some k.few),
    (chart_small C k.outline.rules.well_formed.few k.outline.rules.charted).3,
  )

  pub outline_formed : (need : List ℕ) → length need ≡ C.height * C.width →
      Formed right C.width (length need)
  outline_formed need size = rw size (net_formed k.outline)

  -- what is needed of it is there
  module _ {need number codes : List ℕ} {g : Grid} (m : Mapped C left right need number codes g) where
    pub outline_matters :
        ((b : ℕ) → bit b (both_signs (mode_of x)) ≡ true → has need (o * C.width + s) b ≡ true) →
        needed C (own_of C x) need x ≡ true
    outline_matters there = asked-needed k.outline m k.some k.few
        (λ b e. ap (λ (j : ℕ). has need j b) outline_pair ∙ there b e)

    module _ {rules : ℕ} (needs : Needed left need codes C.width g.pairs rules) (lasts : ℕ)
        (lasts_is : (r : ℕ) → bit r lasts ≡ bit r rules && lasting (rule_at body r).operator) where
      lasts-needed : (r : ℕ) → bit r lasts ≡ true → bit r rules ≡ true
      lasts-needed r e =
          (and-true (bit r rules) (lasting (rule_at body r).operator) (sym (lasts_is r) ∙ e)).0

      pub lasts_in : RulesIn lasts body
      lasts_in r e = needed_in_lem k.outline m needs r (lasts-needed r e)

      -- the broken bits have room
      pub lasts-room : room_of g sides lasts 64 ≤ 120256
      lasts-room = bits-few C k.outline.rules.well_formed k.outline.rules.charted
          (map_gridded k.outline m) lasts (λ r e. needed_low k.outline m needs r (lasts-needed r e))
          sides k.outline.rules.lefts

-- ---- a question, once the rules are drawn

pub access_ranges : (x : Access) → access_in x ≡ true →
    (x.subject ≤ 1023) × (1 ≤ x.mode) × (x.mode ≤ 8) × (x.object ≤ 128)
access_ranges x a =
    let i = is_subject x.subject in
    let m = is_mode x.mode in
    let o = is_object x.object in
    let both = and-true (i && m) o a in
    let two = and-true i m both.0 in (
      true-le x.subject 1023 (and-true (leb 1 x.subject) (leb x.subject 1023) two.0).1,
      true-le 1 x.mode (and-true (leb 1 x.mode) (leb x.mode 8) two.1).0,
      true-le x.mode 8 (and-true (leb 1 x.mode) (leb x.mode 8) two.1).1,
      true-le x.object 128 (and-true (leb 1 x.object) (leb x.object 128) both.1).1,
    )

-- the masks of the asked access are put in
module _ {holder : Base} {n : ℕ} {C : Chart} {body left left' feed sides right : List ℕ} {choosy : ℕ}
    (d : RulesDrawn holder n C body left feed sides right choosy) (x own : Access)
    (in_range : access_in x ≡ true) (own_is : own ≡ own_of C x)
    (owned : Owned holder n body own left left') where
  pub asked_outlined : AskedOutline holder n C x own (get_or C.subjects x.subject 0)
      (get_or C.objects x.object 0) body left' feed sides right choosy
  asked_outlined = record {
    outline = record {
      outlined = left;
      rules = d;
      owned = subst (λ (y : Access). Owned holder n body y left left') own_is owned;
    };
    own_is = own_is;
    subject = refl;
    object = refl;
    some = (access_ranges x in_range).1;
    few = (access_ranges x in_range).2;
  }

-- ---- tables as they are made

pub zeros-blank : (n : ℕ) → Blank (replicate n 0)
zeros-blank n i = zeros_at n i

-- so is a part
pub part-blank : (n : ℕ) (table : List ℕ) → Blank table → Blank (take n table)
part-blank n table b i = cases (ltb i n)
    (λ e. get_or-take n table i 0 (true-le (suc i) n e) ∙ b i)
    (λ e. get_or-eq_default (take n table) 0 {n = i} (omega (
      arith,
      false-le (suc i) n e,
      length-take n table,
      min-le_left n (length table),
    )))

-- the pairs are few
pub outline_few : {holder : Base} {n : ℕ} {C : Chart} {x own : Access} {s o : ℕ}
    {body left feed sides right : List ℕ} {choosy : ℕ} →
    AskedOutline holder n C x own s o body left feed sides right choosy → C.height * C.width ≤ 4225
outline_few {C = C} k = (chart_small C k.outline.rules.well_formed.few k.outline.rules.charted).3

-- ---- the tables

module _ {holder : Base} {n : ℕ} {subjects objects : List ℕ} {width height : ℕ} {x own : Access} {s o : ℕ}
    {body left feed sides right : List ℕ} {choosy : ℕ}
    (k : AskedOutline holder n
    (record { subjects = subjects; objects = objects; width = width; height = height }) x
    own s o body left feed sides right choosy) {need number codes first starts : List ℕ} {f : Frame}
    (m : Mapped (record { subjects = subjects; objects = objects; width = width; height = height }) left
    right need
    number codes f.grid) {rules : ℕ} (needs : Needed left need codes width f.grid.pairs rules)
    (lasts bits : ℕ) where
  -- they are as the steps leave them
  pub outline_tabled : (q : Query) (instant : Option ℕ) →
      ((b : ℕ) → bit b (both_signs (mode_of x)) ≡ true → has need (o * width + s) b ≡ true) →
      Arranged n body sides right first starts choosy rules lasts bits f →
      q.own ≡ own →
      q.place ≡ record {
        pair = get_or number (o * width + s) 0;
        point = record { subject = s; mode = x.mode - 1; object = o };
      } →
      q.to ≡ last_asked instant → is_some instant ≡ not q.listing → WalkStart instant body lasts q.from →
      Tabled holder n (chart_of subjects objects f)
      (prepared body left feed sides right need codes number first starts f) rules lasts bits q x
  outline_tabled q instant there a own_is place to listing history =
      let same : ◌≡◌ {A = Chart}
      (record { subjects = subjects; objects = objects; width = width; height = height })
      (chart_of subjects objects f) = λ i. record {
        subjects = subjects;
        objects = objects;
        width = sym m.grid.0 i;
        height = sym m.grid.1 i;
      } in
      subst (λ (C : Chart). Tabled holder n C
      (prepared body left feed sides right need codes number first starts f) rules lasts bits q x) same
      (record {
        choosy = choosy;
        outline = k.outline;
        mapped = m;
        needs = needs;
        arranged = a;
        matters = outline_matters k m there;
        asked = record {
          own = own_is ∙ k.own_is;
          place = place ∙ ap₂ (λ (u v : ℕ). placed u v) k.subject k.object;
          forward = omega (arith, history.forward, to);
          first = history.first;
          whole = λ l. history.all (none_of instant (listing ∙ ap not l));
        };
      })
    where
      placed : ℕ → ℕ → Place
      placed u v = record {
        pair = get_or number (v * width + u) 0;
        point = record { subject = u; mode = x.mode - 1; object = v };
      }
