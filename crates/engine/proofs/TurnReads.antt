-- What the turn of a rule reads is there (`rule-able`): each rule that matters can have its turn.
use mathlib.Core.Path.{◌≡◌, refl, sym, ap, ◌∙◌, subst}
use mathlib.Core.Bool.{true}
use mathlib.Core.List.{List}
use Prim.Native.Nat.{ℕ, suc, ◌+◌, ◌*◌, ◌/◌, ◌^◌, ◌≤◌, ◌<◌}
use native.Mathlib.Nat.{mod-lt}
use native.Mathlib.Omega.{arith}
use lib.Dec.{eqb}
use lib.ListN.{length, get_or}
use Rattle.foundation.specs.Tests.{cases, and-true, and_intro}
use Rattle.foundation.specs.BitMasks.{bit, bit_le}
use Rattle.foundation.specs.BitLaws.{bit_and_lem}
use Rattle.model.specs.declared.Access.{Access}
use Rattle.model.specs.declared.Rule.{Rule}
use Rattle.model.specs.Base.{Base}
use Rattle.model.specs.Rules.{stands_for, right_of}
use Rattle.encoding.specs.Format.{rule_at}
use Rattle.model.specs.Stratification.{lasting}
use Rattle.places.specs.declared.Point.{Point}
use Rattle.places.proofs.NumberFacts.{used_before-le}
use Rattle.places.specs.Regions.{size_of, Within}
use Rattle.tables.specs.declared.Place.{Place}
use Rattle.tables.specs.TableLayout.{region_at, whole_region}
use Rattle.tables.proofs.TableSizes.{size_small}
use Rattle.tables.specs.TableGiving.{shapes_of}
use Rattle.tables.proofs.GivingSteps.{reaches}
use Rattle.masks.specs.RuleMasks.{RulesIn}
use Rattle.outlines.specs.Coordinates.{Chart}
use Rattle.outlines.proofs.CoordinateFacts.{known_is}
use Rattle.outlines.proofs.RightAccesses.{right_object_lem, right_subject_lem, right_mode_lem}
use Rattle.outlines.proofs.StandingRules.{stands, stands_alike}
use Rattle.outlines.specs.Feed.{is_choosy}
use Rattle.outlines.specs.NeededAccesses.{needed}
use Rattle.outlines.proofs.NeededFacts.{needed-known, needed_right}
use Rattle.facts.proofs.LineGiving.{takers_some}
use Rattle.grounding.specs.RuleSteps.{turned_point, pair_in, right_place, Ordinary, StepReads}
use Rattle.grounding.specs.RuleTurns.{Prepared, derived_head, takers_for, turn_in, Able}
use Rattle.grounding.specs.Meaning.{place_of}
use Rattle.engine.specs.Drawn.{SamePowers, Drawn, mapping_of}
use Rattle.engine.proofs.AccessPlaces.{size_few, pair_below, pair_code, place-within, grid_small}
use Rattle.engine.proofs.StandingPlaces.{rule_low, range-few, stands_in}

module _ {holder : Base} {n : ℕ} {C : Chart} {asked : Access} {p : Prepared} {rules words bits : ℕ}
    (d : Drawn holder n C asked p rules words bits) where
  -- the broken bits of a rule that looks back have room
  pub lasting-room : (r : ℕ) → bit r rules ≡ true → lasting (rule_at p.body r).operator ≡ true →
      (get_or p.starts r 0 + size_of p.frame.grid (region_at p.sides r) ≤ 64 * bits)
      × (get_or p.starts r 0 + size_of p.frame.grid (region_at p.sides r) < 4294967296)
  lasting-room r e l =
      let o = lasting (rule_at p.body r).operator in
      let b = d.lasts_is r ∙ and_intro (bit r rules) o e l in
      let w = d.starts.high r b in
      let v = d.room in
      (omega arith, omega arith)

  -- the table that a rule shares has room
  shared_room : (r : ℕ) → bit r p.frame.choosy ≡ true →
      get_or p.first r 0 + size_of p.frame.grid (region_at (shapes_of p.frame p.right) r)
      ≤ p.frame.fields
  shared_room r own =
      let w = (d.shared r own).1 in
      let high = d.laid.laid.high (suc (suc (d.shared r own).0)) w.there in
      omega (arith, high, w.start, ap (size_of p.frame.grid) w.shares.region)

  -- a rule with a table is a rule
  table-rule : (c : ℕ) → bit c p.frame.tables ≡ true → c < n
  table-rule c t = rule_low d c
      (and-true (bit c rules) (is_choosy (rule_at p.body c)) (sym (d.choosy c) ∙ d.tabled c t)).0

  pub tables_in : RulesIn p.frame.tables p.body
  tables_in c t =
      let h = table-rule c t in
      (omega (arith, d.well_formed.few), omega (arith, d.well_formed.there))

  -- what takes what a rule derives has a table
  takers_tabled : (q : Rule) (fed c : ℕ) → bit c (takers_for p.frame p.body q fed) ≡ true →
      bit c p.frame.tables ≡ true
  takers_tabled q fed c b = cases p.frame.wide
      (λ w. takers_some p.body p.frame.tables (derived_head q) c (rw w at b))
      (λ w. (and-true (bit c fed) (bit c p.frame.tables)
      (sym (bit_and_lem fed p.frame.tables c) ∙ (rw w at b))).1)

  module _ (base : Base) (r : ℕ) (e : bit r rules ≡ true) where
    -- the place on its right is that of the access on its right
    pub point_right : (x : Access) →
        turned_point (region_at p.right r) ((mapping_of base C asked p).point x)
        ≡ (mapping_of base C asked p).point (right_of (rule_at p.body r) x).access
    point_right x =
        let h = rule_low d r e in
        let s = right_subject_lem d.well_formed C d.charted p.right d.rights asked r h x in
        let m = right_mode_lem d.well_formed C d.charted p.right d.rights asked r h x in
        let o = right_object_lem d.well_formed C d.charted p.right d.rights asked r h x in
        λ j. record { subject = s j; mode = m j; object = o j }

    -- which is needed
    pub right_needed : SamePowers base holder → (x : Access) → needed C asked p.need x ≡ true →
        stands_for base (rule_at p.body r) x ≡ true →
        needed C asked p.need (right_of (rule_at p.body r) x).access ≡ true
    right_needed powers x m s = needed_right d.well_formed C d.charted p.left p.right d.rights
        asked base (stands_alike holder base n p.body C asked p.left (λ o u. sym (powers o u))
        (stands d.well_formed C d.charted p.sides d.lefts holder asked d.outlined p.left
        d.masks d.own)) p.need d.closed r (rule_low d r e) x s m

    module _ (powers : SamePowers base holder) (active : List ℕ)
        (low : get_or active r 0 < 9223372036854775808)
        (fits : get_or active r 0 < 2 ^ (2 ^ p.frame.width)) where
      -- the table that it looks at
      table-room : (turn_in p active r).first + size_of p.frame.grid (turn_in p active r).table
          ≤ p.frame.fields
      table-room =
          let laid = d.laid.laid in
          cases (bit r p.frame.choosy)
          (λ own. rw own (shared_room r own))
          (λ own. cases (eqb (get_or p.sides (4 * r + 3) 0 / 2) 1)
          (λ y. rw (own, y) (laid.high 1 refl))
          (λ y. rw (own, y) (laid.high 0 refl)))

      here : (x : Access) → needed C asked p.need x ≡ true →
          Ordinary (turn_in p active r) p.frame.grid bits (place_of (mapping_of base C asked p) x)
      here x m =
          let w = (known_is C asked x).0 (needed-known C asked p.need x m) in
          record {
            within = place-within d base x m;
            low = omega (arith, w.3);
            size = omega (arith, size_small p.frame.grid (grid_small d) (region_at p.sides r));
            room = λ l. (lasting-room r e l).0;
            number = λ l. (lasting-room r e l).1;
          }

      reads_at : (x : Access) → needed C asked p.need x ≡ true →
          stands_for base (rule_at p.body r) x ≡ true →
          StepReads (turn_in p active r) p.frame p.number words bits
          (place_of (mapping_of base C asked p) x)
      reads_at x m s =
          let y = (right_of (rule_at p.body r) x).access in
          let k = right_needed powers x m s in
          let q = point_right x in
          let g = p.frame.grid in
          let place = right_place (turn_in p active r) g p.number ((mapping_of base C asked p).point x) in
          let within : Within g place.pair place.point =
          subst (λ (z : Point). Within g (get_or p.number (pair_in g z) 0) z) (sym q)
          (place-within d base y k) in
          record {
            here = here x m;
            sign = mod-lt (get_or p.sides (4 * r + 3) 0) (omega arith);
            active = low;
            fits = fits;
            takers = takers_tabled (rule_at p.body r) (get_or p.feed (64 + r) 0);
            pair = subst (λ (z : Point). pair_in g z < length p.number) (sym q)
                (rw d.grid.0
                (omega (arith, pair_below d y (needed-known C asked p.need y k), d.numbers.0)));
            few = omega (arith, d.numbers.0, d.size, size_few d);
            looked = record {
              narrow = d.laid.narrow;
              fits = d.laid.fits;
              high = table-room;
              within = within;
            };
            denials = reaches p.frame p.right p.first words place d.laid within 1 refl;
          }

      pub rule_able : Able p active words bits r
      rule_able =
          let h = rule_low d r e in
          let few = d.well_formed.few in
          let l = rule_at p.body r in
          record {
            low = omega arith;
            there = omega (arith, d.well_formed.there);
            signs = omega (
              arith,
              (d.lefts r h).signs,
              bit_le l.left.negative,
              bit_le l.right.negative,
            );
            size = omega (arith, size_small p.frame.grid (grid_small d) whole_region);
            ready = d.laid;
            rules = tables_in;
            start = λ own. omega (arith, shared_room r own, d.fields);
            pairs = record {
              rule = omega arith;
              sign = mod-lt (get_or p.sides (4 * r + 3) 0) (omega arith);
              listed = omega (
                arith,
                range-few d active r,
                d.grid.2,
                used_before-le p.need (length p.need),
                d.codes.0,
              );
              low = λ i k. let c = pair_code d i (omega (arith, range-few d active r)) in
                  (c.object, c.subject, rw d.grid.0 c.inside);
              reads = λ i m _ k s.
                  let l = range-few d active r in
                  let w = stands_in d r h base powers active i m (omega arith) s in
                  subst (λ (q : Place). StepReads (turn_in p active r) p.frame p.number words bits q)
                  (sym w.place) (reads_at w.access w.matters w.stands);
            };
          }
