-- One window of a question. What it needs can be had (`able`, `ready`). Once it is evaluated, its words are
-- the answers (`answers`), and what is kept of it is right for the next one (`carried-next`).
use mathlib.Core.Path.{◌≡◌, refl, sym, ap, ◌∙◌, subst}
use mathlib.Core.Logic.{◌⊎◌, ⊎_elim}
use mathlib.Core.Bool.{true, false, not, ◌&&◌, true≢false}
use mathlib.Core.List.{List}
use Prim.Native.Nat.{ℕ, ◌-◌, ◌^◌, ◌≤◌, ◌<◌}
use native.Mathlib.Omega.{arith}
use lib.ListN.{length, get_or}
use Rattle.foundation.specs.Tests.{and-true, and_intro}
use Rattle.foundation.specs.Lists.{Mem}
use Rattle.foundation.specs.Intervals.{in_interval}
use Rattle.foundation.specs.Marks.{clear}
use Rattle.foundation.specs.BitMasks.{bit}
use Rattle.places.specs.Regions.{Within}
use Rattle.tables.specs.declared.Place.{Place}
use Rattle.tables.specs.TableLayout.{TablesLaid}
use Rattle.model.specs.declared.Access.{Access}
use Rattle.model.specs.declared.Authorization.{Authorization}
use Rattle.model.specs.declared.Head.{Head}
use Rattle.model.specs.declared.Rule.{Rule}
use Rattle.model.specs.Base.{Base}
use Rattle.model.specs.Means.{all_marks}
use Rattle.model.specs.Stratification.{stratum}
use Rattle.model.specs.Stratification as model
use Rattle.model.specs.Rules.{may}
use Rattle.laws.specs.Narrowing.{access_of}
use Rattle.encoding.specs.Format.{rule_at}
use Rattle.windows.specs.Windows.{Rising}
use Rattle.relevance.specs.Chosen.{authorization_at, picked, Picks}
use Rattle.derivation.proofs.Window.{Window}
use Rattle.facts.specs.Facts.{Setting, setting, place_in, HasPlace, LinesReady}
use Rattle.outlines.specs.Coordinates.{Chart, coordinate}
use Rattle.outlines.specs.NeededAccesses as outlines
use Rattle.outlines.proofs.NeededFacts.{needed-known}
use Rattle.grounding.specs.Meaning.{place_of, words_in}
use Rattle.grounding.specs.RuleTurns.{Prepared, Able, Marked}
use Rattle.grounding.proofs.Order.{WindowInputs, Staged, RightIn, DoneIn, turns-done, none_left}
use Rattle.grounding.proofs.Strata.{strata-done}
use Rattle.grounding.proofs.WindowAnswers.{may_exact}
use Rattle.grounding.proofs.Broken.{broken_tables, next_carried}
use Rattle.engine.specs.Drawn.{mapping_of}
use Rattle.engine.specs.Evaluation.{Low, Evaluation}
use Rattle.engine.proofs.LinesGiven.{LineAt, lines-sound, lines_in, blank-sound}
use Rattle.engine.proofs.AccessPlaces.{size_few, pair_below, mapping-placed, place-within}
use Rattle.engine.specs.Posed.{Posed, CarriedAt}
use Rattle.engine.proofs.TurnReads.{tables_in, rule_able}
use Rattle.selection.proofs.Selected.{selected-few, rule-selected, selected-rule, picked-mem}
use Rattle.engine.proofs.Sides.{in_whole, feed-has, turn_of_lem}
use Rattle.engine.proofs.StandingPlaces.{rule_low, stands_for_lem, stands_at, left_in}

module _ {n : ℕ} {C : Chart} {own : Access} {p : Prepared} {needed words bits₀ : ℕ} {base : Base} {x : Access}
    (posed : Posed n C own p needed words bits₀ base x) where
  -- what authorizations are given by
  abbrev pub setting_for : List ℕ → ℕ → Setting
  setting_for marks count = setting p.body own C.subjects C.objects p.number marks count p.frame
      p.right p.first

  -- the first `count` marks are a window that fits the fields, and `lines` are the authorizations of the base
  -- but for some that have none of its instants
  pub record Views (lines : List Authorization) (marks : List ℕ) (count : ℕ) : Type 0 where
    pub window : Window base count (λ i. get_or marks i 0)
    pub rising : Rising count marks
    pub some : 0 < count
    pub few : count ≤ 63
    pub fits : count ≤ 2 ^ p.frame.width
    pub among : (a : Authorization) → Mem a lines → Mem a base.authorizations
    pub missed : (a : Authorization) → Mem a base.authorizations →
        Mem a lines ⊎ ((i : ℕ) → i < count → in_interval a.interval (get_or marks i 0) ≡ false)

  -- ---- what a window needs

  -- the rules that matter can have their turns
  pub able : (l : List ℕ) → Low l needed p.frame.width → (r : ℕ) → bit r needed ≡ true →
      Able p l words bits₀ r
  able l low r e = rule_able posed.drawn base r e posed.powers l (low r e).0 (low r e).1

  rule-few : (r : ℕ) → bit r needed ≡ true → (r < n) × (n ≤ 64)
  rule-few r e = (rule_low posed.drawn r e, posed.drawn.well_formed.few)

  -- an authorization is given at the place of its access
  place-line : (marks : List ℕ) (count : ℕ) (h : Head) →
      place_in (setting_for marks count) h ≡ place_of (mapping_of base C own p) (access_of h)
  unfolding coordinate
  place-line marks count h = refl

  line-place : (marks : List ℕ) (count : ℕ) (a : Authorization) → Mem a base.authorizations →
      HasPlace (setting_for marks count) a.head
  unfolding coordinate
  line-place marks count a m =
      let d = posed.drawn in
      let w = posed.lines a m in
      let y = access_of a.head in
      let k = needed-known C own p.need y w.0 in
      record {
        placed = w.1;
        pair = rw d.grid.0 (omega (arith, pair_below d y k, d.numbers.0));
        within = subst (λ (q : Place). Within p.frame.grid q.pair q.point)
            (sym (place-line marks count a.head)) (place-within d base y w.0);
      }

  -- the authorizations can be given
  pub ready : {lines which : List ℕ} {k : ℕ} {marks : List ℕ} {count : ℕ} → Picks lines which k →
      Views (picked lines which k) marks count → LinesReady (setting_for marks count) lines which k words
  ready {lines} {which} {k} {marks} {count} picks views =
      let d = posed.drawn in
      record {
        picks = picks;
        usable = record {
          ready = d.laid;
          rules = tables_in d;
          few = omega (arith, d.numbers.0, d.size, size_few d);
          short = views.few;
          rising = views.rising;
          fits = views.fits;
        };
        places = λ j h. line-place marks count (authorization_at lines (get_or which j 0))
            (views.among (authorization_at lines (get_or which j 0))
            (picked-mem lines which k j h picks.room));
      }

  -- ---- what it says, once it is evaluated

  module _ {lines : List Authorization} {marks : List ℕ} {count : ℕ} {active bits new : List ℕ}
      (views : Views lines marks count)
      (done : Evaluation (setting_for marks count) p lines n needed active bits new)
      (carried : CarriedAt posed (get_or marks 0 0) bits) where
    abbrev stage : WindowInputs
    stage = record {
      prepared = p;
      base = base;
      matters = outlines.needed C own p.need;
      point = (mapping_of base C own p).point;
      needed = needed;
      count = count;
      ms = λ i. get_or marks i 0;
      active = active;
      bits = bits;
    }

    rule-mem : (r : ℕ) → bit r needed ≡ true → Mem (rule_at p.body r) base.rules
    rule-mem r e = rw posed.rules (rule-selected needed n r p.body (rule-few r e).0 e)

    staged : Staged stage
    staged =
        let d = posed.drawn in
        record {
          placed = mapping-placed d base;
          strata = posed.strata;
          window = views.window;
          low = λ r e. let h = rule-few r e in omega (arith, h.0, h.1);
          turn = λ r e. turn_of_lem d base posed.powers active r e (rule-mem r e) count marks
              (λ j. done.acts r j e);
          stands = λ r e. stands_for_lem d r (rule-few r e).0 base posed.powers active;
          reached = λ r e. stands_at d r (rule-few r e).0 base posed.powers active;
          carried = carried active;
          feed = feed-has d;
          all = λ q m. selected-rule needed n p.body q (rw posed.rules at m);
        }

    -- the words have the authorizations in them
    lines_right : RightIn stage done.given
    unfolding coordinate
    lines_right =
        let d = posed.drawn in
        let z = mapping_of base C own p in
        let all : (a : Authorization) → Mem a lines →
        Mem a base.authorizations × LineAt z (setting_for marks count) a = λ a m.
        let k = views.among a m in (k, record { matters = (posed.lines a k).0; point = refl }) in
        record {
          sound = lines-sound z (mapping-placed d base) p.body own C.subjects C.objects marks count
              (λ c e. refl) done.lines all
              (blank-sound z (mapping-placed d base) p.body own C.subjects C.objects marks count
              (λ c e. refl) done.cleared d.laid.laid done.zero);
          lines = λ a m. ⊎_elim
              (λ k. lines_in z (mapping-placed d base) p.body own C.subjects C.objects marks count
              (λ c e. refl) done.lines all a k)
              (λ e T y k f i h t. absurd (true≢false (sym t ∙ e i h)))
              (views.missed a m);
        }

    -- and what all rules derive
    all_right : RightIn stage new × ((q : Rule) → Mem q base.rules → DoneIn stage new q)
    all_right =
        let ran = done.rules in
        let f = turns-done stage staged ran.turns (λ q e. e) lines_right
        (λ r m e. absurd (true≢false (sym m ∙ e))) in
        let goal : List ℕ → Type 0 = λ w.
        RightIn stage w × ((q : Rule) → Mem q base.rules → DoneIn stage w q) in
        ⊎_elim
        (λ w. subst goal (sym w.1)
        (f.right, none_left stage staged ran.rest ran.turned w.0 f.done))
        (λ w. let g = strata-done stage staged ran.strata
        (λ r e. w.0 r e ∙ ap (λ (l : List Rule). stratum l (rule_at p.body r)) (sym posed.rules))
        (omega (
          arith,
          selected-few needed n p.body,
          ap length posed.rules,
          posed.drawn.well_formed.few,
        ))
        w.1 f.fewer f.right f.done in (g.right, g.done))
        ran.closed

    -- the words of the asked access say what it may
    pub answers : (i : ℕ) → i < count →
        bit i (words_in (mapping_of base C own p) new 0 x) && not (bit i (words_in (mapping_of base C own p) new 1
        x))
        ≡ may base x (get_or marks i 0)
    answers =
        let w = place-within posed.drawn base x posed.matters in
        let s = (mapping_of base C own p).point x in
        may_exact stage new all_right.0 all_right.1 x
        (posed.matters, record { table = refl; within = w; inside = in_whole s })
        (posed.matters, record { table = refl; within = w; inside = in_whole s })

    -- what is kept behind the window, with those marked that are broken at its last instant, is right for a
    -- window that starts at u
    pub carried_next : (u : ℕ) → get_or marks (count - 1) 0 < u →
        clear (all_marks base) (get_or marks (count - 1) 0) (u - 1) ≡ true →
        (lasting : ℕ) → ((r : ℕ) → bit r lasting ≡ bit r posed.drawn.lasts) →
        {bits' : List ℕ} →
        Marked p active new (count - 1) (get_or marks (count - 1) 0) lasting 0 bits bits' →
        CarriedAt posed u bits'
    carried_next u h c lasting same marked active' =
        let d = posed.drawn in
        let lasts : (r : ℕ) → bit r lasting ≡ true →
        (bit r needed ≡ true) × (model.lasting (rule_at p.body r).operator ≡ true) = λ r e.
        and-true (bit r needed) (model.lasting (rule_at p.body r).operator)
        (sym (d.lasts_is r) ∙ sym (same r) ∙ e) in
        let l = d.starts in
        let laid : TablesLaid (broken_tables stage lasting) 0 d.total = record {
          room = l.room;
          low = λ r e. l.low r (sym (same r) ∙ e);
          high = λ r e. l.high r (sym (same r) ∙ e);
          behind = λ r q e f. l.behind r q (sym (same r) ∙ e) (sym (same q) ∙ f);
        } in
        next_carried stage staged new all_right.0 all_right.1 (count - 1)
        (omega (arith, views.some)) lasting lasts 0 d.total laid
        (λ r e y m s. record {
          table = e;
          within = place-within d base y m;
          inside = left_in d r (rule-few r (lasts r e).0).0 base posed.powers active y m s;
        }) marked
        (λ r e l. same r ∙ d.lasts_is r
        ∙ and_intro (bit r needed) (model.lasting (rule_at p.body r).operator) e l)
        u h c active'
