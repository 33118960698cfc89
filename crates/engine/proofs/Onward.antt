-- The walk starts (`walk-starts`), goes through windows and has found all behind the last instant (`finds`).
-- The instants that a window is filled with are a window of the base (`views`), its word has the answers
-- (`answered`, `yes-last`), and behind it the walk has ended or goes on (`ends`, `goes`).
use mathlib.Core.Path.{◌≡◌, refl, sym, ap, ap₂, ◌∙◌, subst}
use mathlib.Core.Logic.{◌⊎◌, inl, inr}
use mathlib.Core.Bool.{Bool, true, false, not, ◌&&◌, false≢true}
use mathlib.Core.List.{List, [], ◌∷◌}
use Prim.Native.Nat.{ℕ, zero, suc, ◌-◌, ◌^◌, ◌≤◌, ◌<◌}
use native.Mathlib.Omega.{arith}
use lib.Dec.{leb, ltb}
use lib.ListN.{length, get_or}
use Rattle.foundation.specs.Tests.{pick, cases, le-true, le-false, true-le, false-le, and-true}
use Rattle.foundation.specs.Lists.{Mem, keep_if, keep_if-mem, kept}
use Rattle.foundation.specs.Intervals.{in_interval, in_interval-above, maximal}
use Rattle.foundation.specs.Marks.{clear, clear-part}
use Rattle.foundation.specs.BitMasks.{bit}
use Rattle.model.specs.declared.Access.{Access}
use Rattle.model.specs.declared.Authorization.{Authorization}
use Rattle.model.specs.declared.Rule.{Rule}
use Rattle.model.specs.Base.{Base}
use Rattle.model.specs.Means.{marks, all_marks, rule_marks}
use Rattle.model.proofs.HoldsMarks.{may_steady}
use Rattle.model.specs.Rules.{may}
use Rattle.model.specs.Stratification.{stratified}
use Rattle.model.specs.Stratification as model
use Rattle.encoding.specs.Format.{rules_in, rule_at}
use Rattle.places.specs.Regions.{Within}
use Rattle.facts.specs.Facts.{LinesReady}
use Rattle.relevance.specs.declared.Chosen.{Chosen}
use Rattle.relevance.specs.declared.filling.Filled.{Filled}
use Rattle.relevance.specs.Chosen.{picked, selected, marks_for}
use Rattle.relevance.specs.Filling.{Fills}
use Rattle.relevance.specs.Forgotten.{ends_from, during, Forgets}
use Rattle.std.specs.Prelude.{None}
use Rattle.scan.specs.declared.Track.{Track}
use Rattle.scan.specs.Filled.{filled}
use Rattle.scan.specs.Runs.{inside, ScannedTo, Answered, instant_at}
use Rattle.scan.proofs.RunFacts.{counted, held_open}
use Rattle.words.specs.Fields.{field_of}
use Rattle.tables.specs.declared.Place.{Place}
use Rattle.tables.specs.TableLayout.{field_in}
use Rattle.tables.specs.TableGiving.{tables_of, TablesReady}
use Rattle.outlines.specs.Coordinates.{Chart}
use Rattle.grounding.specs.RuleTurns.{Prepared, Able, Marked}
use Rattle.engine.specs.declared.Query.{Query}
use Rattle.engine.specs.declared.walking.Progress.{Progress}
use Rattle.engine.specs.Evaluation.{Low, StrataKnown, Evaluation}
use Rattle.engine.proofs.AccessPlaces.{place-within}
use Rattle.engine.proofs.StandingPlaces.{rule_low}
use Rattle.engine.specs.Posed.{Posed, CarriedAt, Walks, Finds}
use Rattle.engine.proofs.LeftOut.{forgets_picks, Ordered, ordered_kept, none_during}
use Rattle.engine.proofs.LeftOut.{clear-during, clear_left}
use Rattle.engine.proofs.Right.{setting_for, Views, able, ready, answers, carried_next}
use Rattle.engine.specs.Going.{capped_at, Start, Going}

-- what is kept by two tests is kept by the later one
keep-twice : (t u : ℕ) → t ≤ u → (xs : List Authorization) →
    keep_if (ends_from u) (keep_if (ends_from t) xs) ≡ keep_if (ends_from u) xs
keep-twice t u h [] = refl
keep-twice t u h (a ∷ xs) =
    let i = keep-twice t u h xs in
    cases (ends_from t a)
    (λ e. rw e (ap (λ (l : List Authorization). pick (ends_from u a) (a ∷ l) l) i))
    (λ e. rw (e, le-false u a.interval.end (omega (arith, false-le t a.interval.end e))) i)

up_to-within : (to t : ℕ) → capped_at to t ≤ suc to
up_to-within to t = cases (leb t to)
    (λ e. rw e (omega (arith, true-le t to e)))
    (λ e. rw e (omega arith))

up_to-most : (to t : ℕ) → capped_at to t ≤ t
up_to-most to t = cases (leb t to)
    (λ e. rw e (omega arith))
    (λ e. rw e (omega (arith, false-le t to e)))

up_to-above : (to t u : ℕ) → u ≤ to → u < t → u < capped_at to t
up_to-above to t u h k = cases (leb t to)
    (λ e. rw e k)
    (λ e. rw e (omega arith))

pub up_to-before : (to t : ℕ) → t ≤ to → capped_at to t ≡ t
up_to-before to t h = rw (le-true t to h)

pub up_to_behind : (to t : ℕ) → to < t → capped_at to t ≡ suc to
up_to_behind to t h = rw (le-false t to h)

-- ---- the start

keep_all : (xs : List Authorization) → xs ≡ keep_if (ends_from 0) xs
keep_all [] = refl
keep_all (a ∷ xs) =
    rw (le-true 0 a.interval.end (omega arith)) (ap (λ (l : List Authorization). a ∷ l) (keep_all xs))

abbrev pub start_of : Base → Access → (which words bits list : List ℕ) → Start
start_of base x which words bits list =
    record { base = base; access = x; which = which; words = words; bits = bits; list = list }

-- at the first instant nothing is done
pub walk-starts : {lines which : List ℕ} {c : Chosen} {lasting : ℕ} {q : Query} {C : Chart} {p : Prepared}
    {strata words bits : List ℕ} {base : Base} {x : Access} →
    Walks lines which c lasting q C p words bits base x →
    q.from ≤ 4294967296 → (list : List ℕ) → Going lines c lasting q C p
    (start_of base x which words bits list) strata which words bits list (record {
      next = q.from;
      track = record { count = 0; began = None };
      yes = false;
      left = c.authorizations;
      ranked = false;
    })
unfolding filled
walk-starts {q = q} {base = base} {x = x} w h list = record {
  walks = w;
  low = omega arith;
  high = h;
  picks = w.picks;
  since = 0;
  past = omega arith;
  left = w.picked_all ∙ keep_all (keep_if (during q.from q.to) base.authorizations);
  carried = λ l. w.carried;
  listed = λ l. record {
    listed = record {
      done = [];
      all = w.fresh l ∙ ap (λ (t : ℕ). maximal t q.to (may base x))
          (sym (up_to-before q.to q.from w.forward));
      count_is = refl;
      list_is = refl;
    };
    held = λ from z. cc;
  };
  last = λ l. absurd (omega (arith, w.forward));
  ranked = λ e. absurd (false≢true e);
  words_size = refl;
  bits-size = refl;
}

-- ---- a window

module _ {lines : List ℕ} {c : Chosen} {lasting : ℕ} {q : Query} {C : Chart} {p : Prepared} {o : Start}
    {strata which words bits list : List ℕ} {s : Progress}
    (g : Going lines c lasting q C p o strata which words bits list s) where
  abbrev posed : Posed c.rules C q.own p c.needed (length o.words) (length o.bits) o.base
      o.access
  posed = g.walks.posed

  -- what matters of what is left
  abbrev pub here : Chosen
  here = record { authorizations = s.left; rules = c.rules; needed = c.needed }

  abbrev answer : ℕ → Bool
  answer = may o.base o.access

  ordered : Ordered o.base.authorizations
  ordered a m = le-true a.interval.start a.interval.end (posed.lines a m).2

  -- behind the last instant all is found
  pub finds : q.to < s.next → Finds q o.base o.access (record { track = s.track; yes = s.yes }) o.list
      list
  finds h = record {
    last = g.last h;
    listed = λ l. subst (λ (t : ℕ). ScannedTo answer q.to o.list t s.track list)
        (up_to_behind q.to s.next h) (g.listed l);
  }

  -- the authorizations that have an asked instant
  abbrev lines_asked : List Authorization
  lines_asked = keep_if (during q.from q.to) o.base.authorizations

  -- from the next instant to the last one the marks of what is left are those of the base
  marks_alike : (u v : ℕ) → s.next ≤ u → v ≤ q.to →
      clear (marks_for lines which p.body here) u v ≡ clear (all_marks o.base) u v
  unfolding marks_for
  marks_alike u v h k =
      ap₂ (λ (xs : List Authorization) (rs : List Rule). clear (marks xs rs) u v) g.left
      (sym posed.rules)
      ∙ clear_left g.since u (omega (arith, g.past)) lines_asked
      (ordered_kept (during q.from q.to) o.base.authorizations ordered)
      (rule_marks o.base.rules) v
      ∙ clear-during q.from q.to u v (omega (arith, g.low)) k o.base.authorizations ordered
      (rule_marks o.base.rules)

  -- the rules have their turns, in tables of the same lengths
  pub turns_able : {w b : ℕ} → w ≡ length words → b ≡ length bits → (l : List ℕ) →
      Low l c.needed p.frame.width → (r : ℕ) → bit r c.needed ≡ true → Able p l w b r
  turns_able {w} {b} e f l h r n =
      let i : w ≡ length o.words = e ∙ g.words_size in
      let j : b ≡ length o.bits = f ∙ g.bits-size in
      rw (i, j) (able posed l h r n)

  pub rules_low : (r : ℕ) → bit r c.needed ≡ true → r < c.rules
  rules_low = rule_low posed.drawn

  pub layered : stratified (selected c.needed (rules_in c.rules p.body)) ≡ true
  layered = ap stratified (sym posed.rules) ∙ posed.strata

  -- the rules that look back are among those that matter
  pub among-lasting : (r : ℕ) → bit r lasting ≡ true →
      (bit r c.needed ≡ true) × (model.lasting (rule_at p.body r).operator ≡ true)
  among-lasting r e = and-true (bit r c.needed) (model.lasting (rule_at p.body r).operator)
      (sym (posed.drawn.lasts_is r) ∙ sym (g.walks.lasts r) ∙ e)

  -- the answers can be read
  pub readable : {w : ℕ} → w ≡ length words →
      TablesReady p.frame p.right p.first w × Within p.frame.grid q.place.pair
      q.place.point
  readable e = (
    subst (λ (n : ℕ). TablesReady p.frame p.right p.first n) (sym (e ∙ g.words_size)) posed.drawn.laid,
    subst (λ (z : Place). Within p.frame.grid z.pair z.point) (sym g.walks.place)
        (place-within posed.drawn o.base o.access posed.matters),
  )

  -- the intervals can be noted from the next instant on
  noting : (t : ℕ) → t ≡ s.next → q.listing ≡ true →
      (inside s.track ≡ true → 0 < t) × (s.track.count ≤ 1089)
  noting t e l =
      let r = g.listed l in (
        λ i. omega (arith, held_open answer q.to o.list (capped_at q.to s.next) s.track list r i, up_to-most q.to s.next),
        omega (
          arith,
          g.walks.few,
          counted answer q.to o.list (capped_at q.to s.next) s.track list
              r,
        ),
      )

  module _ (before : s.next ≤ q.to) {width : ℕ} (short : width ≤ 63) (fits : width ≤ 2 ^ p.frame.width)
      {ms : List ℕ} {r : Filled}
      (fills : Fills (marks_for lines which p.body here) s.next q.to width ms r) where
    abbrev last : ℕ
    last = get_or ms (r.count - 1) 0

    from_next : (i : ℕ) → i < r.count → s.next ≤ get_or ms i 0
    from_next zero h = omega (arith, fills.first)
    from_next (suc i) h = omega (arith, fills.first, fills.rising 0 (suc i) (omega arith) h)

    last-from : s.next ≤ last
    last-from = from_next (r.count - 1) (omega (arith, fills.some))

    pub further : s.next < r.next
    further = omega (arith, last-from, fills.last)

    -- no mark lies behind the window, before the next instant and up to the last one that is asked
    behind : (v : ℕ) → v ≤ q.to → v < r.next → clear (all_marks o.base) last v ≡ true
    behind v h k = sym (marks_alike last v last-from h)
        ∙ clear-part (marks_for lines which p.body here) last last (r.next - 1) v (omega arith)
        (omega arith) fills.behind

    -- a line of the base is left, or has none of the window's instants
    missing : (a : Authorization) → Mem a o.base.authorizations → Mem a (picked lines which s.left)
        ⊎ ((i : ℕ) → i < r.count → in_interval a.interval (get_or ms i 0) ≡ false)
    missing a m = cases (during q.from q.to a)
        (λ d. cases (ends_from g.since a)
        (λ e. inl (subst (λ (l : List Authorization). Mem a l) (sym g.left)
        (keep_if-mem (ends_from g.since) lines_asked a
        (keep_if-mem (during q.from q.to) o.base.authorizations a m d) e)))
        (λ e. inr (λ i h. in_interval-above a.interval (get_or ms i 0) (omega (
          arith,
          false-le g.since a.interval.end e,
          g.past,
          from_next i h,
        )))))
        (λ d. inr (λ i h. none_during q.from q.to a d (get_or ms i 0)
        (omega (arith, g.low, from_next i h)) (fills.within i h)))

    pub views : Views posed (picked lines which s.left) ms r.count
    views = record {
      window = record {
        rising = λ i h. fills.rising i (suc i) (omega arith) h;
        between = λ i h.
            sym (marks_alike (get_or ms i 0) (get_or ms (suc i) 0 - 1) (from_next i (omega arith))
            (omega (arith, fills.within (suc i) h)))
            ∙ fills.between i h;
      };
      rising = fills.rising;
      some = fills.some;
      few = omega (arith, fills.few);
      fits = omega (arith, fills.few);
      among = λ a m. (kept (during q.from q.to) o.base.authorizations a
          (kept (ends_from g.since) lines_asked a (subst (λ (l : List Authorization). Mem a l) g.left
          m)).0
          ).0;
      missed = missing;
    }

    pub given : LinesReady (setting_for posed ms r.count) lines which s.left (length words)
    given = subst (λ (n : ℕ). LinesReady (setting_for posed ms r.count) lines which s.left n)
        (sym g.words_size) (ready posed g.picks views)

    pub notable : q.listing ≡ true → (inside s.track ≡ true → 0 < get_or ms 0 0) × (s.track.count ≤ 1089)
    notable = noting (get_or ms 0 0) fills.first

    -- the intervals are known up to the first instant
    pub listed-first : q.listing ≡ true →
        ScannedTo answer q.to o.list (get_or ms 0 0) s.track list
    listed-first l = subst (λ (t : ℕ). ScannedTo answer q.to o.list t s.track list)
        (up_to-before q.to s.next before ∙ sym fills.first) (g.listed l)

    -- between two instants of the window, and up to the next behind it, nothing changes
    steady : (i : ℕ) → i < r.count → (u : ℕ) → get_or ms i 0 ≤ u →
        u < instant_at r.count ms (capped_at q.to r.next) (suc i) → answer u ≡ answer (get_or ms i 0)
    steady i h u l k = may_steady o.base o.access (get_or ms i 0) u l (cases (ltb (suc i) r.count)
        (λ e. let n : u < get_or ms (suc i) 0 = rw e at k in
        clear-part (all_marks o.base) (get_or ms i 0) (get_or ms i 0) (get_or ms (suc i) 0 - 1) u (omega arith)
        (omega arith) (views.window.between i (true-le (suc (suc i)) r.count e)))
        (λ e. let n : u < capped_at q.to r.next = rw e at k in
        let z : r.count - 1 ≡ i = omega (arith, false-le (suc (suc i)) r.count e) in
        subst (λ (j : ℕ). clear (all_marks o.base) (get_or ms j 0) u ≡ true) z
        (behind u (omega (arith, up_to-within q.to r.next))
        (omega (arith, up_to-most q.to r.next)))))

    module _ {active new : List ℕ} (done : Evaluation (setting_for posed ms r.count) p
        (picked lines which s.left) c.rules c.needed active bits new) where
      carried_here : CarriedAt posed (get_or ms 0 0) bits
      carried_here = subst (λ (t : ℕ). CarriedAt posed t bits) (sym fills.first) (g.carried before)

      module _ (word : ℕ)
          (read : (i : ℕ) → bit i word ≡ bit i (field_of p.frame.width new
          (field_in (tables_of p.frame p.right p.first) 0 q.place.pair q.place.point))
          && not (bit i (field_of p.frame.width new
          (field_in (tables_of p.frame p.right p.first) 1 q.place.pair q.place.point)))) where
        right : (i : ℕ) → i < r.count → bit i word ≡ answer (get_or ms i 0)
        right i h = read i
            ∙ ap (λ (z : Place). bit i (field_of p.frame.width new
            (field_in (tables_of p.frame p.right p.first) 0 z.pair z.point))
            && not (bit i (field_of p.frame.width new
            (field_in (tables_of p.frame p.right p.first) 1 z.pair z.point)))) g.walks.place
            ∙ answers posed views done carried_here i h

        pub answered : Answered answer q.to r.count ms (capped_at q.to r.next) word
        answered = record {
          answers = right;
          steady = steady;
          behind = up_to-above q.to r.next last
              (fills.within (r.count - 1) (omega (arith, fills.some))) fills.last;
          within = up_to-within q.to r.next;
        }

        yes-last : q.to < r.next → bit (r.count - 1) word ≡ answer q.to
        yes-last h =
            let n : r.count - 1 < r.count = omega (arith, fills.some) in
            right (r.count - 1) n
            ∙ sym (may_steady o.base o.access last q.to (fills.within (r.count - 1) n)
            (behind q.to (omega arith) h))

        module _ (sized : length new ≡ length words) (w : Track) (yes : Bool)
            (told : yes ≡ bit (r.count - 1) word) (list' : List ℕ)
            (listed : q.listing ≡ true →
            ScannedTo answer q.to o.list (capped_at q.to r.next) w list')
            (ranked : Bool) {strata' : List ℕ}
            (known : ranked ≡ true → StrataKnown c.rules c.needed p.body strata') where
          -- the last instant was in the window
          pub ends : q.to < r.next → Going lines c lasting q C p o strata' which new bits list'
              (record { next = r.next; track = w; yes = yes; left = s.left; ranked = ranked })
          ends h = record {
            walks = g.walks;
            low = omega (arith, g.low, further);
            high = fills.bounded;
            picks = g.picks;
            since = g.since;
            past = omega (arith, g.past, further);
            left = g.left;
            carried = λ k. absurd (omega arith);
            listed = listed;
            last = λ k. told ∙ yes-last h;
            ranked = known;
            words_size = sized ∙ g.words_size;
            bits-size = g.bits-size;
          }

          -- or another window follows
          pub goes : r.next ≤ q.to → {bits' which' : List ℕ} {k : ℕ} →
              Marked p active new (r.count - 1) last lasting 0 bits bits' → length bits' ≡ length bits →
              Forgets lines s.left last which which' k →
              Going lines c lasting q C p o strata' which' new bits' list'
              (record { next = r.next; track = w; yes = yes; left = k; ranked = ranked })
          goes h {bits'} {which'} {k} marked same f =
              record {
                walks = g.walks;
                low = omega (arith, g.low, further);
                high = fills.bounded;
                picks = forgets_picks lines s.left last which which' k g.picks f;
                since = last;
                past = omega (arith, fills.last);
                left = f.left ∙ ap (keep_if (ends_from last)) g.left
                    ∙ keep-twice g.since last (omega (arith, g.past, last-from)) lines_asked;
                carried = λ l. carried_next posed views done carried_here r.next
                    fills.last (behind (r.next - 1) (omega arith) (omega (arith, fills.last))) lasting
                    g.walks.lasts marked;
                listed = listed;
                last = λ l. absurd (omega arith);
                ranked = known;
                words_size = sized ∙ g.words_size;
                bits-size = same ∙ g.bits-size;
              }
