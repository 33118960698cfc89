-- What is counted and in the list (`ScannedTo`, `AskedAt`): never more than all (`counted`, `fewer`). From
-- instant to instant: at the start (`start`), where the test is asked (`same`, `opens`, `closed_run`), on to
-- the next (`onward`, `next-reached`), and behind the end (`complete-open`, `complete-none`). Assumes
-- nothing.
use mathlib.Core.Path.{◌≡◌, refl, sym, ap, ◌∙◌, subst}
use Prim.Native.Nat.{ℕ, suc, ◌+◌, ◌-◌, ◌≤◌, ◌<◌}
use native.Mathlib.Omega.{arith}
use native.Mathlib.Numerals.{add-one}
use mathlib.Core.Bool.{Bool, true, false, false≢true}
use mathlib.Core.List.{List, [], ◌∷◌, ◌++◌, append-nil, append_assoc}
use lib.Dec.{ltb}
use lib.ListN.{length, get_or, length-append}
use Rattle.foundation.specs.Tests.{pick, cases, true-le, false-le, le-true, le-false}
use Rattle.foundation.specs.declared.Interval.{Interval}
use Rattle.foundation.specs.Intervals.{interval, maximal}
use Rattle.foundation.specs.MaximalRuns.{maximal_past, maximal_skip, maximal_run}
use Rattle.windows.specs.Windows.{Rising}
use Rattle.scan.specs.declared.Track.{Track}
use Rattle.scan.specs.Filled.{filled, with_pair}
use Rattle.std.specs.Prelude.{Option, Some, None}
use Rattle.std.specs.Option.{is_some, unwrap_or}
use Rattle.scan.specs.Runs.{inside, open_from, instant_at, Answered, Listed, Holding, ScannedTo, AskedAt}
use Rattle.scan.proofs.FilledFacts.{filled_more}

pub instant-there : (n : ℕ) (ms : List ℕ) (m i : ℕ) → i < n → instant_at n ms m i ≡ get_or ms i 0
instant-there n ms m i h = ap (λ (b : Bool). pick b (get_or ms i 0) m) (le-true (suc i) n h)

pub instant_behind : (n : ℕ) (ms : List ℕ) (m i : ℕ) → n ≤ i → instant_at n ms m i ≡ m
instant_behind n ms m i h = ap (λ (b : Bool). pick b (get_or ms i 0) m) (le-false (suc i) n (omega arith))

-- what is there, where something is
opened : (o : Option ℕ) → is_some o ≡ true → (from : ℕ) × (o ≡ Some from)
opened None e = absurd (false≢true e)
opened (Some from) e = (from, refl)

-- how many are done; `lent` is the list as it was lent
module _ (f : ℕ → Bool) (e : ℕ) (lent : List ℕ) where
  -- no more are done than there are
  pub counted : (t : ℕ) (w : Track) (list : List ℕ) → ScannedTo f e lent t w list →
      w.count ≤ length (maximal 0 e f)
  counted t w list r =
      let l = r.listed in
      let others = maximal (open_from w t) e f in
      omega (
        arith,
        l.count_is,
        ap (λ (x : List Interval). length x) l.all,
        length-append l.done others,
      )

  module _ (t : ℕ) (w : Track) (list : List ℕ) (r : ScannedTo f e lent t w list) where
    -- the interval that ends before m, which is t where f fails, or behind the end
    pub ended : (m from : ℕ) → w.began ≡ Some from → m ≡ t → m ≤ suc e → (m ≤ e → f m ≡ false) →
        maximal 0 e f ≡ (r.listed.done ++ (interval from (m - 1) ∷ [])) ++ maximal m e f
    ended m from o q h stop =
        let l = r.listed in
        let z = r.held from o in
        let p : open_from w t ≡ from = ap (λ (b : Option ℕ). unwrap_or b t) o in
        l.all ∙ ap (λ (k : ℕ). l.done ++ maximal k e f) p
        ∙ ap (λ (rest : List Interval). l.done ++ rest)
        (maximal_run from m e f (omega (arith, z.0)) h (λ u x y. z.1 u x (omega arith)) stop)
        ∙ sym (append_assoc l.done (interval from (m - 1) ∷ []) (maximal m e f))

    -- there are never more than all
    pub fewer : inside w ≡ true → t ≤ suc e → (t ≤ e → f t ≡ false) → suc w.count ≤ length (maximal 0 e f)
    fewer i h stop =
        let o = opened w.began i in
        let l = r.listed in
        let run = interval o.0 (t - 1) ∷ [] in
        let n = ap (λ (x : List Interval). length x) (ended t o.0 o.1 refl h stop) in
        omega (
          arith,
          n,
          l.count_is,
          length-append (l.done ++ run) (maximal t e f),
          length-append l.done run,
        )

-- from instant to instant
module _ (f : ℕ → Bool) (e : ℕ) (lent : List ℕ) where
  -- an interval that is open began before
  pub held_open : (t : ℕ) (w : Track) (list : List ℕ) → ScannedTo f e lent t w list → inside w ≡ true → 0 < t
  held_open t w list r i = let o = opened w.began i in omega (arith, (r.held o.0 o.1).0)

  -- at the start there is nothing
  pub start : ScannedTo f e lent 0 (record { count = 0; began = None }) lent
  unfolding filled
  start = record {
    listed = record { done = []; all = refl; count_is = refl; list_is = refl };
    held = λ from z. cc;
  }

  -- ---- asked at t

  module _ (t : ℕ) (w : Track) (list : List ℕ) (r : ScannedTo f e lent t w list) where
    -- it goes on as it was
    pub same : inside w ≡ f t → AskedAt f e lent t w list
    same a = record {
      listed = r.listed;
      held = λ from o. let z = r.held from o in (omega (arith, z.0), z.1);
      answer = a;
    }

    -- an interval opens
    pub opens : w.began ≡ None → f t ≡ true → AskedAt f e lent t
        (record { count = w.count; began = Some t }) list
    opens o a =
        let l = r.listed in
        let p : open_from w t ≡ t = ap (λ (b : Option ℕ). unwrap_or b t) o in
        record {
          listed = subst (λ (k : ℕ). Listed f e lent w.count k list) p l;
          held = λ from z. let y : t ≡ from = cc in (omega arith, λ u h l. absurd (omega arith));
          answer = sym a;
        }

    -- it closes: one more is done
    pub closes : (from : ℕ) → w.began ≡ Some from → t ≤ suc e → (t ≤ e → f t ≡ false) → (list' : List ℕ) →
        list' ≡ with_pair w.count from (t - 1) list → Listed f e lent (suc w.count) t list'
    closes from o h stop list' k =
        let l = r.listed in
        let run = interval from (t - 1) ∷ [] in
        record {
          done = l.done ++ run;
          all = ended f e lent t w list r t from o refl h stop;
          count_is = omega (arith, l.count_is, length-append l.done run);
          list_is = k ∙ (λ i. with_pair (l.count_is i) from (t - 1) (l.list_is i))
              ∙ sym (filled_more l.done (interval from (t - 1)) lent);
        }

    -- it closes at t, where f fails
    pub closed_run : (from : ℕ) → w.began ≡ Some from → t ≤ e → f t ≡ false → (list' : List ℕ) →
        list' ≡ with_pair w.count from (t - 1) list →
        AskedAt f e lent t (record { count = w.count + 1; began = None }) list'
    closed_run from o h a list' k = record {
      listed = subst (λ (n : ℕ). Listed f e lent n t list') (sym (add-one w.count))
          (closes from o (omega arith) (λ z. a) list' k);
      held = λ u z. cc;
      answer = sym a;
    }

  -- ---- on to m, where f does not change before

  pub onward : (t m : ℕ) (w : Track) (list : List ℕ) → t < m → ((u : ℕ) → t ≤ u → u < m → f u ≡ f t) →
      AskedAt f e lent t w list → ScannedTo f e lent m w list
  onward t m w list h steady a = split w.began refl
    where
      further : (from : ℕ) → w.began ≡ Some from → Holding f e lent from m
      further from o u x y = cases (ltb u t)
          (λ l. (a.held from o).1 u x (true-le (suc u) t l))
          (λ l. let k = false-le (suc u) t l in
          steady u (omega arith) y ∙ sym a.answer ∙ ap (λ (b : Option ℕ). is_some b) o)

      split : (began : Option ℕ) → w.began ≡ began → ScannedTo f e lent m w list
      split (Some from) o =
          let p : open_from w t ≡ open_from w m =
          ap (λ (b : Option ℕ). unwrap_or b t) o ∙ sym (ap (λ (b : Option ℕ). unwrap_or b m) o) in
          record {
            listed = subst (λ (k : ℕ). Listed f e lent w.count k list) p a.listed;
            held = λ u q. (omega (arith, (a.held u q).0), further u q);
          }
      split None o =
          let l = a.listed in
          let p : open_from w t ≡ t = ap (λ (b : Option ℕ). unwrap_or b t) o in
          let q : open_from w m ≡ m = ap (λ (b : Option ℕ). unwrap_or b m) o in
          let n : inside w ≡ false = ap (λ (b : Option ℕ). is_some b) o in
          record {
            listed = record {
              done = l.done;
              all = l.all ∙ ap (λ (k : ℕ). l.done ++ maximal k e f) p
                  ∙ ap (λ (rest : List Interval). l.done ++ rest)
                  (maximal_skip t m e f (omega arith) (λ u x y. steady u x y ∙ sym a.answer ∙ n))
                  ∙ ap (λ (k : ℕ). l.done ++ maximal k e f) (sym q);
              count_is = l.count_is;
              list_is = l.list_is;
            };
            held = λ u z. cc;
          }

  -- ---- a window

  module _ (n : ℕ) (ms : List ℕ) (m yes : ℕ) (rising : Rising n ms) (a : Answered f e n ms m yes) where
    -- each of its instants is before the next, and within the end
    before_next : (i : ℕ) → i < n → get_or ms i 0 < instant_at n ms m (suc i)
    before_next i h = cases (ltb (suc i) n)
        (λ l. rw l (rising i (suc i) (omega arith) (true-le (suc (suc i)) n l)))
        (λ l. let z : i ≡ n - 1 = omega (arith, false-le (suc (suc i)) n l) in
        rw (l, z) a.behind)

    before_last : (i : ℕ) → i < n → get_or ms i 0 ≤ get_or ms (n - 1) 0
    before_last i h = cases (ltb i (n - 1))
        (λ l. omega (arith, rising i (n - 1) (true-le (suc i) (n - 1) l) (omega arith)))
        (λ l. let z : i ≡ n - 1 = omega (arith, false-le (suc i) (n - 1) l) in rw z (omega arith))

    pub within_end : (i : ℕ) → i < n → get_or ms i 0 ≤ e
    within_end i h = omega (arith, before_last i h, a.behind, a.within)

    -- asked at the i-th, the next is reached
    pub next_reached : (i : ℕ) (w : Track) (list : List ℕ) → i < n → AskedAt f e lent (get_or ms i 0) w list →
        ScannedTo f e lent (instant_at n ms m (i + 1)) w list
    next_reached i w list h asked =
        rw add-one
        (onward (get_or ms i 0) (instant_at n ms m (suc i)) w list (before_next i h) (a.steady i h) asked)

  -- ---- at the end

  -- behind the end all are done
  complete : (count : ℕ) (list : List ℕ) → Listed f e lent count (suc e) list →
      (count ≡ length (maximal 0 e f)) × (list ≡ filled (maximal 0 e f) lent)
  complete count list l =
      let all : maximal 0 e f ≡ l.done =
      l.all ∙ ap (λ (rest : List Interval). l.done ++ rest) (maximal_past (suc e) e f (omega arith))
      ∙ append-nil l.done in (
        l.count_is ∙ sym (ap (λ (x : List Interval). length x) all),
        l.list_is ∙ sym (ap (λ (x : List Interval). filled x lent) all),
      )

  -- behind the end, where an interval was open that is now done, or none was
  module _ (w : Track) (list : List ℕ) (r : ScannedTo f e lent (suc e) w list) where
    pub complete_open : (from : ℕ) → w.began ≡ Some from → (list' : List ℕ) → list' ≡ with_pair w.count from e list →
        (w.count + 1 ≡ length (maximal 0 e f)) × (list' ≡ filled (maximal 0 e f) lent)
    complete_open from o list' k =
        let m : e ≡ suc e - 1 = omega arith in
        complete (w.count + 1) list'
        (subst (λ (n : ℕ). Listed f e lent n (suc e) list') (sym (add-one w.count))
        (closes (suc e) w list r from o (omega arith) (λ z. absurd (omega arith)) list'
        (k ∙ ap (λ (u : ℕ). with_pair w.count from u list) m)))

    pub complete_none : w.began ≡ None →
        (w.count ≡ length (maximal 0 e f)) × (list ≡ filled (maximal 0 e f) lent)
    complete_none o =
        complete w.count list
        (subst (λ (k : ℕ). Listed f e lent w.count k list) (ap (λ (b : Option ℕ). unwrap_or b (suc e)) o)
        r.listed)
