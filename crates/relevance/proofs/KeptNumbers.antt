-- Numbers that are kept: each is put behind those kept so far, and counted if it passes.
use Rattle.std.proofs.Common.{◌≡◌, ℕ, suc, ◌+◌, ◌*◌, ◌<◌, ◌≤◌, Bool, true, false, ◌&&◌, eqb, ltb, leb, List, [], ◌∷◌, ◌++◌, map, length, get_or, set, sym, refl, ap, ◌∙◌, subst, ap₂, append-nil, add-mul, mul-le-mul, add-one, arith, length-set, get_or-set_other, get_or-set_same, w64, Fits, rules}
use lib.Seq.{take-set-le}
use Rattle.foundation.specs.Tests.{pick, cases, le-true, true-le, false-le, and_intro, or_none, true_eq}
use Rattle.foundation.specs.Tests.{false_eq}
use Rattle.foundation.specs.Lists.{keep_if, keep_if_append}
use Rattle.foundation.specs.CoordinateTables.{coordinate}
use Rattle.foundation.specs.ByteRecords.{records-split}
use Rattle.foundation.specs.declared.Interval.{Interval}
use Rattle.model.specs.declared.Access.{Access}
use Rattle.model.specs.declared.Authorization.{Authorization}
use Rattle.model.specs.declared.Head.{Head}
use Rattle.model.specs.Encoding.{authorization_of}
use Rattle.encoding.specs.Format.{authorizations_in}
use Rattle.relevance.specs.declared.choice.Cell.{Cell}
use Rattle.relevance.specs.Chosen.{authorization_at, picked, Picks}
use Rattle.relevance.proofs.PickedFacts.{picked_none, picked_more}
use Rattle.relevance.specs.Needed.{cell_of, needed_in, is_needed, is_chosen}
use Rattle.relevance.specs.Needed.{HeadInRange, CellInTable, ChoiceReady, Choice}
use Rattle.relevance.specs.Forgotten.{during, ends_from, Forgets}
use Rattle.relevance.proofs.PickedLoops.{picked-loop}

-- the number of one of `total` lies in their bytes
pub number-inside : (i total : ℕ) (s : List ℕ) → i < total → total * 24 ≤ length s → i * 24 + 24 ≤ length s
number-inside i total s h l = omega arith

-- ---- a number put behind n others

module _ (s which : List ℕ) (n v : ℕ) (h : n < length which) where
  left : picked s (set which n v) n ≡ picked s which n
  unfolding picked
  left = ap (map (authorization_at s)) (take-set-le n which n v (omega arith))

  put : picked s (set which n v) (n + 1) ≡ picked s which n ++ (authorization_at s v ∷ [])
  put =
      let l : n < length (set which n v) = rw (length-set which n v) h in
      ap (picked s (set which n v)) (add-one n)
      ∙ picked_more s (set which n v) n l
      ∙ ap₂ (λ (xs : List Authorization) (w : ℕ). xs ++ (authorization_at s w ∷ []))
      left (get_or-set_same which n v 0 h)

  -- and counted if it is to be kept
  put_if : (b : Bool) (k : ℕ) → k ≡ pick b (n + 1) n →
      picked s (set which n v) k ≡ picked s which n ++ pick b (authorization_at s v ∷ []) []
  put_if true k e = ap (picked s (set which n v)) e ∙ put
  put_if false k e = ap (picked s (set which n v)) e ∙ left ∙ sym (append-nil (picked s which n))

count-le : (b : Bool) (n k : ℕ) → k ≡ pick b (n + 1) n → k ≤ n + 1
count-le true n k e = omega arith
count-le false n k e = omega arith

-- what is kept of one more
keep_more : (p : Authorization → Bool) (xs : List Authorization) (a : Authorization) (b : Bool) → b ≡ p a →
    keep_if p (xs ++ (a ∷ [])) ≡ keep_if p xs ++ pick b (a ∷ []) []
keep_more p xs a b e = keep_if_append p xs (a ∷ [])
    ∙ ap (λ (t : Bool). keep_if p xs ++ pick t (a ∷ []) []) (sym e)

-- ---- those that pass, of all

module _ (test : Authorization → Bool) (s : List ℕ) (total : ℕ) (entry : List ℕ) where
  -- i are looked at
  pub record Chose (which : List ℕ) (n i : ℕ) : Type 0 where
    pub chosen : picked s which n ≡ keep_if test (authorizations_in i s)
    pub few : n ≤ i
    pub rest : i ≤ total
    pub below : (j : ℕ) → j < n → get_or which j 0 < total
    pub same_length : length which ≡ length entry

  pub chose_start : Chose entry 0 0
  chose_start = record {
    chosen = picked_none s entry;
    few = omega arith;
    rest = omega arith;
    below = λ j h. absurd (omega arith);
    same_length = refl;
  }

  -- the i-th has its place behind those written down, and can be counted
  module _ (which : List ℕ) (n i : ℕ) (c : Chose which n i) (h : i < total) where
    pub chose_room : total ≤ length entry → n < length which
    chose_room room = omega (arith, c.few, c.same_length)

    pub chose_counts : Fits w64 total → n < 18446744073709551615
    chose_counts l = omega (arith, c.few)

  pub chose_turn : (which : List ℕ) (n i k : ℕ) (b : Bool) → Chose which n i → i < total →
      total ≤ length entry → b ≡ test (authorization_at s i) → k ≡ pick b (n + 1) n →
      Chose (set which n i) k (i + 1)
  chose_turn which n i k b c h room t e =
      let l : n < length which = omega (arith, c.few, c.same_length) in
      record {
        chosen = put_if s which n i l b k e
            ∙ ap (λ (xs : List Authorization). xs ++ pick b (authorization_at s i ∷ []) []) c.chosen
            ∙ sym (ap (keep_if test) (records-split 24 authorization_of i 1 s)
            ∙ keep_more test (authorizations_in i s) (authorization_at s i) b t);
        few = omega (arith, count-le b n k e, c.few);
        rest = omega arith;
        below = λ j g. cases (ltb j n)
            (λ y. let q = true-le (suc j) n y in
            omega (arith, get_or-set_other which n j i 0 (λ z. omega arith), c.below j q))
            (λ y. let q : j ≡ n = omega (arith, false-le (suc j) n y, count-le b n k e) in
            omega (arith, ap (λ (m : ℕ). get_or (set which n i) m 0) q, get_or-set_same which n i 0 l));
        same_length = length-set which n i ∙ c.same_length;
      }

  -- one that does not pass is not written down
  pub chose_skip : (which : List ℕ) (n i : ℕ) → Chose which n i → i < total →
      test (authorization_at s i) ≡ false → Chose which n (i + 1)
  chose_skip which n i c h t = record {
    chosen = c.chosen ∙ sym (ap (keep_if test) (records-split 24 authorization_of i 1 s)
        ∙ keep_more test (authorizations_in i s) (authorization_at s i) false (sym t)
        ∙ append-nil (keep_if test (authorizations_in i s)));
    few = omega (arith, c.few);
    rest = omega arith;
    below = c.below;
    same_length = c.same_length;
  }

  pub chose_end : (which : List ℕ) (n i : ℕ) → Chose which n i → total ≤ i → Choice test s total entry which n
  chose_end which n i c h =
      let e : i ≡ total = omega (arith, c.rest) in
      record {
        chosen = c.chosen ∙ ap (λ (k : ℕ). keep_if test (authorizations_in k s)) e;
        few = omega (arith, c.few);
        below = c.below;
        same_length = c.same_length;
      }

pub ruleset chose-loop = (chose_start, chose_room, chose_counts, number-inside, chose_end, rules)

-- ---- those that have not ended, of n

module _ (s : List ℕ) (n t : ℕ) (entry : List ℕ) where
  -- i are looked at, and those from the i-th on stand where they stood
  pub record Forgot (which : List ℕ) (kept i : ℕ) : Type 0 where
    pub left : picked s which kept ≡ keep_if (ends_from t) (picked s entry i)
    pub few : kept ≤ i
    pub rest : i ≤ n
    pub ahead : (j : ℕ) → i ≤ j → get_or which j 0 ≡ get_or entry j 0
    pub old : (j : ℕ) → j < n → (k : ℕ) × (k < n) × (get_or which j 0 ≡ get_or entry k 0)
    pub same_length : length which ≡ length entry

  pub forgot_start : Forgot entry 0 0
  forgot_start = record {
    left = picked_none s entry ∙ sym (ap (keep_if (ends_from t)) (picked_none s entry));
    few = omega arith;
    rest = omega arith;
    ahead = λ j h. refl;
    old = λ j h. (j, h, refl);
    same_length = refl;
  }

  -- the numbers still name what lies in the bytes, and the i-th has its place behind those kept, and can be
  -- counted
  module _ (which : List ℕ) (kept i : ℕ) (f : Forgot which kept i) where
    pub forgot_picks : Picks s entry n → Picks s which n
    forgot_picks p = record {
      room = omega (arith, f.same_length, p.room);
      inside = λ j h. let w = f.old j h in omega (arith, w.2, p.inside w.0 w.1);
    }

    pub forgot_room : i < n → Picks s entry n → kept < length which
    forgot_room h p = omega (arith, f.few, f.same_length, p.room)

    pub forgot_counts : i < n → Fits w64 n → kept < 18446744073709551615
    forgot_counts h l = omega (arith, f.few)

  pub forgot_turn : (which : List ℕ) (kept i w k : ℕ) (a : Authorization) (b : Bool) → Forgot which kept i →
      i < n → n ≤ length entry → w ≡ get_or which i 0 → a ≡ authorization_at s w → b ≡ ends_from t a →
      k ≡ pick b (kept + 1) kept → Forgot (set which kept w) k (i + 1)
  forgot_turn which kept i w k a b f h room r u q e =
      let l : kept < length which = omega (arith, f.few, f.same_length) in
      let v : w ≡ get_or entry i 0 = r ∙ f.ahead i (omega arith) in
      record {
        left = put_if s which kept w l b k e
            ∙ ap₂ (λ (xs : List Authorization) (y : Authorization). xs ++ pick b (y ∷ []) []) f.left
            (sym u)
            ∙ sym (ap (keep_if (ends_from t)) (ap (picked s entry) (add-one i)
            ∙ picked_more s entry i (omega arith)
            ∙ ap (λ (y : Authorization). picked s entry i ++ (y ∷ []))
            (ap (authorization_at s) (sym v) ∙ sym u))
            ∙ keep_more (ends_from t) (picked s entry i) a b q);
        few = omega (arith, count-le b kept k e, f.few);
        rest = omega arith;
        ahead = λ j g. get_or-set_other which kept j w 0 (λ z. omega (arith, f.few))
            ∙ f.ahead j (omega arith);
        old = λ j g. cases (eqb j kept)
            (λ y. (
              i,
              h,
              ap (λ (m : ℕ). get_or (set which kept w) m 0) (true_eq j kept y)
                  ∙ get_or-set_same which kept w 0 l ∙ v,
            ))
            (λ y. let o = f.old j g in
            (o.0, o.1, get_or-set_other which kept j w 0 (false_eq j kept y) ∙ o.2));
        same_length = length-set which kept w ∙ f.same_length;
      }

  pub forgot_end : (which : List ℕ) (kept i : ℕ) → Forgot which kept i → n ≤ i →
      Forgets s n t entry which kept
  forgot_end which kept i f h =
      let e : i ≡ n = omega (arith, f.rest) in
      record {
        left = f.left ∙ ap (λ (k : ℕ). keep_if (ends_from t) (picked s entry k)) e;
        few = omega (arith, f.few);
        old = f.old;
        same_length = f.same_length;
      }

pub ruleset forget-loop = (forgot_start, forgot_picks, forgot_room, forgot_counts, forgot_end, picked-loop)

-- ---- places in the table

-- a place is a small number
pub small : {c : Cell} {stride : ℕ} {need : List ℕ} → CellInTable c stride need →
    c.object * stride + c.subject < 65536
small {c} {stride} t =
    let m : c.object * stride ≤ 255 * 256 = mul-le-mul t.object t.narrow in
    omega (arith, t.subject)

-- a coordinate that is there is the entry of the table
entered : (U : List ℕ) (own v c : ℕ) → c ≡ coordinate U own v → eqb c 255 ≡ false → c ≡ get_or U v 0
unfolding coordinate
entered U own v c e f = cases (eqb (get_or U v 0) 0)
    (λ y. cases (eqb v own)
    (λ z. let q : coordinate U own v ≡ 0 = rw (y, z) in omega (arith, true_eq (get_or U v 0) 0 y))
    (λ z. let q : coordinate U own v ≡ 255 = rw (y, z) in absurd (false_eq c 255 f (e ∙ q))))
    (λ y. let q : coordinate U own v ≡ get_or U v 0 = rw y in e ∙ q)

-- ---- those that have an asked instant and are needed

module _ {s : List ℕ} {total : ℕ} {subjects objects : List ℕ} {stride : ℕ} {need entry : List ℕ}
    (ready : ChoiceReady s total subjects objects stride need entry) where
  -- coordinates that are there have their place in the table
  pub charted : (x : Access) (h : Head) (c : Cell) → c ≡ cell_of subjects objects x h → c.subject ≤ 255 →
      c.object ≤ 255 → CellInTable c stride need
  charted x h c e l k = record {
    narrow = ready.narrow;
    object = k;
    subject = l;
    inside = λ z.
        let w = or_none (eqb c.subject 255) (eqb c.object 255) z in
        let p = entered subjects x.subject h.subject c.subject (ap (λ (d : Cell). d.subject) e)
        w.0 in
        let q = entered objects x.object h.object c.object (ap (λ (d : Cell). d.object) e)
        w.1 in
        let g : ℕ = get_or objects h.object 0 in
        let u : c.object * stride ≡ g * stride = ap (λ (n : ℕ). n * stride) q in
        let d : (g + 1) * stride ≡ g * stride + stride = add-mul g 1 stride ∙ omega arith in
        omega (arith, ready.rows h.object, ready.columns h.subject);
  }

  module _ (i : ℕ) (here : i < total) {a : Authorization} (e : a ≡ authorization_at s i) where
    -- what is known of the authorization at i is known of the one read
    pub placed_at : HeadInRange a.head
    placed_at = subst (λ (b : Authorization). HeadInRange b.head) (sym e) (ready.placed i here)

    -- one that has an asked instant is chosen if it is needed
    pub chose_during : (asked : Interval) (x : Access) (which : List ℕ) (n k : ℕ) (c : Cell) (b : Bool) →
        Chose (is_chosen asked subjects objects x stride need) s total entry which n i →
        during asked.start asked.end a ≡ true → c ≡ cell_of subjects objects x a.head →
        b ≡ needed_in stride need c a.head → k ≡ pick b (n + 1) n →
        Chose (is_chosen asked subjects objects x stride need) s total entry (set which n i) k (i + 1)
    chose_during asked x which n k c b v d t u =
        chose_turn (is_chosen asked subjects objects x stride need) s total entry which n i k b v here
        ready.room
        (u ∙ ap (λ (g : Cell). needed_in stride need g a.head) t
        ∙ ap (λ (f : Bool). f && is_needed subjects objects x stride need a) (sym d)
        ∙ ap (is_chosen asked subjects objects x stride need) e)

-- where all of time is asked, each has an instant of it
pub during_all : (a : Authorization) → a.interval.start ≤ 4294967295 → during 0 4294967295 a ≡ true
during_all a h = and_intro (leb 0 a.interval.end) (leb a.interval.start 4294967295)
    (le-true 0 a.interval.end (omega arith)) (le-true a.interval.start 4294967295 h)
