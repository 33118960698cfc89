-- Steps of giving: to one field (`given-one`), nothing, to no table, to one behind the other, to the table of
-- a sign. And the tables that are there have the place (`reaches`).
use mathlib.Core.Path.{◌≡◌, refl, sym, ap, ◌∙◌}
use mathlib.Core.Bool.{Bool, true, false, ◌&&◌, ◌||◌, true≢false, false≢true}
use mathlib.Core.List.{List, [], ◌∷◌, ◌++◌}
use Prim.Native.Nat.{ℕ, zero, suc, ◌+◌, ◌*◌, ◌^◌, ◌≤◌, ◌<◌}
use native.Mathlib.Nat.{mul-lt-mul_of_pos_right}
use native.Mathlib.Omega.{arith}
use lib.Bits.{bit_or, or_zero_r}
use lib.Dec.{eqb, ltb}
use lib.ListN.{length}
use lib.Pow.{pow_pos}
use Rattle.foundation.specs.Tests.{pick, cases, eq_true, true_eq, ne_false, true-le}
use Rattle.foundation.specs.Tests.{and-true, and_intro, or_false}
use Rattle.foundation.specs.Tests.{and_three}
use Rattle.foundation.specs.BitMasks.{bit}
use Rattle.std.proofs.lemmas.Bool.Decides.{nat_tests}
use Rattle.words.specs.Fields.{starts, field_of, joined}
use Rattle.words.specs.SetBits.{set_bits, among}
use Rattle.words.proofs.SetBitLoops.{Turn, among_more, among_all}
use Rattle.places.specs.declared.Point.{Point}
use Rattle.places.specs.Regions.{size_of, index_in, Within, In}
use Rattle.tables.specs.declared.Frame.{Frame}
use Rattle.tables.specs.declared.Place.{Place}
use Rattle.tables.specs.TableLayout.{Tables, field_in, TablesLaid, whole_region, Paired, Has, is_there}
use Rattle.tables.specs.TableLayout.{offset_of, region_of}
use Rattle.tables.proofs.FieldsApart.{field_apart}
use Rattle.tables.specs.TableGiving.{tables_of, rule_table, table_takes, same_place, TablesGiven}
use Rattle.tables.specs.TableGiving.{TablesReady, Reaches, shapes_of}

-- a field below the end starts below the end
pub start-below : (k i n m : ℕ) → i < n → starts k n ≤ m → starts k i < m
start-below k i n m h l = omega (arith, mul-lt-mul_of_pos_right h (pow_pos k))

module _ (f : Frame) (right first : List ℕ) (size : ℕ) (p : Place) (ready : TablesReady f right first size)
    (within : Within f.grid p.pair p.point) where
  -- the tables that are there have the place
  pub reaches : (c : ℕ) → is_there f.tables c ≡ true →
      Reaches f (offset_of f.grid first c) (region_of (shapes_of f right) c) p size
  reaches c e =
      record { narrow = ready.narrow; fits = ready.fits; high = ready.laid.high c e; within = within }

-- places that are tested the same are one
pub same_eq : (x y : Point) → same_place x y ≡ true → x ≡ y
same_eq x y e =
    let w = (and_three (eqb x.subject y.subject) (eqb x.object y.object) (eqb x.mode y.mode)
    ).0 e in
    let s = true_eq x.subject y.subject w.0 in
    let o = true_eq x.object y.object w.1 in
    let m = true_eq x.mode y.mode w.2 in
    λ i. record { subject = s i; mode = m i; object = o i }

module _ (t : Tables) (k n : ℕ) (x : Point) (v : ℕ) where
  -- v is joined to the field of one table
  module _ (from to : ℕ) (laid : TablesLaid t from to) (c : ℕ) (here : Has t c n x) (old new : List ℕ)
      (join : (j : ℕ) → field_of k new j ≡ joined k old (field_in t c n x) v j)
      (lengths : length new ≡ length old) where
    own : (d m : ℕ) (y : Point) → Paired m y n x → d ≡ c → y ≡ x →
        field_of k new (field_in t d m y) ≡ bit_or (field_of k old (field_in t d m y)) v
    own d m y p e f =
        let i : m ≡ n = p.1 (ap (λ (s : Point). s.subject) f, ap (λ (s : Point). s.object) f) in
        let q : field_in t d m y ≡ field_in t c n x = rw (e, i, f) in
        rw q (join (field_in t c n x)
        ∙ ap (λ (b : Bool). pick b (bit_or (field_of k old (field_in t c n x)) v)
        (field_of k old (field_in t c n x)))
        (eq_true (field_in t c n x) (field_in t c n x) refl))

    other : (d m : ℕ) (y : Point) → Has t d m y → Paired m y n x → eqb d c && same_place y x ≡ false →
        field_of k new (field_in t d m y) ≡ field_of k old (field_in t d m y)
    other d m y h p e = join (field_in t d m y)
        ∙ ap (λ (b : Bool). pick b (bit_or (field_of k old (field_in t c n x)) v)
        (field_of k old (field_in t d m y)))
        (ne_false (field_in t d m y) (field_in t c n x) (λ q.
        let w = field_apart t from to laid d c m n y x h here p.0 q in
        true≢false (sym (and_intro (eqb d c) (same_place y x) (eq_true d c w.0) ((and_three
        (eqb y.subject x.subject) (eqb y.object x.object) (eqb y.mode x.mode)).1 (
          eq_true y.subject x.subject w.1,
          eq_true y.object x.object w.2,
          eq_true y.mode x.mode w.3,
        ))) ∙ e)))

    pub given_one : TablesGiven t k n x (λ d. eqb d c) v old new
    given_one = record {
      lengths = lengths;
      fields = λ d m y h p. cases (eqb d c && same_place y x)
          (λ e. let w = and-true (eqb d c) (same_place y x) e in
          rw e (own d m y p (true_eq d c w.0) (same_eq y x w.1)))
          (λ e. rw e (other d m y h p e));
    }

  -- a table that does not have the place gets nothing
  pub given_none : (c : ℕ) (l : List ℕ) → (In (t.region c) x → ⊥) → TablesGiven t k n x (λ d. eqb d c) v l l
  given_none c l out = record {
    lengths = refl;
    fields = λ d m y h p. cases (eqb d c && same_place y x)
        (λ e. let w = and-true (eqb d c) (same_place y x) e in
        let q : d ≡ c = true_eq d c w.0 in
        let s : y ≡ x = same_eq y x w.1 in
        absurd (out (rw (q, s) at h.inside)))
        (λ e. rw e);
  }

  -- no table takes
  pub given_nothing : (p : ℕ → Bool) (l : List ℕ) → ((d : ℕ) → p d ≡ false) → TablesGiven t k n x p v l l
  given_nothing p l e = record { lengths = refl; fields = λ d m y h w. rw (e d) }

-- a word without bits gives nothing
pub given-zero : (t : Tables) (k n : ℕ) (x : Point) (taken : ℕ → Bool) (v : ℕ) (l : List ℕ) → v ≡ 0 →
    TablesGiven t k n x taken v l l
given-zero t k n x taken v l z = record {
  lengths = refl;
  fields = λ c m y h p. cases (taken c && same_place y x)
      (λ e. rw (e, z) (sym (or_zero_r (field_of k l (field_in t c m y)))))
      (λ e. rw e);
}

-- two steps, no table taking twice
pub given-then : {t : Tables} {k n : ℕ} {x : Point} {v : ℕ} {p q : ℕ → Bool} {a b c : List ℕ} (r : ℕ → Bool) →
    ((d : ℕ) → p d ≡ true → q d ≡ false) → ((d : ℕ) → p d || q d ≡ r d) →
    TablesGiven t k n x p v a b → TablesGiven t k n x q v b c → TablesGiven t k n x r v a c
given-then {t} {k} {n} {x} {v} {p} {q} {a} {b} {c} r once both g h = record {
  lengths = h.lengths ∙ g.lengths;
  fields = λ d m y has e. h.fields d m y has e ∙ joint (p d) (q d) (r d) (same_place y x) (once d) (both d)
      (field_of k a (field_in t d m y)) (field_of k b (field_in t d m y)) (g.fields d m y has e);
}
  where
    joint : (p q r s : Bool) → (p ≡ true → q ≡ false) → p || q ≡ r → (i j : ℕ) →
        j ≡ pick (p && s) (bit_or i v) i → pick (q && s) (bit_or j v) j ≡ pick (r && s) (bit_or i v) i
    joint true q r s once f i j e = rw (once refl, ← f) e
    joint false true r true once f i j e = rw (← f, e)
    joint false true r false once f i j e = rw (← f) e
    joint false false r s once f i j e = rw (← f) e

-- ---- the table of a sign

module _ (f : Frame) (right first : List ℕ) (laid : TablesLaid (tables_of f right first) 0 f.fields) where
  abbrev side : ℕ
  side = size_of f.grid whole_region

  pub plain_fits : (sign : ℕ) → sign < 2 → sign * side + side ≤ f.fields
  plain_fits zero h = omega (arith, laid.high 0 refl)
  plain_fits (suc zero) h = omega (arith, laid.high 1 refl)
  plain_fits (suc (suc s)) h = absurd (omega arith)

  all_in : (x : Point) → In whole_region x
  all_in x = record {
    subject = λ e. absurd (true≢false e);
    object = λ e. absurd (true≢false e);
    mode = λ e. absurd (true≢false e);
  }

  module _ (k n : ℕ) (x : Point) (v : ℕ) (within : Within f.grid n x) (old new : List ℕ)
      (lengths : length new ≡ length old) where
    pub given-plain : (sign : ℕ) → sign < 2 →
        ((j : ℕ) → field_of k new j ≡ joined k old (sign * side + index_in f.grid whole_region n x) v j) →
        TablesGiven (tables_of f right first) k n x (λ d. eqb d sign) v old new
    given-plain zero h join = given_one (tables_of f right first) k n x v 0 f.fields laid 0
        record { table = refl; within = within; inside = all_in x } old new
        (λ j. join j ∙ ap (λ (i : ℕ). joined k old i v j) (omega arith)) lengths
    given-plain (suc zero) h join = given_one (tables_of f right first) k n x v 0 f.fields laid 1
        record { table = refl; within = within; inside = all_in x } old new
        (λ j. join j ∙ ap (λ (i : ℕ). joined k old i v j) (omega arith)) lengths
    given-plain (suc (suc s)) h join = absurd (omega arith)

-- ---- the tables of rules, one after the other

-- those of the rules in a list
abbrev pub taken_by : List ℕ → ℕ → Bool
taken_by rules zero = false
taken_by rules (suc zero) = false
taken_by rules (suc (suc d)) = among d rules

pub taken_none : (d : ℕ) → taken_by [] d ≡ false
taken_none zero = refl
taken_none (suc zero) = refl
taken_none (suc (suc d)) = refl

pub taken_once : {takers c : ℕ} {rules : List ℕ} → Turn takers rules c → (d : ℕ) →
    taken_by rules d ≡ true → rule_table c d ≡ false
taken_once t zero e = absurd (false≢true e)
taken_once t (suc zero) e = absurd (false≢true e)
taken_once {takers} {c} t (suc (suc d)) e =
    let l = true-le (suc d) c (and-true (ltb d c) (bit d takers) (sym (t.seen d) ∙ e)).0 in
    ne_false (suc (suc d)) (suc (suc c)) (λ q. omega arith)

pub taken_more : (c : ℕ) (rules : List ℕ) (d : ℕ) →
    taken_by rules d || rule_table c d ≡ taken_by (rules ++ c ∷ []) d
taken_more c rules zero = ne_false 0 (suc (suc c)) (λ q. omega arith)
taken_more c rules (suc zero) = ne_false 1 (suc (suc c)) (λ q. omega arith)
taken_more c rules (suc (suc d)) = ap (λ (b : Bool). among d rules || b) same ∙ sym (among_more d c rules)
  where
    same : eqb (suc (suc d)) (suc (suc c)) ≡ eqb d c
    same = grind (arith, nat_tests)

pub plain_once : (sign : ℕ) (rules : List ℕ) → sign < 2 → (d : ℕ) → eqb d sign ≡ true → taken_by rules d ≡ false
plain_once sign rules h zero e = refl
plain_once sign rules h (suc zero) e = refl
plain_once sign rules h (suc (suc d)) e = absurd (omega (arith, true_eq (suc (suc d)) sign e))

-- at the end all are given that take
pub taken_all : (sign takers : ℕ) (rules : List ℕ) → sign < 2 → takers < 2 ^ 64 → rules ≡ set_bits takers → (d : ℕ) →
    eqb d sign || taken_by rules d ≡ table_takes sign takers d
taken_all sign takers rules h s a zero = or_false (eqb 0 sign)
taken_all sign takers rules h s a (suc zero) = or_false (eqb 1 sign)
taken_all sign takers rules h s a (suc (suc d)) =
    let n : eqb (suc (suc d)) sign ≡ false = ne_false (suc (suc d)) sign (λ q. omega arith) in
    rw n (among_all d takers rules s a)
