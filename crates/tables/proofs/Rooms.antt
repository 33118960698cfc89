-- The tables of the rules of a mask, laid out in order: each starts where those before it end (`rules-laid`);
-- and all tables (`all_laid`), which stay where they are (`laid_as`).
use mathlib.Core.Path.{◌≡◌, refl, sym, ap, ◌∙◌}
use mathlib.Core.Bool.{true, false}
use mathlib.Core.List.{List}
use Prim.Native.Nat.{ℕ, zero, suc, ◌+◌, ◌*◌, ◌-◌, ◌^◌, ◌≤◌, ◌<◌}
use native.Mathlib.Omega.{arith}
use lib.ListN.{get_or}
use Rattle.foundation.specs.Tests.{cases}
use Rattle.foundation.specs.BitMasks.{bit, bit-inside}
use Rattle.places.specs.declared.Grid.{Grid}
use Rattle.places.specs.Regions.{size_of}
use Rattle.tables.specs.TableLayout.{Tables, size_in, TablesLaid, region_at, rule_tables, room_of}
use Rattle.tables.specs.TableLayout.{whole_region, is_there, offset_of, all_tables}

module _ (g : Grid) (codes : List ℕ) (rules : ℕ) where
  pub room_none : room_of g codes rules 0 ≡ 0
  unfolding room_of
  room_none = refl

  pub room-taken : (c : ℕ) → bit c rules ≡ true →
      room_of g codes rules (suc c) ≡ room_of g codes rules c + size_of g (region_at codes c)
  unfolding room_of
  room-taken c e = rw e

  pub room_passed : (c : ℕ) → bit c rules ≡ false → room_of g codes rules (suc c) ≡ room_of g codes rules c
  unfolding room_of
  room_passed c e = rw e (omega arith)

  next : (c d : ℕ) → room_of g codes rules (suc d + c) ≡ room_of g codes rules (suc (d + c))
  next c d = ap (room_of g codes rules) (omega arith)

  room_more : (c d : ℕ) → room_of g codes rules c ≤ room_of g codes rules (d + c)
  room_more c zero = let e : room_of g codes rules (0 + c) ≡ room_of g codes rules c = ap (room_of g codes rules)
      (omega arith) in omega arith
  room_more c (suc d) = let f = next c d in cases (bit (d + c) rules)
      (λ e. omega (arith, room-taken (d + c) e, room_more c d))
      (λ e. omega (arith, room_passed (d + c) e, room_more c d))

  pub room_mono : (c d : ℕ) → c ≤ d → room_of g codes rules c ≤ room_of g codes rules d
  room_mono c d h =
      let e : (d - c) + c ≡ d = omega arith in
      let f : room_of g codes rules ((d - c) + c) ≡ room_of g codes rules d = ap (room_of g codes rules) e in
      omega (arith, room_more c (d - c))

  none_more : (c d : ℕ) → ((i : ℕ) → c ≤ i → i < d + c → bit i rules ≡ false) →
      room_of g codes rules (d + c) ≡ room_of g codes rules c
  none_more c zero z = ap (room_of g codes rules) (omega arith)
  none_more c (suc d) z = next c d ∙ room_passed (d + c) (z (d + c) (omega arith) (omega arith))
      ∙ none_more c d (λ i h l. z i h (omega arith))

  -- rules that have no table take no room
  pub room_same : (c d : ℕ) → c ≤ d → ((i : ℕ) → c ≤ i → i < d → bit i rules ≡ false) →
      room_of g codes rules d ≡ room_of g codes rules c
  room_same c d h z =
      let e : (d - c) + c ≡ d = omega arith in
      ap (room_of g codes rules) (sym e) ∙ none_more c (d - c) (λ i l m. z i l (omega arith))

  module _ (first : List ℕ) (from : ℕ) (small : rules < 2 ^ 64)
      (starts : (c : ℕ) → c < 64 → bit c rules ≡ true → get_or first c 0 ≡ from + room_of g codes rules c) where
    inside : (c : ℕ) → bit c rules ≡ true → c < 64
    inside c e = bit-inside 64 rules c small e

    behind : (c d : ℕ) → bit c rules ≡ true → bit d rules ≡ true → c < d →
        get_or first c 0 + size_of g (region_at codes c) ≤ get_or first d 0
    behind c d e f h = omega (
      arith,
      starts c (inside c e) e,
      starts d (inside d f) f,
      room-taken c e,
      room_mono (suc c) d h,
    )

    pub rules_laid : TablesLaid (rule_tables g codes rules first) from (from + room_of g codes rules 64)
    rules_laid = record {
      room = omega arith;
      low = λ c e. omega (arith, starts c (inside c e) e);
      high = λ c e. omega (arith, starts c (inside c e) e, room-taken c e, room_mono (suc c) 64 (inside c e));
      behind = behind;
    }

-- ---- all tables

-- all lie one behind the other if those of the rules do, behind the first two
pub all_laid : (g : Grid) (right : List ℕ) (rules : ℕ) (first : List ℕ) (to : ℕ) →
    TablesLaid (rule_tables g right rules first) (2 * size_of g whole_region) to →
    TablesLaid (all_tables g right rules first) 0 to
all_laid g right rules first to l =
    record { room = omega arith; low = λ c e. omega arith; high = high; behind = behind }
  where
    t : Tables
    t = all_tables g right rules first

    high : (c : ℕ) → t.there c ≡ true → t.offset c + size_in t c ≤ to
    high zero e = omega (arith, l.room)
    high (suc zero) e = omega (arith, l.room)
    high (suc (suc c)) e = l.high c e

    behind : (c d : ℕ) → t.there c ≡ true → t.there d ≡ true → c < d →
        t.offset c + size_in t c ≤ t.offset d
    behind zero zero e f h = absurd (omega arith)
    behind zero (suc zero) e f h = omega arith
    behind zero (suc (suc d)) e f h = omega (arith, l.low d f)
    behind (suc zero) zero e f h = absurd (omega arith)
    behind (suc zero) (suc zero) e f h = absurd (omega arith)
    behind (suc zero) (suc (suc d)) e f h = omega (arith, l.low d f)
    behind (suc (suc c)) zero e f h = absurd (omega arith)
    behind (suc (suc c)) (suc zero) e f h = absurd (omega arith)
    behind (suc (suc c)) (suc (suc d)) e f h = l.behind c d e f (omega arith)

-- tables stay where they are, whatever is written where rules without one look
pub laid_as : {g : Grid} (right : List ℕ) (tables : ℕ) (first first' : List ℕ) {to : ℕ} →
    ((c : ℕ) → bit c tables ≡ true → get_or first' c 0 ≡ get_or first c 0) →
    TablesLaid (all_tables g right tables first) 0 to → TablesLaid (all_tables g right tables first') 0 to
laid_as {g} right tables first first' {to} same l = record {
  room = l.room;
  low = λ c t. omega arith;
  high = λ c t. omega (arith, l.high c t, at c t);
  behind = λ c d t u h. omega (arith, l.behind c d t u h, at c t, at d u);
}
  where
    at : (c : ℕ) → is_there tables c ≡ true → offset_of g first' c ≡ offset_of g first c
    at zero t = refl
    at (suc zero) t = refl
    at (suc (suc c)) t = same c t
