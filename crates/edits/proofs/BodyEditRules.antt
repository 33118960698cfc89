-- What `search` is handed at each need of a function that edits a base: `c` are the counts that the bytes
-- name, a body starts at `at`, and `m` is its count as the code has it. Assumes nothing.
use borrow.Author.Rules.{rules}
use mathlib.Core.Path.{◌≡◌}
use mathlib.Core.Bool.{true}
use mathlib.Core.List.{List}
use Prim.Native.Nat.{ℕ, ◌+◌, ◌-◌, ◌*◌, ◌≤◌, ◌<◌}
use native.Mathlib.Nat.{le_of_lt, mul-le-mul_left}
use native.Mathlib.Omega.{arith}
use lib.Dec.{T, leb, leb→le}
use lib.ListN.{length}
use mir.Syntax.{w16, w64}
use mir.Val.{Fits}
use Rattle.model.specs.Encoding.{size, decode}
use Rattle.encoding.specs.declared.Counts.{Counts}
use Rattle.encoding.specs.Format.{counts_of, counts_fit}
use Rattle.edits.specs.Edits.{Written}
use Rattle.edits.proofs.EditedBytes.{written-length, edited, edited_out, clock_written, last_written}
use Rattle.edits.proofs.BodyEdits.{BodyKind, count_is, start-within, insertion, removal}

-- a place that is a number stands within the bytes
pub number-within : (s : List ℕ) (n : ℕ) → Written s → T (leb n size) → n ≤ length s
number-within s n W t = omega (arith, written-length s W, leb→le n size t)

-- the bytes before the i-th record, and where it stands
module _ {R : Type 0} (k : BodyKind R) (s : List ℕ) (W : Written s) (i : ℕ)
    (h : i ≤ length (k.of (decode s))) (t : T (leb (k.width * k.most) size)) where
  before_it : k.width * i ≤ size
  before_it =
      let l = k.limited (decode s) W.fits.counts in
      let w : k.width * i ≤ k.width * k.most = mul-le-mul_left k.width (omega arith) in
      omega (arith, leb→le (k.width * k.most) size t)

  pub before-fits : Fits w64 (k.width * i)
  before-fits = record { fits = omega (arith, before_it) }

  pub place-fits : (c : Counts) (at : ℕ) → c ≡ counts_of s → at ≡ k.at c → Fits w64 (at + k.width * i)
  place-fits c at e p = record { fits = omega (arith, before_it, start-within k s W c e) }

module _ {R : Type 0} (k : BodyKind R) (s : List ℕ) (W : Written s) (c : Counts) (e : c ≡ counts_of s) where
  module _ (m : ℕ) (q : m ≡ k.count c) where
    pub count-rises : length (k.of (decode s)) < k.most → T (leb k.most 65535) → Fits w16 (m + 1)
    count-rises l t = record { fits = omega (arith, count_is k s W c e, leb→le k.most 65535 t) }

    pub count-falls : (i : ℕ) → i < length (k.of (decode s)) → 1 ≤ m
    count-falls i h = omega (arith, count_is k s W c e)

  module _ (at i m : ℕ) (c' : Counts) (p : at ≡ k.at c) (q : m ≡ k.count c) where
    -- one put in
    module _ (x : R) (r : c' ≡ k.with_count (m + 1) c) (h : i ≤ length (k.of (decode s)))
        (l : length (k.of (decode s)) < k.most) where
      pub put-needs : (at + k.width * i + k.width ≤ length s) × (32 ≤ length s) × (counts_fit c' ≡ true)
      put-needs =
          let f = insertion k s W c e at i m x c' p q r h l in
          (f.new-room, number-within s 32 W tt, f.counts)

    -- one taken out
    module _ (r : c' ≡ k.with_count (m - 1) c) (h : i < length (k.of (decode s))) where
      pub out_needs : (at + k.width * i + k.width ≤ length s) × (32 ≤ length s) × (counts_fit c' ≡ true)
      out_needs =
          let f = removal k s W c e at i m c' p q r h in
          (f.old-room, number-within s 32 W tt, f.counts)

pub ruleset edit-rules = (number-within, edited, edited_out, clock_written, last_written, le_of_lt, rules)
