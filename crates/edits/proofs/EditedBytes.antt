-- What an edit of the bytes makes of the base: where two bases differ by one part of their bodies, the bytes
-- of the one are got from the bytes of the other by resizing the part's place, rewriting the contents and
-- putting the new part in.
use mathlib.Core.Path.{◌≡◌, refl, sym, ap, ◌∙◌}
use Prim.Native.Nat.{ℕ, zero, suc, ◌+◌, ◌-◌, ◌≤◌, ◌<◌}
use native.Mathlib.Omega.{arith}
use native.Mathlib.Nat.{not-suc-le-zero, le_of_suc-le-suc, add-zero}
use mathlib.Core.Bool.{true}
use mathlib.Core.List.{List, [], ◌∷◌, ◌++◌, append_assoc, append-nil}
use lib.ListN.{length, take, drop, replicate, length-append, length-drop, length-replicate, take-append-drop}
use lib.ListN.{replicate-append-replicate}
use lib.Seq.{take_at, drop_at, take_all, take-append-add, length-take-le, drop-length}
use Rattle.foundation.specs.Tests.{le-true}
use Rattle.foundation.specs.Bytes.{bytes_of, le_bytes}
use Rattle.model.specs.Ranges.{most_objects, most_administrators, most_referrers, most_authorizations, most_rules}
use Rattle.model.specs.Base.{Base}
use Rattle.model.specs.Encoding.{size, mark, heading, bodies, encode, decode}
use Rattle.model.specs.FitsFacts.{CountsFit}
use Rattle.model.specs.EncodingFacts.{bodies-length, length-fits}
use Rattle.encoding.specs.declared.Counts.{Counts}
use Rattle.encoding.specs.Format.{counts_of, contents_of, counts_fit}
use Rattle.fields.specs.Field.{splice, gapped, gap_closed}
use Rattle.edits.specs.Edits.{resized, Written, with_stamp}

-- ---- lists

take-replicate : (j m : ℕ) → j ≤ m → take j (replicate {A = ℕ} m 0) ≡ replicate j 0
take-replicate zero m h = refl
take-replicate (suc j) zero h = absurd (not-suc-le-zero h)
take-replicate (suc j) (suc m) h = ap (λ (l : List ℕ). 0 ∷ l) (take-replicate j m (le_of_suc-le-suc h))

-- the zeros behind B cut to k bytes in all
cut-zeros : (B : List ℕ) (m k : ℕ) → length B ≤ k → k ≤ length B + m →
    take k (B ++ replicate m 0) ≡ B ++ replicate (k - length B) 0
cut-zeros B m k h g =
    let e : k ≡ length B + (k - length B) = omega arith in
    let t : take (k - length B) (replicate {A = ℕ} m 0) ≡ replicate (k - length B) 0 =
    take-replicate (k - length B) m (omega arith) in
    ap (λ (n : ℕ). take n (B ++ replicate m 0)) e
    ∙ take-append-add B (replicate m 0) (k - length B) ∙ ap (λ (z : List ℕ). B ++ z) t

-- no bytes put in change nothing
pub put-nothing : (at : ℕ) (s : List ℕ) → splice at [] s ≡ s
unfolding splice
put-nothing at s = rw (append-nil (take at s), add-zero at) (take-append-drop at s)

-- what is put in the place of as many bytes
put_at : (P g x R : List ℕ) (at : ℕ) → length P ≡ at → length x ≡ length g →
    splice at x (P ++ (g ++ R)) ≡ P ++ (x ++ R)
unfolding splice
put_at P g x R at p e =
    let d : drop (at + length x) (P ++ (g ++ R)) ≡ R =
    rw (← append_assoc P g R) (drop_at (P ++ g) R (at + length x) (length-append P g
    ∙ omega (arith, p, e))) in
    rw (take_at P (g ++ R) at p, d) (append_assoc P x R)

-- a place resized, between P and B with zeros behind it
resized_at : (P x B : List ℕ) (z at new : ℕ) → length P ≡ at →
    at + new + length B ≤ at + length x + length B + z →
    resized at (length x) new (P ++ (x ++ (B ++ replicate z 0)))
    ≡ P ++ (take new (x ++ (B ++ replicate z 0)) ++ (B ++ replicate (length x + z - new) 0))
unfolding resized
resized_at P x B z at new p h =
    let R : List ℕ = B ++ replicate z 0 in
    let s : List ℕ = P ++ (x ++ R) in
    let old = length x in
    let ls : length (P ++ (x ++ (B ++ replicate {A = ℕ} z 0))) ≡ at + length x + length B + z =
    simp (length-append, length-replicate) (omega (arith, p)) in
    let t : take (at + new) (P ++ (x ++ (B ++ replicate {A = ℕ} z 0))) ≡ P
    ++ take new (x ++ (B ++ replicate z 0)) =
    ap (λ (n : ℕ). take (n + new) s) (sym p) ∙ take-append-add P (x ++ R) new in
    let d : drop (at + length x) (P ++ (x ++ (B ++ replicate {A = ℕ} z 0))) ≡ B ++ replicate z 0 =
    rw (← append_assoc P x (B ++ replicate {A = ℕ} z 0))
    (drop_at (P ++ x) R (at + old) (length-append P x ∙ omega (arith, p))) in
    let k : ℕ = at + old + length B + z - at - new in
    let c : take (at + length x + length B + z - at - new) (B ++ replicate (z + (length x - new)) 0)
    ≡ B ++ replicate (at + length x + length B + z - at - new - length B) 0 =
    cut-zeros B (z + (old - new)) k (omega arith) (omega arith) in
    let n : at + length x + length B + z - at - new - length B ≡ length x + z - new = omega arith in
    rw (
      ls,
      t,
      d,
      append_assoc B (replicate {A = ℕ} z 0) (replicate (old - new) 0),
      replicate-append-replicate {A = ℕ} z (old - new) 0,
      c,
      n,
    )
    (append_assoc P (take new (x ++ R)) (B ++ replicate (old + z - new) 0))

-- ---- the counts

-- how many records each body of a base has
abbrev pub counts_in : Base → Counts
counts_in b = record {
  objects = length b.objects;
  administrators = length b.administrators;
  referrers = length b.referrers;
  authorizations = length b.authorizations;
  rules = length b.rules;
}

pub counts-encode : (b : Base) → CountsFit b → counts_of (encode b) ≡ counts_in b
unfolding encode
counts-encode b c i = record {
  objects = le_bytes 2 (length b.objects) [] (omega (arith, c.objects)) i;
  administrators = le_bytes 2 (length b.administrators) [] (omega (arith, c.administrators)) i;
  referrers = le_bytes 2 (length b.referrers) [] (omega (arith, c.referrers)) i;
  authorizations = le_bytes 2 (length b.authorizations) [] (omega (arith, c.authorizations)) i;
  rules = le_bytes 2 (length b.rules) [] (omega (arith, c.rules)) i;
}

-- ---- one part of the bodies

-- a heading, bodies with the part x, and zeros up to the size
parts : (H Bs A x B : List ℕ) → length H ≡ 32 → Bs ≡ A ++ (x ++ B) →
    H ++ Bs ++ replicate (size - length (H ++ Bs)) 0
    ≡ (H ++ A) ++ (x ++ (B ++ replicate (size - (32 + length A + length x + length B)) 0))
parts H Bs A x B h e =
    let l : length (H ++ (A ++ (x ++ B))) ≡ 32 + length A + length x + length B =
    simp length-append (omega (arith, h)) in
    rw (e, l) (simp append_assoc)

-- the bytes of a base around the part x of its bodies
encode-parts : (b : Base) (A x B : List ℕ) → bodies b ≡ A ++ (x ++ B) →
    encode b ≡ (heading b ++ A) ++ (x ++ (B ++ replicate (size - (32 + length A + length x + length B)) 0))
unfolding encode
encode-parts b A x B e = parts (heading b) (bodies b) A x B refl e

-- the contents of b' in the heading of b
reheaded : (b b' : Base) (R : List ℕ) → b.clock ≡ b'.clock → b.last ≡ b'.last →
    splice 12 (contents_of (counts_in b')) (heading b ++ R) ≡ heading b' ++ R
unfolding splice
reheaded b b' R c l i =
    mark ++ bytes_of 4 (c i) ++ bytes_of 2 (l i) ++ (0 ∷ 0 ∷ []) ++ contents_of (counts_in b') ++ R

-- two bases whose bodies differ by the part x of b, which is x' in b'
pub record Differ (b b' : Base) (A x x' B : List ℕ) : Type 0 where
  pub clock : b.clock ≡ b'.clock
  pub last : b.last ≡ b'.last
  pub before : bodies b ≡ A ++ (x ++ B)
  pub after : bodies b' ≡ A ++ (x' ++ B)

-- the bodies end within the size
pub record_within : (b : Base) (A x B : List ℕ) → CountsFit b → bodies b ≡ A ++ (x ++ B) →
    32 + length A + length x + length B ≤ size
record_within b A x B f e =
    let l : length (A ++ (x ++ B)) ≡ length A + length x + length B = simp length-append (omega arith) in
    omega (arith, bodies-length b, ap length e, l, f)

module _ (b b' : Base) (A x x' B : List ℕ) (at : ℕ) (d : Differ b b' A x x' B) (f : CountsFit b)
    (f' : CountsFit b')
    (p : at ≡ 32 + length A) where
  -- the part's place made as long as x' is, and the contents rewritten
  placed : splice 12 (contents_of (counts_in b')) (resized at (length x) (length x') (encode b))
      ≡ (heading b' ++ A) ++ (take (length x') (x
      ++ (B ++ replicate (size - (32 + length A + length x + length B)) 0))
      ++ (B ++ replicate (size - (32 + length A + length x' + length B)) 0))
  placed =
      let z = size - (32 + length A + length x + length B) in
      let g : List ℕ = take (length x') (x ++ (B ++ replicate z 0)) in
      let C = contents_of (counts_in b') in
      let w = record_within b A x B f d.before in
      let w' = record_within b' A x' B f' d.after in
      let n : length x + (size - (32 + length A + length x + length B)) - length x'
      ≡ size - (32 + length A + length x' + length B) = omega arith in
      ap (λ (s : List ℕ). splice 12 C (resized at (length x) (length x') s))
      (encode-parts b A x B d.before)
      ∙ ap (splice 12 C)
      (resized_at (heading b ++ A) x B z at (length x') (length-append (heading b) A ∙ sym p) (omega arith))
      ∙ reheaded b b' (A ++ (g ++ (B ++ replicate (length x + z - length x') 0))) d.clock d.last
      ∙ ap (λ (k : ℕ). heading b' ++ (A ++ (g ++ (B ++ replicate k 0)))) n

  -- and x' put in
  replaced : splice at x' (splice 12 (contents_of (counts_in b'))
      (resized at (length x) (length x') (encode b)))
      ≡ encode b'
  replaced =
      let R : List ℕ = x ++ (B ++ replicate (size - (32 + length A + length x + length B)) 0) in
      let w = record_within b A x B f d.before in
      let w' = record_within b' A x' B f' d.after in
      let l : length (x ++ (B ++ replicate {A = ℕ} (size - (32 + length A + length x + length B)) 0))
      ≡ size - 32 - length A = simp (length-append, length-replicate) (omega arith) in
      let g : length x' ≡ length (take (length x') R) =
      sym (length-take-le (length x') R (omega (arith, l))) in
      ap (splice at x') placed
      ∙ put_at (heading b' ++ A) (take (length x') R) x'
      (B ++ replicate (size - (32 + length A + length x' + length B)) 0) at (length-append (heading b') A
      ∙ sym p) g
      ∙ sym (encode-parts b' A x' B d.after)

-- ---- bytes that are written, and an edit of them

pub written-length : (s : List ℕ) → Written s → length s ≡ size
written-length s W = ap length (sym W.encoded) ∙ length-fits (decode s) W.fits.counts

pub written-counts : (s : List ℕ) → Written s → counts_of s ≡ counts_in (decode s)
written-counts s W = ap counts_of (sym W.encoded) ∙ counts-encode (decode s) W.fits.counts

counts-true : (b : Base) → CountsFit b → counts_fit (counts_in b) ≡ true
counts-true b f = rw (
  le-true (length b.objects) most_objects f.objects,
  le-true (length b.administrators) most_administrators f.administrators,
  le-true (length b.referrers) most_referrers f.referrers,
  le-true (length b.authorizations) most_authorizations f.authorizations,
  le-true (length b.rules) most_rules f.rules,
)

-- The `old` bytes of s at `at` become x, `new` bytes, with the counts c: what the code asks for, and that it
-- makes the bytes of b.
pub record Edit (s : List ℕ) (b : Base) (at old new : ℕ) (c : Counts) (x : List ℕ) : Type 0 where
  pub long : length s ≡ size
  pub old-room : at + old ≤ length s
  pub new-room : at + new ≤ length s
  pub counts : counts_fit c ≡ true
  pub made : splice at x (splice 12 (contents_of c) (resized at old new s)) ≡ encode b

pub edit : (s : List ℕ) (b : Base) (A x x' B : List ℕ) (at : ℕ) (c : Counts) → Written s →
    Differ (decode s) b A x x' B → CountsFit b → at ≡ 32 + length A → c ≡ counts_in b →
    Edit s b at (length x) (length x') c x'
edit s b A x x' B at c W d f p q =
    let l = written-length s W in
    let e = sym W.encoded in
    let w = record_within (decode s) A x B W.fits.counts d.before in
    let w' = record_within b A x' B f d.after in
    record {
      long = l;
      old-room = omega arith;
      new-room = omega arith;
      counts = rw q (counts-true b f);
      made =
          (λ i. splice at x' (splice 12 (contents_of (q i)) (resized at (length x) (length x') (e i))))
          ∙ replaced (decode s) b A x x' B at d W.fits.counts f p;
    }

-- what two calls leave, the one that resizes and rewrites and the one that puts x in
pub edited : {s s₁ s₂ : List ℕ} {b : Base} {at old new : ℕ} {c : Counts} {x : List ℕ} →
    Edit s b at old new c x →
    s₁ ≡ splice 12 (contents_of c) (resized at old new s) → s₂ ≡ splice at x s₁ → s₂ ≡ encode b
edited {at = at} {x = x} e p q = q ∙ ap (splice at x) p ∙ e.made

-- nothing is put in
pub edited_out : {s s₁ : List ℕ} {b : Base} {at old new : ℕ} {c : Counts} → Edit s b at old new c [] →
    s₁ ≡ splice 12 (contents_of c) (resized at old new s) → s₁ ≡ encode b
edited_out {s₁ = s₁} {at = at} e p = edited e p (sym (put-nothing at s₁))

-- ---- resizing

-- a gap opened behind the old bytes
pub lengthened : (at old new : ℕ) (s : List ℕ) → old < new → at + new ≤ length s →
    gapped (at + old) (length s) (new - old) s ≡ resized at old new s
unfolding gapped resized
lengthened at old new s h k =
    let a : at + old + (new - old) ≡ at + new = omega arith in
    let n : length s - (at + old) - (new - old) ≡ length s - at - new = omega arith in
    let z : old - new ≡ 0 = omega arith in
    rw (
      a,
      n,
      z,
      drop-length s,
      append-nil (drop (at + old) s),
      append-nil (take (at + new) s ++ take (length s - at - new) (drop (at + old) s)),
    )

-- the bytes behind the new ones taken out
pub shortened : (at old new : ℕ) (s : List ℕ) → new ≤ old → at + old ≤ length s →
    gap_closed (at + new) (length s) (old - new) s ≡ resized at old new s
unfolding gap_closed resized
shortened at old new s h k =
    let a : at + new + (old - new) ≡ at + old = omega arith in
    let d : List ℕ = drop (at + old) s in
    let l : length (drop (at + old) s) ≡ length s - (at + old) = length-drop (at + old) s in
    let t : take (length s - (at + new) - (old - new)) (drop (at + old) s) ≡ drop (at + old) s =
    take_all (length s - (at + new) - (old - new)) d (omega arith) in
    let u : take (length s - at - new) (drop (at + old) s ++ replicate (old - new) 0)
    ≡ drop (at + old) s ++ replicate (old - new) 0 =
    take_all (length s - at - new) (d ++ replicate (old - new) 0)
    (simp (length-append, length-replicate) (omega (arith, l))) in
    rw (a, t, u, drop-length s, append-nil (take (at + new) s ++ d ++ replicate (old - new) 0))
    (append_assoc (take (at + new) s) d (replicate (old - new) 0))

-- ---- the heading

-- the clock and the last label stand at places of their own
clock_put : (b : Base) (clock : ℕ) → splice 4 (bytes_of 4 clock) (encode b)
    ≡ encode (with_stamp clock b.last b)
unfolding splice encode
clock_put b clock = refl

last-put : (b : Base) (last : ℕ) → splice 8 (bytes_of 2 last) (encode b) ≡ encode (with_stamp b.clock last b)
unfolding splice encode
last-put b last = refl

pub clock_written : (s z : List ℕ) (clock : ℕ) → Written s → z ≡ splice 4 (bytes_of 4 clock) s →
    z ≡ encode (with_stamp clock (decode s).last (decode s))
clock_written s z clock W e =
    e ∙ ap (splice 4 (bytes_of 4 clock)) (sym W.encoded) ∙ clock_put (decode s) clock

pub last_written : (s z : List ℕ) (last : ℕ) → Written s → z ≡ splice 8 (bytes_of 2 last) s →
    z ≡ encode (with_stamp (decode s).clock last (decode s))
last_written s z last W e =
    e ∙ ap (splice 8 (bytes_of 2 last)) (sym W.encoded) ∙ last-put (decode s) last
