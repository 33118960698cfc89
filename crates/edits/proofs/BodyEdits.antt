-- The edits of a body of records: one put in (`insertion`), one taken out (`removal`), all replaced
-- (`replacement`). What they need to know of a body is the record `BodyKind`; each of the five is one
-- (`privileges`, `authorizations`, `rules`).
use mathlib.Core.Path.{◌≡◌, refl, sym, ap, ◌∙◌, subst}
use Prim.Native.Nat.{ℕ, suc, ◌+◌, ◌-◌, ◌*◌, ◌≤◌, ◌<◌}
use native.Mathlib.Omega.{arith}
use native.Mathlib.Nat.{mul_comm, one-mul}
use native.Mathlib.Numerals.{add-one}
use mathlib.Core.List.{List, [], ◌∷◌, ◌++◌, append_assoc, append-nil}
use lib.ListN.{length, take, drop, length-append, length-drop, take-append-drop}
use lib.Seq.{length-take-le, drop-drop}
use Rattle.foundation.specs.Lists.{each, length-each, each_append, placed, insert_at, length-insert_at}
use Rattle.model.specs.declared.Privilege.{Privilege}
use Rattle.model.specs.declared.Authorization.{Authorization}
use Rattle.model.specs.declared.Rule.{Rule}
use Rattle.model.specs.Ranges.{most_objects, most_authorizations, most_rules}
use Rattle.model.specs.Base.{Base}
use Rattle.model.specs.Encoding.{size, privilege_bytes, authorization_bytes, rule_bytes, decode}
use Rattle.model.specs.FitsFacts.{CountsFit}
use Rattle.model.specs.EncodingFacts.{privileges-length}
use Rattle.encoding.specs.declared.Counts.{Counts}
use Rattle.encoding.specs.Format.{counts_of, authorizations_at, rules_at}
use Rattle.edits.specs.declared.PrivilegeBody.{PrivilegeBody}
use Rattle.edits.specs.declared.PrivilegeBody.TheVariants.{Objects, Administrators, Referrers}
use Rattle.edits.specs.Edits.{remove_at, Written, privileges_of, with_privileges}
use Rattle.model.specs.Effects.{with_authorizations, with_rules}
use Rattle.edits.specs.Edits.{privileges_at, privilege_count, with_privilege_count}
use Rattle.edits.specs.Edits.{with_authorization_count, with_rule_count}
use Rattle.edits.proofs.Kept.{length-remove_at, counts-privileges}
use Rattle.edits.proofs.Kept.{counts-authorizations, counts_rules}
use Rattle.edits.proofs.EditedBytes.{counts_in, Differ, Edit, edit, record_within, written-counts}

-- ---- any body

pub record BodyKind (R : Type 0) : Type 1 where
  -- the records of the body, and the base with others
  pub of : Base → List R
  pub with : List R → Base → Base
  pub most : ℕ
  -- how one is written
  pub width : ℕ
  pub bytes : R → List ℕ
  pub wide : (x : R) → length (bytes x) ≡ width
  -- the bodies before it and behind it
  pub before : Base → List ℕ
  pub behind : Base → List ℕ
  pub differ : (xs : List R) (b : Base) →
      Differ b (with xs b) (before b) (each (of b) bytes) (each xs bytes) (behind b)
  -- where it starts, and its count
  pub at : Counts → ℕ
  pub count : Counts → ℕ
  pub with_count : ℕ → Counts → Counts
  pub starts : (b : Base) → at (counts_in b) ≡ 32 + length (before b)
  pub counted : (b : Base) → count (counts_in b) ≡ length (of b)
  pub recounted : (xs : List R) (b : Base) → with_count (length xs) (counts_in b) ≡ counts_in (with xs b)
  pub limited : (b : Base) → CountsFit b → length (of b) ≤ most
  pub fits : (xs : List R) (b : Base) → CountsFit b → length xs ≤ most → CountsFit (with xs b)

-- where the part itself has a part, that differs
narrowed : (b b' : Base) (A x x' B u y y' v : List ℕ) → Differ b b' A x x' B → x ≡ u ++ (y ++ v) →
    x' ≡ u ++ (y' ++ v) →
    Differ b b' (A ++ u) y y' (v ++ B)
narrowed b b' A x x' B u y y' v d e e' = record {
  clock = d.clock;
  last = d.last;
  before = d.before ∙ rw e (simp append_assoc);
  after = d.after ∙ rw e' (simp append_assoc);
}

-- the bytes of a list are those of its first i records and of the others
each-split : {R : Type 0} (f : R → List ℕ) (i : ℕ) (xs : List R) →
    each xs f ≡ each (take i xs) f ++ each (drop i xs) f
each-split {R} f i xs =
    ap (λ (l : List R). each l f) (sym (take-append-drop i xs)) ∙ each_append (take i xs) (drop i xs) f

-- bytes s that are written, with the body k: c are the counts that they name
module _ {R : Type 0} (k : BodyKind R) (s : List ℕ) (W : Written s) (c : Counts) (e : c ≡ counts_of s) where
  known : c ≡ counts_in (decode s)
  known = e ∙ written-counts s W

  pub count_is : k.count c ≡ length (k.of (decode s))
  count_is = ap k.count known ∙ k.counted (decode s)

  -- where the body starts
  pub start_is : k.at c ≡ 32 + length (k.before (decode s))
  start_is = ap k.at known ∙ k.starts (decode s)

  pub start-within : k.at c ≤ size
  start-within =
      let b = decode s in
      omega (
        arith,
        start_is,
        record_within b (k.before b) (each (k.of b) k.bytes) (k.behind b) W.fits.counts
            (k.differ (k.of b) b).before,
      )

  -- the counts with n records there are those of the base with so many
  recount : (ys : List R) (n : ℕ) → n ≡ length ys → k.with_count n c ≡ counts_in (k.with ys (decode s))
  recount ys n q = (λ i. k.with_count (q i) (known i)) ∙ k.recounted ys (decode s)

  -- where its i-th record stands
  place : (at i : ℕ) → at ≡ k.at c → i ≤ length (k.of (decode s)) →
      at + k.width * i ≡ 32 + length (k.before (decode s) ++ each (take i (k.of (decode s))) k.bytes)
  place at i p h =
      let xs = k.of (decode s) in
      let u : List ℕ = each (take i xs) k.bytes in
      let l : length (each (take i (k.of (decode s))) k.bytes) ≡ i * k.width =
      length-each (take i xs) k.bytes k.width k.wide
      ∙ ap (λ (n : ℕ). n * k.width) (length-take-le i xs h) in
      let m : k.width * i ≡ i * k.width = mul_comm k.width i in
      rw (length-append (k.before (decode s)) u, l, p, start_is, m) (omega arith)

  -- x put before the i-th; m is the count as the code has it
  pub insertion : (at i m : ℕ) (x : R) (c' : Counts) → at ≡ k.at c → m ≡ k.count c →
      c' ≡ k.with_count (m + 1) c →
      i ≤ length (k.of (decode s)) → length (k.of (decode s)) < k.most →
      Edit s (k.with (insert_at i x (k.of (decode s))) (decode s)) (at + k.width * i) 0 k.width c'
      (k.bytes x)
  unfolding placed
  insertion at i m x c' p r q h g =
      let b = decode s in
      let xs = k.of b in
      let ys = insert_at i x xs in
      let u : List ℕ = each (take i xs) k.bytes in
      let v : List ℕ = each (drop i xs) k.bytes in
      let l : length (insert_at i x (k.of (decode s))) ≡ suc (length (k.of (decode s))) =
      length-insert_at i x xs in
      let n : m + 1 ≡ length (insert_at i x (k.of (decode s))) = omega (arith, count_is) in
      let d = narrowed b (k.with ys b) (k.before b) (each xs k.bytes) (each ys k.bytes) (k.behind b)
      u [] (k.bytes x) v (k.differ ys b) (each-split k.bytes i xs)
      (each_append (take i xs) (x ∷ drop i xs) k.bytes) in
      subst (λ (w : ℕ). Edit s (k.with ys b) (at + k.width * i) 0 w c' (k.bytes x)) (k.wide x)
      (edit s (k.with ys b) (k.before b ++ u) [] (k.bytes x) (v ++ k.behind b) (at + k.width * i) c' W d
      (k.fits ys b W.fits.counts (omega arith)) (place at i p h) (q ∙ recount ys (m + 1) n))

  -- the i-th taken out
  pub removal : (at i m : ℕ) (c' : Counts) → at ≡ k.at c → m ≡ k.count c → c' ≡ k.with_count (m - 1) c →
      i < length (k.of (decode s)) →
      Edit s (k.with (remove_at i (k.of (decode s))) (decode s)) (at + k.width * i) k.width 0 c' []
  removal at i m c' p r q h =
      let b = decode s in
      let xs = k.of b in
      let ys = remove_at i xs in
      let one : List R = take 1 (drop i xs) in
      let u : List ℕ = each (take i xs) k.bytes in
      let y : List ℕ = each one k.bytes in
      let v : List ℕ = each (drop (suc i) xs) k.bytes in
      let l : length (remove_at i (k.of (decode s))) ≡ length (k.of (decode s)) - 1 =
      length-remove_at i xs h in
      let n : m - 1 ≡ length (remove_at i (k.of (decode s))) = omega (arith, count_is) in
      let z : length (each (take 1 (drop i (k.of (decode s)))) k.bytes) ≡ k.width =
      length-each one k.bytes k.width k.wide
      ∙ ap (λ (j : ℕ). j * k.width) (length-take-le 1 (drop i xs) (rw (length-drop i xs) (omega arith)))
      ∙ one-mul k.width in
      let t : each (drop i (k.of (decode s))) k.bytes
      ≡ each (take 1 (drop i (k.of (decode s)))) k.bytes
      ++ each (drop (suc i) (k.of (decode s))) k.bytes =
      each-split k.bytes 1 (drop i xs) ∙ rw (drop-drop 1 i xs, add-one i) in
      let d = narrowed b (k.with ys b) (k.before b) (each xs k.bytes) (each ys k.bytes) (k.behind b)
      u y [] v (k.differ ys b) (each-split k.bytes i xs ∙ ap (λ (r : List ℕ). u ++ r) t)
      (each_append (take i xs) (drop (suc i) xs) k.bytes) in
      subst (λ (w : ℕ). Edit s (k.with ys b) (at + k.width * i) w 0 c' []) z
      (edit s (k.with ys b) (k.before b ++ u) y [] (v ++ k.behind b) (at + k.width * i) c' W d
      (k.fits ys b W.fits.counts (omega (arith, k.limited b W.fits.counts)))
      (place at i p (omega arith)) (q ∙ recount ys (m - 1) n))

  -- all replaced by ys
  pub replacement : (at n : ℕ) (ys : List R) (c' : Counts) → at ≡ k.at c → c' ≡ k.with_count n c →
      n ≡ length ys →
      n ≤ k.most →
      Edit s (k.with ys (decode s)) at (k.width * k.count c) (k.width * n) c' (each ys k.bytes)
  replacement at n ys c' p q m g =
      let b = decode s in
      let xs = k.of b in
      let l : length (each (k.of (decode s)) k.bytes) ≡ k.width * k.count c =
      length-each xs k.bytes k.width k.wide ∙ mul_comm (length xs) k.width
      ∙ ap (λ (j : ℕ). k.width * j) (sym count_is) in
      let r : length (each ys k.bytes) ≡ k.width * n =
      length-each ys k.bytes k.width k.wide ∙ mul_comm (length ys) k.width
      ∙ ap (λ (j : ℕ). k.width * j) (sym m) in
      subst (λ (w : ℕ). Edit s (k.with ys b) at w (k.width * n) c' (each ys k.bytes)) l
      (subst (λ (w : ℕ). Edit s (k.with ys b) at (length (each xs k.bytes)) w c' (each ys k.bytes)) r
      (edit s (k.with ys b) (k.before b) (each xs k.bytes) (each ys k.bytes) (k.behind b) at c' W
      (k.differ ys b)
      (k.fits ys b W.fits.counts (omega arith)) (p ∙ start_is) (q ∙ recount ys n m)))

-- ---- the five bodies

abbrev before-privileges : PrivilegeBody → Base → List ℕ
before-privileges Objects b = []
before-privileges Administrators b = each b.objects privilege_bytes
before-privileges Referrers b = each b.objects privilege_bytes ++ each b.administrators privilege_bytes

abbrev behind_privileges : PrivilegeBody → Base → List ℕ
behind_privileges Objects b =
    each b.administrators privilege_bytes ++ each b.referrers privilege_bytes
    ++ each b.authorizations authorization_bytes ++ each b.rules rule_bytes
behind_privileges Administrators b =
    each b.referrers privilege_bytes ++ each b.authorizations authorization_bytes
    ++ each b.rules rule_bytes
behind_privileges Referrers b = each b.authorizations authorization_bytes ++ each b.rules rule_bytes

pub privileges_differ : (k : PrivilegeBody) (ps : List Privilege) (b : Base) →
    Differ b (with_privileges k ps b) (before-privileges k b) (each (privileges_of k b) privilege_bytes)
    (each ps privilege_bytes) (behind_privileges k b)
privileges_differ Objects ps b =
    record { clock = refl; last = refl; before = simp append_assoc; after = simp append_assoc }
privileges_differ Administrators ps b =
    record { clock = refl; last = refl; before = simp append_assoc; after = simp append_assoc }
privileges_differ Referrers ps b =
    record { clock = refl; last = refl; before = simp append_assoc; after = simp append_assoc }

pub privileges-start : (k : PrivilegeBody) (b : Base) →
    privileges_at k (counts_in b) ≡ 32 + length (before-privileges k b)
privileges-start Objects b = refl
privileges-start Administrators b = omega (arith, privileges-length b.objects)
privileges-start Referrers b =
    rw (length-append (each b.objects privilege_bytes) (each b.administrators privilege_bytes))
    (omega (arith, privileges-length b.objects, privileges-length b.administrators))

pub privileges-counted : (k : PrivilegeBody) (b : Base) →
    privilege_count k (counts_in b) ≡ length (privileges_of k b)
privileges-counted Objects b = refl
privileges-counted Administrators b = refl
privileges-counted Referrers b = refl

pub privileges_recounted : (k : PrivilegeBody) (ps : List Privilege) (b : Base) →
    with_privilege_count k (length ps) (counts_in b) ≡ counts_in (with_privileges k ps b)
privileges_recounted Objects ps b = refl
privileges_recounted Administrators ps b = refl
privileges_recounted Referrers ps b = refl

pub privileges_limited : (k : PrivilegeBody) (b : Base) → CountsFit b →
    length (privileges_of k b) ≤ most_objects
privileges_limited Objects b f = omega arith
privileges_limited Administrators b f = omega arith
privileges_limited Referrers b f = omega arith

abbrev pub privileges : PrivilegeBody → BodyKind Privilege
privileges k = record {
  of = privileges_of k;
  with = with_privileges k;
  most = most_objects;
  width = 4;
  bytes = privilege_bytes;
  wide = λ p. refl;
  before = before-privileges k;
  behind = behind_privileges k;
  differ = privileges_differ k;
  at = privileges_at k;
  count = privilege_count k;
  with_count = with_privilege_count k;
  starts = privileges-start k;
  counted = privileges-counted k;
  recounted = privileges_recounted k;
  limited = privileges_limited k;
  fits = counts-privileges k;
}

-- the three bodies of privileges
abbrev before-authorizations : Base → List ℕ
before-authorizations b = before-privileges Referrers b ++ each b.referrers privilege_bytes

pub authorizations-start : (b : Base) → authorizations_at (counts_in b) ≡ 32 + length (before-authorizations b)
authorizations-start b =
    rw (length-append (before-privileges Referrers b) (each b.referrers privilege_bytes))
    (omega (arith, privileges-start Referrers b, privileges-length b.referrers))

abbrev pub authorizations : BodyKind Authorization
authorizations = record {
  of = λ b. b.authorizations;
  with = with_authorizations;
  most = most_authorizations;
  width = 24;
  bytes = authorization_bytes;
  wide = λ a. refl;
  before = before-authorizations;
  behind = λ b. each b.rules rule_bytes;
  differ = λ xs b. record {
    clock = refl;
    last = refl;
    before = simp append_assoc;
    after =
        simp append_assoc;
  };
  at = authorizations_at;
  count = λ c. c.authorizations;
  with_count = with_authorization_count;
  starts = authorizations-start;
  counted = λ b. refl;
  recounted = λ xs b. refl;
  limited = λ b f. f.authorizations;
  fits = counts-authorizations;
}

abbrev before_rules : Base → List ℕ
before_rules b = before-authorizations b ++ each b.authorizations authorization_bytes

pub rules_start : (b : Base) → rules_at (counts_in b) ≡ 32 + length (before_rules b)
rules_start b =
    rw (length-append (before-authorizations b) (each b.authorizations authorization_bytes))
    (omega (arith, authorizations-start b, length-each b.authorizations authorization_bytes 24 (λ a. refl)))

abbrev pub rules : BodyKind Rule
rules = record {
  of = λ b. b.rules;
  with = with_rules;
  most = most_rules;
  width = 28;
  bytes = rule_bytes;
  wide = λ r. refl;
  before = before_rules;
  behind = λ b. [];
  differ = λ xs b. record {
    clock = refl;
    last = refl;
    before = simp (append_assoc, append-nil);
    after = simp (append_assoc, append-nil);
  };
  at = rules_at;
  count = λ c. c.rules;
  with_count = with_rule_count;
  starts = rules_start;
  counted = λ b. refl;
  recounted = λ xs b. refl;
  limited = λ b f. f.rules;
  fits = counts_rules;
}
