-- Bytes pass the tests of the format exactly if they are the encoding of their decoding (`format-is`). Where
-- the decoded lists stand in the bytes (`decoded-objects` and the four others), and how long they are
-- (`decoded-lengths`). What is written is compared with the bytes part by part, each with what is behind it:
-- `..-is` and `..-at` say which test of a part remains.
use mathlib.Core.Path.{◌≡◌, refl, sym, ap, ap₂, ◌∙◌}
use Prim.Native.Nat.{ℕ, zero, suc, ◌+◌, ◌-◌, ◌*◌, ◌≤◌, ◌<◌}
use native.Mathlib.Nat.{mul-zero, mul-suc, not-suc-le-zero, le_of_suc-le-suc}
use native.Mathlib.Omega.{arith}
use mathlib.Core.Bool.{Bool, true, false, not, ◌&&◌, ◌||◌, false≢true}
use mathlib.Core.List.{List, [], ◌∷◌, ◌++◌, append_assoc}
use lib.Dec.{leb, ltb, eqb}
use lib.ListN.{length, take, drop, get_or, replicate, length-append, length-drop, length-replicate}
use lib.Seq.{drop-drop, drop-cons}
use Rattle.foundation.specs.Tests.{and-true, and_intro, and_assoc, agree, cases, le-true, true-le, eq_true}
use Rattle.foundation.specs.Tests.{true_eq, eqb_sym}
use Rattle.foundation.specs.Lists.{each}
use Rattle.foundation.specs.Bytes.{le, bytes_of, records, eq_list, eq_list_eq, eq_list_refl, length-bytes_of}
use Rattle.foundation.specs.BytesFacts.{Bytes, bytes_drop, bytes_of-le_at, each_below, each_below_lem}
use Rattle.model.specs.declared.Operator.{Operator}
use Rattle.model.specs.declared.Operator.TheVariants.{Whenever, AsLongAs, WheneverNot, Unless}
use Rattle.model.specs.Ranges.{between}
use Rattle.model.specs.Requests.{operator_of}
use Rattle.model.specs.Step.{counts_hold}
use Rattle.model.specs.Encoding.{size, mark, bit, head_flags, is_negative, has_option, option_of, rule_flags}
use Rattle.model.specs.Encoding.{operator_number, privilege_bytes, authorization_bytes, rule_bytes, heading}
use Rattle.model.specs.Encoding.{bodies, encode, privilege_of, authorization_of, rule_of, decode}
use Rattle.model.specs.FlagFacts.{head_flags-most, rule_flags-most}
use Rattle.model.specs.FitsFacts.{counts_fit_lem}
use Rattle.model.specs.EncodingFacts.{bodies-length, sound-length}
use Rattle.model.specs.LayoutFacts.{read_lengths}
use Rattle.model.specs.Soundness.{sound, sound_bytes}
use Rattle.model.specs.SoundnessFacts.{decoded-sound}
use Rattle.encoding.specs.declared.Counts.{Counts}
use Rattle.encoding.specs.Format.{counts_of, contents_of, administrators_at, referrers_at, authorizations_at}
use Rattle.encoding.specs.Format.{rules_at, end_at, counts_fit, heading_fits, authorization_clean, rule_clean}
use Rattle.encoding.specs.Format.{each_record, zeros, format_fits}

-- ---- tests and lists

-- where a test passes only behind a guard, and there as another does, the guard and the other may stand for
-- it
guarded : (g e t x : Bool) → (g ≡ true → e ≡ t) → (e && x ≡ true → g ≡ true) → e && x ≡ g && t && x
guarded true e t x f h = ap (λ (y : Bool). y && x) (f refl)
guarded false e t x f h = cases (e && x) (λ q. absurd (false≢true (h q))) (λ q. q)

eq_list_sym : (xs ys : List ℕ) → eq_list xs ys ≡ eq_list ys xs
eq_list_sym xs ys = agree (eq_list xs ys) (eq_list ys xs)
    (λ e. rw (eq_list_eq xs ys e) (eq_list_refl ys)) (λ e. rw (eq_list_eq ys xs e) (eq_list_refl xs))

-- a test that passes of all passes of each record
all_clean : (w n : ℕ) (s : List ℕ) → each_record w (λ r. true) n s ≡ true
all_clean w zero s = refl
all_clean w (suc n) s = all_clean w n (drop w s)

-- compared with as many zeros
zeros_is : (s : List ℕ) → eq_list (replicate (length s) 0) s ≡ zeros s
zeros_is [] = refl
zeros_is (x ∷ s) = ap₂ ◌&&◌ (eqb_sym 0 x) (zeros_is s)

-- what is in two parts is compared part by part
eq_parts : (a rest s : List ℕ) →
    eq_list (a ++ rest) s ≡ eq_list a (take (length a) s) && eq_list rest (drop (length a) s)
eq_parts [] rest s = refl
eq_parts (x ∷ a) rest [] = refl
eq_parts (x ∷ a) rest (y ∷ s) = ap (λ (b : Bool). eqb x y && b) (eq_parts a rest s)
    ∙ sym (and_assoc (eqb x y) (eq_list a (take (length a) s)) (eq_list rest (drop (length a) s)))

-- the same at a place
eq_at : (k o : ℕ) (a s : List ℕ) → length a ≡ k → (rest : List ℕ) →
    eq_list (a ++ rest) (drop o s) ≡ eq_list a (take k (drop o s)) && eq_list rest (drop (o + k) s)
eq_at k o a s l rest = eq_parts a rest (drop o s) ∙ rw (l, drop-drop k o s)

-- ---- parts of a record, and what is behind them

-- the bytes of the number that stands there
field_at : (k o : ℕ) (s : List ℕ) → o + k ≤ length s → Bytes s → (rest : List ℕ) →
    eq_list (bytes_of k (le k (drop o s)) ++ rest) (drop o s) ≡ eq_list rest (drop (o + k) s)
field_at k o s h b rest = eq_at k o (bytes_of k (le k (drop o s))) s (length-bytes_of k (le k (drop o s))) rest
    ∙ rw (bytes_of-le_at k o s h b, eq_list_refl (take k (drop o s)))

-- one byte
byte_at : (o n : ℕ) (s : List ℕ) → o < length s → (rest : List ℕ) →
    eq_list (n ∷ rest) (drop o s) ≡ eqb n (get_or s o 0) && eq_list rest (drop (suc o) s)
byte_at o n s h rest = rw (drop-cons s o 0 h)

-- the byte that stands there
same_at : (o : ℕ) (s : List ℕ) → o < length s → (rest : List ℕ) →
    eq_list (get_or s o 0 ∷ rest) (drop o s) ≡ eq_list rest (drop (suc o) s)
same_at o s h rest = byte_at o (get_or s o 0) s h rest ∙ rw (eq_true (get_or s o 0) (get_or s o 0) refl)

zero_bytes : (k : ℕ) (s : List ℕ) → k ≤ length s → eq_list (replicate k 0) (take k s) ≡ eqb (le k s) 0
zero_bytes zero s h = refl
zero_bytes (suc k) [] h = absurd (not-suc-le-zero h)
zero_bytes (suc k) (x ∷ s) h = rw (zero_bytes k s (le_of_suc-le-suc h))
    (agree (eqb 0 x && eqb (le k s) 0) (eqb (x + 256 * le k s) 0)
    (λ e. let t = and-true (eqb 0 x) (eqb (le k s) 0) e in
    eq_true (x + 256 * le k s) 0 (omega (arith, true_eq 0 x t.0, true_eq (le k s) 0 t.1)))
    (λ e. let z = true_eq (x + 256 * le k s) 0 e in
    and_intro (eqb 0 x) (eqb (le k s) 0) (eq_true 0 x (omega (arith, z)))
    (eq_true (le k s) 0 (omega (arith, z)))))

-- bytes that are zero
zeros_at : (k o : ℕ) (s : List ℕ) → o + k ≤ length s → (rest : List ℕ) →
    eq_list (replicate k 0 ++ rest) (drop o s) ≡ eqb (le k (drop o s)) 0 && eq_list rest (drop (o + k) s)
zeros_at k o s h rest = eq_at k o (replicate k 0) s (length-replicate k 0) rest
    ∙ rw (zero_bytes k (drop o s) (rw (length-drop o s) (omega arith)))

-- ---- codes: what is read from a byte is written as that byte exactly if the byte is in the range

-- for this, all that is written is in the range, and the range, which lies below n, is looked through
code_is : (code : ℕ → ℕ) (range : ℕ → Bool) (n : ℕ) → ((g : ℕ) → range (code g) ≡ true) →
    ((g : ℕ) → range g ≡ true → g < n) → each_below n (λ g. not (range g) || eqb (code g) g) ≡ true →
    (g : ℕ) → eqb (code g) g ≡ range g
code_is code range n f h e g = agree (eqb (code g) g) (range g)
    (λ q. ap range (sym (true_eq (code g) g q)) ∙ f g)
    (λ q. rw q at (each_below_lem n (λ x. not (range x) || eqb (code x) x) e g (h g q)))

flags_are : (code : ℕ → ℕ) (n : ℕ) → ((g : ℕ) → code g < n) →
    each_below n (λ g. not (ltb g n) || eqb (code g) g) ≡ true → (g : ℕ) → eqb (code g) g ≡ ltb g n
flags_are code n f = code_is code (λ g. ltb g n) n (λ g. le-true (suc (code g)) n (f g))
    (λ g. true-le (suc g) n)

head_flags_are : (g : ℕ) → eqb (head_flags (is_negative g) (has_option g)) g ≡ ltb g 4
head_flags_are = flags_are (λ g. head_flags (is_negative g) (has_option g)) 4
    (λ g. omega (arith, head_flags-most (is_negative g) (has_option g))) refl

rule_flags_are : (g : ℕ) → eqb (rule_flags (bit 0 g) (bit 1 g) (option_of g)) g ≡ ltb g 12
rule_flags_are = flags_are (λ g. rule_flags (bit 0 g) (bit 1 g) (option_of g)) 12
    (λ g. omega (arith, rule_flags-most (bit 0 g) (bit 1 g) (option_of g))) refl

operator_in : (o : Operator) → between 1 4 (operator_number o) ≡ true
operator_in Whenever = refl
operator_in AsLongAs = refl
operator_in WheneverNot = refl
operator_in Unless = refl

operator_is : (g : ℕ) → eqb (operator_number (operator_of g)) g ≡ between 1 4 g
operator_is = code_is (λ g. operator_number (operator_of g)) (between 1 4) 5 (λ g. operator_in (operator_of g))
    (λ g e. let h = true-le g 4 (and-true (leb 1 g) (leb g 4) e).1 in omega (arith, h)) refl

-- ---- the three kinds of records

privilege_is : (s rest : List ℕ) → 4 ≤ length s → Bytes s →
    eq_list (privilege_bytes (privilege_of s) ++ rest) s ≡ eq_list rest (drop 4 s)
privilege_is s rest h b = rw (field_at 2 0 s (omega arith) b, field_at 2 2 s (omega arith) b)

authorization_is : (s rest : List ℕ) → 24 ≤ length s → Bytes s →
    eq_list (authorization_bytes (authorization_of s) ++ rest) s ≡ authorization_clean s
    && eq_list rest (drop 24 s)
authorization_is s rest h b = rw (
  field_at 2 0 s (omega arith) b,
  field_at 2 2 s (omega arith) b,
  field_at 2 4 s (omega arith) b,
  field_at 2 6 s (omega arith) b,
  same_at 8 s (omega arith),
  byte_at 9 (head_flags (is_negative (get_or s 9 0)) (has_option (get_or s 9 0))) s (omega arith),
  zeros_at 2 10 s (omega arith),
  field_at 4 12 s (omega arith) b,
  field_at 4 16 s (omega arith) b,
  field_at 4 20 s (omega arith) b,
  head_flags_are (get_or s 9 0),
) (sym (and_assoc (ltb (get_or s 9 0) 4) (eqb (le 2 (drop 10 s)) 0) (eq_list rest (drop 24 s))))

rule_is : (s rest : List ℕ) → 28 ≤ length s → Bytes s →
    eq_list (rule_bytes (rule_of s) ++ rest) s ≡ rule_clean s && eq_list rest (drop 28 s)
rule_is s rest h b = rw (
  field_at 2 0 s (omega arith) b,
  field_at 2 2 s (omega arith) b,
  field_at 2 4 s (omega arith) b,
  field_at 2 6 s (omega arith) b,
  field_at 2 8 s (omega arith) b,
  field_at 2 10 s (omega arith) b,
  field_at 2 12 s (omega arith) b,
  same_at 14 s (omega arith),
  same_at 15 s (omega arith),
  byte_at 16 (operator_number (operator_of (get_or s 16 0))) s (omega arith),
  byte_at 17 (rule_flags (bit 0 (get_or s 17 0)) (bit 1 (get_or s 17 0)) (option_of (get_or s 17 0))) s (omega arith),
  zeros_at 2 18 s (omega arith),
  field_at 4 20 s (omega arith) b,
  field_at 4 24 s (omega arith) b,
  operator_is (get_or s 16 0),
  rule_flags_are (get_or s 17 0),
) (simp and_assoc)

-- ---- records of any width: where one is compared so, n are

module _ {A : Type 0} (w : ℕ) (f : List ℕ → A) (enc : A → List ℕ) (clean : List ℕ → Bool)
    (one : (s rest : List ℕ) → w ≤ length s → Bytes s →
    eq_list (enc (f s) ++ rest) s ≡ clean s && eq_list rest (drop w s)) where
  records_is : (n : ℕ) (s rest : List ℕ) → w * n ≤ length s → Bytes s →
      eq_list (each (records w f n s) enc ++ rest) s ≡ each_record w clean n s && eq_list rest (drop (w * n) s)
  records_is zero s rest h b = rw (mul-zero w)
  records_is (suc n) s rest h b =
      let q : w * suc n ≡ w + w * n = rw (mul-suc w n) (omega arith) in
      let r = each (records w f n (drop w s)) enc in
      let l : w * n ≤ length (drop w s) = rw (length-drop w s) (omega arith) in
      rw (
        append_assoc (enc (f s)) r rest,
        one s (r ++ rest) (omega arith) b,
        records_is n (drop w s) rest l (bytes_drop w s b),
        drop-drop (w * n) w s,
        q,
      ) (sym (and_assoc (clean s) (each_record w clean n (drop w s)) (eq_list rest (drop (w + w * n) s))))

  -- the same at a place
  records_at : (n o : ℕ) (s : List ℕ) → o + w * n ≤ length s → Bytes s → (rest : List ℕ) →
      eq_list (each (records w f n (drop o s)) enc ++ rest) (drop o s)
      ≡ each_record w clean n (drop o s) && eq_list rest (drop (o + w * n) s)
  records_at n o s h b rest = records_is n (drop o s) rest (rw (length-drop o s) (omega arith))
      (bytes_drop o s b)
      ∙ rw (drop-drop (w * n) o s)

privileges_at_lem : (n o : ℕ) (s : List ℕ) → o + 4 * n ≤ length s → Bytes s → (rest : List ℕ) →
    eq_list (each (records 4 privilege_of n (drop o s)) privilege_bytes ++ rest) (drop o s)
    ≡ eq_list rest (drop (o + 4 * n) s)
privileges_at_lem n o s h b rest = records_at 4 privilege_of privilege_bytes (λ r. true) privilege_is n o s h b rest
    ∙ rw (all_clean 4 n (drop o s))

-- ---- where the decoded lists stand in the bytes

pub decoded-objects : (s : List ℕ) → (decode s).objects
    ≡ records 4 privilege_of (counts_of s).objects (drop 32 s)
unfolding decode
decoded-objects s = refl

pub decoded_administrators : (s : List ℕ) →
    (decode s).administrators
    ≡ records 4 privilege_of (counts_of s).administrators (drop (administrators_at (counts_of s)) s)
unfolding decode
decoded_administrators s = simp drop-drop

pub decoded_referrers : (s : List ℕ) →
    (decode s).referrers ≡ records 4 privilege_of (counts_of s).referrers (drop (referrers_at (counts_of s)) s)
unfolding decode
decoded_referrers s = simp drop-drop

pub decoded-authorizations : (s : List ℕ) →
    (decode s).authorizations
    ≡ records 24 authorization_of (counts_of s).authorizations (drop (authorizations_at (counts_of s)) s)
unfolding decode
decoded-authorizations s = simp drop-drop

pub decoded_rules : (s : List ℕ) →
    (decode s).rules ≡ records 28 rule_of (counts_of s).rules (drop (rules_at (counts_of s)) s)
unfolding decode
decoded_rules s = simp drop-drop

-- their lengths are the counts
pub decoded_lengths : (s : List ℕ) →
    (length (decode s).objects ≡ (counts_of s).objects)
    × (length (decode s).administrators ≡ (counts_of s).administrators)
    × (length (decode s).referrers ≡ (counts_of s).referrers)
    × (length (decode s).authorizations ≡ (counts_of s).authorizations)
    × (length (decode s).rules ≡ (counts_of s).rules)
decoded_lengths s = read_lengths s

pub decoded-counts : (s : List ℕ) → counts_hold (decode s) ≡ counts_fit (counts_of s)
decoded-counts s = let l = decoded_lengths s in rw (l.0, l.1, l.2, l.3, l.4)

-- ---- the heading, and the whole

decoded-heading : (s : List ℕ) → heading (decode s) ≡
    mark ++ bytes_of 4 (le 4 (drop 4 s)) ++ bytes_of 2 (le 2 (drop 8 s)) ++ (0 ∷ 0 ∷ [])
    ++ contents_of (counts_of s)
unfolding decode
decoded-heading s = let l = decoded_lengths s in rw (l.0, l.1, l.2, l.3, l.4)

heading_is : (s rest : List ℕ) → 32 ≤ length s → Bytes s →
    eq_list (heading (decode s) ++ rest) s ≡ heading_fits s && eq_list rest (drop 32 s)
heading_is s rest h b =
    let ct : List ℕ = contents_of (counts_of s) in
    let r₃ : List ℕ = 0 ∷ 0 ∷ ct ++ rest in
    let r₂ : List ℕ = bytes_of 2 (le 2 (drop 8 s)) ++ r₃ in
    ap (λ (t : List ℕ). eq_list (t ++ rest) s) (decoded-heading s) ∙ rw (
      eq_at 4 0 mark s refl (bytes_of 4 (le 4 (drop 4 s)) ++ r₂),
      field_at 4 4 s (omega arith) b r₂,
      field_at 2 8 s (omega arith) b r₃,
      zeros_at 2 10 s (omega arith) (ct ++ rest),
      eq_at 20 12 ct s refl rest,
      eq_list_sym mark (take 4 s),
      eq_list_sym ct (take 20 (drop 12 s)),
    ) (simp and_assoc)

-- the encoding of the decoding, from each body on
module _ (s : List ℕ) where
  abbrev counts : Counts
  counts = counts_of s

  abbrev from₅ : List ℕ
  from₅ = each (records 28 rule_of counts.rules (drop (rules_at counts) s)) rule_bytes
      ++ replicate (size - end_at counts) 0

  abbrev from₄ : List ℕ
  from₄ = each (records 24 authorization_of counts.authorizations (drop (authorizations_at counts) s))
      authorization_bytes ++ from₅

  abbrev from₃ : List ℕ
  from₃ = each (records 4 privilege_of counts.referrers (drop (referrers_at counts) s)) privilege_bytes
      ++ from₄

  abbrev from₂ : List ℕ
  from₂ = each (records 4 privilege_of counts.administrators (drop (administrators_at counts) s))
      privilege_bytes ++ from₃

  abbrev from₁ : List ℕ
  from₁ = each (records 4 privilege_of counts.objects (drop 32 s)) privilege_bytes ++ from₂

  front_length : length (heading (decode s) ++ bodies (decode s)) ≡ end_at counts
  front_length = length-append (heading (decode s)) (bodies (decode s))
      ∙ omega (arith, bodies-length (decode s), decoded_lengths s)

  regrouped : bodies (decode s) ++ replicate (size - end_at counts) 0 ≡ from₁
  regrouped = rw (
    ← decoded-objects s,
    ← decoded_administrators s,
    ← decoded_referrers s,
    ← decoded-authorizations s,
    ← decoded_rules s,
  ) (simp append_assoc)

  encoded : encode (decode s) ≡ heading (decode s) ++ from₁
  unfolding encode
  encoded = ap (λ (n : ℕ). heading (decode s) ++ bodies (decode s) ++ replicate (size - n) 0) front_length
      ∙ ap (λ (t : List ℕ). heading (decode s) ++ t) regrouped

  pub end_fits : counts_fit counts ≡ true → end_at counts ≤ size
  end_fits e = omega (arith, counts_fit_lem (decode s) (decoded-counts s ∙ e), decoded_lengths s)

  -- the tests of the format behind those of the length and the counts
  abbrev parts_fit : Bool
  parts_fit =
      heading_fits s
      && each_record 24 authorization_clean counts.authorizations (drop (authorizations_at counts) s)
      && each_record 28 rule_clean counts.rules (drop (rules_at counts) s)
      && zeros (drop (end_at counts) s)

  encoded_is : length s ≡ size → counts_fit counts ≡ true → Bytes s → eq_list (encode (decode s)) s ≡ parts_fit
  encoded_is l e b =
      let h = end_fits e in
      let z : size - end_at counts ≡ length (drop (end_at counts) s) = rw (length-drop (end_at counts) s, l) in
      ap (λ (t : List ℕ). eq_list t s) encoded ∙ rw (
        heading_is s from₁ (omega arith) b,
        privileges_at_lem counts.objects 32 s (omega arith) b from₂,
        privileges_at_lem counts.administrators (administrators_at counts) s (omega arith) b from₃,
        privileges_at_lem counts.referrers (referrers_at counts) s (omega arith) b from₄,
        records_at 24 authorization_of authorization_bytes authorization_clean authorization_is
            counts.authorizations
            (authorizations_at counts) s (omega arith) b from₅,
        records_at 28 rule_of rule_bytes rule_clean rule_is counts.rules (rules_at counts) s (omega arith) b
            (replicate (size - end_at counts) 0),
        z,
        zeros_is (drop (end_at counts) s),
      ) (simp and_assoc)

  -- bytes that are sound pass the tests of the length and the counts
  sound-fits : sound_bytes s ≡ true → eqb (length s) size && counts_fit counts ≡ true
  sound-fits e = and_intro (eqb (length s) size) (counts_fit counts)
      (eq_true (length s) size (sound-length s e))
      (sym (decoded-counts s) ∙ (decoded-sound s e).counts)

pub format_is : (s : List ℕ) → ((i : ℕ) → get_or s i 0 < 256) → sound_bytes s ≡ format_fits s && sound (decode s)
unfolding sound_bytes format_fits
format_is s b =
    let l : Bool = eqb (length s) size in
    let c : Bool = counts_fit (counts_of s) in
    let regroup : l && c && parts_fit s ≡ format_fits s = simp and_assoc in
    guarded (l && c) (eq_list (encode (decode s)) s) (parts_fit s) (sound (decode s))
    (λ p. let t = and-true l c p in encoded_is s (true_eq (length s) size t.0) t.1 b)
    (sound-fits s)
    ∙ ap (λ (y : Bool). y && sound (decode s)) regroup
