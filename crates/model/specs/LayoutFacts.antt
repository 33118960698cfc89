-- The bytes of a base as 01 says them are those that `encode` writes: `laid`, and with soundness
-- `sound-laid`.
use Rattle.std.specs.Prelude.{◌≡◌, ◌↔◌, ℕ, ◌+◌, ◌-◌, ◌*◌, ◌≤◌, ◌<◌, true, take, get_or, replicate}
use Rattle.std.proofs.Math.Path.{refl, sym, ap}
use Rattle.std.proofs.Common.{◌∙◌, arith, length-append, length-drop, get_or-append-add, get_or-drop}
use mathlib.Core.List.{List, [], ◌∷◌, ◌++◌, append_assoc}
use Rattle.std.proofs.Math.ListN.{length, drop, take-append-drop}
use Rattle.std.proofs.lemmas.List.{get_or-replicate}
use Rattle.std.proofs.Math.Seq.{drop-append-add}
use Rattle.foundation.specs.Tests.{and_intro}
use Rattle.foundation.specs.Lists.{each, length-each}
use Rattle.foundation.specs.Bytes.{le, bytes_of, records, le_bytes, eq_list, eq_list_eq, eq_list_refl}
use Rattle.foundation.specs.BytesFacts.{Bytes, mem_bytes, byte_kept, number_kept, zeros_kept}
use Rattle.foundation.specs.ByteRecords.{length-records}
use Rattle.foundation.specs.BytesFacts.{body_kept, behind_at, record_in}
use Rattle.model.specs.Base.{Base}
use Rattle.model.specs.Encoding.{size, mark, privilege_bytes, authorization_bytes, rule_bytes}
use Rattle.model.specs.Encoding.{contents_entry}
use Rattle.model.specs.Encoding.{heading}
use Rattle.model.specs.Encoding.{bodies, encode, privilege_of, authorization_of, rule_of, decode}
use Rattle.model.specs.EncodingFacts.{privileges-length, bodies-length, sound-length, encode_bytes}
use Rattle.model.specs.Soundness.{sound, sound_bytes}
use Rattle.model.specs.SoundnessFacts.{sound_bytes_lem}
use Rattle.model.specs.Layout.{byte_at, number_at, AuthorizationLaid, RuleLaid, Laid}
use Rattle.model.specs.LayoutRecords.{authorization_laid, rule_laid, privilege_kept, authorization_kept}
use Rattle.model.specs.LayoutRecords.{rule_kept}

-- the lists that are read are as long as the contents say
pub read_lengths : (s : List ℕ) →
    (length (decode s).objects ≡ number_at s 14)
    × (length (decode s).administrators ≡ number_at s 18)
    × (length (decode s).referrers ≡ number_at s 22)
    × (length (decode s).authorizations ≡ number_at s 26)
    × (length (decode s).rules ≡ number_at s 30)
unfolding decode
read_lengths s = (
  length-records 4 privilege_of _ _,
  length-records 4 privilege_of _ _,
  length-records 4 privilege_of _ _,
  length-records 24 authorization_of _ _,
  length-records 28 rule_of _ _,
)

front_length : (s : List ℕ) → length (heading (decode s) ++ bodies (decode s))
    ≡ 32 + 4 * number_at s 14 + 4 * number_at s 18 + 4 * number_at s 22 + 24 * number_at s 26 + 28 * number_at s 30
front_length s = length-append (heading (decode s)) (bodies (decode s))
    ∙ omega (arith, bodies-length (decode s), read_lengths s)

-- ---- what is laid out so is written back

module _ (s : List ℕ) (l : Laid s) where
  -- from each body on
  abbrev s₁ : List ℕ
  s₁ = drop 32 s

  abbrev s₂ : List ℕ
  s₂ = drop (4 * number_at s 14) s₁

  abbrev s₃ : List ℕ
  s₃ = drop (4 * number_at s 18) s₂

  abbrev s₄ : List ℕ
  s₄ = drop (4 * number_at s 22) s₃

  abbrev s₅ : List ℕ
  s₅ = drop (24 * number_at s 26) s₄

  abbrev s₆ : List ℕ
  s₆ = drop (28 * number_at s 30) s₅

  at₁ : s₁ ≡ drop (number_at s 12) s
  at₁ = ap (λ (k : ℕ). drop k s) (sym l.objects_at)

  at₂ : s₂ ≡ drop (number_at s 16) s
  at₂ = behind_at 4 (number_at s 14) (number_at s 12) (number_at s 16) s s₁ at₁ l.administrators_at

  at₃ : s₃ ≡ drop (number_at s 20) s
  at₃ = behind_at 4 (number_at s 18) (number_at s 16) (number_at s 20) s s₂ at₂ l.referrers_at

  at₄ : s₄ ≡ drop (number_at s 24) s
  at₄ = behind_at 4 (number_at s 22) (number_at s 20) (number_at s 24) s s₃ at₃ l.authorizations_at

  at₅ : s₅ ≡ drop (number_at s 28) s
  at₅ = behind_at 24 (number_at s 26) (number_at s 24) (number_at s 28) s s₄ at₄ l.rules_at

  abbrev end : ℕ
  end = number_at s 28 + 28 * number_at s 30

  at₆ : s₆ ≡ drop end s
  at₆ = behind_at 28 (number_at s 30) (number_at s 28) end s s₅ at₅ refl

  privileges_kept : (n at : ℕ) (t : List ℕ) → t ≡ drop at s → at + 4 * n ≤ length s →
      each (records 4 privilege_of n t) privilege_bytes ++ drop (4 * n) t ≡ t
  privileges_kept n at t e h = body_kept 4 privilege_of privilege_bytes (λ r. Unit {0})
      (λ r i b c. privilege_kept r i b) n at s t e h l.bytes (λ i k. tt)

  bodies_kept : bodies (decode s) ++ s₆ ≡ s₁
  unfolding decode
  bodies_kept = simp append_assoc (rw (
    body_kept 28 rule_of rule_bytes RuleLaid rule_kept (number_at s 30) (number_at s 28) s s₅ at₅ (omega arith)
        l.bytes
        l.rules,
    body_kept 24 authorization_of authorization_bytes AuthorizationLaid authorization_kept (number_at s 26)
        (number_at s 24) s s₄ at₄ (omega arith) l.bytes l.authorizations,
    privileges_kept (number_at s 22) (number_at s 20) s₃ at₃ (omega arith),
    privileges_kept (number_at s 18) (number_at s 16) s₂ at₂ (omega arith),
    privileges_kept (number_at s 14) (number_at s 12) s₁ at₁ (omega arith),
  ))

  -- a field of the heading
  field : (w at : ℕ) → at + w ≤ 32 → bytes_of w (le w (drop at s)) ++ drop (at + w) s ≡ drop at s
  field w at h = number_kept w at s (omega arith) l.bytes

  heading_kept : heading (decode s) ++ s₁ ≡ s
  unfolding decode
  heading_kept =
      let c = read_lengths s in
      (λ i. mark ++ bytes_of 4 (le 4 (drop 4 s)) ++ bytes_of 2 (number_at s 8) ++ (0 ∷ 0 ∷ [])
      ++ (contents_entry (sym l.objects_at i) (c.0 i)
      ++ contents_entry (offset₂ i) (c.1 i)
      ++ contents_entry (offset₃ i) (c.2 i)
      ++ contents_entry (offset₄ i) (c.3 i)
      ++ contents_entry (offset₅ i) (c.4 i)) ++ s₁)
      ∙ rw (
        field 2 30 (omega arith),
        field 2 28 (omega arith),
        field 2 26 (omega arith),
        field 2 24 (omega arith),
        field 2 22 (omega arith),
        field 2 20 (omega arith),
        field 2 18 (omega arith),
        field 2 16 (omega arith),
        field 2 14 (omega arith),
        field 2 12 (omega arith),
        byte_kept 0 11 s (omega arith) (sym l.zero₁₁),
        byte_kept 0 10 s (omega arith) (sym l.zero₁₀),
        field 2 8 (omega arith),
        field 4 4 (omega arith),
      ) (ap (λ (t : List ℕ). t ++ drop 4 s) (sym l.letters) ∙ take-append-drop 4 s)
    where
      offset₂ : 32 + 4 * length (decode s).objects ≡ number_at s 16
      offset₂ = omega (arith, read_lengths s)

      offset₃ : 32 + 4 * length (decode s).objects + 4 * length (decode s).administrators ≡ number_at s 20
      offset₃ = omega (arith, read_lengths s)

      offset₄ : 32 + 4 * length (decode s).objects + 4 * length (decode s).administrators
          + 4 * length (decode s).referrers ≡ number_at s 24
      offset₄ = omega (arith, read_lengths s)

      offset₅ : 32 + 4 * length (decode s).objects + 4 * length (decode s).administrators
          + 4 * length (decode s).referrers + 24 * length (decode s).authorizations ≡ number_at s 28
      offset₅ = omega (arith, read_lengths s)

  rest_length : size - length (heading (decode s) ++ bodies (decode s)) ≡ length (drop end s)
  rest_length = rw (length-drop end s) (omega (arith, front_length s))

  rest_kept : replicate (size - length (heading (decode s) ++ bodies (decode s))) 0 ≡ s₆
  rest_kept = rw (rest_length, at₆) (zeros_kept (drop end s) (λ i k. rw (get_or-drop end s i 0)
      (l.behind (end + i) (omega arith) (omega (arith, rw (length-drop end s) at k)))))

  written_back : encode (decode s) ≡ s
  unfolding encode
  written_back =
      ap (λ (z : List ℕ). heading (decode s) ++ bodies (decode s) ++ z) rest_kept
      ∙ append_assoc (heading (decode s)) (bodies (decode s)) s₆
      ∙ ap (λ (t : List ℕ). heading (decode s) ++ t) bodies_kept
      ∙ heading_kept

-- ---- what is written back is laid out so

-- seven parts of bytes, as `encode` joins them and with the last three apart
regroup : (h p q r a b z : List ℕ) → h ++ (p ++ q ++ r ++ a ++ b) ++ z ≡ h ++ p ++ q ++ r ++ (a ++ (b ++ z))
regroup h p q r a b z = simp append_assoc

module _ (s : List ℕ) (long : length s ≡ size) (bytes : Bytes s) (kept : encode (decode s) ≡ s) where
  abbrev d : Base
  d = decode s

  -- what stands in front of the authorizations, and of the rules
  abbrev front₄ : List ℕ
  front₄ = heading d ++ each d.objects privilege_bytes ++ each d.administrators privilege_bytes
      ++ each d.referrers privilege_bytes

  abbrev front₅ : List ℕ
  front₅ = front₄ ++ each d.authorizations authorization_bytes

  abbrev zeros : List ℕ
  zeros = replicate (size - length (heading d ++ bodies d)) 0

  parts : s ≡ heading d ++ bodies d ++ zeros
  unfolding encode
  parts = sym kept

  parts₄ : s ≡ front₄ ++ (each d.authorizations authorization_bytes ++ (each d.rules rule_bytes ++ zeros))
  parts₄ = parts ∙ regroup (heading d) (each d.objects privilege_bytes)
      (each d.administrators privilege_bytes)
      (each d.referrers privilege_bytes) (each d.authorizations authorization_bytes)
      (each d.rules rule_bytes)
      zeros

  parts₅ : s ≡ front₅ ++ (each d.rules rule_bytes ++ zeros)
  parts₅ = parts₄
      ∙ sym (append_assoc front₄ (each d.authorizations authorization_bytes)
      (each d.rules rule_bytes ++ zeros))

  length₄ : length front₄ ≡ 32 + 4 * number_at s 14 + 4 * number_at s 18 + 4 * number_at s 22
  length₄ = simp (length-append, privileges-length) (omega (arith, read_lengths s))

  length₅ : length front₅ ≡ length front₄ + 24 * number_at s 26
  length₅ = length-append front₄ (each d.authorizations authorization_bytes)
      ∙ omega (arith, length-each d.authorizations authorization_bytes 24 (λ a. refl), read_lengths s)

  ends : length (heading d ++ bodies d) ≤ size
  ends = omega (arith, ap length parts, length-append (heading d ++ bodies d) zeros)

  -- a number that is written at a place of the heading
  written : (at n : ℕ) → number_at (encode d) at ≡ le 2 (bytes_of 2 n) → n ≤ size → number_at s at ≡ n
  written at n e h =
      ap (λ (t : List ℕ). number_at t at) (sym kept) ∙ e ∙ le_bytes 2 n [] (omega arith)

  o₁ : number_at s 12 ≡ 32
  unfolding encode
  o₁ = written 12 32 refl (omega arith)

  o₂ : number_at s 16 ≡ 32 + 4 * number_at s 14
  unfolding encode
  o₂ = written 16 (32 + 4 * length d.objects) refl (omega (arith, read_lengths s, front_length s, ends))
      ∙ omega (arith, read_lengths s)

  o₃ : number_at s 20 ≡ 32 + 4 * number_at s 14 + 4 * number_at s 18
  unfolding encode
  o₃ = written 20 (32 + 4 * length d.objects + 4 * length d.administrators) refl
      (omega (arith, read_lengths s, front_length s, ends)) ∙ omega (arith, read_lengths s)

  o₄ : number_at s 24 ≡ length front₄
  unfolding encode
  o₄ = written 24 (32 + 4 * length d.objects + 4 * length d.administrators + 4 * length d.referrers)
      refl
      (omega (arith, read_lengths s, front_length s, ends)) ∙ omega (arith, read_lengths s, length₄)

  o₅ : number_at s 28 ≡ length front₅
  unfolding encode
  o₅ = written 28 (32 + 4 * length d.objects + 4 * length d.administrators + 4 * length d.referrers
      + 24 * length d.authorizations) refl
      (omega (arith, read_lengths s, front_length s, ends))
      ∙ omega (arith, read_lengths s, length₄, length₅)

  authorization_at_lem : (i : ℕ) → i < number_at s 26 → AuthorizationLaid (drop (number_at s 24 + 24 * i) s)
  authorization_at_lem i h =
      let rest = each d.rules rule_bytes ++ zeros in
      let body = each d.authorizations authorization_bytes ++ rest in
      let n : i < length d.authorizations = omega (arith, read_lengths s) in
      let r = record_in authorization_bytes 24 (λ a. refl) d.authorizations rest i n in
      let e : drop (number_at s 24 + 24 * i) s ≡ authorization_bytes r.0 ++ r.1 =
      (λ j. drop (o₄ j + 24 * i) (parts₄ j)) ∙ drop-append-add front₄ body (24 * i) ∙ r.2 in
      rw e (authorization_laid r.0 r.1)

  rule_at_lem : (i : ℕ) → i < number_at s 30 → RuleLaid (drop (number_at s 28 + 28 * i) s)
  rule_at_lem i h =
      let body = each d.rules rule_bytes ++ zeros in
      let n : i < length d.rules = omega (arith, read_lengths s) in
      let r = record_in rule_bytes 28 (λ a. refl) d.rules zeros i n in
      let e : drop (number_at s 28 + 28 * i) s ≡ rule_bytes r.0 ++ r.1 =
      (λ j. drop (o₅ j + 28 * i) (parts₅ j)) ∙ drop-append-add front₅ body (28 * i) ∙ r.2 in
      rw e (rule_laid r.0 r.1)

  zero_behind : (i : ℕ) → number_at s 28 + 28 * number_at s 30 ≤ i → i < size → byte_at s i ≡ 0
  zero_behind i h k =
      let front = heading d ++ bodies d in
      let j = i - length front in
      let q : i ≡ length front + j = omega (arith, front_length s, o₅, length₅, length₄) in
      (λ m. get_or (parts m) (q m) 0) ∙ get_or-append-add front zeros j 0
      ∙ get_or-replicate (size - length front) j 0 0 (omega (arith, front_length s, o₅, length₅, length₄))

  written_laid : Laid s
  unfolding encode
  written_laid = record {
    long = long;
    bytes = bytes;
    letters = ap (take 4) (sym kept);
    zero₁₀ = ap (λ (t : List ℕ). byte_at t 10) (sym kept);
    zero₁₁ = ap (λ (t : List ℕ). byte_at t 11) (sym kept);
    objects_at = o₁;
    administrators_at = omega (arith, o₁, o₂);
    referrers_at = omega (arith, o₂, o₃);
    authorizations_at = omega (arith, o₃, o₄, length₄);
    rules_at = omega (arith, o₄, o₅, length₅);
    within = omega (arith, ends, front_length s, o₅, length₅, length₄);
    authorizations = authorization_at_lem;
    rules = rule_at_lem;
    behind = zero_behind;
  }

-- ---- the theorems

-- THEOREM: 27,936 bytes are laid out as 01 says exactly if they are what is written of what they hold. Both
-- premises are needed: `encode` writes a mode above 255 as it is, and more records than there is room for at
-- greater length.
pub laid : (s : List ℕ) → length s ≡ size → ((i : ℕ) → byte_at s i < 256) →
    (eq_list (encode (decode s)) s ≡ true) ↔ Laid s
laid s n b = (
  (λ e. written_laid s n b (eq_list_eq (encode (decode s)) s e)),
  (λ l. rw (written_back s l) (eq_list_refl s)),
)

-- THEOREM: bytes are sound exactly if they are laid out as 01 says and hold a sound base
pub sound_laid : (s : List ℕ) → (sound_bytes s ≡ true) ↔ (Laid s × (sound (decode s) ≡ true))
unfolding sound_bytes
sound_laid s = (
  (λ e. let t = sound_bytes_lem s e in
      let b = mem_bytes s (λ n m. encode_bytes (decode s) t.1 n (rw t.0 m)) in
      (written_laid s (sound-length s e) b t.0, t.1)),
  (λ h. and_intro (eq_list (encode (decode s)) s) (sound (decode s))
      (rw (written_back s h.0) (eq_list_refl s)) h.1),
)
