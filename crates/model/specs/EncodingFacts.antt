-- The base as bytes, theorem 6: a sound base is read back as it was written (`decode-encode`). What is
-- written is sound, of the one length and made of bytes (`encode-sound`, `encode-length`, `encode-bytes`);
-- sound bytes have that length (`sound-length`); the empty base is sound (`empty-sound`).
use Rattle.std.specs.Prelude.{◌≡◌, refl, ℕ, zero, suc, ◌+◌, ◌-◌, ◌*◌, ◌<◌, true, length, replicate, drop}
use Rattle.std.proofs.Common.{sym, ap, ◌∙◌, inl, inr, arith, length-append}
use mathlib.Core.List.{List, [], ◌∷◌, ◌++◌, append_assoc}
use Rattle.std.proofs.lemmas.List.{length-replicate}
use Rattle.foundation.specs.Tests.{and_intro}
use Rattle.foundation.specs.Lists.{Mem, each, length-each}
use Rattle.foundation.specs.Bytes.{le, bytes_of, records, le_bytes, records-back, behind, eq_list, eq_list_refl}
use Rattle.foundation.specs.declared.Interval.{Interval}
use Rattle.foundation.specs.Intervals.{interval}
use Rattle.foundation.specs.Graph.{cyclic}
use Rattle.model.specs.declared.Privilege.{Privilege}
use Rattle.model.specs.declared.Authorization.{Authorization}
use Rattle.model.specs.declared.Rule.{Rule}
use Rattle.model.specs.Base.{Base, empty_base}
use Rattle.model.specs.Stratification.{stratified}
use Rattle.model.specs.Step.{counts_hold}
use Rattle.model.specs.Encoding.{size, privilege_bytes, authorization_bytes, rule_bytes, heading, bodies}
use Rattle.model.specs.Encoding.{encode}
use Rattle.model.specs.Encoding.{privilege_of, authorization_of, rule_of, decode}
use Rattle.model.specs.Soundness.{sound, sound_bytes}
use Rattle.model.specs.SoundnessFacts.{sound_tests_lem, sound_bytes_lem}
use Rattle.model.specs.FlagFacts.{head_flags-back, rule_flags-back, operator-back, head_flags-most}
use Rattle.model.specs.FlagFacts.{rule_flags-most, operator-most}
use Rattle.model.specs.FitsFacts.{PrivilegeFits, IntervalFits, AuthorizationFits, RuleFits, counts_fit_lem}
use Rattle.model.specs.FitsFacts.{CountsFit, BaseFits, base-fits}

-- ---- what is written is read back. A field's number depends on its own bytes: `[]` serves for what is
-- behind them

interval-back : (i : Interval) → IntervalFits i →
    interval (le 4 (bytes_of 4 i.start)) (le 4 (bytes_of 4 i.end)) ≡ i
interval-back i f k = record {
  start = le_bytes 4 i.start [] f.start k;
  end = le_bytes 4 i.end [] f.end k;
}

privilege-back : (p : Privilege) (rest : List ℕ) → PrivilegeFits p →
    privilege_of (privilege_bytes p ++ rest) ≡ p
privilege-back p rest f i = record {
  object = le_bytes 2 p.object [] f.object i;
  subject = le_bytes 2 p.subject [] f.subject i;
}

pub authorization-back : (a : Authorization) (rest : List ℕ) → AuthorizationFits a →
    authorization_of (authorization_bytes a ++ rest) ≡ a
authorization-back a rest f i =
    let h = a.head in
    let flags = head_flags-back h.negative h.option in
    record {
      head = record {
        label = le_bytes 2 h.label [] f.label i;
        grantor = le_bytes 2 h.grantor [] f.grantor i;
        subject = le_bytes 2 h.subject [] f.subject i;
        object = le_bytes 2 h.object [] f.object i;
        mode = h.mode;
        negative = flags.0 i;
        option = flags.1 i;
        granted = le_bytes 4 h.granted [] f.granted i;
      };
      interval = interval-back a.interval f.interval i;
    }

pub rule-back : (r : Rule) (rest : List ℕ) → RuleFits r → rule_of (rule_bytes r ++ rest) ≡ r
rule-back r rest f i =
    let flags = rule_flags-back r.left.negative r.right.negative r.option in
    record {
      label = le_bytes 2 r.label [] f.label i;
      author = le_bytes 2 r.author [] f.author i;
      left = record {
        subject = le_bytes 2 r.left.subject [] f.left.subject i;
        mode = r.left.mode;
        object = le_bytes 2 r.left.object [] f.left.object i;
        negative = flags.0 i;
      };
      operator = operator-back r.operator i;
      right = record {
        subject = le_bytes 2 r.right.subject [] f.right.subject i;
        mode = r.right.mode;
        object = le_bytes 2 r.right.object [] f.right.object i;
        negative = flags.1 i;
      };
      grantor = le_bytes 2 r.grantor [] f.grantor i;
      option = flags.2 i;
      interval = interval-back r.interval f.interval i;
    }

-- a body of privileges, and what stands behind it
privileges-back : (ps : List Privilege) → ((p : Privilege) → Mem p ps → PrivilegeFits p) → (rest : List ℕ) →
    records 4 privilege_of (length ps) (each ps privilege_bytes ++ rest) ≡ ps
privileges-back = records-back privilege_of privilege_bytes 4 PrivilegeFits (λ p. refl) privilege-back

behind_privileges : (ps : List Privilege) (rest : List ℕ) →
    drop (4 * length ps) (each ps privilege_bytes ++ rest) ≡ rest
behind_privileges = behind privilege_bytes 4 (λ p. refl)

-- decode, with the numbers of the heading at hand
abbrev read_bodies : ℕ → ℕ → ℕ → ℕ → ℕ → ℕ → ℕ → List ℕ → Base
read_bodies clock last objects administrators referrers authorizations rules s₁ =
    let s₂ = drop (4 * objects) s₁ in
    let s₃ = drop (4 * administrators) s₂ in
    let s₄ = drop (4 * referrers) s₃ in
    let s₅ = drop (24 * authorizations) s₄ in
    record {
      clock = clock;
      last = last;
      objects = records 4 privilege_of objects s₁;
      administrators = records 4 privilege_of administrators s₂;
      referrers = records 4 privilege_of referrers s₃;
      authorizations = records 24 authorization_of authorizations s₄;
      rules = records 28 rule_of rules s₅;
    }

-- a base that fits, with z behind its bodies
module _ (b : Base) (f : BaseFits b) (z : List ℕ) where
  abbrev from₅ : List ℕ
  from₅ = each b.rules rule_bytes ++ z

  abbrev from₄ : List ℕ
  from₄ = each b.authorizations authorization_bytes ++ from₅

  abbrev from₃ : List ℕ
  from₃ = each b.referrers privilege_bytes ++ from₄

  abbrev from₂ : List ℕ
  from₂ = each b.administrators privilege_bytes ++ from₃

  abbrev from₁ : List ℕ
  from₁ = each b.objects privilege_bytes ++ from₂

  regroup : bodies b ++ z ≡ from₁
  regroup = simp append_assoc

  bodies-back : read_bodies b.clock b.last (length b.objects) (length b.administrators)
      (length b.referrers) (length b.authorizations) (length b.rules) from₁ ≡ b
  bodies-back =
      rw (
        behind_privileges b.objects from₂,
        behind_privileges b.administrators from₃,
        behind_privileges b.referrers from₄,
        behind authorization_bytes 24 (λ a. refl) b.authorizations from₅,
      )
      (λ i. record {
        clock = b.clock;
        last = b.last;
        objects = privileges-back b.objects f.objects from₂ i;
        administrators = privileges-back b.administrators f.administrators from₃ i;
        referrers = privileges-back b.referrers f.referrers from₄ i;
        authorizations = records-back authorization_of authorization_bytes 24 AuthorizationFits (λ a. refl)
            authorization-back b.authorizations f.authorizations from₅ i;
        rules = records-back rule_of rule_bytes 28 RuleFits (λ r. refl) rule-back b.rules f.rules z i;
      })

  base_back : decode (heading b ++ bodies b ++ z) ≡ b
  unfolding decode
  base_back =
      let c = f.counts in
      (λ i. read_bodies (le_bytes 4 b.clock [] f.clock i) (le_bytes 2 b.last [] f.last i)
      (le_bytes 2 (length b.objects) [] (omega (arith, c.objects)) i)
      (le_bytes 2 (length b.administrators) [] (omega (arith, c.administrators)) i)
      (le_bytes 2 (length b.referrers) [] (omega (arith, c.referrers)) i)
      (le_bytes 2 (length b.authorizations) [] (omega (arith, c.authorizations)) i)
      (le_bytes 2 (length b.rules) [] (omega (arith, c.rules)) i) (regroup i)) ∙ bodies-back

-- a base whose fields fit their widths is read back
pub decode-fits : (b : Base) → BaseFits b → decode (encode b) ≡ b
unfolding encode
decode-fits b f = base_back b f (replicate (size - length (heading b ++ bodies b)) 0)

pub decode-encode : (b : Base) → sound b ≡ true → decode (encode b) ≡ b
decode-encode b e = decode-fits b (base-fits b e)

pub encode-sound : (b : Base) → sound b ≡ true → sound_bytes (encode b) ≡ true
unfolding sound_bytes
encode-sound b e = rw (decode-encode b e)
    (and_intro (eq_list (encode b) (encode b)) (sound b) (eq_list_refl (encode b)) e)

-- ---- the length

pub privileges-length : (ps : List Privilege) → length (each ps privilege_bytes) ≡ length ps * 4
privileges-length ps = length-each ps privilege_bytes 4 (λ p. refl)

pub bodies-length : (b : Base) → length (bodies b) ≡
    length b.objects * 4 + length b.administrators * 4 + length b.referrers * 4
    + length b.authorizations * 24 + length b.rules * 28
bodies-length b = simp (
  length-append,
  privileges-length,
  length-each b.authorizations authorization_bytes 24 (λ a. refl),
  length-each b.rules rule_bytes 28 (λ r. refl),
)

pub length-fits : (b : Base) → CountsFit b → length (encode b) ≡ size
unfolding encode
length-fits b c =
    let front = heading b ++ bodies b in
    let l : length front ≡ 32 + length (bodies b) = length-append (heading b) (bodies b) in
    length-append front (replicate (size - length front) 0)
    ∙ rw (length-replicate {A = ℕ} (size - length front) 0)
    (omega (arith, l, bodies-length b, c))

pub encode-length : (b : Base) → counts_hold b ≡ true → length (encode b) ≡ size
encode-length b e = length-fits b (counts_fit_lem b e)

pub sound-length : (s : List ℕ) → sound_bytes s ≡ true → length s ≡ size
sound-length s e =
    let t = sound_bytes_lem s e in
    sym (ap length t.0) ∙ encode-length (decode s) (sound_tests_lem (decode s) t.1).counts

-- ---- every element is a byte

abbrev AllBytes : List ℕ → Type 0
AllBytes [] = Unit
AllBytes (n ∷ s) = (n < 256) × AllBytes s

bytes_mem : (s : List ℕ) → AllBytes s → (n : ℕ) → Mem n s → n < 256
bytes_mem [] h n m = absurd m.lower
bytes_mem (x ∷ s) h n (inl e) = rw e h.0
bytes_mem (x ∷ s) h n (inr m) = bytes_mem s h.1 n m

bytes_append : (s t : List ℕ) → AllBytes s → AllBytes t → AllBytes (s ++ t)
bytes_append [] t f g = g
bytes_append (x ∷ s) t f g = (f.0, bytes_append s t f.1 g)

-- bytes, and a body of records behind them
bytes_body : {A : Type 0} (s : List ℕ) (xs : List A) (enc : A → List ℕ) → AllBytes s →
    ((x : A) → Mem x xs → AllBytes (enc x)) → AllBytes (s ++ each xs enc)
bytes_body s [] enc f h = bytes_append s [] f tt
bytes_body s (x ∷ xs) enc f h = rw (← append_assoc s (enc x) (each xs enc))
    (bytes_body (s ++ enc x) xs enc (bytes_append s (enc x) f (h x (inl refl))) (λ y m. h y (inr m)))

bytes_zero : (k : ℕ) → AllBytes (replicate k 0)
bytes_zero zero = tt
bytes_zero (suc k) = (omega arith, bytes_zero k)

bytes_privileges : (s : List ℕ) (ps : List Privilege) → AllBytes s → AllBytes (s ++ each ps privilege_bytes)
bytes_privileges s ps f = bytes_body s ps privilege_bytes f (λ p m. omega arith)

authorization_bytes_lem : (a : Authorization) → AuthorizationFits a → AllBytes (authorization_bytes a)
authorization_bytes_lem a f = omega (arith, f.mode, head_flags-most a.head.negative a.head.option)

rule_bytes_lem : (r : Rule) → RuleFits r → AllBytes (rule_bytes r)
rule_bytes_lem r f = omega (
  arith,
  f.left.mode,
  f.right.mode,
  operator-most r.operator,
  rule_flags-most r.left.negative r.right.negative r.option,
)

bodies_bytes : (b : Base) → BaseFits b → AllBytes (bodies b)
bodies_bytes b f =
    let s₁ = each b.objects privilege_bytes in
    let s₂ = s₁ ++ each b.administrators privilege_bytes in
    let s₃ = s₂ ++ each b.referrers privilege_bytes in
    let s₄ = s₃ ++ each b.authorizations authorization_bytes in
    bytes_body s₄ b.rules rule_bytes
    (bytes_body s₃ b.authorizations authorization_bytes
    (bytes_privileges s₂ b.referrers
    (bytes_privileges s₁ b.administrators (bytes_privileges [] b.objects tt)))
    (λ a m. authorization_bytes_lem a (f.authorizations a m)))
    (λ r m. rule_bytes_lem r (f.rules r m))

pub encode_bytes : (b : Base) → sound b ≡ true → (n : ℕ) → Mem n (encode b) → n < 256
unfolding encode
encode_bytes b e =
    let front = heading b ++ bodies b in
    let zeros : List ℕ = replicate (size - length front) 0 in
    bytes_mem (front ++ zeros) (bytes_append front zeros
    (bytes_append (heading b) (bodies b) (omega arith) (bodies_bytes b (base-fits b e)))
    (bytes_zero (size - length front)))

-- ---- the empty base

-- so its bytes are sound, by `encode-sound`
pub empty_sound : sound empty_base ≡ true
unfolding sound stratified cyclic
empty_sound = refl
