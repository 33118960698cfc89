-- The bytes on the way from a base to the effect of a request on it, and what an allowed request's effect is,
-- kind by kind. Assumes nothing.
use mathlib.Core.Path.{◌≡◌, refl, sym, ap, ◌∙◌, subst}
use mathlib.Core.Logic.{inl, inr}
use Prim.Native.Nat.{ℕ, suc, ◌+◌, ◌^◌, ◌≤◌, ◌<◌}
use native.Mathlib.Omega.{arith}
use mathlib.Core.Bool.{Bool, true, not}
use mathlib.Core.List.{List, [], ◌∷◌, ◌++◌}
use lib.ListN.{length, drop, length-append}
use lib.Seq.{take_all, drop-length}
use lib.Dec.{leb, eqb}
use Rattle.foundation.specs.Tests.{and-true, true-le, true_eq, or_cases}
use Rattle.foundation.specs.Lists.{allb, anyb, Mem, mem_right, conjunct, keep_if, placed, insert_at}
use Rattle.foundation.specs.Bytes.{le}
use Rattle.model.specs.declared.Authorization.{Authorization}
use Rattle.model.specs.declared.Rule.{Rule}
use Rattle.model.specs.declared.Request.{Request}
use Rattle.model.specs.Ranges.{last_label, most_authorizations, most_rules}
use Rattle.model.specs.Base.{Base, privilege, administers}
use Rattle.model.specs.Encoding.{encode, decode}
use Rattle.model.specs.EncodingFacts.{decode-fits}
use Rattle.model.specs.FitsFacts.{BaseFits, AuthorizationFits, RuleFits, base-fits}
use Rattle.model.specs.Withdrawal.{authorization}
use Rattle.model.specs.SoundnessFacts.{Sound, tests-sound, decoded-sound}
use Rattle.model.specs.Requests.{NEW, ADDRULE, DROPRULE, GRANTADM, REVOKEADM, GRANTREF, REVOKEREF}
use Rattle.model.specs.Requests.{is, new_head, new_rule, insert, without}
use Rattle.model.specs.Means.{plainly}
use Rattle.model.specs.Step.{effect}
use Rattle.model.specs.Kinds.{kind_is, is_apart, is_kinds, grant_kinds, label_kinds}
use Rattle.laws.specs.Rows.{rule_in_lem, label_left}
use Rattle.laws.specs.RuleTerms.{rule_tests}
use Rattle.laws.specs.Preservation.{sound-after}
use Rattle.encoding.specs.declared.Counts.{Counts}
use Rattle.encoding.specs.Format.{counts_of}
use Rattle.encoding.proofs.FormatFacts.{decoded_lengths}
use Rattle.edits.specs.declared.PrivilegeBody.TheVariants.{Objects}
use Rattle.edits.specs.Edits.{Written, with_stamp}
use Rattle.edits.proofs.Written.{written-sound, written-encode}
use Rattle.model.specs.Effects.{with_authorizations, with_rules, with_referrers}
use Rattle.edits.specs.Edits.{with_privileges, privileges_of}
use Rattle.edits.proofs.Kept.{fits_clock}
use Rattle.effects.specs.EffectRecords.{Allowed, privilege_body_of, drops_by}

-- ---- bytes that hold a base

pub record HoldsBase (b : Base) (s : List ℕ) : Type 0 where
  pub base : decode s ≡ b
  pub written : Written s

pub holds-base : (b : Base) (s : List ℕ) → BaseFits b → s ≡ encode b → HoldsBase b s
holds-base b s f e = record {
  base = ap decode e ∙ decode-fits b f;
  written = rw e (written-encode b f);
}

pub stamped : (s : List ℕ) (clock last : ℕ) → Written s → clock < 256 ^ 4 → last < 256 ^ 2 → (s₁ : List ℕ) →
    s₁ ≡ encode (with_stamp clock last (decode s)) → HoldsBase (with_stamp clock last (decode s)) s₁
stamped s clock last W hc hl s₁ e = holds-base (with_stamp clock last (decode s)) s₁
    (fits_clock clock last (decode s) W.fits hc hl) e

-- the last label, as it is read
pub last-read : (s : List ℕ) (n : ℕ) → n ≡ le 2 (drop 8 s) → n ≡ (decode s).last
unfolding decode
last-read s n e = e

-- ---- lists

pub insert-last : {A : Type 0} (x : A) (xs : List A) → insert_at (length xs) x xs ≡ xs ++ (x ∷ [])
unfolding placed
insert-last {A} x xs = λ k. take_all (length xs) xs (omega arith) k ++ (x ∷ drop-length xs k)

-- ---- a request that the base accepts

module _ (kinds : List ℕ) (s : List ℕ) (q : Request) (a : Allowed kinds s q) where
  pub allowed-sound : Sound (decode s)
  allowed-sound = decoded-sound s a.sound

  pub allowed-written : Written s
  allowed-written = written-sound s a.sound

  pub after-fits : BaseFits (effect plainly (decode s) q)
  after-fits = base-fits (effect plainly (decode s) q)
      (tests-sound (effect plainly (decode s) q) (sound-after (decode s) q allowed-sound a.accepted))

  label-room : allb (λ k. anyb (eqb k) label_kinds) kinds ≡ true → (decode s).last < last_label
  label-room h = label_left (decode s) q a.accepted (is_kinds q kinds label_kinds h a.kind)

pub operator_in : (s : List ℕ) (q : Request) → Allowed (ADDRULE ∷ []) s q → q.rule.operator < 256
operator_in s q a =
    let t = conjunct (rule_tests q.rule) (rule_in_lem (decode s) q a.accepted a.kind) _
    (inr (inr (inl refl))) in
    omega (
      arith,
      true-le q.rule.operator 4
          (and-true (leb 1 q.rule.operator) (leb q.rule.operator 4) t).1,
    )

-- ---- the effects

module _ (b : Base) (q : Request) where
  pub effect-authorization : is q grant_kinds ≡ true → effect plainly b q ≡
      with_authorizations (b.authorizations ++ (authorization (new_head (suc b.last) q) q.interval ∷ []))
      (with_stamp q.now (suc b.last) b)
  effect-authorization k = rw (
    k,
    is_kinds q grant_kinds label_kinds refl k,
    is_apart q grant_kinds (DROPRULE ∷ REVOKEADM ∷ REVOKEREF ∷ []) refl k,
    is_apart q grant_kinds (NEW ∷ []) refl k,
    is_apart q grant_kinds (GRANTADM ∷ []) refl k,
    is_apart q grant_kinds (REVOKEADM ∷ []) refl k,
    is_apart q grant_kinds (GRANTREF ∷ []) refl k,
    is_apart q grant_kinds (REVOKEREF ∷ []) refl k,
    is_apart q grant_kinds (ADDRULE ∷ []) refl k,
  )

  pub effect-rule : is q (ADDRULE ∷ []) ≡ true → effect plainly b q ≡
      with_rules (b.rules ++ (new_rule (suc b.last) q ∷ [])) (with_stamp q.now (suc b.last) b)
  effect-rule k = rw (kind_is q ADDRULE k)

  pub effect-drop : (x y : Bool) → is q (DROPRULE ∷ []) ≡ true → effect plainly b q ≡
      with_rules (keep_if (λ r. not (drops_by x y q r)) b.rules) (with_stamp q.now b.last b)
  effect-drop x y k = rw (kind_is q DROPRULE k)

  pub effect-object : is q (NEW ∷ []) ≡ true → effect plainly b q ≡
      with_privileges Objects (insert (privilege q.object q.requester) b.objects)
      (with_stamp q.now b.last b)
  effect-object k = rw (kind_is q NEW k)

  pub effect-privilege : is q (GRANTADM ∷ GRANTREF ∷ []) ≡ true → effect plainly b q ≡
      with_privileges (privilege_body_of q.kind)
      (insert (privilege q.object q.subject) (privileges_of (privilege_body_of q.kind) b))
      (with_stamp q.now b.last b)
  effect-privilege k = or_cases (eqb q.kind GRANTADM) (is q (GRANTREF ∷ [])) k
      (λ e. rw (true_eq q.kind GRANTADM e))
      (λ e. rw (kind_is q GRANTREF e))

  -- REVOKEREF, where it is known whether the subject administers the object
  pub effect_referrer : (x : Bool) → is q (REVOKEREF ∷ []) ≡ true → effect plainly b q ≡
      with_rules (keep_if (λ r. not (drops_by x (administers b q.object q.subject) q r)) b.rules)
      (with_referrers (without q.object q.subject b.referrers) (with_stamp q.now b.last b))
  effect_referrer x k = rw (kind_is q REVOKEREF k)

-- ---- a record behind the others of a body, under the next label

-- a body of the base that takes records with labels
pub record LabelledBody (R : Type 0) : Type 1 where
  -- its records, their number in the heading, and the base with others
  pub of : Base → List R
  pub count : Counts → ℕ
  pub with : List R → Base → Base
  pub most : ℕ
  pub FitsBytes : R → Type 0
  -- it is read back, and the heading is left
  pub got : (xs : List R) (b : Base) → of (with xs b) ≡ xs
  pub clock : (xs : List R) (b : Base) → (with xs b).clock ≡ b.clock
  pub last : (xs : List R) (b : Base) → (with xs b).last ≡ b.last
  pub stays : (clock last : ℕ) (b : Base) → of (with_stamp clock last b) ≡ of b
  pub counted : (s : List ℕ) → length (of (decode s)) ≡ count (counts_of s)
  -- of a base that fits, it is not too long, and its records fit
  pub limited : (b : Base) → BaseFits b → length (of b) ≤ most
  pub fits : (b : Base) → BaseFits b → (x : R) → Mem x (of b) → FitsBytes x

abbrev pub authorization_body : LabelledBody Authorization
authorization_body = record {
  of = λ b. b.authorizations;
  count = λ c. c.authorizations;
  with = with_authorizations;
  most = most_authorizations;
  FitsBytes = AuthorizationFits;
  got = λ xs b. refl;
  clock = λ xs b. refl;
  last = λ xs b. refl;
  stays = λ clock last b. refl;
  counted = λ s. (decoded_lengths s).3;
  limited = λ b f. f.counts.authorizations;
  fits = λ b f. f.authorizations;
}

abbrev pub rule_body : LabelledBody Rule
rule_body = record {
  of = λ b. b.rules;
  count = λ c. c.rules;
  with = with_rules;
  most = most_rules;
  FitsBytes = RuleFits;
  got = λ xs b. refl;
  clock = λ xs b. refl;
  last = λ xs b. refl;
  stays = λ clock last b. refl;
  counted = λ s. (decoded_lengths s).4;
  limited = λ b f. f.counts.rules;
  fits = λ b f. f.rules;
}

-- an addition: what is put in under a label, and the effect of the request
pub record Addition {R : Type 0} (P : LabelledBody R) (s : List ℕ) (q : Request) (new : ℕ → R) : Type 0 where
  pub written : Written s
  pub unused : (decode s).last < last_label
  pub after : BaseFits (effect plainly (decode s) q)
  pub effects : effect plainly (decode s) q
      ≡ P.with (P.of (decode s) ++ (new (suc (decode s).last) ∷ []))
      (with_stamp q.now (suc (decode s).last) (decode s))

pub grant_addition : (s : List ℕ) (q : Request) → Allowed grant_kinds s q →
    Addition authorization_body s q (λ label. authorization (new_head label q) q.interval)
grant_addition s q a = record {
  written = allowed-written grant_kinds s q a;
  unused = label-room grant_kinds s q a refl;
  after = after-fits grant_kinds s q a;
  effects = effect-authorization (decode s) q a.kind;
}

pub rule_addition : (s : List ℕ) (q : Request) → Allowed (ADDRULE ∷ []) s q →
    Addition rule_body s q (λ label. new_rule label q)
rule_addition s q a = record {
  written = allowed-written (ADDRULE ∷ []) s q a;
  unused = label-room (ADDRULE ∷ []) s q a refl;
  after = after-fits (ADDRULE ∷ []) s q a;
  effects = effect-rule (decode s) q a.kind;
}

module _ {R : Type 0} {P : LabelledBody R} {s : List ℕ} {q : Request} {new : ℕ → R}
    (d : Addition P s q new) where
  abbrev old : List R
  old = P.of (decode s)

  abbrev then : Base
  then = with_stamp q.now (suc (decode s).last) (decode s)

  added : P.of (effect plainly (decode s) q) ≡ old ++ (new (suc (decode s).last) ∷ [])
  added = ap P.of d.effects ∙ P.got (old ++ (new (suc (decode s).last) ∷ [])) then

  module _ {label : ℕ} (e : label ≡ (decode s).last + 1) where
    next : suc (decode s).last ≡ label
    next = omega arith

    label-within : label < 256 ^ 2
    label-within =
        let f = d.after.last in
        let h = ap (λ (b : Base). b.last) d.effects
        ∙ P.last (old ++ (new (suc (decode s).last) ∷ [])) then in
        omega (arith, f, h)

    pub new-fits : P.FitsBytes (new label)
    new-fits = subst (λ (l : ℕ). P.FitsBytes (new l)) next
        (P.fits (effect plainly (decode s) q) d.after (new (suc (decode s).last))
        (rw added (mem_right (new (suc (decode s).last)) old (new (suc (decode s).last) ∷ []) (inl refl))))

    -- behind the stamp, with the place that was counted before
    module _ {s₁ : List ℕ} (e₁ : s₁ ≡ encode (with_stamp q.now label (decode s)))
        {c : Counts} (counts : c ≡ counts_of s) where
      place : P.count c ≡ length (P.of (decode s))
      place = ap P.count counts ∙ sym (P.counted s)

      now-holds : HoldsBase (with_stamp q.now label (decode s)) s₁
      now-holds = stamped s q.now label d.written d.after.clock label-within s₁ e₁

      now-old : P.of (decode s₁) ≡ P.of (decode s)
      now-old = ap P.of now-holds.base ∙ P.stays q.now label (decode s)

      pub room : Written s₁ × (P.count c ≤ length (P.of (decode s₁)))
          × (length (P.of (decode s₁)) < P.most)
      room =
          let l = ap length now-old in
          let f = P.limited (effect plainly (decode s) q) d.after in
          let m = ap length added ∙ length-append old (new (suc (decode s).last) ∷ []) in
          (now-holds.written, omega (arith, l, place), omega (arith, l, f, m))

      pub put_last : {x : R} → x ≡ new label → {s₂ : List ℕ} →
          s₂ ≡ encode (P.with (insert_at (P.count c) x (P.of (decode s₁))) (decode s₁)) →
          s₂ ≡ encode (effect plainly (decode s) q)
      put_last ex e₂ =
          e₂
          ∙ (λ k. encode (P.with (insert_at (place k) ((ex ∙ ap new (sym next)) k) (now-old k))
          (now-holds.base k)))
          ∙ (λ k. encode (P.with (insert-last (new (suc (decode s).last)) old k)
          (with_stamp q.now (sym next k) (decode s))))
          ∙ ap encode (sym d.effects)
