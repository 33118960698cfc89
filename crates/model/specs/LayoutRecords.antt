-- One record of a base's bytes: what is written is laid out as 01 says (`authorization-laid`, `rule-laid`),
-- and what is laid out so is written back (`privilege-kept`, `authorization-kept`, `rule-kept`).
use Rattle.std.specs.Prelude.{◌≡◌, refl, ℕ, ◌/◌, ◌%◌, ◌^◌, ◌≤◌, ◌<◌, true, false, not, ◌||◌, List, ◌++◌, leb, eqb, length, drop}
use Rattle.std.proofs.Common.{sym, arith}
use Rattle.std.proofs.Math.Nat.{pow-le-pow_right, div-eq_of_lt}
use Rattle.foundation.specs.Tests.{cases, true_eq, false_eq, ne_false, le-true}
use Rattle.foundation.specs.BytesFacts.{Bytes, each_below_lem, byte_kept, number_kept}
use Rattle.model.specs.declared.Authorization.{Authorization}
use Rattle.model.specs.declared.Rule.{Rule}
use Rattle.model.specs.declared.Operator.{Operator}
use Rattle.model.specs.declared.Operator.TheVariants.{Whenever, AsLongAs, WheneverNot, Unless}
use Rattle.model.specs.Requests.{operator_of}
use Rattle.model.specs.Encoding.{bit, head_flags, is_negative, has_option, option_of, rule_flags}
use Rattle.model.specs.Encoding.{operator_number}
use Rattle.model.specs.Encoding.{privilege_bytes, authorization_bytes, rule_bytes, privilege_of}
use Rattle.model.specs.Encoding.{authorization_of}
use Rattle.model.specs.Encoding.{rule_of}
use Rattle.model.specs.FlagFacts.{head_flags-most, rule_flags-most, operator-most}
use Rattle.model.specs.Layout.{byte_at, AuthorizationLaid, RuleLaid}

-- ---- flags and operators

-- below a power of two the bits from it on are clear
high-clear : (n g : ℕ) → g < 2 ^ n → (k : ℕ) → n ≤ k → bit k g ≡ false
high-clear n g h k l =
    let p : 2 ^ n ≤ 2 ^ k = pow-le-pow_right (omega arith) l in
    let z : g / 2 ^ k ≡ 0 = div-eq_of_lt (omega arith) in
    rw z

-- and back, bit by bit
bit-clear : (k g : ℕ) → bit k g ≡ false → (g / 2 ^ k % 2 ≡ 1 → ⊥)
bit-clear k g e = false_eq (g / 2 ^ k % 2) 1 e

below_16 : (g : ℕ) → g < 256 → ((k : ℕ) → 4 ≤ k → k ≤ 7 → bit k g ≡ false) → g < 16
below_16 g h c =
    let b₇ = bit-clear 7 g (c 7 (omega arith) (omega arith)) in
    let h₇ : g < 128 = omega arith in
    let b₆ = bit-clear 6 g (c 6 (omega arith) (omega arith)) in
    let h₆ : g < 64 = omega arith in
    let b₅ = bit-clear 5 g (c 5 (omega arith) (omega arith)) in
    let h₅ : g < 32 = omega arith in
    let b₄ = bit-clear 4 g (c 4 (omega arith) (omega arith)) in
    omega arith

below_4 : (g : ℕ) → g < 256 → ((k : ℕ) → 2 ≤ k → k ≤ 7 → bit k g ≡ false) → g < 4
below_4 g h c =
    let h₄ = below_16 g h (λ k i j. c k (omega arith) j) in
    let b₃ = bit-clear 3 g (c 3 (omega arith) (omega arith)) in
    let h₃ : g < 8 = omega arith in
    let b₂ = bit-clear 2 g (c 2 (omega arith) (omega arith)) in
    omega arith

below_12 : (g : ℕ) → g < 16 → (bit 3 g ≡ true → bit 2 g ≡ false) → g < 12
below_12 g h c = cases (bit 3 g)
    (λ e. let b = bit-clear 2 g (c e) in let t = true_eq (g / 8 % 2) 1 e in omega arith)
    (λ e. let b = bit-clear 3 g e in omega arith)

star-clear : (g : ℕ) → g < 12 → bit 3 g ≡ true → bit 2 g ≡ false
star-clear g h e = let t = true_eq (g / 8 % 2) 1 e in ne_false (g / 4 % 2) 1 (λ z. omega arith)

head_flags_kept : (g : ℕ) → g < 4 → head_flags (is_negative g) (has_option g) ≡ g
head_flags_kept g h = true_eq (head_flags (is_negative g) (has_option g)) g
    (each_below_lem 4 (λ g. eqb (head_flags (is_negative g) (has_option g)) g) refl g h)

rule_flags_kept : (g : ℕ) → g < 12 → rule_flags (bit 0 g) (bit 1 g) (option_of g) ≡ g
rule_flags_kept g h = true_eq (rule_flags (bit 0 g) (bit 1 g) (option_of g)) g
    (each_below_lem 12 (λ g. eqb (rule_flags (bit 0 g) (bit 1 g) (option_of g)) g) refl g h)

operator_kept : (g : ℕ) → 1 ≤ g → g ≤ 4 → operator_number (operator_of g) ≡ g
operator_kept g h l = true_eq (operator_number (operator_of g)) g
    (rw (le-true 1 g h) at
    (each_below_lem 5 (λ g. not (leb 1 g) || eqb (operator_number (operator_of g)) g) refl g (omega arith)))

operator_least : (o : Operator) → 1 ≤ operator_number o
operator_least Whenever = omega arith
operator_least AsLongAs = omega arith
operator_least WheneverNot = omega arith
operator_least Unless = omega arith

-- ---- what is written is laid out so

pub authorization_laid : (a : Authorization) (y : List ℕ) → AuthorizationLaid (authorization_bytes a ++ y)
authorization_laid a y =
    let g = head_flags a.head.negative a.head.option in
    record {
      zero₁₀ = refl;
      zero₁₁ = refl;
      clear = λ k l m. high-clear 2 g (omega (arith, head_flags-most a.head.negative a.head.option)) k
          l;
    }

pub rule_laid : (r : Rule) (y : List ℕ) → RuleLaid (rule_bytes r ++ y)
rule_laid r y =
    let g = rule_flags r.left.negative r.right.negative r.option in
    let h = rule_flags-most r.left.negative r.right.negative r.option in
    record {
      operator_least = operator_least r.operator;
      operator-most = operator-most r.operator;
      zero₁₈ = refl;
      zero₁₉ = refl;
      clear = λ k l m. high-clear 4 g (omega arith) k l;
      starred = star-clear g (omega arith);
    }

-- ---- what is laid out so is written back

pub privilege_kept : (s : List ℕ) → 4 ≤ length s → Bytes s → privilege_bytes (privilege_of s) ++ drop 4 s ≡ s
privilege_kept s h b = rw (number_kept 2 2 s (omega arith) b, number_kept 2 0 s (omega arith) b)

pub authorization_kept : (s : List ℕ) → 24 ≤ length s → Bytes s → AuthorizationLaid s →
    authorization_bytes (authorization_of s) ++ drop 24 s ≡ s
authorization_kept s h b c =
    let g = byte_at s 9 in
    rw (
      number_kept 4 20 s (omega arith) b,
      number_kept 4 16 s (omega arith) b,
      number_kept 4 12 s (omega arith) b,
      byte_kept 0 11 s (omega arith) (sym c.zero₁₁),
      byte_kept 0 10 s (omega arith) (sym c.zero₁₀),
      byte_kept (head_flags (is_negative g) (has_option g)) 9 s (omega arith)
          (head_flags_kept g (below_4 g (b 9) c.clear)),
      byte_kept (byte_at s 8) 8 s (omega arith) refl,
      number_kept 2 6 s (omega arith) b,
      number_kept 2 4 s (omega arith) b,
      number_kept 2 2 s (omega arith) b,
      number_kept 2 0 s (omega arith) b,
    )

pub rule_kept : (s : List ℕ) → 28 ≤ length s → Bytes s → RuleLaid s → rule_bytes (rule_of s) ++ drop 28 s ≡ s
rule_kept s h b c =
    let g = byte_at s 17 in
    rw (
      number_kept 4 24 s (omega arith) b,
      number_kept 4 20 s (omega arith) b,
      byte_kept 0 19 s (omega arith) (sym c.zero₁₉),
      byte_kept 0 18 s (omega arith) (sym c.zero₁₈),
      byte_kept (rule_flags (bit 0 g) (bit 1 g) (option_of g)) 17 s (omega arith)
          (rule_flags_kept g (below_12 g (below_16 g (b 17) c.clear) c.starred)),
      byte_kept (operator_number (operator_of (byte_at s 16))) 16 s (omega arith)
          (operator_kept (byte_at s 16) c.operator_least c.operator-most),
      byte_kept (byte_at s 15) 15 s (omega arith) refl,
      byte_kept (byte_at s 14) 14 s (omega arith) refl,
      number_kept 2 12 s (omega arith) b,
      number_kept 2 10 s (omega arith) b,
      number_kept 2 8 s (omega arith) b,
      number_kept 2 6 s (omega arith) b,
      number_kept 2 4 s (omega arith) b,
      number_kept 2 2 s (omega arith) b,
      number_kept 2 0 s (omega arith) b,
    )
