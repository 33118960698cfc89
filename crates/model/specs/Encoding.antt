-- The base as bytes (01, "The base as bytes"). Theorem 6: EncodingFacts.
use Rattle.std.specs.Prelude.{ℕ, ◌+◌, ◌-◌, ◌*◌, Bool, List, [], ◌∷◌, ◌++◌, length, replicate, drop, get_or}
use Rattle.foundation.specs.Tests.{pick}
use Rattle.foundation.specs.Lists.{each}
use Rattle.foundation.specs.Bytes.{le, bytes_of, records}
pub use Rattle.foundation.specs.BitMasks.{as_bit, bit}
use Rattle.foundation.specs.Intervals.{interval}
use Rattle.model.specs.declared.Privilege.{Privilege}
use Rattle.model.specs.declared.Authorization.{Authorization}
use Rattle.model.specs.declared.Rule.{Rule}
use Rattle.model.specs.declared.Operator.{Operator}
use Rattle.model.specs.declared.Operator.TheVariants.{Whenever, AsLongAs, WheneverNot, Unless}
use Rattle.model.specs.declared.OptionTerm.{OptionTerm}
use Rattle.model.specs.declared.OptionTerm.TheVariants.{With, Without, Either}
use Rattle.model.specs.Base.{Base}
use Rattle.model.specs.Requests.{operator_of}

-- 01: "Exactly 27,936 bytes"
abbrev pub size : ℕ
size = 27936

-- 01: "Bytes 0 to 3: the ASCII letters `MRB1`"
abbrev pub mark : List ℕ
mark = 77 ∷ 82 ∷ 66 ∷ 49 ∷ []

-- ---- flags

-- 01: "Flags: bit 0 set is a denial, bit 1 set is transferable, the other bits are clear"
abbrev pub head_flags : Bool → Bool → ℕ
head_flags negative option = as_bit negative + 2 * as_bit option

abbrev pub is_negative : ℕ → Bool
is_negative flags = bit 0 flags

abbrev pub has_option : ℕ → Bool
has_option flags = bit 1 flags

-- 01: "bit 2 right transferable, bit 3 right option starred (bit 2 then clear)"
abbrev pub option_flags : OptionTerm → ℕ
option_flags With = 4
option_flags Without = 0
option_flags Either = 8

abbrev pub option_of : ℕ → OptionTerm
option_of flags = pick (bit 3 flags) Either (pick (bit 2 flags) With Without)

-- 01: "Flags: bit 0 left is a denial, bit 1 right is a denial"
abbrev pub rule_flags : Bool → Bool → OptionTerm → ℕ
rule_flags left right option = as_bit left + 2 * as_bit right + option_flags option

-- 01: "operator (1 WHENEVER, 2 ASLONGAS, 3 WHENEVERNOT, 4 UNLESS)"
abbrev pub operator_number : Operator → ℕ
operator_number Whenever = 1
operator_number AsLongAs = 2
operator_number WheneverNot = 3
operator_number Unless = 4

-- ---- writing

-- 01: "Object, administrator, referrer: object and subject, two bytes each"
abbrev pub privilege_bytes : Privilege → List ℕ
privilege_bytes p = bytes_of 2 p.object ++ bytes_of 2 p.subject

-- 01: "Line, 24 bytes: label, granter, subject, object (two each), mode, flags (one each), two zero, then
-- granted-at, start, end (four each)"
abbrev pub authorization_bytes : Authorization → List ℕ
authorization_bytes a =
    let h = a.head in
    bytes_of 2 h.label ++ bytes_of 2 h.grantor ++ bytes_of 2 h.subject ++ bytes_of 2 h.object
    ++ (h.mode ∷ head_flags h.negative h.option ∷ 0 ∷ 0 ∷ [])
    ++ bytes_of 4 h.granted ++ bytes_of 4 a.interval.start ++ bytes_of 4 a.interval.end

-- 01: "Rule, 28 bytes: label, author, left subject, left object, right subject, right object, right granter
-- (two each), left mode, right mode, operator, flags (one each), two zero, start, end (four each)"
abbrev pub rule_bytes : Rule → List ℕ
rule_bytes r =
    bytes_of 2 r.label ++ bytes_of 2 r.author
    ++ bytes_of 2 r.left.subject ++ bytes_of 2 r.left.object
    ++ bytes_of 2 r.right.subject ++ bytes_of 2 r.right.object ++ bytes_of 2 r.grantor
    ++ (r.left.mode ∷ r.right.mode ∷ operator_number r.operator
    ∷ rule_flags r.left.negative r.right.negative r.option ∷ 0 ∷ 0 ∷ [])
    ++ bytes_of 4 r.interval.start ++ bytes_of 4 r.interval.end

-- 01: "entries of two 16-bit numbers, offset and count"
abbrev pub contents_entry : ℕ → ℕ → List ℕ
contents_entry offset n = bytes_of 2 offset ++ bytes_of 2 n

-- 01: "Bytes 12 to 31: five entries ... objects, administrators, referrers, lines, rules. The first body
-- starts at 32, each next where the one before ends"
abbrev pub contents : (objects administrators referrers authorizations rules : ℕ) → List ℕ
contents objects administrators referrers authorizations rules =
    let at₂ = 32 + 4 * objects in
    let at₃ = at₂ + 4 * administrators in
    let at₄ = at₃ + 4 * referrers in
    let at₅ = at₄ + 24 * authorizations in
    contents_entry 32 objects ++ contents_entry at₂ administrators ++ contents_entry at₃ referrers
    ++ contents_entry at₄ authorizations
    ++ contents_entry at₅ rules

-- 01: "4 to 7: clock ... 8 to 9: last label given. 10 to 11: zero"
abbrev pub heading : Base → List ℕ
heading b =
    mark ++ bytes_of 4 b.clock ++ bytes_of 2 b.last ++ (0 ∷ 0 ∷ [])
    ++ contents (length b.objects) (length b.administrators) (length b.referrers)
    (length b.authorizations)
    (length b.rules)

abbrev pub bodies : Base → List ℕ
bodies b =
    each b.objects privilege_bytes ++ each b.administrators privilege_bytes
    ++ each b.referrers privilege_bytes
    ++ each b.authorizations authorization_bytes ++ each b.rules rule_bytes

-- 01: "All bytes behind the last body are zero"
unfoldable pub encode : Base → List ℕ
encode b = let front = heading b ++ bodies b in front ++ replicate (size - length front) 0

-- ---- reading: the fields of any bytes

abbrev pub privilege_of : List ℕ → Privilege
privilege_of s = record { object = le 2 s; subject = le 2 (drop 2 s) }

abbrev pub authorization_of : List ℕ → Authorization
authorization_of s = record {
  head = record {
    label = le 2 s;
    grantor = le 2 (drop 2 s);
    subject = le 2 (drop 4 s);
    object = le 2 (drop 6 s);
    mode = get_or s 8 0;
    negative = is_negative (get_or s 9 0);
    option = has_option (get_or s 9 0);
    granted = le 4 (drop 12 s);
  };
  interval = interval (le 4 (drop 16 s)) (le 4 (drop 20 s));
}

abbrev pub rule_of : List ℕ → Rule
rule_of s = record {
  label = le 2 s;
  author = le 2 (drop 2 s);
  left = record {
    subject = le 2 (drop 4 s);
    mode = get_or s 14 0;
    object = le 2 (drop 6 s);
    negative = bit 0 (get_or s 17 0);
  };
  operator = operator_of (get_or s 16 0);
  right = record {
    subject = le 2 (drop 8 s);
    mode = get_or s 15 0;
    object = le 2 (drop 10 s);
    negative = bit 1 (get_or s 17 0);
  };
  grantor = le 2 (drop 12 s);
  option = option_of (get_or s 17 0);
  interval = interval (le 4 (drop 20 s)) (le 4 (drop 24 s));
}

unfoldable pub decode : List ℕ → Base
decode s =
    let objects = le 2 (drop 14 s) in
    let administrators = le 2 (drop 18 s) in
    let referrers = le 2 (drop 22 s) in
    let authorizations = le 2 (drop 26 s) in
    let rules = le 2 (drop 30 s) in
    let s₁ = drop 32 s in
    let s₂ = drop (4 * objects) s₁ in
    let s₃ = drop (4 * administrators) s₂ in
    let s₄ = drop (4 * referrers) s₃ in
    let s₅ = drop (24 * authorizations) s₄ in
    record {
      clock = le 4 (drop 4 s);
      last = le 2 (drop 8 s);
      objects = records 4 privilege_of objects s₁;
      administrators = records 4 privilege_of administrators s₂;
      referrers = records 4 privilege_of referrers s₃;
      authorizations = records 24 authorization_of authorizations s₄;
      rules = records 28 rule_of rules s₅;
    }
