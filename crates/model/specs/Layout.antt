-- The bytes of a base, each thing that 01 says of them on its own ("The base as bytes"): `Laid`. THEOREM
-- `laid` in LayoutFacts: 27,936 bytes are laid out so exactly if they are what `encode` writes of what
-- `decode` reads. THEOREM `sound-laid` there: bytes are sound (`sound_bytes`) exactly if they are laid out so
-- and the base that they hold is sound. What the fields and the flag bits in use mean is in `decode`.
use Rattle.std.specs.Prelude.{◌≡◌, ℕ, ◌+◌, ◌*◌, ◌≤◌, ◌<◌, true, false, List, length, take, drop, get_or}
use Rattle.foundation.specs.Bytes.{le}
use Rattle.model.specs.Encoding.{size, mark, bit}

-- the byte at a place
abbrev pub byte_at : List ℕ → ℕ → ℕ
byte_at s at = get_or s at 0

-- 01: "little-endian": the 16-bit number at a place
abbrev pub number_at : List ℕ → ℕ → ℕ
number_at s at = le 2 (drop at s)

-- 01: "Line, 24 bytes: label, granter, subject, object (two each), mode, flags (one each), two zero, ...". r
-- begins with a line
pub record AuthorizationLaid (r : List ℕ) : Type 0 where
  pub zero₁₀ : byte_at r 10 ≡ 0
  pub zero₁₁ : byte_at r 11 ≡ 0
  -- "Flags: bit 0 set is a denial, bit 1 set is transferable, the other bits are clear"
  pub clear : (k : ℕ) → 2 ≤ k → k ≤ 7 → bit k (byte_at r 9) ≡ false

-- 01: "Rule, 28 bytes: label, author, left subject, left object, right subject, right object, right granter
-- (two each), left mode, right mode, operator, flags (one each), two zero, ...". r begins with a rule
pub record RuleLaid (r : List ℕ) : Type 0 where
  -- "operator (1 WHENEVER, 2 ASLONGAS, 3 WHENEVERNOT, 4 UNLESS)"
  pub operator_least : 1 ≤ byte_at r 16
  pub operator-most : byte_at r 16 ≤ 4
  pub zero₁₈ : byte_at r 18 ≡ 0
  pub zero₁₉ : byte_at r 19 ≡ 0
  -- "Flags: bit 0 left is a denial, bit 1 right is a denial, bit 2 right transferable, bit 3 right option
  -- starred"
  pub clear : (k : ℕ) → 4 ≤ k → k ≤ 7 → bit k (byte_at r 17) ≡ false
  -- "(bit 2 then clear)"
  pub starred : bit 3 (byte_at r 17) ≡ true → bit 2 (byte_at r 17) ≡ false

pub record Laid (s : List ℕ) : Type 0 where
  -- "Exactly 27,936 bytes"
  pub long : length s ≡ size
  pub bytes : (i : ℕ) → byte_at s i < 256
  -- "Bytes 0 to 3: the ASCII letters `MRB1`"
  pub letters : take 4 s ≡ mark
  -- "10 to 11: zero"
  pub zero₁₀ : byte_at s 10 ≡ 0
  pub zero₁₁ : byte_at s 11 ≡ 0
  -- "Bytes 12 to 31: five entries of two 16-bit numbers, offset and count: objects, administrators,
  -- referrers, lines, rules. The first body starts at 32, each next where the one before ends"
  pub objects_at : number_at s 12 ≡ 32
  pub administrators_at : number_at s 16 ≡ number_at s 12 + 4 * number_at s 14
  pub referrers_at : number_at s 20 ≡ number_at s 16 + 4 * number_at s 18
  pub authorizations_at : number_at s 24 ≡ number_at s 20 + 4 * number_at s 22
  pub rules_at : number_at s 28 ≡ number_at s 24 + 24 * number_at s 26
  -- the last body ends within the bytes
  pub within : number_at s 28 + 28 * number_at s 30 ≤ size
  -- the lines, and the rules
  pub authorizations : (i : ℕ) → i < number_at s 26 → AuthorizationLaid (drop (number_at s 24 + 24 * i) s)
  pub rules : (i : ℕ) → i < number_at s 30 → RuleLaid (drop (number_at s 28 + 28 * i) s)
  -- "All bytes behind the last body are zero"
  pub behind : (i : ℕ) → number_at s 28 + 28 * number_at s 30 ≤ i → i < size → byte_at s i ≡ 0
