-- Masks of rules: words whose bit r stands for rule r.
use Rattle.std.specs.Prelude.{◌≡◌, true, List, ℕ, ◌+◌, ◌*◌, ◌≤◌, ◌<◌, length, get_or}
use Rattle.foundation.specs.BitMasks.{bit}
use Rattle.places.specs.ReachedNumbers.{code_object, code_subject, code_index}
use Rattle.reach.specs.Net.{standing}

-- the bytes hold each rule of a mask
abbrev pub RulesIn : ℕ → List ℕ → Type 0
RulesIn rules body = (r : ℕ) → bit r rules ≡ true → (r < 64) × (r * 28 + 28 ≤ length body)

-- rule r looks at none of the mask
abbrev pub Alone : List ℕ → ℕ → ℕ → Type 0
Alone feed rest r = (i : ℕ) → i < 64 → bit i (get_or feed r 0) ≡ true → bit i rest ≡ true → ⊥

-- r is a rule of the mask that looks at none of it, or is 64
pub record RuleReady (feed : List ℕ) (rest r : ℕ) : Type 0 where
  pub low : r ≤ 64
  pub own : r < 64 → bit r rest ≡ true
  pub alone : r < 64 → Alone feed rest r

-- a rule of the mask that looks at none of it, which is there
pub record ReadyRule (feed : List ℕ) (rest r : ℕ) : Type 0 where
  pub there : r < 64
  pub ready : RuleReady feed rest r

-- m has the rules that stand at an object and a subject with a bit that is needed, and none that does not
-- stand on the object
pub record StandsOnNeed (left : List ℕ) (o s need m : ℕ) : Type 0 where
  pub all : (k r : ℕ) → bit k need ≡ true → bit r (standing left o s k) ≡ true → bit r m ≡ true
  pub only : (r : ℕ) → bit r m ≡ true → bit r (get_or left o 0) ≡ true

-- the code of a pair, and what is needed there is in the table
pub record PairCode (subjects size c : ℕ) : Type 0 where
  pub object : code_object c < 65
  pub subject : code_subject c < 65
  pub inside : code_index subjects c < size

-- what is needed at a pair with a code
abbrev pub need_at : List ℕ → ℕ → ℕ → ℕ
need_at need subjects c = get_or need (code_index subjects c) 0

-- m has the rules that stand at one of the first pairs with a bit that is needed there, and none that does
-- not stand on the object of one
pub record Needed (left need codes : List ℕ) (subjects pairs m : ℕ) : Type 0 where
  pub all : (n k r : ℕ) → n < pairs → bit k (need_at need subjects (get_or codes n 0)) ≡ true →
      bit r (standing left (code_object (get_or codes n 0)) (code_subject (get_or codes n 0)) k) ≡ true →
      bit r m ≡ true
  pub only : (r : ℕ) → bit r m ≡ true →
      (n : ℕ) × (n < pairs) × (bit r (get_or left (code_object (get_or codes n 0)) 0) ≡ true)
