-- The net of places that a question can rest on. A place is a subject, an object and a mode, by their
-- coordinates; a pair is a subject with an object, numbered object by object. A rule leads from the places of
-- its left side to that of its right side.
use Rattle.std.specs.Prelude.{◌≡◌, Bool, true, List, ℕ, ◌+◌, ◌*◌, ◌%◌, ◌≤◌, ◌<◌, eqb, get_or}
use Rattle.std.specs.Int.Bits.{bit_and}
use Rattle.foundation.specs.Tests.{pick}
use Rattle.foundation.specs.BitMasks.{bit}
use Rattle.places.specs.ReachedNumbers.{pair_index, index_object, index_subject}
use Rattle.places.specs.Needs.{needs_of}
use Rattle.reach.specs.declared.net.RuleNet.{RuleNet}

-- `left` has the rules that stand on an object, 65 words, on a subject, 65, and on a mode with a sign, 16
-- (what is behind those is not looked at); `right` four numbers a rule: object, subject and mode of its right
-- side, 255 for a star, and the signs that it looks at (1: positive, 2: denied, 3: both)
pub record Net : Type 0 where
  pub left : List ℕ
  pub right : List ℕ
  pub subjects : ℕ

-- as the code holds it
abbrev pub net_of : RuleNet → Net
net_of n = record { left = n.left.now; right = n.right.now; subjects = n.subjects }

-- the rules that stand at an object o and a subject s with bit k
unfoldable pub standing : List ℕ → ℕ → ℕ → ℕ → ℕ
standing left o s k = bit_and (bit_and (get_or left o 0) (get_or left (65 + s) 0)) (get_or left (130 + k) 0)

-- a coordinate of the right side: its own, or that of the left side
abbrev pub turned : ℕ → ℕ → ℕ
turned code own = pick (eqb code 255) own code

-- the pair on the right of rule r, seen from o and s
unfoldable pub right_pair : List ℕ → ℕ → ℕ → ℕ → ℕ → ℕ
right_pair right subjects r o s =
    pair_index subjects (turned (get_or right (4 * r) 0) o) (turned (get_or right (4 * r + 1) 0) s)

-- what it needs there, seen from mode m
unfoldable pub right_needs : List ℕ → ℕ → ℕ → ℕ
right_needs right r m = needs_of (get_or right (4 * r + 3) 0) (turned (get_or right (4 * r + 2) 0) m)

-- the codes of rule r: coordinates below the counts, or stars
pub record CodedRight (right : List ℕ) (objects subjects r : ℕ) : Type 0 where
  pub object : (eqb (get_or right (4 * r) 0) 255 ≡ true → ⊥) → get_or right (4 * r) 0 < objects
  pub subject : (eqb (get_or right (4 * r + 1) 0) 255 ≡ true → ⊥) → get_or right (4 * r + 1) 0 < subjects
  pub mode : (eqb (get_or right (4 * r + 2) 0) 255 ≡ true → ⊥) → get_or right (4 * r + 2) 0 < 8
  pub signs : get_or right (4 * r + 3) 0 < 4

-- the net covers `size` pairs, rows of `subjects`
pub record Formed (right : List ℕ) (subjects size : ℕ) : Type 0 where
  pub objects : ℕ
  pub rows : size ≡ objects * subjects
  pub some : 0 < subjects
  pub low : subjects ≤ 65
  pub few : objects ≤ 65
  pub codes : (r : ℕ) → r < 64 → CodedRight right objects subjects r

-- from an object, a subject and a mode rule r leads to one of `size` pairs and to a mode
pub record Led (right : List ℕ) (subjects size o s m r : ℕ) : Type 0 where
  pub pair : right_pair right subjects r o s < size
  pub mode : turned (get_or right (4 * r + 2) 0) m < 8
  pub signs : get_or right (4 * r + 3) 0 < 4

-- bit k is needed at pair j
abbrev pub has : List ℕ → ℕ → ℕ → Bool
has l j k = bit k (get_or l j 0)

-- the rules that stand at pair j with bit k, and the pair on the right of rule r, seen from there
abbrev pub standing_at : Net → ℕ → ℕ → ℕ
standing_at net j k = standing net.left (index_object net.subjects j) (index_subject net.subjects j) k

abbrev pub pair_on_right : Net → ℕ → ℕ → ℕ
pair_on_right net r j =
    right_pair net.right net.subjects r (index_object net.subjects j) (index_subject net.subjects j)

-- what is needed by rule r where it stands at pair j with bit k is needed
abbrev pub Followed : Net → ℕ → ℕ → ℕ → List ℕ → Type 0
Followed net j k r need = (b : ℕ) → bit b (right_needs net.right r (k % 8)) ≡ true →
    has need (pair_on_right net r j) b ≡ true

-- all that is needed is followed, but for what is still to do
abbrev pub ClosedBut : Net → List ℕ → List ℕ → Type 0
ClosedBut net need todo = (j k : ℕ) → has need j k ≡ true → (has todo j k ≡ true → ⊥) → (r : ℕ) → r < 64 →
    bit r (standing_at net j k) ≡ true → Followed net j k r need

-- with every place that is needed, those are that the rules standing there look at
abbrev pub ClosedNet : Net → List ℕ → Type 0
ClosedNet net need = (j k : ℕ) → has need j k ≡ true → (r : ℕ) → r < 64 →
    bit r (standing_at net j k) ≡ true → Followed net j k r need

-- ---- no more than that

-- all that is needed, or to do, is at pairs where P holds
abbrev pub OnlyWhere : (ℕ → Bool) → List ℕ → Type 0
OnlyWhere P l = (j k : ℕ) → has l j k ≡ true → P j ≡ true

-- from where P holds, the rules that stand there lead to where it holds
abbrev pub ClosedUnderRules : Net → (ℕ → Bool) → Type 0
ClosedUnderRules net P = (j k r : ℕ) → P j ≡ true → r < 64 →
    bit r (standing_at net j k) ≡ true → P (pair_on_right net r j) ≡ true

-- what is needed is only at the pair asked about and where rules lead from there
abbrev pub Only : Net → ℕ → List ℕ → Type 0
Only net pair need = (P : ℕ → Bool) → P pair ≡ true → ClosedUnderRules net P → OnlyWhere P need
