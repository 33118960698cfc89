-- The sides of the rules by coordinates: codes of sides, and masks of the rules by what is on their left.
use Rattle.std.specs.Prelude.{◌≡◌, Bool, true, ◌&&◌, List, ℕ, ◌+◌, ◌*◌, ◌-◌, ◌<◌, eqb, ltb, get_or}
use Rattle.std.specs.Bool.{beq}
use Rattle.foundation.specs.Tests.{pick}
use Rattle.foundation.specs.BitMasks.{as_bit, bit}
use Rattle.model.specs.declared.Rule.{Rule}
use Rattle.model.specs.declared.Side.{Side}
use Rattle.model.specs.declared.Access.{Access}
use Rattle.model.specs.Base.{Base}
use Rattle.model.specs.Rules.{stands_for}
use Rattle.reach.specs.Net.{standing}
use Rattle.outlines.specs.Coordinates.{Chart, known, object_of, subject_of, mode_of}
use Rattle.encoding.specs.Format.{rule_at}

-- ---- codes

-- the code of a subject or an object of a side: 255 for a star, else its coordinate, 0 where it has none
abbrev pub code_in : List ℕ → ℕ → ℕ
code_in U v = pick (eqb v 0) 255 (get_or U v 0)

abbrev pub mode_code : ℕ → ℕ
mode_code m = pick (eqb m 0) 255 (m - 1)

-- the codes of a side from `at` on
pub record CodedAt (U O : List ℕ) (s : Side) (g : ℕ) (codes : List ℕ) (at : ℕ) : Type 0 where
  pub object : get_or codes at 0 ≡ code_in O s.object
  pub subject : get_or codes (at + 1) 0 ≡ code_in U s.subject
  pub mode : get_or codes (at + 2) 0 ≡ mode_code s.mode
  pub signs : get_or codes (at + 3) 0 ≡ g

-- those of rule i
abbrev pub Coded : List ℕ → List ℕ → Side → ℕ → List ℕ → ℕ → Type 0
Coded U O s g codes i = CodedAt U O s g codes (4 * i)

-- both signs of a place of a right side are looked at
abbrev pub RightSides : List ℕ → List ℕ → ℕ → List ℕ → List ℕ → Type 0
RightSides U O n body right = (i : ℕ) → i < n → Coded U O (rule_at body i).right 3 right i

-- the signs of both sides of a rule
abbrev pub signs_of : Rule → ℕ
signs_of r = as_bit r.left.negative + 2 * as_bit r.right.negative

abbrev pub LeftSides : List ℕ → List ℕ → ℕ → List ℕ → List ℕ → Type 0
LeftSides U O n body sides = (i : ℕ) → i < n → Coded U O (rule_at body i).left (signs_of (rule_at body i))
    sides i

-- ---- masks

-- the masks have, for each access that has a place, the rules that stand for it in the base, by sign
abbrev pub StandingMasks : Base → ℕ → List ℕ → Chart → Access → List ℕ → Type 0
StandingMasks b n body C asked left = (x : Access) → known C asked x ≡ true → (r : ℕ) → r < 64 → (g : Bool) →
    bit r (standing left (object_of C asked x) (subject_of C asked x) (mode_of x + 8 * as_bit g))
    ≡ ltb r n && (stands_for b (rule_at body r) x && beq (rule_at body r).left.negative g)
