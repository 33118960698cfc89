-- Masks of the rules by what is on their left. Words 0 to 64 are of object coordinates, 65 to 129 of subject
-- coordinates, 130 to 145 of modes with a sign, 146 and 147 of signs; 148 has the starred subjects, 149 and
-- 150 the starred modes by sign, 151 the starred objects. First they are drawn of the rules as written
-- (`WrittenMasks`), then starred rules are put to the objects that their authors control (`Controlled`),
-- which gives the rules that stand on an object (`Masked`; StandingRules: `masked`).
use Rattle.std.specs.Prelude.{◌≡◌, Bool, ◌&&◌, ◌||◌, List, ℕ, ◌+◌, ◌*◌, ◌%◌, ◌≤◌, ◌<◌, eqb, ltb, get_or}
use Rattle.foundation.specs.Tests.{pick}
use Rattle.foundation.specs.BitMasks.{bit, mask_of}
use Rattle.model.specs.declared.Rule.{Rule}
use Rattle.model.specs.declared.Access.{Access}
use Rattle.model.specs.Base.{Base, controls}
use Rattle.model.specs.Encoding.{decode}
use Rattle.model.specs.Stratification.{is_star}
use Rattle.model.specs.Rules.{stands_on}
use Rattle.encoding.specs.Format.{rules_in, rule_at}
use Rattle.outlines.specs.Coordinates.{Chart}

-- the codes of rule r, and its left sign
abbrev pub object_code : List ℕ → ℕ → ℕ
object_code sides r = get_or sides (4 * r) 0

abbrev pub subject_code : List ℕ → ℕ → ℕ
subject_code sides r = get_or sides (4 * r + 1) 0

abbrev pub mode_code_of : List ℕ → ℕ → ℕ
mode_code_of sides r = get_or sides (4 * r + 2) 0

abbrev pub sign_code : List ℕ → ℕ → ℕ
sign_code sides r = get_or sides (4 * r + 3) 0 % 2

-- they name words
pub record CodesPlaced (sides : List ℕ) (r : ℕ) : Type 0 where
  pub object : (object_code sides r ≡ 255 → ⊥) → object_code sides r < 65
  pub subject : (subject_code sides r ≡ 255 → ⊥) → subject_code sides r < 65
  pub mode : (mode_code_of sides r ≡ 255 → ⊥) → mode_code_of sides r < 8

-- the word of an object's code, of a subject's, and of a mode's with a sign
abbrev pub object_word : ℕ → ℕ
object_word code = pick (eqb code 255) 151 code

abbrev pub subject_word : ℕ → ℕ
subject_word code = pick (eqb code 255) 148 (65 + code)

abbrev pub mode_word : ℕ → ℕ → ℕ
mode_word code sign = pick (eqb code 255) (149 + sign) (130 + (code + 8 * sign))

-- rule r is put into word w
unfoldable pub in_word : List ℕ → ℕ → ℕ → Bool
in_word sides r w =
    eqb w (object_word (object_code sides r))
    || eqb w (subject_word (subject_code sides r))
    || eqb w (mode_word (mode_code_of sides r) (sign_code sides r))
    || eqb w (146 + sign_code sides r)

-- the masks by subject coordinate from 1 on, below `subjects`, by mode and by sign
pub record Sided (n subjects : ℕ) (sides left : List ℕ) : Type 0 where
  pub subject : (s r : ℕ) → 0 < s → s < subjects →
      bit r (get_or left (65 + s) 0) ≡ ltb r n && (eqb (subject_code sides r) 255 || eqb (subject_code sides r) s)
  pub mode : (m g r : ℕ) → m < 8 → g < 2 → bit r (get_or left (130 + (m + 8 * g)) 0)
      ≡ ltb r n && (eqb (sign_code sides r) g && (eqb (mode_code_of sides r) 255 || eqb (mode_code_of sides r) m))
  pub sign : (g r : ℕ) → g < 2 → bit r (get_or left (146 + g) 0) ≡ ltb r n && eqb (sign_code sides r) g

-- of the rules as written: those that name an object with a coordinate from 1 on, and the starred ones
pub record WrittenMasks (n subjects : ℕ) (sides left : List ℕ) : Type 0 where
  pub sided : Sided n subjects sides left
  pub object : (o r : ℕ) → 0 < o → o < 65 → bit r (get_or left o 0) ≡ ltb r n && eqb (object_code sides r) o
  pub starred : (r : ℕ) → bit r (get_or left 151 0) ≡ ltb r n && eqb (object_code sides r) 255

-- the author of rule r owns or administers object v, in the base of s
abbrev pub controlled_by : List ℕ → List ℕ → ℕ → ℕ → Bool
controlled_by s body v r = controls (decode s) v (rule_at body r).author

-- the starred rules are joined to the words of the objects that their authors own or administer
pub record Controlled (s body objects left left' : List ℕ) : Type 0 where
  pub object : (v r : ℕ) → 0 < get_or objects v 0 → bit r (get_or left' (get_or objects v 0) 0)
      ≡ bit r (get_or left (get_or objects v 0) 0) || (bit r (get_or left 151 0) && controlled_by s body v r)
  pub other : (w : ℕ) → 65 ≤ w → get_or left' w 0 ≡ get_or left w 0

-- the rules that stand on each object with a coordinate from 1 on
pub record Masked (b : Base) (n : ℕ) (C : Chart) (body sides left : List ℕ) : Type 0 where
  pub sided : Sided n C.width sides left
  pub object : (v r : ℕ) → 0 < get_or C.objects v 0 →
      bit r (get_or left (get_or C.objects v 0) 0) ≡ ltb r n && stands_on b (rule_at body r) v

-- rules whose left side names a subject or is starred there
abbrev pub on_subject : ℕ → Rule → Bool
on_subject s r = is_star r.left.subject || eqb r.left.subject s

-- the masks of coordinate 0 are those of an access; the other words are as they were
pub record Owned (b : Base) (n : ℕ) (body : List ℕ) (x : Access) (left left' : List ℕ) : Type 0 where
  pub object : get_or left' 0 0 ≡ mask_of (λ r. stands_on b r x.object) (rules_in n body)
  pub subject : get_or left' 65 0 ≡ mask_of (on_subject x.subject) (rules_in n body)
  pub other : (w : ℕ) → (w ≡ 0 → ⊥) → (w ≡ 65 → ⊥) → get_or left' w 0 ≡ get_or left w 0
