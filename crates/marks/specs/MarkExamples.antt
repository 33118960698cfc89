-- Marks found one after the other from instant 0, whatever the authorizations and rules are about: those of
-- session S's lines, of a line to the last instant, of a rule by itself. 2^32 stands for none.
use Rattle.std.specs.Prelude.{◌≡◌, refl, ℕ, zero, suc, List, [], ◌∷◌}
use Rattle.foundation.specs.Intervals.{interval}
use Rattle.foundation.specs.Marks.{next}
use Rattle.model.specs.declared.Authorization.{Authorization}
use Rattle.model.specs.declared.Head.{Head}
use Rattle.model.specs.declared.Operator.{Operator}
use Rattle.model.specs.declared.OptionTerm.{OptionTerm}
use Rattle.model.specs.declared.Rule.{Rule}
use Rattle.model.specs.declared.Side.{Side}
use Rattle.model.specs.Ranges.{last_instant}
use Rattle.model.specs.Means.{marks}

abbrev line : Head → (start end : ℕ) → Authorization
line h start end = record { head = h; interval = interval start end }

abbrev rule : Side → Operator → OptionTerm → (start end : ℕ) → Rule
rule s o p start end = record {
  label = 9;
  author = 1;
  left = s;
  operator = o;
  right = s;
  grantor = 0;
  option = p;
  interval = interval start end;
}

-- k marks, the first above t, and each above the one before
unfoldable pub found : ℕ → ℕ → List ℕ → List ℕ
found zero t ms = []
found (suc k) t ms = let m = next t ms 4294967296 in m ∷ found k m ms

pub session-s : (h : Head) →
    found 6 0 (marks (line h 50 59 ∷ line h 80 150 ∷ line h 55 59 ∷ line h 80 150 ∷ []) [])
    ≡ 50 ∷ 55 ∷ 60 ∷ 80 ∷ 151 ∷ 4294967296 ∷ []
unfolding found next
session-s h = refl

pub to_the_end : (h : Head) →
    found 3 0 (marks (line h 0 6 ∷ line h 20 last_instant ∷ []) []) ≡ 7 ∷ 20 ∷ 4294967296 ∷ []
unfolding found next
to_the_end h = refl

pub a_rule-alone : (s : Side) (o : Operator) (p : OptionTerm) →
    found 3 0 (marks [] (rule s o p 100 200 ∷ [])) ≡ 100 ∷ 201 ∷ 4294967296 ∷ []
unfolding found next
a_rule-alone s o p = refl
