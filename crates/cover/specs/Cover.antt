-- Which authorizations may stand directly before one in a chain, and what they cover, as the code asks it: by
-- the few fields that are wanted.
use Rattle.std.specs.Prelude.{ℕ, Bool, false, not, ◌&&◌, List}
use Rattle.foundation.specs.Lists.{anyb}
use Rattle.foundation.specs.Intervals.{in_interval}
use Rattle.model.specs.declared.Head.{Head}
use Rattle.model.specs.declared.Authorization.{Authorization}
use Rattle.model.specs.Support.{supports}
use Rattle.cover.specs.declared.Want.{Want}
use Rattle.cover.specs.First.{first}

-- what is wanted of one that is to stand directly before h
abbrev pub want_of : Head → Want
want_of h = record {
  object = h.object;
  mode = h.mode;
  grantor = h.grantor;
  option = h.option;
  before = h.granted;
}

-- a head of which that is wanted; the rest of it, which `supports` does not ask, is left blank
abbrev pub head_for : Want → Head
head_for w = record {
  label = 0;
  grantor = w.grantor;
  subject = 0;
  object = w.object;
  mode = w.mode;
  negative = false;
  option = w.option;
  granted = w.before;
}

-- k is what is wanted
unfoldable pub wanted : Want → Head → Bool
wanted w k = supports k (head_for w)

-- an authorization is wanted and covers t
abbrev pub covers : Want → ℕ → Authorization → Bool
covers w t a = in_interval a.interval t && wanted w a.head

-- one of them does
abbrev pub covered_by : Want → List Authorization → ℕ → Bool
covered_by w xs t = anyb (covers w t) xs

abbrev pub uncovered : Want → List Authorization → ℕ → Bool
uncovered w xs t = not (covered_by w xs t)

-- the first instant from a on, below b, that nothing wanted covers; b if there is none
abbrev pub gap_in : Want → List Authorization → ℕ → ℕ → ℕ
gap_in w xs a b = first (uncovered w xs) a b
