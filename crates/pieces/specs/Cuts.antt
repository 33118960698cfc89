-- What a withdrawal takes out (01, "Requests"), and that as one stretch of instants, as the code asks it.
use Rattle.std.specs.Prelude.{◌≡◌, ℕ, ◌+◌, ◌≤◌, Bool, false, not, ◌&&◌, eqb}
use Rattle.foundation.specs.Tests.{pick}
use Rattle.foundation.specs.Intervals.{in_interval}
use Rattle.model.specs.declared.Head.{Head}
use Rattle.model.specs.declared.Request.{Request}
use Rattle.model.specs.Requests.{takes}
use Rattle.pieces.specs.declared.cut.Cut.{Cut}
use Rattle.pieces.specs.declared.cut.Cut.TheVariants.{Label, Grantor, Name}
use Rattle.pieces.specs.declared.cut.Named.{Named}
use Rattle.pieces.specs.declared.cut.Stretch.{Stretch}

-- the authorization has the grantor, subject, object, mode and sign
abbrev pub cut_names : Named → Head → Bool
cut_names n h =
    eqb h.grantor n.grantor
    && eqb h.subject n.subject
    && eqb h.object n.object
    && eqb h.mode n.mode
    && pick n.negative h.negative (not h.negative)

-- The instants that a cut takes out of an authorization: every one by label (REVOKE) and by object and
-- grantor
-- (REVOKEADM), else those of the interval (REVOKEP, REVOKEN)
abbrev pub cut_takes : Cut → Head → ℕ → Bool
cut_takes (Label label) h t = eqb h.label label
cut_takes (Grantor object grantor) h t = eqb h.object object && eqb h.grantor grantor
cut_takes (Name n) h t = cut_names n h && in_interval n.interval t

-- the rest
abbrev pub spared : Cut → Head → ℕ → Bool
spared c h t = not (cut_takes c h t)

-- the cut takes what the request takes
abbrev pub CutOf : Request → Cut → Type 0
CutOf q c = (h : Head) (t : ℕ) → cut_takes c h t ≡ takes q h t

-- where the interval matters, it is not empty
abbrev pub CutOrdered : Cut → Type 0
CutOrdered (Label label) = Unit {0}
CutOrdered (Grantor object grantor) = Unit {0}
CutOrdered (Name n) = n.interval.start ≤ n.interval.end

-- ---- as a stretch

-- one more than the last instant
abbrev pub behind_all : ℕ
behind_all = 4294967296

abbrev pub stretch : ℕ → ℕ → Stretch
stretch a b = record { from = a; to = b }

-- every instant, or none
abbrev pub all_if : Bool → Stretch
all_if b = stretch (pick b 0 behind_all) behind_all

abbrev pub named_of : Named → Head → Stretch
named_of n h = pick (cut_names n h) (stretch n.interval.start (n.interval.end + 1)) (all_if false)

abbrev pub taken_of : Cut → Head → Stretch
taken_of (Label label) h = all_if (eqb h.label label)
taken_of (Grantor object grantor) h = all_if (eqb h.object object && eqb h.grantor grantor)
taken_of (Name n) h = named_of n h
