-- What printing at a place of a buffer does, and which replies fit it (01, "Text session").
use Rattle.std.specs.Prelude.{◌≡◌, ℕ, ◌+◌, ◌*◌, ◌≤◌, ◌<◌, List, length}
use Rattle.fields.specs.Field.{splice}
use Rattle.model.specs.declared.Reply.{Reply}
use Rattle.model.specs.declared.Reply.TheVariants.{Done, Refused, Unsupported, Yes, No, Runs}
use Rattle.model.specs.Ranges.{most_authorizations}

-- the text stands at `at` and ends at n, and every other byte is as it was
pub record Printed (at : ℕ) (text before after : List ℕ) (n : ℕ) : Type 0 where
  pub ends : n ≡ at + length text
  pub bytes : after ≡ splice at text before

-- the longest run is two numbers of 10 digits, with one byte between them and one before them
abbrev pub longest_run : ℕ
longest_run = 22

-- the most runs that are printed
abbrev pub most_runs : ℕ
most_runs = 1089

-- no reply is longer: the most runs are 23,958 bytes (`reply-most` in Lengths)
abbrev pub longest_reply : ℕ
longest_reply = 24000

-- the runs of a reply are in the list
abbrev pub RunsIn : Reply → List ℕ → Type 0
RunsIn (Done label count) list = Unit {0}
RunsIn (Refused n) list = Unit {0}
RunsIn (Unsupported t) list = Unit {0}
RunsIn Yes list = Unit {0}
RunsIn No list = Unit {0}
RunsIn (Runs n) list = 2 * n ≤ length list

-- the runs of a reply are in the list, and are few enough to be printed
abbrev pub RunsFit : Reply → List ℕ → Type 0
RunsFit (Done label count) list = Unit {0}
RunsFit (Refused n) list = Unit {0}
RunsFit (Unsupported t) list = Unit {0}
RunsFit Yes list = Unit {0}
RunsFit No list = Unit {0}
RunsFit (Runs n) list = (2 * n ≤ length list) × (n ≤ most_runs)

-- ---- short replies

-- no longer than `done 65535 1024`, and without runs
abbrev pub Short : Reply → Type 0
Short (Done label count) = (label < 65536) × (count ≤ most_authorizations)
Short (Refused n) = n < 100
Short (Unsupported t) = Unit {0}
Short Yes = Unit {0}
Short No = Unit {0}
Short (Runs n) = ⊥
