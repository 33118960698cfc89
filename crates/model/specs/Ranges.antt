-- Ranges (01, "Ranges").
use Rattle.std.specs.Prelude.{ℕ, Bool, ◌&&◌, leb}

-- 01: "Instant 0 to 4,294,967,295 ... the last instant stands for the report's infinity"
abbrev pub last_instant : ℕ
last_instant = 4294967295

abbrev pub between : ℕ → ℕ → ℕ → Bool
between lowest highest n = leb lowest n && leb n highest

abbrev pub is_instant : ℕ → Bool
is_instant n = leb n last_instant

-- 01: "Subject 1 to 1,023"
abbrev pub is_subject : ℕ → Bool
is_subject n = between 1 1023 n

-- 01: "Object (a meter) 1 to 128"
abbrev pub is_object : ℕ → Bool
is_object n = between 1 128 n

-- 01: "Mode 1 to 8"
abbrev pub is_mode : ℕ → Bool
is_mode n = between 1 8 n

-- 01: "Label 1 to 65,535"
abbrev pub last_label : ℕ
last_label = 65535

abbrev pub is_label : ℕ → Bool
is_label n = between 1 last_label n

-- 01: "At most 1,024 lines, 64 rules, 128 administrators, 128 referrers", and no more objects than there are
-- numbers
abbrev pub most_objects : ℕ
most_objects = 128

abbrev pub most_administrators : ℕ
most_administrators = 128

abbrev pub most_referrers : ℕ
most_referrers = 128

abbrev pub most_authorizations : ℕ
most_authorizations = 1024

abbrev pub most_rules : ℕ
most_rules = 64
