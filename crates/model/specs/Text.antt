-- Reading one line and printing one reply (01, "Text session"). Texts are lists of bytes.
use Rattle.std.specs.Prelude.{ℕ, zero, suc, ◌+◌, ◌-◌, ◌*◌, ◌/◌, ◌%◌, Bool, true, false, not, ◌&&◌, List, [], ◌∷◌, ◌++◌, leb, ltb, eqb, length}
use Prim.Native.Char.{code}
use Prim.Native.String.{String, [] as no_text, ◌∷◌ as ◌then◌}
use Rattle.std.proofs.Math.Option.{Option, none, some}
use Rattle.foundation.specs.Tests.{pick}
use Rattle.foundation.specs.Lists.{allb}
use Rattle.foundation.specs.Bytes.{eq_list}
use Rattle.foundation.specs.declared.Interval.{Interval}
use Rattle.foundation.specs.Intervals.{interval}
use Rattle.model.specs.declared.OptionTerm.{OptionTerm}
use Rattle.model.specs.declared.OptionTerm.TheVariants.{With, Without, Either}
use Rattle.model.specs.declared.Term.{Term}
use Rattle.model.specs.declared.Term.TheVariants.{Any, Number}
use Rattle.model.specs.declared.SideTerms.{SideTerms}
use Rattle.model.specs.declared.RuleTerms.{RuleTerms}
use Rattle.model.specs.declared.Request.{Request}
use Rattle.model.specs.declared.Access.{Access}
use Rattle.model.specs.declared.Question.{Question}
use Rattle.model.specs.declared.Reply.{Reply}
use Rattle.model.specs.declared.Reply.TheVariants.{Done, Refused, Unsupported, Yes, No, Runs}
use Rattle.model.specs.Ranges.{between, last_instant}
use Rattle.model.specs.Requests.{NEW, GRANT, DENY, REVOKE, REVOKEP, REVOKEN, ADDRULE, DROPRULE}
use Rattle.model.specs.Requests.{GRANTADM}
use Rattle.model.specs.Requests.{REVOKEADM, GRANTREF, REVOKEREF}

-- the bytes of an ASCII text
abbrev pub ascii : String → List ℕ
ascii no_text = []
ascii (c then s) = code c ∷ ascii s

abbrev pub newline : ℕ
newline = 10

abbrev pub space : ℕ
space = 32

-- ---- lines and fields

-- one byte more in the first part
abbrev pub extend : ℕ → List (List ℕ) → List (List ℕ)
extend c [] = (c ∷ []) ∷ []
extend c (p ∷ ps) = (c ∷ p) ∷ ps

-- the parts of s between the bytes `at`: one more than there are such bytes
abbrev pub split : ℕ → List ℕ → List (List ℕ)
split at [] = [] ∷ []
split at (c ∷ s) = let ps = split at s in pick (eqb c at) ([] ∷ ps) (extend c ps)

-- without the last part if that is empty
abbrev pub without_empty_last : List (List ℕ) → List (List ℕ)
without_empty_last [] = []
without_empty_last ([] ∷ []) = []
without_empty_last ((c ∷ p) ∷ []) = (c ∷ p) ∷ []
without_empty_last (p ∷ q ∷ ps) = p ∷ without_empty_last (q ∷ ps)

-- 01: "Each line ends at a newline; a last one without it counts if it has a byte"
abbrev pub lines : List ℕ → List (List ℕ)
lines input = without_empty_last (split newline input)

-- ---- one field

abbrev pub is_digit : ℕ → Bool
is_digit c = between 48 57 c

-- the value of digits, the leading one first, behind those that make n
abbrev pub value_from : ℕ → List ℕ → ℕ
value_from n [] = n
value_from n (c ∷ s) = value_from (10 * n + (c - 48)) s

abbrev pub leading_zero : List ℕ → Bool
leading_zero [] = false
leading_zero (c ∷ []) = false
leading_zero (c ∷ d ∷ s) = eqb c 48

-- 01: "Numbers have 1 to 10 digits with no leading zero (zero itself is `0`)"; "A number above the last
-- instant ... cannot be read"
abbrev pub number : List ℕ → Option ℕ
number s =
    let n = value_from 0 s in
    pick (allb is_digit s && between 1 10 (length s) && not (leading_zero s) && leb n last_instant) (some n) none

-- 01: "`inf` is the last instant"
abbrev pub instant : List ℕ → Option ℕ
instant s = let n = number s in pick (eq_list s (ascii "inf")) (some last_instant) n

-- 01: "star is `*`"
abbrev pub is_star_text : List ℕ → Bool
is_star_text s = eq_list s (ascii "*")

abbrev pub as_number : Option ℕ → Option Term
as_number none = none
as_number (some n) = some (Number n)

abbrev pub term : List ℕ → Option Term
term s = let n = as_number (number s) in pick (is_star_text s) (some Any) n

-- the value that goes with the first of these words that s is
abbrev pub one_of : {A : Type 0} → List (List ℕ × A) → List ℕ → Option A
one_of [] s = none
one_of (w ∷ ws) s = let r = one_of ws s in pick (eq_list s w.0) (some w.1) r

-- 01: "option `y` or `n`; sign `+` or `-`"
abbrev pub option : List ℕ → Option Bool
option s = one_of ((ascii "y", true) ∷ (ascii "n", false) ∷ []) s

abbrev pub option_term : List ℕ → Option OptionTerm
option_term s = one_of ((ascii "y", With) ∷ (ascii "n", Without) ∷ (ascii "*", Either) ∷ []) s

-- true is a denial
abbrev pub sign : List ℕ → Option Bool
sign s = one_of ((ascii "+", false) ∷ (ascii "-", true) ∷ []) s

-- 01: "the operator is its word in capitals"
abbrev pub operator : List ℕ → Option ℕ
operator s = one_of (
    (ascii "WHENEVER", 1)
    ∷ (ascii "ASLONGAS", 2)
    ∷ (ascii "WHENEVERNOT", 3)
    ∷ (ascii "UNLESS", 4)
    ∷ []) s

-- ---- fields in a row

-- reads some of the fields: what they say and the fields left, or nothing
abbrev pub Reader : Type 0 → Type 0
Reader A = List (List ℕ) → Option (A × List (List ℕ))

-- one field
abbrev pub field : {A : Type 0} → (List ℕ → Option A) → Reader A
field {A} read [] = none
field {A} read (f ∷ rest) = elim (read f) [ none ↦ none | some a ↦ some (a, rest) ]

-- one after the other
abbrev ◌>>=◌ : {A B : Type 0} → Reader A → (A → Reader B) → Reader B
◌>>=◌ p next fields = elim (p fields) [ none ↦ none | some r ↦ next r.0 r.1 ]

-- what is read
abbrev pub read : {A : Type 0} → A → Reader A
read a fields = some (a, fields)

-- nothing can be read
abbrev pub fail : {A : Type 0} → Reader A
fail fields = none

-- no field is left
abbrev pub whole : {A : Type 0} → Option (A × List (List ℕ)) → Option A
whole none = none
whole (some (a, [])) = some a
whole (some (a, f ∷ rest)) = none

-- ---- one line

pub data Line : Type 0 where
  order : Request → Line
  asks_may : Question → Line
  asks_when : Access → Line
  unreadable : Line

-- what a request has of a rule where it names none
abbrev pub no_side : SideTerms
no_side = record { subject = Any; mode = Any; object = Any; negative = false }

abbrev pub no_rule : RuleTerms
no_rule = record { left = no_side; operator = 0; right = no_side; grantor = Any; option = Either }

-- a request of a kind by someone at some time; the fields that its kind does not name are 0
abbrev pub ordering : ℕ → ℕ → ℕ → (label mode object subject : ℕ) → Interval → Bool → RuleTerms → Line
ordering kind now who label mode object subject i option rule = order record {
  now = now;
  requester = who;
  kind = kind;
  label = label;
  mode = mode;
  object = object;
  subject = subject;
  interval = i;
  option = option;
  rule = rule;
}

-- NEW object
abbrev pub object_line : ℕ → ℕ → ℕ → Reader Line
object_line kind now who = do
  object ← field number
  read (ordering kind now who 0 0 object 0 (interval 0 0) false no_rule)

-- "REVOKE label", "DROPRULE label"
abbrev pub label_line : ℕ → ℕ → ℕ → Reader Line
label_line kind now who = do
  label ← field number
  read (ordering kind now who label 0 0 0 (interval 0 0) false no_rule)

-- GRANTADM, REVOKEADM, GRANTREF, REVOKEREF "(object, subject)"
abbrev pub privilege_line : ℕ → ℕ → ℕ → Reader Line
privilege_line kind now who = do
  object ← field number
  subject ← field number
  read (ordering kind now who 0 0 object subject (interval 0 0) false no_rule)

-- DENY, REVOKEP, REVOKEN: mode object subject start end
abbrev pub interval_line : ℕ → ℕ → ℕ → Reader Line
interval_line kind now who = do
  mode ← field number
  object ← field number
  subject ← field number
  start ← field instant
  end ← field instant
  read (ordering kind now who 0 mode object subject (interval start end) false no_rule)

-- "GRANT: mode object subject start end option"
abbrev pub grant_line : ℕ → ℕ → Reader Line
grant_line now who = do
  mode ← field number
  object ← field number
  subject ← field number
  start ← field instant
  end ← field instant
  y ← field option
  read (ordering GRANT now who 0 mode object subject (interval start end) y no_rule)

-- one side of a rule: "subject, mode, object, sign"; 02: the object "may now be starred ... as ... text `*`"
abbrev pub side : Reader SideTerms
side = do
  subject ← field term
  mode ← field term
  object ← field term
  negative ← field sign
  read (record { subject = subject; mode = mode; object = object; negative = negative })

-- "ADDRULE: left subject, mode, object, sign; operator; right subject, mode, object, sign, granter, option;
-- start end"
abbrev pub rule_line : ℕ → ℕ → Reader Line
rule_line now who = do
  left ← side
  op ← field operator
  right ← side
  grantor ← field term
  y ← field option_term
  start ← field instant
  end ← field instant
  read (ordering ADDRULE now who 0 0 0 0 (interval start end) false
      (record { left = left; operator = op; right = right; grantor = grantor; option = y }))

-- each word with the fields behind it
abbrev pub grammar : List (List ℕ × (ℕ → ℕ → Reader Line))
grammar =
    (ascii "NEW", object_line NEW)
    ∷ (ascii "GRANT", grant_line)
    ∷ (ascii "DENY", interval_line DENY)
    ∷ (ascii "REVOKE", label_line REVOKE)
    ∷ (ascii "REVOKEP", interval_line REVOKEP)
    ∷ (ascii "REVOKEN", interval_line REVOKEN)
    ∷ (ascii "ADDRULE", rule_line)
    ∷ (ascii "DROPRULE", label_line DROPRULE)
    ∷ (ascii "GRANTADM", privilege_line GRANTADM)
    ∷ (ascii "REVOKEADM", privilege_line REVOKEADM)
    ∷ (ascii "GRANTREF", privilege_line GRANTREF)
    ∷ (ascii "REVOKEREF", privilege_line REVOKEREF)
    ∷ []

-- "now, requester, word, fields"
abbrev pub request_line : Reader Line
request_line = do
  now ← field instant
  who ← field number
  fields_of ← field (one_of grammar)
  fields_of now who

-- "MAY (subject, mode, object, instant)"
abbrev pub may_line : Reader Line
may_line = do
  subject ← field number
  mode ← field number
  object ← field number
  t ← field instant
  read (asks_may (record { access = record { subject = subject; mode = mode; object = object }; instant = t }))

-- "WHEN (subject, mode, object)"
abbrev pub when_line : Reader Line
when_line = do
  subject ← field number
  mode ← field number
  object ← field number
  read (asks_when (record { subject = subject; mode = mode; object = object }))

-- "Questions start with their word"
abbrev pub any_line : List (List ℕ) → Option Line
any_line [] = none
any_line (f ∷ rest) =
    let as_may = whole (may_line rest) in
    let as_when = whole (when_line rest) in
    let as_request = whole (request_line (f ∷ rest)) in
    pick (eq_list f (ascii "MAY")) as_may (pick (eq_list f (ascii "WHEN")) as_when as_request)

abbrev pub or_unreadable : Option Line → Line
or_unreadable none = unreadable
or_unreadable (some l) = l

-- "at most 96 bytes before the newline (a longer line cannot be read), fields parted by one space"
unfoldable pub read_line : List ℕ → Line
read_line s = elim (leb (length s) 96) [ true ↦ or_unreadable (any_line (split space s)) | false ↦ unreadable ]

-- ---- printing

-- the decimal digits of n, at most k of them (`decimal-back` in TextFacts: ten are enough for every number
-- that is read)
abbrev pub digits : ℕ → ℕ → List ℕ
digits zero n = []
digits (suc k) n = let front = digits k (n / 10) in pick (ltb n 10) [] front ++ ((48 + n % 10) ∷ [])

unfoldable pub decimal : ℕ → List ℕ
decimal n = digits 10 n

-- "the last instant as `inf`"
abbrev pub print_instant : ℕ → List ℕ
print_instant t = let d = decimal t in pick (eqb t last_instant) (ascii "inf") d

-- "the runs as `a-b`"
abbrev pub print_run : Interval → List ℕ
print_run i = print_instant i.start ++ ascii "-" ++ print_instant i.end

-- "parted by a space"
abbrev pub print_more : List Interval → List ℕ
print_more [] = []
print_more (i ∷ rest) = ascii " " ++ print_run i ++ print_more rest

-- "or `none`"
abbrev pub print_runs : List Interval → List ℕ
print_runs [] = ascii "none"
print_runs (i ∷ rest) = print_run i ++ print_more rest

-- "`done L N` (new label or 0, lines now in the base), `refused K`, `yes`, `no`, or the runs", which stand in
-- the list
abbrev pub print_reply : Reply → List Interval → List ℕ
print_reply (Done label count) runs = ascii "done " ++ decimal label ++ ascii " " ++ decimal count
print_reply (Refused n) runs = ascii "refused " ++ decimal n
print_reply (Unsupported t) runs = ascii "refused 9"
print_reply Yes runs = ascii "yes"
print_reply No runs = ascii "no"
print_reply (Runs n) runs = print_runs runs
