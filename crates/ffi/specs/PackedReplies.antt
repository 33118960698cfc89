-- Requests and replies as C passes them: numbers and truth values alone. A star has a truth value of its own
-- beside its number, so that no number is a star; a reply is one number of 64 bits, in three parts that C
-- takes out by shifts: `refusal-back`, `label-back` and `number-back` say that it gets what the reply holds.
use Rattle.std.specs.Prelude.{Result, Ok, Err, ◌≡◌, refl, Bool, List, ℕ, ◌+◌, ◌*◌, ◌/◌, ◌%◌, ◌<◌}
use Rattle.std.proofs.Common.{arith}
use Rattle.foundation.specs.Tests.{pick}
use Rattle.model.specs.declared.Reply.{Reply}
use Rattle.model.specs.declared.Reply.TheVariants.{Done, Refused, Unsupported, Yes, No, Runs}
use Rattle.model.specs.declared.Term.{Term}
use Rattle.model.specs.declared.Term.TheVariants.{Any, Number}
use Rattle.model.specs.declared.OptionTerm.{OptionTerm}
use Rattle.model.specs.declared.OptionTerm.TheVariants.{With, Without, Either}
use Rattle.model.specs.declared.SideTerms.{SideTerms}
use Rattle.model.specs.declared.Request.{Request}
use Rattle.model.specs.declared.Access.{Access}
use Rattle.model.specs.Answers.{request, refusal_number, label_of}
use Rattle.model.specs.Counting.{counted_refusal, counted_number}
use Rattle.model.specs.Session.{WrittenText}

-- ---- requests and questions

-- a star, or else the number
abbrev pub term_of : Bool → ℕ → Term
term_of any n = pick any Any (Number n)

-- a starred option, or else whether the right side must have the grant option
abbrev pub option_from : Bool → Bool → OptionTerm
option_from any with = pick any Either (pick with With Without)

abbrev pub side_from : Bool → ℕ → Bool → ℕ → Bool → ℕ → Bool → SideTerms
side_from any_subject subject any_mode mode any_object object negative = record {
  subject = term_of any_subject subject;
  mode = term_of any_mode mode;
  object = term_of any_object object;
  negative = negative;
}

abbrev pub access : ℕ → ℕ → ℕ → Access
access subject mode object = record { subject = subject; mode = mode; object = object }

-- ---- replies

-- the refusal's number or 0 in bits 0 to 15; the new label or 0 in bits 16 to 31; from bit 32 on the
-- authorizations in the base, the uncovered instant that goes with 9, 1 for yes, or the runs
abbrev pub packed : Reply → ℕ
packed (Done label count) = count * 4294967296 + label % 65536 * 65536
packed (Refused n) = n % 65536
packed (Unsupported t) = t * 4294967296 + 9
packed Yes = 4294967296
packed No = 0
packed (Runs n) = n * 4294967296

-- a count: the refusal in bits 0 to 15, how many from bit 32 on
abbrev pub packed_count : Result ℕ ℕ → ℕ
packed_count (Ok n) = n % 4294967296 * 4294967296
packed_count (Err k) = k % 65536

-- a line of text: the refusal in bits 0 to 15, the bytes written from bit 32 on
abbrev pub packed_text : WrittenText → ℕ
packed_text w = w.count * 4294967296 + w.refusal

-- the authorizations in the base, the uncovered instant, 1 for yes, the runs, or 0
abbrev pub reply_number : Reply → ℕ
reply_number (Done label count) = count
reply_number (Refused n) = 0
reply_number (Unsupported t) = t
reply_number Yes = 1
reply_number No = 0
reply_number (Runs n) = n

-- ---- what a caller takes out of a packed reply

pub refusal-back : (r : Reply) → refusal_number r < 65536 → packed r % 65536 ≡ refusal_number r
refusal-back (Done label count) h = omega arith
refusal-back (Refused n) h = omega arith
refusal-back (Unsupported t) h = omega arith
refusal-back Yes h = refl
refusal-back No h = refl
refusal-back (Runs n) h = omega arith

pub label-back : (r : Reply) → label_of r < 65536 → packed r / 65536 % 65536 ≡ label_of r
label-back (Done label count) h = omega arith
label-back (Refused n) h = omega arith
label-back (Unsupported t) h = omega arith
label-back Yes h = refl
label-back No h = refl
label-back (Runs n) h = omega arith

pub number-back : (r : Reply) → packed r / 4294967296 ≡ reply_number r
number-back (Done label count) = omega arith
number-back (Refused n) = omega arith
number-back (Unsupported t) = omega arith
number-back Yes = refl
number-back No = refl
number-back (Runs n) = omega arith

pub counted_refusal-back : (r : Result ℕ ℕ) → counted_refusal r < 65536 → packed_count r % 65536 ≡ counted_refusal r
counted_refusal-back (Ok n) h = omega arith
counted_refusal-back (Err k) h = omega arith

pub counted_number-back : (r : Result ℕ ℕ) → counted_number r < 4294967296 →
    packed_count r / 4294967296 ≡ counted_number r
counted_number-back (Ok n) h = omega arith
counted_number-back (Err k) h = omega arith

-- ---- what the contract of the exported request says: the reply as a number, and the bytes

abbrev pub AnsweredBy : List ℕ → Request → ℕ → List ℕ → Type 0
AnsweredBy s q n s' = (n ≡ packed (request s q).reply) × (s' ≡ (request s q).lent)
