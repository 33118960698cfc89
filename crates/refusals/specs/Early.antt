-- What the code answers of the rows of the table of refusals before 13. Row 13 is asked of the effect.
use Rattle.std.specs.Prelude.{◌≡◌, ◌≢◌, ℕ, Result, Ok, Err}
use Rattle.model.specs.declared.Row as model
use Rattle.model.specs.declared.Row.TheVariants as row
use Rattle.model.specs.declared.Request.{Request}
use Rattle.model.specs.declared.Reply.{Reply}
use Rattle.model.specs.declared.Reply.TheVariants.{Refused, Unsupported}
use Rattle.model.specs.Base.{Base}
use Rattle.model.specs.Means.{plainly}
use Rattle.model.specs.Step.{first_number, earliest_gap}
use Rattle.laws.specs.EarlyRows.{early_rows}
use Rattle.refusals.specs.declared.Refusal.{Refusal}
use Rattle.refusals.specs.declared.Refusal.TheVariants.{Row, Uncovered}

-- the number of a row
abbrev pub row_number : model.Row → ℕ
row_number row.Unreadable = 1
row_number row.NotSound = 2
row_number row.OutOfRange = 3
row_number row.BehindClock = 4
row_number row.BadInterval = 5
row_number row.NoObject = 6
row_number row.NoLabel = 7
row_number row.NotPermitted = 8
row_number row.Uncovered = 9
row_number row.AlreadyThere = 10
row_number row.NotHeld = 11
row_number row.NotStratified = 12
row_number row.Full = 13
row_number row.Barred = 14
row_number row.Circular = 15

-- the reply that says it
abbrev pub reply_of : Refusal → Reply
reply_of (Row r) = Refused (row_number r)
reply_of (Uncovered t) = Unsupported t

module _ (b : Base) (q : Request) where
  -- what an answer says where n is the number of the first row that applies
  abbrev pub says_of : ℕ → Result (Unit {0}) Refusal → Type 0
  says_of n (Ok _) = n ≡ 0
  says_of n (Err (Row r)) = (n ≡ row_number r) × (n ≢ 0) × (n ≢ 9)
  says_of n (Err (Uncovered t)) = (n ≡ 9) × (t ≡ earliest_gap plainly b q)

  abbrev pub early_is : Result (Unit {0}) Refusal → Type 0
  early_is = says_of (first_number (early_rows b q))
