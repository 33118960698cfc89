-- What a line says, in the model's words, and the kinds of requests by number.
use Rattle.std.specs.Prelude.{ℕ, [], ◌∷◌, ◌||◌, eqb, Option, Some, None}
use Rattle.std.proofs.Math.Option.{none}
use Rattle.foundation.specs.Tests.{pick}
use Rattle.foundation.specs.Bytes.{eq_list}
use Rattle.model.specs.Requests.{NEW, GRANT, DENY, REVOKE, REVOKEP, REVOKEN, ADDRULE, DROPRULE}
use Rattle.model.specs.Text.{Line, order, asks_may, asks_when, unreadable, Reader, ascii}
use Rattle.model.specs.Text.{object_line, label_line, privilege_line, interval_line, grant_line, rule_line}
use Rattle.model.specs.Text.{request_line, may_line, when_line}
use Rattle.reading.specs.declared.Asked.{Asked}
use Rattle.reading.specs.declared.Asked.TheVariants.{Order, May, When}

abbrev pub asked_of : Asked → Line
asked_of (Order q) = order q
asked_of (May q) = asks_may q
asked_of (When x) = asks_when x

abbrev pub line_of : Option Asked → Line
line_of None = unreadable
line_of (Some a) = asked_of a

-- the fields behind the word of a kind; the kinds that are not named here have an object and a subject
abbrev pub reader_for : ℕ → ℕ → ℕ → Reader Line
reader_for kind now who =
    pick (eqb kind NEW) (object_line kind now who)
    (pick (eqb kind GRANT) (grant_line now who)
    (pick (eqb kind ADDRULE) (rule_line now who)
    (pick (eqb kind REVOKE || eqb kind DROPRULE) (label_line kind now who)
    (pick (eqb kind DENY || eqb kind REVOKEP || eqb kind REVOKEN) (interval_line kind now who)
    (privilege_line kind now who)))))

-- the fields of a line, of which some may be left over
abbrev pub asked_line : Reader Line
asked_line [] = none
asked_line (f ∷ rest) =
    let as_may = may_line rest in
    let as_when = when_line rest in
    let as_request = request_line (f ∷ rest) in
    pick (eq_list f (ascii "MAY")) as_may (pick (eq_list f (ascii "WHEN")) as_when as_request)
