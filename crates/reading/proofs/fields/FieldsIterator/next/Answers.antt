use Rattle.std.proofs.Common.{arith, ap, sym, ◌∙◌}
use Rattle.std.specs.Prelude.{length}
use Rattle.reading.proofs.FirstField.{split_some}
use Rattle.reading.proofs.fields.FieldsIterator.next.Goals as goal

-- one field less is left
pub returns-clause-goes : goal.returns-clause-goes
returns-clause-goes c =
    let e = split_some c.in_ok-line.line.now c.in-Some.at (sym c.in-Some.is ∙ c.first_space.ensures) in
    record {
      on = λ h. (tt, tt, rw c.in_ok-line.was (omega (arith, ap length e)));
      keeps = tt;
      rests = λ h. tt;
    }
