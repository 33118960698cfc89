use Rattle.std.proofs.Common.{◌≡◌, ◌≤◌, drop}
use Rattle.model.specs.Ranges.{last_instant}
use Rattle.reading.proofs.DigitValues.{number_from}
use Rattle.reading.proofs.words.read_number.Given as goal

abbrev pub invariant-loop-c : goal.invariant-loop-c
invariant-loop-c l = record {
  fits : l.n ≤ last_instant;
  number : number_from 0 l.s ≡ number_from l.n (drop l.c-index l.s);
}
