use Rattle.relevance.specs.Needed.{is_chosen_by}
use Rattle.relevance.proofs.KeptNumbers.{Chose}
use Rattle.relevance.proofs.choice.choose_in.Given as goal

abbrev pub invariant-loop-i : goal.invariant-loop-i
invariant-loop-i g l =
    Chose (is_chosen_by l.coordinates l.asked l.x l.stride l.need) l.lines l.total l.initial.which l.which l.n l.i
