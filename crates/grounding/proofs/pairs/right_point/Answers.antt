use Rattle.grounding.proofs.pairs.right_point.Goals as goal

pub returns : goal.returns
returns c = λ i. record {
  subject = c.turn.ensures i;
  mode = c.turn-2.ensures i;
  object = c.turn-3.ensures i;
}
