use Rattle.encoding.proofs.bodies.interval_at.Goals as goal

pub returns : goal.returns
returns c = λ k. record {
  start = c.le32.ensures k;
  end = c.le32-2.ensures k;
}
