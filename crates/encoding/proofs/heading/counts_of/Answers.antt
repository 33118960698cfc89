use Rattle.encoding.proofs.heading.counts_of.Goals as goal

pub returns : goal.returns
returns c = λ k. record {
  objects = c.le16.ensures k;
  administrators = c.le16-2.ensures k;
  referrers = c.le16-3.ensures k;
  authorizations = c.le16-4.ensures k;
  rules = c.le16-5.ensures k;
}
