use Rattle.encoding.proofs.terms.side_of.Goals as goal

pub returns : goal.returns
returns c =
    let t = c.args.t in
    λ k. record {
      subject = c.number_of.ensures k;
      mode = c.number_of-2.ensures k;
      object = c.number_of-3.ensures k;
      negative = t.negative;
    }
