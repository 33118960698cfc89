-- What `create` leaves is an empty base, and at the start no line is kept.
use Rattle.std.proofs.Common.{arith, ◌∙◌, ℕ, [], replicate}
use Rattle.std.proofs.lemmas.List.{length-replicate}
use Rattle.laws.specs.Created.{created, created_sound}
use Rattle.serving.proofs.PieceFacts.{kept_none}
use Rattle.session.proofs.InputFacts.{served_run}
use Rattle.session.proofs.run.Goals as goal

pub serve_input-requires : goal.serve_input-requires
serve_input-requires g c =
    let room = length-replicate {A = ℕ} 32768 0 in (
      created_sound c.args.s.now _ c.requires c.create.ensures.1,
      omega (arith, room),
      omega arith,
      length-replicate {A = ℕ} 97 0,
    )

pub returns : goal.returns
returns g c =
    let e = c.serve_input.ensures in (
      e.0,
      served_run (c.create.ensures.1 ∙ created c.args.s.now c.requires)
          (e.1 [] (kept_none (replicate 97 0) (length-replicate {A = ℕ} 97 0))),
    )
