-- The piece is what was read into the buffer.
use Rattle.std.proofs.Common.{◌≡◌, sym, ap, ◌∙◌, ℕ, take}
use Rattle.channel.specs.declared.Got.{Got}
use Rattle.channel.specs.Trace.{arrived}
use Rattle.channel.proofs.TraceFacts.{fetched_then}
use Rattle.session.proofs.serve_some.Goals as goal

pub returns : goal.returns
returns g c =
    let p = c.serve_piece.ensures in
    let buf = c.fetch-c.new.buf in
    let h = c.fetch-c.ensures in
    let e : take c.last_read-n.result buf ≡ arrived c.serve_piece.result.channel.got buf =
    ap (λ (k : ℕ). take k buf) c.last_read-n.ensures.value
    ∙ ap (λ (z : Got). arrived z buf) (sym p.1.got) in (
      λ q k. rw (e, h.1.sent) at (p.0 q k),
      fetched_then h.0 p.1,
      p.2,
      p.3,
    )
