-- All that was read is answered, where every write worked.
use Rattle.std.proofs.Common.{arith, refl, sym, ◌∙◌, true, true≢false, [], ◌++◌}
use Rattle.model.specs.EncodingFacts.{sound-length}
use Rattle.channel.specs.Trace.{arrived}
use Rattle.channel.proofs.TraceFacts.{read_none, read_more}
use Rattle.serving.proofs.PieceFacts.{kept_front}
use Rattle.session.proofs.InputFacts.{answered_none, answered_then, served_ended, served_cut}
use Rattle.session.proofs.serve_input.Goals as goal

pub loop-input-init : goal.loop-input-init
loop-input-init g c =
    let o = c.open.ensures in
    record {
      input = [];
      read = read_none o;
      answered = λ q k. answered_none k o.sent;
      sound = c.requires.0;
      few = c.requires.2;
      size = c.requires.3;
      room = refl;
      same = refl;
    }

pub serve_some-g-requires : goal.serve_some-g-requires
serve_some-g-requires g c =
    let i = c.loop-input.invariant in (
      (i.sound, omega (arith, i.room, c.requires.1), i.few, i.size),
      (c.goes_on.ensures.0 c.loop-input-test.true).1,
    )

pub loop-input-smaller : goal.loop-input-smaller
loop-input-smaller g c =
    omega (arith, c.serve_some-g.ensures.1.reads, (c.goes_on.ensures.0 c.loop-input-test.true).1)

pub loop-input-preserved : goal.loop-input-preserved
loop-input-preserved g c =
    let i = c.loop-input.invariant in
    let e = c.serve_some-g.ensures in
    let ok = (c.goes_on.ensures.0 c.loop-input-test.true).0 in
    record {
      input = i.input ++ arrived c.serve_some-g.result.channel.got c.serve_some-g.new.buf;
      read = read_more i.read e.1;
      answered = λ q h. let a = i.answered q h in
          answered_then a ok (e.0 a.answers.left a.answers.kept);
      sound = e.3;
      few = e.2;
      size = (e.0 _ (kept_front i.few i.size)).answers.kept.size;
      room = c.serve_some-g.auto.out ∙ i.room;
      same = c.serve_some-g.auto.buf ∙ i.same;
    }

pub serve_last-requires : goal.serve_last-requires
serve_last-requires g c =
    let i = c.loop-input.invariant in
    (i.sound, omega (arith, i.room, c.requires.1), i.few, i.size)

pub returns-then-has_ended : goal.returns-then-has_ended
returns-then-has_ended g c =
    let i = c.loop-input.invariant in
    let e = c.serve_last.ensures in
    let over = c.has_ended.ensures.0 c.if-has_ended.true in (
      i.input,
      λ q h. let a = i.answered q h in
          let last = e.0 a.answers.left a.answers.kept in
          served_ended i.read a over.0 over.1 last.0 last.1 e.1,
    )

pub returns : goal.returns
returns g c =
    let i = c.loop-input.invariant in
    let ended = c.has_ended.ensures.1 in (
      i.input,
      λ q h. served_cut i.read (i.answered q h)
          (λ ok zero. true≢false (sym (ended ok zero) ∙ c.if-has_ended.false))
          (c.goes_on.ensures.1 c.loop-input-test.false)
          i.sound,
    )

-- the lengths of the buffers
pub shape_of-s-then-has_ended : goal.shape_of-s-then-has_ended
shape_of-s-then-has_ended g c =
    sound-length _ c.serve_last.ensures.1 ∙ sym (sound-length c.args.s.now c.requires.0)

pub shape_of-buf-then-has_ended : goal.shape_of-buf-then-has_ended
shape_of-buf-then-has_ended g c = c.loop-input.invariant.same

pub shape_of-out-then-has_ended : goal.shape_of-out-then-has_ended
shape_of-out-then-has_ended g c = c.serve_last.auto.out ∙ c.loop-input.invariant.room

pub shape_of-s : goal.shape_of-s
shape_of-s g c = sound-length _ c.loop-input.invariant.sound ∙ sym (sound-length c.args.s.now c.requires.0)

pub shape_of-buf : goal.shape_of-buf
shape_of-buf g c = c.loop-input.invariant.same

pub shape_of-out : goal.shape_of-out
shape_of-out g c = c.loop-input.invariant.room
