-- Of the piece all before the place `at` is answered.
use Rattle.std.proofs.Common.{rules, arith, ◌≡◌, refl, sym, ◌∙◌, true, true≢false, length, drop, length-take-le, drop_of_length-le}
use Rattle.model.specs.EncodingFacts.{sound-length}
use Rattle.channel.proofs.TraceFacts.{unread_none, unread_then}
use Rattle.serving.proofs.PieceFacts.{kept_front}
use Rattle.session.proofs.InputFacts.{answers_none, answers-step}
use Rattle.session.proofs.serve_piece.Goals as goal

pub loop-at-init : goal.loop-at-init
loop-at-init g c = record {
  answers = λ q k. answers_none c.args.piece.now c.args.from.channel.sent k;
  unread = unread_none c.args.from.channel;
  sound = c.requires.0;
  few = c.requires.2;
  size = c.requires.3;
  room = refl;
  within = omega arith;
}

pub serve_lines-r-requires : goal.serve_lines-r-requires
serve_lines-r-requires g c =
    let i = c.loop-at.invariant in
    (i.sound, omega (arith, i.room, c.requires.1), i.within, i.few, i.size)

pub slice_bounds-put-end : goal.slice_bounds-put-end
slice_bounds-put-end g c =
    let i = c.loop-at.invariant in
    let k = c.serve_lines-r.ensures.0 _ (kept_front i.few i.size) in
    omega (arith, k.few)

pub slice_bounds-put-end-in-loop-at : goal.slice_bounds-put-end-in-loop-at
slice_bounds-put-end-in-loop-at g c =
    let i = c.loop-at.invariant in
    let k = c.serve_lines-r.ensures.0 _ (kept_front i.few i.size) in
    sym (length-take-le c.serve_lines-r.result.n c.serve_lines-r.new.out k.few)

pub returns-then-not-writes_work : goal.returns-then-not-writes_work
returns-then-not-writes_work g c =
    let i = c.loop-at.invariant in
    let e = c.serve_lines-r.ensures in
    let failed = c.if-not-writes_work.true in (
      λ q h. let a = i.answers q h in record {
        rest = drop c.serve_lines-r.result.at c.args.piece.now;
        answers = answers-step a (e.0 a.left a.kept) c.put-c.ensures.sent;
        all = λ z. absurd (true≢false (sym z ∙ sym c.writes_work.ensures ∙ failed));
      },
      unread_then i.unread c.put-c.ensures.unread,
      e.1,
      (e.0 _ (kept_front i.few i.size)).sound,
    )

pub loop-at-smaller : goal.loop-at-smaller
loop-at-smaller g c =
    let i = c.loop-at.invariant in
    let k = c.serve_lines-r.ensures.0 _ (kept_front i.few i.size) in
    let h = c.loop-at-test.true in
    omega (arith, h, k.further h, k.within)

pub loop-at-preserved : goal.loop-at-preserved
loop-at-preserved g c =
    let i = c.loop-at.invariant in
    let e = c.serve_lines-r.ensures in
    let k = e.0 _ (kept_front i.few i.size) in
    record {
      answers = λ q h. let a = i.answers q h in
          answers-step a (e.0 a.left a.kept) c.put-c.ensures.sent;
      unread = unread_then i.unread c.put-c.ensures.unread;
      sound = k.sound;
      few = e.1;
      size = e.2;
      room = e.3 ∙ i.room;
      within = k.within;
    }

pub returns : goal.returns
returns g c =
    let i = c.loop-at.invariant in
    let piece = c.args.piece.now in (
      λ q h. record {
        rest = drop c.loop-at.at piece;
        answers = i.answers q h;
        all = λ z. drop_of_length-le piece c.loop-at-test.false;
      },
      i.unread,
      i.few,
      i.sound,
    )

-- the length of the base
pub shape_of-s-then-not-writes_work : goal.shape_of-s-then-not-writes_work
shape_of-s-then-not-writes_work g c =
    let i = c.loop-at.invariant in
    let k = c.serve_lines-r.ensures.0 _ (kept_front i.few i.size) in
    sound-length _ k.sound ∙ sym (sound-length c.args.s.now c.requires.0)

pub shape_of-out-then-not-writes_work : goal.shape_of-out-then-not-writes_work
shape_of-out-then-not-writes_work g c = c.serve_lines-r.ensures.3 ∙ c.loop-at.invariant.room

pub shape_of-s : goal.shape_of-s
shape_of-s g c = sound-length _ c.loop-at.invariant.sound ∙ sym (sound-length c.args.s.now c.requires.0)

pub shape_of-out : goal.shape_of-out
shape_of-out g c = c.loop-at.invariant.room
