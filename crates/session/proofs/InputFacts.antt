-- Parts of the input answered one behind the other, up to its end or to where the program stopped, and what
-- that says of the whole run (`served-run`).
use Rattle.std.proofs.Common.{List, [], ap, append-nil, drop, inl, refl, subst, sym, take, true, ℕ, ◌++◌, ◌∙◌, ◌≡◌}
use Rattle.model.specs.Soundness.{sound_bytes}
use Rattle.model.specs.Base.{empty_base}
use Rattle.model.specs.Encoding.{encode}
use Rattle.model.specs.Session.{session, bytes_after}
use Rattle.theorems.specs.Demand3.{Demand3}
use Rattle.theorems.specs.Orders.{orders, demand3_text}
use Rattle.channel.specs.declared.Channel.{Channel}
use Rattle.channel.specs.declared.Got.TheVariants.{End}
use Rattle.channel.specs.Digests.{digest}
use Rattle.channel.proofs.DigestFacts.{digest-twice, digest_none}
use Rattle.channel.specs.Trace.{Handed, Read, Stopped}
use Rattle.channel.proofs.TraceFacts.{read_same}
use Rattle.serving.specs.declared.steps.Stepped.{Stepped}
use Rattle.serving.specs.LineTurns.{LineKept}
use Rattle.serving.specs.Stream.{FeedResult, feed, finish, finish_bytes, ending, feeds-then, stream_session}
use Rattle.serving.specs.Stream.{stream_base}
use Rattle.serving.proofs.StreamFacts.{feeds_none, feeds_all, feeds_more, feeds_front}
use Rattle.serving.specs.PieceSteps.{PieceStepped}
use Rattle.session.specs.declared.InputState.{InputState}
use Rattle.session.specs.Input.{AnsweredUpTo, FrontAnswered, ProgramDone, Ran}

module _ {s pending : List ℕ} where
  pub answers_none : {line : List ℕ} {len : ℕ} (input : List ℕ) (sent : ℕ) → LineKept pending len line →
      AnsweredUpTo s pending input input sent len sent s line
  answers_none input sent k = record {
    text = [];
    left = pending;
    feeds = feeds_none s pending input;
    kept = k;
    handed = sym (digest_none sent);
  }

  -- one part of the input behind the other
  pub answers-then : {input middle rest s' line' s'' line'' : List ℕ} {sent len' sent' len'' sent'' : ℕ} →
      (a : AnsweredUpTo s pending input middle sent len' sent' s' line') →
      AnsweredUpTo s' a.left middle rest sent' len'' sent'' s'' line'' →
      AnsweredUpTo s pending input rest sent len'' sent'' s'' line''
  answers-then {sent = sent} a b = record {
    text = a.text ++ b.text;
    left = b.left;
    feeds = feeds-then a.feeds b.feeds;
    kept = b.kept;
    handed = b.handed ∙ ap (λ (n : ℕ). digest n b.text) a.handed
        ∙ digest-twice sent a.text b.text;
  }

  -- a step from the place `at` of a piece on
  pub answers-step : {piece s' line' s'' line'' out : List ℕ} {at sent len' sent' sent'' : ℕ} {r : Stepped} →
      (a : AnsweredUpTo s pending piece (drop at piece) sent len' sent' s' line') →
      PieceStepped s' a.left piece at r s'' line'' out → sent'' ≡ digest sent' (take r.n out) →
      AnsweredUpTo s pending piece (drop r.at piece) sent r.len sent'' s'' line''
  answers-step {out = out} {r = r} a k e =
      answers-then a (
      record { text = take r.n out; left = k.left; feeds = k.feeds; kept = k.kept; handed = e }
      )

  -- no input yet
  pub answered_none : {line : List ℕ} {g : InputState} → LineKept pending g.len line → g.channel.sent
      ≡ 0 →
      FrontAnswered s pending [] 0 g s line
  answered_none {line} {g} k e = record {
    rest = [];
    answers = subst (λ (n : ℕ). AnsweredUpTo s pending [] [] 0 g.len n s line) (sym e)
        (answers_none [] 0 k);
    all = λ z. refl;
  }

  -- all the input so far, and more of it
  pub answered_then : {input more s' line' s'' line'' : List ℕ} {sent : ℕ} {g r : InputState} →
      (a : FrontAnswered s pending input sent g s' line') → g.channel.ok ≡ true →
      FrontAnswered s' a.answers.left more g.channel.sent r s'' line'' →
      FrontAnswered s pending (input ++ more) sent r s'' line''
  answered_then {more = more} a e b =
      let f = a.answers in
      record {
        rest = b.rest;
        answers = answers-then (
            record {
              text = f.text;
              left = f.left;
              feeds = feeds_more f.feeds more (a.all e);
              kept = f.kept;
              handed = f.handed;
            }
            ) b.answers;
        all = b.all;
      }

  module _ {input s' line' : List ℕ} {g : InputState} (w : Read input g.channel)
      (a : FrontAnswered s pending input 0 g s' line') where
    -- the end of the input was answered
    pub served_ended : {r : Channel} {s'' : List ℕ} → g.channel.ok ≡ true → g.channel.got ≡ End →
        s'' ≡ finish_bytes s' a.answers.left → Handed g.channel (finish s' a.answers.left) r →
        sound_bytes s'' ≡ true → ProgramDone s pending input r s''
    served_ended {r} ok over bytes handed sound =
        let f = a.answers in
        let t = finish s' f.left in
        let e = feeds_all f.feeds (a.all ok) in
        let n : r.sent ≡ digest 0 (f.text ++ t) =
        handed.sent ∙ ap (λ (n : ℕ). digest n t) f.handed ∙ digest-twice 0 f.text t in
        record {
          read = read_same w handed.unread;
          stopped = λ p. inl (inl (handed.unread.got ∙ over));
          ended = λ p q. (
            bytes ∙ ap (λ (x : FeedResult). finish_bytes x.lent x.pending) (sym e),
            n ∙ ap (λ (x : FeedResult). digest 0 (ending x)) (sym e),
          );
          cut = λ p q. absurd (q (handed.unread.got ∙ over));
          text = f.text ++ t;
          rest = [];
          front = ap ending e ∙ sym (append-nil (f.text ++ t));
          handed = n;
          sound = sound;
        }

    -- the input did not end
    pub served_cut : (g.channel.ok ≡ true → g.channel.got ≡ End → ⊥) → Stopped g.channel →
        sound_bytes s' ≡ true → ProgramDone s pending input g.channel s'
    served_cut none stop sound =
        let f = a.answers in
        record {
          read = w;
          stopped = stop;
          ended = λ p q. absurd (none p q);
          cut = λ p q. let e = feeds_all f.feeds (a.all p) in (
            ap (λ (x : FeedResult). x.lent) (sym e),
            f.handed ∙ ap (λ (x : FeedResult). digest 0 x.text) (sym e),
          );
          text = f.text;
          rest = ending (feed s' f.left a.rest);
          front = feeds_front f.feeds;
          handed = f.handed;
          sound = sound;
        }

-- from an empty base and no line on
pub served_run : {s input s' : List ℕ} {r : Channel} → s ≡ encode empty_base → ProgramDone s [] input r s' →
    Ran input r s'
served_run {s} {input} {s'} {r} z w =
    let e : ending (feed s [] input) ≡ session input = rw z (stream_session input) in
    let b : finish_bytes (feed s [] input).lent (feed s [] input).pending ≡ bytes_after input =
    rw z (stream_base input) in
    record {
      read = w.read;
      stopped = w.stopped;
      ended = λ p q. (w.ended p q).1 ∙ ap (digest 0) e;
      promise = λ p q. subst (Demand3 (orders input)) (sym ((w.ended p q).0 ∙ b)) (demand3_text input);
      text = w.text;
      rest = w.rest;
      front = sym e ∙ w.front;
      handed = w.handed;
    }
