-- Requests over lent bytes: an accepted one leaves the encoding of its effect, a refused one the bytes as
-- they were.
use Rattle.std.specs.Prelude.{◌≡◌, ◌≢◌, ℕ, true, false, List, eqb}
use Rattle.std.proofs.Common.{sym, ◌∙◌, subst, arith}
use Rattle.std.proofs.Math.Path.{ap}
use Rattle.foundation.specs.Tests.{cases, true_eq, false_eq}
use Rattle.model.specs.declared.Request.{Request}
use Rattle.model.specs.declared.Reply.TheVariants.{Refused, Unsupported}
use Rattle.model.specs.Base.{Base}
use Rattle.model.specs.Means.{plainly}
use Rattle.model.specs.Step.{first_number, accepting, refusal, effect, earliest_gap, refusal_reply}
use Rattle.model.proofs.StepFacts.{answered, turned_away, by_rows}
use Rattle.model.specs.Encoding.{encode, decode}
use Rattle.model.specs.EncodingFacts.{decode-encode, encode-sound}
use Rattle.model.specs.Soundness.{sound, sound_bytes}
use Rattle.model.specs.SoundnessFacts.{sound_bytes_lem}
use Rattle.model.specs.Answers.{Answer, answering, request_table, request, refusal_number}
use Rattle.laws.specs.Preservation.{effect-sound}

-- ---- the reply that refuses

-- it has the number
pub reply_refusal : (b : Base) (q : Request) (n : ℕ) → refusal_number (refusal_reply plainly b q n) ≡ n
reply_refusal b q n = cases (eqb n 9)
    (λ e. rw (e, refusal_reply) (sym (true_eq n 9 e)))
    (λ e. rw (e, refusal_reply))

-- and leaves the bytes
abbrev pub refused_with : List ℕ → Request → ℕ → Answer
refused_with s q n = answering (refusal_reply plainly (decode s) q n) s

-- ---- on unsound bytes

pub request_unsound : (s : List ℕ) (q : Request) → sound_bytes s ≡ false →
    request s q ≡ answering (Refused 2) s
unfolding request
request_unsound s q e =
    let n : first_number (request_table s q) ≡ 2 = rw e in
    turned_away (request_table s q) (refused_with s q) _ (λ z. omega (arith, n)) ∙ ap (refused_with s q) n

-- ---- on the encoding of a sound base

module _ (b : Base) (q : Request) (s : sound b ≡ true) where
  -- the table is the base's
  pub encoded_table : first_number (request_table (encode b) q) ≡ refusal plainly b q
  encoded_table = rw (encode-sound b s, decode-encode b s)

  pub request-accepted : refusal plainly b q ≡ 0 →
      request (encode b) q ≡ answering (accepting b q (effect plainly b q)) (encode (effect plainly b q))
  unfolding request
  request-accepted z =
      answered (request_table (encode b) q) (refused_with (encode b) q)
      (answering (accepting (decode (encode b)) q (effect plainly (decode (encode b)) q))
      (encode (effect plainly (decode (encode b)) q)))
      (encoded_table ∙ z)
      ∙ ap (λ (c : Base). answering (accepting c q (effect plainly c q)) (encode (effect plainly c q)))
      (decode-encode b s)

  pub request-refused : refusal plainly b q ≢ 0 →
      request (encode b) q ≡ answering (refusal_reply plainly b q (refusal plainly b q)) (encode b)
  unfolding request
  request-refused n =
      turned_away (request_table (encode b) q) (refused_with (encode b) q)
      (answering (accepting (decode (encode b)) q (effect plainly (decode (encode b)) q))
      (encode (effect plainly (decode (encode b)) q)))
      (λ z. n (sym encoded_table ∙ z))
      ∙ (λ i. answering (refusal_reply plainly (decode-encode b s i) q (encoded_table i)) (encode b))

-- ---- 9

-- a reply with 9 tells the earliest uncovered instant
pub uncovered_reply : (s : List ℕ) (q : Request) → refusal_number (request s q).reply ≡ 9 →
    (request s q).reply ≡ Unsupported (earliest_gap plainly (decode s) q)
unfolding request
uncovered_reply s q =
    let after = effect plainly (decode s) q in
    by_rows (request_table s q) (refused_with s q) (answering (accepting (decode s) q after) (encode after))
    (λ (a : Answer). refusal_number a.reply ≡ 9 →
    a.reply ≡ Unsupported (earliest_gap plainly (decode s) q))
    (λ e. ap (refusal_reply plainly (decode s) q)
    (sym (reply_refusal (decode s) q (first_number (request_table s q))) ∙ e))
    (λ z e. absurd (omega arith))

-- ---- THEOREM 7 (that a refused request leaves the bytes: `request-refuses` in Refusals)

-- a request on sound bytes leaves sound bytes
pub request-sound : (s : List ℕ) (q : Request) → sound_bytes s ≡ true → sound_bytes (request s q).lent ≡ true
request-sound s q e =
    let w = sound_bytes_lem s e in
    let b = decode s in
    subst (λ (x : List ℕ). sound_bytes (request x q).lent ≡ true) w.0
    (cases (eqb (refusal plainly b q) 0)
    (λ z. let n = true_eq (refusal plainly b q) 0 z in
    subst (λ (a : Answer). sound_bytes a.lent ≡ true) (sym (request-accepted b q w.1 n))
    (encode-sound (effect plainly b q) (effect-sound b q w.1 n)))
    (λ z. let n = false_eq (refusal plainly b q) 0 z in
    subst (λ (a : Answer). sound_bytes a.lent ≡ true) (sym (request-refused b q w.1 n))
    (encode-sound b w.1)))
