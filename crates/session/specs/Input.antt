-- What the program has done with its input: which bytes of the base and which line are there, and by the
-- trace that the channel keeps, which bytes were read and which were handed to be written.
use Rattle.std.specs.Prelude.{◌≡◌, ℕ, ◌≤◌, true, List, [], ◌++◌, length}
use Rattle.model.specs.Soundness.{sound_bytes}
use Rattle.model.specs.Session.{session}
use Rattle.theorems.specs.Demand3.{Demand3}
use Rattle.theorems.specs.Orders.{orders}
use Rattle.channel.specs.declared.Channel.{Channel}
use Rattle.channel.specs.declared.Got.TheVariants.{End}
use Rattle.channel.specs.Digests.{digest}
use Rattle.channel.specs.Trace.{Read, Stopped}
use Rattle.serving.specs.LineTurns.{LineKept}
use Rattle.serving.specs.Stream.{feed, finish_bytes, ending, FedUpTo}
use Rattle.session.specs.declared.InputState.{InputState}

-- a sound base, room for a reply of any length, and of a line at most the first 97 bytes
abbrev pub BuffersReady : List ℕ → List ℕ → ℕ → List ℕ → Type 0
BuffersReady s line len out = (sound_bytes s ≡ true) × (24001 ≤ length out) × (len ≤ 97) × (length line ≡ 97)

-- of `input`, behind the line `pending`, all but `rest` is answered: the bytes of the base are s', `left` is
-- the line that is not ended yet, and its first bytes are kept; `text` was handed to be written
pub record AnsweredUpTo (s pending input rest : List ℕ) (sent len sent' : ℕ) (s' line' : List ℕ) : Type 0
  where
    pub text : List ℕ
    pub left : List ℕ
    pub feeds : FedUpTo s pending input rest text s' left
    pub kept : LineKept left len line'
    pub handed : sent' ≡ digest sent text

-- the front of the input is answered, and all of it where every write worked
pub record FrontAnswered (s pending input : List ℕ) (sent : ℕ) (r : InputState) (s' line' : List ℕ) : Type 0
  where
    pub rest : List ℕ
    pub answers : AnsweredUpTo s pending input rest sent r.len r.channel.sent s' line'
    pub all : r.channel.ok ≡ true → rest ≡ []

-- the program is through with its input
pub record ProgramDone (s pending input : List ℕ) (r : Channel) (s' : List ℕ) : Type 0 where
  pub read : Read input r
  pub stopped : Stopped r
  -- the input ended: all of it is answered, and so is its end
  pub ended : r.ok ≡ true → r.got ≡ End →
      (let f = feed s pending input in
      (s' ≡ finish_bytes f.lent f.pending) × (r.sent ≡ digest 0 (ending f)))
  -- a read failed, or the turns were used up: the line that is not ended is not answered
  pub cut : r.ok ≡ true → (r.got ≡ End → ⊥) →
      (let f = feed s pending input in (s' ≡ f.lent) × (r.sent ≡ digest 0 f.text))
  -- in any case, where a write failed too, what was handed over is a front of what is to be answered
  pub text : List ℕ
  pub rest : List ℕ
  pub front : ending (feed s pending input) ≡ text ++ rest
  pub handed : r.sent ≡ digest 0 text
  pub sound : sound_bytes s' ≡ true

-- the program has run on an empty base
pub record Ran (input : List ℕ) (r : Channel) (s' : List ℕ) : Type 0 where
  pub read : Read input r
  pub stopped : Stopped r
  -- the input ended: the text of the session over it was handed to be written,
  pub ended : r.ok ≡ true → r.got ≡ End → r.sent ≡ digest 0 (session input)
  -- and demand 3 holds of the requests among its lines and the bytes of the base
  pub promise : r.ok ≡ true → r.got ≡ End → Demand3 (orders input) s'
  -- in any case a front of it was
  pub text : List ℕ
  pub rest : List ℕ
  pub front : session input ≡ text ++ rest
  pub handed : r.sent ≡ digest 0 text
