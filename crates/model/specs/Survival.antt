-- The words of demand 3, in the fields of the requests: what a grant or denial gives, what takes an instant
-- back or the administration away, when an instant stands, what is behind it, and when it survives the later
-- requests of a list. They do not lean on `takes`, which says what a withdrawal takes (`taken` in
-- SurvivalFacts compares the two).
use Rattle.std.specs.Prelude.{◌≡◌, ◌≢◌, ℕ, ◌≤◌, Bool, true, false, List, [], ◌∷◌, ◌++◌}
use Rattle.foundation.specs.Lists.{Mem}
use Rattle.model.specs.declared.Head.{Head}
use Rattle.model.specs.declared.Request.{Request}
use Rattle.model.specs.declared.Reply.TheVariants.{Done}
use Rattle.model.specs.Base.{Base, empty_base}
use Rattle.model.specs.Support.{Chain, live, root}
use Rattle.model.specs.Requests.{GRANT, DENY, REVOKE, REVOKEP, REVOKEN, REVOKEADM}
use Rattle.model.specs.Encoding.{encode, decode}
use Rattle.model.specs.Answers.{refusal_number, request, requests}

-- ---- what a grant or denial gives

-- "with its giver, receiver, meter, mode, sign, option and time", and "its own label"
abbrev pub head_of : Request → ℕ → Bool → Bool → Head
head_of g label negative option = record {
  label = label;
  grantor = g.requester;
  subject = g.subject;
  object = g.object;
  mode = g.mode;
  negative = negative;
  option = option;
  granted = g.now;
}

-- the request g, accepted with that label, gives the head h to each instant of its interval
pub data Gives (g : Request) (label : ℕ) (h : Head) : Type 0 where
  grant : g.kind ≡ GRANT → h ≡ head_of g label false g.option → Gives g label h
  denial : g.kind ≡ DENY → h ≡ head_of g label true false → Gives g label h

-- "from an empty base, where each gets the base that the one before left and nobody else writes to it": the
-- bytes after a list of requests
abbrev pub after : List Request → List ℕ
after qs = requests qs (encode empty_base)

-- "each instant of an accepted grant or denial": in the list qs the request g, with `earlier` before it and
-- `later` behind it, is accepted, and t is one of its instants, to which it gives the head h
pub record Given (qs earlier : List Request) (g : Request) (later : List Request) (h : Head)
    (t : ℕ) : Type 0 where
  pub place : qs ≡ earlier ++ (g ∷ later)
  pub label : ℕ
  pub count : ℕ
  pub done : (request (after earlier) g).reply ≡ Done label count
  pub gives : Gives g label h
  pub starts : g.interval.start ≤ t
  pub ends : t ≤ g.interval.end

-- ---- what takes it away

-- "its giver has ... taken it back": by its label, or by naming what was given and an interval with the
-- instant
pub data TakesBack (q : Request) (h : Head) (t : ℕ) : Type 0 where
  label : q.kind ≡ REVOKE → q.requester ≡ h.grantor → q.label ≡ h.label → TakesBack q h t
  grant :
      q.kind ≡ REVOKEP → q.requester ≡ h.grantor →
      q.subject ≡ h.subject → q.object ≡ h.object → q.mode ≡ h.mode → h.negative ≡ false →
      q.interval.start ≤ t → t ≤ q.interval.end →
      TakesBack q h t
  denial :
      q.kind ≡ REVOKEN → q.requester ≡ h.grantor →
      q.subject ≡ h.subject → q.object ≡ h.object → q.mode ≡ h.mode → h.negative ≡ true →
      q.interval.start ≤ t → t ≤ q.interval.end →
      TakesBack q h t

-- "nor lost the meter's administration": it is withdrawn from the giver
pub data LosesAdministration (q : Request) (h : Head) : Type 0 where
  administration :
      q.kind ≡ REVOKEADM → q.subject ≡ h.grantor → q.object ≡ h.object → LosesAdministration q h

-- ---- what remains

-- the instant stands in an authorization (01: a line) with that head
abbrev pub Stands : Base → Head → ℕ → Type 0
Stands b h t = Mem h (live t b.authorizations)

-- "a chain behind it: transferable grants for that meter and mode, times strictly rising up to its own, each
-- still covering the instant, leading from the owner or an administrator to the giver, or none where the
-- giver is one"
abbrev pub Behind : Base → Head → ℕ → Type 0
Behind b h t = Chain (root b) (live t b.authorizations) h

-- "its giver has neither taken it back nor lost the meter's administration since, and ... after ... every
-- later accepted request it had a chain behind it", from the bytes s on; a refused request is passed over
pub data Survives (h : Head) (t : ℕ) : List Request → List ℕ → Type 0 where
  end : {s : List ℕ} → Survives h t [] s
  refused : {q : Request} {later : List Request} {s : List ℕ} →
      refusal_number (request s q).reply ≢ 0 →
      Survives h t later s →
      Survives h t (q ∷ later) s
  accepted : {q : Request} {later : List Request} {s : List ℕ} {label count : ℕ} →
      (request s q).reply ≡ Done label count →
      ¬ TakesBack q h t →
      ¬ LosesAdministration q h →
      Behind (decode (request s q).lent) h t →
      Survives h t later (request s q).lent →
      Survives h t (q ∷ later) s
