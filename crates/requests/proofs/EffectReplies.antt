-- The reply to a request that withdraws no instants, by row 13, and as it is read off the bytes that the
-- effect left.
use mathlib.Core.Path.{◌≡◌, sym, ap, ◌∙◌}
use Prim.Native.Nat.{ℕ}
use mathlib.Core.Bool.{true, false}
use mathlib.Core.List.{List}
use lib.ListN.{length, drop}
use Rattle.foundation.specs.Tests.{pick, cases}
use Rattle.foundation.specs.Bytes.{le}
use Rattle.model.specs.declared.Request.{Request}
use Rattle.model.specs.declared.Reply.{Reply}
use Rattle.model.specs.declared.Reply.TheVariants.{Done, Refused}
use Rattle.model.specs.Base.{Base}
use Rattle.model.specs.Encoding.{encode, decode}
use Rattle.model.specs.Requests.{labels, withdraws}
use Rattle.model.specs.Means.{plainly}
use Rattle.model.specs.Step.{full, effect, accepting}
use Rattle.encoding.specs.declared.Counts.{Counts}
use Rattle.encoding.specs.Format.{counts_of}
use Rattle.encoding.proofs.FormatFacts.{decoded_lengths}
use Rattle.effects.specs.EffectRecords.{Allowed}
use Rattle.effects.proofs.AllowedEffects.{HoldsBase, holds-base, after-fits, last-read}
use Rattle.revocation.specs.CarriedOut.{PassesEarly, CarriedOut}
use Rattle.requests.specs.KeepingKinds.{keeping_kinds}
use Rattle.revocation.proofs.CarriedFacts.{passed_accepted}
use Rattle.requests.proofs.KindNumbers.{keeping}

-- ---- what is read

-- the last label if the request took one, and the number of authorizations
abbrev pub reply_read : Request → Base → Reply
reply_read q b = Done (pick (labels q) b.last 0) (length b.authorizations)

module _ (s : List ℕ) (q : Request) (c : Counts) (e : c ≡ counts_of s) where
  counted : c.authorizations ≡ length (decode s).authorizations
  counted = ap (λ (x : Counts). x.authorizations) e ∙ sym (decoded_lengths s).3

  pub read-label : labels q ≡ true → (n : ℕ) → n ≡ le 2 (drop 8 s) →
      Done n c.authorizations ≡ reply_read q (decode s)
  read-label k n h = rw k (λ i. Done (last-read s n h i) (counted i))

  pub read_none : labels q ≡ false → Done 0 c.authorizations ≡ reply_read q (decode s)
  read_none k = rw k (λ i. Done 0 (counted i))

-- off the effect
read-effect : (b : Base) (q : Request) → reply_read q (effect plainly b q) ≡ accepting b q (effect plainly b q)
read-effect b q = cases (labels q) (λ k. rw k) (λ k. rw k)

-- ---- row 13

pub carried_refused : (s : List ℕ) (q : Request) → full plainly (decode s) q ≡ true →
    CarriedOut s q (Refused 13) s
carried_refused s q f = record { reply = rw f; bytes = rw f }

module _ (s : List ℕ) (q : Request) (p : PassesEarly s q) (w : withdraws q ≡ false)
    (f : full plainly (decode s) q ≡ false) where
  pub passed_allowed : Allowed keeping_kinds s q
  passed_allowed =
      let a = passed_accepted s q p f in
      record { sound = p.sound; accepted = a; kind = keeping q a.range w }

  module _ (s' : List ℕ) (e : s' ≡ encode (effect plainly (decode s) q)) where
    pub effect-holds : HoldsBase (effect plainly (decode s) q) s'
    effect-holds = holds-base (effect plainly (decode s) q) s' (after-fits keeping_kinds s q passed_allowed) e

    pub carried_done : (r : Reply) → r ≡ reply_read q (decode s') → CarriedOut s q r s'
    carried_done r h = record {
      reply = rw f (h ∙ ap (reply_read q) effect-holds.base ∙ read-effect (decode s) q);
      bytes = rw f e;
    }
