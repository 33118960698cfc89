use native.Mathlib.Omega.{arith}
use mathlib.Core.Path.{◌≡◌, refl, sym, ap, ◌∙◌}
use mathlib.Core.Bool.{Bool, true, false, not, ◌&&◌, and-true}
use mathlib.Core.List.{List, [], ◌∷◌}
use Prim.Native.Nat.{ℕ, ◌≤◌}
use lib.ListN.{length}
use Rattle.encoding.proofs.SoundBodies.{counts_in}
use Rattle.foundation.specs.Tests.{le-true}
use Rattle.foundation.specs.Intervals.{always}
use Rattle.model.specs.declared.Pattern.{Pattern}
use Rattle.model.specs.declared.Question.{Question}
use Rattle.model.specs.declared.Reply.{Reply}
use Rattle.model.specs.declared.Reply.TheVariants.{Refused}
use Rattle.model.specs.Ranges.{is_instant, last_instant}
use Rattle.model.specs.Base.{exists}
use Rattle.model.specs.Circles.{circular}
use Rattle.model.specs.Rules.{holds, asked, may_with, may}
use Rattle.model.specs.Step.{row, refused_or}
use Rattle.model.specs.Encoding.{decode}
use Rattle.model.specs.Soundness.{sound_bytes}
use Rattle.model.specs.Answers.{access_in, may_reply}
use Rattle.model.specs.Simple.{simple_answer}
use Rattle.simple.specs.Engine.{held_at}
use Rattle.simple.proofs.simple_may.Goals as goal
use Rattle.simple.proofs.simple_may.Goals.{Else-is_circular}

-- the reply by what is asked of the base, in this order
abbrev replied : (sound? in? there? circle? held? denied? : Bool) → Reply
replied sound? in? there? circle? held? denied? =
    refused_or (row 2 (not sound?) ∷ row 3 (not in?) ∷ row 6 (not there?) ∷ row 15 circle? ∷ []) Refused
    (may_reply (held? && not denied?))

module _ (s : List ℕ) (q : Question) where
  abbrev in_range : Bool
  in_range = access_in q.access && is_instant q.instant

  abbrev there : Bool
  there = exists (decode s) q.access.object

  abbrev circle : Bool
  circle = circular (decode s).rules

  abbrev positive : Bool
  positive = holds always (decode s) q.instant (asked q.access false)

  abbrev denial : Bool
  denial = holds always (decode s) q.instant (asked q.access true)

  by_tests : (a b c d e f : Bool) → sound_bytes s ≡ a → in_range ≡ b → there ≡ c → circle ≡ d →
      positive ≡ e → denial ≡ f → replied a b c d e f ≡ simple_answer s q
  unfolding simple_answer may may_with
  by_tests a b c d e f p q r u v w =
      λ k. replied (sym p k) (sym q k) (sym r k) (sym u k) (sym v k) (sym w k)

-- each number of 32 bits is an instant
said_in : (q : Question) (in? : Bool) → in? ≡ access_in q.access → q.instant ≤ 4294967295 →
    access_in q.access && is_instant q.instant ≡ in?
said_in q in? e h = (λ k. sym e k && le-true q.instant last_instant h k) ∙ and-true in?

-- behind the rows, `denied?` being left open where nothing is held
answered : (c : Else-is_circular) (held? denied? : Bool) →
    positive c.args.s.now c.args.q ≡ held? → denial c.args.s.now c.args.q ≡ denied? →
    replied true true true false held? denied? ≡ simple_answer c.args.s.now c.args.q
answered c held? denied? p d =
    by_tests c.args.s.now c.args.q true true true false held? denied?
    (sym c.is_sound.ensures ∙ c.if-not-is_sound.false)
    (said_in c.args.q c.access_in.result c.access_in.ensures (omega arith) ∙ c.if-not-access_in.false)
    (sym c.exists.ensures ∙ c.if-not-exists.false) (sym (ap circular c.rules.ensures) ∙ sym c.is_circular.ensures ∙ c.if-is_circular.false) p d

-- what is asked about
said : (s : List ℕ) (q : Question) (negative held? : Bool) (p : Pattern) → p ≡ asked q.access negative →
    held? ≡ held_at s p q.instant → holds always (decode s) q.instant (asked q.access negative) ≡ held?
said s q negative held? p e h = sym (h ∙ ap (holds always (decode s) q.instant) e)

-- ---- the replies

pub returns-then-not-is_sound : goal.returns-then-not-is_sound
returns-then-not-is_sound c =
    by_tests c.args.s.now c.args.q false _ _ _ _ _
    (sym c.is_sound.ensures ∙ c.if-not-is_sound.true) refl refl refl refl refl

pub returns-then-not-access_in : goal.returns-then-not-access_in
returns-then-not-access_in c =
    by_tests c.args.s.now c.args.q true false _ _ _ _ (sym c.is_sound.ensures ∙ c.if-not-is_sound.false)
    (said_in c.args.q c.access_in.result c.access_in.ensures (omega arith) ∙ c.if-not-access_in.true)
    refl refl refl refl

pub returns-then-not-exists : goal.returns-then-not-exists
returns-then-not-exists c =
    by_tests c.args.s.now c.args.q true true false _ _ _ (sym c.is_sound.ensures ∙ c.if-not-is_sound.false)
    (said_in c.args.q c.access_in.result c.access_in.ensures (omega arith) ∙ c.if-not-access_in.false)
    (sym c.exists.ensures ∙ c.if-not-exists.true) refl refl refl

pub is_circular-requires : goal.is_circular-requires
is_circular-requires c =
    let sound = sym c.is_sound.ensures ∙ c.if-not-is_sound.false in
    omega (arith, (counts_in c.args.s.now sound).rules, ap length c.rules.ensures)

pub returns-then-is_circular : goal.returns-then-is_circular
returns-then-is_circular c =
    by_tests c.args.s.now c.args.q true true true true _ _ (sym c.is_sound.ensures ∙ c.if-not-is_sound.false)
    (said_in c.args.q c.access_in.result c.access_in.ensures (omega arith) ∙ c.if-not-access_in.false)
    (sym c.exists.ensures ∙ c.if-not-exists.false) (sym (ap circular c.rules.ensures) ∙ sym c.is_circular.ensures ∙ c.if-is_circular.true) refl refl

pub returns-then-not-held : goal.returns-then-not-held
returns-then-not-held c =
    answered (goal.at.returns-then-not-held c).Else-is_circular false _
    (said c.args.s.now c.args.q false c.held.result c.asked.result c.asked.ensures c.held.ensures
    ∙ c.if-not-held.true) refl

pub returns-then-held : goal.returns-then-held
returns-then-held c =
    answered (goal.at.returns-then-held c).Else-is_circular true true
    (said c.args.s.now c.args.q false c.held.result c.asked.result c.asked.ensures c.held.ensures
    ∙ c.if-not-held.false)
    (said c.args.s.now c.args.q true c.held-2.result c.asked-2.result c.asked-2.ensures c.held-2.ensures
    ∙ c.if-held.true)

pub returns : goal.returns
returns c =
    answered (goal.at.returns c).Else-is_circular true false
    (said c.args.s.now c.args.q false c.held.result c.asked.result c.asked.ensures c.held.ensures
    ∙ c.if-not-held.false)
    (said c.args.s.now c.args.q true c.held-2.result c.asked-2.result c.asked-2.ensures c.held-2.ensures
    ∙ c.if-held.false)
