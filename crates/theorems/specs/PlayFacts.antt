-- The base after a list of requests: it is sound, its bytes are what the list leaves of an empty base's, and
-- a reply `Done` over those bytes says that the table lets the request pass and which label it takes.
use Rattle.std.specs.Prelude.{◌≡◌, refl, ◌≢◌, ℕ, suc, ◌≤◌, true, false, List, [], ◌∷◌, ◌++◌, eqb, length}
use Rattle.std.proofs.Common.{sym, ap, ◌∙◌, subst, arith}
use Rattle.foundation.specs.Tests.{pick, cases, true_eq, false_eq}
use Rattle.model.specs.declared.Head.{Head}
use Rattle.model.specs.declared.Request.{Request}
use Rattle.model.specs.declared.Reply.TheVariants.{Done}
use Rattle.model.specs.Base.{Base, empty_base}
use Rattle.model.specs.Requests.{REVOKE, REVOKEP, REVOKEN, REVOKEADM, grants, labels, withdraws, takes}
use Rattle.model.specs.Means.{plainly}
use Rattle.model.specs.Step.{accepting, Outcome, refusal, effect, step, play}
use Rattle.model.proofs.StepFacts.{step-accepted, step-refused}
use Rattle.model.specs.Encoding.{encode, decode}
use Rattle.model.specs.EncodingFacts.{decode-encode, empty_sound}
use Rattle.model.specs.Soundness.{sound}
use Rattle.model.specs.Answers.{Answer, request, requests, label_of}
use Rattle.model.specs.Survival.{after}
use Rattle.model.proofs.SurvivalFacts.{takes_eq}
use Rattle.model.specs.Kinds.{grant_kinds, label_kinds, withdrawal_kinds, is_kinds, not_kind}
use Rattle.laws.specs.SoundPrivileges.{last-stays}
use Rattle.laws.specs.Preservation.{effect-sound}
use Rattle.laws.specs.RequestFacts.{request-accepted, request-refused}
use Rattle.theorems.specs.RefusalNumbers.{done_passes}

-- ---- one request

pub base-accepted : (b : Base) (q : Request) → refusal plainly b q ≡ 0 → (step b q).base ≡ effect plainly b q
base-accepted b q z = ap (λ (x : Outcome). x.base) (step-accepted b q z)

pub base-refused : (b : Base) (q : Request) → refusal plainly b q ≢ 0 → (step b q).base ≡ b
base-refused b q n = ap (λ (x : Outcome). x.base) (step-refused b q n)

-- what holds of the base before and of that after an accepted request holds after any
pub step_keeps : (P : Base → Type 0) (b : Base) (q : Request) → P b →
    (refusal plainly b q ≡ 0 → P (effect plainly b q)) → P (step b q).base
step_keeps P b q p f = cases (eqb (refusal plainly b q) 0)
    (λ e. let z = true_eq (refusal plainly b q) 0 e in subst P (sym (base-accepted b q z)) (f z))
    (λ e. subst P (sym (base-refused b q (false_eq (refusal plainly b q) 0 e))) p)

pub step-sound : (b : Base) (q : Request) → sound b ≡ true → sound (step b q).base ≡ true
step-sound b q s = step_keeps (λ c. sound c ≡ true) b q s (effect-sound b q s)

pub step-last : (b : Base) (q : Request) → b.last ≤ (step b q).base.last
step-last b q = step_keeps (λ c. b.last ≤ c.last) b q (omega arith) (λ z. last-stays b q)

-- a request that withdraws nothing takes nothing
pub no_takes : (q : Request) → withdraws q ≡ false → (h : Head) (t : ℕ) → takes q h t ≡ false
no_takes q w h t = rw (
  takes_eq q h t,
  not_kind q (REVOKE ∷ []) withdrawal_kinds refl w,
  not_kind q (REVOKEP ∷ REVOKEN ∷ []) withdrawal_kinds refl w,
  not_kind q (REVOKEADM ∷ []) withdrawal_kinds refl w,
)

-- ---- a list

pub play-sound : (qs : List Request) (b : Base) → sound b ≡ true → sound (play qs b) ≡ true
play-sound [] b s = s
play-sound (q ∷ qs) b s = play-sound qs (step b q).base (step-sound b q s)

pub play-last : (qs : List Request) (b : Base) → b.last ≤ (play qs b).last
play-last [] b = omega arith
play-last (q ∷ qs) b = omega (arith, step-last b q, play-last qs (step b q).base)

pub play_append : (xs ys : List Request) (b : Base) → play (xs ++ ys) b ≡ play ys (play xs b)
play_append [] ys b = refl
play_append (x ∷ xs) ys b = play_append xs ys (step b x).base

request-step : (b : Base) (q : Request) → sound b ≡ true →
    (request (encode b) q).lent ≡ encode (step b q).base
request-step b q s = cases (eqb (refusal plainly b q) 0)
    (λ e. let z = true_eq (refusal plainly b q) 0 e in
    ap (λ (x : Answer). x.lent) (request-accepted b q s z) ∙ ap encode (sym (base-accepted b q z)))
    (λ e. let n = false_eq (refusal plainly b q) 0 e in
    ap (λ (x : Answer). x.lent) (request-refused b q s n) ∙ ap encode (sym (base-refused b q n)))

-- the bytes after a list encode the base after it
pub requests-play : (qs : List Request) (b : Base) → sound b ≡ true →
    requests qs (encode b) ≡ encode (play qs b)
requests-play [] b s = refl
requests-play (q ∷ qs) b s =
    ap (requests qs) (request-step b q s) ∙ requests-play qs (step b q).base (step-sound b q s)

-- ---- from the empty base

abbrev pub base_after : List Request → Base
base_after qs = play qs empty_base

pub after-sound : (qs : List Request) → sound (base_after qs) ≡ true
after-sound qs = play-sound qs empty_base empty_sound

pub after_bytes : (qs : List Request) → after qs ≡ encode (base_after qs)
after_bytes qs = requests-play qs empty_base empty_sound

pub after-base : (qs : List Request) → decode (after qs) ≡ base_after qs
after-base qs = ap decode (after_bytes qs) ∙ decode-encode (base_after qs) (after-sound qs)

-- the base after g, and after a list with g in it
pub after_one : (earlier : List Request) (g : Request) → refusal plainly (base_after earlier) g ≡ 0 →
    base_after (earlier ++ (g ∷ [])) ≡ effect plainly (base_after earlier) g
after_one earlier g z = play_append earlier (g ∷ []) empty_base ∙ base-accepted (base_after earlier) g z

pub after_more : (earlier : List Request) (g : Request) (later : List Request) →
    refusal plainly (base_after earlier) g ≡ 0 →
    base_after (earlier ++ (g ∷ later)) ≡ play later (effect plainly (base_after earlier) g)
after_more earlier g later z =
    play_append earlier (g ∷ later) empty_base ∙ ap (play later) (base-accepted (base_after earlier) g z)

-- ---- the reply

module _ (earlier : List Request) (q : Request) (label count : ℕ)
    (e : (request (after earlier) q).reply ≡ Done label count) where
  abbrev base : Base
  base = base_after earlier

  reply : (request (encode base) q).reply ≡ Done label count
  reply = ap (λ (s : List ℕ). (request s q).reply) (sym (after_bytes earlier)) ∙ e

  -- the table lets it pass
  pub done-accepted : refusal plainly base q ≡ 0
  done-accepted = done_passes base q (after-sound earlier) reply

  -- its label is the next one, if it takes one
  pub done-label : label ≡ pick (labels q) (suc base.last) 0
  done-label =
      sym (ap label_of reply)
      ∙ ap (λ (a : Answer). label_of a.reply) (request-accepted base q (after-sound earlier) done-accepted)

-- what the table lets pass is answered with the next label, or 0
accepted_reply : (qs : List Request) (q : Request) → refusal plainly (base_after qs) q ≡ 0 →
    (request (after qs) q).reply ≡ accepting (base_after qs) q (effect plainly (base_after qs) q)
accepted_reply qs q z =
    ap (λ (s : List ℕ). (request s q).reply) (after_bytes qs)
    ∙ ap (λ (a : Answer). a.reply) (request-accepted (base_after qs) q (after-sound qs) z)

-- a grant or denial takes the next label
pub accepted-done : (earlier : List Request) (g : Request) → refusal plainly (base_after earlier) g ≡ 0 →
    grants g ≡ true →
    (request (after earlier) g).reply
    ≡ Done (suc (base_after earlier).last) (length (effect plainly (base_after earlier) g).authorizations)
accepted-done earlier g z e = accepted_reply earlier g z ∙ rw (is_kinds g grant_kinds label_kinds refl e)
