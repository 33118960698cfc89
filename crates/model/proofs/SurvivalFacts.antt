-- The laws of `takes` and `affects`: what they are by kind (`takes-eq`, `affects-eq`), and that what an
-- accepted request takes out of an authorization is what its giver takes back or loses with the
-- administration of the object (`taken`).
use Rattle.std.specs.Prelude.{◌≡◌, ◌⊎◌, ◌↔◌, ℕ, ◌≤◌, Bool, false, ◌&&◌, List, [], ◌∷◌}
use Rattle.std.proofs.Math.Path.{refl, ap}
use Rattle.std.proofs.Common.{sym, ◌∙◌, inl}
use Rattle.std.proofs.Math.Logic.{inr, ⊎_elim}
use Rattle.std.proofs.Math.Bool.{true, not}
use Rattle.std.proofs.lemmas.Bool.{false≢true}
use Rattle.std.proofs.Math.Dec.{eqb}
use Rattle.foundation.specs.Tests.{cases, must_fail, le-true, eq_true, true_eq, not-false, not-true, and-true}
use Rattle.foundation.specs.Tests.{pick, and_intro}
use Rattle.foundation.specs.Lists.{anyb, any_false, conjunction, conjunct}
use Rattle.foundation.specs.Intervals.{in_interval, in_interval-true}
use Rattle.model.specs.declared.Head.{Head}
use Rattle.model.specs.declared.Authorization.{Authorization}
use Rattle.model.specs.declared.Request.{Request}
use Rattle.model.specs.Base.{Base}
use Rattle.model.specs.Support.{same_object_and_mode}
use Rattle.model.specs.Requests.{REVOKE, REVOKEP, REVOKEN, REVOKEADM, is, names, takes, affects}
use Rattle.model.specs.Step.{not_permitted}
use Rattle.model.specs.Step.{Accepted}
use Rattle.model.proofs.SupportFacts.{live-mem}
use Rattle.model.specs.Survival.{TakesBack, label, grant, denial, LosesAdministration, administration}
use Rattle.model.specs.Survival.{Stands}

-- by object and mode, as one with the label has them or as named, or by object
pub affects_eq : (xs : List Authorization) (q : Request) (h : Head) → affects xs q h
    ≡ pick (is q (REVOKE ∷ []))
    (anyb (λ a. eqb a.head.label q.label && same_object_and_mode a.head h) xs)
    (pick (is q (REVOKEP ∷ REVOKEN ∷ [])) (eqb h.object q.object && eqb h.mode q.mode)
    (pick (is q (REVOKEADM ∷ [])) (eqb h.object q.object)
    false))
unfolding affects
affects_eq xs q h = refl

module _ (q : Request) (h : Head) (t : ℕ) where
  -- by label, by what is named and the interval, or by object and grantor
  pub takes_eq : takes q h t
      ≡ pick (is q (REVOKE ∷ [])) (eqb h.label q.label)
      (pick (is q (REVOKEP ∷ REVOKEN ∷ [])) (names q h && in_interval q.interval t)
      (pick (is q (REVOKEADM ∷ [])) (eqb h.object q.object && eqb h.grantor q.subject)
      false))
  unfolding takes
  takes_eq = refl

  -- what REVOKEP and REVOKEN compare, with their test of the sign
  abbrev compared : Bool → List Bool
  compared sign =
      eqb h.grantor q.requester
      ∷ eqb h.subject q.subject
      ∷ eqb h.object q.object
      ∷ eqb h.mode q.mode
      ∷ sign
      ∷ in_interval q.interval t
      ∷ []

  -- the fields are the same, and the instant lies in the interval
  record Named (sign : Bool) : Type 0 where
    giver : q.requester ≡ h.grantor
    receiver : q.subject ≡ h.subject
    object : q.object ≡ h.object
    mode : q.mode ≡ h.mode
    signed : sign ≡ true
    starts : q.interval.start ≤ t
    ends : t ≤ q.interval.end

  named : (sign : Bool) → conjunction true (compared sign) ≡ true → Named sign
  named sign e =
      let c = conjunct (compared sign) e in
      let i = in_interval-true q.interval t (c _ (inr (inr (inr (inr (inr (inl refl))))))) in
      record {
        giver = sym (true_eq h.grantor q.requester (c _ (inl refl)));
        receiver = sym (true_eq h.subject q.subject (c _ (inr (inl refl))));
        object = sym (true_eq h.object q.object (c _ (inr (inr (inl refl)))));
        mode = sym (true_eq h.mode q.mode (c _ (inr (inr (inr (inl refl))))));
        signed = c _ (inr (inr (inr (inr (inl refl)))));
        starts = i.0;
        ends = i.1;
      }

  compares : (sign : Bool) → Named sign → conjunction true (compared sign) ≡ true
  compares sign w = rw (
    w.signed,
    eq_true h.grantor q.requester (sym w.giver),
    eq_true h.subject q.subject (sym w.receiver),
    eq_true h.object q.object (sym w.object),
    eq_true h.mode q.mode (sym w.mode),
    le-true q.interval.start t w.starts,
    le-true t q.interval.end w.ends,
  )

  -- what is taken back is taken
  back : TakesBack q h t → takes q h t ≡ true
  unfolding takes
  back (label k p e) = rw k (eq_true h.label q.label (sym e))
  back (grant k p s o m n a z) = rw k (compares (not h.negative) (record {
    giver = p;
    receiver = s;
    object = o;
    mode = m;
    signed = ap not n;
    starts = a;
    ends = z;
  }))
  back (denial k p s o m n a z) = rw k (compares h.negative (record {
    giver = p;
    receiver = s;
    object = o;
    mode = m;
    signed = n;
    starts = a;
    ends = z;
  }))

  -- and so is what he gave who loses the administration
  lost : LosesAdministration q h → takes q h t ≡ true
  unfolding takes
  lost (administration k s o) = rw k
      (and_intro (eqb h.object q.object) (eqb h.grantor q.subject)
      (eq_true h.object q.object (sym o)) (eq_true h.grantor q.subject (sym s)))

module _ (b : Base) (q : Request) (g : Accepted b q) (h : Head) (t : ℕ) (m : Stands b h t) where
  -- row 8: the requester of REVOKE gave what has the label
  giver : q.kind ≡ REVOKE → q.label ≡ h.label → q.requester ≡ h.grantor
  giver k e =
      let w = live-mem t b.authorizations h m in
      let a = w.0 in
      let his : Authorization → Bool = λ a. eqb a.head.grantor q.requester in
      let other : Authorization → Bool = λ a. eqb a.head.label q.label && not (his a) in
      let none = any_false other b.authorizations
      (must_fail (not_permitted b q) (anyb other b.authorizations) g.permitted (λ x. rw (k, x))) a
      w.1 in
      let same : eqb a.head.label q.label ≡ true =
      eq_true a.head.label q.label (ap (λ (x : Head). x.label) w.2 ∙ sym e) in
      sym (true_eq a.head.grantor q.requester (not-false (his a) (rw same at none)))
      ∙ ap (λ (x : Head). x.grantor) w.2

  -- what an accepted request takes of what stands is what its giver takes back or loses with the
  -- administration
  pub taken : (takes q h t ≡ true) ↔ (TakesBack q h t ⊎ LosesAdministration q h)
  unfolding takes
  taken = (forth, ⊎_elim (back q h t) (lost q h t))
    where
      -- by kind, in the order of `takes`
      administered : q.kind ≡ REVOKEADM → takes q h t ≡ true → TakesBack q h t ⊎ LosesAdministration q h
      administered k e =
          let x : eqb h.object q.object && eqb h.grantor q.subject ≡ true = rw k at e in
          let w = and-true (eqb h.object q.object) (eqb h.grantor q.subject) x in
          inr (administration k (sym (true_eq h.grantor q.subject w.1))
          (sym (true_eq h.object q.object w.0)))

      denied : q.kind ≡ REVOKEN → takes q h t ≡ true → TakesBack q h t ⊎ LosesAdministration q h
      denied k e =
          let w = named q h t h.negative (rw k at e) in
          inl (denial k w.giver w.receiver w.object w.mode w.signed w.starts w.ends)

      granted : q.kind ≡ REVOKEP → takes q h t ≡ true → TakesBack q h t ⊎ LosesAdministration q h
      granted k e =
          let w = named q h t (not h.negative) (rw k at e) in
          inl (grant k w.giver w.receiver w.object w.mode (not-true h.negative w.signed)
          w.starts w.ends)

      labelled : q.kind ≡ REVOKE → takes q h t ≡ true → TakesBack q h t ⊎ LosesAdministration q h
      labelled k e =
          let l : q.label ≡ h.label = sym (true_eq h.label q.label (rw k at e)) in
          inl (label k (giver k l) l)

      forth : takes q h t ≡ true → TakesBack q h t ⊎ LosesAdministration q h
      forth e = cases (eqb q.kind REVOKE)
          (λ k. labelled (true_eq q.kind REVOKE k) e)
          (λ w. cases (eqb q.kind REVOKEP)
          (λ k. granted (true_eq q.kind REVOKEP k) e)
          (λ x. cases (eqb q.kind REVOKEN)
          (λ k. denied (true_eq q.kind REVOKEN k) e)
          (λ y. cases (eqb q.kind REVOKEADM)
          (λ k. administered (true_eq q.kind REVOKEADM k) e)
          (λ z. absurd (false≢true (rw (w, x, y, z) at e))))))
