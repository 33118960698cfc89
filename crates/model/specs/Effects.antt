-- What each accepted request does to the base, one equation a kind, each to be read by itself (01,
-- "Requests"). All are proved from `Step.effect`, which is done where no row of the table applies. What an
-- equation does not name stays.
use Rattle.std.specs.Prelude.{◌≡◌, ℕ, suc, true, false, not, ◌&&◌, ◌||◌, List, [], ◌∷◌, ◌++◌, eqb}
use Rattle.foundation.specs.Lists.{anyb, keep_if}
use Rattle.foundation.specs.Intervals.{in_interval}
use Rattle.model.specs.declared.Privilege.{Privilege}
use Rattle.model.specs.declared.Authorization.{Authorization}
use Rattle.model.specs.declared.Rule.{Rule}
use Rattle.model.specs.declared.Request.{Request}
use Rattle.model.specs.Base.{Base, privilege, is_privilege, administers, refers}
use Rattle.model.specs.Support.{same_object_and_mode, root, root_in}
use Rattle.model.specs.Withdrawal.{keep, restrict}
use Rattle.model.specs.Requests.{NEW, GRANT, DENY, REVOKE, REVOKEP, REVOKEN, ADDRULE, DROPRULE}
use Rattle.model.specs.Requests.{GRANTADM}
use Rattle.model.specs.Requests.{REVOKEADM, GRANTREF, REVOKEREF, insert, side_of, operator_of, number_of}
use Rattle.model.specs.Requests.{takes, leave, affects}
use Rattle.model.specs.Means.{plainly}
use Rattle.model.specs.Step.{effect}

-- ---- a base with one part replaced

abbrev pub with_clock : ℕ → Base → Base
with_clock n b = record {
  clock = n;
  last = b.last;
  objects = b.objects;
  administrators = b.administrators;
  referrers = b.referrers;
  authorizations = b.authorizations;
  rules = b.rules;
}

abbrev pub with_last : ℕ → Base → Base
with_last n b = record {
  clock = b.clock;
  last = n;
  objects = b.objects;
  administrators = b.administrators;
  referrers = b.referrers;
  authorizations = b.authorizations;
  rules = b.rules;
}

abbrev pub with_objects : List Privilege → Base → Base
with_objects ps b = record {
  clock = b.clock;
  last = b.last;
  objects = ps;
  administrators = b.administrators;
  referrers = b.referrers;
  authorizations = b.authorizations;
  rules = b.rules;
}

abbrev pub with_administrators : List Privilege → Base → Base
with_administrators ps b = record {
  clock = b.clock;
  last = b.last;
  objects = b.objects;
  administrators = ps;
  referrers = b.referrers;
  authorizations = b.authorizations;
  rules = b.rules;
}

abbrev pub with_referrers : List Privilege → Base → Base
with_referrers ps b = record {
  clock = b.clock;
  last = b.last;
  objects = b.objects;
  administrators = b.administrators;
  referrers = ps;
  authorizations = b.authorizations;
  rules = b.rules;
}

abbrev pub with_authorizations : List Authorization → Base → Base
with_authorizations xs b = record {
  clock = b.clock;
  last = b.last;
  objects = b.objects;
  administrators = b.administrators;
  referrers = b.referrers;
  authorizations = xs;
  rules = b.rules;
}

abbrev pub with_rules : List Rule → Base → Base
with_rules rs b = record {
  clock = b.clock;
  last = b.last;
  objects = b.objects;
  administrators = b.administrators;
  referrers = b.referrers;
  authorizations = b.authorizations;
  rules = rs;
}

-- ---- the twelve

module _ (b : Base) (q : Request) where
  -- "NEW object: the requester becomes owner". `insert` keeps the order
  pub effect-new : q.kind ≡ NEW →
      effect plainly b q
      ≡ with_clock q.now (with_objects (insert (privilege q.object q.requester) b.objects) b)
  effect-new e = rw e

  -- "GRANT and DENY add one line with a new label, granted-at now"
  pub effect-grant : q.kind ≡ GRANT →
      effect plainly b q
      ≡ with_clock q.now (with_last (suc b.last) (with_authorizations (b.authorizations ++ (record {
        head = record {
          label = suc b.last;
          grantor = q.requester;
          subject = q.subject;
          object = q.object;
          mode = q.mode;
          negative = false;
          option = q.option;
          granted = q.now;
        };
        interval = q.interval;
      } ∷ [])) b))
  effect-grant e = rw e

  pub effect_deny : q.kind ≡ DENY →
      effect plainly b q
      ≡ with_clock q.now (with_last (suc b.last) (with_authorizations (b.authorizations ++ (record {
        head = record {
          label = suc b.last;
          grantor = q.requester;
          subject = q.subject;
          object = q.object;
          mode = q.mode;
          negative = true;
          option = false;
          granted = q.now;
        };
        interval = q.interval;
      } ∷ [])) b))
  effect_deny e = rw e

  -- "REVOKE label removes all lines of that label", then unsupported instants of those on its object and mode
  pub effect_revoke : q.kind ≡ REVOKE →
      effect plainly b q
      ≡ with_clock q.now (with_authorizations (restrict (root b)
      (λ h. anyb (λ a. eqb a.head.label q.label && same_object_and_mode a.head h) b.authorizations)
      (keep (λ h t. not (eqb h.label q.label)) b.authorizations)) b)
  unfolding leave takes affects
  effect_revoke e = rw e

  -- "REVOKEP ... (mode, object, subject, interval) take[s] the interval out of the requester's positive
  -- lines", then unsupported instants of those on that object and mode
  pub effect_revokep : q.kind ≡ REVOKEP →
      effect plainly b q
      ≡ with_clock q.now (with_authorizations (restrict (root b)
      (λ h. eqb h.object q.object && eqb h.mode q.mode)
      (keep (λ h t. not (eqb h.grantor q.requester && eqb h.subject q.subject
      && eqb h.object q.object && eqb h.mode q.mode && not h.negative
      && in_interval q.interval t)) b.authorizations)) b)
  unfolding leave takes affects
  effect_revokep e = rw e

  -- "... and REVOKEN ... or denials"
  pub effect_revoken : q.kind ≡ REVOKEN →
      effect plainly b q
      ≡ with_clock q.now (with_authorizations (restrict (root b)
      (λ h. eqb h.object q.object && eqb h.mode q.mode)
      (keep (λ h t. not (eqb h.grantor q.requester && eqb h.subject q.subject
      && eqb h.object q.object && eqb h.mode q.mode && h.negative
      && in_interval q.interval t)) b.authorizations)) b)
  unfolding leave takes affects
  effect_revoken e = rw e

  -- ADDRULE: the rule with a new label, its author the requester
  pub effect_addrule : q.kind ≡ ADDRULE →
      effect plainly b q
      ≡ with_clock q.now (with_last (suc b.last) (with_rules (b.rules ++ (record {
        label = suc b.last;
        author = q.requester;
        left = side_of q.rule.left;
        operator = operator_of q.rule.operator;
        right = side_of q.rule.right;
        grantor = number_of q.rule.grantor;
        option = q.rule.option;
        interval = q.interval;
      } ∷ [])) b))
  effect_addrule e = rw e

  -- "DROPRULE label"
  pub effect_droprule : q.kind ≡ DROPRULE →
      effect plainly b q
      ≡ with_clock q.now (with_rules (keep_if (λ r. not (eqb r.label q.label)) b.rules) b)
  effect_droprule e = rw e

  -- "GRANTADM ... (object, subject)"
  pub effect_grantadm : q.kind ≡ GRANTADM →
      effect plainly b q
      ≡ with_clock q.now
      (with_administrators (insert (privilege q.object q.subject) b.administrators) b)
  effect_grantadm e = rw e

  -- "REVOKEADM removes every line on the object that the subject granted ..., then all unbacked instants on
  -- that object; and the subject's rules with it on the left, and on the right unless a referrer"
  pub effect_revokeadm : q.kind ≡ REVOKEADM →
      let administrators = keep_if (λ p. not (is_privilege q.object q.subject p)) b.administrators in
      effect plainly b q
      ≡ with_clock q.now (with_administrators administrators (with_authorizations
      (restrict (root_in b.objects administrators) (λ h. eqb h.object q.object)
      (keep (λ h t. not (eqb h.object q.object && eqb h.grantor q.subject)) b.authorizations))
      (with_rules (keep_if (λ r. not (eqb r.author q.subject && (eqb r.left.object q.object
      || (eqb r.right.object q.object && not (refers b q.object q.subject))))) b.rules) b)))
  unfolding leave takes affects
  effect_revokeadm e = rw e

  -- "GRANTREF ... (object, subject)"
  pub effect_grantref : q.kind ≡ GRANTREF →
      effect plainly b q
      ≡ with_clock q.now (with_referrers (insert (privilege q.object q.subject) b.referrers) b)
  effect_grantref e = rw e

  -- "REVOKEREF removes the subject's rules with it on the right unless an administrator"
  pub effect_revokeref : q.kind ≡ REVOKEREF →
      effect plainly b q
      ≡ with_clock q.now
      (with_referrers (keep_if (λ p. not (is_privilege q.object q.subject p)) b.referrers)
      (with_rules (keep_if (λ r. not (eqb r.author q.subject && eqb r.right.object q.object
      && not (administers b q.object q.subject))) b.rules) b))
  effect_revokeref e = rw e
