-- One block's replies, whatever its neighbour does (02, CR 9): over two sound bases that agree on a block of
-- meters, MAY and WHEN about the block, and a batch of such questions, get equal replies and leave equal
-- lists. This is what a reader has to believe: `Agree`, `RightsInside`; in 02's plain words `Whole`, `Closed`.
-- The theorems are in `IsolatedReplies`. `Neighbours` has two bases that they are about.
use Rattle.std.specs.Prelude.{◌≡◌, true, false, eqb}
use Prim.Native.Nat.{ℕ}
use Rattle.std.proofs.Math.Bool.{Bool}
use mathlib.Core.List.{List, ◌++◌, map}
use Rattle.foundation.specs.Lists.{anyb, keep_if, Mem}
use Rattle.model.specs.declared.Privilege.{Privilege}
use Rattle.model.specs.declared.Authorization.{Authorization}
use Rattle.model.specs.declared.Rule.{Rule}
use Rattle.model.specs.Base.{Base, exists}
use Rattle.model.specs.Stratification.{is_star}
use Rattle.model.specs.Stratification.{unlabelled}

-- what a base says of the block
pub record Share : Type 0 where
  pub owners : List Privilege
  pub administrators : List Privilege
  pub lines : List Authorization
  pub rules : List Rule
  pub starred : List Rule

-- an authorization but for its label and for when it was granted, which no question looks at
abbrev pub unstamped : Authorization → Authorization
unstamped a = record {
  head = record {
    label = 0;
    grantor = a.head.grantor;
    subject = a.head.subject;
    object = a.head.object;
    mode = a.head.mode;
    negative = a.head.negative;
    option = a.head.option;
    granted = 0;
  };
  interval = a.interval;
}

-- What questions about the block look at: no labels and no times of granting, and of the starred rules those
-- whose author owns or administers a meter of the block. The others stand for none of its meters.
abbrev pub seen : Share → Share
seen z = record {
  owners = z.owners;
  administrators = z.administrators;
  lines = map unstamped z.lines;
  rules = map unlabelled z.rules;
  starred = map unlabelled
      (keep_if (λ r. anyb (λ p. eqb p.subject r.author) (z.owners ++ z.administrators)) z.starred);
}

-- The block: which objects are in the set.
module _ (block : ℕ → Bool) where
  -- 02: "owners, administrators and lines for the objects in the set, ... the rules with their left object
  -- there, and ... all rules with starred objects"
  abbrev pub share : Base → Share
  share b = record {
    owners = keep_if (λ p. block p.object) b.objects;
    administrators = keep_if (λ p. block p.object) b.administrators;
    lines = keep_if (λ a. block a.head.object) b.authorizations;
    rules = keep_if (λ r. block r.left.object) b.rules;
    starred = keep_if (λ r. is_star r.left.object) b.rules;
  }

  -- 02: "If two sound bases agree on" these, as far as questions look at them
  abbrev pub Agree : Base → Base → Type 0
  Agree b c = seen (share b) ≡ seen (share c)

  -- 02: "a rule with its left object in the set, not starred, has its right object there too"
  abbrev pub RightsInside : Base → Type 0
  RightsInside b = (r : Rule) → Mem r b.rules → is_star r.left.object ≡ false →
      block r.left.object ≡ true → block r.right.object ≡ true

  -- 02 in its plain words: "Choose a set of existing objects such that" this holds. The theorems do not need
  -- that they exist: about one that exists in neither base both reply 6.
  pub record Closed (b : Base) : Type 0 where
    pub existing : (o : ℕ) → block o ≡ true → exists b o ≡ true
    pub rights_inside : RightsInside b

  -- and plain agreement on all of these records
  abbrev pub Whole : Base → Base → Type 0
  Whole b c = share b ≡ share c
