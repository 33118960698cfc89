-- What a step of the search does to the tables of what is needed and what is still to do.
use Rattle.std.specs.Prelude.{◌≡◌, ◌⊎◌, Bool, true, List, ℕ, ◌+◌, ◌*◌, ◌-◌, ◌≤◌, ◌<◌, length}
use Rattle.words.specs.Sums.{sum}
use Rattle.reach.specs.Net.{Net, has, ClosedBut, OnlyWhere, ClosedUnderRules}

-- what is left: bits that are not needed count twice, bits to do once
abbrev pub remaining : List ℕ → List ℕ → ℕ
remaining need todo = 2 * (65535 * length need - sum need) + sum todo

-- more is needed, and what is new is to do
pub record Grown (need todo need' todo' : List ℕ) : Type 0 where
  pub more : (j k : ℕ) → has need j k ≡ true → has need' j k ≡ true
  pub kept : (j k : ℕ) → has todo j k ≡ true → has todo' j k ≡ true
  pub fresh : (j k : ℕ) → has need' j k ≡ true → (has need j k ≡ true) ⊎ (has todo' j k ≡ true)
  pub less : remaining need' todo' ≤ remaining need todo
  pub needs : length need' ≡ length need
  pub todos : length todo' ≡ length todo

-- if both tables were only where P holds, they still are
abbrev pub KeepsWithin : (ℕ → Bool) → List ℕ → List ℕ → List ℕ → List ℕ → Type 0
KeepsWithin P need todo need' todo' = OnlyWhere P need → OnlyWhere P todo → OnlyWhere P need'
    × OnlyWhere P todo'

-- one bit is no longer to do
pub record ReachStep (net : Net) (need todo need' todo' : List ℕ) : Type 0 where
  pub more : (j k : ℕ) → has need j k ≡ true → has need' j k ≡ true
  pub closed : ClosedBut net need todo → ClosedBut net need' todo'
  pub within : (P : ℕ → Bool) → ClosedUnderRules net P → KeepsWithin P need todo need' todo'
  pub less : remaining need' todo' < remaining need todo
  pub needs : length need' ≡ length need
  pub todos : length todo' ≡ length todo
