-- After every list of requests from the empty base, wild kinds and numbers included, the bytes are sound and
-- their authorizations are exactly the maximal intervals of the ledger's entries (theorem 8): `ledger-lines`
-- at the end.
use Rattle.std.specs.Prelude.{◌≡◌, ◌≢◌, ℕ, suc, ◌≤◌, Bool, true, false, eqb}
use Rattle.std.proofs.Math.Path.{refl, ap}
use Rattle.std.proofs.Common.{sym, ap₂, ◌∙◌, subst, subst₂, arith}
use Rattle.std.proofs.Math.Bool.{not}
use mathlib.Core.List.{List, [], ◌∷◌, ◌++◌, append-nil}
use Rattle.foundation.specs.Tests.{pick, cases, eq_true, ne_false, true_eq, false_eq, true-le, and-true}
use Rattle.foundation.specs.Lists.{Mem}
use Rattle.foundation.specs.Intervals.{in_interval, in_interval-true}
use Rattle.model.specs.declared.Privilege.{Privilege}
use Rattle.model.specs.declared.Head.{Head}
use Rattle.model.specs.declared.Authorization.{Authorization}
use Rattle.model.specs.declared.Request.{Request}
use Rattle.model.specs.Ranges.{last_instant, is_instant}
use Rattle.model.specs.Base.{Base, empty_base}
use Rattle.model.specs.Support.{supported, live, root_in, root}
use Rattle.model.specs.Withdrawal.{authorization, restrict}
use Rattle.model.specs.Requests.{grants, labels, withdraws, objects_after, administrators_after, new_head, takes}
use Rattle.model.specs.Requests.{leave}
use Rattle.model.specs.Requests.{root_after}
use Rattle.model.specs.Means.{plainly}
use Rattle.model.specs.Step.{refusal, effect}
use Rattle.model.specs.Step.{Accepted}
use Rattle.model.proofs.StepFacts.{accepted}
use Rattle.model.specs.Encoding.{encode, decode}
use Rattle.model.specs.EncodingFacts.{decode-encode, encode-sound, empty_sound}
use Rattle.model.specs.Soundness.{sound, sound_bytes}
use Rattle.model.specs.SoundnessFacts.{Sound, sound_tests_lem}
use Rattle.model.specs.Answers.{Answer, requests}
use Rattle.model.specs.Ledger.{Entry, entry, Ledger, empty_ledger, standing_heads, keep_entries, settle}
use Rattle.model.specs.Ledger.{new_entry, enter, follow, ledger, lines_of}
use Rattle.model.specs.Kinds.{grant_kinds, interval_kinds, withdrawal_kinds, is_kinds, is_apart}
use Rattle.laws.specs.SoundFacts.{all_supported_lem}
use Rattle.laws.specs.Rows.{starts_first_lem, interval_in_lem}
use Rattle.laws.specs.Restriction.{withdrawn_all}
use Rattle.laws.specs.Preservation.{sound-after, effect-sound}
use Rattle.laws.specs.RequestFacts.{request-accepted, request-refused}
use Rattle.theorems.specs.PlayFacts.{no_takes}
use Rattle.theorems.specs.LedgerEntries.{WithinLast, within-keep, within_append, live-lines}
use Rattle.theorems.specs.LedgerEntries.{keep-lines, restrict-settle, keep_all, lines_of_append}
use Rattle.theorems.specs.LedgerEntries.{lines_of_one}

-- the base and the ledger say the same
pub record Agrees (b : Base) (a : Ledger) : Type 0 where
  pub owners : b.objects ≡ a.owners
  pub administrators : b.administrators ≡ a.administrators
  pub last : b.last ≡ a.last
  pub lines : b.authorizations ≡ lines_of a.entries
  pub within-last : WithinLast a.entries

-- ---- one accepted request

-- entries whose authorizations are all supported lose nothing
settled : (b : Base) (es : List Entry) → Sound b → WithinLast es → b.authorizations ≡ lines_of es →
    settle (root b) es ≡ es
settled b es s f e = keep_all (λ h t. supported (root b) (standing_heads t es) h) es
    (λ t h m. subst (λ (hs : List Head). supported (root b) hs h ≡ true) (same t)
    (all_supported_lem b s t h (subst (λ (hs : List Head). Mem h hs) (sym (same t)) m)))
  where
    same : (t : ℕ) → live t b.authorizations ≡ standing_heads t es
    same t = ap (live t) e ∙ live-lines es f t

module _ (b : Base) (a : Ledger) (q : Request) (s : Sound b) (g : Accepted b q) (agrees : Agrees b a) where
  abbrev after : Base
  after = effect plainly b q

  -- what the request leaves of the entries, before unsupported instants go
  abbrev taken : List Entry
  taken = keep_entries (λ h t. not (takes q h t)) a.entries

  taken-within : WithinLast taken
  taken-within = within-keep (λ h t. not (takes q h t)) a.entries agrees.within-last

  roots : root_in (objects_after q a.owners) (administrators_after q a.administrators) ≡ root after
  roots = ap₂ (λ (x y : List Privilege). root_in (objects_after q x) (administrators_after q y))
      (sym agrees.owners) (sym agrees.administrators)

  -- what rows 3 and 5 say of a grant's interval
  rising : grants q ≡ true → q.interval.start ≤ q.interval.end
  rising e =
      true-le q.interval.start q.interval.end
      (starts_first_lem b q g (is_kinds q grant_kinds interval_kinds refl e))

  fitting : grants q ≡ true → q.interval.end ≤ last_instant
  fitting e =
      true-le q.interval.end last_instant
      (and-true (is_instant q.interval.start) (is_instant q.interval.end)
      (interval_in_lem b q g (is_kinds q grant_kinds interval_kinds refl e))).1

  new-within : WithinLast (new_entry a q)
  new-within = cases (grants q)
      (λ e. rw e ((λ t h. let w = in_interval-true q.interval t h in let l = fitting e in omega arith), tt))
      (λ e. rw e tt)

  -- a request that withdraws nothing takes nothing
  none_taken : withdraws q ≡ false → taken ≡ a.entries
  none_taken w = keep_all (λ h t. not (takes q h t)) a.entries (λ t h m. rw (no_takes q w h t))

  -- then the authorizations are those of the entries with the new one,
  new-lines : withdraws q ≡ false → after.authorizations ≡ lines_of (a.entries ++ new_entry a q)
  new-lines w = cases (grants q)
      (λ e. rw e (
      ap₂ (λ (xs : List Authorization) (n : ℕ). xs ++ (authorization (new_head (suc n) q) q.interval ∷ []))
      agrees.lines agrees.last
      ∙ sym (lines_of_append a.entries (entry (new_head (suc a.last) q) (in_interval q.interval) ∷ [])
      ∙ ap (λ (xs : List Authorization). lines_of a.entries ++ xs)
      (lines_of_one (new_head (suc a.last) q) q.interval (rising e) (fitting e)))))
      (λ e. rw (e, w) (agrees.lines ∙ ap lines_of (sym (append-nil a.entries))))

  -- and all of them are supported
  quiet : withdraws q ≡ false → after.authorizations ≡ lines_of (settle (root after) (taken ++ new_entry a q))
  quiet w =
      let f = within_append a.entries (new_entry a q) agrees.within-last new-within in
      new-lines w ∙ ap lines_of (sym (
      ap (λ (xs : List Entry). settle (root after) (xs ++ new_entry a q)) (none_taken w)
      ∙ settled after (a.entries ++ new_entry a q) (sound-after b q s g) f (new-lines w)))

  -- a withdrawal enters nothing, and restricts what it leaves
  withdrawn : withdraws q ≡ true → after.authorizations
      ≡ lines_of (settle (root after) (taken ++ new_entry a q))
  unfolding leave
  withdrawn w =
      let none : new_entry a q ≡ [] = rw (is_apart q withdrawal_kinds grant_kinds refl w) in
      withdrawn_all b q s w
      ∙ ap (λ (xs : List Authorization). restrict (root_after b q) (λ h. true) xs)
      (ap (leave q) agrees.lines ∙ keep-lines (λ h t. not (takes q h t)) a.entries)
      ∙ restrict-settle (root_after b q) taken taken-within
      ∙ ap (λ (xs : List Entry). lines_of (settle (root_after b q) xs))
      (sym (append-nil taken) ∙ ap (λ (xs : List Entry). taken ++ xs) (sym none))

  after-lines : after.authorizations ≡ lines_of (settle (root after) (taken ++ new_entry a q))
  after-lines = cases (withdraws q) withdrawn quiet

  pub agrees_after : Agrees after (enter a q)
  agrees_after = record {
    owners = ap (objects_after q) agrees.owners;
    administrators = ap (administrators_after q) agrees.administrators;
    last = ap (λ (n : ℕ). pick (labels q) (suc n) n) agrees.last;
    lines = after-lines ∙ ap (λ (r : Head → Bool). lines_of (settle r (taken ++ new_entry a q))) (sym roots);
    within-last = within-keep _ (taken ++ new_entry a q)
        (within_append taken (new_entry a q) taken-within new-within);
  }

-- ---- a list of requests

-- what a list leaves: bytes that encode a sound base which says what the ledger says
pub record MatchesLedger (s : List ℕ) (a : Ledger) : Type 0 where
  pub base : Base
  pub encoded : s ≡ encode base
  pub sound-base : sound base ≡ true
  pub agrees : Agrees base a

follow-accepted : (q : Request) (qs : List Request) (b : Base) (a : Ledger) → refusal plainly b q ≡ 0 →
    follow (q ∷ qs) b a ≡ follow qs (effect plainly b q) (enter a q)
follow-accepted q qs b a z = rw (eq_true (refusal plainly b q) 0 z, follow)

follow-refused : (q : Request) (qs : List Request) (b : Base) (a : Ledger) → refusal plainly b q ≢ 0 →
    follow (q ∷ qs) b a ≡ follow qs b a
follow-refused q qs b a n = rw (ne_false (refusal plainly b q) 0 n, follow)

-- from any sound base and a ledger that agrees with it
pub ledger-from : (qs : List Request) (b : Base) (a : Ledger) → sound b ≡ true → Agrees b a →
    MatchesLedger (requests qs (encode b)) (follow qs b a)
ledger-from [] b a s g = record { base = b; encoded = refl; sound-base = s; agrees = g }
ledger-from (q ∷ qs) b a s g = cases (eqb (refusal plainly b q) 0)
    (λ e. let z = true_eq (refusal plainly b q) 0 e in
    subst₂ MatchesLedger (ap (λ (x : Answer). requests qs x.lent) (sym (request-accepted b q s z)))
    (sym (follow-accepted q qs b a z))
    (ledger-from qs (effect plainly b q) (enter a q) (effect-sound b q s z)
    (agrees_after b a q (sound_tests_lem b s) (accepted b q z) g)))
    (λ e. let n = false_eq (refusal plainly b q) 0 e in
    subst₂ MatchesLedger (ap (λ (x : Answer). requests qs x.lent) (sym (request-refused b q s n)))
    (sym (follow-refused q qs b a n))
    (ledger-from qs b a s g))

empty_agrees : Agrees empty_base empty_ledger
unfolding lines_of
empty_agrees = record { owners = refl; administrators = refl; last = refl; lines = refl; within-last = tt }

pub ledger_left : (qs : List Request) → MatchesLedger (requests qs (encode empty_base)) (ledger qs)
unfolding ledger
ledger_left qs = ledger-from qs empty_base empty_ledger empty_sound empty_agrees

-- THEOREM 8
pub ledger-lines : (qs : List Request) →
    (sound_bytes (requests qs (encode empty_base)) ≡ true)
    × ((decode (requests qs (encode empty_base))).authorizations ≡ lines_of (ledger qs).entries)
ledger-lines qs =
    let l = ledger_left qs in (
      ap sound_bytes l.encoded ∙ encode-sound l.base l.sound-base,
      ap (λ (x : List ℕ). (decode x).authorizations) l.encoded
          ∙ ap (λ (b : Base). b.authorizations) (decode-encode l.base l.sound-base)
          ∙ l.agrees.lines,
    )
