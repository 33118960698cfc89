-- Texts printed at a place, and one behind the other.
use mathlib.Core.Path.{◌≡◌, sym, ap, ap₂, subst, ◌∙◌}
use mathlib.Core.List.{List, [], ◌++◌, append-nil}
use Prim.Native.Nat.{ℕ, ◌+◌, ◌≤◌}
use native.Mathlib.Omega.{arith}
use lib.ListN.{length, take, drop, take-append-drop, length-append}
use lib.Seq.{take_at}
use Rattle.fields.specs.Field.{splice}
use Rattle.fields.proofs.ByteLaws.{length-splice, splice-join}
use Rattle.model.specs.declared.Reply.{Reply}
use Rattle.model.specs.Text.{print_reply}
use Rattle.model.specs.Session.{runs_of}
use Rattle.printing.specs.Print.{Printed, RunsIn}

-- no text
pub printed_none : (at : ℕ) (s : List ℕ) → Printed at [] s s at
unfolding splice
printed_none at s =
    let e : at + 0 ≡ at = omega arith in
    let w : splice at [] s ≡ s =
    ap₂ (λ (t : List ℕ) (k : ℕ). t ++ drop k s) (append-nil (take at s)) e ∙ take-append-drop at s in
    record { ends = omega arith; bytes = sym w }

-- the same text by another name
pub printed_as : {at n : ℕ} {t₁ t₂ a b : List ℕ} → t₁ ≡ t₂ → Printed at t₁ a b n → Printed at t₂ a b n
printed_as {at} {a = a} e p = record {
  ends = p.ends ∙ ap (λ (t : List ℕ). at + length t) e;
  bytes = p.bytes ∙ ap (λ (t : List ℕ). splice at t a) e;
}

module _ {at n₁ : ℕ} {t a b : List ℕ} (p : Printed at t a b n₁) (h : at + length t ≤ length a) where
  -- the buffer is as long as it was
  pub printed-room : length b ≡ length a
  printed-room = ap length p.bytes ∙ length-splice at t a h

  -- a second text behind the first
  pub printed-then : {n₂ : ℕ} {u c : List ℕ} → Printed n₁ u b c n₂ → Printed at (t ++ u) a c n₂
  printed-then {u = u} q = record {
    ends = omega (arith, p.ends, q.ends, length-append t u);
    bytes =
        q.bytes
        ∙ ap₂ (λ (k : ℕ) (s : List ℕ). splice k u s) p.ends p.bytes
        ∙ splice-join at t u a h;
  }

-- at the front of a buffer
pub printed_front : {n : ℕ} {t a b : List ℕ} → Printed 0 t a b n → take n b ≡ t
unfolding splice
printed_front {t = t} {a = a} p =
    ap₂ take p.ends p.bytes ∙ take_at t (drop (0 + length t) a) (0 + length t) (omega arith)

-- ---- by what a reply is

abbrev text_of_reply : List ℕ → Reply → List ℕ
text_of_reply list r = print_reply r (runs_of r list)

-- the text fits a buffer, and its runs are in the list
abbrev ReplyReady : List ℕ → List ℕ → Reply → Type 0
ReplyReady out list r = (length (text_of_reply list r) ≤ length out) × RunsIn r list

pub ready : (out list : List ℕ) {r r₁ : Reply} → r ≡ r₁ → ReplyReady out list r → ReplyReady out list r₁
ready out list e w = subst (ReplyReady out list) e w

pub printed_reply : {n : ℕ} {a b : List ℕ} {r r₁ : Reply} (list : List ℕ) → r ≡ r₁ →
    Printed 0 (text_of_reply list r₁) a b n → Printed 0 (text_of_reply list r) a b n
printed_reply list e p = printed_as (ap (text_of_reply list) (sym e)) p
