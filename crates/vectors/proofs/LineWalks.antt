-- The line that begins at a place of a text, found byte by byte; the lines of a text, one after the other;
-- and a transcript's walk, which says at each line what it says of all lines. Assumes nothing.
use Rattle.std.proofs.Common.{Bool, List, [], add-one, ap, append-nil, ap₂, arith, drop, drop-cons, eqb, false, get_or, get_or-drop, leb, length, length-append, length-drop, length-take-le, refl, suc, sym, take, take-suc, take_all, true, ℕ, ◌&&◌, ◌++◌, ◌+◌, ◌-◌, ◌<◌, ◌∙◌, ◌∷◌, ◌≡◌, ◌≤◌}
use lib.Seq.{take-append-le, drop-length, append_snoc}
use Rattle.foundation.specs.Tests.{cases, pick, agree, and-true, and_intro, true-le, eq_true, true_eq}
use Rattle.foundation.specs.Bytes.{eq_list, eq_list_eq, eq_list_refl}
use Rattle.model.specs.Text.{newline, space, extend, split, without_empty_last, lines}
use Rattle.laws.specs.FirstLine.{has_newline, before_newline, behind_newline, before_all, behind_none}
use Rattle.laws.specs.FirstLine.{split_ended}
use Rattle.laws.specs.FirstLine.{split-whole}
use Rattle.vectors.specs.declared.lines.Span.{Span}
use Rattle.model.specs.Base.{empty_base}
use Rattle.model.specs.Encoding.{encode}
use Rattle.model.specs.EncodingFacts.{encode-sound, empty_sound, sound-length}
use Rattle.model.specs.Soundness.{sound_bytes}
use Rattle.model.specs.Answers.{create}
use Rattle.laws.specs.Created.{created}
use Rattle.serving.specs.LineTurns.{Turned}
use Rattle.vectors.specs.Transcripts.{marked, opens, asks, unmarked, TranscriptState, stage, fresh}
use Rattle.vectors.specs.Transcripts.{line_stands, next_state}
use Rattle.vectors.specs.Transcripts.{agrees, count_standing, state_after, lines_left}
use Rattle.vectors.specs.Said.{next_opens, next_asks, next_other}
use Rattle.vectors.specs.LinePlaces.{Spans, Leads, Checks}

-- ---- a line, byte by byte

-- the bytes from `from` to i belong to the line, and from i on it goes on
pub record TextWalk (text : List ℕ) (from i : ℕ) : Type 0 where
  pub low : from ≤ i
  pub high : i ≤ length text
  pub line : before_newline (drop from text) ≡ take (i - from) (drop from text) ++ before_newline (drop i text)
  pub rest : behind_newline (drop from text) ≡ behind_newline (drop i text)

pub walk_start : (text : List ℕ) (from : ℕ) → from ≤ length text → TextWalk text from from
walk_start text from h =
    let z : from - from ≡ 0 = omega arith in
    record { low = omega arith; high = h; line = rw z; rest = refl }

module _ {text : List ℕ} {from i : ℕ} (w : TextWalk text from i) where
  -- a byte that is no newline belongs to the line
  pub walk-byte : i < length text → eqb (get_or text i 0) newline ≡ false → TextWalk text from (i + 1)
  walk-byte h e =
      let c = get_or text i 0 in
      let d = drop-cons text i 0 h in
      let k = i - from in
      let w₁ = w.low in
      let b : before_newline (drop i text) ≡ c ∷ before_newline (drop (suc i) text) = rw (d, e) in
      let at : get_or (drop from text) k 0 ≡ c =
      get_or-drop from text k 0 ∙ ap (λ (j : ℕ). get_or text j 0) (omega arith) in
      let more : take (suc k) (drop from text) ≡ take k (drop from text) ++ (c ∷ []) =
      take-suc (drop from text) k 0 (omega (arith, length-drop from text))
      ∙ ap (λ (x : ℕ). take k (drop from text) ++ (x ∷ [])) at in
      let n : suc i - from ≡ suc k = omega arith in
      record {
        low = omega arith;
        high = omega arith;
        line = w.line ∙ ap (λ (r : List ℕ). take k (drop from text) ++ r) b
            ∙ rw (add-one i, n, more) (sym (append_snoc (take k (drop from text)) c
            (before_newline (drop (suc i) text))));
        rest = w.rest ∙ ap behind_newline d ∙ rw (e, add-one i);
      }

  -- at a newline it ends
  pub walk_ended : i < length text → eqb (get_or text i 0) newline ≡ true →
      Spans text from (record { end = i; next = i + 1 })
  walk_ended h e =
      let d = drop-cons text i 0 h in
      let b : before_newline (drop i text) ≡ [] = rw (d, e) in
      let w₁ = w.low in
      record {
        line = sym (w.line ∙ rw (b, append-nil (take (i - from) (drop from text))));
        rest = sym (w.rest ∙ ap behind_newline d ∙ rw (e, add-one i));
        low = w.low;
        high = w.high;
        within = omega arith;
        further = λ q. omega arith;
      }

  -- and at the end of the text
  pub walk-whole : i ≡ length text → Spans text from (record { end = i; next = i })
  walk-whole h =
      let d : drop i text ≡ [] = rw (h, drop-length text) in
      let b : before_newline (drop i text) ≡ [] = rw d in
      let w₁ = w.low in
      record {
        line = sym (w.line ∙ rw (b, append-nil (take (i - from) (drop from text))));
        rest = d ∙ sym (w.rest ∙ ap behind_newline d);
        low = w.low;
        high = w.high;
        within = w.high;
        further = λ q. omega arith;
      }

-- ---- marks and replies

pub marked_long : (c : ℕ) (l : List ℕ) → marked c l ≡ true → 2 ≤ length l
unfolding marked
marked_long c l e =
    true-le 2 (length l) (and-true (leb 2 (length l)) (eqb (get_or l 0 0) c && eqb (get_or l 1 0) space) e).0

-- a reply with its last byte is what is owed
pub with_last_lem : (a b : List ℕ) (x m : ℕ) → length b ≡ suc m →
    eq_list a (take m b) && eqb (get_or b m 0) x ≡ eq_list (a ++ (x ∷ [])) b
with_last_lem a b x m n = agree (eq_list a (take m b) && eqb (get_or b m 0) x) (eq_list (a ++ (x ∷ [])) b)
    (λ e. let p = and-true (eq_list a (take m b)) (eqb (get_or b m 0) x) e in
    let front = eq_list_eq a (take m b) p.0 in
    let last = true_eq (get_or b m 0) x p.1 in
    let q : a ++ (x ∷ []) ≡ b =
    rw (front, ← last) (sym (take-suc b m 0 (omega arith)) ∙ take_all (suc m) b (omega arith)) in
    rw q (eq_list_refl b))
    (λ e. let q = eq_list_eq (a ++ (x ∷ [])) b e in
    let l : length a ≡ m = omega (arith, length-append a (x ∷ []), ap length q) in
    let front : take m b ≡ a =
    ap (take m) (sym q) ∙ take-append-le m a (x ∷ []) (omega arith) ∙ take_all m a (omega arith) in
    let last : get_or b m 0 ≡ x =
    ap (λ (s : List ℕ). get_or s m 0) (sym q) ∙ rw (← l) (last_of a x) in
    and_intro (eq_list a (take m b)) (eqb (get_or b m 0) x) (rw front (eq_list_refl a))
    (eq_true (get_or b m 0) x last))
  where
    last_of : (a : List ℕ) (x : ℕ) → get_or (a ++ (x ∷ [])) (length a) 0 ≡ x
    last_of [] x = refl
    last_of (c ∷ a) x = last_of a x

-- nothing is told where none is owed
pub none_owed : (a b : List ℕ) (x : ℕ) → length b ≡ 0 → false ≡ eq_list (a ++ (x ∷ [])) b
none_owed [] [] x e = refl
none_owed (c ∷ a) [] x e = refl
none_owed a (c ∷ b) x e = absurd (omega arith)

-- ---- what a line leads to

module _ (s line : List ℕ) where
  pub leads-opens : (s' out : List ℕ) → sound_bytes s ≡ true → opens line ≡ true → s' ≡ (create s).lent →
      Leads s line 0 s' out
  leads-opens s' out e o q =
      let z : s' ≡ encode empty_base = q ∙ created s (sound-length s e) in
      record {
        stages = ap {B = TranscriptState} (λ (b : List ℕ). stage b []) z
            ∙ sym (next_opens (stage s []) line o);
        few = omega arith;
        sound = ap sound_bytes z ∙ encode-sound empty_base empty_sound;
      }

  pub leads-asks : {n : ℕ} {out s' : List ℕ} → opens line ≡ false → asks line ≡ true →
      Turned s (unmarked line) n out s' →
      Leads s line n s' out
  leads-asks o a t = record {
    stages = ap₂ {C = TranscriptState} (λ (b w : List ℕ). stage b w) t.bytes t.text
        ∙ sym (next_asks (stage s []) line o a);
    few = t.few;
    sound = t.sound;
  }

  pub leads_other : (out : List ℕ) → sound_bytes s ≡ true → opens line ≡ false → asks line ≡ false →
      Leads s line 0 s out
  leads_other out e o a = record {
    stages = sym (next_other (stage s []) line o a);
    few = omega arith;
    sound = e;
  }

-- ---- the lines of a text

lines_more : (p : List ℕ) (s : List ℕ) → without_empty_last (p ∷ split newline s) ≡ p ∷ lines s
lines_more p [] = refl
lines_more p (c ∷ s) = cases (eqb c newline)
    (λ e. rw e)
    (λ e. rw e (extended p c (split newline s)))
  where
    extended : (p : List ℕ) (c : ℕ) (ps : List (List ℕ)) → without_empty_last (p ∷ extend c ps) ≡ p
        ∷ without_empty_last (extend c ps)
    extended p c [] = refl
    extended p c (q ∷ ps) = refl

-- a text that has a byte has a first line, and those behind it
pub lines_front : (s : List ℕ) → 0 < length s → lines s ≡ before_newline s ∷ lines (behind_newline s)
lines_front [] h = absurd (omega arith)
lines_front (c ∷ s) h = cases (has_newline (c ∷ s))
    (λ e. ap without_empty_last (split_ended (c ∷ s) e) ∙ lines_more (before_newline (c ∷ s))
    (behind_newline (c ∷ s)))
    (λ e. ap without_empty_last (split-whole (c ∷ s) e) ∙ rw (before_all (c ∷ s) e, behind_none (c ∷ s) e))

-- ---- the walk through a transcript

-- the lines before the place `at` stand, and what is said of all lines is said of those from there on, where
-- the base has the bytes s and n bytes of `out` are owed
pub record Goes (text s out : List ℕ) (n count at title : ℕ) : Type 0 where
  pub agreed : agrees fresh (lines text) ≡ agrees (stage s (take n out)) (lines (drop at text))
  pub stood : count_standing fresh (lines text) ≡ count + count_standing (stage s (take n out))
      (lines (drop at text))
  pub halted : state_after fresh (lines text) ≡ state_after (stage s (take n out)) (lines (drop at text))
  pub left : lines_left fresh (lines text) ≡ lines_left (stage s (take n out)) (lines (drop at text))
  pub sound : sound_bytes s ≡ true
  pub few : n ≤ 24001
  pub within : at ≤ length text
  pub titled : title ≤ length text
  pub bounded : count ≤ at

pub goes_start : (text s out : List ℕ) → s ≡ encode empty_base → Goes text s out 0 0 0 (length text)
goes_start text s out e = record {
  agreed = rw e;
  stood = rw e (omega arith);
  halted = rw e;
  left = rw e;
  sound = ap sound_bytes e ∙ encode-sound empty_base empty_sound;
  few = omega arith;
  within = omega arith;
  titled = omega arith;
  bounded = omega arith;
}

-- the line at a place, and those behind it
pub line-here : (text : List ℕ) (at : ℕ) {p : Span} → at < length text → Spans text at p →
    lines (drop at text) ≡ take (p.end - at) (drop at text) ∷ lines (drop p.next text)
line-here text at h f =
    lines_front (drop at text) (omega (arith, length-drop at text)) ∙ rw (f.line, f.rest)

-- whether a line stands depends on what is owed, and what it leads to on the base
stands_owed : (s owed l : List ℕ) → line_stands (stage s owed) l ≡ line_stands (stage [] owed) l
unfolding line_stands
stands_owed s owed l = refl

next_base : (s owed l : List ℕ) → next_state (stage s owed) l ≡ next_state (stage s []) l
unfolding next_state
next_base s owed l = refl

pick-le : (b : Bool) (x y n : ℕ) → x ≤ n → y ≤ n → pick b x y ≤ n
pick-le true x y n h k = h
pick-le false x y n h k = k

module _ {text s out : List ℕ} {n count at title : ℕ} (w : Goes text s out n count at title)
    {l : List ℕ} (at' : ℕ) (here : lines (drop at text) ≡ l ∷ lines (drop at' text)) where
  -- a line that stands leads on
  pub goes_on : {s' out' : List ℕ} {n' title' : ℕ} → at < at' → at' ≤ length text →
      true ≡ line_stands (stage [] (take n out)) l → Leads s l n' s' out' → title' ≡ pick (opens l) at title →
      Goes text s' out' n' (count + 1) at' title'
  goes_on {s'} {out'} {n'} lo hi st k q =
      let g = stage s (take n out) in
      let rest = lines (drop at' text) in
      let e = stands_owed s (take n out) l ∙ sym st in
      let x = next_base s (take n out) l ∙ sym k.stages in
      record {
        agreed = w.agreed ∙ ap (agrees g) here ∙ rw e (ap (λ (h : TranscriptState). agrees h rest) x);
        stood = w.stood ∙ ap (λ (ls : List (List ℕ)). count + count_standing g ls) here
            ∙ rw e (omega (arith, ap (λ (h : TranscriptState). count_standing h rest) x));
        halted = w.halted ∙ ap (state_after g) here ∙ rw e (ap (λ (h : TranscriptState). state_after h rest)
            x);
        left = w.left ∙ ap (lines_left g) here ∙ rw e (ap (λ (h : TranscriptState). lines_left h rest) x);
        sound = k.sound;
        few = k.few;
        within = hi;
        titled = rw q (pick-le (opens l) at title (length text) w.within w.titled);
        bounded = omega (arith, w.bounded);
      }

  -- one that does not stand ends it
  pub goes_wrong : false ≡ line_stands (stage [] (take n out)) l →
      Checks text (record { good = false; lines = count; n = n; at = at; title = title }) out
  goes_wrong st =
      let g = stage s (take n out) in
      let e = stands_owed s (take n out) l ∙ sym st in
      let r : state_after fresh (lines text) ≡ g = w.halted ∙ ap (state_after g) here ∙ rw e in
      record {
        agreed = sym (w.agreed ∙ ap (agrees g) here ∙ rw e);
        count = sym (w.stood ∙ ap (λ (ls : List (List ℕ)). count + count_standing g ls) here
            ∙ rw e (omega arith));
        owed = sym (ap (λ (h : TranscriptState). h.owed) r);
        left = sym (w.left ∙ ap (lines_left g) here ∙ rw e (sym here));
        few = w.few;
        within = w.within;
        titled = w.titled;
        bounded = w.bounded;
      }

-- and so does the end of the text
pub goes_end : {text s out : List ℕ} {n count at title : ℕ} → Goes text s out n count at title →
    at ≡ length text →
    24001 ≤ length out →
    Checks text (record { good = eqb n 0; lines = count; n = n; at = at; title = title }) out
goes_end {text} {s} {out} {n} {count} {at} w e room =
    let g = stage s (take n out) in
    let none : lines (drop at text) ≡ [] = rw (e, drop-length text) in
    let r : state_after fresh (lines text) ≡ g = w.halted ∙ ap (state_after g) none in
    record {
      agreed = sym (w.agreed ∙ ap (agrees g) none ∙ rw (length-take-le n out (omega (arith, w.few))));
      count = sym (w.stood ∙ ap (λ (ls : List (List ℕ)). count + count_standing g ls) none ∙ omega arith);
      owed = sym (ap (λ (h : TranscriptState). h.owed) r);
      left = none ∙ sym (w.left ∙ ap (lines_left g) none);
      few = w.few;
      within = w.within;
      titled = w.titled;
      bounded = w.bounded;
    }
