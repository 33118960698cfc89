-- What is copied down ends where the zeros begin.
use Rattle.std.proofs.Common.{◌≡◌, refl, ◌∙◌, sym, ℕ, ◌+◌, ◌-◌, ◌≤◌, List, ◌++◌, append_assoc, length, length-append, length-drop, take, drop, drop_at, take_at, replicate, arith}
use Rattle.std.proofs.Common.{length-take-le}
use Rattle.std.proofs.lemmas.List.{drop-drop}
use Rattle.fields.specs.Field.{gap_closed}
use Rattle.fields.proofs.close_gap.Goals as goal

-- d is the slice after the copy, and z its end after the clearing
closed : (s : List ℕ) (from to w : ℕ) {d z : List ℕ} → from + w ≤ to → to ≤ length s →
    d ≡ take from s ++ take (to - (from + w)) (drop (from + w) s) ++ drop (from + (to - (from + w))) s →
    z ≡ replicate (length (take (to - (to - w)) (drop (to - w) d))) 0 →
    take (to - w) d ++ (z ++ drop (to - (to - w)) (drop (to - w) d)) ≡ gap_closed from to w s
unfolding gap_closed
closed s from to w {d} {z} h k e f =
    let few : to - (from + w) ≡ to - from - w = omega arith in
    let end : from + (to - from - w) ≡ to - w = omega arith in
    let n : to - (to - w) ≡ w = omega arith in
    let back : to - w + w ≡ to = omega arith in
    let m : List ℕ = take (to - from - w) (drop (from + w) s) in
    let lf : length (take from s) ≡ from = length-take-le from s (omega arith) in
    let lm : length m ≡ to - from - w = length-take-le (to - from - w) (drop (from + w) s)
    (rw (length-drop (from + w) s) (omega arith)) in
    let l : length (take from s ++ m) ≡ to - w = length-append (take from s) m ∙ omega (arith, lf, lm) in
    let g : d ≡ take from s ++ m ++ drop (to - w) s = e ∙ rw (few, end) refl in
    let r : length (take w (drop (to - w) s)) ≡ w = length-take-le w (drop (to - w) s)
    (rw (length-drop (to - w) s) (omega arith)) in
    let zs : z ≡ replicate w 0 = f ∙ rw (n, g, drop_at (take from s ++ m) (drop (to - w) s) (to - w) l, r) refl in
    rw (
      zs,
      n,
      g,
      take_at (take from s ++ m) (drop (to - w) s) (to - w) l,
      drop_at (take from s ++ m) (drop (to - w) s) (to - w) l,
      drop-drop w (to - w) s,
      back,
    )
    (sym (append_assoc (take from s ++ m) (replicate w 0) (drop to s)))

pub returns : goal.returns
returns c =
    let a = c.args in
    closed a.s.now a.from a.to a.w c.requires.0 c.requires.1 c.copy_within.ensures.after
    (c.fill.ensures.after (λ y e. e))
