use mathlib.Core.Path.{sym, ◌∙◌}
use mathlib.Core.Bool.{true≢false}
use Rattle.engine.proofs.walking.noted.Goals as goal

pub note_word-requires : goal.note_word-requires
note_word-requires c =
    let s = c in
    let w = s.requires.3 c.if-listing.true in
    (s.requires.0, s.requires.1, s.requires.2, w.0, w.1)

pub returns : goal.returns
returns c = λ l. absurd (true≢false (sym l ∙ c.if-listing.false))
