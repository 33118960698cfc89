use Rattle.std.proofs.Common.{◌≡◌, drop}
use Rattle.model.specs.Text.{one_of}
use Rattle.reading.specs.LineFields.{words_of}
use Rattle.reading.proofs.words.one_of.Given as goal

-- no word up to the place is the field
abbrev pub invariant-loop-word : goal.invariant-loop-word
invariant-loop-word g l = one_of (words_of l.words) l.s ≡ one_of (words_of (drop l.word-index l.words)) l.s
