use Rattle.lookup.proofs.LentBodies.{lent-body}
use Rattle.lookup.proofs.sound.SoundBase.referrers.Goals as goal

pub counts_of-c-requires : goal.counts_of-c-requires
counts_of-c-requires c = let sound = c.args.self.now.sound in search (lent-body, sound)

pub slice_bounds-new-count : goal.slice_bounds-new-count
slice_bounds-new-count c = let sound = c.args.self.now.sound in search (lent-body, sound)

pub slice_bounds-new-start : goal.slice_bounds-new-start
slice_bounds-new-start c = let sound = c.args.self.now.sound in search (lent-body, sound)

pub new-requires : goal.new-requires
new-requires c = let sound = c.args.self.now.sound in search (lent-body, sound)

pub returns : goal.returns
returns c = let sound = c.args.self.now.sound in search (lent-body, sound)
