use Rattle.std.proofs.Common.{refl, arith}
use Rattle.lert_merge.proofs.tree.ReplayLemmas.{at_begins, at_goes_on, replay_ends}
use Rattle.lert_merge.proofs.tree.matches.replay.Goals as goal

pub loop-place-init : goal.loop-place-init
loop-place-init c = at_begins _ _ _ _ c.requires.nodes c.requires.below c.requires.within c.requires.played (let fits = c.ranges.key.fits in omega arith)

pub loop-place-preserved : goal.loop-place-preserved
loop-place-preserved c = at_goes_on _ _ _ _ _ c.loop-place.place c.loop-place.winner c.loop-place.winner_key _ _ _ _ _ c.loop-place.invariant c.loop-place-test.true refl refl
    c.stream_of.ensures c.stream_of-winner.ensures c.key_of-winner_key.ensures

pub returns-clause-played : goal.returns-clause-played
returns-clause-played c = replay_ends _ _ _ c.loop-place.place _ c.loop-place.invariant.stands c.loop-place-test.false
