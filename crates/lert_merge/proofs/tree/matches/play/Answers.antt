use Rattle.std.proofs.Common.{◌<◌, refl, sym, subst}
use Rattle.lert_merge.specs.tree.Matches.{IsPlayed}
use Rattle.lert_merge.proofs.tree.BeginLemmas.{one_won, begins_played, begins_present}
use Rattle.lert_merge.proofs.tree.matches.play.Goals as goal

pub keep_losers-requires-clause-won : goal.keep_losers-requires-clause-won
keep_losers-requires-clause-won c = one_won _ _ _ c.find_winners.ensures.nodes c.find_winners.ensures.won

pub returns-clause-played : goal.returns-clause-played
returns-clause-played c = subst (IsPlayed _ _ _) (sym c.winner_at-first.ensures)
    (begins_played _ _ _ _ _ refl c.find_winners.ensures.nodes c.find_winners.ensures.won c.keep_losers.ensures.lost)

pub returns-clause-present : goal.returns-clause-present
returns-clause-present c = subst (λ n. n < c.args.streams) (sym c.winner_at-first.ensures)
    (begins_present _ _ _ c.requires.some.0 c.requires.some.1 c.find_winners.ensures.nodes c.find_winners.ensures.won)
