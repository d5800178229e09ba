use Rattle.lert_levels.proofs.streams.NextLaws.{next_told, next_untold, next_ended, next_given, next_refused, next_ascending, next_limit, next_malformed, next_leaves, next_others, next_count}
use Rattle.lert_levels.proofs.streams.NextLaws.{next_same}
use Rattle.lert_levels.proofs.streams.reading.BinStreamsStreams.next.Goals as goal

pub returns-clause-told : goal.returns-clause-told
returns-clause-told g c ps told = next_told c.ask.ensures.asked c.requires ps told

pub returns-clause-untold : goal.returns-clause-untold
returns-clause-untold g c none = next_untold c.ask.ensures.asked c.requires none

pub returns-clause-ended : goal.returns-clause-ended
returns-clause-ended g c files is = next_ended c.ask.ensures.asked c.requires files is

pub returns-clause-given : goal.returns-clause-given
returns-clause-given g c = next_given c.ask.ensures.asked c.requires

pub returns-clause-refused : goal.returns-clause-refused
returns-clause-refused g c = next_refused c.ask.ensures.asked c.requires

pub returns-clause-ascending : goal.returns-clause-ascending
returns-clause-ascending g c = next_ascending c.ask.ensures.asked c.requires

pub returns-clause-limit : goal.returns-clause-limit
returns-clause-limit g c = next_limit c.ask.ensures.asked c.requires

pub returns-clause-malformed : goal.returns-clause-malformed
returns-clause-malformed g c at is = next_malformed c.ask.ensures.asked c.requires at is

pub returns-clause-breaks : goal.returns-clause-breaks
returns-clause-breaks g c at = next_leaves c.ask.ensures.asked c.requires at

pub returns-clause-others : goal.returns-clause-others
returns-clause-others g c k ne = next_others c.ask.ensures.asked c.requires g.B.Bay.files k ne

pub returns-clause-count : goal.returns-clause-count
returns-clause-count g c = next_count c.ask.ensures.asked c.requires

pub returns-clause-same : goal.returns-clause-same
returns-clause-same g c = next_same c.ask.ensures.asked c.requires
