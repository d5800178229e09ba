use Rattle.std.proofs.{Common.rules, lemmas.Slice.overwrites}
use Rattle.lert_bay.proofs.fields.put.Goals as goal

pub returns-clause-behind : goal.returns-clause-behind
returns-clause-behind c = search (rules, overwrites)
