use Rattle.std.proofs.{Common.arith, lemmas.Str.Pattern.split_once_first}
use Rattle.lert_words_tests.proofs.HeldLaws.{around_first}
use Rattle.lert_words_tests.proofs.word.split_value.Goals as goal

pub returns : goal.returns
returns c = around_first c.args.text.now c.split_once.result (split_once_first 61 c.args.text.now c.split_once.result c.split_once.ensures.cases (omega arith))
