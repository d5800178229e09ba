use Rattle.std.proofs.Common.{◌≡◌, length, vec_len}
use Rattle.lert_words_tests.specs.Steps.{IsStage}
use Rattle.lert_words_tests.proofs.PassLaws.{IsRead}
use Rattle.lert_words_tests.proofs.by_hand.read_given.Given as goal

-- the words so far were read
abbrev pub invariant-loop-place : goal.invariant-loop-place
invariant-loop-place l = record {
  sized : vec_len l.given.values ≡ length l.options;
  stage : IsStage (length l.options) l.stage;
  read : IsRead l.options l.words l.place l.given l.stage;
}
