use Rattle.std.proofs.Common.{◌≡◌, ◌++◌, drop, map}
use Rattle.lert_args.proofs.by_clap.texts_behind.Given as goal

-- the texts so far, and the words to come, are the words behind the command
abbrev pub invariant-loop-number : goal.invariant-loop-number
invariant-loop-number l = map (λ text. text.now) l.texts.items ++ drop l.number l.words ≡ drop 1 l.words
