use Rattle.std.proofs.Common.{ap, drop, ◌∙◌}
use Rattle.lert_args.specs.Command.{line_of}
use Rattle.lert_args.proofs.CommandLaws.{IsAnswered-none, answered, command-of, line_of-none}
use Rattle.lert_args.proofs.line.read_line.Goals as goal

pub returns-in-run : goal.returns-in-run
returns-in-run c =
    let words = c.args.words.now in
    let all = answered c.read_run.result _ _ (command-of words c.word.result.now c.word.ensures ∙ ap (λ name. line_of name (drop 1 words)) c.in-run.is) c.read_run.ensures in
    record { line = all.line; sound = all.sound; usage = all.usage }

pub returns-in-recover : goal.returns-in-recover
returns-in-recover c =
    let words = c.args.words.now in
    let all = answered c.read_recover.result _ _ (command-of words c.word.result.now c.word.ensures ∙ ap (λ name. line_of name (drop 1 words)) c.in-recover.is) c.read_recover.ensures in
    record { line = all.line; sound = all.sound; usage = all.usage }

pub returns-in-gen : goal.returns-in-gen
returns-in-gen c =
    let words = c.args.words.now in
    let all = answered c.read_gen.result _ _ (command-of words c.word.result.now c.word.ensures ∙ ap (λ name. line_of name (drop 1 words)) c.in-gen.is) c.read_gen.ensures in
    record { line = all.line; sound = all.sound; usage = all.usage }

pub returns-in-drill : goal.returns-in-drill
returns-in-drill c =
    let words = c.args.words.now in
    let all = answered c.read_drill.result _ _ (command-of words c.word.result.now c.word.ensures ∙ ap (λ name. line_of name (drop 1 words)) c.in-drill.is) c.read_drill.ensures in
    record { line = all.line; sound = all.sound; usage = all.usage }

pub returns-in_default : goal.returns-in_default
returns-in_default c =
    let words = c.args.words.now in
    let name = c.word.result.now in
    let none = line_of-none name (drop 1 words) c.in_default.not-run c.in_default.not-recover c.in_default.not-gen c.in_default.not-drill in
    let all = IsAnswered-none _ (command-of words name c.word.ensures ∙ none) in
    record { line = tt; sound = tt; usage = all.usage }
