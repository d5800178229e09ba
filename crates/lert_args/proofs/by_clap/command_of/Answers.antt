use Rattle.std.proofs.{Common.{[], ap, map, ◌∙◌}, lemmas.List.take_all, lemmas.Result.err_from_is_err_and}
use Rattle.clap.specs.Words.{rule_of}
use Rattle.lert_args.specs.App.{app_with}
use Rattle.lert_args.proofs.Loops.{option_more}
use Rattle.lert_args.proofs.by_clap.command_of.Goals as goal

pub loop-option-preserved : goal.loop-option-preserved
loop-option-preserved c =
    option_more c.args.options.now c.loop-option.option-index (record { ref_ptr = (0, 0); now = [] }) _ _ (rule_of c.option_arg.result) c.loop-option-test.true c.option_arg.ensures.rule
    c.loop-option.invariant (c.in_ok-command-2.ensures.shape c.option_arg.ensures.local)

pub returns-in_err-command : goal.returns-in_err-command
returns-in_err-command c = let p = err_from_is_err_and c.from_residual.result c.from_residual.ensures.1 in rw p.1 tt

pub returns-in_err-command-2 : goal.returns-in_err-command-2
returns-in_err-command-2 c =
    let p = err_from_is_err_and c.from_residual-in_err-command-2.result c.from_residual-in_err-command-2.ensures.1 in
    rw p.1 tt

pub returns : goal.returns
returns c =
    c.loop-option.invariant
    ∙ ap (λ options. app_with (map (λ option. option.now) options)) (take_all c.loop-option.option-index c.args.options.now c.loop-option-test.false)
