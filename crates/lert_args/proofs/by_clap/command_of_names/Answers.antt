use Rattle.std.proofs.{Common.{◌∙◌, Some, ap, ap₂, true}, lemmas.Result.IfOk-weaker}
use Rattle.clap.specs.{Simple.app_of_fields, Words.{App, Rule, rule_of, with_rule}, declared.builder.command.Command.{Command, Command-F}, declared.builder.action.ArgAction.TheVariants.Append}
use Rattle.lert_args.proofs.by_clap.command_of_names.Goals as goal

pub returns : goal.returns
returns c =
    let fields =
    c.disable_version_flag.ensures
    ∙ ap (λ (f : Command-F Command). record f { disable_version_flag = true })
    (c.disable_help_flag.ensures ∙ ap (λ (f : Command-F Command). record f { disable_help_flag = true }) c.no_binary_name.ensures) in
    let shape =
    ap app_of_fields fields
    ∙ ap (λ (a : App). record a { top = record a.top { no_binary_name = true; disable_help_flag = true; disable_version_flag = true } })
    c.new-2.ensures.app in
    let rule = ap rule_of c.action-names.ensures ∙ ap (λ (r : Rule). record r { action = Some Append }) c.new.ensures.rule in
    let local = ap (λ a. a.global) c.action-names.ensures ∙ c.new.ensures.optional.1 in
    IfOk-weaker c.arg.result _ _ (λ _ adds. adds.shape local ∙ ap₂ with_rule shape rule) c.arg.ensures
