use Rattle.std.proofs.Common.{◌≡◌, take, map}
use Rattle.clap.specs.Words.{app_of}
use Rattle.lert_args.specs.App.{app_with}
use Rattle.lert_args.proofs.by_clap.command_of.Given as goal

-- the command so far has the options so far
abbrev pub invariant-loop-option : goal.invariant-loop-option
invariant-loop-option l = app_of l.command ≡ app_with (map (λ option. option.now) (take l.option-index l.options))
