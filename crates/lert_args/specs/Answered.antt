-- What is answered where words spell a line, and where they spell none.
use Rattle.std.specs.Prelude.{◌≡◌, ℕ, Option, Some, None, Result, IfOk, IfErr}
use Rattle.lert_args.specs.{Command.usage_of, declared.line.Line.Line, declared.line.LineFault.LineFault, declared.line.LineFault.TheVariants.Usage}

-- the line that was spelled is answered where it breaks no rule, or the first rule that it breaks, or 0 where there is no line
pub record IsAnswered (result : Result Line LineFault) (spelled : Option Line) : Type 0 where
  pub line : IfOk result (λ line. spelled ≡ Some line)
  pub sound : IfOk result (λ _. usage_of spelled ≡ None)
  pub usage : IfErr result (λ fault. (rule : ℕ) → fault ≡ Usage rule → usage_of spelled ≡ Some rule)
