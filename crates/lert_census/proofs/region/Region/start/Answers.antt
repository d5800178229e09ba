use Rattle.std.proofs.Common.{◌≡◌, ◌∙◌, ap, sym, drop}
use Rattle.lert_census.specs.Census.{Census, lines_of}
use Rattle.lert_census.proofs.{LineLaws.{all_lines, stands_tally}, WeaveLaws.woven_lines, region.Region.start.Goals.After-start}
use Rattle.lert_census.proofs.region.Region.start.Goals as goal

all : (c : After-start) → drop c.start.result.given (lines_of c.of.result.value) ≡ lines_of c.args.self.now
all c =
    let census : Census = record { settings = c.self.inside.settings; region = c.self.inside.region; table = c.self.inside.table } in
    ap (λ v. drop c.start.result.given (lines_of v)) (c.of.ensures ∙ sym c.self.view_is)
    ∙ all_lines census c.start.result.given c.start.ensures.left
    ∙ ap lines_of c.self.view_is

pub returns-clause-all : goal.returns-clause-all
returns-clause-all c = all c

pub returns-clause-tally : goal.returns-clause-tally
returns-clause-tally c = λ h stands. all c ∙ stands_tally c.args.self.now h stands

pub returns-clause-woven : goal.returns-clause-woven
returns-clause-woven c = λ workers traces h stands woven. all c ∙ woven_lines c.args.self.now workers traces h stands woven
