use Rattle.std.proofs.{Common.sym, lemmas.Result.err_from_is_err_and}
use Rattle.lert_spec.proofs.LimitLaws.{first_breaks}
use Rattle.lert_args.specs.{Command.{events_broken, workers_broken}, declared.line.Line.TheVariants.Drill}
use Rattle.lert_args.proofs.CommandLaws.{all_early, at_most, breaks, breaks_by, keeps, last_breaks, none_breaks, over, workers_break}
use Rattle.lert_args.proofs.commands.drill_of.Goals as goal

pub returns-in_err-settings : goal.returns-in_err-settings
returns-in_err-settings c =
    let p = err_from_is_err_and c.from_residual.result c.from_residual.ensures.1 in
    rw (p.1, p.2) (breaks _ _ (λ rule same. first_breaks _ _ rule (all_early c.args.numbers rule (c.in_err-settings.ensures rule same))))

pub returns-in_err-workers : goal.returns-in_err-workers
returns-in_err-workers c =
    let p = err_from_is_err_and c.from_residual-in_err-workers.result c.from_residual-in_err-workers.ensures.1 in
    let events = events_broken 4194304 c.args.events in
    rw (p.1, p.2)
    (breaks _ _ (λ rule same. workers_break c.args.numbers (workers_broken c.args.workers) events c.in_ok-settings.ensures.0 rule (c.in_err-workers.ensures rule same)))

pub returns-then-events-gt-DRILL_EVENTS : goal.returns-then-events-gt-DRILL_EVENTS
returns-then-events-gt-DRILL_EVENTS c =
    let events = events_broken 4194304 c.args.events in
    breaks_by _ 14 (last_breaks c.args.numbers (workers_broken c.args.workers) events c.in_ok-settings.ensures.0 14 c.in_ok-workers.ensures.0
    (over 4194304 c.args.events 14 c.if-events-gt-DRILL_EVENTS.true))

pub returns : goal.returns
returns c =
    let events = events_broken 4194304 c.args.events in
    keeps _ _ (sym (λ i. Drill (c.in_ok-settings.ensures.1 i) (c.in_ok-workers.ensures.1 i) c.args.seed c.args.events))
    (none_breaks c.args.numbers (workers_broken c.args.workers) events c.in_ok-settings.ensures.0 c.in_ok-workers.ensures.0
    (at_most 4194304 c.args.events 14 c.if-events-gt-DRILL_EVENTS.false))
