use Rattle.std.proofs.{Common.{◌<◌, ◌≤◌, ap, arith, length, sym}, lemmas.Result.err_from_is_err_and}
use Rattle.lert_spec.proofs.LimitLaws.{first_breaks}
use Rattle.lert_args.specs.{Command.{traces_broken, workers_broken}, declared.line.Line.TheVariants.Run}
use Rattle.lert_args.proofs.CommandLaws.{all_early, at_most, breaks, breaks_by, keeps, last_breaks, none_breaks, over, workers_break}
use Rattle.lert_args.proofs.commands.run_of.Goals as goal

pub returns-in_err-settings : goal.returns-in_err-settings
returns-in_err-settings c =
    let p = err_from_is_err_and c.from_residual.result c.from_residual.ensures.1 in
    rw (p.1, p.2) (breaks _ _ (λ rule same. first_breaks _ _ rule (all_early c.args.numbers rule (c.in_err-settings.ensures rule same))))

pub returns-in_err-workers : goal.returns-in_err-workers
returns-in_err-workers c =
    let p = err_from_is_err_and c.from_residual-in_err-workers.result c.from_residual-in_err-workers.ensures.1 in
    let own = workers_broken c.args.workers in
    rw (p.1, p.2)
    (breaks _ _ (λ rule same. workers_break c.args.numbers own (traces_broken c.args.traces) c.in_ok-settings.ensures.0 rule (c.in_err-workers.ensures rule same)))

pub returns-then-as_slice-gt1024 : goal.returns-then-as_slice-gt1024
returns-then-as_slice-gt1024 c =
    let many : 1024 < length c.args.traces = omega (arith, c.if-as_slice-gt1024.true, ap length c.as_slice.ensures) in
    breaks_by _ 13 (last_breaks c.args.numbers (workers_broken c.args.workers) (traces_broken c.args.traces) c.in_ok-settings.ensures.0 13 c.in_ok-workers.ensures.0
    (over 1024 (length c.args.traces) 13 many))

pub returns : goal.returns
returns c =
    let few : length c.args.traces ≤ 1024 = omega (arith, c.if-as_slice-gt1024.false, ap length c.as_slice.ensures) in
    keeps _ _ (sym (λ i. Run (c.in_ok-settings.ensures.1 i) (c.in_ok-workers.ensures.1 i) c.args.dir c.args.traces))
    (none_breaks c.args.numbers (workers_broken c.args.workers) (traces_broken c.args.traces) c.in_ok-settings.ensures.0 c.in_ok-workers.ensures.0
    (at_most 1024 (length c.args.traces) 13 few))
