use Rattle.std.proofs.Common.{subst}
use Rattle.lert_spec.specs.Limits.{IsValid}
use Rattle.lert_reports.proofs.{RecordFound.found, RecordLaws.reads_back}
use Rattle.lert_reports.proofs.log.read.read_log.Goals as goal

pub returns-clause-found : goal.returns-clause-found
returns-clause-found c =
    found c.args.settings.now c.args.cone c.args.before.now c.args.payload.now c.read_parts.result (λ k. (c.type_inv.payload k).fits) c.read_parts.ensures

pub returns-clause-reads_back : goal.returns-clause-reads_back
returns-clause-reads_back c record_ rules is =
    reads_back c.args.settings.now c.args.cone c.args.before.now c.args.payload.now c.read_parts.result
    (subst IsValid c.numbers-valid.ensures.value c.numbers-valid.ensures.valid) c.read_parts.ensures record_ rules is
