use Rattle.std.proofs.Common.{subst}
use Rattle.lert_spec.specs.Limits.{IsValid}
use Rattle.lert_levels.specs.rows.Rows.{directory_text}
use Rattle.lert_files.proofs.OpenedLaws.{differs_told, malformed_told, opened_told, other_told, passes_told, refuses_told}
use Rattle.lert_files.proofs.files.read_files.Goals as goal

pub returns-clause-opened : goal.returns-clause-opened
returns-clause-opened g c seen told =
    opened_told c.args.settings.now c.args.cone (subst IsValid c.numbers.ensures.value c.numbers.ensures.valid) c.ranges.cone.fits seen
    c.read_in_order.new.store.reports (directory_text c.read_in_order.new.levels.rows) c.read_in_order.new.levels.rows c.read_in_order.result
    (c.read_in_order.ensures.told seen told)

pub returns-clause-malformed : goal.returns-clause-malformed
returns-clause-malformed g c seen told =
    malformed_told c.args.settings.now c.args.cone (subst IsValid c.numbers.ensures.value c.numbers.ensures.valid) c.ranges.cone.fits seen
    c.read_in_order.new.store.reports (directory_text c.read_in_order.new.levels.rows) c.read_in_order.new.levels.rows c.read_in_order.result
    (c.read_in_order.ensures.told seen told)

pub returns-clause-other : goal.returns-clause-other
returns-clause-other g c seen told =
    other_told c.args.settings.now c.args.cone (subst IsValid c.numbers.ensures.value c.numbers.ensures.valid) c.ranges.cone.fits seen
    c.read_in_order.new.store.reports (directory_text c.read_in_order.new.levels.rows) c.read_in_order.new.levels.rows c.read_in_order.result
    (c.read_in_order.ensures.told seen told)

pub returns-clause-passes : goal.returns-clause-passes
returns-clause-passes g c seen told =
    passes_told c.args.settings.now c.args.cone (subst IsValid c.numbers.ensures.value c.numbers.ensures.valid) c.ranges.cone.fits seen
    c.read_in_order.new.store.reports (directory_text c.read_in_order.new.levels.rows) c.read_in_order.new.levels.rows c.read_in_order.result
    (c.read_in_order.ensures.told seen told)

pub returns-clause-refuses : goal.returns-clause-refuses
returns-clause-refuses g c seen told =
    refuses_told c.args.settings.now c.args.cone (subst IsValid c.numbers.ensures.value c.numbers.ensures.valid) c.ranges.cone.fits seen
    c.read_in_order.new.store.reports (directory_text c.read_in_order.new.levels.rows) c.read_in_order.new.levels.rows c.read_in_order.result
    (c.read_in_order.ensures.told seen told)

pub returns-clause-differs : goal.returns-clause-differs
returns-clause-differs g c seen told =
    differs_told c.args.settings.now c.args.cone (subst IsValid c.numbers.ensures.value c.numbers.ensures.valid) c.ranges.cone.fits seen
    c.read_in_order.new.store.reports (directory_text c.read_in_order.new.levels.rows) c.read_in_order.new.levels.rows c.read_in_order.result
    (c.read_in_order.ensures.told seen told)
