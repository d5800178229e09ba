use Rattle.std.proofs.Common.{ap, arith, sym, subst, ℕ, ◌∙◌}
use Rattle.lert_levels.specs.OnDisk.{OnDisk}
use Rattle.lert_levels.specs.rows.Young.{Young, AreLight}
use Rattle.lert_levels_tests.proofs.SampleLaws.{ready_next}
use Rattle.lert_levels_tests.proofs.levels.flush_into.Goals as goal

pub returns-clause-ok : goal.returns-clause-ok
returns-clause-ok c =
    ready_next c.args.k c.args.zero.now c.args.levels.now c.flush.new.self c.fill.new.zero c.requires.ready c.requires.few
    (ap (λ (disk : OnDisk). disk.settings) c.in_ok-flush.ensures.ok) (ap (λ (disk : OnDisk). disk.version) c.in_ok-flush.ensures.ok) c.in_ok-flush.ensures.at
    c.fill.ensures.settings (c.fill.ensures.from ∙ ap (λ (young : Young). young.from) c.drop_oldest.ensures) (omega (arith, c.fill.ensures.to))

pub flush-requires-clause-light : goal.flush-requires-clause-light
flush-requires-clause-light c = subst (λ (version : ℕ). AreLight version c.args.zero.now.bins) (sym c.requires.ready.disk_version) c.tables-tables.ensures.light
