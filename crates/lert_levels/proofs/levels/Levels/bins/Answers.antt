use Rattle.std.proofs.Common.{◌-◌, ◌∙◌, ap, sym, arith}
use Rattle.lert_levels.specs.{rows.Rows.row_of, OnDisk.OnDisk}
use Rattle.lert_levels.proofs.{rows.ReadLaws.row_here, LevelLaws.level_row}
use Rattle.lert_levels.proofs.levels.Levels.bins.Goals as goal

pub overflow_sub-level : goal.overflow_sub-level
overflow_sub-level g c = c.requires.first

pub index-requires : goal.index-requires
index-requires g c =
    let v = c.self.inside in
    omega (arith, level_row v.settings v.version v.rows.items c.args.self.now c.self.view_is c.self.invariant.0.are c.args.level c.requires.first c.requires.last, v.rows.ok.0)

pub returns : goal.returns
returns g c =
    let v = c.self.inside in
    let has = level_row v.settings v.version v.rows.items c.args.self.now c.self.view_is c.self.invariant.0.are c.args.level c.requires.first c.requires.last in
    sym (row_here v.rows.items (c.args.level - 1) c.index.result.now c.bins.result.now has c.index.ensures c.bins.ensures.bins)
    ∙ ap (λ (seen : OnDisk). row_of seen.rows c.args.level) c.self.view_is
