use Rattle.lert_base.proofs.Levels.{read_offset}
use Rattle.lert_base.proofs.settings.Settings.offset.Goals as goal

pub returns : goal.returns
returns c =
    read_offset c.self.inside.numbers c.args.self.now c.self.inside.spans c.self.inside.offsets c.args.level c.self.invariant c.self.view_is c.requires
