use Rattle.lert_levels.specs.landing.Landed.{IsOfLevel}
use Rattle.lert_levels.proofs.ReadyLaws.{count_more, each_more}
use Rattle.lert_levels.proofs.merger.landings_of.Goals as goal

pub loop-lower-preserved : goal.loop-lower-preserved
loop-lower-preserved c = record {
  len = count_more c.loop-lower.landings.items c.push.new.self.items c.in_ok-new.field-0 c.loop-lower.lower c.loop-lower.invariant.len c.in_ok-push.ensures.items;
  each = each_more (IsOfLevel c.args.settings.now) c.loop-lower.landings.items c.push.new.self.items c.in_ok-new.field-0 c.loop-lower.lower c.loop-lower.invariant.len
      c.loop-lower.invariant.each c.in_ok-new.ensures.is c.in_ok-push.ensures.items;
}
