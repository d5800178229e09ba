use Rattle.std.proofs.Common.{Ok, refl, rules}
use Rattle.lert_buffers.specs.{Rings.ring_of, declared.buffers.Fill.TheVariants.{Low, MustGo, Ready}}
use Rattle.lert_worker.specs.Sending.{packet_with}
use Rattle.lert_worker.proofs.OutboxLaws.{brought_by}
use Rattle.lert_worker.proofs.outbox.Outbox.bring.Goals as goal

pub returns-in-Low-clause-brought : goal.returns-in-Low-clause-brought
returns-in-Low-clause-brought g c =
    brought_by c.args.fill Low c.in-Low.is (packet_with c.args.self.now (ring_of c.args.self.now.rings c.args.cone)) c.args.cone c.args.self.now.rings
    c.args.self.now.rings c.args.pass.now c.args.pass.now (Ok tt) (refl, refl) tt

-- both parts are found by search, so that a call of another kind is refused for what it leaves
pub returns-in-Ready-clause-brought : goal.returns-in-Ready-clause-brought
returns-in-Ready-clause-brought g c =
    brought_by c.args.fill Ready c.in-Ready.is (packet_with c.args.self.now (ring_of c.args.self.now.rings c.args.cone)) c.args.cone c.args.self.now.rings _ c.args.pass.now _ _
    (search rules) (search rules)

pub returns-in-MustGo-clause-brought : goal.returns-in-MustGo-clause-brought
returns-in-MustGo-clause-brought g c =
    brought_by c.args.fill MustGo c.in-MustGo.is (packet_with c.args.self.now (ring_of c.args.self.now.rings c.args.cone)) c.args.cone c.args.self.now.rings _ c.args.pass.now _ _
    (search rules) (search rules)
