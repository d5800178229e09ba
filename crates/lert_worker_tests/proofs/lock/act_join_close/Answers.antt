use Rattle.std.proofs.{Common.{List, ap, subst}, lemmas.Result.IfOk-weaker}
use Rattle.lert_base.specs.Packet.{Packet}
use Rattle.lert_conelock.specs.{Prefix.IsPrefix, Sight.Sight}
use Rattle.lert_conelock.proofs.Prefixes.{prefix_trans}
use Rattle.lert_worker_tests.proofs.lock.act_join_close.Goals as goal

pub returns : goal.returns
returns g c =
    let joined = c.join.ensures in
    let closed = c.close.ensures in (
      closed.history,
      closed.stands,
      IfOk-weaker c.act-reply.result _ _ (λ reply acted. (
        acted.past,
        subst (λ (xs : List Packet). IsPrefix xs closed.history) (ap (λ (x : Sight _ _). x.seen) acted.shows) (prefix_trans joined.begins closed.begins),
        acted.answer,
      )) c.act-reply.ensures.done,
    )
