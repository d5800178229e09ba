use denote.Exit.{no}
use denote.Param.{param}
use denote.Param.Send.{arg_send, param_send}
use Rattle.lert_cone.proofs.ConeSend.{cone_send}
use Rattle.lert_cone.proofs.cone.held.crosses.Goals as goal

pub sent-requires-send-T : goal.sent-requires-send-T
sent-requires-send-T g c κs within =
    param_send _ _ (arg_send _ no _ (cone_send _ _ (param 2 g.row.T-Cursor) g.B.Bay g.B.Faulty g.T.CountTable c.type_bounds.send-B c.type_bounds.send-T c.type_bounds.send-T-Cursor))
