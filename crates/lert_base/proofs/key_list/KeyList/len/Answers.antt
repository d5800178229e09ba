use Rattle.std.proofs.Common.{◌≡◌, length, ap, arith}
use Rattle.lert_base.specs.{Keys.Keys, Keys.items_of}
use Rattle.lert_base.proofs.ItemsOf.{length-items_of}
use Rattle.lert_base.proofs.key_list.KeyList.len.Goals as goal

pub returns : goal.returns
returns c =
    let long : length (items_of c.self.inside.keys.items c.self.inside.weights.items) ≡ length c.self.inside.keys.items =
    length-items_of c.self.inside.keys.items c.self.inside.weights.items c.self.invariant.same in
    omega (arith, long, c.len.ensures, ap (λ (l : Keys). length l.items) c.self.view_is)
