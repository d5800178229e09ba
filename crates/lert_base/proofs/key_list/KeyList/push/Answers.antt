use Rattle.std.proofs.Common.{◌≡◌, [], ◌∷◌, ◌++◌, length, ◌∙◌, ap, ap₂, arith}
use Rattle.lert_base.specs.{Keys.Keys, Keys.items_of}
use Rattle.lert_base.proofs.ItemsOf.{length-items_of, items_of-push}
use Rattle.lert_base.proofs.key_list.KeyList.push.Goals as goal

pub push_reserved-requires : goal.push_reserved-requires
push_reserved-requires c =
    let long : length (items_of c.self.inside.keys.items c.self.inside.weights.items) ≡ length c.self.inside.keys.items =
    length-items_of c.self.inside.keys.items c.self.inside.weights.items c.self.invariant.same in
    omega (arith, long, c.requires.room, ap (λ (l : Keys). length l.items) c.self.view_is, ap (λ (l : Keys). l.room) c.self.view_is)

pub returns : goal.returns
returns c =
    let old = c.self.inside in
    λ i. record {
      items = (ap₂ items_of c.push_reserved.ensures.items c.push_reserved-2.ensures.items
          ∙ items_of-push old.keys.items old.weights.items c.args.key c.args.weight c.self.invariant.same
          ∙ ap (λ (l : Keys). l.items ++ record { key = c.args.key; weight = c.args.weight } ∷ []) c.self.view_is) i;
      room = (c.push_reserved.ensures.capacity ∙ ap (λ (l : Keys). l.room) c.self.view_is) i;
    }
