use Rattle.std.proofs.{Common.{◌++◌, ◌∷◌, [], List, length, ap, sym, ◌∙◌, arith, length-append}, lemmas.List.length-map}
use Rattle.lert_cone.specs.Stands.{Standing}
use Rattle.lert_ingest.specs.Bays.{bays_of}
use Rattle.lert_ingest.proofs.BayLaws.{bays_of-push}
use Rattle.lert_top.proofs.cones.cones.bring_back.Goals as goal

pub push_front_reserved-requires : goal.push_front_reserved-requires
push_front_reserved-requires g c =
    let here = c.loop-cone.invariant in
    let left = c.pop.new.self.items in
    let sum = ap length here.bays in
    let before = length-append (bays_of c.args.cones.items) c.args.bays.now.items in
    let now = length-append (bays_of c.loop-cone.cones.items) c.loop-cone.bays.items in
    let cones_before = length-map c.args.cones.items (λ (s : Standing g.row.B.Denot). s.bay) in
    let cones_now = length-map c.loop-cone.cones.items (λ (s : Standing g.row.B.Denot). s.bay) in
    let popped = ap length c.in-Some.ensures.items ∙ length-append left (c.in-Some.cone ∷ []) in
    omega (arith, c.requires, here.room, sum, before, now, cones_before, cones_now, popped, c.loop-cone.bays.ok)

pub loop-cone-preserved : goal.loop-cone-preserved
loop-cone-preserved g c =
    let here = c.loop-cone.invariant in
    let left = c.pop.new.self.items in
    record {
      bays =
          ap (λ xs. bays_of left ++ xs) (c.push_front_reserved.ensures.items ∙ ap (λ b. b ∷ c.loop-cone.bays.items) c.into_bay.ensures)
          ∙ (sym (bays_of-push left c.in-Some.cone c.loop-cone.bays.items)
          ∙ (ap (λ (xs : List (Standing g.row.B.Denot)). bays_of xs ++ c.loop-cone.bays.items) (sym c.in-Some.ensures.items)
          ∙ here.bays));
      room = c.push_front_reserved.ensures.capacity ∙ here.room;
    }
