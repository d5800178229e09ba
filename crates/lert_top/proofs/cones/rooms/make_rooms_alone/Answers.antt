use Rattle.std.proofs.{Common.{◌+◌, ◌∷◌, [], length, ap, sym, subst, ◌∙◌, length-append}, lemmas.List.Elements.{All-push, All-same}}
use Rattle.lert_ingest.specs.Cones.{IsNewRoom}
use Rattle.lert_top.proofs.cones.rooms.make_rooms_alone.Goals as goal

pub loop-preserved : goal.loop-preserved
loop-preserved c =
    let here = c.loop.invariant in
    let room = c.with_secret.result in
    let made = subst (IsNewRoom c.args.settings.now) (sym c.with_secret.ensures) (c.in_ok-new.ensures.settings, c.in_ok-new.ensures.room) in
    let items = c.in_ok-push.ensures.items in
    record {
      number = ap length items ∙ (length-append c.loop.rooms.items (room ∷ []) ∙ ap (λ n. n + 1) here.number);
      each = All-same (IsNewRoom c.args.settings.now) c.push.new.self.items _ items
          (All-push (IsNewRoom c.args.settings.now) c.loop.rooms.items room here.each made);
    }
