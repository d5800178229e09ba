use Rattle.std.proofs.{Common.{◌≡◌, ℕ, List, [], ◌∷◌, ◌++◌, Some, slice_get, ap, subst, arith}, lemmas.Option.slice_get_within, lemmas.Result.IfOk-weaker}
use Rattle.std.specs.Prelude.{Result, IfOk}
use Rattle.lert_base.specs.{declared.held.Held.Ghosts as HeldOf, Packet.Packet}
use Rattle.lert_conelock.specs.{Prefix.IsPrefix, After.{StandsAfter, AnswersAfter}, Sight.{Sight, LockSight, Acted}}
use Rattle.lert_conelock.proofs.Prefixes.{prefix_trans}
use Rattle.lert_fleet.specs.Cones.{FleetSight, FleetPassSight, IsPassOf, AtCone, JoinsEach, ClosesEach}
use Rattle.lert_fleet.proofs.Places.{some_at}
use Rattle.lert_worker_tests.proofs.fleet.admit_join_close.Goals as goal

composes : {H T R F : Type 0} (held : HeldOf H T R F) (fleet : FleetSight H) (cone : ℕ) (old mid other new : FleetPassSight H F)
    (states : List H) (e : Packet) (result : Result R F) → IsPassOf old fleet → IsPassOf mid fleet → IsPassOf other fleet → IsPassOf new fleet
    → JoinsEach mid other new → ClosesEach held fleet new states
    → IfOk result (λ reply. AtCone (λ lock. Acted held lock.first e reply 1) fleet cone old mid)
    → (lock : LockSight H) (state : H) → slice_get fleet cone ≡ Some lock → slice_get states cone ≡ Some state
    → (history : List Packet) × StandsAfter held lock.first history state × IfOk result (λ reply. (past : List Packet)
    × IsPrefix (past ++ e ∷ []) history × AnswersAfter held lock.first past e reply)
composes {H} {T} {R} {F} held fleet cone old mid other new states e result old_of mid_of other_of new_of joins closes done lock state lock_is state_is =
    let within = slice_get_within fleet cone lock lock_is in
    let olds = old_of.as_many in
    let mids = mid_of.as_many in
    let others = other_of.as_many in
    let news = new_of.as_many in
    let a = some_at old.cones cone (omega arith) in
    let m = some_at mid.cones cone (omega arith) in
    let b = some_at other.cones cone (omega arith) in
    let j = some_at new.cones cone (omega arith) in
    let joined = joins.cones.each cone m.0 b.0 j.0 m.1 b.1 j.1 in
    let closed = closes.each cone lock j.0 state lock_is j.1 state_is in (
      closed.history,
      closed.stands,
      IfOk-weaker result _ _ (λ reply at.
          (let acted = at lock a.0 m.0 lock_is a.1 m.1 in (
            acted.past,
            subst (λ (xs : List Packet). IsPrefix xs closed.history) (ap (λ (x : Sight H F). x.seen) acted.shows)
                (prefix_trans joined.begins closed.begins),
            acted.answer,
          ))) done,
    )

pub returns-clause-reply : goal.returns-clause-reply
returns-clause-reply g c lock state lock_is state_is = composes g.S.Held c.args.fleet c.args.cone c.args.pass c.admit-reply.new.pass c.args.other c.join.new.pass
    c.close.result.items _ c.admit-reply.result c.requires.belongs.0 c.admit-reply.ensures.belongs c.requires.belongs.1 c.join.ensures.belongs
    c.join.ensures.joined c.close.ensures c.admit-reply.ensures.done lock state lock_is state_is
