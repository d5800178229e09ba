use Rattle.std.proofs.Common.{◌++◌, ◌∷◌, [], List, ℕ, refl, ap, ◌∙◌, sym, subst}
use Rattle.std.specs.Prelude.{All, ◌<◌}
use Rattle.lert_trace.specs.Reader.{Reading}
use Rattle.lert_worker.specs.Ran.{Working}
use Rattle.lert_worker.proofs.Given.{given_push, given_same, has_room, lists_grown, lists_kept}
use Rattle.lert_worker.proofs.parts.Parts+TraceReader+S+FleetPass+H.give.Goals.{then-is_err-via-then-is_err, then-is_err-via-else-is_err+then-is_err-2}
use Rattle.lert_worker.proofs.parts.Parts+TraceReader+S+FleetPass+H.give.Goals as goal

pub invariant_of-self-2 : goal.invariant_of-self-2
invariant_of-self-2 g c =
    let above = subst (λ (w : Working g.row.S.Denot g.row.H.Denot). All (λ other. other < c.args.trace) w.traces) (sym c.self.view_is) c.requires.above in (
      c.self.invariant.0,
      given_push c.self.inside.traces.items c.push_back_reserved.new.self.items c.self.inside.readers.items c.push_back_reserved-2.new.self.items c.args.trace c.args.reader
          (c.push_back_reserved.ensures.items ∙ ap (λ (xs : List ℕ). xs ++ c.args.trace ∷ []) c.reserve.ensures.items)
          (c.push_back_reserved-2.ensures.items ∙ ap (λ (xs : List (Reading g.row.S.Denot)). xs ++ c.args.reader ∷ []) c.reserve-else-is_err.ensures.items)
          c.self.invariant.1 above c.requires.most,
    )

pub invariant_of-self : goal.invariant_of-self
invariant_of-self g c = (
  c.self.invariant.0,
  given_same c.self.inside.traces.items c.reserve.new.self.items c.self.inside.readers.items c.self.inside.readers.items c.reserve.ensures.items refl c.self.invariant.1,
)

pub invariant_of-self-then-is_err-2 : goal.invariant_of-self-then-is_err-2
invariant_of-self-then-is_err-2 g c = (
  c.self.invariant.0,
  given_same c.self.inside.traces.items c.reserve.new.self.items c.self.inside.readers.items c.reserve-else-is_err.new.self.items c.reserve.ensures.items
      c.reserve-else-is_err.ensures.items c.self.invariant.1,
)

pub returns-then-is_err-clause-given : goal.returns-then-is_err-clause-given
returns-then-is_err-clause-given g c = tt

pub returns-then-is_err-clause-back : goal.returns-then-is_err-clause-back
returns-then-is_err-clause-back g c = (
  refl,
  elim c.then-is_err.branch [
    | then-is_err-via-then-is_err w ↦
        w.self-is ∙ lists_kept _ c.args.self.now c.reserve.new.self.items c.self.inside.readers.items c.self.view_is c.reserve.ensures.items refl
    | then-is_err-via-else-is_err+then-is_err-2 w ↦
        w.self-is
        ∙ lists_kept _ c.args.self.now c.reserve.new.self.items w.reserve-else-is_err.new.self.items c.self.view_is c.reserve.ensures.items w.reserve-else-is_err.ensures.items
  ],
)

pub push_back_reserved-requires : goal.push_back_reserved-requires
push_back_reserved-requires g c = has_room c.reserve.result c.is_err.result _ _ c.is_err.ensures.value c.if-is_err.false c.reserve.ensures.ok

pub push_back_reserved-requires-2 : goal.push_back_reserved-requires-2
push_back_reserved-requires-2 g c =
    has_room c.reserve-else-is_err.result c.is_err-else-is_err.result _ _ c.is_err-else-is_err.ensures.value c.if-is_err-2.false c.reserve-else-is_err.ensures.ok

pub returns-clause-given : goal.returns-clause-given
returns-clause-given g c =
    lists_grown _ c.args.self.now c.push_back_reserved.new.self.items c.push_back_reserved-2.new.self.items c.self.view_is c.args.trace c.args.reader
    (c.push_back_reserved.ensures.items ∙ ap (λ (xs : List ℕ). xs ++ c.args.trace ∷ []) c.reserve.ensures.items)
    (c.push_back_reserved-2.ensures.items ∙ ap (λ (xs : List (Reading g.row.S.Denot)). xs ++ c.args.reader ∷ []) c.reserve-else-is_err.ensures.items)

pub returns-clause-back : goal.returns-clause-back
returns-clause-back g c = tt
