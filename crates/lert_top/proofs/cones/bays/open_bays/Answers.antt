use Rattle.std.proofs.Common.{◌≡◌, ◌+◌, ◌++◌, ◌∷◌, [], true, length, slice_get, refl, inl, inr, ap, sym, ◌∙◌, subst, arith, rules, append_assoc, length-append}
use Rattle.std.proofs.lemmas.List.FromFn.{map-range_with_len_more}
use Rattle.lert_io.proofs.Rising.{risen_since}
use Rattle.lert_io.specs.Fault.{HasRisen}
use Rattle.lert_place.specs.{Openings.{bay_refused, bays_opened}, declared.opening.Opening.Opening, declared.opening.Wanted.TheVariants.Bay}
use Rattle.lert_top.proofs.{cones.AskedLaws.{all_returned, same_returned}, cones.ConeLaws.each-push}
use Rattle.lert_top.proofs.cones.bays.open_bays.Goals as goal

pub returns-in-Err-clause-refused : goal.returns-in-Err-clause-refused
returns-in-Err-clause-refused g c =
    let here = c.loop-cone.invariant in
    let rose = risen_since (g.P.Faulty.faults c.args.place.now) (g.P.Faulty.faults c.loop-cone.place) (g.P.Faulty.faults c.open_bay.new.self) here.falls
    c.open_bay.ensures.cause.never_falls (c.open_bay.ensures.cause.failed (search rules)) in
    let cone = c.loop-cone.cone in
    let dir = c.args.dir.now in
    inr (
      refl,
      subst (HasRisen (g.P.Faulty.faults c.args.place.now)) (sym c.put_back_bays.ensures.faults) rose,
      (
        cone,
        c.loop-cone-test.true,
        c.put_back_bays.ensures.asked
            ∙ (c.in-Err.ensures.asked
            ∙ (ap (λ xs. xs ++ bay_refused dir cone ∷ []) here.asked
            ∙ append_assoc (g.P.Place.asked c.args.place.now) (bays_opened dir cone) (bay_refused dir cone ∷ []))),
      ),
      all_returned g.P.Bay.Faulty.mark c.loop-cone.bays.items (g.P.Place.handed_bays c.put_back_bays.new.place) (g.P.Place.returned_bay c.put_back_bays.new.place)
          (c.put_back_bays.ensures.bays ∙ (c.in-Err.ensures.refused ∙ here.opened)) c.put_back_bays.ensures.returned here.marked,
      same_returned c.loop-cone.bays.items (g.P.Place.handed_bays c.put_back_bays.new.place) (g.P.Place.returned_bay c.put_back_bays.new.place)
          (c.put_back_bays.ensures.bays ∙ (c.in-Err.ensures.refused ∙ here.opened)) c.put_back_bays.ensures.returned,
    )

pub loop-cone-preserved : goal.loop-cone-preserved
loop-cone-preserved g c =
    let here = c.loop-cone.invariant in
    let cone = c.loop-cone.cone in
    let dir = c.args.dir.now in
    let bay = c.in-Ok-open_bay.bay in
    let opened : Opening = record { wanted = Bay dir cone; opened = true } in
    let items = c.push_back_reserved.ensures.items in
    record {
      opened = c.in-Ok-open_bay.ensures.handed ∙ (ap (λ xs. xs ++ bay ∷ []) here.opened ∙ sym items);
      number = ap length items ∙ (length-append c.loop-cone.bays.items (bay ∷ []) ∙ ap (λ n. n + 1) here.number);
      room = omega (arith, here.room, c.push_back_reserved.ensures.capacity);
      marked = λ place found is.
          each-push (λ k b. g.P.Bay.Faulty.mark b ≡ k) c.loop-cone.bays.items bay here.marked (c.in-Ok-open_bay.ensures.number ∙ ap length here.opened)
          place found (ap (λ xs. slice_get xs place) (sym items) ∙ is);
      asked =
          c.in-Ok-open_bay.ensures.asked
          ∙ (ap (λ xs. xs ++ opened ∷ []) here.asked
          ∙ (append_assoc (g.P.Place.asked c.args.place.now) (bays_opened dir cone) (opened ∷ [])
          ∙ ap (λ xs. g.P.Place.asked c.args.place.now ++ xs) (sym (map-range_with_len_more (λ k. record { wanted = Bay dir k; opened = true }) 0 cone cone (omega arith)))));
      traces = c.open_bay.ensures.traces ∙ here.traces;
      falls = omega (arith, here.falls, c.open_bay.ensures.cause.never_falls);
    }

pub returns-in_default : goal.returns-in_default
returns-in_default g c = record { opened = tt; number = tt; room = tt; marked = tt; asked = tt; refused = inl (refl, refl); never_falls = omega arith; traces = refl }

pub returns-in-Err-clause-traces : goal.returns-in-Err-clause-traces
returns-in-Err-clause-traces g c = c.put_back_bays.ensures.traces ∙ (c.open_bay.ensures.traces ∙ c.loop-cone.invariant.traces)

pub returns-in-Err-clause-never_falls : goal.returns-in-Err-clause-never_falls
returns-in-Err-clause-never_falls g c = omega (arith, c.loop-cone.invariant.falls, c.open_bay.ensures.cause.never_falls, c.put_back_bays.ensures.faults)

pub returns : goal.returns
returns g c = record {
  opened = c.loop-cone.invariant.opened;
  number = omega (arith, c.loop-cone.invariant.number, c.loop-cone-test.false, c.loop-cone.auto.cone-end);
  room = c.loop-cone.invariant.room;
  marked = c.loop-cone.invariant.marked;
  asked =
      let end : c.loop-cone.cone ≡ c.args.cones = omega (arith, c.loop-cone-test.false, c.loop-cone.auto.cone-end) in
      subst (λ cones. g.P.Place.asked c.loop-cone.place ≡ g.P.Place.asked c.args.place.now ++ bays_opened c.args.dir.now cones) end c.loop-cone.invariant.asked;
  refused = tt;
  never_falls = c.loop-cone.invariant.falls;
  traces = c.loop-cone.invariant.traces;
}

pub put_back_bays-requires-clause-handed : goal.put_back_bays-requires-clause-handed
put_back_bays-requires-clause-handed g c = λ lifetimes outlive. ap length (sym (c.in-Err.ensures.refused ∙ c.loop-cone.invariant.opened))

pub put_back_bays-requires-clause-marked : goal.put_back_bays-requires-clause-marked
put_back_bays-requires-clause-marked g c = λ lifetimes outlive cone bay is. c.loop-cone.invariant.marked cone bay is

pub put_back_bays-requires-clause-small : goal.put_back_bays-requires-clause-small
put_back_bays-requires-clause-small g c = omega (arith, c.loop-cone.invariant.number, c.loop-cone-test.true, c.ranges.cones)

pub push_back_reserved-requires : goal.push_back_reserved-requires
push_back_reserved-requires g c = omega (arith, c.loop-cone.invariant.number, c.loop-cone.invariant.room, c.loop-cone-test.true, c.loop-cone.bays.ok.0)
