-- What a call of the fleet tells of the cone that it names.
use Rattle.std.proofs.{Common.{Result, Ok, Err, OnOk, IfErr, MatchResult, ◌≡◌, ℕ, ◌<◌, List, [], length, set, ap, sym, ◌∙◌, subst}, lemmas.List.{set-set, set-get_or}}
use Rattle.lert_base.specs.{declared.held.Held.Ghosts as HeldOf, Packet.Packet}
use Rattle.lert_conelock.specs.Sight.{Sight, Keeps, Loses, Acted, Declined}
use Rattle.lert_fleet.specs.Cones.{FleetSight, FleetPassSight, AtCone}
use Rattle.lert_buffers.specs.{Rings.{Rings, ring_of, with_ring}, declared.buffers.Fill.Fill}
use Rattle.lert_fleet.proofs.Places.{some_at}
use Rattle.lert_spec.specs.declared.item.Item.{Item}
use Rattle.lert_worker.specs.Sending.{AtOwn, IsBrought, WasBusy, WasTaken, WasTurned, waits_at}

module _ {H T R F : Type 0} (held : HeldOf H T R F) (fleet : FleetSight H) (cone : ℕ) (within : cone < length fleet)
    (packet sent : Packet) (is : packet ≡ sent) (old new : FleetPassSight H F) where
  pub taken_at : (more : ℕ) (reply : R) → AtCone (λ lock. Acted held lock.first packet reply more) fleet cone old new
      → AtCone (λ lock. Keeps) fleet cone old new → AtOwn (WasTaken sent more) cone old new
  taken_at more reply at kept = subst (λ p. AtOwn (WasTaken p more) cone old new) is (λ before after was found.
      let lock = some_at fleet cone within in
      let acted = at lock.0 before after lock.1 was found in
      record {
        calls_are = ap (λ (x : Sight H F). x.calls) acted.shows;
        refused_are = ap (λ (x : Sight H F). x.refused) acted.shows;
        met = acted.met;
        waits_are = ap (λ (x : Sight H F). x.waits) acted.shows;
        counts = (kept lock.0 before after lock.1 was found).counts;
      })

  pub turned_at : (more : ℕ) (fault : F) → AtCone (λ lock. Declined held lock.first packet fault more) fleet cone old new
      → AtCone (λ lock. Keeps) fleet cone old new → AtOwn (WasTurned sent fault more) cone old new
  turned_at more fault at kept = subst (λ p. AtOwn (WasTurned p fault more) cone old new) is (λ before after was found.
      let lock = some_at fleet cone within in
      let declined = at lock.0 before after lock.1 was found in
      record {
        calls_are = ap (λ (x : Sight H F). x.calls) declined.shows;
        refused_are = ap (λ (x : Sight H F). x.refused) declined.shows;
        met = declined.met;
        waits_are = ap (λ (x : Sight H F). x.waits) declined.shows;
        counts = (kept lock.0 before after lock.1 was found).counts;
      })

pub busy_at : {H F : Type 0} (fleet : FleetSight H) (cone : ℕ) → cone < length fleet → (old new : FleetPassSight H F)
    → AtCone (λ lock. Loses) fleet cone old new → AtCone (λ lock. Keeps) fleet cone old new → AtOwn WasBusy cone old new
busy_at fleet cone within old new at kept = λ before after was found.
    let lock = some_at fleet cone within in record {
      lost = at lock.0 before after lock.1 was found;
      counts = (kept lock.0 before after lock.1 was found).counts;
    }

-- items that came out of a ring, and back into it
pub given_back : (rings taken after : Rings) (cone : ℕ) (items : List Item)
    → taken ≡ with_ring rings cone [] → items ≡ ring_of rings cone → after ≡ with_ring taken cone items → after ≡ rings
given_back rings taken after cone items taken_is items_are is =
    is
    ∙ (ap (λ r. with_ring r cone items) taken_is
    ∙ ap (λ (r : List (List Item)). record rings { rings = r })
    (set-set rings.rings cone [] items ∙ (ap (set rings.rings cone) items_are ∙ set-get_or rings.rings cone [])))

-- what comes of a ring that asks for this
pub brought_by : {H F : Type 0} (fill is : Fill) → fill ≡ is → (packet : Packet) (cone : ℕ) (rings left : Rings) (old new : FleetPassSight H F) (result : Result (Unit {0}) F)
    → OnOk result (IsBrought is packet cone rings left old new) → IfErr result (λ fault. AtOwn (WasTurned packet fault (waits_at is)) cone old new)
    → MatchResult result (λ _. IsBrought fill packet cone rings left old new) (λ fault. AtOwn (WasTurned packet fault (waits_at fill)) cone old new)
brought_by fill is same packet cone rings left old new (Ok done) brought turned = subst (λ f. IsBrought f packet cone rings left old new) (sym same) brought
brought_by fill is same packet cone rings left old new (Err fault) brought turned = subst (λ f. AtOwn (WasTurned packet fault (waits_at f)) cone old new) (sym same) turned
