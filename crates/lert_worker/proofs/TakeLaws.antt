-- All cones while a trace is read: an item more.
use Rattle.std.proofs.Common.{◌≡◌, ◌≢◌, ◌⊎◌, ℕ, ◌+◌, ◌*◌, ◌^◌, ◌<◌, ◌≤◌, cond, eqb, List, [], ◌∷◌, ◌++◌, length, Some, slice_get, refl, ap, sym, ◌∙◌, subst, inl, inr, arith, length-append}
use Rattle.std.proofs.{lemmas.Bool.{cases_eq, eq-eqb}, lemmas.List.{get_or-set_same, get_or-set_other, length-set, set-set}, lemmas.List.Elements.{All-push, All-nil}, lemmas.Option.slice_get_within}
use Rattle.std.specs.Prelude.{All}
use Rattle.lert_base.specs.{Packet.Packet, Weave.IsWhole, declared.cone_fault.ConeFault.ConeFault}
use Rattle.lert_buffers.specs.{Rings.{Rings, fill_of, ring_of, with_ring}, declared.buffers.Fill.Fill, declared.buffers.Fill.TheVariants.{Low, MustGo, Ready}}
use Rattle.lert_conelock.specs.Sight.{Sight}
use Rattle.lert_fleet.specs.Cones.{FleetPassSight, ChangesOnly}
use Rattle.lert_fleet.proofs.Places.{some_at}
use Rattle.lert_spec.specs.{declared.item.Item.Item, declared.numbers.Numbers.Numbers, Items.most_weight, Mix.cone_of}
use Rattle.lert_worker.specs.{Outbox.{HasRoom, HaveRoom, IsSendable, IsItemOf}, Sending.{AreSent, AtOwn, Goes, IsBrought, Lane, Lanes, SentIn, Stays, WasTaken, WasTurned, waits_at}}
use Rattle.lert_worker.specs.declared.end.WorkerEnd.TheVariants.{Cone}
use Rattle.lert_worker.proofs.{Counts.{AreWhole, low_short, low_still, must_whole, one_of, ready_short, ready_whole}, LaneLaws.{lane_other, lane_same, lane_stays, lane_taken, lane_tried, ringed}}
use Rattle.lert_worker.proofs.SentLaws.{lane_stopped, lane_turned}

-- rings, one of which has other items
module _ (rings : Rings) (at : ℕ) (items : List Item) where
  pub ring_here : at < length rings.rings → ring_of (with_ring rings at items) at ≡ items
  ring_here within = get_or-set_same rings.rings at items [] within

  pub ring_else : (cone : ℕ) → cone ≢ at → ring_of (with_ring rings at items) cone ≡ ring_of rings cone
  ring_else cone other = get_or-set_other rings.rings at cone items [] other

-- rings with room, one of which has other items
pub room_with : (s : Numbers) (rings : Rings) (at : ℕ) (items : List Item) → length rings.rings ≡ 2 ^ s.cone_bits → HaveRoom s rings → HasRoom s at items
    → HaveRoom s (with_ring rings at items)
room_with s rings at items number room here = λ cone named.
    elim (cases_eq cone at) [
      | inl same ↦
          let there = ring_here rings at items (omega (arith, named, same, number)) in
          subst (λ c. HasRoom s c (ring_of (with_ring rings at items) c)) (sym same) (subst (HasRoom s at) (sym there) here)
      | inr other ↦ subst (HasRoom s cone) (sym (ring_else rings at items cone other)) (room cone named)
    ]

pub room_none : (s : Numbers) (cone : ℕ) → 1 ≤ s.packet → HasRoom s cone []
room_none s cone some = record { short = omega (arith, some); of_cone = All-nil (IsItemOf s cone) }

pub waits_few : (fill : Fill) → waits_at fill ≤ 1
waits_few Low = omega arith
waits_few Ready = omega arith
waits_few MustGo = omega arith

-- a ring that got items and was emptied is empty, and the others are as they were
pub room_emptied : (s : Numbers) (rings mid after : Rings) (at : ℕ) (items : List Item) → 1 ≤ s.packet → length rings.rings ≡ 2 ^ s.cone_bits → HaveRoom s rings
    → mid ≡ with_ring rings at items → after ≡ with_ring mid at [] → HaveRoom s after
room_emptied s rings mid after at items some number room mid_is is =
    let all : after ≡ with_ring rings at [] =
    is ∙ (ap (λ r. with_ring r at []) mid_is ∙ ap (λ (r : List (List Item)). record rings { rings = r }) (set-set rings.rings at items [])) in
    subst (HaveRoom s) (sym all) (room_with s rings at [] number room (room_none s at some))

module _ (s : Numbers) (some : 1 ≤ s.packet) (rings : Rings) (item : Item) (at : ℕ) (of_it : at ≡ cone_of s item.key) (within : at < length rings.rings)
    (weight : (1 ≤ item.weight) × (item.weight ≤ most_weight 2)) (room : HasRoom s at (ring_of rings at)) where
  abbrev pub pushed : List Item
  pushed = ring_of rings at ++ item ∷ []

  length_pushed : length pushed ≡ length (ring_of rings at) + 1
  length_pushed = length-append (ring_of rings at) (item ∷ [])

  of_cone_pushed : All (IsItemOf s at) pushed
  of_cone_pushed = All-push (IsItemOf s at) (ring_of rings at) item room.of_cone (sym of_it, weight)

  -- the ring may go
  pub may_send : IsSendable s at (ring_of (with_ring rings at pushed) at)
  may_send = subst (IsSendable s at) (sym (ring_here rings at pushed within)) (record {
    some = omega (arith, length_pushed);
    few = omega (arith, length_pushed, room.short);
    of_cone = of_cone_pushed;
  })

  -- it has room for one item more, where it asked for nothing or may go
  pub room_low : fill_of s.packet (length (ring_of rings at) + 1) ≡ Low → HasRoom s at pushed
  room_low low = record { short = let less = low_short s.packet (length (ring_of rings at)) some room.short low in omega (arith, less, length_pushed); of_cone = of_cone_pushed }

  pub room_ready : fill_of s.packet (length (ring_of rings at) + 1) ≡ Ready → HasRoom s at pushed
  room_ready ready = record { short = let less = ready_short s.packet (length (ring_of rings at) + 1) some ready in omega (arith, less, length_pushed); of_cone = of_cone_pushed }

  -- so have all rings, once the cone took the items or was held
  pub room_done : {H F : Type 0} (mid after : Rings) (packet : Packet) (more : ℕ) (pass next : FleetPassSight H F) → length rings.rings ≡ 2 ^ s.cone_bits → HaveRoom s rings
      → mid ≡ with_ring rings at pushed → fill_of s.packet (length (ring_of rings at) + 1) ≡ Ready → Goes packet more at mid after pass next ⊎ Stays at mid after pass next
      → HaveRoom s after
  room_done mid after packet more pass next number all mid_is ready done =
      elim done [
        | inl goes ↦ room_emptied s rings mid after at pushed some number all mid_is goes.rings_are
        | inr stays ↦ subst (HaveRoom s) (sym (stays.rings_are ∙ mid_is)) (room_with s rings at pushed number all (room_ready ready))
      ]

  -- whatever the ring asks for
  pub room_brought : {H F : Type 0} (fill : Fill) (mid after : Rings) (packet : Packet) (pass next : FleetPassSight H F) → length rings.rings ≡ 2 ^ s.cone_bits → HaveRoom s rings
      → mid ≡ with_ring rings at pushed → fill ≡ fill_of s.packet (length (ring_of rings at) + 1) → IsBrought fill packet at mid after pass next → HaveRoom s after
  room_brought Low mid after packet pass next number all mid_is is brought =
      subst (HaveRoom s) (sym (brought.0 ∙ mid_is)) (room_with s rings at pushed number all (room_low (sym is)))
  room_brought Ready mid after packet pass next number all mid_is is brought = room_done mid after packet 0 pass next number all mid_is (sym is) brought
  room_brought MustGo mid after packet pass next number all mid_is is brought = room_emptied s rings mid after at pushed some number all mid_is brought.rings_are

  whole_ring : (number trace : ℕ) → AreWhole s.packet (length (ring_of rings at) + 1) → IsWhole s.packet (ringed number trace pushed)
  whole_ring number trace whole = record { times = whole.times; least = whole.least; most = whole.most; items_are = length_pushed ∙ whole.is }

  module _ {H F : Type 0} (number trace : ℕ) (items : List Item) (start pass : FleetPassSight H F) (lanes : Lanes s number trace 0 items start pass rings) where
    -- the ring of the item, before it may go
    lane_pushed : (before now : Sight H F) → slice_get start.cones at ≡ Some before → slice_get pass.cones at ≡ Some now
        → Lane s number at trace (items ++ item ∷ []) (length (ring_of rings at)) before now pushed
    lane_pushed before now was is =
        lane_same s number at trace item items (ring_of rings at) (length (ring_of rings at)) before now (sym of_it)
        (lanes.each at before now (omega arith) was is)

    -- a step that changes this cone alone
    step : (next : FleetPassSight H F) (after : Rings) (ring : List Item) → ChangesOnly at pass next → ring_of after at ≡ ring
        → ((cone : ℕ) → cone ≢ at → ring_of after cone ≡ ring_of rings cone)
        → ((before now then : Sight H F) → slice_get start.cones at ≡ Some before → slice_get pass.cones at ≡ Some now → slice_get next.cones at ≡ Some then
        → Lane s number at trace (items ++ item ∷ []) (length ring) before then ring)
        → Lanes s number trace 0 (items ++ item ∷ []) start next after
    step next after ring only here else own = record {
      as_many = only.as_many ∙ lanes.as_many;
      each = λ cone before then low was is. elim (cases_eq cone at) [
        | inl same ↦
            let found : slice_get next.cones at ≡ Some then = ap (slice_get next.cones) (sym same) ∙ is in
            let old = some_at pass.cones at (omega (arith, slice_get_within next.cones at then found, only.as_many)) in
            let lane = own before old.0 then (ap (slice_get start.cones) (sym same) ∙ was) old.1 found in
            subst (λ c. Lane s number c trace (items ++ item ∷ []) (length (ring_of after c)) before then (ring_of after c)) (sym same)
            (subst (λ r. Lane s number at trace (items ++ item ∷ []) (length r) before then r) (sym here) lane)
        | inr other ↦
            let lane = lanes.each cone before then (omega arith) was (sym (only.others cone other) ∙ is) in
            let more = lane_other s number cone trace item items (ring_of rings cone) (length (ring_of rings cone)) before then (λ e. other (sym e ∙ sym of_it)) lane in
            subst (λ r. Lane s number cone trace (items ++ item ∷ []) (length r) before then r) (sym (else cone other)) more
      ];
    }

    -- no cone changes
    none_changed : ChangesOnly at pass pass
    none_changed = record { lo_is = refl; hi_is = refl; as_many = refl; others = λ other apart. refl }

    pub take_low : fill_of s.packet (length (ring_of rings at) + 1) ≡ Low → Lanes s number trace 0 (items ++ item ∷ []) start pass (with_ring rings at pushed)
    take_low low = step pass (with_ring rings at pushed) pushed none_changed (ring_here rings at pushed within) (ring_else rings at pushed)
        (λ before now then was is found.
        lane_tried s number at trace (items ++ item ∷ []) pushed (length (ring_of rings at)) (length pushed) before then
        (λ k small. low_still s.packet (length (ring_of rings at)) k some room.short low (omega (arith, small, length_pushed)))
        (lane_pushed before then was found))

    -- both rings are emptied in the end
    twice : (after : Rings) → after ≡ with_ring (with_ring rings at pushed) at [] → (ring_of after at ≡ []) × ((cone : ℕ) → cone ≢ at → ring_of after cone ≡ ring_of rings cone)
    twice after is = (
      ap (λ r. ring_of r at) is ∙ ring_here (with_ring rings at pushed) at [] (omega (arith, within, length-set rings.rings at pushed)),
      λ cone other. ap (λ r. ring_of r cone) is ∙ (ring_else (with_ring rings at pushed) at [] cone other ∙ ring_else rings at pushed cone other),
    )

    pub take_goes : (more : ℕ) (next : FleetPassSight H F) (after : Rings) → ChangesOnly at pass next
        → Goes (ringed number trace (ring_of (with_ring rings at pushed) at)) more at (with_ring rings at pushed) after pass next
        → AreWhole s.packet (length (ring_of rings at) + 1) → (more ≤ cond (eqb (length pushed) (4 * s.packet)) 1 0)
        → Lanes s number trace 0 (items ++ item ∷ []) start next after
    take_goes more next after only goes whole few =
        step next after [] only (twice after goes.rings_are).0 (twice after goes.rings_are).1
        (λ before now then was is found.
        lane_taken s number at trace some (items ++ item ∷ []) pushed (length (ring_of rings at)) before now (lane_pushed before now was is)
        (omega (arith, length_pushed)) (subst (IsSendable s at) (ring_here rings at pushed within) may_send) more then
        (subst (λ r. WasTaken (ringed number trace r) more now then) (ring_here rings at pushed within) (goes.at now then is found))
        (whole_ring number trace whole) few)

    pub take_stays : (next : FleetPassSight H F) (after : Rings) → ChangesOnly at pass next → Stays at (with_ring rings at pushed) after pass next
        → Lanes s number trace 0 (items ++ item ∷ []) start next after
    take_stays next after only stays =
        step next after pushed only (ap (λ r. ring_of r at) stays.rings_are ∙ ring_here rings at pushed within)
        (λ cone other. ap (λ r. ring_of r cone) stays.rings_are ∙ ring_else rings at pushed cone other)
        (λ before now then was is found.
        lane_stays s number at trace some (items ++ item ∷ []) pushed (length (ring_of rings at)) before now (lane_pushed before now was is)
        (omega (arith, length_pushed)) then (stays.at now then is found))

    module _ (mid : Rings) (mid_is : mid ≡ with_ring rings at pushed) (next : FleetPassSight H F) (after : Rings) (only : ChangesOnly at pass next) where
      pub took_waiting : Goes (ringed number trace (ring_of mid at)) 1 at mid after pass next → fill_of s.packet (length (ring_of rings at) + 1) ≡ MustGo
          → Lanes s number trace 0 (items ++ item ∷ []) start next after
      took_waiting goes must =
          let four = must_whole s.packet (length (ring_of rings at) + 1) must in
          take_goes 1 next after only
          (subst (λ m. Goes (ringed number trace (ring_of m at)) 1 at m after pass next) mid_is goes)
          (record { times = 4; least = omega arith; most = omega arith; is = four }) (one_of (eqb (length pushed) (4 * s.packet)) (eq-eqb (length pushed) (4 * s.packet) (length_pushed ∙ four)))

      pub took_trying : Goes (ringed number trace (ring_of mid at)) 0 at mid after pass next ⊎ Stays at mid after pass next
          → fill_of s.packet (length (ring_of rings at) + 1) ≡ Ready → Lanes s number trace 0 (items ++ item ∷ []) start next after
      took_trying done ready =
          elim done [
            | inl goes ↦ take_goes 0 next after only (subst (λ m. Goes (ringed number trace (ring_of m at)) 0 at m after pass next) mid_is goes)
                (ready_whole s.packet (length (ring_of rings at) + 1) ready) (omega arith)
            | inr stays ↦ take_stays next after only (subst (λ m. Stays at m after pass next) mid_is stays)
          ]

      -- whatever the ring asks for
      pub took : (fill : Fill) → fill ≡ fill_of s.packet (length (ring_of rings at) + 1)
          → IsBrought fill (ringed number trace (ring_of mid at)) at mid after pass next → Lanes s number trace 0 (items ++ item ∷ []) start next after
      took Low is brought =
          subst (λ (r : Rings). Lanes s number trace 0 (items ++ item ∷ []) start next r) (sym (brought.0 ∙ mid_is))
          (subst (λ (p : FleetPassSight H F). Lanes s number trace 0 (items ++ item ∷ []) start p (with_ring rings at pushed)) (sym brought.1) (take_low (sym is)))
      took Ready is brought = took_trying brought (sym is)
      took MustGo is brought = took_waiting brought (sym is)

  module _ {H : Type 0} (number trace : ℕ) (items : List Item) (start pass : FleetPassSight H ConeFault) (lanes : Lanes s number trace 0 items start pass rings) where
    pub take_turned : (fault : ConeFault) (more below : ℕ) (next : FleetPassSight H ConeFault) → ChangesOnly at pass next
        → AtOwn (WasTurned (ringed number trace (ring_of (with_ring rings at pushed) at)) fault more) at pass next → more ≤ 1
        → AreSent s number trace below (items ++ item ∷ []) (Cone at fault) start next
    take_turned fault more below next only turned few = record {
      as_many = only.as_many ∙ lanes.as_many;
      each = λ cone before then low was is. elim (cases_eq cone at) [
        | inl same ↦
            let found : slice_get next.cones at ≡ Some then = ap (slice_get next.cones) (sym same) ∙ is in
            let old = some_at pass.cones at (omega (arith, slice_get_within next.cones at then found, only.as_many)) in
            subst (λ c. SentIn s number c trace (items ++ item ∷ []) (Cone at fault) before then) (sym same)
            (lane_turned s number at trace some (items ++ item ∷ []) pushed (length (ring_of rings at)) before old.0
            (lane_pushed number trace items start pass lanes before old.0 (ap (slice_get start.cones) (sym same) ∙ was) old.1)
            (omega (arith, length_pushed)) (subst (IsSendable s at) (ring_here rings at pushed within) may_send) fault more then
            (subst (λ r. WasTurned (ringed number trace r) fault more old.0 then) (ring_here rings at pushed within) (turned old.0 then old.1 found)) few)
        | inr other ↦
            let lane = lanes.each cone before then (omega arith) was (sym (only.others cone other) ∙ is) in
            let kept = lane_other s number cone trace item items (ring_of rings cone) (length (ring_of rings cone)) before then (λ e. other (sym e ∙ sym of_it)) lane in
            lane_stopped s number cone trace some (items ++ item ∷ []) (ring_of rings cone) (length (ring_of rings cone)) before then kept (Cone at fault)
            (λ _. refl, λ same. absurd (other same)) (λ ran. cc)
      ];
    }

    pub took_refused : (mid : Rings) → mid ≡ with_ring rings at pushed → (fault : ConeFault) (more below : ℕ) (next : FleetPassSight H ConeFault) → ChangesOnly at pass next
        → AtOwn (WasTurned (ringed number trace (ring_of mid at)) fault more) at pass next → more ≤ 1
        → AreSent s number trace below (items ++ item ∷ []) (Cone at fault) start next
    took_refused mid mid_is fault more below next only turned few =
        take_turned fault more below next only (subst (λ m. AtOwn (WasTurned (ringed number trace (ring_of m at)) fault more) at pass next) mid_is turned) few
