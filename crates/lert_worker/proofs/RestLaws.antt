-- All cones at the end of a trace: the rests of the rings, in ascending cones.
use Rattle.std.proofs.{Common.{◌≡◌, ◌≢◌, ◌⊎◌, ℕ, zero, suc, ◌+◌, ◌^◌, ◌<◌, ◌≤◌, List, [], ◌∷◌, length, set, Some, slice_get, refl, ap, sym, ◌∙◌, subst, inl, inr, arith}, lemmas.Bool.cases_eq}
use Rattle.std.proofs.{lemmas.List.set-get_or, lemmas.Option.slice_get_within}
use Rattle.lert_buffers.specs.Rings.{Rings, ring_of, with_ring}
use Rattle.lert_conelock.specs.Sight.{Sight}
use Rattle.lert_fleet.specs.Cones.{FleetPassSight, ChangesOnly}
use Rattle.lert_fleet.proofs.Places.{some_at}
use Rattle.lert_spec.specs.{declared.item.Item.Item, declared.numbers.Numbers.Numbers}
use Rattle.lert_base.specs.declared.cone_fault.ConeFault.{ConeFault}
use Rattle.lert_worker.specs.{Outbox.{HasRoom, HaveRoom, IsSendable}, Sending.{AreSent, AtOwn, Goes, Lane, Lanes, SentIn, WasTurned}, declared.end.WorkerEnd.TheVariants.{Ran, Cone}}
use Rattle.lert_worker.proofs.{LaneLaws.ringed, TakeLaws.{ring_else, room_none, room_with}, SentLaws.{lane_empty, lane_rest, lane_stopped, lane_turned, rested_stopped}}

pub nil_is : {X : Type 0} (xs : List X) → length xs ≡ 0 → xs ≡ []
nil_is [] is = refl
nil_is (x ∷ xs) is = absurd (omega (arith, is))

-- a ring without items is as if it was emptied
pub ring_empty : (rings : Rings) (cone : ℕ) → length (ring_of rings cone) ≡ 0 → rings ≡ with_ring rings cone []
ring_empty rings cone none =
    ap (λ (r : List (List Item)). record rings { rings = r })
    (sym (ap (set rings.rings cone) (sym (nil_is (ring_of rings cone) none)) ∙ set-get_or rings.rings cone []))

-- rings with room, one of which was emptied
pub room_rest : (s t : Numbers) (rings after : Rings) (at : ℕ) → 1 ≤ s.packet → length rings.rings ≡ 2 ^ s.cone_bits → HaveRoom s rings → after ≡ with_ring rings at [] → t ≡ s
    → HaveRoom t after
room_rest s t rings after at some number room is same =
    subst (λ (u : Numbers). HaveRoom u after) (sym same) (subst (HaveRoom s) (sym is) (room_with s rings at [] number room (room_none s at some)))

-- the lanes above a cone, whether its ring was emptied or not
pub lanes_above : {H F : Type 0} (s : Numbers) (number trace at : ℕ) (items : List Item) (start now : FleetPassSight H F) (rings : Rings)
    → Lanes s number trace at items start now rings → Lanes s number trace (at + 1) items start now rings
lanes_above s number trace at items start now rings lanes = record {
  as_many = lanes.as_many;
  each = λ cone before after low was is. lanes.each cone before after (omega (arith, low)) was is;
}

pub lanes_rested : {H F : Type 0} (s : Numbers) (number trace at : ℕ) (items : List Item) (start now next : FleetPassSight H F) (rings after : Rings)
    → ChangesOnly at now next → after ≡ with_ring rings at [] → Lanes s number trace at items start now rings → Lanes s number trace (at + 1) items start next after
lanes_rested s number trace at items start now next rings after only is lanes = record {
  as_many = only.as_many ∙ lanes.as_many;
  each = λ cone before then low was found.
      let other : cone ≢ at = omega (arith, low) in
      let here : ring_of rings cone ≡ ring_of after cone = sym (ap (λ r. ring_of r cone) is ∙ ring_else rings at [] cone other) in
      subst (λ r. Lane s number cone trace items (length r) before then r) here (lanes.each cone before then (omega (arith, low)) was (sym (only.others cone other) ∙ found));
}

-- some items of a ring with room may go
pub may_go : (s : Numbers) (cone : ℕ) (ring : List Item) → HasRoom s cone ring → length ring ≢ 0 → IsSendable s cone ring
may_go s cone ring room some = record { some = omega (arith, some); few = omega (arith, room.short); of_cone = room.of_cone }

below_or : (a b : ℕ) → a ≢ b → (a < b) ⊎ (b < a)
below_or zero zero apart = absurd (apart refl)
below_or zero (suc b) apart = inl (omega arith)
below_or (suc a) zero apart = inr (omega arith)
below_or (suc a) (suc b) apart =
    elim (below_or a b (λ e. apart (ap suc e))) [
      | inl below ↦ inl (omega (arith, below))
      | inr above ↦ inr (omega (arith, above))
    ]

module _ {H : Type 0} (s : Numbers) (some : 1 ≤ s.packet) (rings : Rings) (at number trace : ℕ) (items : List Item) (start pass : FleetPassSight H ConeFault)
    (lanes : Lanes s number trace at items start pass rings) (rested : AreSent s number trace at items Ran start pass) where
  pub rest_none : length (ring_of rings at) ≡ 0 → AreSent s number trace (at + 1) items Ran start pass
  rest_none none = record {
    as_many = rested.as_many;
    each = λ cone before after below was is. elim (cases_eq cone at) [
      | inl same ↦
          lane_empty s number cone trace some items (ring_of rings cone) (length (ring_of rings cone)) before after
          (lanes.each cone before after (omega (arith, same)) was is) (ap (ring_of rings) same ∙ nil_is (ring_of rings at) none)
      | inr other ↦ rested.each cone before after (omega (arith, below, other)) was is
    ];
  }

  module _ (next : FleetPassSight H ConeFault) (only : ChangesOnly at pass next) (may : IsSendable s at (ring_of rings at)) where
    -- this cone's lane, and what the pass had for it before
    own : (then : Sight H ConeFault) → slice_get next.cones at ≡ Some then → (now : Sight H ConeFault) × (slice_get pass.cones at ≡ Some now)
    own then found = some_at pass.cones at (omega (arith, slice_get_within next.cones at then found, only.as_many))

    pub rest_goes : (after : Rings) → Goes (ringed number trace (ring_of rings at)) 1 at rings after pass next → AreSent s number trace (at + 1) items Ran start next
    rest_goes after goes = record {
      as_many = only.as_many ∙ rested.as_many;
      each = λ cone before then below was is. elim (cases_eq cone at) [
        | inl same ↦
            let found : slice_get next.cones at ≡ Some then = ap (slice_get next.cones) (sym same) ∙ is in
            let old = own then found in
            let there = ap (slice_get start.cones) (sym same) ∙ was in
            subst (λ c. SentIn s number c trace items Ran before then) (sym same)
            (lane_rest s number at trace some items (ring_of rings at) (length (ring_of rings at)) before old.0
            (lanes.each at before old.0 (omega arith) there old.1) (omega arith) may then (goes.at old.0 then old.1 found))
        | inr other ↦ rested.each cone before then (omega (arith, below, other)) was (sym (only.others cone other) ∙ is)
      ];
    }

    pub rest_turned : (fault : ConeFault) (most : ℕ) → AtOwn (WasTurned (ringed number trace (ring_of rings at)) fault 1) at pass next
        → AreSent s number trace most items (Cone at fault) start next
    rest_turned fault most turned = record {
      as_many = only.as_many ∙ rested.as_many;
      each = λ cone before then below was is. elim (cases_eq cone at) [
        | inl same ↦
            let found : slice_get next.cones at ≡ Some then = ap (slice_get next.cones) (sym same) ∙ is in
            let old = own then found in
            let there = ap (slice_get start.cones) (sym same) ∙ was in
            subst (λ c. SentIn s number c trace items (Cone at fault) before then) (sym same)
            (lane_turned s number at trace some items (ring_of rings at) (length (ring_of rings at)) before old.0
            (lanes.each at before old.0 (omega arith) there old.1) (omega arith) may fault 1 then (turned old.0 then old.1 found) (omega arith))
        | inr other ↦ elsewhere cone before then other was (sym (only.others cone other) ∙ is)
      ];
    }
      where
        elsewhere : (cone : ℕ) (before then : Sight H ConeFault) → cone ≢ at → slice_get start.cones cone ≡ Some before → slice_get pass.cones cone ≡ Some then
            → SentIn s number cone trace items (Cone at fault) before then
        elsewhere cone before then other was is =
            elim (below_or cone at other) [
              | inl below ↦ rested_stopped s number cone trace items at fault before then below (rested.each cone before then below was is)
              | inr above ↦
                  lane_stopped s number cone trace some items (ring_of rings cone) (length (ring_of rings cone)) before then
                  (lanes.each cone before then (omega (arith, above)) was is) (Cone at fault) (λ _. refl, λ same. absurd (other same)) (λ ran. cc)
            ]
