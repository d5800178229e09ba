-- Steps of an outbox, one behind the other.
use Rattle.std.proofs.{Common.{◌≡◌, ◌≢◌, ℕ, ◌+◌, ◌^◌, ◌<◌, ◌≤◌, List, [], length, refl, ap, sym, ◌∙◌, subst, inl, inr, arith}, lemmas.Bool.cases_eq, lemmas.Option.{slice_get_within, same_Some}}
use Rattle.lert_buffers.specs.Rings.{Rings, ring_of, with_ring}
use Rattle.lert_conelock.specs.Sight.{Sight}
use Rattle.lert_fleet.specs.Cones.{FleetPassSight}
use Rattle.lert_spec.specs.{declared.item.Item.Item, declared.numbers.Numbers.Numbers}
use Rattle.lert_base.specs.declared.cone_fault.ConeFault.{ConeFault}
use Rattle.lert_worker.specs.{Outbox.{AreDrained, HasRoom, HaveRoom, IsResting, IsSame, IsSameOutbox}, Ran.IsTurned, Sending.{AreSent, Lane, Lanes}, declared.end.WorkerEnd.WorkerEnd}
use Rattle.lert_worker.specs.{declared.end.WorkerEnd.TheVariants.Ran, declared.outbox.Outbox.Outbox}
use Rattle.lert_worker.proofs.{LaneLaws.lane_start, SentLaws.lane_stopped, TakeLaws.{ring_else, ring_here, room_none}}

-- what is said of the settings, the number and the trace of an outbox, of the same one later, and back
pub to_new : (P : Numbers → ℕ → ℕ → Type 0) (old new : Outbox) → IsSameOutbox old new → P old.settings old.entry.by old.entry.trace → P new.settings new.entry.by new.entry.trace
to_new P old new same is =
    subst (λ (s : Numbers). P s new.entry.by new.entry.trace) (sym same.settings_is)
    (subst (λ n. P old.settings n new.entry.trace) (sym same.by_is) (subst (P old.settings old.entry.by) (sym same.trace_is) is))

pub to_old : (P : Numbers → ℕ → ℕ → Type 0) (old new : Outbox) → IsSameOutbox old new → P new.settings new.entry.by new.entry.trace → P old.settings old.entry.by old.entry.trace
to_old P old new same is =
    subst (λ (s : Numbers). P s old.entry.by old.entry.trace) same.settings_is
    (subst (λ n. P new.settings n old.entry.trace) same.by_is (subst (P new.settings new.entry.by) same.trace_is is))

pub same_outbox : (a b c : Outbox) → IsSameOutbox a b → IsSameOutbox b c → IsSameOutbox a c
same_outbox a b c first then = record {
  settings_is = then.settings_is ∙ first.settings_is;
  by_is = then.by_is ∙ first.by_is;
  trace_is = then.trace_is ∙ first.trace_is;
}

pub same_on : {H F : Type 0} (a b c : Outbox) (p q r : FleetPassSight H F) → IsSame a b p q → IsSame b c q r → IsSame a c p r
same_on a b c p q r first then = record { outbox = same_outbox a b c first.outbox then.outbox; hi_is = then.hi_is ∙ first.hi_is }

-- one ring more is emptied
pub drained_more : (rings after : Rings) (at : ℕ) → at < length rings.rings → after ≡ with_ring rings at [] → AreDrained at rings → AreDrained (at + 1) after
drained_more rings after at within is drained = λ cone below.
    ap (λ r. ring_of r cone) is
    ∙ elim (cases_eq cone at) [
      | inl same ↦ ap (ring_of (with_ring rings at [])) same ∙ ring_here rings at [] within
      | inr other ↦ ring_else rings at [] cone other ∙ drained cone (omega (arith, below, other))
    ]

pub drained_below : (rings : Rings) (most fewer : ℕ) → fewer ≤ most → AreDrained most rings → AreDrained fewer rings
drained_below rings most fewer few drained = λ cone below. drained cone (omega (arith, few, below))

-- all cones, and so those below a lesser number
pub sent_below : {H : Type 0} (s : Numbers) (number trace below most : ℕ) (items : List Item) (end : WorkerEnd) (start now : FleetPassSight H ConeFault) → most ≤ below
    → AreSent s number trace below items end start now → AreSent s number trace most items end start now
sent_below s number trace below most items end start now few sent = record {
  as_many = sent.as_many;
  each = λ cone before after under was is. sent.each cone before after (omega (arith, few, under)) was is;
}

-- no cone has anything of the trace yet
pub sent_none : {H : Type 0} (s : Numbers) (number trace : ℕ) (items : List Item) (start now : FleetPassSight H ConeFault) → length now.cones ≡ length start.cones
    → AreSent s number trace 0 items Ran start now
sent_none s number trace items start now many = record { as_many = many; each = λ cone before after under was is. absurd (omega (arith, under)) }

module _ {H : Type 0} (s : Numbers) (some : 1 ≤ s.packet) (number trace : ℕ) where
  -- a trace begins with empty rings
  pub lanes_start : (pass : FleetPassSight H ConeFault) (rings : Rings) → length pass.cones ≡ 2 ^ s.cone_bits → AreDrained (2 ^ s.cone_bits) rings
      → Lanes s number trace 0 [] pass pass rings
  lanes_start pass rings many drained = record {
    as_many = refl;
    each = λ cone before after low was is.
        let none = drained cone (omega (arith, slice_get_within pass.cones cone before was, many)) in
        let same : before ≡ after = same_Some before after (sym was ∙ is) in
        subst (λ (x : Sight H ConeFault). Lane s number cone trace [] (length (ring_of rings cone)) before x (ring_of rings cone)) same
        (subst (λ (r : List Item). Lane s number cone trace [] (length r) before before r) (sym none) (lane_start s number cone trace some before));
  }

  -- and stops with items in them
  pub lanes_stopped : (items : List Item) (start pass : FleetPassSight H ConeFault) (rings : Rings) (end : WorkerEnd) (below : ℕ) → ((cone : ℕ) → IsTurned end cone []) → end ≢ Ran
      → Lanes s number trace 0 items start pass rings → AreSent s number trace below items end start pass
  lanes_stopped items start pass rings end below none other lanes = record {
    as_many = lanes.as_many;
    each = λ cone before after under was is.
        lane_stopped s number cone trace some items (ring_of rings cone) (length (ring_of rings cone)) before after (lanes.each cone before after (omega arith) was is) end (none cone) other;
  }

-- empty rings have room
pub room_resting : (outbox : Outbox) → IsResting outbox → HaveRoom outbox.settings outbox.rings
room_resting outbox resting = λ cone named.
    subst (HasRoom outbox.settings cone) (sym (resting.drained cone named)) (room_none outbox.settings cone resting.idle.valid.limits.packet_from)
