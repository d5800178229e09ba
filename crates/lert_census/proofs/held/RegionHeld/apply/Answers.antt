use Rattle.std.proofs.Common.{◌≡◌, ◌<◌, ◌^◌, ◌∙◌, ap, ap₂, sym, refl, subst, length, length-append, get_or, All, arith, rules, inl}
use Rattle.std.proofs.lemmas.Grind.{get_or_default_zero}
use Rattle.lert_base.specs.{Entries.packet_of, Packet.events_of, Keys.items_of}
use Rattle.lert_base.specs.declared.cone_fault.ConeFault.TheVariants.{CapacityFull}
use Rattle.lert_base.proofs.ItemsOf.{items_of-parts}
use Rattle.lert_spec.specs.{declared.numbers.Numbers.Numbers, Items.keys_in}
use Rattle.lert_spec.proofs.ItemLaws.{length-keys_in}
use Rattle.lert_census.specs.Census.{Census, MayTake, StandsFor, with_items}
use Rattle.lert_census.proofs.Adding.{events_push, stands_next}
use Rattle.lert_census.proofs.held.RegionHeld.apply.Goals as goal

pub returns : goal.returns
returns c =
    let packet = packet_of c.args.entry.now in
    let census : Census = record { settings = c.self.inside.settings; region = c.self.inside.region; table = c.self.inside.table } in
    let len : length c.as_slice-keys.result.now ≡ length packet.items = ap length c.as_slice-keys.ensures ∙ length-keys_in packet.items in
    let items = ap₂ items_of c.as_slice-keys.ensures c.weights-weights.ensures.value ∙ items_of-parts packet.items in
    let keys : All (λ key. key < 2 ^ 64) (keys_in packet.items) = subst (All (λ key. key < 2 ^ 64)) c.as_slice-keys.ensures
    (λ k d below. let fits : get_or c.as_slice-keys.result.now k 0 < 2 ^ 64 = search rules in omega (arith, fits, get_or_default_zero c.as_slice-keys.result.now k d below)) in
    let n = c.items-n.ensures.value ∙ sym (ap (λ (v : Census). v.table.adds) c.self.view_is) in
    record {
      terms = ap (λ (v : Census). record { numbers = v.settings; region = v.region }) c.self.view_is;
      stopped = λ stopped. stopped;
      stands_for = λ h stands. stands_next census h packet c.add_all.new.table (subst (λ v. StandsFor v h) (sym c.self.view_is) stands)
          (subst (λ (v : Census). MayTake v.settings v.region packet) (sym c.self.view_is) c.requires) keys
          (omega (arith, n, len, c.if-n-len.false, ap (λ (m : Numbers). m.room) c.numbers.ensures.value))
          (c.add_all.ensures ∙ ap (with_items census.settings census.table) items);
      answers = λ h stands. omega (
        arith,
        c.items-n.ensures.value,
        len,
        stands.items_are,
        ap length (events_push h packet),
        length-append (events_of h) packet.items,
      );
      over = λ h stands. refl;
      unchanged = tt;
      refuses = tt;
    }

pub returns-then-n-len : goal.returns-then-n-len
returns-then-n-len c =
    let packet = packet_of c.args.entry.now in
    let len : length c.as_slice-keys.result.now ≡ length packet.items = ap length c.as_slice-keys.ensures ∙ length-keys_in packet.items in
    let room = ap (λ (m : Numbers). m.room) c.numbers.ensures.value ∙ ap (λ (v : Census). v.settings.room) c.self.view_is in
    record {
      terms = refl;
      stopped = λ stopped. stopped;
      stands_for = tt;
      answers = tt;
      over = tt;
      unchanged = λ h stands. stands;
      refuses = λ h stands.
          let n = c.items-n.ensures.value ∙ stands.items_are in
          inl (record { fault_is = ap₂ CapacityFull n len; over = omega (arith, c.if-n-len.true, room, n, len) }, refl, refl);
    }
