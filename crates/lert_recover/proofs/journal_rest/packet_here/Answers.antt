use Rattle.std.proofs.Common.{◌≡◌, ◌-◌, ◌/◌, ◌≤◌, ap, ◌∙◌, drop, length, sym, subst, arith}
use Rattle.lert_journal.specs.Payload.{item_in, item_len, packet_in}
use Rattle.lert_spec.specs.Counts.{weighed, weight_of}
use Rattle.std.proofs.lemmas.List.FromFn.{length-map-range_with_len}
use Rattle.lert_cone.proofs.ItemLaws.{most_payload_to}
use Rattle.lert_spec.specs.Limits.{IsValid}
use Rattle.lert_recover.proofs.RestLaws.{found_left, found_packet, some_keys}
use Rattle.lert_recover.proofs.journal_rest.packet_here.Goals as goal

pub place_left-requires : goal.place_left-requires
place_left-requires c =
    let valid = subst IsValid c.numbers.ensures.value c.numbers.ensures.valid in
    record { version = c.requires.known; short = omega (arith, c.requires.short, valid.limits.packet_to, most_payload_to c.args.last.now.version c.args.settings.now) }

pub items_in-keys-requires : goal.items_in-keys-requires
items_in-keys-requires c =
    (some_keys c.args.last.now.version c.args.payload.now (λ k. (c.type_inv.payload k).fits) c.args.settings.now c.args.cone (sym c.in_default.ensures.place)).0

pub weight_behind-more-requires : goal.weight_behind-more-requires
weight_behind-more-requires c =
    let valid = subst IsValid c.numbers.ensures.value c.numbers.ensures.valid in
    record { short = omega (arith, c.requires.short, valid.limits.packet_to, most_payload_to c.args.last.now.version c.args.settings.now) }

pub packet_left-requires : goal.packet_left-requires
packet_left-requires c =
    let payload = c.args.payload.now in
    let version = c.args.last.now.version in
    let count : length (packet_in version payload).items ≡ (length payload - 8) / item_len version =
    length-map-range_with_len (item_in version payload) 0 ((length payload - 8) / item_len version) in
    let few : (length payload - 8) / item_len version ≤ length payload = omega arith in
    let valid = subst IsValid c.numbers.ensures.value c.numbers.ensures.valid in
    let short : length payload ≤ 36872 = omega (arith, c.requires.short, valid.limits.packet_to, most_payload_to version c.args.settings.now) in
    record {
      within = c.requires.within;
      few = omega (arith, c.items_in-keys.ensures, few, short);
      reach = omega (arith, c.requires.reach);
      place = c.requires.place;
      light = omega (arith, c.requires.light, c.weight_behind-more.ensures.most, count, few, short);
    }

pub returns-in-Some-packet_left : goal.returns-in-Some-packet_left
returns-in-Some-packet_left c = record {
  told = λ bytes opened.
      let last = c.args.last.now in
      let payload = c.args.payload.now in
      let counted = c.saturating_sub-counted.ensures ∙ ap (λ n. n - c.args.before.events) c.edge.ensures in
      let more_is = c.weight_behind-more.ensures.value ∙ ap (λ n. weight_of weighed (drop n (packet_in last.version payload).items)) counted in
      found_left last.version payload (λ k. (c.type_inv.payload k).fits) c.args.settings.now c.args.cone last.n0 last.closed c.args.before.events c.args.before.weight bytes c.args.gate _ _
      (sym c.in_default.ensures.place) c.items_in-keys.ensures more_is opened c.in-Some-packet_left.at c.in-Some-packet_left.ensures;
  forward = tt;
}

pub returns-in-None : goal.returns-in-None
returns-in-None c =
    let last = c.args.last.now in
    let payload = c.args.payload.now in
    let may = rw c.in-None.is at c.packet_left.ensures in
    let valid = subst IsValid c.numbers.ensures.value c.numbers.ensures.valid in
    let some = some_keys last.version payload (λ k. (c.type_inv.payload k).fits) c.args.settings.now c.args.cone (sym c.in_default.ensures.place) in
    record {
      told = λ bytes opened.
          let counted = c.saturating_sub-counted.ensures ∙ ap (λ n. n - c.args.before.events) c.edge.ensures in
          let more_is = c.weight_behind-more.ensures.value ∙ ap (λ n. weight_of weighed (drop n (packet_in last.version payload).items)) counted in
          found_packet last.version payload (λ k. (c.type_inv.payload k).fits) c.args.settings.now c.args.cone last.n0 last.closed c.args.before.events c.args.before.weight bytes c.args.gate _ _
          (sym c.in_default.ensures.place) c.items_in-keys.ensures more_is opened may;
      forward = (
        omega (arith, some.1, c.items_in-keys.ensures),
        may.0,
        may.2,
        omega (arith, c.requires.short, valid.limits.packet_to, most_payload_to last.version c.args.settings.now),
      );
    }
