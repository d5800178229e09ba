-- Keys in turn: none, one more, and one that isn't taken.
use Rattle.lert_spec.specs.Items.{most_weight, unit}
use Rattle.lert_spec.specs.declared.item.Item.{Item}
use Rattle.std.proofs.Common.{◌≡◌, ℕ, ◌+◌, ◌<◌, ◌≤◌, List, [], ◌∷◌, ◌++◌, All, length, take, drop, get_or, Result, Ok, Err, OnOk, refl, sym, ap, ◌∙◌, subst, inl, inr, arith, length-append}
use Rattle.std.proofs.{Common.{append_assoc, append-nil, length-take}, lemmas.List.{take_all, take_more, take-append-drop}, lemmas.List.Elements.{All-nil, All-cons}, lemmas.Option.same_Some}
use Rattle.std.specs.Result.{IsErrAnd}
use Rattle.lert_base.specs.Packet.{Packet}
use Rattle.lert_bay.specs.{Files.Files, Kept.Bays}
use Rattle.lert_spec.specs.{declared.numbers.Numbers.Numbers, Edges.capacity, Mix.cone_of}
use Rattle.lert_cone.specs.{declared.journal_places.JournalPlace.JournalPlace, declared.tally.TakeFault.TakeFault, Framed.{HoldsSome, last_flush}, InStep.IsPartway, KeepsLog.KeepsLogOf}
use Rattle.lert_cone.specs.{Listing.Listing, Takes.{Workplace, CanTake, AreInStep, AreNext, TakesItems, taken_head}}
use Rattle.lert_bay.proofs.KeptLaws.{IsLawful, keeps_none, keeps_on}
use Rattle.lert_cone.proofs.{Calls.{alone_none, alone_on}, KeepsLogSteps.{log_none, log_on}, KeyStep.{sound_now, sound_behind}, FlushLaws.last_flush_grows, JournalPlaceLaws.record_part}
use Rattle.lert_cone.proofs.TakeLaws.{handed_on}
use Rattle.lert_cone.specs.JournalPlaces.{AreOfRecord}
use Rattle.lert_spec.specs.Items.{AreOfVersion}
use Rattle.lert_spec.specs.{Counts.{weighed, weight_of}, Edges.weight_room}
use Rattle.lert_cone.proofs.WeighLaws.{weigh_more}

-- what follows from an answer of Ok
pub map_ok : {T E A C : Type 0} (result : Result T E) → (A → C) → OnOk result A → OnOk result C
map_ok (Ok done) goes holds = goes holds
map_ok (Err fault) goes holds = tt

-- ---- keys still to come

partway_front : (s : Numbers) (history : List Packet) (events front back : List Item) → IsPartway s history events (front ++ back) → IsPartway s history events front
partway_front s history events front back partway = record {
  rest = back ++ partway.rest;
  is = partway.is ∙ ap (λ keys. events ++ keys) (append_assoc front back partway.rest);
  late = partway.late;
}

partway_back : (s : Numbers) (history : List Packet) (events front back : List Item) → IsPartway s history events (front ++ back) → IsPartway s history (events ++ front) back
partway_back s history events front back partway = record {
  rest = partway.rest;
  is = partway.is ∙ ap (λ keys. events ++ keys) (append_assoc front back partway.rest) ∙ sym (append_assoc events front (back ++ partway.rest));
  late = omega (arith, partway.late, last_flush_grows s (length events) (length (events ++ front)) (omega (arith, length-append events front)));
}

-- where no flush position lies among some items none lies among the first of them
front_passed : (s : Numbers) (n : ℕ) (front back : List Item) → last_flush s (n + length (front ++ back)) ≤ n → last_flush s (n + length front) ≤ n
front_passed s n front back passed = omega (arith, passed, last_flush_grows s (n + length front) (n + length (front ++ back)) (omega (arith, length-append front back)))

-- what weighs no more than a cone takes does so without the last items
pub light_first : (s : Numbers) (events front back : List Item) → weight_of weighed (events ++ (front ++ back)) ≤ weight_room s → weight_of weighed (events ++ front) ≤ weight_room s
light_first s events front back weighs = omega (arith, weighs, weigh_more events (front ++ back), weigh_more front back, weigh_more events front)

module _ {B : Type 0} {bays : Bays B} (lawful : IsLawful bays) (place : JournalPlace) where
  -- no item
  pub takes_none : {at : Workplace B} {keys : List Item} → CanTake bays keys at → TakesItems bays place [] at at (Ok tt)
  takes_none {at = at} can = record {
    listing = refl;
    taken = sym (append-nil at.counts.listing.events);
    counted = can.counted;
    can_log = can.can_log;
    in_step = λ seen told history next up after told_after. subst (λ (files : Files). AreInStep bays at files history) (same_Some seen after (sym told ∙ told_after)) up;
    each_moment = λ seen told history next partway up image may.
        sound_now (bays.leaves at.bay) seen history at.counts at.log [] can.counted can.still up partway image (lawful.only_now at.bay image may);
    sound = λ seen told history next up weighs file at same. (let never : ⊥ = cc in never);
    framed = λ seen told some after told_after.
        subst (λ (files : Files). HoldsSome at.counts.listing.version at.counts.listing.settings (length at.counts.listing.events) at.counts.rows (files 2)) (same_Some seen after (sym told ∙
        told_after)) some;
    whole = λ seen told some at same. (let never : ⊥ = cc in never);
    unflushed = λ passed. refl;
    log = log_none bays lawful at.counts.listing.settings (taken_head at) at.bay can.can_log.log_shut;
    keeps = record {
      shows = λ seen told file at same. absurd (let never : ⊥ = cc in never);
      journal = alone_none lawful;
      most = refl;
      kept = keeps_none bays lawful at.bay _ (λ same. (let never : ⊥ = cc in never));
    };
  }

  -- the first of some items are of the record, too
  next_front : (at : Workplace B) (front back : List Item) (history : List Packet) → AreNext history place at (front ++ back) → AreNext history place at front
  next_front at front back history next =
      record_part history place (length at.counts.listing.events) (length at.counts.listing.events + length (front ++ back)) (length at.counts.listing.events)
      (length at.counts.listing.events + length front) (omega arith) (omega (arith, length-append front back)) next

  -- some, and then others
  module _ {old mid new : Workplace B} {front back : List Item} {result : Result (Unit {0}) TakeFault} (first : TakesItems bays place front old mid (Ok tt))
      (second : TakesItems bays place back mid new result)
    where
      mid_is : mid.counts.listing ≡ record old.counts.listing { events = old.counts.listing.events ++ front }
      mid_is = first.listing ∙ ap (λ (keys : List Item). record old.counts.listing { events = keys })
          first.taken

      mid_long : length mid.counts.listing.events ≡ length old.counts.listing.events + length front
      mid_long = ap (length {A = Item}) first.taken ∙ length-append old.counts.listing.events front

      back_passed : last_flush old.counts.listing.settings (length old.counts.listing.events + length (front ++ back)) ≤ length old.counts.listing.events →
          last_flush mid.counts.listing.settings (length mid.counts.listing.events + length back) ≤ length mid.counts.listing.events
      back_passed passed =
          let same : length mid.counts.listing.events + length back ≡ length old.counts.listing.events + length (front ++ back) = omega (arith, mid_long, length-append front back) in
          subst (λ (s : Numbers). last_flush s (length mid.counts.listing.events + length back) ≤ length mid.counts.listing.events) (sym (ap (λ (l : Listing). l.settings) mid_is))
          (omega (arith, passed, mid_long, ap (last_flush old.counts.listing.settings) same))

      next_back : (history : List Packet) → AreNext history place old (front ++ back) → AreNext history place mid back
      next_back history next =
          subst (λ v. AreOfRecord v history place (length mid.counts.listing.events) (length mid.counts.listing.events + length back)) (sym (ap (λ (l : Listing). l.version) mid_is))
          (record_part history place (length old.counts.listing.events) (length old.counts.listing.events + length (front ++ back)) (length mid.counts.listing.events)
          (length mid.counts.listing.events + length back) (omega (arith, mid_long)) (omega (arith, mid_long, length-append front back)) next)

      pub takes_more : TakesItems bays place (front ++ back) old new result
      takes_more = record {
        listing = second.listing ∙ ap (λ (l : Listing). record l { events = new.counts.listing.events }) first.listing;
        taken = map_ok result (λ (took : new.counts.listing.events ≡ mid.counts.listing.events ++ back).
            took ∙ ap (λ (keys : List Item). keys ++ back) first.taken ∙ append_assoc old.counts.listing.events front back) second.taken;
        counted = second.counted;
        can_log = second.can_log;
        in_step = λ seen told history next up.
            let came = first.keeps.journal.seen.told seen told in
            second.in_step came.0 came.1 history (next_back history next) (first.in_step seen told history (next_front old front back history next) up came.0 came.1);
        each_moment = λ seen told history next partway up image may.
            let came = first.keeps.journal.seen.told seen told in
            let here_up = first.in_step seen told history (next_front old front back history next) up came.0 came.1 in
            let behind = subst (λ (l : Listing). IsPartway l.settings history l.events back) (sym mid_is)
            (partway_back old.counts.listing.settings history old.counts.listing.events front back partway) in
            elim (second.keeps.journal.time.known (bays.moment old.bay) image first.keeps.journal.time.later may) [
              | inl past ↦ first.each_moment seen told history (next_front old front back history next)
                  (partway_front old.counts.listing.settings history old.counts.listing.events front back partway) up image past
              | inr here ↦ sound_behind mid.counts.listing old.counts.listing history image (ap (λ (l : Listing). l.settings) first.listing) (ap (λ (l : Listing). l.cone) first.listing)
                  (second.each_moment came.0 came.1 history (next_back history next) behind here_up image here)
            ];
        sound = λ seen told history next up weighs.
            let came = first.keeps.journal.seen.told seen told in
            second.sound came.0 came.1 history (next_back history next) (first.in_step seen told history (next_front old front back history next) up came.0 came.1)
            (subst (λ (l : Listing). weight_of weighed (l.events ++ back) ≤ weight_room l.settings) (sym mid_is)
            (subst (λ (all : List Item). weight_of weighed all ≤ weight_room old.counts.listing.settings) (sym (append_assoc old.counts.listing.events front back)) weighs));
        framed = λ seen told some.
            let came = first.keeps.journal.seen.told seen told in
            second.framed came.0 came.1 (first.framed seen told some came.0 came.1);
        whole = λ seen told some.
            let came = first.keeps.journal.seen.told seen told in
            second.whole came.0 came.1 (first.framed seen told some came.0 came.1);
        unflushed = λ passed. second.unflushed (back_passed passed) ∙ first.unflushed (front_passed old.counts.listing.settings (length old.counts.listing.events) front back passed);
        log = log_on bays lawful old.counts.listing.settings (taken_head old) (taken_head mid) (taken_head new) old.bay mid.bay new.bay tt result first.keeps.journal.seen
            first.keeps.journal.time.later second.keeps.journal.time first.log
            (subst (λ (l : Listing). KeepsLogOf bays l.version l.settings (taken_head mid) (taken_head new) mid.bay new.bay result) first.listing second.log);
        keeps = record {
          shows = second.keeps.shows;
          journal = alone_on lawful first.keeps.journal second.keeps.journal;
          most = second.keeps.most ∙ first.keeps.most;
          kept = keeps_on bays lawful old.bay mid.bay new.bay _ _ first.keeps.kept second.keeps.kept;
        };
      }

  -- where an item isn't taken no other is
  takes_fewer : {old new : Workplace B} {front : List Item} {fault : TakeFault} (back : List Item) → TakesItems bays place front old new (Err fault) → TakesItems bays place (front ++ back) old
      new (Err fault)
  takes_fewer {old = old} {front = front} back did = record {
    listing = did.listing;
    taken = tt;
    counted = tt;
    can_log = tt;
    in_step = λ seen told history next up. tt;
    each_moment = λ seen told history next partway up image may.
        did.each_moment seen told history (next_front old front back history next) (partway_front old.counts.listing.settings history old.counts.listing.events front back partway) up image may;
    sound = λ seen told history next up weighs. did.sound seen told history (next_front old front back history next) up
        (light_first old.counts.listing.settings old.counts.listing.events front back weighs);
    framed = λ seen told some. tt;
    whole = did.whole;
    unflushed = λ passed. did.unflushed (front_passed old.counts.listing.settings (length old.counts.listing.events) front back passed);
    log = did.log;
    keeps = did.keeps;
  }

  -- ---- a list of keys, up to a place

  module _ {old mid : Workplace B} (keys : List Item) (i : ℕ) (first : TakesItems bays place (take i keys) old mid (Ok tt)) where
    pub next_can : CanTake bays keys old → i < length keys → CanTake bays (get_or keys i (unit 0) ∷ []) mid
    next_can can within =
        let is = first.listing ∙ ap (λ (ks : List Item). record old.counts.listing { events = ks })
        first.taken in
        record {
          still = ap (λ (l : Listing). l.closed) is ∙ can.still;
          own = subst (λ (l : Listing). All (λ item. cone_of l.settings item.key ≡ l.cone) (get_or keys i (unit 0) ∷ [])) (sym is)
              (All-cons (λ item. cone_of old.counts.listing.settings item.key ≡ old.counts.listing.cone) (get_or keys i (unit 0)) [] (can.own i (unit 0) within) (All-nil
              (λ item. cone_of old.counts.listing.settings item.key ≡ old.counts.listing.cone)));
          light = subst (λ (l : Listing). AreOfVersion l.version (get_or keys i (unit 0) ∷ [])) (sym is)
              (All-cons (λ (item : Item). (1 ≤ item.weight) × (item.weight ≤ most_weight old.counts.listing.version)) (get_or keys i (unit 0)) [] (can.light i (unit 0) within)
              (All-nil (λ (item : Item). (1 ≤ item.weight) × (item.weight ≤ most_weight old.counts.listing.version))));
          fits = subst (λ (l : Listing). length l.events + 1 ≤ capacity l.settings) (sym is)
              (omega (arith, can.fits, within, length-append old.counts.listing.events (take i keys), length-take i keys));
          counted = first.counted;
          can_log = first.can_log;
        }

    pub next_takes : {new : Workplace B} → i < length keys → TakesItems bays place (get_or keys i (unit 0) ∷ []) mid new (Ok tt) → TakesItems bays place (take (i + 1) keys) old new (Ok tt)
    next_takes {new = new} within second =
        subst (λ (front : List Item). TakesItems bays place front old new (Ok tt)) (sym (take_more keys i (unit 0) within)) (takes_more first second)

    pub next_refused : {new : Workplace B} {result given : Result (Unit {0}) TakeFault} {fault : TakeFault} → i < length keys → result ≡ Err fault →
        TakesItems bays place (get_or keys i (unit 0) ∷ []) mid new result → IsErrAnd given (λ g. g ≡ fault) → TakesItems bays place keys old new given
    next_refused {new = new} {given = given} {fault = fault} within is second given_is =
        let failed : TakesItems bays place (get_or keys i (unit 0) ∷ []) mid new (Err fault) = subst (λ (r : Result (Unit {0}) TakeFault). TakesItems bays place (get_or keys i (unit 0) ∷ []) mid
        new r) is second in
        let split : (take i keys ++ get_or keys i (unit 0) ∷ []) ++ drop (i + 1) keys ≡ keys = ap (λ front. front ++ drop (i + 1) keys) (sym (take_more keys i (unit 0) within))
        ∙ take-append-drop (i + 1) keys in
        subst (λ (r : Result (Unit {0}) TakeFault). TakesItems bays place keys old new r) (handed_on given fault given_is)
        (subst (λ (all : List Item). TakesItems bays place all old new (Err fault)) split
        (takes_fewer (drop (i + 1) keys) (takes_more first failed)))

    pub all_taken : length keys ≤ i → TakesItems bays place keys old mid (Ok tt)
    all_taken over = subst (λ (all : List Item). TakesItems bays place all old mid (Ok tt)) (take_all i keys over) first
