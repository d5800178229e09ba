-- Keys of a journal that are taken again: all are counted again, or others stand behind those.
use Rattle.lert_spec.specs.Items.{most_weight}
use Rattle.lert_spec.specs.declared.item.Item.{Item}
use Rattle.std.proofs.Common.{◌≡◌, ℕ, ◌+◌, ◌-◌, ◌<◌, ◌≤◌, Bool, true, false, List, ◌++◌, All, length, take, drop, min, max, Result, Ok, refl, sym, ap, ◌∙◌, subst, arith, length-append, length-take}
use Rattle.std.proofs.{Common.{length-drop, append_assoc}, lemmas.List.{take_all, take-append-drop}, lemmas.List.Elements.All-drop}
use Rattle.lert_base.specs.Packet.{Packet}
use Rattle.lert_bay.specs.{Files.{Files, IfTold}, Kept.Bays}
use Rattle.lert_levels.specs.declared.rows.bin_at.BinAt.{BinAt}
use Rattle.lert_reports.specs.Log.{most_record}
use Rattle.lert_spec.specs.{declared.numbers.Numbers.Numbers, Edges.capacity, Mix.cone_of}
use Rattle.lert_cone.specs.{declared.journal_places.JournalPlace.JournalPlace, declared.tally.TakeFault.TakeFault, Due.Dues, KeepsLog.{KeepsLogOf, LogHead}, Framed.{HoldsSome, last_flush}}
use Rattle.lert_cone.specs.{Listing.Listing, JournalPlaces.{ArePlacesIn, AreOfRecord, HasPassed, Places}, Record.LogPlace, Replay.IsOnWay}
use Rattle.lert_cone.specs.{Takes.{work_at, Workplace, AreNext, CanLog, CanTake, CanReplay, TakesItems, ReplaysItems, replayed_head, taken_head}, Tally.{Tallied, IsRecounted}}
use Rattle.lert_bay.proofs.KeptLaws.{IsLawful, keeps_none}
use Rattle.lert_cone.proofs.{Calls.alone_none, KeepsLogSteps.{log_as, log_none}, KeysTaken.map_ok, KeyStep.sound_behind, JournalPlaceLaws.record_part, RecountLaws.recounted_behind}
use Rattle.lert_cone.proofs.{ReplayLaws.{on_way_places, sound_recounted}, ReplayStep.{way_counted, way_in_step, way_partway, way_taken, enough_counted, told_once}, SomeLaws.some_counted}
use Rattle.lert_cone.proofs.TakeLaws.{on_ok}
use Rattle.lert_spec.specs.Items.{AreOfVersion}
use Rattle.lert_spec.specs.{Counts.{weighed, weight_of}, Edges.weight_room}
use Rattle.lert_cone.proofs.WeighLaws.{weigh_more}
use Rattle.lert_base.specs.Packet.{events_of}

never_true : (b : Bool) → (b ≡ true → ⊥) → b ≡ false
never_true true never = absurd (never refl)
never_true false never = refl

-- `counts` is what the cone counted once the first items are counted again, and nothing else changed
-- the items of a list up to some of its next ones weigh no more than a cone takes, where all do
light_ahead : (s : Numbers) (all events keys rest : List Item) (count : ℕ) → all ≡ events ++ (keys ++ rest) → weight_of weighed all ≤ weight_room s →
    weight_of weighed ((events ++ take count keys) ++ drop count keys) ≤ weight_room s
light_ahead s all events keys rest count is weighs = omega (
  arith,
  weighs,
  ap (weight_of weighed) is,
  weigh_more events (keys ++ rest),
  weigh_more keys rest,
  weigh_more (events ++ take count keys) (drop count keys),
  weigh_more events (take count keys),
  weigh_more (take count keys) (drop count keys),
  ap (weight_of weighed) (take-append-drop count keys),
)

module _ {B : Type 0} {bays : Bays B} (lawful : IsLawful bays) (place : JournalPlace) {old : Workplace B} {n0 count : ℕ} {keys front back : List Item} (can : CanReplay bays n0 keys old)
    (front_is : front ≡ take count keys) (back_is : back ≡ drop count keys) (count_is : count ≡ min (n0 - length old.counts.listing.events) (length keys)) {counts : Tallied}
    (front_taken : counts.listing ≡ record old.counts.listing { events = old.counts.listing.events ++ front })
    (rows_are : counts.rows ≡ old.counts.rows) (due_is : counts.due ≡ old.counts.due) (recounted : IsRecounted counts n0) {at : ℕ} {places : Places} {log_mid : LogPlace}
    (at_is : at ≡ length counts.listing.events) (passed : HasPassed at place old.log.places places) (rest_is : log_mid ≡ record old.log { places = places }) where
  listing_is : counts.listing ≡ record old.counts.listing { events = old.counts.listing.events ++ take count keys }
  listing_is = front_taken ∙ ap (λ (ks : List Item). record old.counts.listing { events = old.counts.listing.events ++ ks }) front_is

  over : HasPassed (length counts.listing.events) place old.log.places places
  over = subst (λ n. HasPassed n place old.log.places places) at_is passed

  abbrev log_then : LogPlace
  log_then = record old.log { places = places }

  settings_are : counts.listing.settings ≡ old.counts.listing.settings
  settings_are = ap (λ (l : Listing). l.settings) listing_is

  version_is : counts.listing.version ≡ old.counts.listing.version
  version_is = ap (λ (l : Listing). l.version) listing_is

  counted : length counts.listing.events ≡ length old.counts.listing.events + length (take count keys)
  counted = ap (λ (l : Listing). length l.events) listing_is ∙ length-append old.counts.listing.events (take count keys)

  early : count ≤ n0 - length old.counts.listing.events
  early = omega (arith, count_is)

  can_log_then : CanLog bays (work_at old.bay counts log_then old.room)
  can_log_then = record {
    logging = record {
      most = can.can_log.logging.most ∙ ap most_record (sym settings_are);
      named = omega (arith, can.can_log.logging.named, ap (λ (d : Dues). length d.reports) due_is);
      near = omega (arith, can.can_log.logging.near, counted);
      roomy = can.can_log.logging.roomy;
      same = over.settings ∙ can.can_log.logging.same ∙ sym settings_are;
      passed = over.passed;
    };
    log_shut = can.can_log.log_shut;
  }

  -- the items that were counted are of the record, and those that are left
  placed : (history : List Packet) → AreNext history place old keys → ArePlacesIn old.counts.listing.version history old.log.places → ArePlacesIn old.counts.listing.version history places
  placed history next = over.places old.counts.listing.version history
      (record_part history place (length old.counts.listing.events) (length old.counts.listing.events + length keys) old.log.places.passed (length counts.listing.events)
      (omega (arith, can.can_log.logging.passed)) (omega (arith, counted, length-take count keys)) next)

  next_ahead : (history : List Packet) → AreNext history place old keys →
      AreOfRecord counts.listing.version history place (length counts.listing.events) (length counts.listing.events + length (drop count keys))
  next_ahead history next =
      subst (λ v. AreOfRecord v history place (length counts.listing.events) (length counts.listing.events + length (drop count keys))) (sym version_is)
      (record_part history place (length old.counts.listing.events) (length old.counts.listing.events + length keys) (length counts.listing.events)
      (length counts.listing.events + length (drop count keys)) (omega (arith, counted)) (omega (arith, counted, length-take count keys, length-drop count keys)) next)

  turned : (seen : Files) (history : List Packet) → AreNext history place old keys →
      IsOnWay (bays.leaves old.bay) seen history old.counts.listing old.counts.rows old.counts.due.reports old.log n0 →
      IsOnWay (bays.leaves old.bay) seen history old.counts.listing old.counts.rows old.counts.due.reports (record old.log { places = places }) n0
  turned seen history next on_way =
      on_way_places (bays.leaves old.bay) seen history old.counts.listing old.counts.rows old.counts.due.reports old.log n0 on_way places (placed history next on_way.in_step.placed)
      over.from

  -- all items are counted again
  pub all_again : length back ≡ 0 → ReplaysItems bays n0 place keys old (work_at old.bay counts log_mid old.room) (Ok tt)
  all_again empty =
      let none : length (drop count keys) ≡ 0 = ap (length {A = Item}) (sym back_is) ∙ empty in
      let whole : take count keys ≡ keys = take_all count keys (omega (arith, none, length-drop count keys)) in
      let events_are : counts.listing.events ≡ old.counts.listing.events ++ take count keys = ap (λ (l : Listing). l.events) listing_is in
      subst (λ (l : LogPlace). ReplaysItems bays n0 place keys old (work_at old.bay counts l old.room) (Ok tt)) (sym rest_is) (record {
        listing = listing_is ∙ ap (λ (ks : List Item). record old.counts.listing { events = ks })
            (sym events_are);
        taken = events_are ∙ ap (λ ks. old.counts.listing.events ++ ks) whole;
        recounted = recounted;
        can_log = can_log_then;
        on_way = λ seen told history rest is next on_way after told_after.
            subst (λ (files : Files). IsOnWay (bays.leaves old.bay) files history counts.listing counts.rows counts.due.reports log_then n0)
            (told_once (bays.files old.bay) seen after told told_after)
            (way_counted (bays.leaves old.bay) seen history old.counts counts log_then n0 count keys rest (turned seen history next on_way) is early listing_is rows_are due_is);
        sound = λ seen told history rest is next on_way file at same. (let never : ⊥ = cc in never);
        each_moment = λ seen told history rest is next on_way image may.
            sound_recounted (bays.leaves old.bay) seen history old.counts old.log n0 can.recounted on_way (keys ++ rest) is image (lawful.only_now old.bay image may);
        unflushed = λ passed. refl;
        framed = λ seen told some after told_after.
            let same : max n0 (length old.counts.listing.events) ≡ max n0 (length counts.listing.events) =
            omega (arith, count_is, counted, none, length-take count keys, length-drop count keys) in
            subst (λ (l : Listing). HoldsSome l.version l.settings (max n0 (length counts.listing.events)) counts.rows (after 2)) (sym listing_is)
            (subst (λ (rows : List (List BinAt)). HoldsSome old.counts.listing.version old.counts.listing.settings (max n0 (length counts.listing.events)) rows (after 2)) (sym rows_are)
            (subst (λ n. HoldsSome old.counts.listing.version old.counts.listing.settings n old.counts.rows (after 2)) same
            (subst (λ (files : Files). HoldsSome old.counts.listing.version old.counts.listing.settings (max n0 (length old.counts.listing.events)) old.counts.rows (files 2)) (told_once
            (bays.files old.bay) seen after told told_after) some)));
        whole = λ seen told some at same. (let never : ⊥ = cc in never);
        log = let same : max n0 (length old.counts.listing.events) ≡ max n0 (length counts.listing.events) =
            omega (arith, count_is, counted, none, length-take count keys, length-drop count keys) in
            let heads_are : replayed_head n0 old ≡ record { rows = counts.rows; events = max n0 (length counts.listing.events); gate = old.log.gate } =
            λ i. record { rows = (sym rows_are) i; events = same i; gate = old.log.gate } in
            log_as bays lawful old.counts.listing.settings (replayed_head n0 old) (replayed_head n0 old) _ old.bay old.bay (Ok tt) (Ok tt) (λ P holds. subst P heads_are holds)
            (log_none bays lawful old.counts.listing.settings {E = TakeFault} (replayed_head n0 old) old.bay can.can_log.log_shut);
        keeps = record {
          shows = λ seen told file at same. absurd (let never : ⊥ = cc in never);
          journal = alone_none lawful;
          most = refl;
          kept = keeps_none bays lawful old.bay _ (λ same. (let never : ⊥ = cc in never));
        };
      })

  -- others stand behind those
  module _ (some_back : 0 < length back) where
    some : 0 < length (drop count keys)
    some = omega (arith, some_back, ap (length {A = Item}) back_is)

    enough : n0 ≤ length counts.listing.events
    enough = enough_counted old.counts counts n0 count keys count_is some listing_is

    pub can_take_ahead : CanTake bays back (work_at old.bay counts log_mid old.room)
    can_take_ahead = subst (λ (ks : List Item). CanTake bays ks (work_at old.bay counts log_mid old.room)) (sym back_is)
        (subst (λ (l : LogPlace). CanTake bays (drop count keys) (work_at old.bay counts l old.room)) (sym rest_is) (record {
          still = never_true counts.listing.closed (λ closed. absurd (omega (
            arith,
            can.before_closing (sym (ap (λ (l : Listing). l.closed) listing_is)
                ∙ closed),
            enough,
            counted,
            some,
            length-take count keys,
            length-drop count keys,
          )));
          own = subst (λ (l : Listing). All (λ item. cone_of l.settings item.key ≡ l.cone) (drop count keys)) (sym listing_is)
              (All-drop (λ item. cone_of old.counts.listing.settings item.key ≡ old.counts.listing.cone) count keys can.own);
          light = subst (λ (l : Listing). AreOfVersion l.version (drop count keys)) (sym listing_is)
              (All-drop (λ (item : Item). (1 ≤ item.weight) × (item.weight ≤ most_weight old.counts.listing.version)) count keys can.light);
          fits = subst (λ (l : Listing). length l.events + length (drop count keys) ≤ capacity l.settings) (sym listing_is)
              (omega (arith, can.fits, length-append old.counts.listing.events (take count keys), length-take count keys, length-drop count keys, some));
          counted = recounted.behind enough;
          can_log = can_log_then;
        }))

    pub others_ahead : {new : Workplace B} {result : Result (Unit {0}) TakeFault} → TakesItems bays place back (work_at old.bay counts log_mid old.room) new result →
        ReplaysItems bays n0 place keys old new result
    others_ahead {new = new} {result = result} takes =
        let did = subst (λ (ks : List Item). TakesItems bays place ks (work_at old.bay counts log_then old.room) new result) back_is
        (subst (λ (l : LogPlace). TakesItems bays place back (work_at old.bay counts l old.room) new result) rest_is takes) in
        let up_to : max n0 (length old.counts.listing.events) ≡ length counts.listing.events = omega (arith, count_is, counted, enough, length-take count keys) in
        let then_most : (ks : List Item) → ks ≡ counts.listing.events ++ drop count keys → length ks ≡ max n0 (length ks) =
        λ ks is. (let long : length ks ≡ length counts.listing.events + length (drop count keys) = ap (length {A = Item}) is ∙ length-append counts.listing.events (drop count keys) in omega
        (arith, long, enough)) in
        record {
          listing = did.listing ∙ ap (λ (l : Listing). record l { events = new.counts.listing.events }) listing_is;
          taken = map_ok result (λ (took : new.counts.listing.events ≡ counts.listing.events ++ drop count keys).
              took ∙ ap (λ (l : Listing). l.events ++ drop count keys) listing_is ∙ append_assoc old.counts.listing.events (take count keys) (drop count keys)
              ∙ ap (λ ks. old.counts.listing.events ++ ks) (take-append-drop count keys)) did.taken;
          recounted = on_ok _ _ (IsRecounted new.counts n0) result did.counted did.taken
              (λ now (took : new.counts.listing.events ≡ counts.listing.events ++ drop count keys). recounted_behind new.counts n0 now
              (omega (arith, enough, ap (length {A = Item}) took, length-append counts.listing.events (drop count keys))));
          can_log = did.can_log;
          on_way = λ seen told history rest is next on_way.
              let step = way_in_step (bays.leaves old.bay) seen history old.counts counts log_then n0 count keys rest (turned seen history next on_way) is early listing_is rows_are due_is enough in
              on_ok _ _ (IfTold (bays.files new.bay) (λ after. IsOnWay (bays.leaves new.bay) after history new.counts.listing new.counts.rows new.counts.due.reports new.log n0)) result
              (did.in_step seen told history (next_ahead history next) step) did.taken
              (λ up (took : new.counts.listing.events ≡ counts.listing.events ++ drop count keys) after told_after.
              way_taken (bays.leaves old.bay) seen history old.counts counts log_then n0 count keys rest (turned seen history next on_way) is early listing_is rows_are due_is enough
              (bays.leaves new.bay) after new.counts
              new.log
              (did.listing ∙ ap (λ (ks : List Item). record counts.listing { events = ks }) took)
              (up after told_after));
          sound = λ seen told history rest is next on_way.
              did.sound seen told history (next_ahead history next)
              (way_in_step (bays.leaves old.bay) seen history old.counts counts log_then n0 count keys rest (turned seen history next on_way) is early listing_is rows_are due_is enough)
              (subst (λ (l : Listing). weight_of weighed (l.events ++ drop count keys) ≤ weight_room l.settings) (sym listing_is)
              (light_ahead old.counts.listing.settings (events_of history) old.counts.listing.events keys rest count is
              (on_way.in_step.journal seen (lawful.as_read old.bay seen told)).light));
          each_moment = λ seen told history rest is next on_way image may.
              let step = way_in_step (bays.leaves old.bay) seen history old.counts counts log_then n0 count keys rest (turned seen history next on_way) is early listing_is rows_are due_is enough in
              let partway = way_partway (bays.leaves old.bay) seen history old.counts counts log_then n0 count keys rest (turned seen history next on_way) is early listing_is rows_are due_is enough in
              sound_behind counts.listing old.counts.listing history image settings_are (ap (λ (l : Listing). l.cone) listing_is) (did.each_moment seen told history
              (next_ahead history next) partway step image may);
          unflushed = λ passed.
              let same : length counts.listing.events + length (drop count keys) ≡ length old.counts.listing.events + length keys =
              omega (arith, count_is, counted, length-take count keys, length-drop count keys) in
              did.unflushed (subst (λ (s : Numbers). last_flush s (length counts.listing.events + length (drop count keys)) ≤ length counts.listing.events) (sym settings_are)
              (omega (arith, passed, up_to, ap (last_flush old.counts.listing.settings) same)));
          framed = λ seen told holds.
              let here = some_counted old.counts counts (max n0 (length old.counts.listing.events)) (seen 2) settings_are version_is rows_are up_to holds in
              on_ok _ _ (IfTold (bays.files new.bay) (λ after. HoldsSome new.counts.listing.version new.counts.listing.settings (max n0 (length new.counts.listing.events)) new.counts.rows (after
              2))) result
              (did.framed seen told here) did.taken
              (λ again (took : new.counts.listing.events ≡ counts.listing.events ++ drop count keys) after told_after.
              subst (λ n. HoldsSome new.counts.listing.version new.counts.listing.settings n new.counts.rows (after 2)) (then_most new.counts.listing.events took) (again after told_after));
          whole = λ seen told holds. did.whole seen told (some_counted old.counts counts (max n0 (length old.counts.listing.events)) (seen 2) settings_are version_is rows_are up_to holds);
          log = let heads_are : ◌≡◌ {A = LogHead} (record { rows = counts.rows; events = length counts.listing.events; gate = old.log.gate }) (replayed_head n0 old) =
              λ i. record { rows = rows_are i; events = (sym up_to) i; gate = old.log.gate } in
              subst (λ (head : LogHead). KeepsLogOf bays old.counts.listing.version old.counts.listing.settings head (replayed_head n0 new) old.bay new.bay result) heads_are
              (subst (λ (l : Listing). KeepsLogOf bays l.version l.settings (record { rows = counts.rows; events = length counts.listing.events; gate = old.log.gate })
              (replayed_head n0 new) old.bay new.bay result) listing_is
              (log_as bays lawful counts.listing.settings (record { rows = counts.rows; events = length counts.listing.events; gate = old.log.gate }) (taken_head new)
              (replayed_head n0 new) old.bay new.bay result
              result (λ P holds. on_ok _ _ (P (replayed_head n0 new)) result holds did.taken
              (λ here (took : new.counts.listing.events ≡ counts.listing.events ++ drop count keys).
              subst P (λ i. record { rows = new.counts.rows; events = (then_most new.counts.listing.events took) i; gate = new.log.gate }) here)) did.log));
          keeps = record {
            shows = did.keeps.shows;
            journal = did.keeps.journal;
            most = did.keeps.most;
            kept = did.keeps.kept;
          };
        }
