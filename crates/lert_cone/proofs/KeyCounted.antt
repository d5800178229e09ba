-- An item through the counts: its totals don't come to the reports, or a report finds no room, or it is counted.
use Rattle.std.proofs.Common.{◌≡◌, ℕ, ◌+◌, ◌<◌, ◌-◌, ◌≢◌, true, false, List, [], ◌∷◌, ◌++◌, length, Some, Result, Ok, Err, refl, sym, ap, ◌∙◌, subst, arith}
use Rattle.std.specs.Result.{IsErrAnd}
use Rattle.lert_bay.specs.{Files.Files, Kept.Bays}
use Rattle.lert_gatelog.specs.Kept.{InEach}
use Rattle.lert_levels.specs.{declared.rows.fault.FlushFault.FlushFault, declared.rows.fault.FlushFault.TheVariants.{Failed as FlushFailed, Malformed}, Flushed.InNamed, rows.Landing.KeepsRest}
use Rattle.lert_levels.specs.{rows.Loading.OneBreaks, OnDisk.OnDisk, rows.Rows.{AreRows, HoldsBins}, rows.Young.Young}
use Rattle.lert_spec.specs.{declared.item.Item.Item, declared.numbers.Numbers.Numbers, Items.AreOfVersion, declared.report.Report.Report, Edges.{key_limit, edge}, Mix.cone_of}
use Rattle.lert_cone.specs.{declared.tally.TakeFault.TakeFault, declared.tally.TakeFault.TheVariants.{Failed, Unsound}, Counts.{GivesTotals, CountsItem}, Due.{Dues, started}, Framed.HoldsSome}
use Rattle.lert_cone.specs.Tally.{Tallied, AreYoung, IsHeld, take_fault}
use Rattle.lert_bay.proofs.KeptLaws.{IsLawful, keeps_as}
use Rattle.lert_cone.proofs.TakeLaws.{IsTaking, young_now, light_now, frames_now, others, others_long, others_light}
use Rattle.lert_cone.proofs.TakeLaws.{others_young, others_frames, others_next, all_long, counted_next, held_next, never_full, sound_fault}
use Rattle.lert_cone.proofs.{TakeLaws.{shows_frame, shows_full, handed_on}, TallyLaws.frames_more}

pub failed_flush : (fault : FlushFault) → take_fault fault ≡ Failed → fault ≡ FlushFailed
failed_flush FlushFailed same = refl
failed_flush (Malformed at) same = absurd (let never : ⊥ = cc in never)

module _ {B : Type 0} {bays : Bays B} (lawful : IsLawful bays) {t : Tallied} {ls : Numbers} {item : Item} {tail m : ℕ} {young : Young} (taking : IsTaking t ls item tail m young)
    {start : Dues} (start_is : start ≡ started t.due m) (due : Dues) (bay bay_after : B) (young_after : Young) (levels_after : OnDisk) where
  abbrev all : List Item
  all = t.listing.events ++ item ∷ []

  long : length (t.listing.events ++ item ∷ []) ≡ m
  long = all_long taking

  now_young : AreYoung ls (t.listing.events ++ item ∷ []) young.from young.bins
  now_young = young_now taking

  now_light : AreOfVersion t.listing.version (t.listing.events ++ item ∷ [])
  now_light = light_now taking

  now_frames : (seen : Files) → IsHeld t seen → HoldsBins ls t.listing.version (t.listing.events ++ item ∷ []) t.rows (seen 2)
  now_frames = frames_now taking

  -- an edge that stays, said of the levels and of the key's position
  levels_stay : edge t.listing.settings 0 (length t.listing.events + 1) ≡ edge t.listing.settings 0 (length t.listing.events) → edge ls 0 m ≡ edge ls 0 (m - 1)
  levels_stay stays = ap (λ (s : Numbers). edge s 0 m) taking.levels_are ∙ ap (edge t.listing.settings 0) (taking.m_is ∙ omega arith) ∙ stays
      ∙ ap (edge t.listing.settings 0) (omega (arith, taking.m_is))
      ∙ ap (λ (s : Numbers). edge s 0 (m - 1)) (sym taking.levels_are)

  module _ (result : Result (Unit {0}) FlushFault) (gives : GivesTotals bays start m tail bay bay_after young young_after (record { settings = ls; version = t.listing.version; rows = t.rows })
      levels_after due result) where
    never_malformed_held : (seen : Files) → bays.files bay ≡ Some seen → IsHeld t seen → (at : ℕ) → result ≢ Err (Malformed at)
    never_malformed_held seen told held = gives.sound (t.listing.events ++ item ∷ []) long now_light now_young seen told (now_frames seen held)

    never_malformed_some : (seen : Files) → bays.files bay ≡ Some seen → HoldsSome t.listing.version t.listing.settings (length t.listing.events) t.rows (seen 2) → (at : ℕ) →
        result ≢ Err (Malformed at)
    never_malformed_some seen told some =
        gives.sound (others taking (seen 2) some) (others_long taking (seen 2) some) (others_light taking (seen 2) some) (others_young taking (seen 2) some) seen told
        (others_frames taking (seen 2) some)

    rest_here : KeepsRest bays (InNamed t.listing.settings t.listing.version t.rows) bay bay_after
    rest_here = subst (λ (s : Numbers). KeepsRest bays (InNamed s t.listing.version t.rows) bay bay_after) taking.levels_are gives.rest

    unflushed_here : edge t.listing.settings 0 (length t.listing.events + 1) ≡ edge t.listing.settings 0 (length t.listing.events) → bay_after ≡ bay
    unflushed_here stays = gives.unflushed (levels_stay stays)

  -- the totals don't come
  refused_by : (fault : FlushFault) → GivesTotals bays start m tail bay bay_after young young_after (record { settings = ls; version = t.listing.version; rows = t.rows }) levels_after due (Err
      fault) →
      CountsItem bays item bay bay_after t (record { listing = t.listing; young = young_after; rows = levels_after.rows; due = due }) (Err (take_fault fault))
  refused_by fault gives = record {
    listing = refl;
    taken = tt;
    counted = tt;
    grows = tt;
    still = λ stays. tt;
    unflushed = unflushed_here (Err fault) gives;
    held = λ seen told held. tt;
    sound = λ seen told held weighs file at same.
        sound_fault fault (λ place is. never_malformed_held (Err fault) gives seen told held place (ap Err is)) file at (let inner : take_fault fault ≡ Unsound file at = cc in inner);
    shows = λ seen told file at same.
        shows_frame (Err (take_fault fault)) fault refl t.listing.settings levels_after.rows due.reports (seen 2)
        (λ place is. subst (λ (v : Numbers). OneBreaks v t.listing.version levels_after.rows (seen 2) place) (gives.settings ∙ taking.levels_are) (gives.malformed_after seen told place (ap Err is)))
        file at same;
    framed = λ seen told some. tt;
    whole = λ seen told some at same.
        sound_fault fault (λ place is. never_malformed_some (Err fault) gives seen told some place (ap Err is)) 2 at (let inner : take_fault fault ≡ Unsound 2 at = cc in inner);
    images = λ seen told held each. tt;
    rest = rest_here (Err fault) gives;
    kept = keeps_as bays lawful bay bay_after _ _ (λ same. ap Err (failed_flush fault (let inner : take_fault fault ≡ Failed = cc in inner))) gives.kept;
  }

  pub not_counted : {result : Result (Unit {0}) FlushFault} {given : Result (Unit {0}) TakeFault} {fault : FlushFault} → result ≡ Err fault →
      GivesTotals bays start m tail bay bay_after young young_after (record { settings = ls; version = t.listing.version; rows = t.rows }) levels_after due result →
      IsErrAnd given (λ g. g ≡ take_fault fault) →
      CountsItem bays item bay bay_after t (record { listing = t.listing; young = young_after; rows = levels_after.rows; due = due }) given
  not_counted {given = given} {fault = fault} is gives given_is =
      subst (λ (r : Result (Unit {0}) TakeFault). CountsItem bays item bay bay_after t (record { listing = t.listing; young = young_after; rows = levels_after.rows; due = due }) r) (handed_on given
      (take_fault fault) given_is)
      (refused_by fault (subst (λ (r : Result (Unit {0}) FlushFault). GivesTotals bays start m tail bay bay_after young young_after (record {
        settings = ls;
        version = t.listing.version;
        rows =
            t.rows;
      })
      levels_after due r) is
      gives))

  module _ (below : item.key < key_limit t.listing.settings) (own : cone_of t.listing.settings item.key ≡ t.listing.cone) (still : t.listing.closed ≡ false)
      (gives : GivesTotals bays start m tail bay bay_after young young_after (record { settings = ls; version = t.listing.version; rows = t.rows }) levels_after due (Ok tt)) where
    -- a report finds no room
    pub no_room : due.is_full ≡ true → length due.reports ≡ due.settings.room →
        CountsItem bays item bay bay_after t (record { listing = t.listing; young = young_after; rows = levels_after.rows; due = due }) (Err (Unsound 1 0))
    no_room full filled = record {
      listing = refl;
      taken = tt;
      counted = tt;
      grows = tt;
      still = λ stays. tt;
      unflushed = unflushed_here (Ok tt) gives;
      held = λ seen told held. tt;
      sound = λ seen told held weighs file at same.
          never_full taking below own start due start_is still seen held
          (gives.totals (t.listing.events ++ item ∷ []) long now_light now_young seen told (now_frames seen held)) weighs full;
      shows = λ seen told file at same.
          shows_full t.listing.settings levels_after.rows due.reports (seen 2)
          (filled ∙ ap (λ (s : Numbers). s.room) (gives.took.1.settings_are ∙ ap (λ (d : Dues). d.settings) start_is ∙ taking.counted.due_settings)) file at same;
      framed = λ seen told some. tt;
      whole = λ seen told some at same. (let never : ⊥ = cc in never);
      images = λ seen told held each. tt;
      rest = rest_here (Ok tt) gives;
      kept = keeps_as bays lawful bay bay_after _ _ (λ same. absurd (let never : ⊥ = cc in never)) gives.kept;
    }

    -- the item is counted
    pub key_counted : {events : List Item} → events ≡ t.listing.events ++ item ∷ [] → due.is_full ≡ false →
        CountsItem bays item bay bay_after t (record {
          listing = record t.listing { events = events };
          young = young_after;
          rows = levels_after.rows;
          due = due;
        }) (Ok tt)
    key_counted {events = events} events_are room =
        let after : Tallied = record {
          listing = record t.listing { events = events };
          young = young_after;
          rows = levels_after.rows;
          due = due;
        } in
        let after_is : after ≡ record {
          listing = record t.listing { events = t.listing.events ++ item ∷ [] };
          young = young_after;
          rows = levels_after.rows;
          due = due;
        } =
        ap (λ (keys : List Item). record {
          listing = record t.listing { events = keys };
          young = young_after;
          rows = levels_after.rows;
          due = due;
        }) events_are in
        record {
          listing = refl;
          taken = events_are;
          counted = counted_next taking below own start due start_is young_after levels_after.rows after after_is
              gives.from gives.to (gives.bins (t.listing.events ++ item ∷ []) long now_light now_young) gives.rows (gives.are (subst (λ (v : Numbers). AreRows v t.rows)
              (sym taking.levels_are) taking.counted.are)) gives.took;
          grows = omega (arith, gives.took.1.grows, ap (λ (d : Dues). length d.before) start_is, ap (length {A = Report}) gives.took.1.before_is);
          still = λ stays. gives.still (levels_stay stays);
          unflushed = unflushed_here (Ok tt) gives;
          held = λ seen told held after_files told_after.
              held_next taking below own start due start_is still seen held
              (gives.totals (t.listing.events ++ item ∷ []) long now_light now_young seen told (now_frames seen held)) young_after levels_after.rows after after_files after_is room
              (gives.holds (t.listing.events ++ item ∷ []) long now_light now_young seen told (now_frames seen held) after_files told_after);
          sound = λ seen told held weighs file at same. (let never : ⊥ = cc in never);
          shows = λ seen told file at same. absurd (let never : ⊥ = cc in never);
          framed = λ seen told some after_files told_after.
              subst (λ (keys : List Item). HoldsSome t.listing.version t.listing.settings (length keys) levels_after.rows (after_files 2)) (sym events_are)
              (others_next taking (seen 2) some levels_after.rows (after_files 2) gives.rows (gives.holds (others taking (seen 2) some)
              (others_long taking (seen 2) some) (others_light taking (seen 2) some) (others_young taking (seen 2) some) seen told (others_frames taking (seen 2) some) after_files told_after));
          whole = λ seen told some at same. (let never : ⊥ = cc in never);
          images = λ seen told held each after_files told_after.
              let each_now : InEach (bays.leaves bay) 2 (HoldsBins ls t.listing.version (t.listing.events ++ item ∷ []) t.rows) =
              λ image may. subst (λ (v : Numbers). HoldsBins v t.listing.version (t.listing.events ++ item ∷ []) t.rows (image 2)) (sym taking.levels_are)
              (frames_more t.listing.settings taking.valid t.listing.events
              (item ∷ []) t.rows (image 2) taking.counted.rows t.listing.version (each image may)) in
              let stay = gives.images (t.listing.events ++ item ∷ []) long now_light now_young seen told (now_frames seen held) each_now in
              subst (λ (keys : List Item). InEach (bays.leaves bay_after) 2 (HoldsBins t.listing.settings t.listing.version keys levels_after.rows)) (sym events_are)
              (subst (λ (v : Numbers). InEach (bays.leaves bay_after) 2 (HoldsBins v t.listing.version (t.listing.events ++ item ∷ []) levels_after.rows)) taking.levels_are (stay after_files
              told_after));
          rest = rest_here (Ok tt) gives;
          kept = keeps_as bays lawful bay bay_after _ _ (λ same. absurd (let never : ⊥ = cc in never)) gives.kept;
        }
