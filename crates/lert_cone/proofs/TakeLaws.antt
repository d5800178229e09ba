-- A cone with one more key, from what the parts of the step say.
use Rattle.std.proofs.Common.{ℕ, ◌≡◌, ◌≢◌, ◌+◌, ◌-◌, ◌^◌, ◌<◌, ◌≤◌, suc, true, false, cond, List, [], ◌∷◌, ◌++◌, length, take, Result, Ok, Err, OnOk, inl, inr, refl, ap, ap₂, sym, ◌∙◌, arith, subst}
use Rattle.std.proofs.{Common.length-append, lemmas.List.{length-take, get_or-take}}
use Rattle.std.specs.{Prelude.{MatchResult, IsErrOf}, Result.IsErrAnd}
use Rattle.lert_bay.specs.Files.{Files}
use Rattle.lert_spec.specs.{declared.numbers.Numbers.Numbers, declared.piece.Piece.Piece, declared.report.Report.Report, Bins.tally}
use Rattle.lert_spec.specs.{Counts.weighed, declared.item.Item.Item, Items.{most_weight, AreOfVersion}, Edges.{key_limit, edge, capacity, tail_bits}, Limits.IsValid}
use Rattle.lert_spec.specs.Look.{look_of, closing_of}
use Rattle.lert_spec.specs.{Mix.{cone_of, tail_of}, Table.IsTable}
use Rattle.lert_spec.proofs.TallyLaws.{tally_table}
use Rattle.lert_levels.specs.{declared.rows.bin_at.BinAt.BinAt, declared.rows.fault.FlushFault.FlushFault, declared.rows.fault.FlushFault.TheVariants.{Failed as FlushFailed, Malformed}}
use Rattle.lert_levels.specs.{rows.Loading.{RowBreaks, OneBreaks}, rows.Ranges.young_bins, rows.Rows.{IsAt, AreRows, HoldsBins}, rows.Young.{AreLight, Young, with_event}}
use Rattle.lert_cone.specs.{declared.tally.TakeFault.TakeFault, declared.tally.TakeFault.TheVariants.Unsound, Due.{Dues, TookFrom, due_reports, started}, Framed.HoldsSome}
use Rattle.lert_cone.specs.Tally.{Tallied, IsCounted, IsHeld, IsLightWith, AreYoung, Shows, totals_at, take_fault}
use Rattle.lert_cone.proofs.{KeyLemmas.{HaveKeys-push, IsPartOf-push, AreOfVersion-push}}
use Rattle.lert_cone.proofs.{RoomLaws.{look_fits, closing_fits}, SomeLaws.{with_key, with_key_len, with_key_light, with_key_young, with_key_holds, with_key_some}}
use Rattle.lert_cone.proofs.{TallyLaws.{next_from, next_bins, frames_more, young_light}, TotalLaws.{closing_is, totals_table, look_is}}
use Rattle.lert_levels.proofs.rows.WeightLaws.{weigh_some, version_weigh}
use Rattle.lert_spec.specs.{Counts.weight_of, Edges.weight_room}
use Rattle.std.proofs.Common.{append-nil}

-- what a taker's state says of the definition: the totals of a start bring the definition's reports, or too many
module _ (s : Numbers) (cone at : ℕ) (before all : List Report) (pieces : List Piece) (start due : Dues)
    (settings : start.settings ≡ s) (same_cone : start.cone ≡ cone) (same_before : start.before ≡ before) (same_at : start.at ≡ at)
    (table : IsTable (2 ^ tail_bits s) pieces) (from : TookFrom start due pieces) (all_are : all ≡ before ++ due_reports s cone before at pieces) where
  shown : due.before ++ due_reports due.settings due.cone due.before due.at pieces ≡ all
  shown = (λ i. (from.before_is ∙ same_before) i ++ due_reports ((from.settings_are ∙ settings) i) ((from.cone_is ∙ same_cone) i) ((from.before_is ∙ same_before) i) ((from.at_is
      ∙ same_at) i) pieces) ∙ sym all_are

  table_there : IsTable (2 ^ tail_bits due.settings) pieces
  table_there = subst (λ (t : Numbers). IsTable (2 ^ tail_bits t) pieces) (sym (from.settings_are ∙ settings)) table

  pub reports_are : due.is_full ≡ false → due.reports ≡ all
  reports_are room = from.took.reported table_there room ∙ shown

  pub too_many : due.is_full ≡ true → s.room < length all
  too_many full =
      let over = from.took.too_many table_there full in
      omega (arith, ap length shown, ap (λ (t : Numbers). t.room) (from.settings_are ∙ settings))

-- the item that a cone takes next, as a piece of its level 0
pub record IsTaking (t : Tallied) (ls : Numbers) (item : Item) (tail m : ℕ) (young : Young) : Type 0 where
  pub levels_are : ls ≡ t.listing.settings
  pub valid : IsValid t.listing.settings
  pub named : t.listing.cone < 2 ^ t.listing.settings.cone_bits
  pub young_settings : t.young.settings ≡ t.listing.settings
  pub counted : IsCounted t
  pub fits : length t.listing.events < capacity t.listing.settings
  pub tail_is : tail ≡ tail_of t.listing.settings item.key
  pub m_is : m ≡ suc (length t.listing.events)
  pub some : 1 ≤ item.weight
  pub light : item.weight ≤ most_weight t.listing.version
  pub added : young ≡ with_event t.young tail item.weight m

-- where the cone was asked for as it is seen
pub to_take : {t seen : Tallied} {ls : Numbers} {item : Item} {tail len : ℕ} {young : Young} → t ≡ seen → IsCounted seen → length seen.listing.events < capacity seen.listing.settings →
    ls ≡ t.listing.settings → IsValid t.listing.settings → t.listing.cone < 2 ^ t.listing.settings.cone_bits → t.young.settings ≡ t.listing.settings →
    tail ≡ tail_of t.listing.settings item.key → len ≡ length t.listing.events → 1 ≤ item.weight → item.weight ≤ most_weight seen.listing.version →
    young ≡ with_event t.young tail item.weight (len + 1) →
    IsTaking t ls item tail (len + 1) young
to_take {item = item} same counted fits levels_are valid named young_settings tail_is len_is some light added = record {
  levels_are = levels_are;
  valid = valid;
  named = named;
  young_settings = young_settings;
  counted = subst (λ (v : Tallied). IsCounted v) (sym same) counted;
  fits = subst (λ (v : Tallied). length v.listing.events < capacity v.listing.settings) (sym same) fits;
  tail_is = tail_is;
  m_is = omega (arith, len_is);
  some = some;
  light = subst (λ (v : Tallied). item.weight ≤ most_weight v.listing.version) (sym same) light;
  added = added;
}

-- the next item
module _ {t : Tallied} {ls : Numbers} {item : Item} {tail m : ℕ} {young : Young} (taking : IsTaking t ls item tail m young) where
  abbrev all : List Item
  all = t.listing.events ++ item ∷ []

  pub all_long : length all ≡ m
  all_long = omega (arith, taking.m_is, length-append t.listing.events (item ∷ []))

  pub rows_before : IsAt ls (m - 1) t.rows
  rows_before =
      let before : m - 1 ≡ length t.listing.events = omega (arith, taking.m_is) in
      subst (λ (v : Numbers). IsAt v (m - 1) t.rows) (sym taking.levels_are) (subst (λ n. IsAt t.listing.settings n t.rows) (sym before) taking.counted.rows)

  added_here : young ≡ with_event t.young tail item.weight (suc (length t.listing.events))
  added_here = taking.added ∙ ap (with_event t.young tail item.weight) taking.m_is

  from_now : young.from ≡ edge t.listing.settings 0 (length t.listing.events)
  from_now = ap (λ (y : Young). y.from) added_here
      ∙ next_from t.listing.settings taking.valid t.young t.listing.events item taking.young_settings taking.counted.from taking.counted.to taking.counted.bins.is taking.fits tail

  pub young_now : AreYoung ls all young.from young.bins
  young_now =
      record {
        is = ap (λ (y : Young). y.bins) added_here
            ∙ next_bins t.listing.settings taking.valid t.young t.listing.events item taking.young_settings taking.counted.from taking.counted.to taking.counted.bins.is taking.fits tail taking.tail_is
            ∙ ap₂ (λ (v : Numbers) (p : ℕ). young_bins v all p) (sym taking.levels_are) (sym from_now);
      }

  pub light_now : AreOfVersion t.listing.version (t.listing.events ++ item ∷ [])
  light_now = AreOfVersion-push t.listing.version t.listing.events item taking.counted.light taking.some taking.light

  -- level 0 may go into frames of the version that is written
  pub bins_light : AreLight t.listing.version young.bins
  bins_light = subst (AreLight t.listing.version) (sym young_now.is) (young_light ls all young.from t.listing.version light_now)

  pub frames_now : (seen : Files) → IsHeld t seen → HoldsBins ls t.listing.version all t.rows (seen 2)
  frames_now seen held =
      subst (λ (v : Numbers). HoldsBins v t.listing.version all t.rows (seen 2)) (sym taking.levels_are)
      (frames_more t.listing.settings taking.valid t.listing.events (item ∷ []) t.rows (seen 2) taking.counted.rows t.listing.version held.frames)

  -- where the frames hold the bins of some events, whatever these are, level 0 has those of the same ones with the cone's newest
  -- behind them
  module _ (file : List ℕ) (some : HoldsSome t.listing.version t.listing.settings (length t.listing.events) t.rows file) where
    abbrev pub others : List Item
    others = with_key t.listing.settings taking.valid t.listing.events item t.rows file taking.counted.rows some

    pub others_long : length others ≡ m
    others_long = with_key_len t.listing.settings taking.valid t.listing.events item t.rows file taking.counted.rows some ∙ sym taking.m_is

    pub others_light : AreOfVersion t.listing.version others
    others_light = with_key_light t.listing.settings taking.valid t.listing.events item t.rows file taking.counted.rows some light_now

    pub others_young : AreYoung ls others young.from young.bins
    others_young = record {
      is = young_now.is
          ∙ ap₂ (λ (v : Numbers) (p : ℕ). young_bins v all p) taking.levels_are from_now
          ∙ sym (with_key_young t.listing.settings taking.valid t.listing.events item t.rows file taking.counted.rows some)
          ∙ ap₂ (λ (v : Numbers) (p : ℕ). young_bins v others p) (sym taking.levels_are) (sym from_now);
    }

    pub others_frames : HoldsBins ls t.listing.version others t.rows file
    others_frames = subst (λ (v : Numbers). HoldsBins v t.listing.version others t.rows file) (sym taking.levels_are)
        (with_key_holds t.listing.settings taking.valid t.listing.events item t.rows file taking.counted.rows some)

    pub others_next : (rows : List (List BinAt)) (after : List ℕ) → IsAt ls m rows → HoldsBins ls t.listing.version others rows after →
        HoldsSome t.listing.version t.listing.settings (length all) rows after
    others_next rows after at holds =
        subst (λ n. HoldsSome t.listing.version t.listing.settings n rows after) (sym taking.m_is ∙ sym all_long)
        (with_key_some t.listing.settings taking.valid t.listing.events item t.rows file taking.counted.rows some rows after
        (subst (λ n. IsAt t.listing.settings n rows) taking.m_is (subst (λ (v : Numbers). IsAt v m rows) taking.levels_are at)) light_now
        (subst (λ (v : Numbers). HoldsBins v t.listing.version others rows after) taking.levels_are holds))

  module _ (below : item.key < key_limit t.listing.settings) (own : cone_of t.listing.settings item.key ≡ t.listing.cone) (start due : Dues) (start_is : start ≡ started t.due m) where
    start_settings : start.settings ≡ t.listing.settings
    start_settings = ap (λ (d : Dues). d.settings) start_is ∙ taking.counted.due_settings

    start_cone : start.cone ≡ t.listing.cone
    start_cone = ap (λ (d : Dues). d.cone) start_is ∙ taking.counted.due_cone

    -- the parts after the step make a cone again
    pub counted_next : (next : Young) (rows : List (List BinAt)) (after : Tallied) → after ≡ record { listing = record t.listing { events = all }; young = next; rows = rows; due = due } →
        next.from ≡ edge ls 0 m → next.to ≡ m → AreYoung ls all (edge ls 0 m) next.bins → IsAt ls m rows → AreRows ls rows → (pieces : List Piece) × TookFrom start due pieces →
        IsCounted after
    counted_next next rows after after_is from to bins at are took =
        subst (λ (v : Tallied). IsCounted v) (sym after_is) (record {
          valid = taking.valid;
          fits = omega (arith, all_long, taking.m_is);
          keys = HaveKeys-push t.listing.settings t.listing.events item taking.counted.keys below;
          own = IsPartOf-push t.listing.settings t.listing.cone t.listing.events item taking.counted.own own;
          known = taking.counted.known;
          light = light_now;
          from = from ∙ ap₂ (λ (v : Numbers) (p : ℕ). edge v 0 p) taking.levels_are (sym all_long);
          to = to ∙ sym all_long;
          bins = record { is = bins.is ∙ ap₂ (λ (v : Numbers) (p : ℕ). young_bins v all (edge v 0 p)) taking.levels_are (sym all_long) };
          rows = subst (λ n. IsAt t.listing.settings n rows) (sym all_long) (subst (λ (v : Numbers). IsAt v m rows) taking.levels_are at);
          are = subst (λ (v : Numbers). AreRows v rows) taking.levels_are are;
          due_settings = took.1.settings_are ∙ start_settings;
          due_cone = took.1.cone_is ∙ start_cone;
        })

    module _ (still : t.listing.closed ≡ false) (seen : Files) (held : IsHeld t seen) (took : TookFrom start due (totals_at ls all m tail)) where
      looked : t.due.reports ≡ look_of weighed t.listing.settings t.listing.events
      looked = held.reports ∙ ap (λ b. cond b (closing_of weighed t.listing.settings t.listing.events) (look_of weighed t.listing.settings t.listing.events)) still

      totals : List Piece
      totals = totals_at t.listing.settings all (suc (length t.listing.events)) (tail_of t.listing.settings item.key)

      took_here : TookFrom start due (totals_at t.listing.settings all (suc (length t.listing.events)) (tail_of t.listing.settings item.key))
      took_here = subst (λ (pieces : List Piece). TookFrom start due pieces)
          ((λ i. totals_at (taking.levels_are i) all (taking.m_is i) (taking.tail_is i))) took

      table : IsTable (2 ^ tail_bits t.listing.settings) (totals_at t.listing.settings all (suc (length t.listing.events)) (tail_of t.listing.settings item.key))
      table = totals_table t.listing.settings t.listing.cone t.listing.events taking.valid taking.named taking.counted.keys taking.counted.own (version_weigh t.listing.version t.listing.events
          taking.counted.light) item below own taking.some

      all_looked : look_of weighed t.listing.settings all ≡ look_of weighed t.listing.settings t.listing.events ++ due_reports t.listing.settings t.listing.cone (look_of weighed
          t.listing.settings t.listing.events) (suc
          (length t.listing.events)) (totals_at t.listing.settings all (suc (length t.listing.events)) (tail_of t.listing.settings item.key))
      all_looked = look_is t.listing.settings t.listing.cone t.listing.events taking.valid taking.named taking.counted.keys taking.counted.own (version_weigh t.listing.version t.listing.events
          taking.counted.light) item below own taking.some

      pub never_full : IsLightWith t (item ∷ []) → due.is_full ≡ true → ⊥
      never_full weighs full =
          let over = too_many t.listing.settings t.listing.cone (suc (length t.listing.events)) (look_of weighed t.listing.settings t.listing.events) (look_of weighed t.listing.settings all)
          (totals_at t.listing.settings all (suc (length t.listing.events)) (tail_of t.listing.settings item.key)) start due
          start_settings start_cone (ap (λ (d : Dues). d.before) start_is ∙ looked) (ap (λ (d : Dues). d.at) start_is ∙ taking.m_is) table took_here all_looked full in
          let all_fits : length all ≤ capacity t.listing.settings = omega (arith, all_long, taking.m_is) in
          omega (arith, look_fits t.listing.settings all taking.valid all_fits weighs)

      pub held_next : (next : Young) (rows : List (List BinAt)) (now : Tallied) (after : Files) →
          now ≡ record { listing = record t.listing { events = all }; young = next; rows = rows; due = due } →
          due.is_full ≡ false → HoldsBins ls t.listing.version all rows (after 2) → IsHeld now after
      held_next next rows now after now_is room frames =
          subst (λ (v : Tallied). IsHeld v after) (sym now_is) (record {
            frames = subst (λ (v : Numbers). HoldsBins v t.listing.version all rows (after 2)) taking.levels_are frames;
            reports = reports_are t.listing.settings t.listing.cone (suc (length t.listing.events)) (look_of weighed t.listing.settings t.listing.events) (look_of weighed t.listing.settings all)
                (totals_at t.listing.settings all (suc (length t.listing.events)) (tail_of t.listing.settings item.key)) start due
                start_settings start_cone (ap (λ (d : Dues). d.before) start_is ∙ looked) (ap (λ (d : Dues). d.at) start_is ∙ taking.m_is) table took_here all_looked room
                ∙ sym (ap (λ b. cond b (closing_of weighed t.listing.settings all) (look_of weighed t.listing.settings all)) still);
          })

-- the end
module _ (t : Tallied) (ls : Numbers) (levels_are : ls ≡ t.listing.settings) (valid : IsValid t.listing.settings) (named : t.listing.cone < 2 ^ t.listing.settings.cone_bits)
    (counted : IsCounted t) where
  pub rows_end : IsAt ls (length t.listing.events) t.rows
  rows_end = subst (λ (v : Numbers). IsAt v (length t.listing.events) t.rows) (sym levels_are) counted.rows

  pub fits_end : length t.listing.events ≤ capacity ls
  fits_end = omega (arith, counted.fits, ap capacity levels_are)

  pub from_end : t.young.from ≡ edge ls 0 (length t.listing.events)
  from_end = counted.from ∙ ap (λ (v : Numbers). edge v 0 (length t.listing.events)) (sym levels_are)

  pub young_end : AreYoung ls t.listing.events t.young.from t.young.bins
  young_end = record { is = counted.bins.is ∙ (λ i. young_bins (sym levels_are i) t.listing.events (sym counted.from i)) }

  pub frames_end : (seen : Files) → IsHeld t seen → HoldsBins ls t.listing.version t.listing.events t.rows (seen 2)
  frames_end seen held = subst (λ (v : Numbers). HoldsBins v t.listing.version t.listing.events t.rows (seen 2)) (sym levels_are) held.frames

  module _ (at : ℕ) (at_is : at ≡ length t.listing.events) (start due : Dues) (start_is : start ≡ started t.due at) where
    settings_end : start.settings ≡ t.listing.settings
    settings_end = ap (λ (d : Dues). d.settings) start_is ∙ counted.due_settings

    cone_end : start.cone ≡ t.listing.cone
    cone_end = ap (λ (d : Dues). d.cone) start_is ∙ counted.due_cone

    pub counted_end : (pieces : List Piece) × TookFrom start due pieces → IsCounted (record t { listing = record t.listing { closed = true }; due = due })
    counted_end took = record {
      valid = valid;
      fits = counted.fits;
      keys = counted.keys;
      own = counted.own;
      known = counted.known;
      light = counted.light;
      from = counted.from;
      to = counted.to;
      bins = counted.bins;
      rows = counted.rows;
      are = counted.are;
      due_settings = took.1.settings_are ∙ settings_end;
      due_cone = took.1.cone_is ∙ cone_end;
    }

    module _ (still : t.listing.closed ≡ false) (seen : Files) (held : IsHeld t seen) (took : TookFrom start due (tally weighed ls t.listing.events)) where
      looked_end : t.due.reports ≡ look_of weighed t.listing.settings t.listing.events
      looked_end = held.reports ∙ ap (λ b. cond b (closing_of weighed t.listing.settings t.listing.events) (look_of weighed t.listing.settings t.listing.events)) still

      took_end : TookFrom start due (tally weighed t.listing.settings t.listing.events)
      took_end = subst (λ (v : Numbers). TookFrom start due (tally weighed v t.listing.events)) levels_are took

      pub never_full_end : IsLightWith t [] → due.is_full ≡ true → ⊥
      never_full_end weighs full =
          let over = too_many t.listing.settings t.listing.cone (length t.listing.events) (look_of weighed t.listing.settings t.listing.events) (closing_of weighed t.listing.settings t.listing.events)
          (tally weighed t.listing.settings t.listing.events) start due settings_end cone_end (ap (λ (d : Dues). d.before) start_is ∙ looked_end) (ap (λ (d : Dues). d.at) start_is ∙ at_is)
          (tally_table weighed t.listing.settings t.listing.events (weigh_some t.listing.events (version_weigh t.listing.version t.listing.events counted.light))) took_end (closing_is
          t.listing.settings
          t.listing.cone t.listing.events valid named counted.keys counted.own (version_weigh t.listing.version t.listing.events counted.light)) full in
          omega (
            arith,
            closing_fits t.listing.settings t.listing.events valid counted.fits (subst (λ (all : List Item). weight_of weighed all ≤ weight_room t.listing.settings) (append-nil t.listing.events)
                weighs),
          )

      pub held_end : due.is_full ≡ false → IsHeld (record t { listing = record t.listing { closed = true }; due = due }) seen
      held_end room = record {
        frames = held.frames;
        reports = reports_are t.listing.settings t.listing.cone (length t.listing.events) (look_of weighed t.listing.settings t.listing.events) (closing_of weighed t.listing.settings t.listing.events)
            (tally weighed t.listing.settings t.listing.events) start due settings_end cone_end (ap (λ (d : Dues). d.before) start_is ∙ looked_end) (ap (λ (d : Dues). d.at) start_is ∙ at_is)
            (tally_table weighed t.listing.settings t.listing.events (weigh_some t.listing.events (version_weigh t.listing.version t.listing.events counted.light))) took_end (closing_is
            t.listing.settings
            t.listing.cone t.listing.events valid named counted.keys counted.own (version_weigh t.listing.version t.listing.events counted.light)) room;
      }

-- a fault that isn't of a frame
pub sound_fault : (fault : FlushFault) → ((at : ℕ) → fault ≢ Malformed at) → (file at : ℕ) → take_fault fault ≢ Unsound file at
sound_fault FlushFailed fine file at same = cc
sound_fault (Malformed place) fine file at same = fine place refl

-- what a call that hands on a fault shows, where the fault is of a frame
pub shows_frame : {version : ℕ} (result : Result (Unit {0}) TakeFault) (fault : FlushFault) → IsErrAnd result (λ taken. taken ≡ take_fault fault) →
    (s : Numbers) (rows : List (List BinAt)) (reports : List Report) (frames : List ℕ) → ((at : ℕ) → fault ≡ Malformed at → OneBreaks s version rows frames at) →
    (file at : ℕ) → IsErrOf result (Unsound file at) → Shows version s rows reports frames file at
shows_frame (Ok done) fault is s rows reports frames breaks file at same = absurd is
shows_frame (Err taken) FlushFailed is s rows reports frames breaks file at same = cc
shows_frame {version} (Err taken) (Malformed place) is s rows reports frames breaks file at same =
    let frame : Unsound 2 place ≡ Unsound file at = cc in
    let number : file ≡ 2 = cc in
    let place_is : place ≡ at = cc in
    inl (number, subst (OneBreaks s version rows frames) place_is (breaks place refl))

-- and what a report shows that finds no room
pub shows_full : {version : ℕ} (s : Numbers) (rows : List (List BinAt)) (reports : List Report) (frames : List ℕ) → length reports ≡ s.room →
    (file at : ℕ) → ◌≡◌ {A = Result (Unit {0}) TakeFault} (Err (Unsound 1 0)) (Err (Unsound file at)) → Shows version s rows reports frames file at
shows_full s rows reports frames filled file at same =
    let number : file ≡ 1 = cc in
    let place : at ≡ 0 = cc in
    inr (number, place, filled)

-- a frame of the first rows is one of all
pub one_of_first : (s : Numbers) (version depth : ℕ) (rows : List (List BinAt)) (file : List ℕ) (at : ℕ) → OneBreaks s version (take depth rows) file at → OneBreaks s version rows file at
one_of_first s version depth rows file at one =
    let long = length-take depth rows in
    record {
      number = one.number;
      within = omega (arith, one.within);
      breaks = subst (λ row. RowBreaks s version (one.number + 1) row file at) (get_or-take depth rows one.number [] (omega (arith, one.within))) one.breaks;
    }

-- a call that hands on a fault as it is
pub handed_on : {T E : Type 0} (result : Result T E) (fault : E) → IsErrAnd result (λ given. given ≡ fault) → Err fault ≡ result
handed_on (Ok done) fault is = absurd is
handed_on (Err given) fault is = ap Err (sym is)

-- ---- what a flush answers

pub ok_of : {E : Type 0} (A : Type 0) (B : E → Type 0) (result : Result (Unit {0}) E) → MatchResult result (λ _. A) B → OnOk result A
ok_of A B (Ok done) holds = holds
ok_of A B (Err fault) holds = tt

-- what holds in any case
pub ok_holds : {T E A : Type 0} (result : Result T E) → A → OnOk result A
ok_holds (Ok done) holds = holds
ok_holds (Err fault) holds = tt

pub on_ok : {T E : Type 0} (A B C : Type 0) (result : Result T E) → OnOk result A → OnOk result B → (A → B → C) → OnOk result C
on_ok A B C (Ok done) one two goes = goes one two
on_ok A B C (Err fault) one two goes = tt

pub never_malformed : (A : Type 0) (result : Result (Unit {0}) FlushFault) → MatchResult result (λ _. A) (λ fault. fault ≡ FlushFailed) → (at : ℕ) →
    result ≢ Err (Malformed at)
never_malformed A (Ok done) holds at same = cc
never_malformed A (Err fault) failed at same = cc
