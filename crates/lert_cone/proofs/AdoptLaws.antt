-- What sound files and what was read of their log make of a cone that goes through the journal anew.
use Rattle.std.proofs.lemmas.List.Elements.{All-take}
use Rattle.lert_spec.specs.Items.{most_weight, AreOfVersion}
use Rattle.lert_cone.proofs.SoundLaws.{history_light}
use Rattle.lert_spec.specs.Counts.{weighed}
use Rattle.lert_spec.specs.declared.item.Item.{Item}
use Rattle.std.proofs.Common.{◌≡◌, ℕ, ◌+◌, ◌-◌, ◌^◌, ◌<◌, ◌≤◌, Bool, true, false, cond, List, [], ◌∷◌, length, take, get_or, map, max, All, Option, Some, refl, sym, ap, ◌∙◌, subst, inl, inr, arith}
use Rattle.std.proofs.{lemmas.Bool.{cases_Bool, cases_eq}, Math.Nat.mul-div-le, lemmas.List.{get_or-map, length-take-le, take_all}, lemmas.List.Elements.{All-nil, All-cons}}
use Rattle.std.specs.Prelude.{slice_index_or}
use Rattle.lert_base.specs.Packet.{Packet, events_of}
use Rattle.lert_bay.specs.{Files.Files, Settled.IsSettled}
use Rattle.lert_frames.specs.Frame.{HoldsFrame}
use Rattle.lert_gatelog.specs.Kept.{InEach, IsWhollySettled}
use Rattle.lert_levels.specs.{declared.rows.bin_at.BinAt.BinAt, Flushed.InNamed, rows.Ranges.filled, rows.Rows.{IsAt, AreRows, HoldsBins, range_of, row_of, tallied_in}}
use Rattle.lert_levels.proofs.rows.RangeLaws.{bins-ranges}
use Rattle.lert_reports.specs.{Log.{HasLog, listed_in, last_n0, last_directory, is_closed, most_record}, LogText.LogRecord}
use Rattle.lert_reports.proofs.LogOnce.{one_log}
use Rattle.lert_spec.specs.{declared.numbers.Numbers.Numbers, declared.report.Report.Report, Bins.{Bin, bins_of}, Edges.{offset as offset_of, span, edge}, Limits.IsValid, Look.{look_of, closing_of}}
use Rattle.lert_cone.specs.{Framed.{last_flush, flushed}, InStep.IsInStep, Logged.{IsLogOf, frames_of}, declared.journal_places.JournalPlace.JournalPlace}
use Rattle.lert_cone.specs.{JournalPlaces.{HoldsPosition, IsPlaceIn, NamesRecord, first_place, last_place, places_from}, Replay.{IsLastOf, IsOnWay, IsPast}}
use Rattle.lert_cone.specs.{Sound.{IsSound, HoldFrames, HoldsDirectory}, Unread.unread}
use Rattle.lert_cone.proofs.{FlushLaws.last_flush_logged, JournalPlaceLaws.places_none, StepLaws.{journal_since, log_since, frames_since}, UnreadLaws.unread_is}
use Rattle.lert_cone.proofs.ItemLaws.{end_none}

-- ---- frames

-- what the frames of a row hold, from what those of its directory do
from_frames : (version : ℕ) (s : Numbers) (events : List Item) (file : List ℕ) (level : ℕ) (row : List BinAt) → HoldFrames version s level file (map (λ bin. bin.frame) row) (map (filled s events)
    (map range_of row)) →
    All (λ bin. HoldsFrame s version level bin.frame file (tallied_in s events bin)) row
from_frames version s events file level [] holds = All-nil (λ (bin : BinAt). HoldsFrame s version level bin.frame file (tallied_in s events bin))
from_frames version s events file level (bin ∷ row) holds =
    All-cons (λ (b : BinAt). HoldsFrame s version level b.frame file (tallied_in s events b)) bin row holds.0 (from_frames version s events file level row holds.1)

-- the frames of a directory are those of the rows that it was read into
pub bins_there : {version : ℕ} (s : Numbers) (events : List Item) (rows : List (List BinAt)) (directory : List (List ℕ)) (file : List ℕ) → IsAt s (length events) rows → directory ≡ frames_of rows →
    HoldsDirectory version s events directory file → HoldsBins s version events rows file
bins_there {version} s events rows directory file at named holds level first last =
    let row = row_of rows level in
    let frames_are : slice_index_or directory (level - 1) [] ≡ map (λ (bin : BinAt). bin.frame) row =
    ap (λ (d : List (List ℕ)). get_or d (level - 1) []) named ∙ get_or-map (λ (r : List BinAt). map (λ (bin : BinAt). bin.frame) r) rows (level - 1) [] []
    (omega (arith, at.levels, first, last)) in
    let bins_are : bins_of weighed s events level ≡ map (filled s events) (map range_of row) =
    bins-ranges s events level ∙ ap (map (filled s events)) (sym (at.each level first last)) in
    from_frames version s events file level row
    (subst (λ (bs : List Bin). HoldFrames version s level file (map (λ (bin : BinAt). bin.frame) row) bs) bins_are
    (subst (λ (frames : List ℕ). HoldFrames version s level file frames (bins_of weighed s events level)) frames_are (holds.each level first last)))

-- frames that are settled hold in each image what they hold as a read gives them
pub frames_settled : {version : ℕ} (leaves : Files → Type 0) (seen : Files) (s : Numbers) (events : List Item) (rows : List (List BinAt)) → IsValid s → AreRows s rows →
    AreOfVersion version events → HoldsBins
    s version events rows (seen 2) →
    ((from to : ℕ) → InNamed s version rows from to → to ≤ length (seen 2) → IsSettled leaves seen 2 from to) → InEach leaves 2 (HoldsBins s version events rows)
frames_settled {version} leaves seen s events rows valid are light holds settled =
    frames_since (λ image. image ≡ seen) leaves seen s events rows valid are light refl
    (λ image is. subst (λ (files : Files). HoldsBins s version events rows (files 2)) (sym is) holds)
    (λ from to named here. (settled from to named here.within).same)

-- ---- the packets that aren't read

before_record : {version : ℕ} (history : List Packet) (place : JournalPlace) (p : ℕ) → HoldsPosition version history place p → IsPlaceIn version history place
before_record history place p holds = record { done = holds.done; rest = holds.packet ∷ holds.rest; is = holds.is; gate_is = holds.gate_is; first_is = holds.first_is }

before_all : {version : ℕ} (history : List Packet) (place : JournalPlace) → place ≡ first_place → IsPlaceIn version history place
before_all {version} history place is = record {
  done = [];
  rest = history;
  is = refl;
  gate_is = ap (λ (m : JournalPlace). m.gate) is ∙ sym (end_none version);
  first_is = ap (λ (m : JournalPlace).
      m.first) is;
}

-- a record that a log names begins behind some packets
pub place_named : {version : ℕ} (s : Numbers) (history : List Packet) (n0 : ℕ) (place : JournalPlace) → NamesRecord version s history n0 place → IsPlaceIn version history place
place_named s history n0 place names = elim (cases_eq n0 0) [
  | inl none ↦ before_all history place (names.none none)
  | inr some ↦ before_record history place (edge s 0 n0 + 1) (names.some (omega (arith, some)))
]

-- ---- a cone that is adopted

module _ (leaves : Files → Type 0) (seen : Files) (s : Numbers) (cone : ℕ) (history : List Packet) (rows : List (List BinAt)) (reports : List Report) (records : List LogRecord)
    (log_end n0 offset first : ℕ)
    (closed : Bool)
    (valid : IsValid s) (at : IsAt s n0 rows) (are : AreRows s rows) (log : HasLog s cone (seen 1) records log_end) (last : IsLastOf s n0 offset first closed rows reports records)
    (sound : IsSound s cone history seen) (early : first ≤ edge s 0 n0 + 1)
    (journal_settled : IsWhollySettled leaves seen 0) (log_settled : IsWhollySettled leaves seen 1) (named_settled : (from to : ℕ) → InNamed s sound.version rows from to → to ≤ length (seen 2) →
    IsSettled leaves seen 2 from to) where
  -- the records that were read are those for which the files are sound
  same : records ≡ sound.logged
  same = (one_log s cone valid (seen 1) records sound.logged log_end sound.log_end log sound.log).0

  n0_is : n0 ≡ last_n0 sound.logged
  n0_is = last.n0_is ∙ ap last_n0 same

  closed_is : closed ≡ is_closed sound.logged
  closed_is = last.closed_is ∙ ap is_closed same

  most : n0 ≤ length (events_of history)
  most = omega (arith, n0_is, sound.n0_most)

  behind : closed ≡ true → n0 ≡ length (events_of history)
  behind ended = n0_is ∙ sound.closed_behind (sym closed_is ∙ ended)

  long : length (take n0 (events_of history)) ≡ n0
  long = length-take-le n0 (events_of history) most

  all_first : closed ≡ true → take n0 (events_of history) ≡ events_of history
  all_first ended = take_all n0 (events_of history) (omega (arith, behind ended))

  -- a record of a flush stands at a flush position
  flush : closed ≡ false → last_flush s (length (take n0 (events_of history))) ≡ n0
  flush running =
      ap (last_flush s) (long ∙ last.n0_is)
      ∙ (last_flush_logged s valid cone records log.rules (sym last.closed_is ∙ running)
      ∙ sym last.n0_is)

  flushed_first : closed ≡ false → flushed s (take n0 (events_of history)) ≡ take n0 (events_of history)
  flushed_first running = take_all (last_flush s (length (take n0 (events_of history)))) (take n0 (events_of history)) (omega (arith, long, flush running))

  n0_there : last_n0 records ≡ cond closed (length (take n0 (events_of history))) (last_flush s (length (take n0 (events_of history))))
  n0_there = elim (cases_Bool closed) [
    | inl ended ↦ sym last.n0_is ∙ (sym long ∙ sym (ap (λ t. cond t (length (take n0 (events_of history))) (last_flush s (length (take n0 (events_of history))))) ended))
    | inr running ↦ sym last.n0_is ∙ (sym (flush running) ∙ sym (ap (λ t. cond t (length (take n0 (events_of history))) (last_flush s (length (take n0 (events_of history))))) running))
  ]

  -- the reports of the records are those of the first n0 events
  listed : listed_in records ≡ cond closed (closing_of weighed s (take n0 (events_of history))) (look_of weighed s (take n0 (events_of history)))
  listed =
      ap listed_in same
      ∙ (sound.reports_are
      ∙ (ap (λ t. cond t (closing_of weighed s (events_of history)) (look_of weighed s (take (last_n0 sound.logged) (events_of history)))) (sym closed_is)
      ∙ elim (cases_Bool closed) [
        | inl ended ↦
            ap (λ t. cond t (closing_of weighed s (events_of history)) (look_of weighed s (take (last_n0 sound.logged) (events_of history)))) ended
            ∙ (ap (closing_of weighed s) (sym (all_first ended))
            ∙ sym (ap (λ t. cond t (closing_of weighed s (take n0 (events_of history))) (look_of weighed s (take n0 (events_of history)))) ended))
        | inr running ↦
            ap (λ t. cond t (closing_of weighed s (events_of history)) (look_of weighed s (take (last_n0 sound.logged) (events_of history)))) running
            ∙ (ap (λ n. look_of weighed s (take n (events_of history))) (sym n0_is)
            ∙ sym (ap (λ t. cond t (closing_of weighed s (take n0 (events_of history))) (look_of weighed s (take n0 (events_of history)))) running))
      ]))

  listed_there : listed_in records ≡ cond closed (closing_of weighed s (take n0 (events_of history))) (look_of weighed s (flushed s (take n0 (events_of history))))
  listed_there =
      listed
      ∙ elim (cases_Bool closed) [
        | inl ended ↦
            ap (λ t. cond t (closing_of weighed s (take n0 (events_of history))) (look_of weighed s (take n0 (events_of history)))) ended
            ∙ sym (ap (λ t. cond t (closing_of weighed s (take n0 (events_of history))) (look_of weighed s (flushed s (take n0 (events_of history))))) ended)
        | inr running ↦ ap (λ keys. cond closed (closing_of weighed s (take n0 (events_of history))) (look_of weighed s keys)) (sym (flushed_first running))
      ]

  log_of : IsLogOf s cone (take n0 (events_of history)) rows closed records
  log_of = record {
    rules = log.rules;
    closed_is = sym last.closed_is;
    n0_is = n0_there;
    directory_is = last.directory_is;
    reports_are = listed_there;
  }

  held : HoldsBins s sound.version (take n0 (events_of history)) rows (seen 2)
  held =
      bins_there s (take n0 (events_of history)) rows (last_directory s sound.logged) (seen 2) (subst (λ n. IsAt s n rows) (sym long) at)
      (ap (last_directory s) (sym same) ∙ last.directory_is)
      (subst (λ n. HoldsDirectory sound.version s (take n (events_of history)) (last_directory s sound.logged) (seen 2)) (sym n0_is) sound.frames)

  -- the packets before the record that the last one of the log names
  pub before : IsPlaceIn sound.version history (record { gate = offset; first = first })
  before =
      let mark_is : record { gate = offset; first = first } ≡ last_place records = λ i. record { gate = last.offset_is i; first = last.first_is i } in
      subst (IsPlaceIn sound.version history) (sym (mark_is ∙ ap last_place same)) (place_named s history (last_n0 sound.logged) (last_place sound.logged) sound.begins)

  no_more : first - 1 ≤ n0
  no_more = omega (arith, early, mul-div-le (n0 - offset_of s 0) (span s 0))

  in_step : IsInStep leaves seen history (record { settings = s; version = sound.version; cone = cone; events = take n0 (events_of history); closed = closed }) rows reports (record {
    gate = log_end;
    most = most_record s;
    named = length reports;
    places = places_from s (first - 1);
  })
  in_step = record {
    logged = records;
    log_of = log_of;
    named_is = ap length last.reports_are;
    journal = journal_since leaves seen s cone history sound.journal journal_settled.same;
    log_there = log_since leaves seen s cone records log_end log log_settled.same;
    frames = frames_settled leaves seen s (take n0 (events_of history)) rows valid are
        (All-take (λ (item : Item). (1 ≤ item.weight) × (item.weight ≤ most_weight sound.version)) n0 (events_of history) (history_light s cone history sound.journal.journaled)) held named_settled;
    journal_settled = journal_settled;
    log_settled = log_settled;
    reports_are = last.reports_are ∙ listed;
    begins = subst (λ (rs : List LogRecord). NamesRecord sound.version s history (last_n0 rs) (last_place rs)) (sym same) sound.begins;
    placed = places_none history (places_from s (first - 1)) refl;
    reach = subst (λ n. first - 1 + 1 ≤ edge s 0 n + 1) (sym long) (omega (arith, early));
  }

  -- it has the items of the packets before that record
  pub adopted : (keys : List Item) → length keys ≡ first - 1 → IsOnWay leaves seen history (record { settings = s; version = sound.version; cone = cone; events = keys; closed = closed }) rows
      reports (record {
        gate = log_end;
        most = most_record s;
        named = length reports;
        places = places_from s (first - 1);
      }) n0
  adopted keys counted =
      let first_keys : n0 ≡ max n0 (length keys) = omega (arith, counted, no_more) in
      record {
        n0_most = most;
        n0_least = omega (arith, n0_is, sound.n0_least);
        closed_behind = behind;
        in_step = subst (λ n. IsInStep leaves seen history (record { settings = s; version = sound.version; cone = cone; events = take n (events_of history); closed = closed }) rows reports (record {
          gate = log_end;
          most = most_record s;
          named = length reports;
          places = places_from s (first - 1);
        })) first_keys in_step;
      }

  pub past : cone < 2 ^ s.cone_bits → (told : Option Files) → told ≡ Some seen → IsPast sound.version history before.done (unread sound.version s cone (first - 1) told) offset
  past named told told_is =
      let counted : first - 1 ≡ length (events_of before.done) = omega (arith, before.first_is) in
      record {
        rest = before.rest;
        is = before.is;
        keys = ap (λ n. unread sound.version s cone n told) counted ∙ unread_is sound.version s cone valid named history before.done before.rest seen told sound.journal before.is told_is;
        gate_is = before.gate_is;
      }
