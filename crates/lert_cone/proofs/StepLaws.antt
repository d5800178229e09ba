-- The files of a cone between two calls: when they are sound, and what they keep through calls that leave them alone.
use Rattle.lert_spec.specs.Items.{AreOfVersion}
use Rattle.lert_spec.proofs.TallyLaws.{tally_table}
use Rattle.lert_levels.proofs.rows.WeightLaws.{costs_number, version_slice, version_weigh, weigh_slice}
use Rattle.lert_spec.specs.Counts.{weighed}
use Rattle.lert_spec.specs.declared.item.Item.{Item}
use Rattle.std.proofs.Common.{◌≡◌, ℕ, suc, ◌+◌, ◌-◌, ◌≤◌, Bool, true, false, cond, List, [], ◌∷◌, ◌++◌, length, take, drop, get_or, map, All, sym, ap, ◌∙◌, subst, inl, inr, ◌⊎◌, arith, length-append}
use Rattle.std.proofs.{Common.slice_range, lemmas.Bool.{cases_Bool, cases_lt}, lemmas.List.{take-take, take_all, take-append-le, get_or-map, map-append, length-take}}
use Rattle.std.proofs.lemmas.List.Elements.{Contains-get_or}
use Rattle.std.specs.Prelude.{slice_index_or}
use Rattle.lert_base.specs.Packet.{Packet, events_of}
use Rattle.lert_bay.specs.{Files.Files, Settled.{part, Keeps, IsSettled}}
use Rattle.lert_bay.proofs.Settling.{part_none}
use Rattle.lert_frames.specs.{Frame.{HoldsFrame, frame_text}, Place.{frame_place, frame_len}}
use Rattle.lert_frames.proofs.FrameLaws.{text_within}
use Rattle.lert_gatelog.specs.{Gated.{IsGated, next_gate}, Kept.{InEach, KeepsBefore, IsWithOrWithout}}
use Rattle.lert_gatelog.proofs.GatedLaws.{gated_behind, part_within, records_ascend}
use Rattle.lert_journal.specs.Payload.{payload_of}
use Rattle.lert_levels.specs.{declared.rows.bin_at.BinAt.BinAt, Flushed.InNamed, rows.Ranges.filled, rows.Rows.{IsAt, AreRows, HoldsBins, range_of, row_of, tallied_in}}
use Rattle.lert_levels.proofs.rows.RangeLaws.{bins-ranges}
use Rattle.lert_reports.specs.{Log.{HasLog, AreRecords, listed_in, last_n0, last_directory, is_closed, log_header, most_record}, LogText.{LogRecord, log_payload_of}}
use Rattle.lert_spec.specs.{declared.numbers.Numbers.Numbers, Bins.{Bin, bins_of, tally}, Edges.span, Limits.IsValid, Look.{look_of, closing_of}}
use Rattle.lert_cone.specs.{Framed.{last_flush, flushed}, History.{end_of}, InStep.IsPartway, Logged.IsLogOf, JournalPlaces.{NamesRecord, last_place}}
use Rattle.lert_cone.specs.Sound.{IsJournal, IsSound, IsSoundAs, HoldFrames, HoldsDirectory, but_last}
use Rattle.lert_cone.proofs.{FramedLaws.flushed_bins, FlushLaws.last_flush_within, WroteLaws.torn_behind}
use Rattle.lert_journal.specs.Payload.{most_payload}
use Rattle.lert_spec.specs.Items.{IsVersion}

-- ---- what stays

-- the first bytes of what is the same
pub first_same : (image read : List ℕ) (all few : ℕ) → few ≤ all → part image 0 all ≡ part read 0 all → part image 0 few ≡ part read 0 few
first_same image read all few less same = sym (take-take few all image less) ∙ ap (take few) same ∙ take-take few all read less

pub journal_since : {version : ℕ} (since : Files → Type 0) (seen : Files) (s : Numbers) (cone : ℕ) (history : List Packet) → IsJournal version s cone history (seen 0) →
    Keeps since seen 0 0 (length (seen 0)) →
    InEach since 0 (IsJournal version s cone history)
journal_since {version} since seen s cone history journal keeps image may = record {
  headed = first_same (image 0) (seen 0) (length (seen 0)) 32 (omega (arith, journal.records.closed.within)) (keeps image may) ∙ journal.headed;
  records = gated_behind (most_payload version s) 32 (map (payload_of version) history) (end_of version history) (length (image 0)) (seen 0) (image 0) journal.records
      (torn_behind (seen 0) (image 0) (end_of version history + 1)
      (keeps image may));
  journaled = journal.journaled;
  fit = journal.fit;
  within = journal.within;
  light = journal.light;
}

-- a log's first gate stands before its closed one
pub log_reaches : (s : Numbers) (cone : ℕ) (bytes : List ℕ) (logged : List LogRecord) (gate : ℕ) → HasLog s cone bytes logged gate → 8 ≤ gate
log_reaches s cone bytes logged gate log = records_ascend (most_record s) 8 (map log_payload_of logged) bytes gate log.records_stand.records

pub log_since : (since : Files → Type 0) (seen : Files) (s : Numbers) (cone : ℕ) (logged : List LogRecord) (gate : ℕ) → HasLog s cone (seen 1) logged gate → Keeps since seen 1 0 (length
    (seen 1)) → InEach since 1 (λ bytes. HasLog s cone bytes logged gate)
log_since since seen s cone logged gate log keeps image may = record {
  headed = first_same (image 1) (seen 1) (length (seen 1)) 8 (omega (arith, log.records_stand.closed.within, log_reaches s cone (seen 1) logged gate log)) (keeps image may) ∙ log.headed;
  records_stand = gated_behind (most_record s) 8 (map log_payload_of logged) gate (length (image 1)) (seen 1) (image 1) log.records_stand
      (torn_behind (seen 1) (image 1) (gate + 1) (keeps image may));
  rules = log.rules;
}

-- the text of a bin's counts fits its place
text_fits : (version : ℕ) (s : Numbers) (events : List Item) (level : ℕ) (bin : BinAt) → IsValid s → AreOfVersion version events → level ≤ s.levels → bin.to - bin.from ≤ span s level →
    length (frame_text s level (tallied_in s events bin)) ≤ frame_len s version level
text_fits version s events level bin valid light last narrow =
    let items = slice_range events bin.from bin.to in
    text_within s version level (tally weighed s items) valid last (tally_table weighed s items (weigh_slice events bin.from bin.to (version_weigh version events light))) (omega (
      arith,
      costs_number s version items (version_slice version events bin.from bin.to light),
      length-take (bin.to - bin.from) (drop bin.from events),
      narrow,
    ))

-- the frames that rows name hold their bins in each image since, where what is settled in them stays so
pub frames_since : {version : ℕ} (leaves since : Files → Type 0) (seen : Files) (s : Numbers) (events : List Item) (rows : List (List BinAt)) → IsValid s → AreRows s rows →
    AreOfVersion version events →
    leaves seen →
    InEach leaves 2 (HoldsBins s version events rows) →
    ((from to : ℕ) → InNamed s version rows from to → IsSettled leaves seen 2 from to → Keeps since seen 2 from to) → InEach since 2 (HoldsBins s version events rows)
frames_since {version} leaves since seen s events rows valid are light read holds keeps image may level first last k d below =
    let bin = get_or (row_of rows level) k d in
    let place = frame_place s version level bin.frame in
    let text = frame_text s level (tallied_in s events bin) in
    let end = place + length text in
    let fits = text_fits version s events level bin valid light last ((are.each level first last).widths k d below) in
    let here = holds seen read level first last k d below in
    elim (cases_lt 0 (length text)) [
      | inl some ↦
          keeps place end
          (record { level = level; first = first; last = last; bin = bin; named = Contains-get_or (row_of rows level) k d below; above = omega arith; below = omega (arith, fits) })
          (record {
            within = part_within (seen 2) text place end here (omega arith) some;
            same = λ other left. holds other left level first last k d below ∙ sym here;
          }) image may
          ∙ here
      | inr none ↦ part_none (image 2) place end (omega (arith, none)) ∙ (sym (part_none (seen 2) place end (omega (arith, none))) ∙ here)
    ]

-- ---- when they are sound

-- a level's frames, from what its row's bins say
to_frames : (version : ℕ) (s : Numbers) (events : List Item) (file : List ℕ) (level : ℕ) (row : List BinAt) → All (λ bin. HoldsFrame s version level bin.frame file (tallied_in s events bin)) row →
    HoldFrames version s level file (map (λ bin. bin.frame) row) (map (filled s events) (map range_of row))
to_frames version s events file level [] holds = tt
to_frames version s events file level (bin ∷ row) holds =
    (holds 0 bin (omega arith), to_frames version s events file level row (λ k d within. holds (suc k) d (omega (arith, within))))

module _ {version : ℕ} (s : Numbers) (cone : ℕ) (history : List Packet) (events : List Item) (rows : List (List BinAt)) (closed : Bool) (logged : List LogRecord) (gate : ℕ)
    (is_known : IsVersion version) (valid : IsValid s) (at : IsAt s (length events) rows) (partway : IsPartway s history events []) (whole : closed ≡ true → events ≡ events_of history)
    (log_of : IsLogOf s cone events rows closed logged) (begins : NamesRecord version s history (last_n0 logged) (last_place logged)) where
  -- how many events the last record was written after
  n0_running : closed ≡ false → last_n0 logged ≡ last_flush s (length events)
  n0_running running = log_of.n0_is ∙ ap (λ t. cond t (length events) (last_flush s (length events))) running

  n0_closed : closed ≡ true → last_n0 logged ≡ length events
  n0_closed ended = log_of.n0_is ∙ ap (λ t. cond t (length events) (last_flush s (length events))) ended

  n0_within : last_n0 logged ≤ length events
  n0_within = elim (cases_Bool closed) [
    | inl ended ↦ omega (arith, n0_closed ended)
    | inr running ↦ omega (arith, n0_running running, last_flush_within s (length events))
  ]

  ahead : events_of history ≡ events ++ partway.rest
  ahead = partway.is

  long : length events ≤ length (events_of history)
  long = omega (arith, ap length ahead, length-append events partway.rest)

  firsts : take (last_n0 logged) (events_of history) ≡ take (last_n0 logged) events
  firsts = ap (take (last_n0 logged)) ahead ∙ take-append-le (last_n0 logged) events partway.rest n0_within

  -- the bins of the older levels are those of all events
  bins_same : (level : ℕ) → bins_of weighed s (take (last_n0 logged) events) level ≡ bins_of weighed s events level
  bins_same level = elim (cases_Bool closed) [
    | inl ended ↦ ap (λ keys. bins_of weighed s keys level) (take_all (last_n0 logged) events (omega (arith, n0_closed ended)))
    | inr running ↦ ap (λ n. bins_of weighed s (take n events) level) (n0_running running) ∙ flushed_bins s valid events level
  ]

  row_bins : (level : ℕ) → 1 ≤ level → level ≤ s.levels → map (filled s events) (map range_of (row_of rows level)) ≡ bins_of weighed s (take (last_n0 logged) (events_of history)) level
  row_bins level first last = ap (map (filled s events)) (at.each level first last) ∙ sym (bins-ranges s events level) ∙ sym (bins_same level) ∙ ap (λ keys. bins_of weighed s keys level) (sym firsts)

  row_frames : (level : ℕ) → 1 ≤ level → level ≤ s.levels → map (λ (bin : BinAt). bin.frame) (row_of rows level) ≡ slice_index_or (last_directory s logged) (level - 1) []
  row_frames level first last =
      sym (get_or-map (λ (row : List BinAt). map (λ (bin : BinAt). bin.frame) row) rows (level - 1) [] [] (omega (arith, at.levels, first, last)))
      ∙ ap (λ (directory : List (List ℕ)). get_or directory (level - 1) []) (sym log_of.directory_is)

  directory : (file : List ℕ) → HoldsBins s version events rows file → HoldsDirectory version s (take (last_n0 logged) (events_of history)) (last_directory s logged) file
  directory file holds = record {
    each = λ level first last.
        subst (λ (frames : List ℕ). HoldFrames version s level file frames (bins_of weighed s (take (last_n0 logged) (events_of history)) level)) (row_frames level first last)
        (subst (λ (bs : List Bin). HoldFrames version s level file (map (λ (bin : BinAt). bin.frame) (row_of rows level)) bs) (row_bins level first last)
        (to_frames version s events file level (row_of rows level) (holds level first last)));
  }

  -- the reports
  reports_there : listed_in logged ≡ cond (is_closed logged) (closing_of weighed s (events_of history)) (look_of weighed s (take (last_n0 logged) (events_of history)))
  reports_there =
      log_of.reports_are
      ∙ elim (cases_Bool closed) [
        | inl ended ↦
            ap (λ t. cond t (closing_of weighed s events) (look_of weighed s (flushed s events))) ended ∙ ap (closing_of weighed s) (whole ended)
            ∙ sym (ap (λ t. cond t (closing_of weighed s (events_of history)) (look_of weighed s (take (last_n0 logged) (events_of history)))) (log_of.closed_is ∙ ended))
        | inr running ↦
            ap (λ t. cond t (closing_of weighed s events) (look_of weighed s (flushed s events))) running
            ∙ ap (look_of weighed s) (ap (λ n. take n events) (sym (n0_running running)) ∙ sym firsts)
            ∙ sym (ap (λ t. cond t (closing_of weighed s (events_of history)) (look_of weighed s (take (last_n0 logged) (events_of history)))) (log_of.closed_is ∙ running))
      ]

  least : last_flush s (length (events_of (but_last history))) ≤ last_n0 logged
  least = elim (cases_Bool closed) [
    | inl ended ↦ omega (arith, n0_closed ended, partway.late, last_flush_within s (length events))
    | inr running ↦ omega (arith, n0_running running, partway.late)
  ]

  pub sound_of : (files : Files) → IsJournal version s cone history (files 0) → HasLog s cone (files 1) logged gate → HoldsBins s version events rows (files 2) → IsSound s cone history files
  sound_of files journal log holds = record {
    version = version;
    known = is_known;
    journal = journal;
    logged = logged;
    log_end = gate;
    log = log;
    n0_most = omega (arith, n0_within, long);
    n0_least = least;
    frames = directory (files 2) holds;
    reports_are = reports_there;
    closed_behind = λ ended. n0_closed (sym log_of.closed_is ∙ ended) ∙ ap length (whole (sym log_of.closed_is ∙ ended));
    begins = begins;
  }

  pub sound_as : events ≡ events_of history → (files : Files) → IsJournal version s cone history (files 0) → HasLog s cone (files 1) logged gate → HoldsBins s version events rows (files 2) →
      IsSoundAs s cone closed history files
  unfolding sound_of
  sound_as all files journal log holds = record {
    sound = sound_of files journal log holds;
    closed_is = log_of.closed_is;
    n0_is = log_of.n0_is ∙ ap (λ (keys : List Item). cond closed (length keys) (last_flush s (length keys))) all;
  }

-- ---- one record more

-- behind a closed gate stands a record, or it doesn't
pub with_or_without : (s : Numbers) (cone : ℕ) (logged : List LogRecord) (one : LogRecord) (gate : ℕ) (payload bytes : List ℕ) → payload ≡ log_payload_of one →
    AreRecords s cone logged →
    AreRecords s cone (logged ++ one ∷ []) →
    part bytes 0 8 ≡ log_header → IsWithOrWithout (most_record s) 8 (map log_payload_of logged) gate payload bytes →
    HasLog s cone bytes logged gate ⊎ HasLog s cone bytes (logged ++ one ∷ []) (next_gate gate payload)
with_or_without s cone logged one gate payload bytes is rules more headed (inl without) = inl (record { headed = headed; records_stand = without; rules = rules })
with_or_without s cone logged one gate payload bytes is rules more headed (inr with_it) =
    inr (record {
      headed = headed;
      records_stand = subst (λ (payloads : List (List ℕ)). IsGated (most_record s) bytes 8 payloads (next_gate gate payload)) (pushed logged one payload is) with_it;
      rules = more;
    })
  where
    pushed : (logged : List LogRecord) (one : LogRecord) (payload : List ℕ) → payload ≡ log_payload_of one →
        map log_payload_of logged ++ payload ∷ [] ≡ map log_payload_of (logged ++ one ∷ [])
    pushed logged one payload is = ap (λ p. map log_payload_of logged ++ p ∷ []) is ∙ sym (map-append log_payload_of logged (one ∷ []))

-- with it
pub with_record : (s : Numbers) (cone : ℕ) (logged : List LogRecord) (one : LogRecord) (gate : ℕ) (payload bytes : List ℕ) → payload ≡ log_payload_of one →
    AreRecords s cone (logged ++ one ∷ []) →
    part bytes 0 8 ≡ log_header → IsGated (most_record s) bytes 8 (map log_payload_of logged ++ payload ∷ []) gate → HasLog s cone bytes (logged ++ one ∷ []) gate
with_record s cone logged one gate payload bytes is more headed stands = record {
  headed = headed;
  records_stand = subst (λ (payloads : List (List ℕ)). IsGated (most_record s) bytes 8 payloads gate)
      (ap (λ p. map log_payload_of logged ++ p ∷ []) is ∙ sym (map-append log_payload_of logged
      (one ∷ []))) stands;
  rules = more;
}

-- the header of a log stays, where what is settled before its gate does
pub header_since : (leaves since : Files → Type 0) (seen : Files) (s : Numbers) (cone : ℕ) (logged : List LogRecord) (gate : ℕ) → leaves seen → InEach leaves 1
    (λ bytes. HasLog s cone bytes logged gate) → KeepsBefore leaves since seen 1 gate →
    (image : Files) → since image → part (image 1) 0 8 ≡ log_header
header_since leaves since seen s cone logged gate read log keeps image may =
    let here = log seen read in
    let reaches = log_reaches s cone (seen 1) logged gate here in
    keeps 0 8 reaches (record { within = omega (arith, reaches, here.records_stand.closed.within); same = λ other left. (log other left).headed ∙ sym here.headed }) image may ∙ here.headed
