-- A cone's log through calls in turn, and the frames that it names, whether or not the files are sound for a list.
use Rattle.std.proofs.Common.{◌≡◌, ℕ, suc, ◌+◌, ◌-◌, ◌<◌, ◌≤◌, List, [], ◌∷◌, ◌++◌, All, length, map, get_or, refl, sym, ap, ◌∙◌, subst, append_assoc, append-nil, arith}
use Rattle.std.proofs.{lemmas.List.{get_or-map, length-map}, lemmas.List.Elements.Contains-get_or}
use Rattle.std.specs.Prelude.{fold, slice_index_or, Contains}
use Rattle.lert_bay.specs.{Files.Files, Settled.part}
use Rattle.lert_frames.specs.{Frame.HoldsFrame, Place.frame_place}
use Rattle.lert_gatelog.proofs.{Deciding.one_list, GatedLaws.gated_behind}
use Rattle.lert_levels.specs.{Flushed.InNamed, declared.rows.bin_at.BinAt.BinAt, rows.Rows.{row_of, range_of, tallied_in}}
use Rattle.lert_reports.specs.{Log.{HasRecords, last_directory, last_n0, most_record}, LogText.{LogRecord, log_payload_of}}
use Rattle.lert_spec.specs.declared.numbers.Numbers.{Numbers}
use Rattle.lert_cone.specs.{Framed.HoldsSome, KeepsLog.{AreNextFlushes, IsNextFlush, InDirectory, NamesRows, HoldsNamed, KeepsRecords, KeepsLog}, Wrote.IsShut}
use Rattle.lert_cone.proofs.{StepLaws.first_same, WroteLaws.torn_behind}

-- ---- rows, by what a directory names

abbrev frame_of : BinAt → ℕ
frame_of bin = bin.frame

-- bins with the same frames and the same positions are the same
row_same : (row other : List BinAt) → map frame_of row ≡ map frame_of other → map range_of row ≡ map range_of other → row ≡ other
row_same [] [] frames positions = refl
row_same [] (bin ∷ other) frames positions = (let never : 0 ≡ suc (length (map frame_of other)) = ap (length {A = ℕ}) frames in absurd (omega (arith, never)))
row_same (bin ∷ row) [] frames positions = (let never : suc (length (map frame_of row)) ≡ 0 = ap (length {A = ℕ}) frames in absurd (omega (arith, never)))
row_same (bin ∷ row) (bin_too ∷ other) frames positions =
    let frame_is : bin.frame ≡ bin_too.frame = cc in
    let range_is : range_of bin ≡ range_of bin_too = cc in
    let frames_rest : map frame_of row ≡ map frame_of other = cc in
    let positions_rest : map range_of row ≡ map range_of other = cc in
    let rest = row_same row other frames_rest positions_rest in
    λ i. record { from = (range_is i).from; to = (range_is i).to; frame = frame_is i } ∷ rest i

-- the frames of a level
level_frames : (s : Numbers) (records : List LogRecord) (rows : List (List BinAt)) → NamesRows s records rows → (level : ℕ) → 1 ≤ level → level ≤ s.levels →
    map frame_of (row_of rows level) ≡ slice_index_or (last_directory s records) (level - 1) []
level_frames s records rows names level first last =
    sym (get_or-map (λ (row : List BinAt). map frame_of row) rows (level - 1) [] [] (omega (arith, names.at.levels, first, last)))
    ∙ ap (λ (directory : List (List ℕ)). get_or directory (level - 1) []) (sym names.directory)

-- the rows that the last record names are these
pub named_some : {version : ℕ} (s : Numbers) (records : List LogRecord) (rows : List (List BinAt)) (file : List ℕ) → NamesRows s records rows → HoldsNamed version s records file →
    HoldsSome version s (last_n0 records) rows file
named_some {version} s records rows file names holds = record {
  events = holds.some.events;
  len = holds.some.len;
  light = holds.some.light;
  holds = λ level first last.
      let same : row_of holds.rows level ≡ row_of rows level = row_same (row_of holds.rows level) (row_of rows level)
      (level_frames s records holds.rows holds.names level first last ∙ sym (level_frames s records rows names level first last))
      (holds.names.at.each level first last ∙ sym (names.at.each level first last)) in
      subst (λ (row : List BinAt). All (λ bin. HoldsFrame s version level bin.frame file (tallied_in s holds.some.events bin)) row) same (holds.some.holds level first last);
}

-- a range in a frame that the directory names is in one of a bin
pub in_named : {version : ℕ} (s : Numbers) (records : List LogRecord) (rows : List (List BinAt)) (from to : ℕ) → NamesRows s records rows → InDirectory version s (last_directory s records) from to →
    InNamed s version rows from to
in_named {version} s records rows from to names is =
    let row = row_of rows is.level in
    let none : BinAt = record { from = 0; to = 0; frame = 0 } in
    let there : Contains (map frame_of row) is.frame =
    subst (λ (frames : List ℕ). Contains frames is.frame) (sym (level_frames s records rows names is.level is.first is.last)) is.named in
    let below : there.0 < length row = omega (arith, there.1, length-map row frame_of) in
    let frame_is : (get_or row there.0 none).frame ≡ is.frame = sym (get_or-map frame_of row there.0 none is.frame below) ∙ there.2 in
    record {
      level = is.level;
      first = is.first;
      last = is.last;
      bin = get_or row there.0 none;
      named = Contains-get_or row there.0 none below;
      above = omega (arith, is.above, ap (frame_place s version is.level) frame_is);
      below = omega (arith, is.below, ap (frame_place s version is.level) frame_is);
    }

-- ---- the log

module _ (s : Numbers) (records : List LogRecord) (gate : ℕ) (before after : List ℕ) (beginning : part after 0 gate ≡ part before 0 gate) where
  -- no record came
  abbrev pub records_same : HasRecords s after records gate → KeepsRecords s records gate before after
  records_same stand = record {
    more = [];
    end = gate;
    stand = subst (λ (rs : List LogRecord). HasRecords s after rs gate) (sym (append-nil records)) stand;
    forward = omega arith;
    beginning = beginning;
    flushes = tt;
  }

  -- one came
  abbrev pub records_push : (one : LogRecord) (end : ℕ) → IsNextFlush s (last_n0 records) one → gate ≤ end → HasRecords s after (records ++ one ∷ []) end → KeepsRecords s records gate before after
  records_push one end is forward stand = record {
    more = one ∷ [];
    end = end;
    stand = stand;
    forward = forward;
    beginning = beginning;
    flushes = (is, tt);
  }

-- the records up to a gate are one list
pub one_end : (s : Numbers) (bytes : List ℕ) (records : List LogRecord) (end too : ℕ) → HasRecords s bytes records end → HasRecords s bytes records too → end ≡ too
one_end s bytes records end too one other = (one_list (most_record s) bytes 8 (map log_payload_of records) (map log_payload_of records) end too one other).1

-- after how many events the last of some records was written, where others stand before them
pub last_after : (n0 : ℕ) (records more : List LogRecord) →
    fold (λ (earlier : ℕ) (record_ : LogRecord). record_.n0) n0 (records ++ more)
    ≡ fold (λ (earlier : ℕ) (record_ : LogRecord). record_.n0) (fold (λ (earlier : ℕ) (record_ : LogRecord). record_.n0) n0 records) more
last_after n0 [] more = refl
last_after n0 (one ∷ records) more = last_after one.n0 records more

-- flushes in turn, and then others
pub flushes_on : (s : Numbers) (n0 : ℕ) (more others : List LogRecord) → AreNextFlushes s n0 more →
    AreNextFlushes s (fold (λ (earlier : ℕ) (record_ : LogRecord). record_.n0) n0 more) others → AreNextFlushes s n0 (more ++ others)
flushes_on s n0 [] others first second = second
flushes_on s n0 (one ∷ more) others first second = (first.0, flushes_on s one.n0 more others first.1 second)

-- some came, and then others
abbrev pub records_on : (s : Numbers) (records : List LogRecord) (gate between : ℕ) (first middle last : List ℕ) (one : KeepsRecords s records gate first middle) → one.end ≡ between →
    KeepsRecords s (records ++ one.more) between middle last → KeepsRecords s records gate first last
records_on s records gate between first middle last one end_is two = record {
  more = one.more ++ two.more;
  end = two.end;
  stand = subst (λ (rs : List LogRecord). HasRecords s last rs two.end) (append_assoc records one.more two.more) two.stand;
  forward = omega (arith, one.forward, two.forward, end_is);
  beginning = first_same last middle between gate (omega (arith, one.forward, end_is)) two.beginning ∙ one.beginning;
  flushes = flushes_on s (last_n0 records) one.more two.more one.flushes (subst (λ n. AreNextFlushes s n two.more) (last_after 0 records one.more) two.flushes);
}

-- ---- the files

pub none_came : (more : List LogRecord) (others : List LogRecord) → more ++ others ≡ [] → (more ≡ []) × (others ≡ [])
none_came [] others is = (refl, is)
none_came (one ∷ more) others is = (let never : suc (length (more ++ others)) ≡ 0 = ap (length {A = LogRecord}) is in absurd (omega (arith, never)))

abbrev pub keeps_log_on : {version : ℕ} (s : Numbers) (records : List LogRecord) (gate between : ℕ) (first middle last : Files) (one : KeepsLog version s records gate first middle) →
    one.log.end ≡ between →
    KeepsLog version s (records ++ one.log.more) between middle last → KeepsLog version s records gate first last
keeps_log_on {version} s records gate between first middle last one end_is two = record {
  log = records_on s records gate between (first 1) (middle 1) (last 1) one.log end_is two.log;
  longer = omega (arith, one.longer, two.longer);
  same = λ none from to named within.
      let both = none_came one.log.more two.log.more none in
      let here : InDirectory version s (last_directory s (records ++ one.log.more)) from to =
      subst (λ (rs : List LogRecord). InDirectory version s (last_directory s rs) from to) (sym (ap (λ (more : List LogRecord). records ++ more) both.0 ∙ append-nil records)) named in
      two.same both.1 from to here (omega (arith, within, one.longer)) ∙ one.same both.0 from to named within;
  frames = λ holds. subst (λ (rs : List LogRecord). HoldsNamed version s rs (last 2)) (append_assoc records one.log.more two.log.more) (two.frames (one.frames holds));
}

-- the same files
abbrev pub keeps_log_none : {version : ℕ} (s : Numbers) (records : List LogRecord) (gate : ℕ) (seen : Files) → HasRecords s (seen 1) records gate → KeepsLog version s records gate seen seen
keeps_log_none {version} s records gate seen stand = record {
  log = records_same s records gate (seen 1) (seen 1) refl stand;
  longer = omega arith;
  same = λ nothing from to named within. refl;
  frames = λ holds. subst (λ (rs : List LogRecord). HoldsNamed version s rs (seen 2)) (sym (append-nil records)) holds;
}

-- a gate that is closed in every image, and the records before it
module _ (s : Numbers) (records : List LogRecord) (gate : ℕ) (leaves : Files → Type 0) (seen : Files) (shut : IsShut leaves seen 1 gate) (read : leaves seen) where
  pub gate_within : gate ≤ length (seen 1)
  gate_within = omega (arith, (shut.closed seen read).within)

  pub begins_each : (image : Files) → part (image 1) 0 (length (seen 1)) ≡ part (seen 1) 0 (length (seen 1)) → part (image 1) 0 gate ≡ part (seen 1) 0 gate
  begins_each image same = first_same (image 1) (seen 1) (length (seen 1)) gate gate_within same

  pub records_each : HasRecords s (seen 1) records gate → (image : Files) → part (image 1) 0 (length (seen 1)) ≡ part (seen 1) 0 (length (seen 1)) → HasRecords s (image 1) records gate
  records_each stand image same =
      gated_behind (most_record s) 8 (map log_payload_of records) gate (length (image 1)) (seen 1) (image 1) stand (torn_behind (seen 1) (image 1) (gate + 1) same)
