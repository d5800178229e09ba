-- What a cone that is made over files has of them, and why one isn't.
use Rattle.std.proofs.Common.{ℕ, suc, ◌≡◌, ◌+◌, ◌-◌, ◌<◌, ◌≤◌, ◌^◌, Bool, Option, Some, None, Result, Ok, Err, List}
use Rattle.std.proofs.Common.{[], ◌∷◌, ◌++◌, length, map, take, drop, refl, ap, ap₂, sym, ◌∙◌, subst, arith, inl, inr}
use Rattle.std.proofs.lemmas.{Bool.cases_eq, List.{append_cancel_left, length-map, length-replicate, length-take-le, take_all, take_at, take-take}, List.Elements.All-take}
use Rattle.std.specs.Prelude.{MatchResult, IfErr, IfOk}
use Rattle.lert_base.specs.{declared.kept.Kept.Kept, Packet.{Packet, events_of}}
use Rattle.lert_bay.specs.{declared.bay.TheConstants.{JOURNAL, LOG, FRAMES}, Files.Files, Settled.{part, IsSettled}}
use Rattle.lert_cone.specs.{History.end_of, Logged.frames_of, Replay.IsLastOf, Sound.IsSound, Stands.Standing, Unread.unread, Wrote.IsShut}
use Rattle.lert_cone.proofs.{AdoptLaws.bins_there, SoundLaws.history_light, UnreadLaws.length_unread, WeighLaws.edge_to}
use Rattle.lert_gatelog.specs.Gated.{IsClosed}
use Rattle.lert_journal.specs.{Header.version_in, Payload.most_payload}
use Rattle.lert_journal.proofs.BeginningLaws.{version_in_part}
use Rattle.lert_levels.specs.{declared.rows.bin_at.BinAt.BinAt, rows.Checked.{rows_left, rows_total}, rows.Loading.AllStand, rows.Named.IsDirectory, rows.Rows.{directory_text, tallied_in, IsAt}}
use Rattle.lert_levels.proofs.{rows.SumLaws.rows_total-weighs, rows.CheckLaws.all_whole, HoldLaws.rows_stand}
use Rattle.lert_reports.specs.{Log.{is_closed, last_directory, last_first, last_n0, last_offset, AreRecords, HasLog}, LogText.{LogRecord, directory_bytes}}
use Rattle.lert_reports.proofs.{LogLaws.last_directory-push, LogOnce.one_log}
use Rattle.lert_spec.specs.{declared.item.Item.Item, declared.numbers.Numbers.Numbers, declared.report.Report.Report}
use Rattle.lert_spec.specs.{Counts.{weighed, weight_of}, Edges.edge, Items.{most_weight, AreOfVersion}, Limits.IsValid}
use Rattle.lert_cone.specs.declared.journal_places.JournalPlace.{JournalPlace}
use Rattle.lert_files.specs.{declared.fault.ReopenFault.ReopenFault, declared.fault.ReopenFault.TheVariants.{Failed, Malformed, OtherSettings}, Headed.{HasOther, IsHeaded}}
use Rattle.lert_files.specs.{Opened.{AreLastRows, AreOpened, IsAsRead, LeaveAt}, Read.IsReadOf}
use Rattle.lert_recover.specs.Replayed.{Before_records, In_records, frames_weigh, HasReplayed, ReadsRest}
use Rattle.lert_recover.specs.Reopened.{IsReopened, IsReopenRefused, Of_call, Of_place, Of_header, Of_sight, IsStopped, At_call, At_place, At_sight, most_read}
use Rattle.lert_recover.proofs.BoundLaws.{read_bound}
use Rattle.lert_files.proofs.{HeadLaws.headed_of, OpenedLaws.same_last, PointLaws.directed, RecordsLaws.walk}

-- ---- every image is what a read gives

module _ (leaves : Files → Type 0) (seen : Files) (durable : (image : Files) → leaves image → IsAsRead seen image) where
  pub journal_settled : IsSettled leaves seen JOURNAL 0 (length (seen JOURNAL))
  journal_settled = record { within = omega arith; same = λ image may. ap (λ bytes. part bytes 0 (length (seen JOURNAL))) (durable image may).journal }

  pub log_shut : (gate : ℕ) → IsClosed (seen LOG) gate → IsShut leaves seen LOG gate
  log_shut gate shut = record {
    settled = record { within = omega arith; same = λ image may. ap (λ bytes. part bytes 0 (length (seen LOG))) (durable image may).log };
    closed = λ image may. subst (λ bytes. IsClosed bytes gate) (sym (durable image may).log) shut;
  }

  pub frames_settled : (from to : ℕ) → to ≤ length (seen FRAMES) → IsSettled leaves seen FRAMES from to
  frames_settled from to within = record { within = within; same = λ image may. ap (λ bytes. part bytes from to) (durable image may).frames }

-- ---- the frames of the log's last record

split_same : (a b c d : List ℕ) → length a ≡ length c → a ++ b ≡ c ++ d → (a ≡ c) × (b ≡ d)
split_same a b c d len is =
    let front : a ≡ c = sym (take_at a b (length a) refl) ∙ ap (take (length a)) is ∙ take_at c d (length a) (sym len) in
    (front, append_cancel_left c b d (ap (λ xs. xs ++ b) (sym front) ∙ is))

-- the bytes of a directory say it, where the number of its levels is known
bytes_same : (xs ys : List (List ℕ)) → length xs ≡ length ys → directory_bytes xs ≡ directory_bytes ys → xs ≡ ys
bytes_same [] [] len is = refl
bytes_same [] (y ∷ ys) len is = absurd (omega arith)
bytes_same (x ∷ xs) [] len is = absurd (omega arith)
bytes_same (x ∷ xs) (y ∷ ys) len is =
    let long : length x ≡ length y = cc in
    let parts = split_same (length x ∷ x) (directory_bytes xs) (length y ∷ y) (directory_bytes ys) (ap suc long) is in
    ap₂ (λ z zs. z ∷ zs) (ap (drop 1) parts.0) (bytes_same xs ys (omega arith) parts.1)

text_is : (rows : List (List BinAt)) → directory_text rows ≡ directory_bytes (frames_of rows)
text_is [] = refl
text_is (row ∷ rows) = ap₂ (λ n rest. (n ∷ map (λ (bin : BinAt). bin.frame) row) ++ rest) (sym (length-map row (λ (bin : BinAt). bin.frame))) (text_is rows)

many_frames : (s : Numbers) (cone : ℕ) (records : List LogRecord) → AreRecords s cone records → length (last_directory s records) ≡ s.levels
many_frames s cone records are =
    walk s cone (λ rs. length (last_directory s rs) ≡ s.levels)
    (λ front one keeps still_open before. ap length (last_directory-push s front one) ∙ keeps.levels)
    (length-replicate {A = List ℕ} s.levels []) records are

module _ (s : Numbers) (cone : ℕ) where
  -- rows that a log names have its frames
  pub frames_named : (records : List LogRecord) (rows : List (List BinAt)) → AreRecords s cone records → AreLastRows s records rows → last_directory s records ≡ frames_of rows
  frames_named records rows are named =
      bytes_same (last_directory s records) (frames_of rows)
      (many_frames s cone records are ∙ sym named.at.levels ∙ sym (length-map rows (λ row. map (λ (bin : BinAt). bin.frame) row)))
      (sym named.text_is ∙ text_is rows)

  pub last_of : (n0 offset first : ℕ) (closed : Bool) (reports : List Report) (rows : List (List BinAt)) (records : List LogRecord) →
      IsReadOf s cone n0 offset first closed reports (directory_text rows) records → AreLastRows s records rows →
      IsLastOf s n0 offset first closed rows reports records
  last_of n0 offset first closed reports rows records read named = record {
    n0_is = read.n0_is;
    offset_is = read.offset_is;
    first_is = read.first_is;
    closed_is = read.closed_is;
    directory_is = frames_named records rows read.rules named;
    reports_are = read.reports_are;
  }

  -- ---- files that are sound for a list are in their format up to the journal's records

  pub sound_headed : (seen : Files) (history : List Packet) → IsSound s cone history seen → IsHeaded s cone (seen JOURNAL)
  sound_headed seen history sound =
      headed_of sound.version s cone (seen JOURNAL) sound.known sound.journal.headed (omega (arith, sound.journal.records.closed.within))

  -- they are of the version that their journal begins with
  pub sound_version : (seen : Files) (history : List Packet) (sound : IsSound s cone history seen) → sound.version ≡ version_in (seen JOURNAL)
  sound_version seen history sound = sym (version_in_part sound.version s cone (seen JOURNAL) sound.journal.headed)

  -- the record that their log names begins no later than level 0 does
  pub sound_early : (seen : Files) (history : List Packet) (sound : IsSound s cone history seen) → last_first sound.logged ≤ edge s 0 (last_n0 sound.logged) + 1
  sound_early seen history sound = elim (cases_eq (last_n0 sound.logged) 0) [
    | inl none ↦ (let first = ap (λ (m : JournalPlace). m.first) (sound.begins.none none) in omega (arith, first))
    | inr some ↦ (let holds = sound.begins.some (omega (arith, some)) in holds.from)
  ]

  pub record SoundRows (seen : Files) (history : List Packet) (sound : IsSound s cone history seen) : Type 0 where
    pub rows : List (List BinAt)
    pub opened : AreOpened s cone seen sound.logged sound.log_end rows
    pub weighs : frames_weigh s seen rows ≡ weight_of weighed (take (edge s 0 (last_n0 sound.logged)) (events_of history))

  pub sound_opened : IsValid s → (seen : Files) (history : List Packet) (sound : IsSound s cone history seen) → SoundRows seen history sound
  sound_opened valid seen history sound =
      let records = sound.logged in
      let version = sound.version in
      let directory : IsDirectory s (last_n0 records) (directory_bytes (last_directory s records)) = directed s valid cone records sound.log.rules in
      let rows = directory.rows in
      let named = directory.named in
      let n0 = last_n0 records in
      let events = take n0 (events_of history) in
      let long : length events ≡ n0 = length-take-le n0 (events_of history) sound.n0_most in
      let holds = bins_there s events rows (last_directory s records) (seen FRAMES) (subst (λ n. IsAt s n rows) (sym long) named.at)
      (frames_named records rows sound.log.rules named) sound.frames in
      let light : AreOfVersion version events = All-take (λ (item : Item). (1 ≤ item.weight) × (item.weight ≤ most_weight version)) n0 (events_of history)
      (history_light s cone history sound.journal.journaled) in
      let stand = rows_stand s version events n0 rows (seen FRAMES) named.at named.are (omega (arith, long)) light holds s.levels (omega arith) in
      let all = subst (λ (rs : List (List BinAt)). AllStand s version (seen FRAMES) (tallied_in s events) rs) (take_all s.levels rows (omega (arith, named.at.levels))) stand in
      record {
        rows = rows;
        opened = record {
          headed = sound_headed seen history sound;
          log = sound.log;
          named = named;
          frames = subst (λ (v : ℕ). rows_left s v (seen FRAMES) rows ≡ None) (sound_version seen history sound)
              (all_whole s version rows (seen FRAMES) (tallied_in s events) valid named.are all);
        };
        weighs = ap (λ v. rows_total s v (seen FRAMES) 1 rows) (sym (sound_version seen history sound))
            ∙ (rows_total-weighs s valid n0 (omega (arith, sound.n0_most, sound.journal.within)) rows named.at version events (seen FRAMES) named.are all
            ∙ ap (weight_of weighed) (take-take (edge s 0 n0) n0 (events_of history) (edge_to s n0)));
      }

  -- what those frames weigh is what the items do that they hold
  pub sound_weighs : IsValid s → cone < 2 ^ 32 → (seen : Files) (history : List Packet) (sound : IsSound s cone history seen) (records : List LogRecord) (log_end : ℕ) (rows : List (List BinAt)) →
      AreOpened s cone seen records log_end rows → (n0 weight version : ℕ) → n0 ≡ last_n0 records → version ≡ version_in (seen JOURNAL) →
      weight ≡ rows_total s version (seen FRAMES) 1 rows → weight_of weighed (take (edge s 0 n0) (events_of history)) ≡ weight
  sound_weighs valid below seen history sound records log_end rows opened n0 weight version n0_is version_is weight_is =
      let there = sound_opened valid seen history sound in
      let same = (one_log s cone valid (seen LOG) records sound.logged log_end sound.log_end opened.log sound.log).0 in
      let same_rows = same_last s cone valid below seen records sound.logged log_end sound.log_end rows there.rows opened.log sound.log opened.named there.opened.named in
      ap (λ n. weight_of weighed (take (edge s 0 n) (events_of history))) (n0_is ∙ ap last_n0 same)
      ∙ (sym there.weighs
      ∙ (ap (frames_weigh s seen) (sym same_rows)
      ∙ (ap (λ v. rows_total s v (seen FRAMES) 1 rows) (sym version_is)
      ∙ sym weight_is)))

-- ---- why a cone isn't made

module _ (s : Numbers) (cone : ℕ) (seen : Files) where
  pub refused_before : (fault : ReopenFault) → ((file at : ℕ) → fault ≡ Malformed file at → LeaveAt s cone seen file at) →
      ((kept : Kept) → fault ≡ OtherSettings kept → HasOther s cone (seen JOURNAL) kept) → IsReopenRefused s cone seen fault
  refused_before Failed place other = Of_call refl
  refused_before (Malformed file at) place other = Of_place file at refl (Before_records (place file at refl))
  refused_before (OtherSettings kept) place other = Of_header kept refl (other kept refl)

  -- by the journal, behind files that are in their format before its records
  pub refused_behind : (records : List LogRecord) (log_end : ℕ) (rows : List (List BinAt)) (fault : ReopenFault) → AreOpened s cone seen records log_end rows →
      ((history : List Packet) → IsSound s cone history seen → fault ≡ Failed) →
      IsStopped (version_in (seen JOURNAL)) s cone (last_n0 records) (is_closed records) (seen JOURNAL) (last_first records - 1) (frames_weigh s seen rows) (last_offset records) fault →
      IsReopenRefused s cone seen fault
  refused_behind records log_end rows fault opened fails (At_call is) = Of_call is
  refused_behind records log_end rows fault opened fails (At_place at is leaves) = Of_place 0 at is (In_records records log_end rows opened refl leaves)
  refused_behind records log_end rows fault opened fails (At_sight file at is ends file_is at_is) =
      Of_sight file at is
      (record {
        whole = record { records = records; log_end = log_end; rows = rows; opened = opened; journal = ends };
        none = λ history sound. failed_or_place file at (sym is ∙ fails history sound);
        file_is = file_is;
        at_is = at_is;
      })
    where
      failed_or_place : (file at : ℕ) → Malformed file at ≡ Failed → ⊥
      failed_or_place file at is = cc

-- ---- an answer behind files that are in their format before the records of the journal

pub ok_on : {K E : Type 0} (P Q : K → Type 0) (result : Result K E) → ((now : K) → P now → Q now) → IfOk result P → IfOk result Q
ok_on P Q (Ok now) more is = more now is
ok_on P Q (Err refused) more is = tt

pub fails_on : {K E L : Type 0} (R S : L → Type 0) (O : E → Type 0) (result : Result K E) → ((h : L) → S h → R h) → IfErr result (λ refused. (h : L) → R h → O refused) →
    IfErr result (λ refused. (h : L) → S h → O refused)
fails_on R S O (Ok now) more fails = tt
fails_on R S O (Err refused) more fails = λ h is. fails h (more h is)

pub stands_on : {K E L : Type 0} (A : L → Type 0) (C : L → K → Type 0) (R S : L → Type 0) (T : K → L → Type 0) (result : Result K E) → ((h : L) → S h → R h) →
    IfOk result (λ now. (h : L) → A h → C h now → R h → T now h) → IfOk result (λ now. (h : L) → A h → C h now → S h → T now h)
stands_on A C R S T (Ok now) more stands = λ h some count is. stands h some count (more h is)
stands_on A C R S T (Err refused) more stands = tt

module _ {K E : Type 0} (closed_in : K → Bool) (events_in : K → List Item) (weight_in gate_in : K → ℕ) (fault_in : E → ReopenFault) where
  pub reopened_of : (version : ℕ) (s : Numbers) (cone : ℕ) (seen : Files) → version ≡ version_in (seen JOURNAL) → (told : Option Files) → told ≡ Some seen → (records : List LogRecord)
      (log_end : ℕ) (rows : List (List BinAt)) (n0 offset first : ℕ) (closed : Bool) (weight : ℕ) (reports : List Report) (directory : List ℕ) →
      AreOpened s cone seen records log_end rows → IsReadOf s cone n0 offset first closed reports directory records → weight ≡ frames_weigh s seen rows → (result : Result K E) →
      MatchResult result
      (λ now. HasReplayed version s cone n0 closed (seen JOURNAL) (unread version s cone (first - 1) told) weight offset (gate_in now) (events_in now) (weight_in now) ×
      IsClosed (seen JOURNAL) (gate_in now))
      (λ refused. IsStopped version s cone n0 closed (seen JOURNAL) (length (unread version s cone (first - 1) told)) weight offset (fault_in refused)) →
      IfOk result (λ now. n0 ≤ length (events_in now)) → IfOk result (λ now. closed_in now ≡ closed) →
      IfErr result (λ refused. (history : List Packet) → IsSound s cone history seen → fault_in refused ≡ Failed) →
      MatchResult result (λ now. IsReopened s cone seen (closed_in now) (events_in now) (weight_in now) (gate_in now)) (λ refused. IsReopenRefused s cone seen (fault_in refused))
  reopened_of version s cone seen version_is told told_is records log_end rows n0 offset first closed weight reports directory opened read weighs (Ok now) was enough same fails = record {
    records = records;
    log_end = log_end;
    rows = rows;
    opened = opened;
    closed_is = same ∙ read.closed_is;
    replayed =
        let events = events_in now in
        let gate = gate_in now in
        let end = weight_in now in
        let own = version_in (seen JOURNAL) in
        let framed = frames_weigh s seen rows in
        subst (λ (t : Option Files). HasReplayed own s cone (last_n0 records) (is_closed records) (seen JOURNAL) (unread own s cone (last_first records - 1) t) framed (last_offset records) gate
        events end) told_is
        (subst (λ (f : ℕ). HasReplayed own s cone (last_n0 records) (is_closed records) (seen JOURNAL) (unread own s cone (f - 1) told) framed (last_offset records) gate events end) read.first_is
        (subst (λ (o : ℕ). HasReplayed own s cone (last_n0 records) (is_closed records) (seen JOURNAL) (unread own s cone (first - 1) told) framed o gate events end) read.offset_is
        (subst (λ (c : Bool). HasReplayed own s cone (last_n0 records) c (seen JOURNAL) (unread own s cone (first - 1) told) framed offset gate events end) read.closed_is
        (subst (λ (n : ℕ). HasReplayed own s cone n closed (seen JOURNAL) (unread own s cone (first - 1) told) framed offset gate events end) read.n0_is
        (subst (λ (w : ℕ). HasReplayed own s cone n0 closed (seen JOURNAL) (unread own s cone (first - 1) told) w offset gate events end) weighs
        (subst (λ (v : ℕ). HasReplayed v s cone n0 closed (seen JOURNAL) (unread v s cone (first - 1) told) weight offset gate events end) version_is was.0))))));
    shut = was.1;
    enough = subst (λ (n : ℕ). n ≤ length (events_in now)) read.n0_is enough;
  }
  reopened_of version s cone seen version_is told told_is records log_end rows n0 offset first closed weight reports directory opened read weighs (Err refused) was enough same fails =
      let fault = fault_in refused in
      let own = version_in (seen JOURNAL) in
      let framed = frames_weigh s seen rows in
      let before = length (unread own s cone (first - 1) told) in
      let count : before ≡ last_first records - 1 = length_unread own s cone (first - 1) told ∙ ap (λ (f : ℕ). f - 1) read.first_is in
      refused_behind s cone seen records log_end rows fault opened fails
      (subst (λ (n : ℕ). IsStopped own s cone (last_n0 records) (is_closed records) (seen JOURNAL) n framed (last_offset records) fault) count
      (subst (λ (o : ℕ). IsStopped own s cone (last_n0 records) (is_closed records) (seen JOURNAL) before framed o fault) read.offset_is
      (subst (λ (c : Bool). IsStopped own s cone (last_n0 records) c (seen JOURNAL) before framed offset fault) read.closed_is
      (subst (λ (n : ℕ). IsStopped own s cone n closed (seen JOURNAL) before framed offset fault) read.n0_is
      (subst (λ (w : ℕ). IsStopped own s cone n0 closed (seen JOURNAL) before w offset fault) weighs
      (subst (λ (v : ℕ). IsStopped v s cone n0 closed (seen JOURNAL) (length (unread v s cone (first - 1) told)) weight offset fault) version_is was))))))

-- ---- how much of the journal was read

-- behind its header from the record on that the log names
pub read_before : {B E : Type 0} (handed : B → ℕ) (bay_in : E → B) (s : Numbers) (cone : ℕ) → IsValid s → (seen : Files) (history : List Packet) (sound : IsSound s cone history seen)
    (records : List LogRecord) (log_end : ℕ) → HasLog s cone (seen LOG) records log_end → (offset : ℕ) → offset ≡ last_offset records → (t : Numbers) (v : ℕ) → t ≡ s → v ≡ version_in (seen JOURNAL) →
    (before bay : B) →
    handed bay ≤ handed before + 32 → (result : Result (Standing B) E) →
    MatchResult result (λ now. ReadsRest v t offset history (handed bay) (handed now.bay)) (λ refused. ReadsRest v t offset history (handed bay) (handed (bay_in refused))) →
    MatchResult result (λ now. handed now.bay ≤ handed before + most_read s) (λ refused. handed (bay_in refused) ≤ handed before + most_read s)
read_before {B = B} {E = E} handed bay_in s cone valid seen history sound records log_end log offset offset_is t v settings_are version_is before bay head result rest = behind result rest
  where
    named : offset ≡ last_offset sound.logged
    named = offset_is ∙ ap last_offset (one_log s cone valid (seen LOG) records sound.logged log_end sound.log_end log sound.log).0

    at_most : (later : B) → ReadsRest v t offset history (handed bay) (handed later) → handed later ≤ handed before + most_read s
    at_most later reads =
        let same : v ≡ sound.version = version_is ∙ sym (sound_version s cone seen history sound) in
        let most : most_payload v t ≡ most_payload sound.version s = λ i. most_payload (same i) (settings_are i) in
        omega (arith, head, reads, named, most, ap (λ (w : ℕ). end_of w history) same, read_bound s valid cone history seen sound)

    behind : (result : Result (Standing B) E) →
        MatchResult result (λ now. ReadsRest v t offset history (handed bay) (handed now.bay)) (λ refused. ReadsRest v t offset history (handed bay) (handed (bay_in refused))) →
        MatchResult result (λ now. handed now.bay ≤ handed before + most_read s) (λ refused. handed (bay_in refused) ≤ handed before + most_read s)
    behind (Ok now) reads = at_most now.bay reads
    behind (Err refused) reads = at_most (bay_in refused) reads
