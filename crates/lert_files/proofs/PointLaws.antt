-- What a log says of its last record keeps the rules, also where it has none.
use Rattle.std.proofs.Common.{ℕ, suc, ◌≡◌, ◌+◌, ◌-◌, ◌/◌, ◌^◌, ◌≤◌, Bool, false, Ok, Err, Result, List, [], ◌∷◌, ◌++◌, length, replicate, get_or, ap, sym, ◌∙◌, subst, arith, lit≤}
use Rattle.std.proofs.lemmas.List.{length-replicate, get_or-replicate}
use Rattle.std.specs.Prelude.{IfOk}
use Rattle.lert_spec.specs.{declared.numbers.Numbers.Numbers, declared.report.Report.Report, Edges.{span, edge, capacity}, Limits.IsValid}
use Rattle.lert_levels.specs.{rows.Named.{AreFramesAt, IsDirectory}, rows.Ranges.{Range, ranges}}
use Rattle.lert_levels.proofs.{rows.PlacedLaws.{directory_of_frames, ranges_counted}, rows.RangeLaws.{cuts_none, edge_within}}
use Rattle.lert_reports.specs.{Log.{before_of, is_closed, last_directory, last_first, last_n0, last_offset, AreRecords}, LogRules.{AreFrames, KeepsRules}, LogText.{LogRecord, directory_bytes}}
use Rattle.lert_reports.specs.declared.log_point.LogPoint.{LogPoint}
use Rattle.lert_reports.proofs.LogLaws.{last_directory-push, last_first-push, last_n0-push, last_offset-push}
use Rattle.lert_files.specs.{declared.fault.ReopenFault.ReopenFault, Read.{IsPoint, IsReadOf}}
use Rattle.lert_files.proofs.RecordsLaws.{walk}

-- ---- where the journal is to be read from

abbrev PointsOn : Numbers → List LogRecord → Type 0
PointsOn s records = IsPoint s (last_n0 records) (last_offset records) (last_first records)

point_none : (s : Numbers) → PointsOn s []
point_none s = record { within = omega arith; offset_from = omega arith; offset_to = lit≤ tt; first_from = omega arith; first_to = omega arith }

point_more : (s : Numbers) (cone : ℕ) (front : List LogRecord) (one : LogRecord) → KeepsRules s cone (before_of front) one → is_closed front ≡ false → PointsOn s front →
    PointsOn s (front ++ one ∷ [])
point_more s cone front one keeps still_open points =
    let n0 = last_n0-push front one in
    let offset = last_offset-push front one in
    let first = last_first-push front one in
    record {
      within = subst (λ n. n ≤ capacity s) (sym n0) keeps.within;
      offset_from = subst (λ n. 32 ≤ n) (sym offset) keeps.offset_from;
      offset_to = subst (λ n. n ≤ 2 ^ 46) (sym offset) keeps.offset_to;
      first_from = subst (λ n. 1 ≤ n) (sym first) keeps.first_from;
      first_to = subst (λ n. last_first (front ++ one ∷ []) ≤ edge s 0 n + 1) (sym n0) (subst (λ n. n ≤ edge s 0 one.n0 + 1) (sym first) keeps.first_to);
    }

-- ---- the frames

-- a level has no bin before the first event
no_bins : (s : Numbers) (level : ℕ) → ranges s 0 level ≡ []
no_bins s level = cuts_none (span s level) (edge s level 0) (edge s (level - 1) 0) (suc (0 / span s level)) (omega (arith, edge_within s (level - 1) 0))

no_frames : (s : Numbers) (level : ℕ) → AreFramesAt s 0 level []
no_frames s level = record {
  counted = ap (length {A = Range}) (sym (no_bins s level));
  known = λ k d below. absurd (omega (arith, below));
  distinct = λ i j d less below. absurd (omega (arith, below));
}

-- the frames of a record are those of the levels
frames_at : (s : Numbers) (n level : ℕ) (frames : List ℕ) → AreFrames s level n frames → AreFramesAt s n level frames
frames_at s n level frames are = record { counted = are.counted ∙ sym (ranges_counted s n level); known = are.known; distinct = are.distinct }

module _ (s : Numbers) (valid : IsValid s) where
  abbrev Directed : List LogRecord → Type 0
  Directed records = IsDirectory s (last_n0 records) (directory_bytes (last_directory s records))

  directed_none : Directed []
  directed_none =
      directory_of_frames s valid 0 (omega arith) (replicate s.levels []) (length-replicate {A = List ℕ} s.levels [])
      (λ k below. subst (AreFramesAt s 0 (k + 1)) (sym (get_or-replicate s.levels k [] [] below)) (no_frames s (k + 1)))

  directed_more : (cone : ℕ) (front : List LogRecord) (one : LogRecord) → KeepsRules s cone (before_of front) one → is_closed front ≡ false → Directed front →
      Directed (front ++ one ∷ [])
  directed_more cone front one keeps still_open directed =
      subst (λ n. IsDirectory s n (directory_bytes (last_directory s (front ++ one ∷ [])))) (sym (last_n0-push front one))
      (subst (λ levels. IsDirectory s one.n0 (directory_bytes levels)) (sym (last_directory-push s front one))
      (directory_of_frames s valid one.n0 keeps.within one.directory keeps.levels
      (λ k below. frames_at s one.n0 (k + 1) (get_or one.directory k []) (keeps.frames k below))))

  -- the directory of the last record names bins
  pub directed : (cone : ℕ) (records : List LogRecord) → AreRecords s cone records → Directed records
  directed cone records are = walk s cone Directed (directed_more cone) directed_none records are

-- ---- what was read of records that keep the rules

module _ (s : Numbers) (cone : ℕ) (reports : List Report) (directory : List ℕ) (n0 offset first : ℕ) (closed : Bool) (records : List LogRecord)
    (is : IsReadOf s cone n0 offset first closed reports directory records) where
  pub point_of : IsPoint s n0 offset first
  point_of =
      subst (λ n. IsPoint s n offset first) (sym is.n0_is)
      (subst (λ o. IsPoint s (last_n0 records) o first) (sym is.offset_is)
      (subst (IsPoint s (last_n0 records) (last_offset records)) (sym is.first_is)
      (walk s cone (PointsOn s) (point_more s cone) (point_none s) records is.rules)))

  pub directory_of : IsValid s → IsDirectory s n0 directory
  directory_of valid =
      subst (λ n. IsDirectory s n directory) (sym is.n0_is)
      (subst (IsDirectory s (last_n0 records)) (sym is.directory_is)
      (directed s valid cone records is.rules))

-- of an answer
abbrev pub Reads : Numbers → ℕ → List Report → List ℕ → (List LogRecord → ℕ → Type 0) → Result LogPoint ReopenFault → Type 0
Reads s cone reports directory Q result = IfOk result (λ end. (records : List LogRecord) × IsReadOf s cone end.n0 end.offset end.first end.closed reports directory records × Q
    records end.log_end)

module _ (s : Numbers) (cone : ℕ) (reports : List Report) (directory : List ℕ) (Q : List LogRecord → ℕ → Type 0) where
  pub points : (result : Result LogPoint ReopenFault) → Reads s cone reports directory Q result → IfOk result (λ end. IsPoint s end.n0 end.offset end.first)
  points (Ok end) read = point_of s cone reports directory end.n0 end.offset end.first end.closed read.0 read.1
  points (Err fault) read = tt

  pub directs : IsValid s → (result : Result LogPoint ReopenFault) → Reads s cone reports directory Q result → IfOk result (λ end. IsDirectory s end.n0 directory)
  directs valid (Ok end) read = directory_of s cone reports directory end.n0 end.offset end.first end.closed read.0 read.1 valid
  directs valid (Err fault) read = tt
