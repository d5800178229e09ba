-- The end through the counts: the totals don't come to the reports, or a report finds no room, or all are listed.
use Rattle.std.proofs.Common.{◌≡◌, ℕ, ◌^◌, ◌<◌, Bool, true, false, List, length, Result, Ok, Err, Some, refl, sym, ap, ◌∙◌, subst, arith}
use Rattle.std.specs.Result.{IsErrAnd}
use Rattle.lert_bay.specs.{Files.Files, Kept.Bays}
use Rattle.lert_levels.specs.{declared.rows.bin_at.BinAt.BinAt, declared.rows.fault.FlushFault.FlushFault, rows.Checked.rows_left, rows.Loading.OneBreaks, OnDisk.OnDisk}
use Rattle.lert_spec.specs.{Counts.weighed, declared.numbers.Numbers.Numbers, declared.report.Report.Report, Bins.tally, Limits.IsValid}
use Rattle.lert_cone.specs.{declared.tally.TakeFault.TakeFault, declared.tally.TakeFault.TheVariants.{Failed, Unsound}, Counts.{CountsEnd, Scans}, Due.{Dues, TookFrom, started}}
use Rattle.lert_cone.specs.Tally.{Tallied, IsCounted, IsHeld, take_fault}
use Rattle.lert_bay.proofs.KeptLaws.{IsLawful, reads_as}
use Rattle.lert_cone.proofs.KeyCounted.{failed_flush}
use Rattle.lert_cone.proofs.TakeLaws.{rows_end, fits_end, from_end, young_end, frames_end, counted_end, held_end, never_full_end, sound_fault, shows_frame, shows_full, handed_on}

module _ {B : Type 0} {bays : Bays B} (lawful : IsLawful bays) {t : Tallied} {ls : Numbers} (levels_are : ls ≡ t.listing.settings) (valid : IsValid t.listing.settings)
    (named : t.listing.cone < 2 ^ t.listing.settings.cone_bits) (counted : IsCounted t)
    {m : ℕ} (m_is : m ≡ length t.listing.events) {start : Dues} (start_is : start ≡ started t.due m) (due : Dues) (bay bay_after : B) (levels_after : OnDisk) where
  with_rows : (result : Result (Unit {0}) FlushFault) → Scans bays start bay bay_after t.young (record { settings = ls; version = t.listing.version; rows = t.rows }) levels_after due result →
      (closed : Bool) (given : Result
      (Unit {0}) TakeFault) →
      CountsEnd bays bay bay_after t (record t { listing = record t.listing { closed = closed }; due = due }) given →
      CountsEnd bays bay bay_after t (record {
        listing = record t.listing { closed = closed };
        young = t.young;
        rows = levels_after.rows;
        due = due;
      }) given
  with_rows result scans closed given = subst (λ (rows : List (List BinAt)). CountsEnd bays bay bay_after t (record {
    listing = record t.listing { closed = closed };
    young = t.young;
    rows = rows;
    due = due;
  }) given) (sym (ap (λ (v : OnDisk). v.rows) scans.stays))

  refused_by : (fault : FlushFault) → Scans bays start bay bay_after t.young (record { settings = ls; version = t.listing.version; rows = t.rows }) levels_after due (Err fault) →
      CountsEnd bays bay bay_after t (record t { due = due }) (Err (take_fault fault))
  refused_by fault scans = record {
    listing = refl;
    rows = refl;
    closed = tt;
    refused = refl;
    grows = tt;
    counted = tt;
    held = λ seen told held. tt;
    whole = λ seen told. tt;
    sound = λ seen told held weighs file at same.
        let fine = scans.sound t.listing.events (fits_end t ls levels_are valid named counted) counted.light (rows_end t ls levels_are valid named counted) (from_end t ls levels_are valid named
        counted)
        (young_end t ls levels_are valid named counted)
        seen told (frames_end t ls levels_are valid named counted seen held) in
        sound_fault fault (λ place is. fine place (ap Err is)) file at (let inner : take_fault fault ≡ Unsound file at = cc in inner);
    shows = λ seen told file at same.
        shows_frame (Err (take_fault fault)) fault refl t.listing.settings t.rows due.reports (seen 2)
        (λ place is. subst (λ (v : Numbers). OneBreaks v t.listing.version t.rows (seen 2) place) levels_are (scans.malformed seen (sym scans.reads.seen ∙ told) place (ap Err is))) file at same;
    reads = reads_as bays lawful bay bay_after _ _ (λ same. ap Err (failed_flush fault (let inner : take_fault fault ≡ Failed = cc in inner))) scans.reads;
  }

  -- the totals don't come
  pub not_ended : {result : Result (Unit {0}) FlushFault} {given : Result (Unit {0}) TakeFault} {fault : FlushFault} → result ≡ Err fault →
      Scans bays start bay bay_after t.young (record { settings = ls; version = t.listing.version; rows = t.rows }) levels_after due result → IsErrAnd given (λ g. g ≡ take_fault fault) →
      CountsEnd bays
      bay bay_after t
      (record t { rows = levels_after.rows; due = due }) given
  not_ended {given = given} {fault = fault} is scans given_is =
      subst (λ (r : Result (Unit {0}) TakeFault). CountsEnd bays bay bay_after t (record t { rows = levels_after.rows; due = due }) r) (handed_on given
      (take_fault fault) given_is)
      (let failed = subst (λ (r : Result (Unit {0}) FlushFault). Scans bays start bay bay_after t.young (record { settings = ls; version = t.listing.version; rows = t.rows }) levels_after due r) is
      scans in
      with_rows (Err fault) failed t.listing.closed (Err (take_fault fault)) (refused_by fault failed))

  module _ (still : t.listing.closed ≡ false) (scans : Scans bays start bay bay_after t.young (record { settings = ls; version = t.listing.version; rows = t.rows }) levels_after due (Ok tt)) where
    took_all : (seen : Files) → bays.files bay ≡ Some seen → IsHeld t seen → TookFrom start due (tally weighed ls t.listing.events)
    took_all seen told held =
        scans.totals t.listing.events (fits_end t ls levels_are valid named counted) counted.light (rows_end t ls levels_are valid named counted) (from_end t ls levels_are valid named counted)
        counted.to
        (young_end t ls levels_are valid named counted)
        seen told (frames_end t ls levels_are valid named counted seen held)

    -- a report finds no room
    pub no_room_left : due.is_full ≡ true → length due.reports ≡ due.settings.room →
        CountsEnd bays bay bay_after t (record t { rows = levels_after.rows; due = due }) (Err (Unsound 1 0))
    no_room_left full filled = with_rows (Ok tt) scans t.listing.closed (Err (Unsound 1 0)) (record {
      listing = refl;
      rows = refl;
      closed = tt;
      refused = refl;
      grows = tt;
      counted = tt;
      held = λ seen told held. tt;
      whole = λ seen told. tt;
      sound = λ seen told held weighs file at same. never_full_end t ls levels_are valid named counted m m_is start due start_is still seen held (took_all seen told held) weighs full;
      shows = λ seen told file at same.
          shows_full t.listing.settings t.rows due.reports (seen 2)
          (filled ∙ ap (λ (s : Numbers). s.room) (scans.took.1.settings_are ∙ ap (λ (d : Dues). d.settings) start_is ∙ counted.due_settings)) file at same;
      reads = reads_as bays lawful bay bay_after _ _ (λ same. absurd (let never : ⊥ = cc in never)) scans.reads;
    })

    -- all reports are listed
    pub all_counted : due.is_full ≡ false →
        CountsEnd bays bay bay_after t (record {
          listing = record t.listing { closed = true };
          young = t.young;
          rows = levels_after.rows;
          due = due;
        }) (Ok tt)
    all_counted room = with_rows (Ok tt) scans true (Ok tt) (record {
      listing = refl;
      rows = refl;
      closed = refl;
      refused = tt;
      grows = omega (arith, scans.took.1.grows, ap (λ (d : Dues). length d.before) start_is, ap (length {A = Report}) scans.took.1.before_is);
      counted = counted_end t ls levels_are valid named counted m m_is start due start_is scans.took;
      held = λ seen told held. held_end t ls levels_are valid named counted m m_is start due start_is still seen held (took_all seen told held) room;
      whole = λ seen told. ap (λ (v : Numbers). rows_left v t.listing.version (seen 2) t.rows) (sym levels_are) ∙ scans.whole seen told;
      sound = λ seen told held weighs file at same. (let never : ⊥ = cc in never);
      shows = λ seen told file at same. absurd (let never : ⊥ = cc in never);
      reads = reads_as bays lawful bay bay_after _ _ (λ same. absurd (let never : ⊥ = cc in never)) scans.reads;
    })
