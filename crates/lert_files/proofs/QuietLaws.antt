-- Calls that write nothing, one after the other.
use Rattle.std.proofs.Common.{ℕ, ◌≡◌, ◌≤◌, ◌∙◌, Result, Ok, Err, List, inl, inr, arith}
use Rattle.std.specs.Prelude.{OnOk, OnErr}
use Rattle.lert_bay.specs.{declared.bay.TheConstants.{JOURNAL, LOG, FRAMES}, Files.{Files, IfTold}, Images.{Elapses, KeepsImages, Settles}, Handed.ReadsUpTo, Kept.{Bays, OnlyReads, ReadsBay}}
use Rattle.lert_bay.proofs.KeptLaws.{IsLawful, apart_from_log, calls_as, calls_call, calls_on, only_reads_of, reads}
use Rattle.lert_io.specs.Fault.{HasRisen}
use Rattle.lert_files.specs.Opened.{IsAsRead, WritesNothing}

-- ---- a sync

-- no image comes of it, whatever it answers
pub fewer_images : {T E : Type 0} (result : Result T E) (file : ℕ) (bytes : List ℕ) (before after : Files → Type 0) → OnOk result (Settles file bytes before after) →
    OnErr result (KeepsImages before after) → (image : Files) → after image → before image
fewer_images (Ok done) file bytes before after settles kept image may = settles.was image may
fewer_images (Err fault) file bytes before after settles kept image may = (kept image).0 may

-- behind one of each file every image is what a read gives
pub all_durable : {T E : Type 0} (result : Result T E) (seen : Files) (first second third last : Files → Type 0) → Settles JOURNAL (seen JOURNAL) first second →
    Settles LOG (seen LOG) second third → OnOk result (Settles FRAMES (seen FRAMES) third last) →
    OnOk result ((image : Files) → last image → IsAsRead seen image)
all_durable (Ok done) seen first second third last journal log frames = λ image may.
    let before = frames.was image may in
    record { journal = journal.durable image (log.was image before); log = log.durable image before; frames = frames.durable image may }
all_durable (Err fault) seen first second third last journal log frames = tt

-- ---- a read of the log

-- it hands out no byte of the journal
pub log_reads : {B : Type 0} (bays : Bays B) (file most : ℕ) (before after : B) (Failed : Type 0) → file ≡ LOG → ReadsBay bays before after Failed →
    ReadsUpTo file most (bays.handed_out before) (bays.handed_out after) → OnlyReads bays before after Failed
log_reads bays file most before after Failed file_is one handed = only_reads_of bays before after Failed file most (λ same. apart_from_log (same ∙ file_is)) one handed

-- ---- several calls

module _ {B : Type 0} {bays : Bays B} (lawful : IsLawful bays) where
  pub quiet_sync : {T E : Type 0} {before after : B} (result : Result T E) (file : ℕ) (Failed : Type 0) → bays.files after ≡ bays.files before →
      IfTold (bays.files before) (λ seen. OnOk result (Settles file (seen file) (bays.leaves before) (bays.leaves after))) →
      OnErr result (KeepsImages (bays.leaves before) (bays.leaves after)) →
      Elapses (bays.moment before) (bays.moment after) (bays.left_since before) (bays.left_since after) (bays.leaves after) →
      bays.faults before ≤ bays.faults after → (Failed → HasRisen (bays.faults before) (bays.faults after)) → bays.mark after ≡ bays.mark before →
      WritesNothing bays before after Failed
  quiet_sync {before = before} {after = after} result file Failed same settles stays elapsed never_falls failed mark = record {
    kept = calls_call bays lawful before after Failed elapsed never_falls failed mark;
    seen = same;
    images = λ seen told image may. fewer_images result file (seen file) (bays.leaves before) (bays.leaves after) (settles seen told) stays image may;
    moments = λ seen told image since. elim (elapsed.known (bays.moment before) image (omega arith) since) [
      | inl past ↦ lawful.only_now before image past
      | inr now ↦ fewer_images result file (seen file) (bays.leaves before) (bays.leaves after) (settles seen told) stays image now
    ];
  }

  -- calls that read alone
  pub quiet_reading : {before after : B} {Failed : Type 0} → ReadsBay bays before after Failed → WritesNothing bays before after Failed
  quiet_reading one = record {
    kept = one.kept;
    seen = one.seen;
    images = λ seen told image may. (one.images image).0 may;
    moments = λ seen told image since. one.moments image since;
  }

  pub quiet_reads : {before after : B} {Failed : Type 0} → OnlyReads bays before after Failed → WritesNothing bays before after Failed
  quiet_reads {before = before} {after = after} {Failed = Failed} one = quiet_reading (reads bays before after Failed one)

  -- the same calls, seen as failed in other words
  pub quiet_as : {before after : B} {First Failed : Type 0} → (Failed → First) → WritesNothing bays before after First → WritesNothing bays before after Failed
  quiet_as {before = before} {after = after} {First = First} {Failed = Failed} turned one = record {
    kept = calls_as bays lawful before after First Failed turned one.kept;
    seen = one.seen;
    images = one.images;
    moments = one.moments;
  }

  -- calls behind others, of which the last one failed, if any did
  pub quiet_on : {before between after : B} {First Failed : Type 0} → WritesNothing bays before between First → WritesNothing bays between after Failed →
      WritesNothing bays before after Failed
  quiet_on {before = before} {between = between} {after = after} {First = First} {Failed = Failed} one two = record {
    kept = calls_on bays lawful before between after First Failed one.kept two.kept;
    seen = two.seen ∙ one.seen;
    images = λ seen told image may. one.images seen told image (two.images seen (one.seen ∙ told) image may);
    moments = λ seen told image since. elim (two.kept.time.known (bays.moment before) image one.kept.time.later since) [
      | inl past ↦ one.moments seen told image past
      | inr now ↦ one.images seen told image (two.moments seen (one.seen ∙ told) image now)
    ];
  }
