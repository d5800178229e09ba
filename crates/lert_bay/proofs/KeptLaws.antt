-- What calls in turn keep of a bay.
use Rattle.std.proofs.Common.{◌≡◌, ◌≢◌, ℕ, ◌≤◌, ◌∙◌, Some, refl, inl, inr, arith}
use Rattle.lert_bay.specs.{Files.Files, Images.{Elapses, KeepsImages}, Handed.ReadsUpTo, Kept.{Bays, CallsBay, ReadsBay, KeepsBay, OnlyReads}, declared.bay.TheConstants.{JOURNAL, LOG, FRAMES}}
use Rattle.lert_bay.proofs.Lasting.{lasts_none, lasts_on, lasts_more}
use Rattle.lert_io.specs.Fault.{HasRisen}
use Rattle.lert_io.proofs.Rising.{risen_since}

-- the laws that each bay keeps
pub record IsLawful {B : Type 0} (bays : Bays B) : Type 0 where
  pub as_read : (bay : B) (seen : Files) → bays.files bay ≡ Some seen → bays.leaves bay seen
  pub since_now : (bay : B) (image : Files) → bays.leaves bay image → bays.left_since bay (bays.moment bay) image
  pub only_now : (bay : B) (image : Files) → bays.left_since bay (bays.moment bay) image → bays.leaves bay image
  pub since_earlier : (bay : B) (t u : ℕ) (image : Files) → t ≤ u → bays.left_since bay u image → bays.left_since bay t image

-- the journal is another file than the log, and than the frames
pub apart_from_log : JOURNAL ≢ LOG
apart_from_log same = absurd (omega (arith, same))

pub apart_from_frames : JOURNAL ≢ FRAMES
apart_from_frames same = absurd (omega (arith, same))

-- ---- with and without the journal's bytes

module _ {B : Type 0} (bays : Bays B) (before after : B) (Failed : Type 0) where
  pub calls : KeepsBay bays before after Failed → CallsBay bays before after Failed
  calls one = record { time = one.time; never_falls = one.never_falls; failed = one.failed; mark = one.mark }

  pub keeps : CallsBay bays before after Failed → bays.handed_out after JOURNAL ≡ bays.handed_out before JOURNAL → KeepsBay bays before after Failed
  keeps one unread = record { time = one.time; never_falls = one.never_falls; failed = one.failed; mark = one.mark; journal = unread }

  pub reads : OnlyReads bays before after Failed → ReadsBay bays before after Failed
  reads one = record { kept = calls one.kept; seen = one.seen; images = one.images; moments = one.moments }

  pub only_reads : ReadsBay bays before after Failed → bays.handed_out after JOURNAL ≡ bays.handed_out before JOURNAL → OnlyReads bays before after Failed
  only_reads one unread = record { kept = keeps one.kept unread; seen = one.seen; images = one.images; moments = one.moments }

  -- reads of another file than the journal
  pub only_reads_of : (file most : ℕ) → JOURNAL ≢ file → ReadsBay bays before after Failed → ReadsUpTo file most (bays.handed_out before) (bays.handed_out after)
      → OnlyReads bays before after Failed
  only_reads_of file most apart one handed = only_reads one (handed.others JOURNAL apart)

module _ {B : Type 0} (bays : Bays B) (lawful : IsLawful bays) where
  -- ---- calls that may read the journal

  -- no call
  pub calls_none : (bay : B) (Failed : Type 0) → (Failed → ⊥) → CallsBay bays bay bay Failed
  calls_none bay Failed never = record {
    time = lasts_none (bays.moment bay) (bays.left_since bay);
    never_falls = omega arith;
    failed = λ failed. absurd (never failed);
    mark = refl;
  }

  -- calls behind others, of which the last one failed, if any did
  pub calls_on : (before between after : B) (First Failed : Type 0) → CallsBay bays before between First → CallsBay bays between after Failed → CallsBay bays before after Failed
  calls_on before between after First Failed one two = record {
    time = lasts_on (bays.moment before) (bays.moment between) (bays.moment after) (bays.left_since before) (bays.left_since between) (bays.left_since after)
        one.time two.time (lawful.since_earlier after);
    never_falls = omega (arith, one.never_falls, two.never_falls);
    failed = λ failed. risen_since (bays.faults before) (bays.faults between) (bays.faults after) one.never_falls two.never_falls (two.failed failed);
    mark = two.mark ∙ one.mark;
  }

  -- the same calls, seen as failed in other words
  pub calls_as : (before after : B) (First Failed : Type 0) → (Failed → First) → CallsBay bays before after First → CallsBay bays before after Failed
  calls_as before after First Failed turned one = record { time = one.time; never_falls = one.never_falls; failed = λ failed. one.failed (turned failed); mark = one.mark }

  -- one call
  pub calls_call : (before after : B) (Failed : Type 0) → Elapses (bays.moment before) (bays.moment after) (bays.left_since before) (bays.left_since after) (bays.leaves after) →
      bays.faults before ≤ bays.faults after → (Failed → HasRisen (bays.faults before) (bays.faults after)) → bays.mark after ≡ bays.mark before → CallsBay bays before after Failed
  calls_call before after Failed elapsed never_falls failed mark = record {
    time = lasts_more (bays.moment before) (bays.moment before) (bays.moment after) (bays.left_since before) (bays.left_since before) (bays.left_since after) (bays.leaves after)
        (lasts_none (bays.moment before) (bays.left_since before)) elapsed;
    never_falls = never_falls;
    failed = failed;
    mark = mark;
  }

  pub reading_none : (bay : B) (Failed : Type 0) → (Failed → ⊥) → ReadsBay bays bay bay Failed
  reading_none bay Failed never = record {
    kept = calls_none bay Failed never;
    seen = refl;
    images = λ image. (λ may. may, λ may. may);
    moments = lawful.only_now bay;
  }

  pub reading_on : (before between after : B) (First Failed : Type 0) → ReadsBay bays before between First → ReadsBay bays between after Failed → ReadsBay bays before after Failed
  reading_on before between after First Failed one two = record {
    kept = calls_on before between after First Failed one.kept two.kept;
    seen = two.seen ∙ one.seen;
    images = λ image. (λ may. (one.images image).0 ((two.images image).0 may), λ may. (two.images image).1 ((one.images image).1 may));
    moments = λ image since. elim (two.kept.time.known (bays.moment before) image one.kept.time.later since) [
      | inl past ↦ one.moments image past
      | inr now ↦ (one.images image).0 (two.moments image now)
    ];
  }

  pub reading_as : (before after : B) (First Failed : Type 0) → (Failed → First) → ReadsBay bays before after First → ReadsBay bays before after Failed
  reading_as before after First Failed turned one = record { kept = calls_as before after First Failed turned one.kept; seen = one.seen; images = one.images; moments = one.moments }

  pub reading_call : (before after : B) (Failed : Type 0) → Elapses (bays.moment before) (bays.moment after) (bays.left_since before) (bays.left_since after) (bays.leaves after) →
      bays.faults before ≤ bays.faults after → (Failed → HasRisen (bays.faults before) (bays.faults after)) → bays.mark after ≡ bays.mark before →
      bays.files after ≡ bays.files before → KeepsImages (bays.leaves before) (bays.leaves after) → ReadsBay bays before after Failed
  reading_call before after Failed elapsed never_falls failed mark seen images = record {
    kept = calls_call before after Failed elapsed never_falls failed mark;
    seen = seen;
    images = images;
    moments = λ image since. elim (elapsed.known (bays.moment before) image (omega arith) since) [
      | inl past ↦ lawful.only_now before image past
      | inr now ↦ (images image).0 now
    ];
  }

  -- ---- calls that hand out no byte of the journal

  -- no call
  pub keeps_none : (bay : B) (Failed : Type 0) → (Failed → ⊥) → KeepsBay bays bay bay Failed
  keeps_none bay Failed never = keeps bays bay bay Failed (calls_none bay Failed never) refl

  -- calls behind others, of which the last one failed, if any did
  pub keeps_on : (before between after : B) (First Failed : Type 0) → KeepsBay bays before between First → KeepsBay bays between after Failed → KeepsBay bays before after Failed
  keeps_on before between after First Failed one two =
      keeps bays before after Failed (calls_on before between after First Failed (calls bays before between First one) (calls bays between after Failed two))
      (two.journal ∙ one.journal)

  -- the same calls, seen as failed in other words
  pub keeps_as : (before after : B) (First Failed : Type 0) → (Failed → First) → KeepsBay bays before after First → KeepsBay bays before after Failed
  keeps_as before after First Failed turned one =
      keeps bays before after Failed (calls_as before after First Failed turned (calls bays before after First one)) one.journal

  pub reads_none : (bay : B) (Failed : Type 0) → (Failed → ⊥) → OnlyReads bays bay bay Failed
  reads_none bay Failed never = only_reads bays bay bay Failed (reading_none bay Failed never) refl

  pub reads_on : (before between after : B) (First Failed : Type 0) → OnlyReads bays before between First → OnlyReads bays between after Failed → OnlyReads bays before after Failed
  reads_on before between after First Failed one two =
      only_reads bays before after Failed (reading_on before between after First Failed (reads bays before between First one) (reads bays between after Failed two))
      (two.kept.journal ∙ one.kept.journal)

  pub reads_as : (before after : B) (First Failed : Type 0) → (Failed → First) → OnlyReads bays before after First → OnlyReads bays before after Failed
  reads_as before after First Failed turned one =
      only_reads bays before after Failed (reading_as before after First Failed turned (reads bays before after First one)) one.kept.journal

  -- one call
  pub keeps_call : (before after : B) (Failed : Type 0) → Elapses (bays.moment before) (bays.moment after) (bays.left_since before) (bays.left_since after) (bays.leaves after) →
      bays.faults before ≤ bays.faults after → (Failed → HasRisen (bays.faults before) (bays.faults after)) → bays.mark after ≡ bays.mark before →
      bays.handed_out after JOURNAL ≡ bays.handed_out before JOURNAL → KeepsBay bays before after Failed
  keeps_call before after Failed elapsed never_falls failed mark unread =
      keeps bays before after Failed (calls_call before after Failed elapsed never_falls failed mark) unread

  pub reads_call : (before after : B) (Failed : Type 0) → Elapses (bays.moment before) (bays.moment after) (bays.left_since before) (bays.left_since after) (bays.leaves after) →
      bays.faults before ≤ bays.faults after → (Failed → HasRisen (bays.faults before) (bays.faults after)) → bays.mark after ≡ bays.mark before →
      bays.files after ≡ bays.files before → KeepsImages (bays.leaves before) (bays.leaves after) →
      bays.handed_out after JOURNAL ≡ bays.handed_out before JOURNAL → OnlyReads bays before after Failed
  reads_call before after Failed elapsed never_falls failed mark seen images unread =
      only_reads bays before after Failed (reading_call before after Failed elapsed never_falls failed mark seen images) unread
