-- Calls of writers in turn.
use Rattle.std.{proofs.Common.{◌≡◌, ℕ, ◌-◌, ◌≤◌, Option, Some, Result, length, refl, ◌∙◌, inl, inr, arith}, specs.Prelude.{Ok, Err, OnOk}}
use Rattle.lert_bay.{specs.Files.{Files, Changes, LeftByFailure}, specs.declared.bay.TheConstants.FRAMES, specs.Kept.{Bays, KeepsBay, OnlyReads}, proofs.Lasting.{lasts_none, lasts_on}}
use Rattle.lert_io.proofs.Rising.{risen_since}
use Rattle.lert_frames.{specs.Calls.Writes, specs.Kept.WritesWithin, proofs.WithinLaws.{within_reads, within_on, within_wider, turns_to}}

-- ---- calls, seen as failed in other words

module _ {B : Type 0} {bays : Bays B} {before after : B} {First Failed : Type 0} (turned : Failed → First) where
  pub keeps_turned : KeepsBay bays before after First → KeepsBay bays before after Failed
  keeps_turned one = record { time = one.time; never_falls = one.never_falls; failed = λ is. one.failed (turned is); mark = one.mark; journal = one.journal }

  pub reads_turned : OnlyReads bays before after First → OnlyReads bays before after Failed
  reads_turned one = record { kept = keeps_turned one.kept; seen = one.seen; images = one.images; moments = one.moments }

  pub writes_as : {begin end : ℕ} → Writes bays begin end before after First → Writes bays begin end before after Failed
  writes_as one = record { within = one.within; kept = keeps_turned one.kept }

-- ---- calls in turn

-- calls that read alone
pub writes_reads : {B : Type 0} {bays : Bays B} {begin end : ℕ} {before after : B} {Failed : Type 0} → OnlyReads bays before after Failed → Writes bays begin end before after Failed
writes_reads {bays = bays} {begin} {end} reads = record { within = within_reads bays begin end _ _ _ reads; kept = reads.kept }

-- by one law of bays: no call
module _ {B : Type 0} (bays : Bays B) (only_now : (bay : B) (image : Files) → bays.left_since bay (bays.moment bay) image → bays.leaves bay image) {bay : B} {Failed : Type 0}
    (never : Failed → ⊥) where
  keeps_same : KeepsBay bays bay bay Failed
  keeps_same = record {
    time = lasts_none (bays.moment bay) (bays.left_since bay);
    never_falls = omega arith;
    failed = λ failed. absurd (never failed);
    mark = refl;
    journal = refl;
  }

  pub reads_same : OnlyReads bays bay bay Failed
  reads_same = record { kept = keeps_same; seen = refl; images = λ image. (λ may. may, λ may. may); moments = only_now bay }

  pub writes_none : {begin end : ℕ} → Writes bays begin end bay bay Failed
  writes_none = writes_reads reads_same

-- and by another: calls behind others, of which the last one failed, if any did
module _ {B : Type 0} {bays : Bays B} (since_earlier : (bay : B) (t u : ℕ) (image : Files) → t ≤ u → bays.left_since bay u image → bays.left_since bay t image)
    {before between after : B} {First Failed : Type 0} where
  keeps_then : KeepsBay bays before between First → KeepsBay bays between after Failed → KeepsBay bays before after Failed
  keeps_then one two = record {
    time = lasts_on (bays.moment before) (bays.moment between) (bays.moment after) (bays.left_since before) (bays.left_since between) (bays.left_since after)
        one.time two.time (since_earlier after);
    never_falls = omega (arith, one.never_falls, two.never_falls);
    failed = λ failed. risen_since (bays.faults before) (bays.faults between) (bays.faults after) one.never_falls two.never_falls (two.failed failed);
    mark = two.mark ∙ one.mark;
    journal = two.journal ∙ one.journal;
  }

  pub reads_then : OnlyReads bays before between First → OnlyReads bays between after Failed → OnlyReads bays before after Failed
  reads_then one two = record {
    kept = keeps_then one.kept two.kept;
    seen = two.seen ∙ one.seen;
    images = λ image. (λ may. (one.images image).0 ((two.images image).0 may), λ may. (two.images image).1 ((one.images image).1 may));
    moments = λ image since. elim (two.kept.time.known (bays.moment before) image one.kept.time.later since) [
      | inl past ↦ one.moments image past
      | inr now ↦ (one.images image).0 (two.moments image now)
    ];
  }

  pub writes_on : {begin end : ℕ} → Writes bays begin end before between First → Writes bays begin end between after Failed → Writes bays begin end before after Failed
  writes_on {begin} {end} one two = record { within = within_on bays begin end _ _ _ _ _ one.kept two.kept one.within two.within; kept = keeps_then one.kept two.kept }

-- a bay tells the same files each time
pub same_files : (seen later : Files) → ◌≡◌ {A = Option Files} (Some seen) (Some later) → seen ≡ later
same_files seen later is = cc

module _ {B : Type 0} {bays : Bays B} {begin end : ℕ} {before after : B} where
  -- a wider range
  pub writes_wider : {low high : ℕ} {Failed : Type 0} → Writes bays begin end before after Failed → low ≤ begin → begin ≤ end → end ≤ high → Writes bays low high before after Failed
  writes_wider {low} {high} one lower order higher = record { within = within_wider bays begin end low high before after lower order higher one.within; kept = one.kept }

  module _ {seen : Files} (wrote : WritesWithin bays begin end before after) (told : bays.files before ≡ Some seen) where
    -- a bay that tells its files tells them behind the calls
    pub told_then : (later : Files) × (bays.files after ≡ Some later)
    told_then = let then = wrote.wrote.seen.told seen told in (then.0, then.1)

    -- no file gets shorter
    pub no_shorter : {later : Files} → bays.files after ≡ Some later → length (seen FRAMES) ≤ length (later FRAMES)
    no_shorter {later} told_later =
        (turns_to (Changes (LeftByFailure begin (end - begin)) FRAMES) (bays.files before) (bays.files after) seen later wrote.wrote.seen told told_later).here.torn.no_shorter

-- two facts of Ok
pub both_ok : {T E : Type 0} (A B C : Type 0) (result : Result T E) → OnOk result A → OnOk result B → (A → B → C) → OnOk result C
both_ok A B C (Ok _) a b join = join a b
both_ok A B C (Err _) a b join = tt

pub three_ok : {T E : Type 0} (A B C D : Type 0) (result : Result T E) → OnOk result A → OnOk result B → OnOk result C → (A → B → C → D) → OnOk result D
three_ok A B C D (Ok _) a b c join = join a b c
three_ok A B C D (Err _) a b c join = tt
