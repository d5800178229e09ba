-- What a write and its sync make of a bay: what each image of each moment comes from.
use Rattle.std.proofs.{Common.{◌≡◌, ℕ, ◌+◌, List, [], ◌∷◌, Option, Some, Result, Ok, Err, OnOk, OnErr, IsErr, length, sym, ◌∙◌, subst, inl, inr, arith}, lemmas.List.take_all}
use Rattle.lert_bay.specs.{Files.{Files, IfTold, Changes, Turns, Torn, Holds, LeftByFailure}, Images.{ComesByWrite, Elapses, Follow, Settles, KeepsImages}, Kept.{Bays, KeepsBay}}
use Rattle.lert_bay.proofs.{KeptLaws.{IsLawful, keeps_on}, Tearing.{comes_same, left_by_part}}
use Rattle.lert_gatelog.specs.{Kept.IsAppended, Written.WritesDurably}

-- a sync leaves images of before, whatever it answers
pub was_before : {T E : Type 0} (result : Result T E) (file : ℕ) (seen : List ℕ) (before after : Files → Type 0) → OnOk result (Settles file seen before after) →
    OnErr result (KeepsImages before after) → (image : Files) → after image → before image
was_before (Ok _) file seen before after ok err image now = ok.was image now
was_before (Err _) file seen before after ok err image now = (err image).0 now

-- after a sync that succeeds a file is left as a read gives it
pub left_as_read : {T E : Type 0} (result : Result T E) (file : ℕ) (told_before told_after : Option Files) (before after : Files → Type 0) → told_after ≡ told_before →
    ((seen : Files) → told_before ≡ Some seen → OnOk result (Settles file (seen file) before after)) →
    OnOk result ((seen : Files) → told_after ≡ Some seen → (image : Files) → after image → image file ≡ seen file)
left_as_read (Ok _) file told_before told_after before after same settles = λ seen told image now. (settles seen (sym same ∙ told)).durable image now
left_as_read (Err _) file told_before told_after before after same settles = tt

-- a weaker step
pub turns_weaker : (step weaker : Files → Files → Type 0) (before after : Option Files) → ((old new : Files) → step old new → weaker old new) → Turns step before after →
    Turns weaker before after
turns_weaker step weaker before after follows turns = record {
  told = λ old told. let new = turns.told old told in (new.0, new.1, follows old new.0 new.2);
  untold = turns.untold;
}

-- a whole write is one that a failure may leave
pub held_is_left : (file at : ℕ) (bytes : List ℕ) (old new : Files) → Changes (Holds at bytes) file old new → Changes (LeftByFailure at (length bytes)) file old new
held_is_left file at bytes old new held = record {
  here = left_by_part at (length bytes) bytes (old file) (new file) (omega arith)
      (subst (λ (piece : List ℕ). Holds at piece (old file) (new file)) (sym (take_all (length bytes) bytes (omega arith))) held.here);
  others = held.others;
}

-- two writes into one file, the text behind a gate and then the gate
pub turns_appended : (file gate : ℕ) (text : List ℕ) (first second third : Option Files) → Turns (Changes (Holds (gate + 1) text) file) first second →
    Turns (Changes (Holds gate (1 ∷ [])) file) second third → Turns (Changes (IsAppended gate text) file) first third
turns_appended file gate text first second third laid opened = record {
  told = λ old told.
      let between = laid.told old told in
      let new = opened.told between.0 between.1 in (
        new.0,
        new.1,
        record {
          here = record { between = between.0 file; laid = between.2.here; opened = new.2.here };
          others = λ other apart. new.2.others other apart ∙ between.2.others other apart;
        },
      );
  untold = λ none. opened.untold (laid.untold none);
}

-- what comes whatever the answer is
on_any : {T E : Type 0} (P : Type 0) (result : Result T E) → P → OnOk result P
on_any P (Ok _) holds = holds
on_any P (Err _) holds = tt

module _ {B : Type 0} (bays : Bays B) (lawful : IsLawful bays) where
  -- through the write
  pub moments_write : (before after : B) (file at count : ℕ) → Follow (Changes (Torn at count) file) (bays.leaves before) (bays.leaves after) →
      Elapses (bays.moment before) (bays.moment after) (bays.left_since before) (bays.left_since after) (bays.leaves after) →
      (image : Files) → bays.left_since after (bays.moment before) image → ComesByWrite (bays.leaves before) file at count image
  moments_write before after file at count follow elapsed image since =
      elim (elapsed.known (bays.moment before) image (omega arith) since) [
        | inl past ↦ comes_same (bays.leaves before) file at count image (lawful.only_now before image past)
        | inr now ↦ follow.comes image now
      ]

  -- a write and its sync, whatever the sync answers
  pub write_synced : {T E Failed : Type 0} (file at : ℕ) (bytes : List ℕ) (before between after : B) (result : Result T E) →
      Turns (Changes (Holds at bytes) file) (bays.files before) (bays.files between) →
      Follow (Changes (Torn at (length bytes)) file) (bays.leaves before) (bays.leaves between) →
      Elapses (bays.moment before) (bays.moment between) (bays.left_since before) (bays.left_since between) (bays.leaves between) →
      KeepsBay bays before between Failed → bays.files after ≡ bays.files between →
      IfTold (bays.files between) (λ seen. OnOk result (Settles file (seen file) (bays.leaves between) (bays.leaves after))) →
      OnErr result (KeepsImages (bays.leaves between) (bays.leaves after)) →
      Elapses (bays.moment between) (bays.moment after) (bays.left_since between) (bays.left_since after) (bays.leaves after) →
      KeepsBay bays between after (IsErr result) → WritesDurably bays file at bytes before after result
  write_synced {Failed = Failed} file at bytes before between after result held follow elapsed kept same settles stays then kept_then =
      let turned : Turns (Changes (Holds at bytes) file) (bays.files before) (bays.files after) =
      subst (λ (files : Option Files). Turns (Changes (Holds at bytes) file) (bays.files before) files) (sym same) held in
      record {
        written = on_any (Turns (Changes (Holds at bytes) file) (bays.files before) (bays.files after)) result turned;
        seen = turns_weaker (Changes (Holds at bytes) file) (Changes (LeftByFailure at (length bytes)) file) (bays.files before) (bays.files after)
            (held_is_left file at bytes) turned;
        moments = λ seen told image since.
            let now = held.told seen told in
            elim (then.known (bays.moment before) image elapsed.later since) [
              | inl past ↦ moments_write before between file at (length bytes) follow elapsed image past
              | inr last ↦ follow.comes image (was_before result file (now.0 file) (bays.leaves between) (bays.leaves after) (settles now.0 now.1) stays image last)
            ];
        durable = left_as_read result file (bays.files between) (bays.files after) (bays.leaves between) (bays.leaves after) same settles;
        kept = keeps_on bays lawful before between after Failed (IsErr result) kept kept_then;
      }
