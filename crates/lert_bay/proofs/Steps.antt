-- What a call of a bay in memory makes of its images, its files and its clock.
use Rattle.std.proofs.Common.{◌≡◌, ◌≢◌, ℕ, ◌+◌, ◌<◌, ◌≤◌, List, [], ◌∷◌, ◌++◌, length, cond, nat_eq, slice_index_or, slice_set}
use Rattle.std.proofs.Common.{Some, Result, Ok, Err, OnOk, OnErr, take, refl, sym, ap, ◌∙◌, subst, inl, inr, arith, length-append}
use Rattle.std.proofs.lemmas.Bool.{cases_lt, cases_eq, eq-eqb, ne_eqb}
use Rattle.std.proofs.lemmas.List.{get_or_append_left, get_or_at, get_or_default, get_or-set_same, get_or-set_other}
use Rattle.lert_bay.specs.Files.{Files, Changes, Turns, Torn, Holds, LeftByFailure}
use Rattle.lert_bay.specs.Images.{Elapses, Follow, Settles}
use Rattle.lert_bay.specs.Since.{IsTornSince}
use Rattle.lert_bay.specs.Memory.{FileState, untouched, file_of, seen_of, handed_of, MayLeave, MayLeaveAll, Disk, LeftSince, Rewrites, durable}
use Rattle.lert_bay.specs.declared.extent.Extent.{Extent}
use Rattle.lert_bay.proofs.Tearing.{left_by_part, left_same, torn_more, torn_less, only_synced}

-- ---- the clock

-- a call puts the files as they were behind those of earlier moments
pub elapses : (before after : Disk) → after.past ≡ before.past ++ before.files ∷ [] → Elapses (length before.past) (length after.past) (LeftSince before) (LeftSince after)
    (MayLeaveAll after.files)
elapses before after longer =
    let longer_by : length after.past ≡ length before.past + 1 = ap length longer ∙ length-append before.past (before.files ∷ []) in
    let last : slice_index_or after.past (length before.past) [] ≡ before.files = ap (λ xs. slice_index_or xs (length before.past) []) longer ∙ get_or_at before.past
    before.files [] [] (length before.past) refl in
    let old : (k : ℕ) → k < length before.past → slice_index_or after.past k [] ≡ slice_index_or before.past k [] = λ k within. ap
    (λ xs. slice_index_or xs k []) longer ∙ get_or_append_left before.past (before.files ∷ []) [] k within in
    record {
      later = omega (arith, longer_by);
      known = λ t image early since. elim since [
        | inl now ↦ inr now
        | inr past ↦ elim (cases_lt past.0 (length before.past)) [
          | inl within ↦ inl (inr (past.0, past.1, within, subst (λ (files : List FileState). MayLeaveAll files image) (old past.0 within) past.3))
          | inr at_end ↦
              let here : past.0 ≡ length before.past = omega (arith, at_end, past.2, longer_by) in
              inl (inl (subst (λ (files : List FileState). MayLeaveAll files image) (ap (λ k. slice_index_or after.past k []) here ∙ last) past.3))
        ]
      ];
      kept = λ t image early since. elim since [
        | inl now ↦ inr (length before.past, early, omega (arith, longer_by), subst (λ (files : List FileState). MayLeaveAll files image) (sym last) now)
        | inr past ↦ inr (past.0, past.1, omega (arith, longer_by, past.2), subst (λ (files : List FileState). MayLeaveAll files image) (sym (old past.0 past.2)) past.3)
      ];
      added = λ t image early now. inl now;
    }

-- ---- one file

file_here : (files after : List FileState) (number : ℕ) (file : FileState) → number < length files → after ≡ slice_set files number file → file_of after number ≡ file
file_here files after number file within is = ap (λ xs. file_of xs number) is ∙ get_or-set_same files number file untouched within

file_other : (files after : List FileState) (number other : ℕ) (file : FileState) → after ≡ slice_set files number file → other ≢ number → file_of after other ≡ file_of files other
file_other files after number other file is apart = ap (λ xs. file_of xs other) is ∙ get_or-set_other files number other file untouched apart

-- files with other bytes in the place of one
pub with_file : Files → ℕ → List ℕ → Files
with_file files number bytes other = cond (nat_eq other number) bytes (files other)

pub with_file_here : (files : Files) (number : ℕ) (bytes : List ℕ) → with_file files number bytes number ≡ bytes
unfolding with_file
with_file_here files number bytes = ap (λ b. cond b bytes (files number)) (eq-eqb number number refl)

pub with_file_other : (files : Files) (number : ℕ) (bytes : List ℕ) (other : ℕ) → other ≢ number → with_file files number bytes other ≡ files other
unfolding with_file
with_file_other files number bytes other apart = ap (λ b. cond b bytes (files other)) (ne_eqb other number apart)

-- ---- writes

-- the files as a read gives them change in one place
pub changed : (files after : List FileState) (number : ℕ) (file : FileState) (step : List ℕ → List ℕ → Type 0) → number < length files → after ≡ slice_set files number file →
    step (file_of files number).now file.now → Changes step number (seen_of files) (seen_of after)
changed files after number file step within is here = record {
  here = subst (λ (bytes : List ℕ). step (file_of files number).now bytes) (ap (λ f. f.now) (sym (file_here files after number file within is))) here;
  others = λ other apart. ap (λ f. f.now) (file_other files after number other file is apart);
}

-- told files are told again
pub turns : (files after : List FileState) (step : Files → Files → Type 0) → step (seen_of files) (seen_of after) → Turns step (Some (seen_of files)) (Some (seen_of after))
turns files after step holds = record {
  told = λ old told. (seen_of after, refl, let same : old ≡ seen_of files = cc in subst (λ (seen : Files). step seen (seen_of after)) (sym same) holds);
  untold = λ none. cc;
}

-- what a crash may leave of one file after a write comes by the write from what it might leave before
left_less : (old new : FileState) (last : Extent) → Torn last.at last.count old.now new.now → new.synced ≡ old.synced → new.written ≡ old.written ++ last ∷ [] →
    (image : List ℕ) → MayLeave new image → (earlier : List ℕ) × MayLeave old earlier × Torn last.at last.count earlier image
left_less old new last torn synced written image (inl seen) = (old.now, inl refl, subst (λ (bytes : List ℕ). Torn last.at last.count old.now bytes) (sym seen) torn)
left_less old new last torn synced written image (inr since) =
    let from = torn_less old.synced old.written last image (subst (λ (bytes : List ℕ). IsTornSince bytes (old.written ++ last ∷ []) image) synced
    (subst (λ (ranges : List Extent). IsTornSince new.synced ranges image) written since)) in
    (from.0, inr from.1, from.2)

-- and what comes so may be left
left_more : (old new : FileState) (last : Extent) → IsTornSince old.synced old.written old.now → new.synced ≡ old.synced → new.written ≡ old.written ++ last ∷ [] →
    (earlier image : List ℕ) → MayLeave old earlier → Torn last.at last.count earlier image → MayLeave new image
left_more old new last as_read synced written earlier image may torn =
    let was : IsTornSince old.synced old.written earlier = elim may [
      | inl seen ↦ subst (λ (bytes : List ℕ). IsTornSince old.synced old.written bytes)
          (sym seen) as_read
      | inr since ↦ since
    ] in
    inr (subst (λ (ranges : List Extent). IsTornSince new.synced ranges image) (sym written)
    (subst (λ (bytes : List ℕ). IsTornSince bytes (old.written ++ last ∷ []) image) (sym synced) (torn_more old.synced old.written last earlier image was torn)))

-- the images after a write
pub follow : (old new : Disk) (number at count : ℕ) (step : List ℕ → List ℕ → Type 0) → ((before after : List ℕ) → step before after → Torn at count before after) →
    Rewrites number at count step old new → Follow (Changes (Torn at count) number) (MayLeaveAll old.files) (MayLeaveAll new.files)
follow old new number at count step tears wrote =
    let last : Extent = record { at = at; count = count } in
    let torn : Torn at count (file_of old.files number).now wrote.file.now = tears _ _ wrote.here in
    let here : file_of new.files number ≡ wrote.file = file_here old.files new.files number wrote.file wrote.within wrote.files in
    record {
      comes = λ image may.
          let from = left_less (file_of old.files number) wrote.file last torn wrote.synced wrote.written (image number)
          (subst (λ (file : FileState). MayLeave file (image number)) here (may number)) in (
            with_file image number from.0,
            λ other. elim (cases_eq other number) [
              | inl same ↦ subst (λ (n : ℕ). MayLeave (file_of old.files n) (with_file image number from.0 n)) (sym same)
                  (subst (λ (bytes : List ℕ). MayLeave (file_of old.files number) bytes) (sym (with_file_here image number from.0)) from.1)
              | inr apart ↦ subst (λ (bytes : List ℕ). MayLeave (file_of old.files other) bytes) (sym (with_file_other image number from.0 other apart))
                  (subst (λ (file : FileState). MayLeave file (image other)) (file_other old.files new.files number other wrote.file wrote.files apart) (may other))
            ],
            record {
              here = subst (λ (bytes : List ℕ). Torn at count bytes (image number)) (sym (with_file_here image number from.0)) from.2;
              others = λ other apart. sym (with_file_other image number from.0 other apart);
            },
          );
      goes = λ earlier image may change other. elim (cases_eq other number) [
        | inl same ↦ subst (λ (n : ℕ). MayLeave (file_of new.files n) (image n)) (sym same) (subst (λ (file : FileState). MayLeave file (image number)) (sym here)
            (left_more (file_of old.files number) wrote.file last wrote.as_read wrote.synced wrote.written (earlier number) (image number) (may number) change.here))
        | inr apart ↦ subst (λ (file : FileState). MayLeave file (image other)) (sym (file_other old.files new.files number other wrote.file wrote.files apart))
            (subst (λ (bytes : List ℕ). MayLeave (file_of old.files other) bytes) (sym (change.others other apart)) (may other))
      ];
    }

-- ---- syncs

-- a sync changes no file as a read gives it
pub settled_seen : (files after : List FileState) (number : ℕ) → number < length files → after ≡ slice_set files number (durable (seen_of files number)) →
    seen_of after ≡ seen_of files
settled_seen files after number within is =
    let each : (other : ℕ) → seen_of after other ≡ seen_of files other = λ other. elim (cases_eq other number) [
      | inl same ↦ subst (λ (n : ℕ). seen_of after n ≡ seen_of files n) (sym same) (ap (λ f. f.now) (file_here files after number (durable (seen_of files number)) within is))
      | inr apart ↦ ap (λ f. f.now) (file_other files after number other (durable (seen_of files number)) is apart)
    ] in
    λ i other. each other i

-- a file with nothing pending is left as a read gives it
pub only_durable : (bytes image : List ℕ) → MayLeave (durable bytes) image → image ≡ bytes
only_durable bytes image (inl seen) = seen
only_durable bytes image (inr since) = only_synced bytes image since

-- the images after a sync
pub settled_images : (first files after : List FileState) (number : ℕ) → files ≡ first → number < length files →
    after ≡ slice_set files number (durable (seen_of files number)) → (seen : Files) → Some (seen_of first) ≡ Some seen → Settles number (seen number) (MayLeaveAll first)
    (MayLeaveAll after)
settled_images first files after number same_files within is seen told =
    let same : seen ≡ seen_of first = cc in
    let bytes : seen number ≡ seen_of files number = ap (λ (fs : Files). fs number) same ∙ ap (λ xs. seen_of xs number) (sym same_files) in
    let durable_is = file_here files after number (durable (seen_of files number)) within is in
    let other_is : (other : ℕ) → other ≢ number → file_of after other ≡ file_of first other = λ other apart. file_other files after number other
    (durable (seen_of files number)) is apart ∙ ap (λ xs. file_of xs other) same_files in
    let lasts : (image : Files) → MayLeaveAll after image → image number ≡ seen number = λ image may. only_durable (seen_of files number) (image number)
    (subst (λ (file : FileState). MayLeave file (image number)) durable_is (may number)) ∙ sym bytes in
    record {
      durable = lasts;
      was = λ image may other. elim (cases_eq other number) [
        | inl same_number ↦ inl (subst (λ (n : ℕ). image n ≡ seen_of first n) (sym same_number) (lasts image may ∙ ap (λ (fs : Files). fs number) same))
        | inr apart ↦ subst (λ (file : FileState). MayLeave file (image other)) (other_is other apart) (may other)
      ];
      stays = λ image may settled other. elim (cases_eq other number) [
        | inl same_number ↦ inl (subst (λ (n : ℕ). image n ≡ seen_of after n) (sym same_number) (settled ∙ (bytes ∙ ap (λ f. f.now) (sym durable_is))))
        | inr apart ↦ subst (λ (file : FileState). MayLeave file (image other)) (sym (other_is other apart)) (may other)
      ];
    }

-- a write into one file, by the file that an index finds
pub rewrites : (disk : Disk) (number at count : ℕ) (step : List ℕ → List ℕ → Type 0) (found new : FileState) → number < length disk.files
    → IsTornSince (slice_index_or disk.files number found).synced (slice_index_or disk.files number found).written (slice_index_or disk.files number found).now
    → new.synced ≡ (slice_index_or disk.files number found).synced
    → new.written ≡ (slice_index_or disk.files number found).written ++ record { at = at; count = count } ∷ []
    → step (slice_index_or disk.files number found).now new.now
    → Rewrites number at count step disk (record disk { files = slice_set disk.files number new })
rewrites disk number at count step found new within as_read synced written here =
    let is : slice_index_or disk.files number found ≡ file_of disk.files number = get_or_default disk.files number found untouched within in
    record {
      within = within;
      file = new;
      files = refl;
      rest = refl;
      here = subst (λ (file : FileState). step file.now new.now) is here;
      as_read = subst (λ (file : FileState). IsTornSince file.synced file.written file.now) is as_read;
      synced = synced ∙ ap (λ f. f.synced) is;
      written = written ∙ ap (λ f. f.written ++ record { at = at; count = count } ∷ []) is;
    }

-- ---- a call of `write_at`

-- a call was counted and its moment kept
pub record Begun (before begun : Disk) : Type 0 where
  pub files : begun.files ≡ before.files
  pub past : begun.past ≡ before.past ++ before.files ∷ []

-- whatever a call answers
pub either_way : {T E P Q C : Type 0} (result : Result T E) → OnOk result P → OnErr result Q → (P → C) → (Q → C) → C
either_way (Ok _) ok err from_ok from_err = from_ok ok
either_way (Err _) ok err from_ok from_err = from_err err

-- the same with a weaker step
pub rewrites_weaker : (number at count : ℕ) (step weaker : List ℕ → List ℕ → Type 0) (old new : Disk) → ((before after : List ℕ) → step before after → weaker before after) →
    Rewrites number at count step old new → Rewrites number at count weaker old new
rewrites_weaker number at count step weaker old new follows wrote = record {
  within = wrote.within;
  file = wrote.file;
  files = wrote.files;
  rest = wrote.rest;
  here = follows _ _ wrote.here;
  as_read = wrote.as_read;
  synced = wrote.synced;
  written = wrote.written;
}

-- a part of a write, or nothing of it, is what a failed one leaves
pub part_written : {T E : Type 0} (result : Result T E) (old new : Disk) (number at landing : ℕ) (bytes : List ℕ) → landing ≤ length bytes →
    OnOk result (Rewrites number at (length bytes) (Holds at (take landing bytes)) old new) →
    OnErr result (Rewrites number at (length bytes) (λ before after. after ≡ before) old new) → Rewrites number at (length bytes) (LeftByFailure at (length bytes)) old new
part_written result old new number at landing bytes part ok err =
    either_way result ok err
    (rewrites_weaker number at (length bytes) (Holds at (take landing bytes)) (LeftByFailure at (length bytes)) old new
    (λ before after held. left_by_part at landing bytes before after part held))
    (nothing_written old new number at bytes)
  where
    nothing_written : (old new : Disk) (number at : ℕ) (bytes : List ℕ) → Rewrites number at (length bytes) (λ before after. after ≡ before) old new →
        Rewrites number at (length bytes) (LeftByFailure at (length bytes)) old new
    nothing_written old new number at bytes = rewrites_weaker number at (length bytes) (λ before after. after ≡ before) (LeftByFailure at (length bytes)) old new
        (λ before after same. subst (λ (file : List ℕ). LeftByFailure at (length bytes) before file) (sym same) (left_same at (length bytes) before))

-- the files as a read gives them, after the call
pub write_turns : (first begun wrote after : Disk) (number at count : ℕ) (step : List ℕ → List ℕ → Type 0) → Begun first begun → Rewrites number at count step begun wrote →
    after.files ≡ wrote.files → Turns (Changes step number) (Some (seen_of first.files)) (Some (seen_of after.files))
write_turns first begun wrote after number at count step call rewrote same =
    turns first.files after.files (Changes step number)
    (subst (λ (files : List FileState). Changes step number (seen_of files) (seen_of after.files)) call.files
    (subst (λ (files : List FileState). Changes step number (seen_of begun.files) (seen_of files)) (sym same)
    (changed begun.files wrote.files number rewrote.file step rewrote.within rewrote.files rewrote.here)))

-- the images
pub write_images : (first begun wrote after : Disk) (number at count : ℕ) (step : List ℕ → List ℕ → Type 0) → ((old new : List ℕ) → step old new → Torn at count old new) →
    Begun first begun → Rewrites number at count step begun wrote → after.files ≡ wrote.files → Follow (Changes (Torn at count) number) (MayLeaveAll first.files)
    (MayLeaveAll after.files)
write_images first begun wrote after number at count step tears call rewrote same =
    subst (λ (files : List FileState). Follow (Changes (Torn at count) number) (MayLeaveAll files) (MayLeaveAll after.files)) call.files
    (subst (λ (files : List FileState). Follow (Changes (Torn at count) number) (MayLeaveAll begun.files) (MayLeaveAll files)) (sym same)
    (follow begun wrote number at count step tears rewrote))

-- the clock
pub write_time : (first begun wrote after : Disk) (number at count : ℕ) (step : List ℕ → List ℕ → Type 0) → Begun first begun → Rewrites number at count step begun wrote →
    after.past ≡ wrote.past → Elapses (length first.past) (length after.past) (LeftSince first) (LeftSince after) (MayLeaveAll after.files)
write_time first begun wrote after number at count step call rewrote same =
    elapses first after (same ∙ (ap (λ disk. disk.past) rewrote.rest ∙ call.past))

-- what reads have handed out
pub write_handed : (first begun wrote after : Disk) (number at count : ℕ) (step : List ℕ → List ℕ → Type 0) → begun.handed ≡ first.handed
    → Rewrites number at count step begun wrote → after.handed ≡ wrote.handed → handed_of after.handed ≡ handed_of first.handed
write_handed first begun wrote after number at count step call rewrote same = ap handed_of (same ∙ (ap (λ disk. disk.handed) rewrote.rest ∙ call))
