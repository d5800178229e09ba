-- What is left of a bay in memory by a crash, file by file.
use Rattle.std.proofs.{Common.{◌≡◌, ◌≢◌, ℕ, ◌+◌, ◌<◌, ◌≤◌, List, [], length, slice_set, slice_index_or, refl, sym, ap, ◌∙◌, subst, inl, inr, arith, length-set}, lemmas.Bool.{cases_lt, cases_eq}}
use Rattle.std.proofs.lemmas.List.{get_or_past, get_or_default, get_or-set_same, get_or-set_other}
use Rattle.lert_bay.specs.{Files.Files, Since.IsTornSince, Memory.{FileState, untouched, durable, file_of, seen_of, MayLeave, MayLeaveAll}}
use Rattle.lert_bay.proofs.Steps.{only_durable}

-- what a crash makes of a file by a pick: an image, with nothing pending, by pick 0 the bytes of the last sync and by pick 1
-- those that a read gives
pub record IsLeft (pick : ℕ) (old new : FileState) : Type 0 where
  pub lost : pick ≡ 0 → new.now ≡ old.synced
  pub as_read : pick ≡ 1 → new.now ≡ old.now
  pub torn : IsTornSince old.synced old.written new.now
  pub at_rest : new ≡ durable new.now

-- the first files are left by the crash, the others as they were
pub record LeftBelow (pick index : ℕ) (old new : List FileState) : Type 0 where
  pub long : length new ≡ length old
  pub left : (number : ℕ) → number < index → IsLeft pick (file_of old number) (file_of new number)
  pub rest : (number : ℕ) → index ≤ number → file_of new number ≡ file_of old number

pub left_none : (pick : ℕ) (files : List FileState) → LeftBelow pick 0 files files
left_none pick files = record { long = refl; left = λ number none. absurd (omega (arith, none)); rest = λ number from. refl }

pub left_one : (pick index : ℕ) (old new : List FileState) (found file : FileState) → LeftBelow pick index old new → index < length new
    → (pick ≡ 0 → file.now ≡ (slice_index_or new index found).synced) → (pick ≡ 1 → file.now ≡ (slice_index_or new index found).now)
    → IsTornSince (slice_index_or new index found).synced (slice_index_or new index found).written file.now → file ≡ durable file.now
    → LeftBelow pick (index + 1) old (slice_set new index file)
left_one pick index old new found file below within lost as_read torn at_rest =
    let was : slice_index_or new index found ≡ file_of old index = get_or_default new index found untouched within ∙ below.rest index (omega arith) in
    let here : file_of (slice_set new index file) index ≡ file = get_or-set_same new index file untouched within in
    let other : (number : ℕ) → number ≢ index → file_of (slice_set new index file) number ≡ file_of new number = λ number apart. get_or-set_other new index number file untouched
    apart in
    let one : IsLeft pick (file_of old index) file = record {
      lost = λ picked. lost picked ∙ ap (λ f. f.synced) was;
      as_read = λ picked. as_read picked ∙ ap (λ f. f.now) was;
      torn = subst (λ (f : FileState). IsTornSince f.synced f.written file.now) was torn;
      at_rest = at_rest;
    } in
    record {
      long = length-set new index file ∙ below.long;
      left = λ number under. elim (cases_eq number index) [
        | inl same ↦ subst (λ (n : ℕ). IsLeft pick (file_of old n) (file_of (slice_set new index file) n)) (sym same)
            (subst (λ (f : FileState). IsLeft pick (file_of old index) f) (sym here) one)
        | inr apart ↦ subst (λ (f : FileState). IsLeft pick (file_of old number) f) (sym (other number apart)) (below.left number (below_index number under apart))
      ];
      rest = λ number from. other number (λ same. absurd (omega (arith, same, from))) ∙ below.rest number (omega (arith, from));
    }
  where
    below_index : (number : ℕ) → number < index + 1 → number ≢ index → number < index
    below_index number under apart = omega (arith, under, apart)

-- past its files a bay has nothing
untouched_past : (files : List FileState) (number : ℕ) → length files ≤ number → file_of files number ≡ untouched
untouched_past files number past = get_or_past files number untouched past

-- all files together are an image
pub left_all : (pick : ℕ) (old new : List FileState) → LeftBelow pick (length old) old new → MayLeaveAll old (seen_of new)
left_all pick old new all number = elim (cases_lt number (length old)) [
  | inl within ↦ inr (all.left number within).torn
  | inr past ↦ inl (ap (λ f. f.now) (all.rest number past))
]

-- and the only one of what is left
pub left_only : (pick : ℕ) (old new : List FileState) → LeftBelow pick (length old) old new → (image : Files) → MayLeaveAll new image → image ≡ seen_of new
left_only pick old new all image may =
    let each : (number : ℕ) → image number ≡ seen_of new number = λ number. elim (cases_lt number (length old)) [
      | inl within ↦ only_durable (file_of new number).now (image number) (subst (λ (f : FileState). MayLeave f (image number)) (all.left number within).at_rest (may number))
      | inr past ↦
          let none : file_of new number ≡ untouched = all.rest number past ∙ untouched_past old number past in
          only_durable [] (image number) (subst (λ (f : FileState). MayLeave f (image number)) none (may number)) ∙ ap (λ f. f.now) (sym none)
    ] in
    λ i number. each number i

-- by pick 0 each file has the bytes of its last sync
pub left_lost : (pick : ℕ) (old new : List FileState) → LeftBelow pick (length old) old new → pick ≡ 0 → (number : ℕ) → seen_of new number ≡ (file_of old number).synced
left_lost pick old new all picked number = elim (cases_lt number (length old)) [
  | inl within ↦ (all.left number within).lost picked
  | inr past ↦
      let none : file_of old number ≡ untouched = untouched_past old number past in
      ap (λ f. f.now) (all.rest number past) ∙ (ap (λ f. f.now) none ∙ ap (λ f. f.synced) (sym none))
]

-- by pick 1 those that a read gives
pub left_as_read : (pick : ℕ) (old new : List FileState) → LeftBelow pick (length old) old new → pick ≡ 1 → (number : ℕ) → seen_of new number ≡ seen_of old number
left_as_read pick old new all picked number = elim (cases_lt number (length old)) [
  | inl within ↦ (all.left number within).as_read picked
  | inr past ↦ ap (λ f. f.now) (all.rest number past)
]
