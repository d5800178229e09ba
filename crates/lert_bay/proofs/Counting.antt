-- What a call of a bay in memory keeps from its beginning on: it is counted, and its moment is kept.
use Rattle.std.proofs.{Common.{◌≡◌, ℕ, ◌+◌, ◌<◌, ◌≤◌, List, [], ◌∷◌, ◌++◌, min, length, slice_index_or, Some, Ok, Err, sym, ap, ◌∙◌, subst, arith}, lemmas.List.get_or_default}
use Rattle.lert_io.specs.Fault.{HasCause}
use Rattle.lert_bay.specs.{Files.{Files, CopiesFrom}, Handed.HandsOut, Images.KeepsImages, Memory.{FileState, untouched, seen_of, handed_of, MayLeaveAll, Disk, IsCounted, ticked}}

-- what stands once a call was counted
abbrev pub counted : Disk → ℕ → Disk
counted before faults = record before { past = before.past ++ before.files ∷ []; plan = ticked before.plan; faults = faults }

-- a call that succeeds leaves what was counted as it began
pub counted_ok : {T E : Type 0} (before begun after : Disk) (answer : T) → begun ≡ counted before begun.faults → begun.faults ≡ before.faults → after.plan ≡ begun.plan →
    after.past ≡ begun.past → after.mark ≡ begun.mark → after.faults ≡ begun.faults → IsCounted {T = T} {E = E} before after (Ok answer)
counted_ok before begun after answer begins faultless plan past mark faults = record {
  plan = plan ∙ ap (λ d. d.plan) begins;
  past = past ∙ ap (λ d. d.past) begins;
  mark = mark ∙ ap (λ d. d.mark) begins;
  ok = faults ∙ faultless;
  err = tt;
}

-- one that fails at its beginning
pub counted_err : {T E : Type 0} (before begun : Disk) (failed : E) → begun ≡ counted before begun.faults → begun.faults ≡ min (before.faults + 1) 18446744073709551615 →
    IsCounted {T = T} {E = E} before begun (Err failed)
counted_err before begun failed begins fault = record {
  plan = ap (λ d. d.plan) begins;
  past = ap (λ d. d.past) begins;
  mark = ap (λ d. d.mark) begins;
  ok = tt;
  err = fault;
}

-- no fault is counted where the call succeeds
pub no_cause : {T E : Type 0} (before begun after : ℕ) (answer : T) → begun ≡ before → after ≡ begun → HasCause {T = T} {E = E} before after (Ok answer)
no_cause before begun after answer begins same = record { never_falls = omega (arith, begins, same); failed = λ fails. cc }

-- the images of files that stay
pub same_images : (old new : List FileState) → new ≡ old → KeepsImages (MayLeaveAll old) (MayLeaveAll new)
same_images old new same = subst (λ (files : List FileState). KeepsImages (MayLeaveAll old) (MayLeaveAll files)) (sym same) (λ image. (λ may. may, λ may. may))

-- nothing is handed out
pub hands_none : {E : Type 0} (file : ℕ) (seen : Files) (before after : List ℕ) (failed : E) → after ≡ before →
    HandsOut {E = E} file (Some seen) (handed_of before) (handed_of after) (Err failed)
hands_none file seen before after failed same = record {
  others = λ other apart. ap (λ (counts : List ℕ). handed_of counts other) same;
  never_falls = omega (arith, ap (λ (counts : List ℕ). handed_of counts file) same);
  most = tt;
  exactly = λ told is. tt;
  failed = ap (λ (counts : List ℕ). handed_of counts) same;
}

-- a read copies from the file that it names
pub copies_told : (first files : List FileState) (number at count : ℕ) (into : List ℕ) (found : FileState) → files ≡ first → number < length files →
    CopiesFrom at count into (slice_index_or files number found).now → (seen : Files) → Some (seen_of first) ≡ Some seen → CopiesFrom at count into (seen number)
copies_told first files number at count into found same within copies seen told =
    let is : seen ≡ seen_of first = cc in
    let bytes : (slice_index_or files number found).now ≡ seen number = ap (λ (file : FileState). file.now) (get_or_default files number found untouched within)
    ∙ (ap (λ (fs : List FileState). seen_of fs number) same ∙ ap (λ (fs : Files). fs number) (sym is)) in
    subst (λ (xs : List ℕ). CopiesFrom at count into xs) bytes copies

pub copies_within : (at count : ℕ) (into bytes : List ℕ) → CopiesFrom at count into bytes → count ≤ length into
copies_within at count into bytes copies = omega (arith, copies.count_is)

-- the length that is told is that of the file
pub length_told : (first files : List FileState) (number : ℕ) (bytes : List ℕ) → files ≡ first → bytes ≡ seen_of files number → (seen : Files) → Some (seen_of first) ≡ Some seen →
    length bytes ≡ length (seen number)
length_told first files number bytes same is seen told =
    let all : seen ≡ seen_of first = cc in
    ap length (is ∙ (ap (λ (fs : List FileState). seen_of fs number) same ∙ ap (λ (fs : Files). fs number) (sym all)))
