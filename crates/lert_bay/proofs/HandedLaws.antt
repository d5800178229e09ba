-- How many bytes calls in turn hand out of a file.
use Rattle.std.proofs.{Common.{◌≡◌, ℕ, ◌+◌, ◌<◌, ◌≤◌, ◌∙◌, min, List, length, slice_set, Option, Result, Ok, Err, ap, subst, arith}, lemmas.List.{get_or-set_same, get_or-set_other}}
use Rattle.std.specs.Prelude.{IfOk}
use Rattle.lert_bay.specs.{Files.Files, Handed.{HandsOut, ReadsUpTo}, Memory.handed_of}

-- ---- a bay in memory

-- a read is counted for its file
pub hands_counted : {E : Type 0} (file count : ℕ) (told : Option Files) (first before after : List ℕ) → before ≡ first → file < length before →
    after ≡ slice_set before file (min (handed_of before file + count) 18446744073709551615) → handed_of before file ≤ handed_of after file →
    HandsOut {E = E} file told (handed_of first) (handed_of after) (Ok count)
hands_counted {E = E} file count told first before after begun within is never_falls =
    let here : handed_of after file ≡ min (handed_of before file + count) 18446744073709551615 =
    ap (λ (counts : List ℕ). handed_of counts file) is ∙ get_or-set_same before file (min (handed_of before file + count) 18446744073709551615) 0 within in
    subst (λ (counts : List ℕ). HandsOut {E = E} file told (handed_of counts) (handed_of after) (Ok count)) begun
    (record {
      others = λ other apart. ap (λ (counts : List ℕ). handed_of counts other) is
          ∙ get_or-set_other before file other (min (handed_of before file + count) 18446744073709551615) 0 apart;
      never_falls = never_falls;
      most = omega (arith, here);
      exactly = λ seen known. here;
      failed = tt;
    })

-- ---- any bay

-- no call that hands out any
pub up_to_same : (file most : ℕ) (before after : ℕ → ℕ) → after ≡ before → ReadsUpTo file most before after
up_to_same file most before after same =
    let here : after file ≡ before file = ap (λ (told : ℕ → ℕ). told file) same in
    record {
      others = λ other apart. ap (λ (told : ℕ → ℕ). told other) same;
      never_falls = omega (arith, here);
      at_most = omega (arith, here);
    }

-- a call of `read_at` hands out no more than the room that it reads into
pub up_to_room : {E : Type 0} (file most : ℕ) (told : Option Files) (before after : ℕ → ℕ) (result : Result ℕ E) → HandsOut file told before after result →
    IfOk result (λ count. count ≤ most) → ReadsUpTo file most before after
up_to_room file most told before after (Ok count) handed within = record {
  others = handed.others;
  never_falls = handed.never_falls;
  at_most = omega (arith, handed.most, within);
}
up_to_room file most told before after (Err failed) handed within = up_to_same file most before after handed.failed

-- calls behind others
pub up_to_on : (file first second most : ℕ) (before between after : ℕ → ℕ) → first + second ≤ most → ReadsUpTo file first before between → ReadsUpTo file second between after →
    ReadsUpTo file most before after
up_to_on file first second most before between after within one two = record {
  others = λ other apart. two.others other apart ∙ one.others other apart;
  never_falls = omega (arith, one.never_falls, two.never_falls);
  at_most = omega (arith, within, one.at_most, two.at_most);
}

-- a greater number
pub up_to_more : (file most more : ℕ) (before after : ℕ → ℕ) → most ≤ more → ReadsUpTo file most before after → ReadsUpTo file more before after
up_to_more file most more before after within one = record { others = one.others; never_falls = one.never_falls; at_most = omega (arith, within, one.at_most) }
