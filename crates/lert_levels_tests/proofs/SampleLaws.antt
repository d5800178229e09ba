-- What the tests' flushes begin with: positions up to 32.
use Rattle.std.proofs.Common.{ℕ, zero, suc, [], ◌∷◌, get_or, lit≤, ◌<◌, ◌≢◌, ◌≡◌, ◌+◌, ◌-◌, ◌*◌, ◌≤◌, List, map, replicate, refl, ap, sym, ◌∙◌}
use Rattle.std.proofs.Common.{subst, arith}
use Rattle.lert_spec.specs.declared.numbers.Numbers.{Numbers}
use Rattle.lert_spec.specs.Edges.{span}
use Rattle.lert_spec.specs.Limits.{IsValid}
use Rattle.lert_spec.proofs.LimitLaws.{IsValid-from_unbroken}
use Rattle.std.specs.List.{AllPairs}
use Rattle.std.proofs.lemmas.List.Elements.{All-cons, All-nil}
use Rattle.std.proofs.lemmas.List.Kept.{AllPairs-cons}
use Rattle.lert_levels.proofs.rows.PlacedLaws.{directory_of_frames}
use Rattle.lert_levels.specs.declared.rows.bin_at.BinAt.{BinAt}
use Rattle.lert_levels.specs.rows.Ranges.{ranges}
use Rattle.lert_levels.specs.rows.Named.{AreFramesAt, IsDirectory}
use Rattle.lert_levels.specs.rows.Rows.{IsAt, range_of, row_of}
use Rattle.lert_levels.specs.OnDisk.{OnDisk}
use Rattle.lert_levels_tests.specs.Samples.{small, IsFilledTo, IsReady}
use Rattle.lert_levels.specs.rows.Young.{Young}

-- no bin moves between two flush positions
same_ranges : (k level : ℕ) → k ≤ 5 → 1 ≤ level → level ≤ 2 → ranges small (12 + 4 * k) level ≡ ranges small (15 + 4 * k) level
same_ranges k zero few first last = absurd (omega arith)
same_ranges zero (suc zero) few first last = refl
same_ranges (suc zero) (suc zero) few first last = refl
same_ranges (suc (suc zero)) (suc zero) few first last = refl
same_ranges (suc (suc (suc zero))) (suc zero) few first last = refl
same_ranges (suc (suc (suc (suc zero)))) (suc zero) few first last = refl
same_ranges (suc (suc (suc (suc (suc zero))))) (suc zero) few first last = refl
same_ranges (suc (suc (suc (suc (suc (suc k)))))) (suc zero) few first last = absurd (omega arith)
same_ranges zero (suc (suc zero)) few first last = refl
same_ranges (suc zero) (suc (suc zero)) few first last = refl
same_ranges (suc (suc zero)) (suc (suc zero)) few first last = refl
same_ranges (suc (suc (suc zero))) (suc (suc zero)) few first last = refl
same_ranges (suc (suc (suc (suc zero)))) (suc (suc zero)) few first last = refl
same_ranges (suc (suc (suc (suc (suc zero))))) (suc (suc zero)) few first last = refl
same_ranges (suc (suc (suc (suc (suc (suc k)))))) (suc (suc zero)) few first last = absurd (omega arith)
same_ranges k (suc (suc (suc level))) few first last = absurd (omega arith)

at_next : (k : ℕ) (rows : List (List BinAt)) → k ≤ 5 → IsAt small (12 + 4 * k) rows → IsAt small (15 + 4 * k) rows
at_next k rows few at = record { levels = at.levels; each = λ level first last. at.each level first last ∙ same_ranges k level few first last }

-- after a flush, without the oldest bin of level 0 and with four events more
pub ready_next : (k : ℕ) (young : Young) (disk after : OnDisk) (new : Young) → IsReady (12 + 4 * k) young disk → k ≤ 5 → after.settings ≡ disk.settings → after.version ≡ disk.version →
    IsAt after.settings (12 + 4 * k) after.rows →
    new.settings ≡ small → new.from ≡ young.from + span young.settings 0 → new.to ≡ 16 + 4 * k → IsReady (16 + 4 * k) new after
ready_next k young disk after new ready few settings version at new_settings from to =
    let now = settings ∙ ready.disk_settings in
    let before : 16 + 4 * k - 1 ≡ 15 + 4 * k = omega arith in
    record {
      filled = record {
        settings = new_settings;
        from = (let wide = ap (λ (s : Numbers). span s 0) ready.filled.settings in let four : span small 0 ≡ 4 = refl in omega (arith, ready.filled.from));
        to = to;
      };
      disk_settings = now;
      disk_version = version ∙ ready.disk_version;
      at = subst (λ n. IsAt small n after.rows) (sym before) (at_next k after.rows few (subst (λ (s : Numbers). IsAt s (12 + 4 * k) after.rows) now at));
    }

-- no bin is on disk before the first one
none_at : (level : ℕ) → 1 ≤ level → level ≤ 2 → map range_of (row_of (replicate 2 []) level) ≡ ranges small 11 level
none_at zero first last = absurd (omega arith)
none_at (suc zero) first last = refl
none_at (suc (suc zero)) first last = refl
none_at (suc (suc (suc level))) first last = absurd (omega arith)

abbrev pub fresh_disk : Numbers → OnDisk
fresh_disk s = record { settings = s; version = 2; rows = replicate s.levels [] }

pub ready_first : (young : Young) (disk : OnDisk) → IsFilledTo 12 young → disk ≡ fresh_disk young.settings → IsReady 12 young disk
ready_first young disk filled empty =
    let is : disk ≡ fresh_disk small = empty ∙ ap fresh_disk filled.settings in
    record {
      filled = filled;
      disk_settings = ap (λ (d : OnDisk). d.settings) is;
      disk_version = ap (λ (d : OnDisk). d.version) is;
      at = subst (λ (d : OnDisk). IsAt small 11 d.rows) (sym is) (record { levels = refl; each = none_at });
    }

-- ---- the directory after 32 events

valid : IsValid small
valid = IsValid-from_unbroken small refl

no_pairs : AllPairs {X = ℕ} (λ one other. one ≢ other) []
no_pairs i j d before below = absurd (omega arith)

abbrev frames_32 : List (List ℕ)
frames_32 = (2 ∷ 3 ∷ []) ∷ (0 ∷ []) ∷ []

are_frames : (k : ℕ) → k < 2 → AreFramesAt small 32 (k + 1) (get_or frames_32 k [])
are_frames zero below = record {
  counted = refl;
  known = All-cons (λ frame. frame ≤ 3) 2 (3 ∷ []) (lit≤ tt) (All-cons (λ frame. frame ≤ 3) 3 [] (lit≤ tt) (All-nil (λ frame. frame ≤ 3)));
  distinct = AllPairs-cons (λ one other. one ≢ other) 2 (3 ∷ []) (All-cons (λ other. 2 ≢ other) 3 [] (λ same. omega arith) (All-nil (λ other. 2 ≢ other)))
      (AllPairs-cons (λ one other. one ≢ other) 3 [] (All-nil (λ other. 3 ≢ other)) no_pairs);
}
are_frames (suc zero) below = record {
  counted = refl;
  known = All-cons (λ frame. frame ≤ 3) 0 [] (lit≤ tt) (All-nil (λ frame. frame ≤ 3));
  distinct = AllPairs-cons (λ one other. one ≢ other) 0 [] (All-nil (λ other. 0 ≢ other)) no_pairs;
}
are_frames (suc (suc k)) below = absurd (omega arith)

pub directory_32 : IsDirectory small 32 (2 ∷ 2 ∷ 3 ∷ 1 ∷ 0 ∷ [])
directory_32 = directory_of_frames small valid 32 (lit≤ tt) frames_32 refl are_frames
