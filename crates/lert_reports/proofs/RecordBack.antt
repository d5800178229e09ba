-- The payload of a record that keeps the rules leaves the format nowhere, and its parts say what was written.
use Rattle.std.proofs.Common.{◌≡◌, ◌≢◌, ℕ, zero, suc, ◌+◌, ◌-◌, ◌*◌, ◌<◌, ◌≤◌, ◌^◌, ◌==◌, ◌&&◌, not, max, false, nat_le, None, List, [], ◌∷◌}
use Rattle.std.proofs.Common.{◌++◌, length, take, drop, get_or, refl, sym, ap, ap₂, ◌∙◌, subst, arith, length-append, append_assoc}
use Rattle.std.specs.Prelude.{flat_map, slice_index, slice_index_or, All}
use Rattle.std.specs.List.{range_with_len, list_any, AllPairs}
use Rattle.std.proofs.lemmas.Bool.{le-leb, eq-eqb, ne_eqb}
use Rattle.std.proofs.lemmas.List.{take-append-le, get_or-take, get_or_default, length-take-le}
use Rattle.std.proofs.Math.Seq.{take-length}
use Rattle.std.proofs.lemmas.List.Folds.{list_any_none}
use Rattle.std.proofs.lemmas.List.Prefix.{at_reads}
use Rattle.byteorder.specs.Endian.{little_bytes}
use Rattle.lert_spec.specs.declared.numbers.Numbers.{Numbers}
use Rattle.lert_spec.specs.declared.report.Report.{Report}
use Rattle.lert_spec.specs.Mix.{cone_of}
use Rattle.lert_reports.specs.declared.log.LogBefore.{LogBefore}
use Rattle.lert_reports.specs.LogText.{left_at, is_broken, bin_count, directory_bytes, report_bytes, number_in, n0_in, level_place, level_fields, bins_field, frame_field, frame_fields, frames_in}
use Rattle.lert_reports.specs.LogText.{report_in, report_place, report_fields, at_before, key_field, at_field}
use Rattle.lert_reports.specs.LogRules.{AreFrames, AreNew}
use Rattle.lert_reports.proofs.DirectoryLaws.{level_fields_are, level_place-next, at_before-next}
use Rattle.lert_reports.proofs.FieldLaws.{good, kept, none_left, goes_on, none_of}
use Rattle.lert_reports.proofs.PlaceLaws.{Stands, stands_behind, byte_there, number_there}

-- ---- the frames of one level

-- a frame that stands nowhere before is none of those
new_frame : (frames : List ℕ) (k : ℕ) → k < length frames → AllPairs (λ one other. one ≢ other) frames → list_any (λ other. other == slice_index frames k) (take k frames) ≡ false
new_frame frames k below distinct =
    list_any_none (λ other. other == slice_index frames k) (take k frames)
    (λ j d among.
    let earlier : j < k = omega (arith, among, length-take-le k frames (omega (arith, below))) in
    let there : get_or (take k frames) j d ≡ get_or frames j 0 = get_or-take k frames j d earlier ∙ get_or_default frames j d 0 (omega (arith, earlier, below)) in
    ne_eqb (get_or (take k frames) j d) (get_or frames k 0) (λ same. distinct j k 0 earlier below (sym there ∙ same)))

frame_good : (s : Numbers) (payload frames more : List ℕ) (place k : ℕ) → Stands payload place (frames ++ more) → All (λ frame. frame ≤ s.bins) frames →
    AllPairs (λ one other. one ≢ other) frames → k < length frames →
    is_broken payload (frame_field s payload place k) ≡ false
frame_good s payload frames more place k stands known distinct below =
    let frame_is : slice_index payload (place + k) ≡ slice_index frames k = at_reads 0 payload frames place more stands.is k below in
    let taken : take k (drop place payload) ≡ take k frames = ap (take k) stands.is ∙ take-append-le k frames more (omega (arith, below)) in
    good payload (frame_field s payload place k)
    (omega (arith, stands.within, length-append frames more, below))
    (ap₂ (λ (frame : ℕ) (earlier : List ℕ). nat_le frame s.bins && not (list_any (λ other. other == frame) earlier)) frame_is taken
    ∙ ap₂ (λ one other. one && not other) (le-leb (slice_index frames k) s.bins (known k 0 below)) (new_frame frames k below distinct))

level_good : (s : Numbers) (payload frames more : List ℕ) (level n0 : ℕ) → n0 ≡ n0_in payload → AreFrames s level n0 frames →
    Stands payload (level_place s n0 level) (length frames ∷ (frames ++ more)) →
    left_at payload (level_fields s payload level) ≡ None
level_good s payload frames more level n0 n0_is are stands =
    let place = level_place s n0 level in
    let behind : Stands payload (place + 1) (frames ++ more) = stands_behind payload (length frames ∷ []) (frames ++ more) place (place + 1) (omega arith) stands in
    let fields = level_fields_are s payload level n0 place (length frames) n0_is refl are.counted in
    ap (left_at payload) fields
    ∙ kept payload (bins_field payload place (length frames)) (frame_fields s payload (place + 1) (length frames)) None
    (good payload (bins_field payload place (length frames)) (omega (arith, stands.within))
    (eq-eqb (slice_index payload place) (length frames) (byte_there payload (frames ++ more) place (length frames) stands)))
    (none_of payload (λ k. frame_field s payload (place + 1) k ∷ []) (length frames) 0
    (λ k low high. kept payload (frame_field s payload (place + 1) k) [] None
    (frame_good s payload frames more (place + 1) k behind are.known are.distinct (omega (arith, high)))
    (none_left payload)))

-- ---- the levels from one on, and where they end

module _ (s : Numbers) (payload behind : List ℕ) (n0 : ℕ) where
  next_level : (frames : List ℕ) (directory : List (List ℕ)) (level : ℕ) → 1 ≤ level → length frames ≡ bin_count s level n0 →
      Stands payload (level_place s n0 level) (length frames ∷ (frames ++ (directory_bytes directory ++ behind))) →
      Stands payload (level_place s n0 (level + 1)) (directory_bytes directory ++ behind)
  next_level frames directory level some counted stands =
      stands_behind payload (length frames ∷ frames) (directory_bytes directory ++ behind) (level_place s n0 level) (level_place s n0 (level + 1))
      (omega (arith, counted, level_place-next s n0 level some)) stands

  parted : (frames : List ℕ) (directory : List (List ℕ)) (level : ℕ) → Stands payload (level_place s n0 level) (directory_bytes (frames ∷ directory) ++ behind) →
      Stands payload (level_place s n0 level) (length frames ∷ (frames ++ (directory_bytes directory ++ behind)))
  parted frames directory level stands = subst (λ rest. Stands payload (level_place s n0 level) (length frames ∷ rest)) (append_assoc frames (directory_bytes directory) behind) stands

  -- each level has as many frames as bins
  abbrev pub AreCounted : ℕ → List (List ℕ) → Type 0
  AreCounted level directory = (k : ℕ) → k < length directory → length (slice_index_or directory k []) ≡ bin_count s (level + k) n0

  first_counted : (frames : List ℕ) (directory : List (List ℕ)) (level : ℕ) → AreCounted level (frames ∷ directory) → length frames ≡ bin_count s level n0
  first_counted frames directory level each = each 0 (omega arith) ∙ ap (λ k. bin_count s k n0) (let same : level + 0 ≡ level = omega arith in same)

  others_counted : (frames : List ℕ) (directory : List (List ℕ)) (level : ℕ) → AreCounted level (frames ∷ directory) → AreCounted (level + 1) directory
  others_counted frames directory level each k below = each (suc k) (omega (arith, below)) ∙ ap (λ j. bin_count s j n0) (let same : level + suc k ≡ level + 1 + k = omega arith in same)

  pub level_stands : (directory : List (List ℕ)) (level : ℕ) → 1 ≤ level → AreCounted level directory →
      Stands payload (level_place s n0 level) (directory_bytes directory ++ behind) → (k : ℕ) → k < length directory →
      (more : List ℕ) × Stands payload (level_place s n0 (level + k)) (length (slice_index_or directory k []) ∷ (slice_index_or directory k [] ++ more))
  level_stands [] level some each stands k below = absurd (omega (arith, below))
  level_stands (frames ∷ directory) level some each stands zero below = (
    directory_bytes directory ++ behind,
    subst (λ n. Stands payload (level_place s n0 n) (length frames ∷ (frames ++ (directory_bytes directory ++ behind)))) (let same : level ≡ level + 0 = omega arith in same)
        (parted frames directory level stands),
  )
  level_stands (frames ∷ directory) level some each stands (suc k) below =
      let next = next_level frames directory level some (first_counted frames directory level each) (parted frames directory level stands) in
      let found = level_stands directory (level + 1) (omega arith) (others_counted frames directory level each) next k (omega (arith, below)) in (
        found.0,
        subst (λ n. Stands payload (level_place s n0 n) (length (slice_index_or directory k []) ∷ (slice_index_or directory k [] ++ found.0)))
            (let same : level + 1 + k ≡ level + suc k = omega arith in same) found.1,
      )

  pub directory_ends : (directory : List (List ℕ)) (level : ℕ) → 1 ≤ level → AreCounted level directory →
      Stands payload (level_place s n0 level) (directory_bytes directory ++ behind) →
      Stands payload (level_place s n0 (level + length directory)) behind
  directory_ends [] level some each stands = subst (λ k. Stands payload (level_place s n0 k) behind) (let same : level ≡ level + 0 = omega arith in same) stands
  directory_ends (frames ∷ directory) level some each stands =
      let next = next_level frames directory level some (first_counted frames directory level each) (parted frames directory level stands) in
      subst (λ k. Stands payload (level_place s n0 k) behind) (let same : level + 1 + length directory ≡ level + suc (length directory) = omega arith in same)
      (directory_ends directory (level + 1) (omega arith) (others_counted frames directory level each) next)

  -- a directory from level 1 on
  module _ (directory : List (List ℕ)) (are : (k : ℕ) → k < length directory → AreFrames s (k + 1) n0 (slice_index_or directory k []))
      (stands : Stands payload 25 (directory_bytes directory ++ behind)) where
    counted : AreCounted 1 directory
    counted k below = (are k below).counted ∙ ap (λ j. bin_count s j n0) (let same : k + 1 ≡ 1 + k = omega arith in same)

    pub ends : Stands payload (level_place s n0 (1 + length directory)) behind
    ends = directory_ends directory 1 (omega arith) counted stands

    pub level_there : (k : ℕ) → k < length directory → (more : List ℕ) × Stands payload (level_place s n0 (k + 1))
        (length (slice_index_or directory k []) ∷ (slice_index_or directory k [] ++ more))
    level_there k below =
        let found = level_stands directory 1 (omega arith) counted stands k below in (
          found.0,
          subst (λ n. Stands payload (level_place s n0 n) (length (slice_index_or directory k []) ∷ (slice_index_or directory k [] ++ found.0)))
              (let same : 1 + k ≡ k + 1 = omega arith in same) found.1,
        )

    pub levels_good : n0 ≡ n0_in payload → left_at payload (flat_map (level_fields s payload) (range_with_len 1 (length directory))) ≡ None
    levels_good n0_is =
        none_of payload (level_fields s payload) (length directory) 1
        (λ level low high.
        let k = level - 1 in
        let below : k < length directory = omega (arith, low, high) in
        let found = level_there k below in
        subst (λ n. left_at payload (level_fields s payload n) ≡ None) (let same : k + 1 ≡ level = omega (arith, low) in same)
        (level_good s payload (slice_index_or directory k []) found.0 (k + 1) n0 n0_is (are k below) found.1))

    -- its frames read back
    pub frames_back : n0 ≡ n0_in payload → (k : ℕ) → k < length directory → frames_in s payload (k + 1) ≡ slice_index_or directory k []
    frames_back n0_is k below =
        let frames = slice_index_or directory k [] in
        let found = level_there k below in
        let behind_count : Stands payload (level_place s n0 (k + 1) + 1) (frames ++ found.0) =
        stands_behind payload (length frames ∷ []) (frames ++ found.0) (level_place s n0 (k + 1)) (level_place s n0 (k + 1) + 1) (omega arith) found.1 in
        ap (λ n. take (bin_count s (k + 1) n) (drop (level_place s n (k + 1) + 1) payload)) (sym n0_is)
        ∙ (ap₂ take (sym (are k below).counted) behind_count.is
        ∙ (take-append-le (length frames) frames found.0 (omega arith) ∙ take-length frames))

-- ---- the reports

-- a report reads back
pub report_back : (payload more : List ℕ) (place : ℕ) (report : Report) → report.key < 2 ^ 64 → report.at < 2 ^ 64 → Stands payload place (report_bytes report ++ more) →
    report_in payload place ≡ report
report_back payload more place report key_fits at_fits stands =
    let key_is = number_there payload (little_bytes 8 report.at ++ more) 8 place report.key key_fits stands in
    let behind : Stands payload (place + 8) (little_bytes 8 report.at ++ more) =
    stands_behind payload (little_bytes 8 report.key) (little_bytes 8 report.at ++ more) place (place + 8) refl stands in
    let at_is = number_there payload more 8 (place + 8) report.at at_fits behind in
    λ i. record { key = key_is i; at = at_is i }

-- the report with a number
pub report_stands : (payload : List ℕ) (reports : List Report) (place k : ℕ) (other : Report) → Stands payload place (flat_map report_bytes reports) → k < length reports →
    (more : List ℕ) × Stands payload (place + 16 * k) (report_bytes (slice_index_or reports k other) ++ more)
report_stands payload [] place k other stands below = absurd (omega (arith, below))
report_stands payload (report ∷ reports) place zero other stands below =
    (flat_map report_bytes reports, subst (λ at. Stands payload at (report_bytes report ++ flat_map report_bytes reports)) (let same : place ≡ place + 16 * 0 = omega arith in same) stands)
report_stands payload (report ∷ reports) place (suc k) other stands below =
    let next : Stands payload (place + 16) (flat_map report_bytes reports) = stands_behind payload (report_bytes report) (flat_map report_bytes reports) place (place + 16) refl stands in
    let found = report_stands payload reports (place + 16) k other next (omega (arith, below)) in
    (found.0, subst (λ at. Stands payload at (report_bytes (slice_index_or reports k other) ++ found.0)) (let same : place + 16 + 16 * k ≡ place + 16 * suc k = omega arith in same) found.1)

report_good : (s : Numbers) (cone earlier n0 : ℕ) (payload more : List ℕ) (place : ℕ) (report : Report) → n0 ≡ n0_in payload → cone_of s report.key ≡ cone → 1 ≤ report.at →
    earlier ≤ report.at → report.at ≤ n0 →
    report_in payload place ≡ report → Stands payload place (report_bytes report ++ more) →
    left_at payload (key_field s cone payload place ∷ at_field payload place earlier ∷ []) ≡ None
report_good s cone earlier n0 payload more place report n0_is of_cone some later within report_is stands =
    let key_is : number_in 8 payload place ≡ report.key = ap (λ (r : Report). r.key) report_is in
    let at_is : number_in 8 payload (place + 8) ≡ report.at = ap (λ (r : Report). r.at) report_is in
    kept payload (key_field s cone payload place) (at_field payload place earlier ∷ []) None
    (good payload (key_field s cone payload place) (omega (arith, stands.within)) (eq-eqb (cone_of s (number_in 8 payload place)) cone (ap (cone_of s) key_is ∙ of_cone)))
    (kept payload (at_field payload place earlier) [] None
    (good payload (at_field payload place earlier) (omega (arith, stands.within))
    (ap₂ (λ one other. one && other)
    (le-leb (max 1 earlier) (number_in 8 payload (place + 8)) (omega (arith, at_is, some, later)))
    (le-leb (number_in 8 payload (place + 8)) (n0_in payload) (omega (arith, at_is, n0_is, within)))))
    (none_left payload))

-- those behind the first
others_new : (s : Numbers) (cone earlier n0 : ℕ) (report : Report) (reports : List Report) → AreNew s cone earlier n0 (report ∷ reports) → AreNew s cone report.at n0 reports
others_new s cone earlier n0 report reports are = record {
  fit = λ k d below. are.fit (suc k) d (omega (arith, below));
  of_cone = λ k d below. are.of_cone (suc k) d (omega (arith, below));
  placed = λ k d below. (
    (are.placed (suc k) d (omega (arith, below))).0,
    are.ascending 0 (suc k) d (omega arith) (omega (arith, below)),
    (are.placed (suc k) d (omega (arith, below))).2,
  );
  ascending = λ j k d less below. are.ascending (suc j) (suc k) d (omega (arith, less)) (omega (arith, below));
}

pub reports_good : (s : Numbers) (cone : ℕ) (before : LogBefore) (payload : List ℕ) (n0 : ℕ) → n0 ≡ n0_in payload → n0 < 2 ^ 64 → (reports : List Report) (k : ℕ) →
    AreNew s cone (at_before s before payload k) n0 reports → Stands payload (report_place s payload k) (flat_map report_bytes reports) →
    left_at payload (flat_map (report_fields s cone before payload) (range_with_len k (length reports))) ≡ None
reports_good s cone before payload n0 n0_is fits [] k are stands = none_left payload
reports_good s cone before payload n0 n0_is fits (report ∷ reports) k are stands =
    let place = report_place s payload k in
    let placed = are.placed 0 report (omega arith) in
    let report_is = report_back payload (flat_map report_bytes reports) place report (are.fit 0 report (omega arith)) (omega (arith, placed.2, fits)) stands in
    let here = report_good s cone (at_before s before payload k) n0 payload (flat_map report_bytes reports) place report n0_is (are.of_cone 0 report (omega arith)) placed.0 placed.1 placed.2
    report_is stands in
    let next : Stands payload (report_place s payload (k + 1)) (flat_map report_bytes reports) =
    stands_behind payload (report_bytes report) (flat_map report_bytes reports) place (report_place s payload (k + 1)) (omega arith) stands in
    let at_is : report.at ≡ at_before s before payload (k + 1) = sym (ap (λ (r : Report). r.at) report_is) ∙ at_before-next s before payload k in
    goes_on payload (report_fields s cone before payload k) (flat_map (report_fields s cone before payload) (range_with_len (k + 1) (length reports))) None
    here
    (reports_good s cone before payload n0 n0_is fits reports (k + 1)
    (subst (λ earlier. AreNew s cone earlier n0 reports) at_is (others_new s cone (at_before s before payload k) n0 report reports are)) next)
