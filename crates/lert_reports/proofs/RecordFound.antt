-- A payload that keeps the format is the payload of a record that keeps the rules.
use Rattle.std.proofs.Common.{◌≡◌, ◌≢◌, ℕ, zero, suc, ◌+◌, ◌*◌, ◌<◌, ◌≤◌, ◌^◌, ◌==◌, ◌&&◌, not, max, Bool, nat_lt, true, nat_le, None, Some, List, []}
use Rattle.std.proofs.Common.{◌∷◌, ◌++◌, length, map, take, drop, get_or, refl, sym, ap, ap₂, ◌∙◌, subst, arith, append_assoc, append-nil}
use Rattle.std.specs.Prelude.{flat_map, slice_index, slice_index_or, Result, Ok, Err, MatchResult, IfOk}
use Rattle.std.specs.List.{range_with_len, list_any}
use Rattle.std.proofs.lemmas.Bool.{and_parts, leb-true, ltb-true, eqb-true, eq-eqb, not-true, both_ways}
use Rattle.std.proofs.lemmas.List.{take-append-drop, drop-drop, drop_more, drop_all, get_or-take, get_or-drop, get_or_default, length-take-le, length-drop}
use Rattle.std.proofs.lemmas.List.Elements.{All-cons}
use Rattle.std.proofs.lemmas.List.Kept.{AllPairs-cons}
use Rattle.std.proofs.lemmas.List.Folds.{list_any_at}
use Rattle.std.proofs.lemmas.List.FromFn.{get_or-map-range_with_len, length-map-range_with_len}
use Rattle.byteorder.specs.Endian.{little_bytes}
use Rattle.byteorder.specs.Numbers.{little_from-lt}
use Rattle.lert_spec.specs.declared.numbers.Numbers.{Numbers}
use Rattle.lert_spec.specs.declared.report.Report.{Report}
use Rattle.lert_spec.specs.Edges.{key_limit, edge, capacity}
use Rattle.lert_spec.specs.Limits.{lies}
use Rattle.lert_spec.specs.Mix.{cone_of}
use Rattle.lert_spec.proofs.ByteLaws.{bytes_back}
use Rattle.lert_reports.specs.declared.log.LogBefore.{LogBefore}
use Rattle.lert_reports.specs.declared.log.LogKind.{LogKind}
use Rattle.lert_reports.specs.declared.log.LogParts.{LogParts}
use Rattle.lert_reports.specs.LogText.{kind_number, directory_bytes, report_bytes, log_payload_of, log_left, left_at, number_in, n0_in, next_flush, keeps_n0, bin_count, frames_in, report_in}
use Rattle.lert_reports.specs.LogText.{level_place, reports_place, report_place, reports_in, at_before, kind_field, n0_field, offset_field, first_field, head_fields, bins_field, frame_field}
use Rattle.lert_reports.specs.LogText.{frame_fields, level_fields, directory_fields, count_field, key_field, at_field, report_fields, all_report_fields, end_field, ArePartsOf}
use Rattle.lert_reports.specs.LogRules.{IsInTurn, AreFrames, AreNew, KeepsRules, record_in}
use Rattle.lert_reports.proofs.DirectoryLaws.{level_place-next, frames_within, at_before-next}
use Rattle.lert_reports.proofs.FieldLaws.{parted, first_kept, keeps_rule, each_none}

-- ---- bytes that were read, laid again

-- some bytes from a place on, and behind them the rest
pieced : (payload : List ℕ) (place n next : ℕ) → place + n ≡ next → take n (drop place payload) ++ drop next payload ≡ drop place payload
pieced payload place n next next_is =
    ap (λ at. take n (drop place payload) ++ drop at payload) (sym next_is)
    ∙ (ap (λ rest. take n (drop place payload) ++ rest) (sym (drop-drop n place payload))
    ∙ take-append-drop n (drop place payload))

module _ (payload : List ℕ) (small : (k : ℕ) → slice_index payload k < 256) where
  small_behind : (place k : ℕ) → slice_index (drop place payload) k < 256
  small_behind place k = subst (λ byte. byte < 256) (sym (get_or-drop place payload k 0)) (small (place + k))

  -- the bytes of the number at a place are those that stand there
  number_laid : (size place next : ℕ) → place + size ≡ next → next ≤ length payload → little_bytes size (number_in size payload place) ++ drop next payload ≡ drop place payload
  number_laid size place next next_is long =
      ap (λ bytes. bytes ++ drop next payload)
      (bytes_back 0 size (drop place payload)
      (small_behind place)
      (omega (arith, next_is, long, length-drop place payload)))
      ∙ pieced payload place size next next_is

  number_fits : (place : ℕ) → number_in 8 payload place < 2 ^ 64
  number_fits place = little_from-lt 0 8 (drop place payload) (small_behind place)

  byte_laid : (place byte : ℕ) → place < length payload → slice_index payload place ≡ byte → byte ∷ drop (place + 1) payload ≡ drop place payload
  byte_laid place byte there is = ap (λ b. b ∷ drop (place + 1) payload) (sym is) ∙ sym (drop_more payload place 0 there)

  -- ---- the directory

  directory_laid : (s : Numbers) (n level : ℕ) → 1 ≤ level →
      ((k : ℕ) → level ≤ k → k < level + n → (level_place s (n0_in payload) k + 1 + bin_count s k (n0_in payload) ≤ length payload)
      × (slice_index payload (level_place s (n0_in payload) k) ≡ bin_count s k (n0_in payload))) →
      directory_bytes (map (frames_in s payload) (range_with_len level n)) ++ drop (level_place s (n0_in payload) (level + n)) payload ≡ drop (level_place s (n0_in payload) level) payload
  directory_laid s zero level some each = ap (λ k. drop (level_place s (n0_in payload) k) payload) (let same : level + 0 ≡ level = omega arith in same)
  directory_laid s (suc n) level some each =
      let n0 = n0_in payload in
      let place = level_place s n0 level in
      let bins = bin_count s level n0 in
      let frames = frames_in s payload level in
      let others = directory_bytes (map (frames_in s payload) (range_with_len (level + 1) n)) in
      let here = each level (omega arith) (omega arith) in
      let last : level + suc n ≡ level + 1 + n = omega arith in
      let rest : others ++ drop (level_place s n0 (level + suc n)) payload ≡ drop (level_place s n0 (level + 1)) payload =
      ap (λ k. others ++ drop (level_place s n0 k) payload) last ∙ directory_laid s n (level + 1) (omega arith) (λ k low high. each k (omega (arith, low)) (omega (arith, high))) in
      let counted : length frames ≡ bins = length-take-le bins (drop (place + 1) payload) (omega (arith, here.0, length-drop (place + 1) payload)) in
      append_assoc (length frames ∷ frames) others (drop (level_place s n0 (level + suc n)) payload)
      ∙ (ap (λ more. length frames ∷ (frames ++ more)) rest
      ∙ (ap (λ more. length frames ∷ more) (pieced payload (place + 1) bins (level_place s n0 (level + 1)) (omega (arith, level_place-next s n0 level some)))
      ∙ byte_laid place (length frames) (omega (arith, here.0)) (here.1 ∙ sym counted)))

  -- ---- the reports

  reports_laid : (start n k : ℕ) → start + 16 * (k + n) ≤ length payload →
      flat_map report_bytes (map (λ j. report_in payload (start + 16 * j)) (range_with_len k n)) ++ drop (start + 16 * (k + n)) payload ≡ drop (start + 16 * k) payload
  reports_laid start zero k long = ap (λ j. drop (start + 16 * j) payload) (let same : k + 0 ≡ k = omega arith in same)
  reports_laid start (suc n) k long =
      let place = start + 16 * k in
      let report = report_in payload place in
      let others = flat_map report_bytes (map (λ j. report_in payload (start + 16 * j)) (range_with_len (k + 1) n)) in
      let last : k + suc n ≡ k + 1 + n = omega arith in
      let rest : others ++ drop (start + 16 * (k + suc n)) payload ≡ drop (start + 16 * (k + 1)) payload =
      ap (λ j. others ++ drop (start + 16 * j) payload) last ∙ reports_laid start n (k + 1) (omega (arith, long)) in
      append_assoc (report_bytes report) others (drop (start + 16 * (k + suc n)) payload)
      ∙ (ap (λ more. report_bytes report ++ more) rest
      ∙ (append_assoc (little_bytes 8 report.key) (little_bytes 8 report.at) (drop (start + 16 * (k + 1)) payload)
      ∙ (ap (λ more. little_bytes 8 report.key ++ more) (number_laid 8 (place + 8) (start + 16 * (k + 1)) (omega arith) (omega (arith, long)))
      ∙ number_laid 8 place (place + 8) refl (omega (arith, long)))))

-- ---- the rules, from the fields

in_turn_back : (s : Numbers) (before : LogBefore) (kind : LogKind) (n0 : ℕ) → keeps_n0 s before (kind_number kind) n0 ≡ true → IsInTurn s before kind n0
in_turn_back s before LogKind.Flush n0 keeps = eqb-true n0 (next_flush s before.flushes) (and_parts (nat_le n0 (capacity s)) (n0 == next_flush s before.flushes) keeps).1
in_turn_back s before LogKind.Closing n0 keeps =
    let turn = and_parts (nat_le before.n0 n0) (nat_lt n0 (next_flush s before.flushes))
    (and_parts (nat_le n0 (capacity s)) (nat_le before.n0 n0 && nat_lt n0 (next_flush s before.flushes)) keeps).1 in
    (leb-true before.n0 n0 turn.0, ltb-true n0 (next_flush s before.flushes) turn.1)

within_limits : (least most n : ℕ) → lies least most n ≡ true → (least ≤ n) × (n ≤ most)
within_limits least most n lies_there =
    let parts = and_parts (nat_le least n) (nat_le n most) lies_there in
    (leb-true least n parts.0, leb-true n most parts.1)

-- the frames of a level, of which no field is broken
module _ (s : Numbers) (payload : List ℕ) (level : ℕ) (none : left_at payload (level_fields s payload level) ≡ None)
    (long : level_place s (n0_in payload) level + 1 + bin_count s level (n0_in payload) ≤ length payload) where
  abbrev start : ℕ
  start = level_place s (n0_in payload) level + 1

  abbrev bins : ℕ
  bins = bin_count s level (n0_in payload)

  frames_none : left_at payload (frame_fields s payload start bins) ≡ None
  frames_none = (first_kept payload (bins_field payload (level_place s (n0_in payload) level) bins) (frame_fields s payload start bins) none).1

  pub bins_there : slice_index payload (level_place s (n0_in payload) level) ≡ bins
  bins_there =
      let field = bins_field payload (level_place s (n0_in payload) level) bins in
      eqb-true (slice_index payload (level_place s (n0_in payload) level)) bins (keeps_rule payload field (first_kept payload field (frame_fields s payload start bins) none).0)

  frame_is : (k : ℕ) (other : ℕ) → k < bins → get_or (take bins (drop start payload)) k other ≡ slice_index payload (start + k)
  frame_is k other below =
      get_or-take bins (drop start payload) k other below
      ∙ (get_or_default (drop start payload) k other 0 (omega (arith, below, long, length-drop start payload))
      ∙ get_or-drop start payload k 0)

  frame_keeps : (k : ℕ) → k < bins → (frame_field s payload start k).keeps ≡ true
  frame_keeps k below =
      keeps_rule payload (frame_field s payload start k)
      (first_kept payload (frame_field s payload start k) [] (each_none payload (λ j. frame_field s payload start j ∷ []) bins 0 frames_none k (omega arith) (omega (arith, below)))).0

  rules_of : (k : ℕ) → k < bins → (nat_le (slice_index payload (start + k)) s.bins ≡ true)
      × (not (list_any (λ other. other == slice_index payload (start + k)) (take k (drop start payload))) ≡ true)
  rules_of k below = and_parts (nat_le (slice_index payload (start + k)) s.bins) (not (list_any (λ other. other == slice_index payload (start + k)) (take k (drop start payload))))
      (frame_keeps k below)

  -- one that stood before is refused
  not_before : (j k : ℕ) → j < k → k < bins → slice_index payload (start + j) ≢ slice_index payload (start + k)
  not_before j k less below same =
      let earlier = take k (drop start payload) in
      let test : ℕ → Bool = λ other. other == slice_index payload (start + k) in
      let there : get_or earlier j 0 ≡ slice_index payload (start + j) = get_or-take k (drop start payload) j 0 less ∙ get_or-drop start payload j 0 in
      let long_enough : j < length earlier = omega (arith, less, length-take-le k (drop start payload) (omega (arith, below, long, length-drop start payload))) in
      both_ways (list_any test earlier) (not-true (list_any test earlier) (rules_of k below).1)
      (list_any_at test earlier j 0 long_enough (eq-eqb (get_or earlier j 0) (slice_index payload (start + k)) (there ∙ same)))

  pub frames_are : AreFrames s level (n0_in payload) (frames_in s payload level)
  frames_are =
      let counted : length (take bins (drop start payload)) ≡ bins = length-take-le bins (drop start payload) (omega (arith, long, length-drop start payload)) in
      record {
        counted = counted;
        known = λ k other below.
            let among : k < bins = omega (arith, below, counted) in
            omega (arith, frame_is k other among, leb-true (slice_index payload (start + k)) s.bins (rules_of k among).0);
        distinct = λ j k other less below same.
            let among : k < bins = omega (arith, below, counted) in
            not_before j k less among (sym (frame_is j other (omega (arith, less, among))) ∙ (same ∙ frame_is k other among));
      }

-- a report before others that are new behind it
new_before : (s : Numbers) (cone n0 : ℕ) (report : Report) (reports : List Report) (earlier : ℕ) → report.key < key_limit s → cone_of s report.key ≡ cone → 1 ≤ report.at →
    earlier ≤ report.at → report.at ≤ n0 →
    AreNew s cone report.at n0 reports → AreNew s cone earlier n0 (report ∷ reports)
new_before s cone n0 report reports earlier fits of_cone some later within are = record {
  fit = All-cons (λ r. r.key < key_limit s) report reports fits are.fit;
  of_cone = All-cons (λ r. cone_of s r.key ≡ cone) report reports of_cone are.of_cone;
  placed = All-cons (λ r. (1 ≤ r.at) × (earlier ≤ r.at) × (r.at ≤ n0)) report reports (some, later, within)
      (λ k other below. let there = are.placed k other below in (there.0, omega (arith, later, there.1), there.2));
  ascending = AllPairs-cons (λ one other. one.at ≤ other.at) report reports (λ k other below. (are.placed k other below).1) are.ascending;
}

-- reports of which no field is broken
module _ (s : Numbers) (cone : ℕ) (before : LogBefore) (payload : List ℕ) (small : (k : ℕ) → slice_index payload k < 256) (start : ℕ)
    (start_is : start ≡ reports_place s (n0_in payload) + 4) where
  abbrev report_of : ℕ → Report
  report_of k = report_in payload (start + 16 * k)

  abbrev reports_from : ℕ → ℕ → List Report
  reports_from k n = map report_of (range_with_len k n)

  -- before the next report stands this one's position
  earlier_is : (k : ℕ) → (report_of k).at ≡ at_before s before payload (k + 1)
  earlier_is k = ap (λ place. number_in 8 payload (place + 16 * k + 8)) start_is ∙ at_before-next s before payload k

  report_keeps : (k : ℕ) → left_at payload (report_fields s cone before payload k) ≡ None →
      (cone_of s (report_of k).key ≡ cone) × (1 ≤ (report_of k).at) × (at_before s before payload k ≤ (report_of k).at) × ((report_of k).at ≤ n0_in payload)
  report_keeps k none =
      let place = report_place s payload k in
      let earlier = at_before s before payload k in
      let place_is : place ≡ start + 16 * k = ap (λ at. at + 16 * k) (sym start_is) in
      let key = first_kept payload (key_field s cone payload place) (at_field payload place earlier ∷ []) none in
      let at = first_kept payload (at_field payload place earlier) [] key.1 in
      let there = within_limits (max 1 earlier) (n0_in payload) (number_in 8 payload (place + 8)) (keeps_rule payload (at_field payload place earlier) at.0) in
      let at_is : number_in 8 payload (place + 8) ≡ (report_of k).at = ap (λ p. number_in 8 payload (p + 8)) place_is in (
        ap (λ p. cone_of s (number_in 8 payload p)) (sym place_is) ∙ eqb-true (cone_of s (number_in 8 payload place)) cone (keeps_rule payload (key_field s cone payload place) key.0),
        omega (arith, there.0, at_is),
        omega (arith, there.0, at_is),
        omega (arith, there.1, at_is),
      )

  pub reports_are_new : (n k : ℕ) → ((j : ℕ) → k ≤ j → j < k + n → left_at payload (report_fields s cone before payload j) ≡ None) →
      AreNew s cone (at_before s before payload k) (n0_in payload) (reports_from k n)
  reports_are_new zero k each = record {
    fit = λ j other below. absurd (omega (arith, below));
    of_cone = λ j other below. absurd (omega (arith, below));
    placed = λ j other below. absurd (omega (arith, below));
    ascending = λ i j other less below. absurd (omega (arith, below));
  }
  reports_are_new (suc n) k each =
      let here = report_keeps k (each k (omega arith) (omega arith)) in
      let rest = reports_are_new n (k + 1) (λ j low high. each j (omega (arith, low)) (omega (arith, high))) in
      let next = earlier_is k in
      new_before s cone (n0_in payload) (report_of k) (reports_from (k + 1) n) (at_before s before payload k) (number_fits payload small (start + 16 * k)) here.0 here.1 here.2 here.3
      (subst (λ earlier. AreNew s cone earlier (n0_in payload) (reports_from (k + 1) n)) (sym next) rest)

-- ---- the whole payload

module _ (s : Numbers) (cone : ℕ) (before : LogBefore) (payload : List ℕ) (parts : LogParts) (small : (k : ℕ) → slice_index payload k < 256)
    (none : log_left s cone before payload ≡ None) (are : ArePartsOf s payload parts) where
  abbrev n0 : ℕ
  n0 = n0_in payload

  -- no field of the five parts is broken
  in_four : left_at payload (head_fields s before payload ++ directory_fields s payload ++ (count_field s before payload ∷ []) ++ all_report_fields s cone before payload) ≡ None
  in_four = (parted payload (head_fields s before payload ++ directory_fields s payload ++ (count_field s before payload ∷ []) ++ all_report_fields s cone before payload)
      (end_field s payload ∷ []) none).0

  in_three : (left_at payload (head_fields s before payload ++ directory_fields s payload ++ (count_field s before payload ∷ [])) ≡ None)
      × (left_at payload (all_report_fields s cone before payload) ≡ None)
  in_three = parted payload (head_fields s before payload ++ directory_fields s payload ++ (count_field s before payload ∷ [])) (all_report_fields s cone before payload) in_four

  in_two : (left_at payload (head_fields s before payload ++ directory_fields s payload) ≡ None) × (left_at payload (count_field s before payload ∷ []) ≡ None)
  in_two = parted payload (head_fields s before payload ++ directory_fields s payload) (count_field s before payload ∷ []) in_three.0

  in_one : (left_at payload (head_fields s before payload) ≡ None) × (left_at payload (directory_fields s payload) ≡ None)
  in_one = parted payload (head_fields s before payload) (directory_fields s payload) in_two.0

  -- the rules of the first four fields
  n0_keeps : keeps_n0 s before (slice_index payload 0) n0 ≡ true
  n0_keeps =
      let rest = (first_kept payload (kind_field payload) (n0_field s before payload ∷ offset_field payload ∷ first_field s payload ∷ []) in_one.0).1 in
      keeps_rule payload (n0_field s before payload) (first_kept payload (n0_field s before payload) (offset_field payload ∷ first_field s payload ∷ []) rest).0

  last_two : left_at payload (offset_field payload ∷ first_field s payload ∷ []) ≡ None
  last_two =
      let rest = (first_kept payload (kind_field payload) (n0_field s before payload ∷ offset_field payload ∷ first_field s payload ∷ []) in_one.0).1 in
      (first_kept payload (n0_field s before payload) (offset_field payload ∷ first_field s payload ∷ []) rest).1

  offset_keeps : (32 ≤ number_in 8 payload 9) × (number_in 8 payload 9 ≤ 2 ^ 46)
  offset_keeps = within_limits 32 (2 ^ 46) (number_in 8 payload 9) (keeps_rule payload (offset_field payload) (first_kept payload (offset_field payload) (first_field s payload ∷ []) last_two).0)

  first_keeps : (1 ≤ number_in 8 payload 17) × (number_in 8 payload 17 ≤ edge s 0 n0 + 1)
  first_keeps =
      let alone = (first_kept payload (offset_field payload) (first_field s payload ∷ []) last_two).1 in
      within_limits 1 (edge s 0 n0 + 1) (number_in 8 payload 17) (keeps_rule payload (first_field s payload) (first_kept payload (first_field s payload) [] alone).0)

  -- those of a level
  level_none : (level : ℕ) → 1 ≤ level → level < 1 + s.levels → left_at payload (level_fields s payload level) ≡ None
  level_none level some last = each_none payload (level_fields s payload) s.levels 1 in_one.1 level some last

  level_long : (level : ℕ) → 1 ≤ level → level < 1 + s.levels → level_place s n0 level + 1 + bin_count s level n0 ≤ length payload
  level_long level some last =
      subst (λ n. level_place s n level + 1 + bin_count s level n ≤ length payload) are.n0_is (frames_within s payload parts level are some (omega (arith, last)))

  level_frames : (k : ℕ) → k < s.levels → AreFrames s (k + 1) n0 (slice_index_or (map (frames_in s payload) (range_with_len 1 s.levels)) k [])
  level_frames k below =
      let frames_is : slice_index_or (map (frames_in s payload) (range_with_len 1 s.levels)) k [] ≡ frames_in s payload (k + 1) =
      get_or-map-range_with_len (frames_in s payload) 1 s.levels k (k + 1) [] below (omega arith) in
      subst (λ frames. AreFrames s (k + 1) n0 frames) (sym frames_is)
      (frames_are s payload (k + 1) (level_none (k + 1) (omega arith) (omega (arith, below))) (level_long (k + 1) (omega arith) (omega (arith, below))))

  -- and those of the reports
  start_is : parts.reports_at ≡ reports_place s n0 + 4
  start_is = are.place_is

  report_none : (k : ℕ) → 0 ≤ k → k < 0 + parts.reports → left_at payload (report_fields s cone before payload k) ≡ None
  report_none k some below = each_none payload (report_fields s cone before payload) (reports_in s payload) 0 in_three.1 k some (omega (arith, below, are.reports_are))

  room_keeps : before.reports + reports_in s payload ≤ s.room
  room_keeps = leb-true (before.reports + reports_in s payload) s.room (keeps_rule payload (count_field s before payload) (first_kept payload (count_field s before payload) [] in_two.1).0)

  reports_count : length (record_in s payload parts).reports ≡ parts.reports
  reports_count = length-map-range_with_len (λ k. report_in payload (parts.reports_at + 16 * k)) 0 parts.reports

  pub keeps_rules : KeepsRules s cone before (record_in s payload parts)
  keeps_rules = record {
    within = are.within;
    in_turn = in_turn_back s before parts.kind parts.n0 (ap₂ (keeps_n0 s before) are.kind_is are.n0_is ∙ n0_keeps);
    offset_from = omega (arith, offset_keeps.0, are.offset_is);
    offset_to = omega (arith, offset_keeps.1, are.offset_is);
    first_from = omega (arith, first_keeps.0, are.first_is);
    first_to = omega (arith, first_keeps.1, are.first_is, ap (edge s 0) are.n0_is);
    levels = length-map-range_with_len (frames_in s payload) 1 s.levels;
    frames = λ k below. subst (λ n. AreFrames s (k + 1) n (slice_index_or (map (frames_in s payload) (range_with_len 1 s.levels)) k [])) (sym are.n0_is) (level_frames k below);
    room = omega (arith, room_keeps, are.reports_are, reports_count);
    reports = subst (λ n. AreNew s cone before.at n (record_in s payload parts).reports) (sym are.n0_is)
        (reports_are_new s cone before payload small parts.reports_at start_is parts.reports 0 report_none);
  }

  -- its bytes, from the last to the first
  reports_text : flat_map report_bytes (record_in s payload parts).reports ≡ drop (reports_place s n0 + 4) payload
  reports_text =
      let reports = flat_map report_bytes (record_in s payload parts).reports in
      let nothing : drop (parts.reports_at + 16 * (0 + parts.reports)) payload ≡ [] = drop_all (parts.reports_at + 16 * (0 + parts.reports)) payload (omega (arith, are.ends)) in
      sym (append-nil reports)
      ∙ (ap (λ rest. reports ++ rest) (sym nothing)
      ∙ (reports_laid payload small parts.reports_at parts.reports 0 (omega (arith, are.ends))
      ∙ ap (λ place. drop place payload) (let same : parts.reports_at + 16 * 0 ≡ reports_place s n0 + 4 = omega (arith, start_is) in same)))

  count_text : little_bytes 4 (length (record_in s payload parts).reports) ++ flat_map report_bytes (record_in s payload parts).reports ≡ drop (reports_place s n0) payload
  count_text =
      ap₂ (λ n rest. little_bytes 4 n ++ rest) (reports_count ∙ are.reports_are) reports_text
      ∙ number_laid payload small 4 (reports_place s n0) (reports_place s n0 + 4) refl (omega (arith, start_is, are.ends))

  directory_text : directory_bytes (record_in s payload parts).directory ++ drop (reports_place s n0) payload ≡ drop 25 payload
  directory_text =
      ap (λ level. directory_bytes (record_in s payload parts).directory ++ drop (level_place s n0 level) payload) (let same : s.levels + 1 ≡ 1 + s.levels = omega arith in same)
      ∙ directory_laid payload small s s.levels 1 (omega arith)
      (λ level some last. (level_long level some last, bins_there s payload level (level_none level some last) (level_long level some last)))

  long : 25 ≤ length payload
  long = omega (arith, start_is, are.ends)

  pub text : payload ≡ log_payload_of (record_in s payload parts)
  text =
      let written = record_in s payload parts in
      let directory = directory_bytes written.directory in
      let count = little_bytes 4 (length written.reports) in
      let reports = flat_map report_bytes written.reports in
      let rest_is : directory ++ (count ++ reports) ≡ drop 25 payload = ap (λ rest. directory ++ rest) count_text ∙ directory_text in
      let first_on : little_bytes 8 parts.first ++ (directory ++ (count ++ reports)) ≡ drop 17 payload =
      ap₂ (λ n rest. little_bytes 8 n ++ rest) are.first_is rest_is ∙ number_laid payload small 8 17 25 refl long in
      let offset_on : little_bytes 8 parts.offset ++ (little_bytes 8 parts.first ++ (directory ++ (count ++ reports))) ≡ drop 9 payload =
      ap₂ (λ n rest. little_bytes 8 n ++ rest) are.offset_is first_on ∙ number_laid payload small 8 9 17 refl (omega (arith, long)) in
      let n0_on : little_bytes 8 parts.n0 ++ (little_bytes 8 parts.offset ++ (little_bytes 8 parts.first ++ (directory ++ (count ++ reports)))) ≡ drop 1 payload =
      ap₂ (λ n rest. little_bytes 8 n ++ rest) are.n0_is offset_on ∙ number_laid payload small 8 1 9 refl (omega (arith, long)) in
      let whole : kind_number parts.kind ∷ (little_bytes 8 parts.n0 ++ (little_bytes 8 parts.offset ++ (little_bytes 8 parts.first ++ (directory ++ (count ++ reports))))) ≡ payload =
      ap (λ rest. kind_number parts.kind ∷ rest) n0_on ∙ byte_laid payload small 0 (kind_number parts.kind) (omega (arith, long)) (sym are.kind_is) in
      sym whole
      ∙ ap (λ rest. kind_number parts.kind ∷ (little_bytes 8 parts.n0 ++ (little_bytes 8 parts.offset ++ (little_bytes 8 parts.first ++ rest)))) (sym (append_assoc directory count reports))

-- what is read, whatever tells where a payload leaves the format
pub found : (s : Numbers) (cone : ℕ) (before : LogBefore) (payload : List ℕ) (result : Result LogParts ℕ) → ((k : ℕ) → slice_index payload k < 256) →
    MatchResult result (λ parts. (log_left s cone before payload ≡ None) × ArePartsOf s payload parts) (λ place. log_left s cone before payload ≡ Some place) →
    IfOk result (λ parts. KeepsRules s cone before (record_in s payload parts) × (payload ≡ log_payload_of (record_in s payload parts)))
found s cone before payload (Ok parts) small read = (keeps_rules s cone before payload parts small read.0 read.1, text s cone before payload parts small read.0 read.1)
found s cone before payload (Err place) small left = tt
