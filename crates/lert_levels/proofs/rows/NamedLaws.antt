-- What a directory names: where the bins of a level lie, and that the frames and the positions say which rows they are.
use Rattle.std.proofs.Common.{ℕ, ◌≡◌, ◌+◌, ◌-◌, ◌*◌, ◌/◌, ◌^◌, ◌<◌, ◌≤◌, zero, suc, cond, List, [], ◌∷◌, ◌++◌, length, map, get_or, take, drop, max, refl, ap, ap₂, sym, ◌∙◌, arith, inl, inr, add-mul}
use Rattle.std.proofs.{Common.{add-suc, le_trans, subst, set, slice_index, slice_range, append-nil, length-append}, lemmas.Bool.{cases_lt, lt-ltb, le-ltb}}
use Rattle.std.proofs.{Math.Seq.{drop-cons, drop-append-add, get_or-append_seam}, lemmas.Grind.flat_map-append}
use Rattle.std.proofs.{lemmas.List.{append_cancel_left, length-map, take_at, take_more, take-append-drop, get_or-set_same, get_or-set_other, get_or_default}, lemmas.Nat.mul-le}
use Rattle.std.proofs.Math.Nat.{mul-le-mul_right, suc-mul, mul_comm, mul-div-le, div-add-mod, mod-lt}
use Rattle.std.specs.List.{range_with_len}
use Rattle.lert_spec.specs.{declared.numbers.Numbers.Numbers, Edges.{span, edge, capacity}, Limits.IsValid}
use Rattle.lert_spec.proofs.LimitLaws.{capacity_to, span_within}
use Rattle.lert_levels.specs.{declared.rows.bin_at.BinAt.BinAt, rows.Named.AreNamed, rows.Ranges.{Range, range_at, ranges}, rows.Rows.{range_of, IsAt, directory_text}}
use Rattle.lert_levels.proofs.{rows.DirectoryLaws.row_text, rows.RangeLaws.{range_cuts, edge_within}}

-- ---- the intervals that hold a level's positions follow one another

-- none from an interval on that begins behind the positions
cuts_end : (wide low high first n : ℕ) → high ≤ max low (first * wide) → range_cuts wide low high first n ≡ []
cuts_end wide low high first zero past = refl
cuts_end wide low high first (suc n) past =
    let range = range_at wide low high first in
    let rest = range_cuts wide low high (first + 1) n in
    let step : (first + 1) * wide ≡ first * wide + wide = grind arith in
    ap (λ t. cond {A = List Range} t (range ∷ rest) rest) (le-ltb range.from range.to (omega arith))
    ∙ cuts_end wide low high (first + 1) n (omega arith)

-- the first of them is that in which the lower edge lies
cuts_run : (wide low high first n : ℕ) → 1 ≤ wide →
    range_cuts wide low high first n ≡ map (range_at wide low high) (range_with_len (max first (low / wide)) (length (range_cuts wide low high first n)))
cuts_run wide low high first zero positive = refl
cuts_run wide low high first (suc n) positive =
    let range = range_at wide low high first in
    let rest = range_cuts wide low high (first + 1) n in
    let q = low / wide in
    let next = suc-mul first wide in
    let parts = div-add-mod low wide in
    let over = mod-lt low {m = wide} positive in
    let turned = mul_comm q wide in
    let later = cuts_run wide low high (first + 1) n positive in
    elim (cases_lt range.from range.to) [
      | inl some ↦ (
          let here : max first q ≡ first = elim (cases_lt first q) [
            | inl early ↦ absurd (omega (arith, mul-le-mul_right wide (let whole : suc first ≤ q = early in whole)))
            | inr late ↦ omega arith
          ] in
          let behind : max (first + 1) q ≡ first + 1 = omega arith in
          subst (λ t. cond {A = List Range} t (range ∷ rest) rest ≡ map (range_at wide low high) (range_with_len (max first q) (length (cond {A = List Range} t (range ∷ rest) rest))))
          (sym (lt-ltb range.from range.to some))
          (ap (λ rs. range ∷ rs) (later ∙ ap (λ j. map (range_at wide low high) (range_with_len j (length rest))) behind)
          ∙ ap (λ j. map (range_at wide low high) (range_with_len j (suc (length rest)))) (sym here)))
      | inr none ↦ (
          subst (λ t. cond {A = List Range} t (range ∷ rest) rest ≡ map (range_at wide low high) (range_with_len (max first q) (length (cond {A = List Range} t (range ∷ rest) rest))))
          (sym (le-ltb range.from range.to none))
          (elim (cases_lt first q) [
            | inl early ↦ later ∙ ap (λ j. map (range_at wide low high) (range_with_len j (length rest))) (let same : max (first + 1) q ≡ max first q = omega arith in same)
            | inr late ↦ (
                let step : (first + 1) * wide ≡ first * wide + wide = grind arith in
                let whole = mul-le-mul_right wide (let below : suc q ≤ suc first = omega arith in below) in
                let further = suc-mul q wide in
                let nothing : rest ≡ [] = cuts_end wide low high (first + 1) n (omega arith) in
                subst (λ (rs : List Range). rs ≡ map (range_at wide low high) (range_with_len (max first q) (length rs))) (sym nothing) refl)
          ]))
    ]

-- the ranges of a level are those of the intervals from the lower edge's on
pub ranges_run : (s : Numbers) (n level : ℕ) → 1 ≤ span s level →
    ranges s n level ≡ map (range_at (span s level) (edge s level n) (edge s (level - 1) n)) (range_with_len (edge s level n / span s level) (length (ranges s n level)))
ranges_run s n level positive =
    let wide = span s level in
    let low = edge s level n in
    let high = edge s (level - 1) n in
    cuts_run wide low high 0 (suc (n / wide)) positive
    ∙ ap (λ j. map (range_at wide low high) (range_with_len j (length (ranges s n level)))) (let same : max 0 (low / wide) ≡ low / wide = omega arith in same)

-- ---- rows with the same positions and the same directory are the same

none_some : (n : ℕ) → 0 ≡ suc n → ⊥
none_some n is = absurd (omega (arith, is))

row_same : (xs ys : List BinAt) → map range_of xs ≡ map range_of ys → map (λ (bin : BinAt). bin.frame) xs ≡ map (λ (bin : BinAt). bin.frame) ys → xs ≡ ys
row_same [] [] ranges_are frames_are = refl
row_same [] (y ∷ ys) ranges_are frames_are = absurd (none_some (length (map range_of ys)) (ap length ranges_are))
row_same (x ∷ xs) [] ranges_are frames_are = absurd (none_some (length (map range_of xs)) (sym (ap length ranges_are)))
row_same (x ∷ xs) (y ∷ ys) ranges_are frames_are =
    let range_is : range_of x ≡ range_of y = ap (λ (rs : List Range). get_or rs 0 (range_of x)) ranges_are in
    let frame_is : x.frame ≡ y.frame = ap (λ (fs : List ℕ). get_or fs 0 0) frames_are in
    let others : map range_of xs ≡ map range_of ys = ap (drop 1) ranges_are in
    let frames : map (λ (bin : BinAt). bin.frame) xs ≡ map (λ (bin : BinAt). bin.frame) ys = ap (drop 1) frames_are in
    let first : x ≡ y = λ i. record { from = (range_is i).from; to = (range_is i).to; frame = frame_is i } in
    ap₂ (λ z zs. z ∷ zs) first (row_same xs ys others frames)

-- two lists whose fronts are as long
split_same : (a b c d : List ℕ) → length a ≡ length c → a ++ b ≡ c ++ d → (a ≡ c) × (b ≡ d)
split_same a b c d len is =
    let front : a ≡ c = sym (take_at a b (length a) refl) ∙ ap (take (length a)) is ∙ take_at c d (length a) (sym len) in
    (front, append_cancel_left c b d (ap (λ xs. xs ++ b) (sym front) ∙ is))

rows_same : (xs ys : List (List BinAt)) → length xs ≡ length ys → ((k : ℕ) → k < length xs → map range_of (get_or xs k []) ≡ map range_of (get_or ys k [])) →
    directory_text xs ≡ directory_text ys → xs ≡ ys
rows_same [] [] len ranges_are text_is = refl
rows_same [] (y ∷ ys) len ranges_are text_is = absurd (omega arith)
rows_same (x ∷ xs) [] len ranges_are text_is = absurd (omega arith)
rows_same (x ∷ xs) (y ∷ ys) len ranges_are text_is =
    let here : map range_of x ≡ map range_of y = ranges_are 0 (omega arith) in
    let long : length (row_text x) ≡ length (row_text y) =
    omega (arith, length-map x range_of, length-map y range_of, ap length here, length-map x (λ (bin : BinAt). bin.frame), length-map y (λ (bin : BinAt). bin.frame)) in
    let parts = split_same (row_text x) (directory_text xs) (row_text y) (directory_text ys) long text_is in
    let frames : map (λ (bin : BinAt). bin.frame) x ≡ map (λ (bin : BinAt). bin.frame) y = ap (drop 1) parts.0 in
    ap₂ (λ z zs. z ∷ zs) (row_same x y here frames)
    (rows_same xs ys (omega arith) (λ k below. ranges_are (suc k) (omega arith)) parts.1)

-- the rows that are at n and have this directory are one list
pub same_rows : (s : Numbers) (n : ℕ) (one other : List (List BinAt)) → IsAt s n one → IsAt s n other → directory_text one ≡ directory_text other → one ≡ other
same_rows s n one other at at_too text_is =
    rows_same one other (at.levels ∙ sym at_too.levels)
    (λ k below.
    let place : k + 1 - 1 ≡ k = omega arith in
    ap (λ j. map range_of (get_or one j [])) (sym place)
    ∙ at.each (k + 1) (omega arith) (omega (arith, at.levels))
    ∙ sym (at_too.each (k + 1) (omega arith) (omega (arith, at.levels)))
    ∙ ap (λ j. map range_of (get_or other j [])) place)
    text_is

pub same_named : (s : Numbers) (n : ℕ) (text : List ℕ) (one other : List (List BinAt)) → AreNamed s n text one → AreNamed s n text other → one ≡ other
same_named s n text one other is is_too = same_rows s n one other is.at is_too.at (is.text_is ∙ sym is_too.text_is)

-- ---- the part of a level in a directory

counted : (at count : ℕ) → at + 1 + count - (at + 1) ≡ count
counted at count = omega arith

stands_within : (at count front row frames behind rest total : ℕ) → at ≡ front → count ≡ row → frames ≡ row → behind ≡ frames + rest → total ≡ front + suc behind →
    at + 1 + count ≤ total
stands_within at count front row frames behind rest total at_is count_is frames_are behind_is total_is = omega arith

ends_behind : (at front row frames total : ℕ) → at ≡ front → frames ≡ row → total ≡ front + suc frames → at + (1 + row) ≡ total
ends_behind at front row frames total at_is frames_are total_is = omega arith

module _ (text : List ℕ) (named : List (List BinAt)) (text_is : directory_text named ≡ text) (i at : ℕ) (below : i < length named) (at_is : at ≡ length (directory_text (take i named)))
  where
    abbrev row : List BinAt
    row = get_or named i []

    abbrev frames : List ℕ
    frames = map (λ bin. bin.frame) row

    abbrev front : List ℕ
    front = directory_text (take i named)

    abbrev rest : List ℕ
    rest = directory_text (drop (suc i) named)

    whole : text ≡ front ++ (row_text row ++ rest)
    whole =
        sym text_is
        ∙ ap directory_text (sym (take-append-drop i named))
        ∙ flat_map-append row_text (take i named) (drop i named)
        ∙ ap (λ rows. front ++ directory_text rows) (drop-cons named i [] below)

    -- it begins with the number of the level's bins
    pub count_there : slice_index text at ≡ length row
    count_there = ap₂ (λ t a. get_or t a 0) whole at_is ∙ get_or-append_seam front (length row) (frames ++ rest) 0

    -- it stands wholly in the text
    pub part_within : at + 1 + slice_index text at ≤ length text
    part_within =
        stands_within at (slice_index text at) (length front) (length row) (length frames) (length (frames ++ rest)) (length rest) (length text) at_is count_there
        (length-map row (λ (bin : BinAt). bin.frame)) (length-append frames rest) (ap length whole ∙ length-append front (row_text row ++ rest))

    -- the frames follow
    pub frames_there : slice_range text (at + 1) (at + 1 + slice_index text at) ≡ frames
    frames_there =
        let count : at + 1 + slice_index text at - (at + 1) ≡ length row = counted at (slice_index text at) ∙ count_there in
        let behind : drop (at + 1) text ≡ frames ++ rest = ap₂ (λ a t. drop (a + 1) t) at_is whole ∙ drop-append-add front (row_text row ++ rest) 1 in
        ap₂ take count behind ∙ take_at frames rest (length row) (length-map row (λ (bin : BinAt). bin.frame))

    -- and behind them the part of the next level
    pub next_place : at + (1 + length row) ≡ length (directory_text (take (i + 1) named))
    next_place =
        let more : directory_text (take (i + 1) named) ≡ front ++ row_text row =
        ap directory_text (take_more named i [] below) ∙ flat_map-append row_text (take i named) (row ∷ []) ∙ ap (λ xs. front ++ xs) (append-nil (row_text row)) in
        ends_behind at (length front) (length row) (length frames) (length (directory_text (take (i + 1) named))) at_is (length-map row (λ (bin : BinAt). bin.frame))
        (ap length more ∙ length-append front (row_text row))

-- ---- the rows as they are put back

-- so many whole intervals below a number of 31 bits and sixteen more of 48
whole_fits : (n most low wide q number : ℕ) → low ≤ n → n ≤ most → most < 2 ^ 31 → wide * q ≤ low → suc number * wide ≤ 16 * 2 ^ 48 → suc (q + number) * wide < 2 ^ 64
whole_fits n most low wide q number under within events whole bins =
    let parts : suc (q + number) * wide ≡ wide * q + suc number * wide =
    ap (λ a. a * wide) (sym (add-suc q number)) ∙ add-mul q (suc number) wide ∙ ap (λ a. a + suc number * wide) (mul_comm q wide) in
    omega (arith, parts, bins, whole, under, events, within)

-- the intervals of a level's bins end in reach of a number of 64 bits
pub interval_within : (s : Numbers) → IsValid s → (level n number place wide low : ℕ) → level ≤ s.levels → n ≤ capacity s → wide ≡ span s level → low ≡ edge s level n →
    number < s.bins → place ≡ low / wide + number → suc place * wide < 2 ^ 64
interval_within s valid level n number place wide low last within wide_is low_is few place_is =
    let narrow = span_within s level valid.limits (le_trans last valid.limits.levels_to) in
    let bins = mul-le (suc number) wide 16 (2 ^ 48) (le_trans few valid.limits.bins_to) (subst (λ w. w ≤ 2 ^ 48) (sym wide_is) narrow) in
    let under = subst (λ l. l ≤ n) (sym low_is) (edge_within s level n) in
    subst (λ p. suc p * wide < 2 ^ 64) (sym place_is)
    (whole_fits n (capacity s) low wide (low / wide) number under within (capacity_to s valid) (mul-div-le low wide) bins)

-- the bins of as many intervals as a level has bins are the level's
pub ranges_back : (s : Numbers) (n level wide low high count : ℕ) → 1 ≤ wide → wide ≡ span s level → low ≡ edge s level n → high ≡ edge s (level - 1) n →
    count ≡ length (ranges s n level) →
    map (range_at wide low high) (range_with_len (low / wide) count) ≡ ranges s n level
ranges_back s n level wide low high count positive wide_is low_is high_is count_is =
    (λ i. map (range_at (wide_is i) (low_is i) (high_is i)) (range_with_len (low_is i / wide_is i) (count_is i)))
    ∙ sym (ranges_run s n level (omega (arith, positive, wide_is)))

-- a level's named row
module _ (s : Numbers) (n : ℕ) (text : List ℕ) (named : List (List BinAt)) (is : AreNamed s n text named) (i : ℕ) (within : i < s.levels) where
  place : i + 1 - 1 ≡ i
  place = omega arith

  named_ranges : map range_of (get_or named i []) ≡ ranges s n (i + 1)
  named_ranges = ap (λ j. map range_of (get_or named j [])) (sym place) ∙ is.at.each (i + 1) (omega arith) (omega arith)

  pub named_count : length (get_or named i []) ≡ length (ranges s n (i + 1))
  named_count = sym (length-map (get_or named i []) range_of) ∙ ap length named_ranges

  pub named_few : length (get_or named i []) ≤ s.bins
  named_few = omega (arith, (is.are.each (i + 1) (omega arith) (omega arith)).few, ap (λ j. length (get_or named j [])) place)

  -- the row with its positions and the named frames is the named one
  pub row_restored : (at : ℕ) → at ≡ length (directory_text (take i named)) → (row : List BinAt) (frames : List ℕ) → map range_of row ≡ ranges s n (i + 1) →
      map (λ (bin : BinAt). bin.frame) row ≡ frames → frames ≡ slice_range text (at + 1) (at + 1 + slice_index text at) → row ≡ get_or named i []
  row_restored at at_is row frames ranges_are frames_are lent =
      row_same row (get_or named i []) (ranges_are ∙ sym named_ranges) (frames_are ∙ lent ∙ frames_there text named is.text_is i at (omega (arith, is.at.levels)) at_is)

-- one row more
pub restored_more : (named rows : List (List BinAt)) (i : ℕ) (new : List BinAt) → i < length rows → i < length named →
    ((k : ℕ) (d : List BinAt) → k < i → get_or rows k d ≡ get_or named k d) → new ≡ get_or named i [] →
    (k : ℕ) (d : List BinAt) → k < i + 1 → get_or (set rows i new) k d ≡ get_or named k d
restored_more named rows i new within there done is k d below =
    elim (cases_lt k i) [
      | inl earlier ↦ get_or-set_other rows i k new d (λ same. omega arith) ∙ done k d earlier
      | inr last ↦ (
          let same : i ≡ k = omega arith in
          subst (λ (n : ℕ). get_or (set rows i new) n d ≡ get_or named n d) same (get_or-set_same rows i new d within ∙ is ∙ get_or_default named i [] d there))
    ]
