-- How long a directory is.
use Rattle.std.proofs.Common.{ℕ, ◌≡◌, ◌+◌, ◌<◌, ◌≤◌, List, ◌∷◌, length, map, take, get_or, ap, ap₂, sym, ◌∙◌, arith, [], ◌++◌, append-nil}
use Rattle.std.proofs.{lemmas.List.{length-map, take_more, map-append, append_assoc, length-append, length-take-le}, lemmas.Grind.flat_map-append, lemmas.List.Concat.length-flat_map}
use Rattle.std.proofs.lemmas.List.Sums.{sum_by_more_le}
use Rattle.lert_levels.specs.{declared.rows.bin_at.BinAt.BinAt, rows.Rows.directory_text}

abbrev pub row_text : List BinAt → List ℕ
row_text row = length row ∷ map (λ bin. bin.frame) row

-- the part of the next row finds room
pub room_left : (rows : List (List BinAt)) (i : ℕ) (row : List BinAt) → i < length rows → row ≡ get_or rows i row →
    length (directory_text (take i rows)) + 1 + length row ≤ length (directory_text rows)
room_left rows i row below is =
    let whole = length-flat_map row_text rows in
    let front = length-flat_map row_text (take i rows) in
    let part = ap (λ r. length (row_text r)) is in
    let long = length-map row (λ (bin : BinAt). bin.frame) in
    omega (arith, sum_by_more_le (λ (r : List BinAt). length (row_text r)) rows i row below)

-- the frame of one bin more of a row
pub frame_more : (old now new : List ℕ) (row : List BinAt) (i : ℕ) (d : BinAt) → i < length row →
    now ≡ old ++ (length row ∷ map (λ bin. bin.frame) (take i row)) → new ≡ now ++ (get_or row i d).frame ∷ [] →
    new ≡ old ++ (length row ∷ map (λ bin. bin.frame) (take (i + 1) row))
frame_more old now new row i d below now_is is =
    let frame = (λ (bin : BinAt). bin.frame) in
    let more = ap (map frame) (take_more row i d below) ∙ map-append frame (take i row) (get_or row i d ∷ []) in
    is
    ∙ ap (λ text. text ++ (get_or row i d).frame ∷ []) now_is
    ∙ append_assoc old (length row ∷ map frame (take i row)) ((get_or row i d).frame ∷ [])
    ∙ ap (λ frames. old ++ (length row ∷ frames)) (sym more)

-- and there is room for it
pub frame_room : (old now : List ℕ) (row : List BinAt) (i room : ℕ) → i < length row → now ≡ old ++ (length row ∷ map (λ bin. bin.frame) (take i row)) →
    length old + 1 + length row ≤ room → length now < room
frame_room old now row i room below is enough =
    let frames = map (λ (bin : BinAt). bin.frame) (take i row) in
    omega (arith, ap length is, length-append old (length row ∷ frames), length-map (take i row) (λ (bin : BinAt). bin.frame), length-take-le i row (omega (arith, below)))

-- the part of one row more
pub part_more : (rows : List (List BinAt)) (i : ℕ) (row lent : List BinAt) (now new : List ℕ) → i < length rows → row ≡ get_or rows i row → lent ≡ row →
    now ≡ directory_text (take i rows) → new ≡ now ++ row_text lent → new ≡ directory_text (take (i + 1) rows)
part_more rows i row lent now new below here lent_is now_is is =
    let next = get_or rows i row in
    let front = take i rows in
    is
    ∙ ap₂ (λ text bins. text ++ row_text bins) now_is (lent_is ∙ here)
    ∙ ap (λ text. directory_text front ++ text) (sym (append-nil (row_text next)))
    ∙ sym (ap directory_text (take_more rows i row below) ∙ flat_map-append row_text front (next ∷ []))
