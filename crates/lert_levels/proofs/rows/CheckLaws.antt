-- Where a check of the frames stops: at the first bin of the first level that leaves its format.
use Rattle.std.proofs.Common.{ℕ, ◌≡◌, ◌+◌, ◌-◌, ◌<◌, ◌≤◌, suc, List, [], ◌∷◌, ◌++◌, length, map, get_or, take, drop, Option, Some, None, refl, ap, ap₂, sym, ◌∙◌, ◌⊎◌, arith, inl, inr, subst, Result}
use Rattle.std.proofs.{Common.{append-nil, length-take}, Math.Seq.drop-cons, lemmas.List.{map-append, map_more, append_assoc, take-append-drop, take_more}, lemmas.List.Elements.{All-head, All-tail}}
use Rattle.std.proofs.lemmas.Option.{none-some}
use Rattle.std.specs.{Prelude.{Ok, Err, IfErr, IsErrAnd}, List.All}
use Rattle.lert_base.specs.{declared.pieces.PieceFault.PieceFault, declared.pieces.PieceFault.TheVariants.{Failed as PieceFailed, Malformed as PieceMalformed}}
use Rattle.lert_frames.proofs.FrameLaws.{left_is}
use Rattle.lert_spec.specs.{declared.numbers.Numbers.Numbers, declared.piece.Piece.Piece, Edges.span, Limits.IsValid}
use Rattle.lert_levels.specs.{declared.rows.bin_at.BinAt.BinAt, declared.rows.fault.FlushFault.FlushFault, declared.rows.fault.FlushFault.TheVariants.{Failed, Malformed}}
use Rattle.lert_levels.specs.{rows.Checked.{bin_left, bins_left, first_of, row_left, rows_left}, rows.Loading.{width_of, flush_fault, Stands, AllStand}, rows.Rows.{IsRow, AreRows}}

-- ---- the first place of several

pub first_behind : (xs ys : List (Option ℕ)) → first_of xs ≡ None → first_of (xs ++ ys) ≡ first_of ys
first_behind [] ys none = refl
first_behind (None ∷ xs) ys none = first_behind xs ys none
first_behind (Some at ∷ xs) ys none = absurd (none-some at (sym none))

pub first_before : (xs ys : List (Option ℕ)) (at : ℕ) → first_of xs ≡ Some at → first_of (xs ++ ys) ≡ Some at
first_before [] ys at some = absurd (none-some at some)
first_before (None ∷ xs) ys at some = first_before xs ys at some
first_before (Some here ∷ xs) ys at some = some

-- ---- a level's row

module _ (f : BinAt → Option ℕ) (row : List BinAt) (i : ℕ) (d : BinAt) (below : i < length row) (so_far : first_of (map f (take i row)) ≡ None) where
  -- one bin more that leaves its format nowhere
  pub row_more : f (get_or row i d) ≡ None → first_of (map f (take (i + 1) row)) ≡ None
  row_more here =
      ap first_of (map_more f row i d below)
      ∙ first_behind (map f (take i row)) (f (get_or row i d) ∷ []) so_far
      ∙ ap (λ left. first_of (left ∷ [])) here

  -- the first one that does
  pub row_breaks : (at : ℕ) → f (get_or row i d) ≡ Some at → first_of (map f row) ≡ Some at
  row_breaks at here =
      ap (λ bins. first_of (map f bins)) (sym (take-append-drop i row))
      ∙ ap first_of (map-append f (take i row) (drop i row))
      ∙ first_behind (map f (take i row)) (map f (drop i row)) so_far
      ∙ ap (λ bins. first_of (map f bins)) (drop-cons row i d below)
      ∙ ap (λ left. first_of (left ∷ map f (drop (suc i) row))) here

-- ---- the rows

bins_left-append : (s : Numbers) (version : ℕ) (file : List ℕ) (level : ℕ) (rows others : List (List BinAt)) → bins_left s version file level (rows ++ others) ≡ bins_left s version file level rows
    ++ bins_left s version file (level + length rows) others
bins_left-append s version file level [] others = ap (λ l. bins_left s version file l others) (let same : level ≡ level + 0 = omega arith in same)
bins_left-append s version file level (row ∷ rows) others =
    ap (λ left. map (bin_left s version file level) row ++ left) (bins_left-append s version file (suc level) rows others)
    ∙ sym (append_assoc (map (bin_left s version file level) row) (bins_left s version file (suc level) rows) (bins_left s version file (suc level + length rows) others))
    ∙ ap (λ l. (map (bin_left s version file level) row ++ bins_left s version file (suc level) rows) ++ bins_left s version file l others)
    (let same : suc level + length rows ≡ level + suc (length rows) =
    omega arith in same)

module _ (s : Numbers) (version : ℕ) (file : List ℕ) (rows : List (List BinAt)) (i : ℕ) (now : List BinAt) (here : get_or rows i [] ≡ now) (below : i < length rows)
    (so_far : rows_left s version file (take i rows) ≡ None) where
  level_is : 1 + length (take i rows) ≡ i + 1
  level_is = omega (arith, length-take i rows)

  -- one level more
  pub rows_more : row_left s version file (i + 1) now ≡ None → rows_left s version file (take (i + 1) rows) ≡ None
  rows_more whole =
      ap (rows_left s version file) (take_more rows i [] below)
      ∙ ap first_of (bins_left-append s version file 1 (take i rows) (get_or rows i [] ∷ []))
      ∙ first_behind (bins_left s version file 1 (take i rows)) (bins_left s version file (1 + length (take i rows)) (get_or rows i [] ∷ [])) so_far
      ∙ ap₂ (λ l row. first_of (bins_left s version file l (row ∷ []))) level_is here
      ∙ ap first_of (append-nil (map (bin_left s version file (i + 1)) now))
      ∙ whole

  -- the first one with a bin that leaves its format
  pub rows_break : (at : ℕ) → row_left s version file (i + 1) now ≡ Some at → rows_left s version file rows ≡ Some at
  rows_break at breaks =
      ap (rows_left s version file) (sym (take-append-drop i rows))
      ∙ ap first_of (bins_left-append s version file 1 (take i rows) (drop i rows))
      ∙ first_behind (bins_left s version file 1 (take i rows)) (bins_left s version file (1 + length (take i rows)) (drop i rows)) so_far
      ∙ ap₂ (λ l rs. first_of (bins_left s version file l rs)) level_is (drop-cons rows i [] below ∙ ap (λ row. row ∷ drop (suc i) rows) here)
      ∙ first_before (map (bin_left s version file (i + 1)) now) (bins_left s version file (suc (i + 1)) (drop (suc i) rows)) at breaks

-- ---- bins that stand

-- a bin that stands leaves its format nowhere
stands_whole : (s : Numbers) (version : ℕ) (level : ℕ) (file : List ℕ) (held : BinAt → List Piece) (bin : BinAt) → IsValid s → level ≤ s.levels → width_of bin ≤ span s level →
    Stands s version level file held bin → bin_left s version file level bin ≡ None
stands_whole s version level file held bin valid last within stands = left_is s version level bin.frame (width_of bin) file (held bin) valid last within stands.are stands.text

row_whole : (f : BinAt → Option ℕ) (row : List BinAt) → All (λ bin. f bin ≡ None) row → first_of (map f row) ≡ None
row_whole f [] whole = refl
row_whole f (bin ∷ row) whole =
    ap (λ left. first_of (left ∷ map f row)) (All-head (λ b. f b ≡ None) bin row whole) ∙ row_whole f row (All-tail (λ b. f b ≡ None) bin row whole)

rows_whole : (s : Numbers) (version : ℕ) (file : List ℕ) (level : ℕ) (rows : List (List BinAt)) →
    ((k : ℕ) → k < length rows → All (λ bin. bin_left s version file (level + k) bin ≡ None) (get_or rows k [])) → first_of (bins_left s version file level rows) ≡ None
rows_whole s version file level [] whole = refl
rows_whole s version file level (row ∷ rows) whole =
    let here : All (λ bin. bin_left s version file level bin ≡ None) row = subst (λ l. All (λ bin. bin_left s version file l bin ≡ None) row) (let same : level + 0 ≡ level = omega arith in same)
    (whole 0 (omega arith)) in
    first_behind (map (bin_left s version file level) row) (bins_left s version file (suc level) rows) (row_whole (bin_left s version file level) row here)
    ∙ rows_whole s version file (suc level) rows (λ k below. subst (λ l. All (λ bin. bin_left s version file l bin ≡ None) (get_or rows k []))
    (let same : level + suc k ≡ suc level + k = omega arith in
    same) (whole (suc k) (omega arith)))

-- bins of rows that all stand leave their format nowhere
pub all_whole : (s : Numbers) (version : ℕ) (rows : List (List BinAt)) (file : List ℕ) (held : BinAt → List Piece) → IsValid s → AreRows s rows → AllStand s version file held rows →
    rows_left s version file rows ≡ None
all_whole s version rows file held valid are stand =
    rows_whole s version file 1 rows
    (λ k below.
    let place : k + 1 - 1 ≡ k = omega arith in
    let same : k + 1 ≡ 1 + k = omega arith in
    let last : k + 1 ≤ s.levels = omega (arith, are.levels) in
    let row = subst (IsRow s (k + 1)) (ap (λ j. get_or rows j []) place) (are.each (k + 1) (omega arith) last) in
    λ i d inside. ap (λ l. bin_left s version file l (get_or (get_or rows k []) i d)) (sym same)
    ∙ stands_whole s version (k + 1) file held (get_or (get_or rows k []) i d) valid last (row.widths i d inside) (stand k below i d inside))

-- ---- what an answer says of the frames says of the answer

-- where they leave their format, a check says where, or that a call failed
pub check_refuses : {T : Type 0} (result : Result T FlushFault) (piece : PieceFault) (left : Option ℕ) (at : ℕ) → left ≡ Some at → IsErrAnd result (λ fault. fault ≡ flush_fault piece) →
    ((spot : ℕ) → piece ≡ PieceMalformed spot → left ≡ Some spot) → IsErrAnd result (λ fault. (fault ≡ Malformed at) ⊎ (fault ≡ Failed))
check_refuses (Ok found) piece left at is gave malformed = gave
check_refuses (Err fault) PieceFailed left at is gave malformed = inr gave
check_refuses (Err fault) (PieceMalformed spot) left at is gave malformed =
    let both : Some spot ≡ Some at = sym (malformed spot refl) ∙ is in
    let same : spot ≡ at = cc in
    inl (gave ∙ ap Malformed same)

-- where they leave it nowhere, a call failed
pub check_passes : {T : Type 0} (result : Result T FlushFault) (piece : PieceFault) (left : Option ℕ) → left ≡ None → IsErrAnd result (λ fault. fault ≡ flush_fault piece) →
    ((spot : ℕ) → piece ≡ PieceMalformed spot → left ≡ Some spot) → IfErr result (λ fault. fault ≡ Failed)
check_passes (Ok found) piece left none gave malformed = tt
check_passes (Err fault) PieceFailed left none gave malformed = gave
check_passes (Err fault) (PieceMalformed spot) left none gave malformed = absurd (none-some spot (sym none ∙ malformed spot refl))
