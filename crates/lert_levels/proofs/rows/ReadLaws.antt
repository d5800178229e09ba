-- The rows of bins as a check reads them, and what its faults say.
use Rattle.std.proofs.{Common.{ℕ, ◌≡◌, ◌<◌, List, [], length, get_or, refl, ap, sym, ◌∙◌, subst, Result}, lemmas.List.get_or_default}
use Rattle.std.specs.Prelude.{Ok, Err, IsErrAnd, OnOk}
use Rattle.lert_base.specs.{declared.pieces.PieceFault.PieceFault, declared.pieces.PieceFault.TheVariants.{Failed as PieceFailed, Malformed as PieceMalformed}}
use Rattle.lert_frames.specs.{Frame.{HoldsFrame, IsBin, frame_pieces}, Place.tail_limit}
use Rattle.lert_spec.specs.declared.numbers.Numbers.{Numbers}
use Rattle.lert_levels.specs.{declared.rows.bin_at.BinAt.BinAt, declared.rows.fault.FlushFault.FlushFault, declared.rows.fault.FlushFault.TheVariants.{Failed, Malformed}, rows.Checked.pieces_in}
use Rattle.lert_levels.specs.rows.Loading.{width_of, Stands, flush_fault}

-- what holds of a reader's settings and level holds of those that it was begun with
pub level_from : (P : Numbers → ℕ → Type 0) (s t : Numbers) (level n : ℕ) → t ≡ s → n ≡ level → P t n → P s level
level_from P s t level n settings level_is holds = subst (λ (m : Numbers). P m level) settings (subst (λ (m : ℕ). P t m) level_is holds)

-- a row at its place in the list of rows, as it is lent
pub row_here : (rows : List (List BinAt)) (i : ℕ) (row now : List BinAt) → i < length rows → row ≡ get_or rows i row → now ≡ row → get_or rows i [] ≡ now
row_here rows i row now below is now_is = get_or_default rows i [] row below ∙ sym is ∙ sym now_is

-- what holds of the row at a place holds at the reader's settings, and back
pub hand_to : (P : Numbers → List BinAt → Type 0) (s t : Numbers) (rows : List (List BinAt)) (i : ℕ) (now : List BinAt) →
    get_or rows i [] ≡ now → t ≡ s → P s (get_or rows i []) → P t now
hand_to P s t rows i now is same holds = subst (λ (m : Numbers). P m now) (sym same) (subst (P s) is holds)

pub hand_from : (P : Numbers → List BinAt → Type 0) (s t : Numbers) (rows : List (List BinAt)) (i : ℕ) (now : List BinAt) →
    get_or rows i [] ≡ now → t ≡ s → P t now → P s (get_or rows i [])
hand_from P s t rows i now is same holds = subst (P s) (sym is) (subst (λ (m : Numbers). P m now) same holds)

-- ---- what a refused piece is to a flush

-- where a flush says that a call of the bay failed, its stream said so
pub failed_there : {T : Type 0} (result : Result T FlushFault) (piece : PieceFault) → IsErrAnd result (λ fault. fault ≡ flush_fault piece) → result ≡ Err Failed → piece ≡ PieceFailed
failed_there (Ok x) piece gave is = absurd (cc)
failed_there (Err fault) PieceFailed gave is = refl
failed_there (Err fault) (PieceMalformed there) gave is = absurd (cc)

-- where it says that a frame is malformed, its stream said so
pub malformed_there : {T : Type 0} (result : Result T FlushFault) (piece : PieceFault) (at : ℕ) → IsErrAnd result (λ fault. fault ≡ flush_fault piece) → result ≡ Err (Malformed at) →
    piece ≡ PieceMalformed at
malformed_there (Ok x) piece at gave is = absurd (cc)
malformed_there (Err fault) PieceFailed at gave is = absurd (cc)
malformed_there (Err fault) (PieceMalformed there) at gave is = ap PieceMalformed (let same : there ≡ at = cc in same)

-- ---- a check

-- a bin whose pieces and text the file has stands there
pub checked_stands : {T E : Type 0} (result : Result T E) (s : Numbers) (version : ℕ) (level : ℕ) (bin : BinAt) (frame : ℕ) (file : List ℕ) → frame ≡ bin.frame →
    OnOk result (IsBin version (tail_limit s) (width_of bin) (frame_pieces s version level frame file)) →
    OnOk result (HoldsFrame s version level frame file (frame_pieces s version level frame file)) →
    OnOk result (Stands s version level file (pieces_in s version file level) bin)
checked_stands (Err fault) s version level bin frame file same is holds = tt
checked_stands (Ok x) s version level bin frame file same is holds = record {
  are = subst (λ (n : ℕ). IsBin version (tail_limit s) (width_of bin) (frame_pieces s version level n file)) same is;
  text = subst (λ (n : ℕ). HoldsFrame s version level n file (frame_pieces s version level n file)) same holds;
}
