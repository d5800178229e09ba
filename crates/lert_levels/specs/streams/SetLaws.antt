-- The laws of a set of bins.
use Rattle.std.proofs.Common.{ℕ, zero, suc, ◌≡◌, ◌<◌, ◌++◌, ◌↔◌, Option, Some, List, [], ◌∷◌, length, sym, ap, ◌∙◌, subst, arith}
use Rattle.lert_bay.specs.Files.{Files}
use Rattle.lert_merge.specs.order.Members.{told_at, given_at, limit_at, BreaksAt}
use Rattle.lert_spec.specs.{declared.piece.Piece.Piece, Table.AreGiven}
use Rattle.lert_levels.specs.{streams.Bin.{Bin, to_come_of, given_of, limit_of, LeavesAt}, streams.BinLaws.in_order}

-- what is to come of the bin at a place, what it gave, and where it leaves its format
abbrev pub to_come_at : Option Files → List Bin → ℕ → Option (List Piece)
to_come_at told bins k = told_at (λ bin files. to_come_of files bin) bins k told

abbrev pub LeavesIn : Option Files → List Bin → ℕ → ℕ → Type 0
LeavesIn told bins k at = BreaksAt (λ bin files at. LeavesAt files bin at) bins k told at

pub set_in_order : (told : Option Files) (bins : List Bin) (k : ℕ) (pieces : List Piece) → k < length bins → to_come_at told bins k ≡ Some pieces →
    AreGiven (limit_at limit_of bins k) (given_at given_of bins k ++ pieces)
set_in_order told [] k pieces within is = absurd (omega arith)
set_in_order told (bin ∷ bins) zero pieces within is = in_order told bin pieces is
set_in_order told (bin ∷ bins) (suc k) pieces within is = set_in_order told bins k pieces (omega arith) is

-- through the same files the same is to come, and the same breaks
pub set_told : (one two : Option Files) (bins : List Bin) (k : ℕ) (answer : Option (List Piece)) → two ≡ one → to_come_at one bins k ≡ answer → to_come_at two bins k ≡ answer
set_told one two bins k answer same is = ap (λ files. to_come_at files bins k) same ∙ is

pub set_leaves : (one two : Option Files) (bins : List Bin) (k at : ℕ) → two ≡ one → LeavesIn two bins k at ↔ LeavesIn one bins k at
set_leaves one two bins k at same = (
  (λ leaves. subst (λ (files : Option Files). LeavesIn files bins k at) same leaves),
  (λ leaves. subst (λ (files : Option Files). LeavesIn files bins k at) (sym same) leaves),
)
