-- Sorted pieces, of which the first were given.
use Rattle.std.proofs.Common.{ℕ, ◌≡◌, ◌^◌, ◌++◌, List, take, drop, Some, sym, ap, ◌∙◌, subst}
use Rattle.std.proofs.lemmas.List.{take-append-drop}
use Rattle.lert_spec.specs.declared.piece.Piece.{Piece}
use Rattle.lert_spec.specs.Table.{AreGiven}

-- those given and those to come are all
pub stays_given : (n : ℕ) (pieces rest : List Piece) → AreGiven (2 ^ 64) pieces → Some (drop n pieces) ≡ Some rest → AreGiven (2 ^ 64) (take n pieces ++ rest)
stays_given n pieces rest are told =
    let left : rest ≡ drop n pieces = cc in
    subst (AreGiven (2 ^ 64)) (sym (ap (λ xs. take n pieces ++ xs) left ∙ take-append-drop n pieces)) are

-- a checksum tells nothing of what it took: it may be any list
abbrev pub took_any : {T : Type 0} → T → List Piece → Type 0
took_any totals pieces = Unit {0}
