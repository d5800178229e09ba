-- Tables of which nothing was given yet.
use Rattle.std.{proofs.Common.{ℕ, zero, suc, ◌≡◌, ◌<◌, ◌^◌, Option, Some, List, [], ◌∷◌, length, map, get_or, refl, ◌∙◌, arith, inl, inr}, proofs.lemmas.List.length-map}
use Rattle.lert_bay.specs.Files.{Files}
use Rattle.lert_merge.specs.order.Members.{given_at, limit_at}
use Rattle.lert_spec.{specs.declared.piece.Piece.Piece, specs.Table.costs}
use Rattle.lert_levels.{specs.streams.Bin.{of_table, given_of, limit_of, wide_of}, specs.streams.BinLaws.table_told, specs.streams.BinSet.{AreSure, Reads}, specs.streams.SetLaws.to_come_at}
use Rattle.lert_levels.specs.streams.Tables.{fresh_bin, AreOrdered}

module _ {T : Type 0} (bits : T → ℕ) (pieces : T → List Piece) where
  pub fresh_count : (tables : List T) → length (map of_table (map (fresh_bin bits pieces) tables)) ≡ length tables
  fresh_count tables = length-map (map (fresh_bin bits pieces) tables) of_table ∙ length-map tables (fresh_bin bits pieces)

  pub fresh_coming : (told : Option Files) (tables : List T) (k : ℕ) (d : T) → AreOrdered (map (fresh_bin bits pieces) tables) → k < length tables →
      to_come_at told (map of_table (map (fresh_bin bits pieces) tables)) k ≡ Some (pieces (get_or tables k d))
  fresh_coming told [] k d ordered within = absurd (omega arith)
  fresh_coming told (t ∷ tables) zero d ordered within = table_told (fresh_bin bits pieces t) ordered.0
  fresh_coming told (t ∷ tables) (suc k) d ordered within = fresh_coming told tables k d ordered.1 (omega arith)

  pub fresh_given : (tables : List T) (k : ℕ) → given_at given_of (map of_table (map (fresh_bin bits pieces) tables)) k ≡ []
  fresh_given [] k = refl
  fresh_given (t ∷ tables) zero = refl
  fresh_given (t ∷ tables) (suc k) = fresh_given tables k

  pub fresh_limit : (tables : List T) (k : ℕ) (d : T) → k < length tables → limit_at limit_of (map of_table (map (fresh_bin bits pieces) tables)) k ≡ 2 ^ bits (get_or tables k d)
  fresh_limit [] k d within = absurd (omega arith)
  fresh_limit (t ∷ tables) zero d within = refl
  fresh_limit (t ∷ tables) (suc k) d within = fresh_limit tables k d (omega arith)

  pub fresh_width : (version : ℕ) (tables : List T) (k : ℕ) (d : T) → k < length tables →
      limit_at (wide_of version) (map of_table (map (fresh_bin bits pieces) tables)) k ≡ costs version (pieces (get_or tables k d))
  fresh_width version [] k d within = absurd (omega arith)
  fresh_width version (t ∷ tables) zero d within = refl
  fresh_width version (t ∷ tables) (suc k) d within = fresh_width version tables k d (omega arith)

  pub fresh_sure : (tables : List T) (file : List ℕ) → AreSure (map of_table (map (fresh_bin bits pieces) tables)) file
  fresh_sure [] file = tt
  fresh_sure (t ∷ tables) file = (tt, fresh_sure tables file)

  pub fresh_reads : (tables : List T) (from to : ℕ) → Reads (map of_table (map (fresh_bin bits pieces) tables)) from to → ⊥
  fresh_reads [] from to reads = reads
  fresh_reads (t ∷ tables) from to reads = elim reads [ inl here ↦ here | inr later ↦ fresh_reads tables from to later ]
