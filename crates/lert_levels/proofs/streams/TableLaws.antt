-- Tables and their cursors as bins, and readers.
use Rattle.std.proofs.Common.{ℕ, zero, suc, ◌≡◌, ◌+◌, ◌*◌, Result, Ok, Err, OnOk, ◌<◌, ◌≤◌, ◌^◌, ◌++◌, List, [], ◌∷◌, length, set, take, get_or, refl, sym, ap, ap₂, ◌∙◌, subst, arith, length-set}
use Rattle.std.{proofs.Common.length-append, proofs.lemmas.List.take_more}
use Rattle.lert_frames.specs.declared.reader.FrameReader.{FrameReader}
use Rattle.lert_spec.{specs.declared.numbers.Numbers.Numbers, specs.declared.piece.Piece.Piece, specs.Table.{total, IsTable, AreGiven}, proofs.Tables.count_le-total}
use Rattle.lert_levels.{specs.streams.Bin.TableBin, specs.streams.Tables.{bin_at, bins_at, fresh_bin, Stand, IsOrdered, AreOrdered, AreReadersOf, AreReaders, AreStartedOn}}

-- the pieces of a table of few adds
pub given_of : (bits room : ℕ) (pieces : List Piece) {adds : ℕ} → IsTable (2 ^ bits) pieces → total pieces ≤ 255 * adds → adds ≤ room → room ≤ 2 ^ 39 → AreGiven (2 ^ bits) pieces
given_of bits room pieces table sum fits few = record { table = table; counts = λ k d within. omega (arith, count_le-total pieces k d within, sum, fits, few) }

-- ---- one cursor in the place of another

module _ {T K : Type 0} (bits : T → ℕ) (left : T → K → List Piece) (gave : K → List Piece) (stands : T → K → Type 0) where
  pub cursors_length : (tables : List T) (cursors : List K) → Stand stands tables cursors → length cursors ≡ length tables
  cursors_length [] [] standing = refl
  cursors_length (t ∷ tables) (c ∷ cursors) standing = ap suc (cursors_length tables cursors standing.1)
  cursors_length [] (c ∷ cursors) standing = absurd standing
  cursors_length (t ∷ tables) [] standing = absurd standing

  pub bins_length : (tables : List T) (cursors : List K) → Stand stands tables cursors → length (bins_at bits left gave tables cursors) ≡ length tables
  bins_length [] [] standing = refl
  bins_length (t ∷ tables) (c ∷ cursors) standing = ap suc (bins_length tables cursors standing.1)
  bins_length [] (c ∷ cursors) standing = absurd standing
  bins_length (t ∷ tables) [] standing = absurd standing

  pub stands_here : (tables : List T) (cursors : List K) (i : ℕ) (t : T) (c : K) → Stand stands tables cursors → i < length tables →
      t ≡ get_or tables i t → c ≡ get_or cursors i c → stands t c
  stands_here [] cursors i t c standing within table cursor = absurd (omega arith)
  stands_here (x ∷ tables) [] i t c standing within table cursor = absurd standing
  stands_here (x ∷ tables) (y ∷ cursors) zero t c standing within table cursor =
      subst (λ (t : T). stands t c) (sym table) (subst (λ (c : K). stands x c) (sym cursor) standing.0)
  stands_here (x ∷ tables) (y ∷ cursors) (suc i) t c standing within table cursor = stands_here tables cursors i t c standing.1 (omega arith) table cursor

  pub stand_with : (tables : List T) (cursors : List K) (i : ℕ) (t : T) (c : K) → Stand stands tables cursors → i < length tables →
      t ≡ get_or tables i t → stands t c → Stand stands tables (set cursors i c)
  stand_with [] cursors i t c standing within table on = absurd (omega arith)
  stand_with (x ∷ tables) [] i t c standing within table on = absurd standing
  stand_with (x ∷ tables) (y ∷ cursors) zero t c standing within table on = (subst (λ (t : T). stands t c) table on, standing.1)
  stand_with (x ∷ tables) (y ∷ cursors) (suc i) t c standing within table on = (standing.0, stand_with tables cursors i t c standing.1 (omega arith) table on)

  pub bin_here : (tables : List T) (cursors : List K) (i : ℕ) (t : T) (c : K) (d : TableBin) → Stand stands tables cursors → i < length tables →
      t ≡ get_or tables i t → c ≡ get_or cursors i c → get_or (bins_at bits left gave tables cursors) i d ≡ bin_at bits left gave t c
  bin_here [] cursors i t c d standing within table cursor = absurd (omega arith)
  bin_here (x ∷ tables) [] i t c d standing within table cursor = absurd standing
  bin_here (x ∷ tables) (y ∷ cursors) zero t c d standing within table cursor = ap₂ (bin_at bits left gave) (sym table) (sym cursor)
  bin_here (x ∷ tables) (y ∷ cursors) (suc i) t c d standing within table cursor = bin_here tables cursors i t c d standing.1 (omega arith) table cursor

  pub bins_with : (tables : List T) (cursors : List K) (i : ℕ) (t : T) (c : K) → Stand stands tables cursors → i < length tables → t ≡ get_or tables i t →
      bins_at bits left gave tables (set cursors i c) ≡ set (bins_at bits left gave tables cursors) i (bin_at bits left gave t c)
  bins_with [] cursors i t c standing within table = absurd (omega arith)
  bins_with (x ∷ tables) [] i t c standing within table = absurd standing
  bins_with (x ∷ tables) (y ∷ cursors) zero t c standing within table = ap (λ (t : T). bin_at bits left gave t c ∷ bins_at bits left gave tables cursors) (sym table)
  bins_with (x ∷ tables) (y ∷ cursors) (suc i) t c standing within table =
      ap (λ bins. bin_at bits left gave x y ∷ bins) (bins_with tables cursors i t c standing.1 (omega arith) table)

  -- ---- cursors that are started

  abbrev behind : List TableBin → List TableBin
  behind [] = []
  behind (b ∷ bins) = bins

  pub started_none : (pieces : T → List Piece) → AreStartedOn bits left gave stands pieces [] []
  started_none pieces = record { standing = tt; bins = refl; ordered = tt }

  pub started_more : (pieces : T → List Piece) (tables : List T) (cursors : List K) (t : T) (c : K) → AreStartedOn bits left gave stands pieces tables cursors →
      stands t c → left t c ≡ pieces t → gave c ≡ [] → AreGiven (2 ^ bits t) (pieces t) → AreStartedOn bits left gave stands pieces (tables ++ t ∷ []) (cursors ++ c ∷ [])
  started_more pieces [] [] t c is on left_is gave_is given = record {
    standing = (on, tt);
    bins = ap₂ (λ (g l : List Piece). record { limit = 2 ^ bits t; given = g; left = l } ∷ []) gave_is left_is;
    ordered = (given, tt);
  }
  started_more pieces (x ∷ tables) (y ∷ cursors) t c is on left_is gave_is given =
      let more = started_more pieces tables cursors t c (record { standing = is.standing.1; bins = ap behind is.bins; ordered = is.ordered.1 }) on left_is gave_is given in
      let first : bin_at bits left gave x y ≡ fresh_bin bits pieces x = ap (λ (bins : List TableBin). get_or bins 0 (bin_at bits left gave x y)) is.bins in
      record {
        standing = (is.standing.0, more.standing);
        bins = ap₂ (λ (b : TableBin) (bs : List TableBin). b ∷ bs) first more.bins;
        ordered = (is.ordered.0, more.ordered);
      }
  started_more pieces [] (y ∷ cursors) t c is on left_is gave_is given = absurd is.standing
  started_more pieces (x ∷ tables) [] t c is on left_is gave_is given = absurd is.standing

  pub started_next : (pieces : T → List Piece) (tables : List T) (cursors after : List K) (i : ℕ) (t : T) (c : K) → AreStartedOn bits left gave stands pieces (take i tables) cursors →
      i < length tables → t ≡ get_or tables i t → stands t c → left t c ≡ pieces t → gave c ≡ [] → AreGiven (2 ^ bits t) (pieces t) → after ≡ cursors ++ c ∷ [] →
      AreStartedOn bits left gave stands pieces (take (i + 1) tables) after
  started_next pieces tables cursors after i t c is within here on left_is gave_is given after_is =
      let more = started_more pieces (take i tables) cursors t c is on left_is gave_is given in
      let front : take i tables ++ t ∷ [] ≡ take (i + 1) tables = ap (λ (x : T). take i tables ++ x ∷ []) here ∙ sym (take_more tables i t within) in
      subst (λ (ts : List T). AreStartedOn bits left gave stands pieces ts after) front (subst (λ (cs : List K). AreStartedOn bits left gave stands pieces (take i tables ++ t ∷ []) cs)
      (sym after_is) more)

-- ---- tables in order

pub ordered_here : (bins : List TableBin) (i : ℕ) (b d : TableBin) → AreOrdered bins → i < length bins → get_or bins i d ≡ b → IsOrdered b
ordered_here [] i b d are within here = absurd (omega arith)
ordered_here (x ∷ bins) zero b d are within here = subst (λ (b : TableBin). IsOrdered b) here are.0
ordered_here (x ∷ bins) (suc i) b d are within here = ordered_here bins i b d are.1 (omega arith) here

pub ordered_with : (bins : List TableBin) (i : ℕ) (b : TableBin) → AreOrdered bins → IsOrdered b → AreOrdered (set bins i b)
ordered_with [] i b are is = tt
ordered_with (x ∷ bins) zero b are is = (is, are.1)
ordered_with (x ∷ bins) (suc i) b are is = (are.0, ordered_with bins i b are.1 is)

-- ---- readers

-- what is so of a call that went well
pub when_ok : {T E : Type 0} (result : Result T E) (P Q : Type 0) → (P → Q) → OnOk result P → OnOk result Q
when_ok (Ok v) P Q turn is = turn is
when_ok (Err e) P Q turn is = tt

pub reader_here : (s : Numbers) (readers : List FrameReader) (i : ℕ) (r : FrameReader) → AreReadersOf s readers → i < length readers → r ≡ get_or readers i r → r.settings ≡ s
reader_here s [] i r are within here = absurd (omega arith)
reader_here s (x ∷ readers) zero r are within here = ap (λ (r : FrameReader). r.settings) here ∙ are.0
reader_here s (x ∷ readers) (suc i) r are within here = reader_here s readers i r are.1 (omega arith) here

of_settings_with : (s : Numbers) (readers : List FrameReader) (i : ℕ) (r : FrameReader) → AreReadersOf s readers → r.settings ≡ s → AreReadersOf s (set readers i r)
of_settings_with s [] i r are is = tt
of_settings_with s (x ∷ readers) zero r are is = (is, are.1)
of_settings_with s (x ∷ readers) (suc i) r are is = (are.0, of_settings_with s readers i r are.1 is)

pub of_settings_more : (s : Numbers) (readers : List FrameReader) (r : FrameReader) → AreReadersOf s readers → r.settings ≡ s → AreReadersOf s (readers ++ r ∷ [])
of_settings_more s [] r are is = (is, tt)
of_settings_more s (x ∷ readers) r are is = (are.0, of_settings_more s readers r are.1 is)

pub readers_more : (s : Numbers) (readers after : List FrameReader) (r : FrameReader) (count : ℕ) → AreReadersOf s readers → length readers ≡ count →
    after ≡ readers ++ r ∷ [] → r.settings ≡ s → record { of_settings : AreReadersOf s after; len : length after ≡ count + 1 }
readers_more s readers after r count are long is same = record {
  of_settings = subst (λ (rs : List FrameReader). AreReadersOf s rs) (sym is) (of_settings_more s readers r are same);
  len = omega (arith, ap length is, length-append readers (r ∷ []), long);
}

pub readers_with : (s : Numbers) (readers : List FrameReader) (i : ℕ) (r : FrameReader) → AreReaders s readers → r.settings ≡ s → AreReaders s (set readers i r)
readers_with s readers i r are is = let long = length-set readers i r in record {
  of_settings = of_settings_with s readers i r are.of_settings is;
  count = long ∙ are.count;
  some = omega (arith, long, are.some);
  few = omega (arith, long, are.few);
}
