-- The laws of the bins of a flush.
use Rattle.std.proofs.Common.{ℕ, ◌≡◌, ◌≤◌, ◌^◌, ◌+◌, ◌&&◌, ◌++◌, ◌↔◌, All, nat_le, nat_lt, true, Option, Some, None, List, [], ◌∷◌, get_or, refl, sym, ap, ◌∙◌, subst, inl, inr, lt-ltb}
use Rattle.std.proofs.{lemmas.Bool.{and_parts, and_from, leb-true, ltb-true, le-leb, cases_Bool, cond-true, cond-false}, lemmas.List.Recursion.{and_at, and_from_places}}
use Rattle.lert_bay.specs.Files.{Files}
use Rattle.lert_frames.specs.InOrder.{in_order as frame_in_order, breaks_same}
use Rattle.lert_spec.specs.{declared.piece.Piece.Piece, Table.{AreGiven, AscendsFrom}}
use Rattle.lert_levels.specs.streams.Bin.{TableBin, Bin, of_table, of_frame, all_of, ascend, are_small, is_in_order, table_to_come, to_come_of, given_of, limit_of, LeavesAt, IsSameBin}
use Rattle.lert_levels.specs.streams.BinSet.{BinSet, AreSameBins, IsSameSet}

-- ---- the test of a table's order

ascend_means : (least limit : ℕ) (pieces : List Piece) → ascend least limit pieces ≡ true → AscendsFrom least limit pieces
ascend_means least limit [] is = tt
ascend_means least limit (p ∷ ps) is =
    let one = and_parts (nat_le least p.tail) (nat_lt p.tail limit && (nat_le 1 p.count && ascend (p.tail + 1) limit ps)) is in
    let two = and_parts (nat_lt p.tail limit) (nat_le 1 p.count && ascend (p.tail + 1) limit ps) one.1 in
    let three = and_parts (nat_le 1 p.count) (ascend (p.tail + 1) limit ps) two.1 in
    (leb-true least p.tail one.0, ltb-true p.tail limit two.0, leb-true 1 p.count three.0, ascend_means (p.tail + 1) limit ps three.1)

ascend_is : (least limit : ℕ) (pieces : List Piece) → AscendsFrom least limit pieces → ascend least limit pieces ≡ true
ascend_is least limit [] up = refl
ascend_is least limit (p ∷ ps) up =
    and_from (nat_le least p.tail) (nat_lt p.tail limit && (nat_le 1 p.count && ascend (p.tail + 1) limit ps)) (le-leb least p.tail up.0)
    (and_from (nat_lt p.tail limit) (nat_le 1 p.count && ascend (p.tail + 1) limit ps) (lt-ltb p.tail limit up.1)
    (and_from (nat_le 1 p.count) (ascend (p.tail + 1) limit ps) (le-leb 1 p.count up.2) (ascend_is (p.tail + 1) limit ps up.3)))

small_means : (pieces : List Piece) → are_small pieces ≡ true → All (λ piece. piece.count ≤ 2 ^ 47) pieces
small_means pieces is = λ k d within. leb-true (get_or pieces k d).count (2 ^ 47)
    (and_at are_small (λ (p : Piece). nat_le p.count (2 ^ 47)) refl (λ x xs. refl) pieces k d within is)

small_is : (pieces : List Piece) → All (λ piece. piece.count ≤ 2 ^ 47) pieces → are_small pieces ≡ true
small_is [] few = refl
small_is (p ∷ ps) few = and_from_places are_small (λ (p : Piece). nat_le p.count (2 ^ 47)) refl (λ x xs. refl) (p ∷ ps) p
    (λ i within. le-leb (get_or (p ∷ ps) i p).count (2 ^ 47) (few i p within))

order_means : (table : TableBin) → is_in_order table ≡ true → AreGiven table.limit (all_of table)
order_means table is = let both = and_parts (ascend 0 table.limit (all_of table)) (are_small (all_of table)) is in
    record { table = ascend_means 0 table.limit (all_of table) both.0; counts = small_means (all_of table) both.1 }

order_is : (table : TableBin) → AreGiven table.limit (all_of table) → is_in_order table ≡ true
order_is table are = and_from (ascend 0 table.limit (all_of table)) (are_small (all_of table)) (ascend_is 0 table.limit (all_of table) are.table) (small_is (all_of table) are.counts)

-- what a table has to come is what is left of it
pub table_told : (table : TableBin) → AreGiven table.limit (all_of table) → table_to_come table ≡ Some table.left
table_told table are = cond-true (is_in_order table) (Some table.left) None (order_is table are)

-- ---- what was given and what is to come

pub in_order : (told : Option Files) (bin : Bin) (pieces : List Piece) → to_come_of told bin ≡ Some pieces → AreGiven (limit_of bin) (given_of bin ++ pieces)
in_order told (of_frame r) pieces is = frame_in_order told r pieces is
in_order told (of_table table) pieces is = elim (cases_Bool (is_in_order table)) [
  | inl ordered ↦ (
      let same : Some table.left ≡ Some pieces = sym (cond-true (is_in_order table) (Some table.left) None ordered) ∙ is in
      let left : table.left ≡ pieces = cc in
      subst (λ (ps : List Piece). AreGiven table.limit (table.given ++ ps)) left (order_means table ordered))
  | inr unordered ↦ absurd (let never : ◌≡◌ {A = Option (List Piece)} None (Some pieces) = sym (cond-false (is_in_order table) (Some table.left) None unordered) ∙ is in cc)
]

-- ---- the same files

pub told_same : (one two : Option Files) (bin : Bin) → two ≡ one → to_come_of two bin ≡ to_come_of one bin
told_same one two bin is = ap (λ files. to_come_of files bin) is

pub leaves_same : (one two : Option Files) (bin : Bin) (at : ℕ) → two ≡ one → LeavesAt two bin at ↔ LeavesAt one bin at
leaves_same one two (of_table table) at is = ((λ no. no), (λ no. no))
leaves_same one two (of_frame r) at is = breaks_same two one r at is

-- ---- the same bins

pub same_bin : (bin : Bin) → IsSameBin bin bin
same_bin (of_table table) = record { limit = refl; all = refl }
same_bin (of_frame r) = record { settings = refl; version = refl; level = refl; place = refl; wide = refl }

same_bin_on : (a b c : Bin) → IsSameBin a b → IsSameBin b c → IsSameBin a c
same_bin_on (of_table a) (of_table b) (of_table c) one two = record { limit = two.limit ∙ one.limit; all = two.all ∙ one.all }
same_bin_on (of_frame a) (of_frame b) (of_frame c) one two =
    record { settings = two.settings ∙ one.settings; version = two.version ∙ one.version; level = two.level ∙ one.level; place = two.place ∙ one.place; wide = two.wide ∙ one.wide }
same_bin_on (of_table a) (of_frame b) c one two = absurd one
same_bin_on (of_frame a) (of_table b) c one two = absurd one
same_bin_on (of_table a) (of_table b) (of_frame c) one two = absurd two
same_bin_on (of_frame a) (of_frame b) (of_table c) one two = absurd two

pub same_bins : (bins : List Bin) → AreSameBins bins bins
same_bins [] = tt
same_bins (bin ∷ bins) = (same_bin bin, same_bins bins)

pub same_bins_on : (a b c : List Bin) → AreSameBins a b → AreSameBins b c → AreSameBins a c
same_bins_on [] [] [] one two = tt
same_bins_on (a ∷ front) (b ∷ bs) (c ∷ cs) one two = (same_bin_on a b c one.0 two.0, same_bins_on front bs cs one.1 two.1)
same_bins_on [] (b ∷ bs) c one two = absurd one
same_bins_on (a ∷ front) [] c one two = absurd one
same_bins_on [] [] (c ∷ cs) one two = absurd two
same_bins_on (a ∷ front) (b ∷ bs) [] one two = absurd two

pub same_set : (set : BinSet) → IsSameSet set set
same_set set = record { settings = refl; version = refl; bins = same_bins set.bins; spare = refl }

pub same_set_on : (a b c : BinSet) → IsSameSet a b → IsSameSet b c → IsSameSet a c
same_set_on a b c one two = record {
  settings = two.settings ∙ one.settings;
  version = two.version ∙ one.version;
  bins = same_bins_on a.bins b.bins c.bins one.bins two.bins;
  spare = two.spare ∙ one.spare;
}
