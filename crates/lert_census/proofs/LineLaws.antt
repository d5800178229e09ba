-- The lines of a table that counts the tails of items are the tally of the items.
use Rattle.std.proofs.Common.{ℕ, zero, suc, ◌≡◌, ◌+◌, ◌<◌, ◌≤◌, ◌^◌, Bool, true, cond, ◌&&◌, List, [], ◌∷◌, length, map, filter, get_or, take, drop, subst, refl, ap, ap₂, sym, ◌∙◌, arith, inl, inr}
use Rattle.std.specs.Prelude.{All}
use Rattle.std.proofs.{Math.Seq.take-length, lemmas.Bool.{cases_eq, cases_lt, eq-eqb, le-leb}, lemmas.Slice.between_from_start}
use Rattle.std.proofs.lemmas.List.{Elements.{All-head, All-tail, All-nil, All-cons}, Sums.get_or-le-sum_by, drop-map, take-append-drop}
use Rattle.lert_spec.specs.{declared.item.Item.Item, declared.numbers.Numbers.Numbers, declared.piece.Piece.Piece, declared.report.Report.Report}
use Rattle.lert_spec.specs.{Bins.tally, Counts.{weighed, weight_for, weight_in}, Edges.{key_bits, tail_bits}}
use Rattle.lert_spec.specs.{Look.{insert_mixed, mixed_in, is_due_in}, Mix.{mix, tail_of}, Table.{count_of, AscendsFrom, IsTable}}
use Rattle.lert_spec.proofs.{CountLaws.count-whole, ReportLaws.{insert_before, insert_same, insert_behind}, TailLaws.{key_with, keys_of, is_due_piece, due_by_tally}}
use Rattle.lert_spec.proofs.TallyLaws.{count_of-cons_same, count_of-cons_other, count_of-tally, tally_table}
use Rattle.lert_base.specs.Packet.{Packet, events_of}
use Rattle.lert_census.specs.{Census.{Census, IsCounted, StandsFor, line_with, lines_of}, Tally.{EndsWith, line_of, tally_of}}
use Rattle.lert_census.proofs.KeyLaws.{key_with_below, cone-key_with, tail-key_with, have_keys, are_own, weigh_some, tails-weigh}

-- a test that all pass keeps all
pub filter_all : {A : Type 0} (test : A → Bool) (xs : List A) → All (λ x. test x ≡ true) xs → filter test xs ≡ xs
filter_all test [] pass = refl
filter_all test (x ∷ xs) pass =
    ap (λ t. cond t (x ∷ filter test xs) (filter test xs)) (All-head (λ y. test y ≡ true) x xs pass)
    ∙ ap (λ rest. x ∷ rest) (filter_all test xs (All-tail (λ y. test y ≡ true) x xs pass))

-- what holds of the keys of all items holds of them in their order
insert_all : (P : ℕ → Type 0) (key : ℕ) (keys : List ℕ) → P key → All P keys → All P (insert_mixed key keys)
insert_all P key [] here rest = All-cons P key [] here rest
insert_all P key (other ∷ others) here rest =
    elim (cases_lt (mix key) (mix other)) [
      | inl less ↦ rw (insert_before key other others less) (All-cons P key (other ∷ others) here rest)
      | inr more ↦ elim (cases_eq key other) [
        | inl same ↦ rw (insert_same key other others more same) rest
        | inr differs ↦ rw (insert_behind key other others more differs)
            (All-cons P other (insert_mixed key others) (All-head P other others rest) (insert_all P key others here (All-tail P other others rest)))
      ]
    ]

pub mixed_all : (P : ℕ → Type 0) (items : List Item) → All (λ item. P item.key) items → All P (mixed_in weighed items)
mixed_all P [] all = All-nil P
mixed_all P (item ∷ items) all =
    insert_all P item.key (mixed_in weighed items) (All-head (λ (i : Item). P i.key) item items all) (mixed_all P items (All-tail (λ (i : Item). P i.key) item items all))

module _ (s : Numbers) (cone : ℕ) (bits : s.cone_bits ≤ key_bits s) (named : cone < 2 ^ s.cone_bits) (items : List Item) (counted : All (IsCounted s cone) items) where
  -- a tail counts what its key weighs
  weight_is : (tail : ℕ) → tail < 2 ^ tail_bits s → count_of (tally weighed s items) tail ≡ weight_in weighed (key_with s cone tail) items 0 (length items)
  weight_is tail below =
      let key = key_with s cone tail in
      ap (count_of (tally weighed s items)) (sym (tail-key_with s cone bits named tail below))
      ∙ count_of-tally weighed s items (tail_of s key) (weigh_some s cone items counted)
      ∙ tails-weigh s cone key items (key_with_below s cone bits named tail below) (cone-key_with s cone bits named tail below) counted
      ∙ sym (count-whole weighed key items)

  lines_each : (least : ℕ) (pieces : List Piece) → AscendsFrom least (2 ^ tail_bits s) pieces →
      ((tail : ℕ) → least ≤ tail → count_of pieces tail ≡ count_of (tally weighed s items) tail) →
      map (line_with s cone) pieces ≡ map (line_of items) (keys_of s cone pieces)
  lines_each least [] ascends same = refl
  lines_each least (p ∷ ps) ascends same =
      let at = sym (count_of-cons_same p ps p.tail refl) ∙ same p.tail ascends.0 ∙ weight_is p.tail ascends.1 in
      ap₂ (λ n rest. record { key = key_with s cone p.tail; at = n } ∷ rest) at
      (lines_each (p.tail + 1) ps ascends.3 (λ tail above. sym (count_of-cons_other p ps tail (λ e. omega (arith, above, e))) ∙ same tail (omega (arith, above, ascends.0))))

  -- each key that occurs weighs something, and each piece counts something
  abbrev due : ℕ → Bool
  due = is_due_in weighed 1 items 0 (length items) []

  keys_due : All (λ (item : Item). due item.key ≡ true) items
  keys_due = λ k d below.
      let item = get_or items k d in
      let here = ap (λ t. cond {A = ℕ} t item.weight 0) (eq-eqb item.key item.key refl) in
      let most = get_or-le-sum_by (weight_for weighed item.key) items k d below in
      ap (λ t. t && true) (le-leb 1 (weight_in weighed item.key items 0 (length items)) (omega (arith, here, most, (counted k d below).weighs, count-whole weighed item.key items)))

  pieces_due : (least limit : ℕ) (pieces : List Piece) → AscendsFrom least limit pieces → All (λ piece. is_due_piece s cone 1 [] piece ≡ true) pieces
  pieces_due least limit [] ascends = All-nil (λ piece. is_due_piece s cone 1 [] piece ≡ true)
  pieces_due least limit (p ∷ ps) ascends =
      All-cons (λ piece. is_due_piece s cone 1 [] piece ≡ true) p ps (ap (λ t. t && true) (le-leb 1 p.count ascends.2)) (pieces_due (p.tail + 1) limit ps ascends.3)

  keys_are : mixed_in weighed items ≡ keys_of s cone (tally weighed s items)
  keys_are =
      let table = tally_table weighed s items (weigh_some s cone items counted) in
      sym (filter_all due (mixed_in weighed items) (mixed_all (λ key. due key ≡ true) items keys_due))
      ∙ due_by_tally weighed s cone 1 items 0 (length items) [] bits named (omega arith) (have_keys s cone items counted) (are_own s cone items counted) (weigh_some s cone items counted)
      ∙ ap (λ (window : List Item). keys_of s cone (filter (is_due_piece s cone 1 []) (tally weighed s window))) (between_from_start items (length items) ∙ take-length items)
      ∙ ap (keys_of s cone) (filter_all (is_due_piece s cone 1 []) (tally weighed s items) (pieces_due 0 (2 ^ tail_bits s) (tally weighed s items) table))

  pub lines_are : map (line_with s cone) (tally weighed s items) ≡ tally_of items
  lines_are =
      lines_each 0 (tally weighed s items) (tally_table weighed s items (weigh_some s cone items counted)) (λ tail above. refl)
      ∙ ap (map (line_of items)) (sym keys_are)

-- the lines of a region are the tally of the items that it counts, and what is behind any of them ends it
pub stands_tally : (census : Census) (history : List Packet) → StandsFor census history → lines_of census ≡ tally_of (events_of history)
stands_tally census history stands =
    ap (map (line_with census.settings census.region)) stands.counts_are
    ∙ lines_are census.settings census.region (omega (arith, stands.valid.limits.cone_bits_to)) stands.named (events_of history) stands.counted

pub ends_tally : (made census : Census) (history : List Packet) (n : ℕ) → made ≡ census → StandsFor census history → EndsWith (tally_of (events_of history)) (drop n (lines_of made))
ends_tally made census history n is stands = (take n (lines_of made), take-append-drop n (lines_of made) ∙ ap lines_of is ∙ stands_tally census history stands)

-- behind as many lines as pieces are given, there is a line for the next piece, or none
pub next_line : (census : Census) (given more : ℕ) (piece : Piece) → drop given census.table.pieces ≡ piece ∷ drop more census.table.pieces →
    drop given (lines_of census) ≡ line_with census.settings census.region piece ∷ drop more (lines_of census)
next_line census given more piece next =
    let line : Piece → Report = line_with census.settings census.region in
    drop-map line given census.table.pieces
    ∙ ap (map line) next
    ∙ ap (λ rest. line piece ∷ rest) (sym (drop-map line more census.table.pieces))

pub no_line : (census : Census) (given : ℕ) → drop given census.table.pieces ≡ [] → drop given (lines_of census) ≡ []
no_line census given none =
    drop-map (line_with census.settings census.region) given census.table.pieces ∙ ap (map (line_with census.settings census.region)) none

pub all_lines : (census : Census) (given : ℕ) → drop given census.table.pieces ≡ census.table.pieces → drop given (lines_of census) ≡ lines_of census
all_lines census given all =
    drop-map (line_with census.settings census.region) given census.table.pieces ∙ ap (map (line_with census.settings census.region)) all

-- a piece of a table has a tail below its limit
tail_within : (least limit n : ℕ) (pieces rest : List Piece) (piece : Piece) → AscendsFrom least limit pieces → drop n pieces ≡ piece ∷ rest → piece.tail < limit
tail_within least limit zero [] rest piece ascends next = absurd (omega (arith, ap length next))
tail_within least limit (suc n) [] rest piece ascends next = absurd (omega (arith, ap length next))
tail_within least limit zero (p ∷ ps) rest piece ascends next = subst (λ (q : Piece). q.tail < limit) (ap (λ qs. get_or qs 0 piece) next) ascends.1
tail_within least limit (suc n) (p ∷ ps) rest piece ascends next = tail_within (p.tail + 1) limit n ps rest piece ascends.3 next

pub tail_below : (made census : Census) (given more bits : ℕ) (piece : Piece) → made ≡ census → IsTable (2 ^ (made.table.quotient_bits + made.table.width)) made.table.pieces →
    census.table.quotient_bits + census.table.width ≡ bits → drop given census.table.pieces ≡ piece ∷ drop more census.table.pieces → piece.tail < 2 ^ bits
tail_below made census given more bits piece same table whole next =
    subst (λ n. piece.tail < 2 ^ n) whole
    (tail_within 0 (2 ^ (census.table.quotient_bits + census.table.width)) given census.table.pieces (drop more census.table.pieces) piece
    (subst (λ (v : Census). IsTable (2 ^ (v.table.quotient_bits + v.table.width)) v.table.pieces) same table) next)
