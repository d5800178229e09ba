-- How the tables of level 0 change, as its bins.
use Rattle.std.proofs.Common.{ℕ, zero, suc, ◌≡◌, ◌+◌, ◌-◌, ◌*◌, ◌/◌, ◌%◌, ◌<◌, ◌≤◌, cond, min, List, [], ◌∷◌, ◌++◌, length, get_or, set, map, refl, ap, ap₂, sym, ◌∙◌, subst, arith, inl, inr}
use Rattle.std.proofs.{Common.length-append, Math.Nat.{div-add-mod, mod-lt, suc-mul}, lemmas.Bool.{lt-ltb, le-ltb, eq-eqb, ne_eqb, cases_lt}, Math.ListN.get_or-append, Math.Seq.get_or-append_seam}
use Rattle.std.proofs.lemmas.Nat.{mod-mul-add}
use Rattle.lert_base.specs.declared.count_table.CountTable.{Ghosts as TablesOf}
use Rattle.lert_spec.specs.{declared.numbers.Numbers.Numbers, declared.piece.Piece.Piece, Bins.Bin, Edges.{span, quotient_bits, width, tail_bits}, Limits.IsValid, Table.{costs, plus}}
use Rattle.lert_spec.proofs.LimitLaws.{quotient_bits_by_zeros}
use Rattle.lert_levels.specs.rows.Young.{Young, grown, begun, added, bins_of, IsOfZero, IsFilled, AreFilled}

-- no bin is behind the last position
pub bins_of-none : (wide from to : ℕ) (tables : List (List Piece)) → to ≤ from → bins_of wide from to tables ≡ []
bins_of-none wide from to [] over = refl
bins_of-none wide from to (p ∷ tables) over =
    ap (λ t. cond {A = List Bin} t (record { from = from; to = min to (from + wide); pieces = p } ∷ bins_of wide (from + wide) to tables) []) (le-ltb from to over)

pub bins_of-some : (wide from to : ℕ) (p : List Piece) (tables : List (List Piece)) → from < to →
    bins_of wide from to (p ∷ tables) ≡ record { from = from; to = min to (from + wide); pieces = p } ∷ bins_of wide (from + wide) to tables
bins_of-some wide from to p tables under =
    ap (λ t. cond {A = List Bin} t (record { from = from; to = min to (from + wide); pieces = p } ∷ bins_of wide (from + wide) to tables) []) (lt-ltb from to under)

pub bins_of-length : (wide from to : ℕ) (tables : List (List Piece)) → from < to → 1 ≤ length tables → 1 ≤ length (bins_of wide from to tables)
bins_of-length wide from to [] under some = absurd (omega arith)
bins_of-length wide from to (p ∷ tables) under some = omega (arith, ap length (bins_of-some wide from to p tables under))

-- only the newest bin grows
grown-behind : (bin : Bin) (bins : List Bin) (tail weight m : ℕ) → 1 ≤ length bins → grown (bin ∷ bins) tail weight m ≡ bin ∷ grown bins tail weight m
grown-behind bin [] tail weight m some = absurd (omega arith)
grown-behind bin (next ∷ bins) tail weight m some = refl

-- a position behind whole bins begins a bin in the next table
pub bins_of-begin : (wide from at n : ℕ) (tables : List (List Piece)) (pieces : List Piece) → 1 ≤ wide → n ≡ from + at * wide → at < length tables →
    bins_of wide from (suc n) (set tables at pieces) ≡ bins_of wide from n tables ++ record { from = n; to = suc n; pieces = pieces } ∷ []
bins_of-begin wide from at n [] pieces positive is within = absurd (omega arith)
bins_of-begin wide from zero n (p ∷ tables) pieces positive is within =
    let start : from ≡ n = omega arith in
    let end : min (suc n) (from + wide) ≡ suc n = omega arith in
    bins_of-some wide from (suc n) pieces tables (omega arith)
    ∙ ap₂ (λ bin bins. bin ∷ bins) (λ i. record { from = start i; to = end i; pieces = pieces }) (bins_of-none wide (from + wide) (suc n) tables (omega arith))
    ∙ ap (λ bins. bins ++ record { from = n; to = suc n; pieces = pieces } ∷ []) (sym (bins_of-none wide from n (p ∷ tables) (omega arith)))
bins_of-begin wide from (suc at) n (p ∷ tables) pieces positive is within =
    let step = suc-mul at wide in
    let same : min (suc n) (from + wide) ≡ min n (from + wide) = omega arith in
    bins_of-some wide from (suc n) p (set tables at pieces) (omega arith)
    ∙ ap₂ (λ bin bins. bin ∷ bins) (λ i. record { from = from; to = same i; pieces = p }) (bins_of-begin wide (from + wide) at n tables pieces positive (omega arith) (omega arith))
    ∙ ap (λ bins. bins ++ record { from = n; to = suc n; pieces = pieces } ∷ []) (sym (bins_of-some wide from n p tables (omega arith)))

-- a position inside of the newest bin makes it grow
pub bins_of-grow : (wide from at n tail weight : ℕ) (tables : List (List Piece)) → 1 ≤ wide → from + at * wide < n → n < from + suc at * wide → at < length tables →
    bins_of wide from (suc n) (set tables at (plus (get_or tables at []) tail weight)) ≡ grown (bins_of wide from n tables) tail weight (suc n)
bins_of-grow wide from at n tail weight [] positive above below within = absurd (omega arith)
bins_of-grow wide from zero n tail weight (p ∷ tables) positive above below within =
    let step = suc-mul zero wide in
    let end : min (suc n) (from + wide) ≡ suc n = omega arith in
    let end' : min n (from + wide) ≡ n = omega arith in
    bins_of-some wide from (suc n) (plus p tail weight) tables (omega arith)
    ∙ ap₂ (λ bin bins. bin ∷ bins) (λ i. record { from = from; to = end i; pieces = plus p tail weight }) (bins_of-none wide (from + wide) (suc n) tables (omega arith))
    ∙ ap (λ bins. grown bins tail weight (suc n)) (sym (bins_of-some wide from n p tables (omega arith)
    ∙ ap₂ (λ bin bins. bin ∷ bins) (λ i. record { from = from; to = end' i; pieces = p }) (bins_of-none wide (from + wide) n tables (omega arith))))
bins_of-grow wide from (suc at) n tail weight (p ∷ tables) positive above below within =
    let step = suc-mul at wide in
    let next = suc-mul (suc at) wide in
    let same : min (suc n) (from + wide) ≡ min n (from + wide) = omega arith in
    bins_of-some wide from (suc n) p (set tables at (plus (get_or tables at []) tail weight)) (omega arith)
    ∙ ap₂ (λ bin bins. bin ∷ bins) (λ i. record { from = from; to = same i; pieces = p })
    (bins_of-grow wide (from + wide) at n tail weight tables positive (omega arith) (omega arith) (omega arith))
    ∙ sym (grown-behind (record { from = from; to = min n (from + wide); pieces = p }) (bins_of wide (from + wide) n tables) tail weight (suc n)
    (bins_of-length wide (from + wide) n tables (omega arith) (omega arith)))
    ∙ ap (λ bins. grown bins tail weight (suc n)) (sym (bins_of-some wide from n p tables (omega arith)))

-- the bits of quotient and remainder are those of a tail
pub bits_of_zero : (s : Numbers) {room quotient remainder : ℕ} → IsValid s → IsOfZero s room quotient remainder → quotient + remainder ≡ tail_bits s
bits_of_zero s valid numbers =
    let few = quotient_bits_by_zeros s 0 valid (omega arith) in
    omega (arith, numbers.quotients, numbers.remainders, few.0, few.1, valid.limits.cone_bits_to)

-- a table of the same numbers
pub same_numbers : (s : Numbers) {room quotient remainder room' quotient' remainder' : ℕ} → IsOfZero s room quotient remainder →
    room' ≡ room → quotient' ≡ quotient → remainder' ≡ remainder → IsOfZero s room' quotient' remainder'
same_numbers s numbers room_is quotient_is remainder_is = record {
  events = room_is ∙ numbers.events;
  quotients = quotient_is ∙ numbers.quotients;
  remainders = remainder_is ∙ numbers.remainders;
}

-- ---- the table of the next position

pub record IsPlace (wide from n at : ℕ) : Type 0 where
  pub low : from + at * wide ≤ n
  pub high : n < from + suc at * wide
  pub rest : ℕ
  pub rest_is : n ≡ from + at * wide + rest
  pub few : rest < wide

pub place_of : (wide from n : ℕ) → 1 ≤ wide → from ≤ n → IsPlace wide from n ((n - from) / wide)
place_of wide from n positive ordered =
    let at = (n - from) / wide in
    let parts = div-add-mod (n - from) wide in
    let few = mod-lt (n - from) {m = wide} positive in
    let turned : wide * at ≡ at * wide = omega arith in
    let step = suc-mul at wide in
    record { low = omega arith; high = omega arith; rest = (n - from) % wide; rest_is = omega arith; few = few }

-- whole intervals and some positions more leave these
pub rest_of : (wide from n at rest : ℕ) → from % wide ≡ 0 → n ≡ from + at * wide + rest → rest < wide → n % wide ≡ rest
rest_of wide from n at rest aligned is few =
    let parts = div-add-mod from wide in
    let whole : n ≡ (from / wide + at) * wide + rest = omega arith in
    ap (λ m. m % wide) whole ∙ mod-mul-add (from / wide + at) wide rest few

-- a position at the end of whole intervals begins one, and another doesn't
pub added-begin : (s : Numbers) (bins : List Bin) (tail weight from at n : ℕ) → from % span s 0 ≡ 0 → 1 ≤ span s 0 → n ≡ from + at * span s 0 →
    added s bins tail weight (suc n) ≡ bins ++ record { from = n; to = suc n; pieces = record { tail = tail; count = weight } ∷ [] } ∷ []
added-begin s bins tail weight from at n aligned positive is =
    let before : suc n - 1 ≡ n = omega arith in
    let first : (suc n - 1) % span s 0 ≡ 0 = ap (λ m. m % span s 0) before ∙ rest_of (span s 0) from n at 0 aligned (omega arith) positive in
    ap (λ t. cond {A = List Bin} t (bins ++ begun tail weight (suc n) ∷ []) (grown bins tail weight (suc n))) (eq-eqb ((suc n - 1) % span s 0) 0 first)
    ∙ ap (λ m. bins ++ record { from = m; to = suc n; pieces = record { tail = tail; count = weight } ∷ [] } ∷ []) before

pub added-grow : (s : Numbers) (bins : List Bin) (tail weight from at n : ℕ) → from % span s 0 ≡ 0 → from + at * span s 0 < n → n < from + suc at * span s 0 →
    added s bins tail weight (suc n) ≡ grown bins tail weight (suc n)
added-grow s bins tail weight from at n aligned above below =
    let step = suc-mul at (span s 0) in
    let rest = n - (from + at * span s 0) in
    let some : (suc n - 1) % span s 0 ≡ rest = ap (λ m. m % span s 0) (let before : suc n - 1 ≡ n = omega arith in before)
    ∙ rest_of (span s 0) from n at rest aligned (omega arith) (omega arith) in
    ap (λ t. cond {A = List Bin} t (bins ++ begun tail weight (suc n) ∷ []) (grown bins tail weight (suc n))) (ne_eqb ((suc n - 1) % span s 0) 0 (λ e. omega arith))

pub some_bins : (s : Numbers) → IsValid s → 1 ≤ s.bins
some_bins s valid = omega (arith, valid.limits.bins_from)

-- ---- no event yet

-- the tables so far are empty
pub record AreEmpty {T C : Type 0} (of : TablesOf T C) (s : Numbers) (tables : List T) (count : ℕ) : Type 0 where
  pub len : length tables ≡ count
  pub each : (k : ℕ) (d : T) → k < length tables → IsFilled of s 0 0 k (get_or tables k d)

pub empty_begin : {T C : Type 0} (of : TablesOf T C) (s : Numbers) (tables : List T) → tables ≡ [] →
    AreEmpty of s tables 0
empty_begin of s tables none = record { len = ap length none; each = λ k d below. absurd (omega (arith, ap length none)) }

pub empty_more : {T C : Type 0} (of : TablesOf T C) (s : Numbers) (tables : List T) (count : ℕ) →
    AreEmpty of s tables count → (table : T) →
    of.pieces table ≡ [] → of.adds table ≡ 0 → of.room table ≡ span s 0 → of.quotient_bits table ≡ quotient_bits s 0 → of.width table ≡ width s 0 →
    AreEmpty of s (tables ++ table ∷ []) (count + 1)
empty_more {T} {C} of s tables count empty table pieces_are adds_is room_is quotient_is remainder_is = record {
  len = omega (arith, length-append tables (table ∷ []), empty.len);
  each = λ k d below. let len = length-append tables (table ∷ []) in elim (cases_lt k (length tables)) [
    | inl inner ↦ subst (λ (t : T). IsFilled of s 0 0 k t) (sym (get_or-append tables (table ∷ []) d k inner)) (empty.each k d inner)
    | inr outer ↦ (
        let last : k ≡ length tables = omega arith in
        let at_it : get_or (tables ++ table ∷ []) k d ≡ table = ap (λ n. get_or (tables ++ table ∷ []) n d) last ∙ get_or-append_seam tables table [] d in
        subst (λ (t : T). IsFilled of s 0 0 k t) (sym at_it) (record {
          added = adds_is ∙ omega arith;
          costly = omega (arith, adds_is, ap (costs 2) pieces_are);
          heavy = omega (arith, adds_is);
          unused = λ _. pieces_are;
          of_zero = record { events = room_is; quotients = quotient_is; remainders = remainder_is };
        }))
  ];
}

pub empty_filled : {T C : Type 0} (of : TablesOf T C) (s now : Numbers) (tables : List T) (count : ℕ) → now ≡ s → IsValid now →
    AreEmpty of s tables count →
    now.bins ≤ count → count ≤ now.bins → AreFilled of s tables 0 0
empty_filled of s now tables count same valid empty least most = record {
  valid = subst IsValid same valid;
  len = omega (arith, empty.len, ap (λ (n : Numbers). n.bins) same);
  aligned = (let parts = div-add-mod 0 (span s 0) in omega arith);
  ordered = omega arith;
  within = omega arith;
  last = omega arith;
  each = empty.each;
}

pub empty_bins : {T : Type 0} (pieces : T → List Piece) (s : Numbers) (tables : List T) →
    ◌≡◌ {A = Young} (record { settings = s; from = 0; to = 0; bins = bins_of (span s 0) 0 0 (map pieces tables) }) (record { settings = s; from = 0; to = 0; bins = [] })
empty_bins pieces s tables = ap (λ (bins : List Bin). record { settings = s; from = 0; to = 0; bins = bins }) (bins_of-none (span s 0) 0 0 (map pieces tables) (omega arith))
