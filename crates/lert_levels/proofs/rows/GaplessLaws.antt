-- Ranges without gaps: those of a level's bins, and those of the bins of all levels together.
use Rattle.std.proofs.Common.{ℕ, ◌≡◌, ◌+◌, ◌-◌, ◌*◌, ◌/◌, ◌<◌, ◌≤◌, zero, suc, cond, List, [], ◌∷◌, ◌++◌, length, map, get_or, take, drop, refl, ap, ap₂, sym, ◌∙◌, arith}
use Rattle.std.proofs.{Common.{inl, inr, subst, flat_map, slice_range, append_assoc}, Math.Nat.mul-le-mul_right, Math.Seq.{take-append_seam, drop-append_seam}}
use Rattle.std.proofs.{lemmas.Bool.{cases_lt, lt-ltb, le-ltb}, lemmas.List.{map-append, length-append}}
use Rattle.std.proofs.lemmas.List.Elements.{All-nil, All-cons, All-head, All-tail, All-append, All-take, All-drop}
use Rattle.std.specs.List.{All}
use Rattle.lert_spec.specs.{declared.numbers.Numbers.Numbers, Edges.{span, edge}}
use Rattle.lert_spec.proofs.EdgeLaws.{span_pos, edge_descends_to}
use Rattle.lert_levels.specs.{declared.rows.bin_at.BinAt.BinAt, rows.Loading.width_of, rows.Ranges.{Range, range_at, ranges}, rows.Rows.{range_of, IsAt}}
use Rattle.lert_levels.proofs.{rows.RangeLaws.{range_cuts, edge_within}, rows.Windows.{clamp, reaches}}

-- ---- ranges without gaps

-- the first of them begins at a position, each other one at the end of the one before, and the last one ends at a position
abbrev pub IsGapless : ℕ → List Range → ℕ → Type 0
IsGapless from [] to = from ≡ to
IsGapless from (range ∷ rest) to = (range.from ≡ from) × (range.from ≤ range.to) × IsGapless range.to rest to

pub gapless-append : (from mid to : ℕ) (first second : List Range) → IsGapless from first mid → IsGapless mid second to → IsGapless from (first ++ second) to
gapless-append from mid to [] second before behind = subst (λ n. IsGapless n second to) (sym before) behind
gapless-append from mid to (range ∷ first) second before behind = (before.0, before.1, gapless-append range.to mid to first second before.2 behind)

-- the cut intervals have no gap
pub cuts_gapless : (wide low high first n : ℕ) → low ≤ high → IsGapless (clamp low high (first * wide)) (range_cuts wide low high first n) (clamp low high ((first + n) * wide))
cuts_gapless wide low high first zero ordered = ap (λ k. clamp low high (k * wide)) (let same : first ≡ first + 0 = omega arith in same)
cuts_gapless wide low high first (suc n) ordered =
    let range = range_at wide low high first in
    let others = range_cuts wide low high (first + 1) n in
    let next : first + 1 ≡ suc first = omega arith in
    let end : first + 1 + n ≡ first + suc n = omega arith in
    let last = clamp low high ((first + suc n) * wide) in
    let rest : IsGapless (clamp low high (suc first * wide)) others last =
    subst (λ k. IsGapless (clamp low high (suc first * wide)) others (clamp low high (k * wide))) end
    (subst (λ k. IsGapless (clamp low high (k * wide)) others (clamp low high ((first + 1 + n) * wide))) next (cuts_gapless wide low high (first + 1) n ordered)) in
    let up = mul-le-mul_right wide (let at_most : first ≤ suc first = omega arith in at_most) in
    elim (cases_lt range.from range.to) [
      | inl some ↦ (
          let from_is : range.from ≡ clamp low high (first * wide) = omega arith in
          let to_is : clamp low high (suc first * wide) ≡ range.to = omega arith in
          let whole : IsGapless (clamp low high (first * wide)) (range ∷ others) last = (from_is, omega arith, subst (λ k. IsGapless k others last) to_is rest) in
          subst (λ t. IsGapless (clamp low high (first * wide)) (cond t (range ∷ others) others) last) (sym (lt-ltb range.from range.to some)) whole)
      | inr none ↦ (
          let same : clamp low high (suc first * wide) ≡ clamp low high (first * wide) = omega arith in
          subst (λ t. IsGapless (clamp low high (first * wide)) (cond t (range ∷ others) others) last) (sym (le-ltb range.from range.to none))
          (subst (λ k. IsGapless k others last) same rest))
    ]

-- nor have those of a level, between the edges around it
pub ranges_gapless : (s : Numbers) → 1 ≤ s.base → 1 ≤ s.ratio → (n below : ℕ) → IsGapless (edge s (suc below) n) (ranges s n (suc below)) (edge s below n)
ranges_gapless s base ratio n below =
    let level = suc below in
    let wide = span s level in
    let low = edge s level n in
    let high = edge s below n in
    let count = suc (n / wide) in
    let descends = subst (λ i. edge s i n ≤ high) (let same : below + 1 ≡ suc below = omega arith in same) (edge_descends_to s base ratio below 1 n) in
    let covers = reaches n wide high (span_pos s level base ratio) (edge_within s below n) in
    let product = ap (λ k. k * wide) (let same : 0 + count ≡ count = omega arith in same) in
    let start : clamp low high (0 * wide) ≡ low = omega arith in
    let end : clamp low high ((0 + count) * wide) ≡ high = omega arith in
    let place : below ≡ level - 1 = omega arith in
    let cut : IsGapless low (range_cuts wide low high 0 count) high =
    subst (λ k. IsGapless k (range_cuts wide low high 0 count) high) start
    (subst (λ k. IsGapless (clamp low high (0 * wide)) (range_cuts wide low high 0 count) k) end (cuts_gapless wide low high 0 count descends)) in
    subst (λ k. IsGapless low (range_cuts wide low (edge s k n) 0 count) high) place cut

-- ---- one list for all bins

-- the parts of a list of which something holds
pub All-left : {X : Type 0} (P : X → Type 0) (xs ys : List X) → All P (xs ++ ys) → All P xs
All-left P xs ys all = subst (All P) (take-append_seam xs ys) (All-take P (length xs) (xs ++ ys) all)

pub All-right : {X : Type 0} (P : X → Type 0) (xs ys : List X) → All P (xs ++ ys) → All P ys
All-right P xs ys all = subst (All P) (drop-append_seam xs ys) (All-drop P (length xs) (xs ++ ys) all)

-- what bins without gaps have stands at the bins' positions, as much as each is wide
pub keys_stand : {X : Type 0} (keys : BinAt → List X) (front : List X) (bins : List BinAt) (to : ℕ) → IsGapless (length front) (map range_of bins) to →
    All (λ (bin : BinAt). length (keys bin) ≡ width_of bin) bins →
    All (λ (bin : BinAt). slice_range (front ++ flat_map keys bins) bin.from bin.to ≡ keys bin) bins
keys_stand keys front [] to gapless widths = All-nil (λ (bin : BinAt). slice_range (front ++ flat_map keys []) bin.from bin.to ≡ keys bin)
keys_stand keys front (bin ∷ bins) to gapless widths =
    let Wide = λ (b : BinAt). length (keys b) ≡ width_of b in
    let own = keys bin in
    let rest = flat_map keys bins in
    let wide : length own ≡ bin.to - bin.from = All-head Wide bin bins widths in
    let grown : bin.to ≡ length (front ++ own) = omega (arith, gapless.0, gapless.1, length-append front own) in
    let here : slice_range (front ++ (own ++ rest)) bin.from bin.to ≡ own =
    ap₂ (λ k from. take k (drop from (front ++ (own ++ rest)))) (sym wide) gapless.0
    ∙ ap (take (length own)) (drop-append_seam front (own ++ rest))
    ∙ take-append_seam own rest in
    let later = keys_stand keys (front ++ own) bins to (subst (λ k. IsGapless k (map range_of bins) to) grown gapless.2) (All-tail Wide bin bins widths) in
    All-cons (λ (b : BinAt). slice_range (front ++ (own ++ rest)) b.from b.to ≡ keys b) bin bins here
    (subst (λ list. All (λ (b : BinAt). slice_range list b.from b.to ≡ keys b) bins) (append_assoc front own rest) later)

-- and is as much as there are positions
pub keys_many : {X : Type 0} (keys : BinAt → List X) (bins : List BinAt) (from to : ℕ) → IsGapless from (map range_of bins) to → All (λ (bin : BinAt). length (keys bin) ≡ width_of bin) bins →
    from + length (flat_map keys bins) ≡ to
keys_many keys [] from to gapless widths = omega arith
keys_many keys (bin ∷ bins) from to gapless widths =
    let Wide = λ (b : BinAt). length (keys b) ≡ width_of b in
    let wide : length (keys bin) ≡ bin.to - bin.from = All-head Wide bin bins widths in
    let rest = keys_many keys bins bin.to to gapless.2 (All-tail Wide bin bins widths) in
    omega (arith, gapless.0, gapless.1, length-append (keys bin) (flat_map keys bins))

-- the bins of the levels up to one, oldest first
abbrev pub joined : List (List BinAt) → ℕ → List BinAt
joined rows zero = []
joined rows (suc level) = get_or rows level [] ++ joined rows level

-- what holds of each row's bins holds of these
pub All-joined : (P : BinAt → Type 0) (rows : List (List BinAt)) (level : ℕ) → ((k : ℕ) → k < level → All P (get_or rows k [])) → All P (joined rows level)
All-joined P rows zero each = All-nil P
All-joined P rows (suc level) each = All-append P (get_or rows level []) (joined rows level) (each level (omega arith)) (All-joined P rows level (λ k less. each k (omega arith)))

-- and the other way
pub All-row : (P : BinAt → Type 0) (rows : List (List BinAt)) (level : ℕ) → All P (joined rows level) → (k : ℕ) → k < level → All P (get_or rows k [])
All-row P rows zero all k less = absurd (omega arith)
All-row P rows (suc level) all k less =
    let row = get_or rows level [] in
    elim (cases_lt k level) [
      | inl younger ↦ All-row P rows level (All-right P row (joined rows level) all) k younger
      | inr last ↦ subst (λ i. All P (get_or rows i [])) (let same : level ≡ k = omega arith in same) (All-left P row (joined rows level) all)
    ]

module _ (s : Numbers) (base : 1 ≤ s.base) (ratio : 1 ≤ s.ratio) (n : ℕ) (rows : List (List BinAt)) (at : IsAt s n rows) where
  -- the bins of all levels have no gap
  pub joined_gapless : (level : ℕ) → level ≤ s.levels → IsGapless (edge s level n) (map range_of (joined rows level)) (edge s 0 n)
  joined_gapless zero within = refl
  joined_gapless (suc level) within =
      let row = get_or rows level [] in
      let are : ranges s n (suc level) ≡ map range_of row =
      sym (at.each (suc level) (omega arith) within) ∙ ap (λ k. map range_of (get_or rows k [])) (let same : suc level - 1 ≡ level = omega arith in same) in
      subst (λ list. IsGapless (edge s (suc level) n) list (edge s 0 n)) (sym (map-append range_of row (joined rows level)))
      (gapless-append (edge s (suc level) n) (edge s level n) (edge s 0 n) (map range_of row) (map range_of (joined rows level))
      (subst (λ list. IsGapless (edge s (suc level) n) list (edge s level n)) are (ranges_gapless s base ratio n level))
      (joined_gapless level (omega arith)))
