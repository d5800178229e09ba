-- The quotients that have a run: of pieces, and as marked by bits.
use Rattle.std.proofs.Common.{◌≡◌, ℕ, suc, zero, ◌+◌, ◌-◌, ◌*◌, ◌/◌, ◌^◌, ◌<◌, ◌≤◌, ◌==◌, ◌||◌, not, Bool, true, false, cond, List, [], ◌∷◌, ◌++◌, length, drop, map}
use Rattle.std.proofs.Common.{replicate, refl, sym, ap, ap₂, ◌∙◌, subst, add-zero, inl, inr, arith, eq-eqb, ne_eqb, eqb-true, pow_pos}
use Rattle.std.specs.List.{range_with_len, list_any}
use Rattle.std.proofs.lemmas.Bool.{cases_eq, cases_Bool, true≢false, not-false}
use Rattle.std.proofs.lemmas.Nat.{div_below, le-div}
use Rattle.std.proofs.Math.Nat.{div-mul-le_self}
use Rattle.lert_slotbits.specs.Bits.{trues}
use Rattle.lert_spec.specs.declared.piece.Piece.{Piece}
use Rattle.lert_spec.specs.Table.{AscendsFrom}
use Rattle.lert_blocks.specs.Text.{quotient_of, group_of, is_last, ends_of, occupied_of}
use Rattle.lert_blocks.specs.Walk.{places}
use Rattle.lert_blocks.proofs.BitLaws.{trues-cons}

-- the quotients of pieces, each once
abbrev pub runs : ℕ → List Piece → List ℕ
runs width [] = []
runs width (p ∷ ps) = quotient_of width p ∷ (cond (is_last width p ps) (runs width ps) (drop 1 (runs width ps)))

-- numbers that rise from `low` on and stay below `high`
abbrev pub Rises : ℕ → ℕ → List ℕ → Type 0
Rises low high [] = Unit {0}
Rises low high (q ∷ qs) = (low ≤ q) × (q < high) × Rises (q + 1) high qs

-- ---- the run of a piece

-- the next piece is of the same run
pub run_goes_on : (width : ℕ) (p : Piece) (ps : List Piece) → is_last width p ps ≡ false → quotient_of width p ∷ drop 1 (runs width ps) ≡ runs width ps
run_goes_on width p [] on = absurd (true≢false on)
run_goes_on width p (next ∷ ps) on =
    let same : quotient_of width next ≡ quotient_of width p = eqb-true (quotient_of width next) (quotient_of width p) (not-false (quotient_of width next == quotient_of width p) on) in
    ap (λ q. q ∷ cond (is_last width next ps) (runs width ps) (drop 1 (runs width ps))) (sym same)

-- a piece whose quotient is below those behind it is the last one of its run, and one whose quotient is the first of them isn't
pub last_before : (width : ℕ) (p : Piece) (ps : List Piece) (qs : List ℕ) (high : ℕ) → runs width ps ≡ qs → Rises (quotient_of width p + 1) high qs → is_last width p ps ≡ true
last_before width p [] qs high are rise = refl
last_before width p (next ∷ ps) qs high are rise =
    let above = subst (λ (ks : List ℕ). Rises (quotient_of width p + 1) high ks) (sym are) rise in
    ap not (ne_eqb (quotient_of width next) (quotient_of width p) (λ e. omega (arith, e, above.0)))

pub not_last : (width q : ℕ) (p : Piece) (ps : List Piece) (qs : List ℕ) → quotient_of width p ≡ q → runs width ps ≡ q ∷ qs → is_last width p ps ≡ false
not_last width q p [] qs is are = absurd (nothing_first q qs are)
  where
    nothing_first : (q : ℕ) (qs : List ℕ) → [] ≡ q ∷ qs → ⊥
    nothing_first q qs e = cc
not_last width q p (next ∷ ps) qs is are =
    let first : quotient_of width next ≡ q = first_same (quotient_of width next) q (cond (is_last width next ps) (runs width ps) (drop 1 (runs width ps))) qs are in
    ap not (eq-eqb (quotient_of width next) (quotient_of width p) (first ∙ sym is))
  where
    first_same : (a b : ℕ) (xs ys : List ℕ) → a ∷ xs ≡ b ∷ ys → a ≡ b
    first_same a b xs ys e = cc

-- ---- the quotients of pieces in order

quotient_grows : (width a b : ℕ) → a ≤ b → a / 2 ^ width ≤ b / 2 ^ width
quotient_grows width a b h = le-div (a / 2 ^ width) b (2 ^ width) (pow_pos width) (let under = div-mul-le_self a (2 ^ width) in omega arith)

-- within wider bounds
pub rises_to : (low more least high : ℕ) (qs : List ℕ) → low ≤ more → least ≤ high → Rises more least qs → Rises low high qs
rises_to low more least high [] wide up rise = tt
rises_to low more least high (q ∷ qs) wide up rise = (omega (arith, rise.0, wide), omega (arith, rise.1, up), rises_to (q + 1) (q + 1) least high qs (omega arith) up rise.2)

-- the quotients behind a piece
rises_behind : (width low high limit : ℕ) (p : Piece) (ps : List Piece) → AscendsFrom (p.tail + 1) limit ps → Rises low high (runs width ps)
    → Rises (quotient_of width p + 1) high (cond (is_last width p ps) (runs width ps) (drop 1 (runs width ps)))
rises_behind width low high limit p [] up rise = tt
rises_behind width low high limit p (next ∷ ps) up rise =
    let above : quotient_of width p ≤ quotient_of width next = quotient_grows width p.tail next.tail (omega (arith, up.0)) in
    elim (cases_eq (quotient_of width next) (quotient_of width p)) [
      | inl same ↦ subst (λ (b : Bool). Rises (quotient_of width p + 1) high (cond (not b) (runs width (next ∷ ps)) (drop 1 (runs width (next ∷ ps)))))
          (sym (eq-eqb (quotient_of width next) (quotient_of width p) same)) (subst (λ q. Rises (q + 1) high (drop 1 (runs width (next ∷ ps)))) same rise.2)
      | inr other ↦ subst (λ (b : Bool). Rises (quotient_of width p + 1) high (cond (not b) (runs width (next ∷ ps)) (drop 1 (runs width (next ∷ ps)))))
          (sym (ne_eqb (quotient_of width next) (quotient_of width p) other)) (omega (arith, above, other), rise.1, rise.2)
    ]

pub runs_rise : (width low limit high : ℕ) (ps : List Piece) → limit ≤ high * 2 ^ width → AscendsFrom low limit ps → Rises (low / 2 ^ width) high (runs width ps)
runs_rise width low limit high [] fits up = tt
runs_rise width low limit high (p ∷ ps) fits up =
    let from : low / 2 ^ width ≤ quotient_of width p = quotient_grows width low p.tail up.0 in
    let below : quotient_of width p < high = div_below p.tail (2 ^ width) high (pow_pos width) (omega (arith, up.1, fits)) in
    (from, below, rises_behind width ((p.tail + 1) / 2 ^ width) high limit p ps up.3 (runs_rise width (p.tail + 1) limit high ps fits up.3))

-- every piece's quotient is one of its run
pub any_of_runs : (width k : ℕ) (ps : List Piece) → list_any (λ q. q == k) (runs width ps) ≡ list_any (λ p. quotient_of width p == k) ps
any_of_runs width k [] = refl
any_of_runs width k (p ∷ ps) = elim (cases_Bool (is_last width p ps)) [
  | inl last ↦ ap (λ b. (quotient_of width p == k) || list_any (λ q. q == k) (cond b (runs width ps) (drop 1 (runs width ps)))) last
      ∙ ap (λ b. (quotient_of width p == k) || b) (any_of_runs width k ps)
  | inr on ↦ ap (λ b. (quotient_of width p == k) || list_any (λ q. q == k) (cond b (runs width ps) (drop 1 (runs width ps)))) on
      ∙ (twice (quotient_of width p == k) (list_any (λ q. q == k) (drop 1 (runs width ps))) (list_any (λ p. quotient_of width p == k) ps)
      (ap (list_any (λ q. q == k)) (run_goes_on width p ps on) ∙ any_of_runs width k ps))
]
  where
    twice : (a b c : Bool) → (a || b) ≡ c → (a || b) ≡ (a || c)
    twice true b c e = refl
    twice false b c e = e

-- the bits before a run end aren't set
pub trues_before : (n : ℕ) (b : Bool) (ends : List Bool) → trues (replicate n false ++ b ∷ ends) ≡ cond b 1 0 + trues ends
trues_before zero b ends = trues-cons b ends
trues_before (suc n) b ends = trues-cons false (replicate n false ++ b ∷ ends) ∙ (let e = trues_before n b ends in omega (arith, e))

-- there are as many run ends as runs
pub trues-ends_of : (width : ℕ) (ps : List Piece) → trues (ends_of width ps) ≡ length (runs width ps)
trues-ends_of width [] = refl
trues-ends_of width (p ∷ ps) =
    trues_before (length (group_of width p) - 1) (is_last width p ps) (ends_of width ps)
    ∙ (ap (λ n. cond {A = ℕ} (is_last width p ps) 1 0 + n) (trues-ends_of width ps)
    ∙ elim (cases_Bool (is_last width p ps)) [
      | inl last ↦ rw last (omega arith)
      | inr on ↦ (let more = ap (λ (qs : List ℕ). length qs) (run_goes_on width p ps on) in rw on (omega (arith, more)))
    ])

-- ---- quotients as bits mark them

-- which of so many numbers from `first` on are among these
abbrev marks : ℕ → ℕ → List ℕ → List Bool
marks first zero qs = []
marks first (suc n) qs = list_any (λ q. q == first) qs ∷ marks (first + 1) n qs

marks_from : (base n j : ℕ) (qs : List ℕ) → map (λ k. list_any (λ q. q == base + k) qs) (range_with_len j n) ≡ marks (base + j) n qs
marks_from base zero j qs = refl
marks_from base (suc n) j qs =
    ap (λ (bs : List Bool). list_any (λ q. q == base + j) qs ∷ bs)
    (marks_from base n (j + 1) qs ∙ ap (λ k. marks k n qs) (let e : base + (j + 1) ≡ base + j + 1 = omega arith in e))

occupied_marks : (width block : ℕ) (ps : List Piece) → occupied_of width block ps ≡ marks (64 * block) 64 (runs width ps)
occupied_marks width block ps =
    map_same (λ k. list_any (λ p. quotient_of width p == 64 * block + k) ps) (λ k. list_any (λ q. q == 64 * block + k) (runs width ps))
    (λ k. sym (any_of_runs width (64 * block + k) ps)) (range_with_len 0 64)
    ∙ (marks_from (64 * block) 64 0 (runs width ps) ∙ ap (λ k. marks k 64 (runs width ps)) (add-zero (64 * block)))
  where
    map_same : (f g : ℕ → Bool) → ((k : ℕ) → f k ≡ g k) → (ks : List ℕ) → map f ks ≡ map g ks
    map_same f g same [] = refl
    map_same f g same (k ∷ ks) = ap₂ (λ b (bs : List Bool). b ∷ bs) (same k) (map_same f g same ks)

-- none of these is below the least of them
none_below : (k low high : ℕ) (qs : List ℕ) → k < low → Rises low high qs → list_any (λ q. q == k) qs ≡ false
none_below k low high [] less rise = refl
none_below k low high (q ∷ qs) less rise =
    ap₂ (λ a b. a || b) (ne_eqb q k (λ e. omega (arith, e, less, rise.0))) (none_below k (q + 1) high qs (omega (arith, less, rise.0)) rise.2)

-- one that is below them marks nothing
marks_above : (first n q : ℕ) (qs : List ℕ) → q < first → marks first n (q ∷ qs) ≡ marks first n qs
marks_above first zero q qs less = refl
marks_above first (suc n) q qs less =
    ap₂ (λ b (bs : List Bool). (b || list_any (λ k. k == first) qs) ∷ bs) (ne_eqb q first (λ e. omega (arith, e, less))) (marks_above (first + 1) n q qs (omega (arith, less)))

places-marks : (first n : ℕ) (qs : List ℕ) → Rises first (first + n) qs → places first (marks first n qs) ≡ qs
places-marks first zero [] rise = refl
places-marks first zero (q ∷ qs) rise = absurd (omega (arith, rise.0, rise.1))
places-marks first (suc n) [] rise = places-marks (first + 1) n [] tt
places-marks first (suc n) (q ∷ qs) rise = elim (cases_eq q first) [
  | inl same ↦ (let none = none_below first (q + 1) (first + suc n) qs (omega (arith, same)) rise.2 in
      ap (λ b. cond (b || list_any (λ k. k == first) qs) (first ∷ places (first + 1) (marks (first + 1) n (q ∷ qs))) (places (first + 1) (marks (first + 1) n (q ∷ qs)))) (eq-eqb q first same)
      ∙ ap₂ (λ k (ks : List ℕ). k ∷ ks) (sym same)
      (ap (places (first + 1)) (marks_above (first + 1) n q qs (omega (arith, same)))
      ∙ places-marks (first + 1) n qs (rises_to (first + 1) (q + 1) (first + suc n) (first + 1 + n) qs (omega (arith, same)) (omega arith) rise.2)))
  | inr other ↦ (let none = none_below first (first + 1) (first + suc n) (q ∷ qs) (omega arith) (omega (arith, rise.0, other), rise.1, rise.2) in
      ap (λ b. cond b (first ∷ places (first + 1) (marks (first + 1) n (q ∷ qs))) (places (first + 1) (marks (first + 1) n (q ∷ qs)))) none
      ∙ places-marks (first + 1) n (q ∷ qs) (omega (arith, rise.0, other), omega (arith, rise.1), rises_to (q + 1) (q + 1) (first + suc n) (first + 1 + n) qs (omega arith) (omega arith) rise.2))
]

pub places_rise : (first : ℕ) (bits : List Bool) → Rises first (first + length bits) (places first bits)
places_rise first [] = tt
places_rise first (true ∷ bits) =
    let later = places_rise (first + 1) bits in
    (omega arith, omega arith, rises_to (first + 1) (first + 1) (first + 1 + length bits) (first + suc (length bits)) (places (first + 1) bits) (omega arith) (omega arith) later)
places_rise first (false ∷ bits) =
    rises_to first (first + 1) (first + 1 + length bits) (first + suc (length bits)) (places (first + 1) bits) (omega arith) (omega arith) (places_rise (first + 1) bits)

pub length-places : (first : ℕ) (bits : List Bool) → length (places first bits) ≡ trues bits
length-places first [] = refl
length-places first (true ∷ bits) = let e = length-places (first + 1) bits in sym (trues-cons true bits ∙ (omega (arith, e)))
length-places first (false ∷ bits) = let e = length-places (first + 1) bits in sym (trues-cons false bits ∙ (omega (arith, e)))

marks-places : (first : ℕ) (bits : List Bool) → marks first (length bits) (places first bits) ≡ bits
marks-places first [] = refl
marks-places first (true ∷ bits) =
    ap₂ (λ b (bs : List Bool). (b || list_any (λ k. k == first) (places (first + 1) bits)) ∷ bs) (eq-eqb first first refl)
    (marks_above (first + 1) (length bits) first (places (first + 1) bits) (omega arith) ∙ marks-places (first + 1) bits)
marks-places first (false ∷ bits) =
    ap₂ (λ b (bs : List Bool). b ∷ bs) (none_below first (first + 1) (first + 1 + length bits) (places (first + 1) bits) (omega arith) (places_rise (first + 1) bits))
    (marks-places (first + 1) bits)

-- ---- the quotients of a block

-- those that have a run are those that its bits mark
pub places-occupied : (width block : ℕ) (ps : List Piece) → Rises (64 * block) (64 * block + 64) (runs width ps) → places (64 * block) (occupied_of width block ps) ≡ runs width ps
places-occupied width block ps rise = ap (places (64 * block)) (occupied_marks width block ps) ∙ places-marks (64 * block) 64 (runs width ps) rise

pub occupied-places : (width block : ℕ) (bits : List Bool) (ps : List Piece) → length bits ≡ 64 → runs width ps ≡ places (64 * block) bits → occupied_of width block ps ≡ bits
occupied-places width block bits ps long are =
    occupied_marks width block ps ∙ (ap₂ (λ n (qs : List ℕ). marks (64 * block) n qs) (sym long) are ∙ marks-places (64 * block) bits)
