-- The table of a store as reports are put, and what it tells of a key.
use Rattle.std.proofs.Common.{◌≡◌, ℕ, ◌+◌, ◌<◌, ◌^◌, suc, cond, eqb, ltb, ◌||◌, List, [], ◌∷◌, length, map, refl, ap, ap₂, sym, ◌∙◌, bit_xor, count_by, subst, arith, inl, inr}
use Rattle.std.proofs.{lemmas.Bool.{cases_eq, eq-eqb, ne_eqb, lt-ltb}, lemmas.List.Sums.sum_by-cons, lemmas.Nat.xor_lt}
use Rattle.std.specs.{Int.Bits.{xor_assoc, xor_self, xor_zero_r}, Prelude.All}
use Rattle.lert_spec.specs.{declared.numbers.Numbers.Numbers, declared.piece.Piece.Piece, declared.report.Report.Report, Table.count_of}
use Rattle.lert_spec.specs.{Counts.plain, Look.is_listed}
use Rattle.lert_spec.proofs.{MixLaws.{mix_below, mix_is_one_to_one}, TallyLaws.{count_of-each, keys_weigh}}
use Rattle.lert_reports.specs.Stored.{Stored, AreStored, hidden}

-- xor with a number twice gives a number back
xor_twice : (key secret : ℕ) → bit_xor (bit_xor key secret) secret ≡ key
xor_twice key secret = xor_assoc key secret secret ∙ ap (bit_xor key) (xor_self secret) ∙ xor_zero_r key

-- two keys with one value are one
pub hidden_is_one_to_one : (secret a b : ℕ) → secret < 2 ^ 64 → a < 2 ^ 64 → b < 2 ^ 64 → hidden secret a ≡ hidden secret b → a ≡ b
hidden_is_one_to_one secret a b fits a_below b_below same =
    let xors = mix_is_one_to_one (bit_xor a secret) (bit_xor b secret) (xor_lt 64 a secret a_below fits) (xor_lt 64 b secret b_below fits) same in
    sym (xor_twice a secret) ∙ ap (λ x. bit_xor x secret) xors ∙ xor_twice b secret

-- how often a value occurs among those of the keys
abbrev hits : ℕ → ℕ → List ℕ → ℕ
hits secret value keys = count_by (λ key. eqb (hidden secret key) value) keys

abbrev keys_in : List Report → List ℕ
keys_in reports = map (λ report. report.key) reports

-- a key is listed exactly where its value, which no other key has, occurs among those of the listed keys
listed_by_hits : (secret key : ℕ) → ((k : ℕ) → k < 2 ^ 64 → hidden secret k ≡ hidden secret key → key ≡ k) → (reports : List Report) →
    All (λ report. report.key < 2 ^ 64) reports → ltb 0 (hits secret (hidden secret key) (keys_in reports)) ≡ is_listed key reports
listed_by_hits secret key only [] fit = refl
listed_by_hits secret key only (report ∷ reports) fit =
    let rest = listed_by_hits secret key only reports (λ k d within. fit (suc k) d (omega arith)) in
    let value = hidden secret key in
    let parts = sum_by-cons (λ k. cond {A = ℕ} (eqb (hidden secret k) value) 1 0) report.key (keys_in reports) in
    elim (cases_eq report.key key) [
      | inl same ↦ (
          let here = eq-eqb (hidden secret report.key) value (ap (hidden secret) same) in
          let some : hits secret value (keys_in (report ∷ reports)) ≡ 1 + hits secret value (keys_in reports) =
          parts ∙ ap (λ t. cond {A = ℕ} t 1 0 + hits secret value (keys_in reports)) here in
          lt-ltb 0 (hits secret value (keys_in (report ∷ reports))) (omega (arith, some)) ∙ sym (ap (λ t. t || is_listed key reports) (eq-eqb report.key key same)))
      | inr differs ↦ (
          let here = ne_eqb (hidden secret report.key) value (λ values_same. differs (sym (only report.key (fit 0 report (omega arith)) values_same))) in
          let some : hits secret value (keys_in (report ∷ reports)) ≡ hits secret value (keys_in reports) =
          parts ∙ ap (λ t. cond {A = ℕ} t 1 0 + hits secret value (keys_in reports)) here ∙ omega arith in
          ap (ltb 0) some ∙ rest ∙ sym (ap (λ t. t || is_listed key reports) (ne_eqb report.key key differs)))
    ]

module _ (s : Numbers) (secret : ℕ) (reports : List Report) (capacity : ℕ) (pieces : List Piece) (adds room quotient width : ℕ)
    (kept : AreStored s secret reports capacity pieces adds room quotient width) where
  -- a count above 0 of a key's value says that the key is listed
  pub counted_if_listed : (seen : Stored) (key value count : ℕ) → record { settings = s; reports = reports } ≡ seen →
      value ≡ hidden secret key → ((k : ℕ) → k < 2 ^ 64 → hidden secret k ≡ value → key ≡ k) → count ≡ count_of pieces value → ltb 0 count ≡ is_listed key seen.reports
  counted_if_listed seen key value count is value_is only count_is =
      let counts = count_of-each plain (hidden secret) (2 ^ 64) (λ k. mix_below (bit_xor k secret)) (keys_in reports) (hidden secret key) (keys_weigh (keys_in reports)) in
      ap (ltb 0) (count_is ∙ ap₂ count_of kept.counted value_is ∙ counts)
      ∙ listed_by_hits secret key (λ k below same. only k below (same ∙ sym value_is)) reports kept.keys
      ∙ ap (λ (v : Stored). is_listed key v.reports) is

  -- the table takes an add more where there is room for a report
  pub has_place : (seen : Stored) → record { settings = s; reports = reports } ≡ seen → length seen.reports < seen.settings.room → adds < room
  has_place seen is less_seen =
      let less : length reports < s.room = subst (λ (v : Stored). length v.reports < v.settings.room) (sym is) less_seen in
      omega (arith, kept.roomy.places, kept.added, less)
