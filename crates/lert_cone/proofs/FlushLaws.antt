-- The flushes of a cone: the last one up to a position, and how many there were.
use Rattle.lert_spec.specs.declared.item.Item.{Item}
use Rattle.std.proofs.Common.{ℕ, zero, suc, ◌≡◌, ◌≢◌, ◌+◌, ◌-◌, ◌*◌, ◌/◌, ◌<◌, ◌≤◌, true, false, cond, List, [], ◌∷◌, ◌++◌, length, refl, ap, ap₂, sym, ◌∙◌, arith, inl, inr, subst, length-append}
use Rattle.std.proofs.{Math.Nat.{mul-div-le, div-add-mod, mod-lt, mul-suc, mul_comm, mul-div_right, pow-zero}, lemmas.Bool.{cases_lt, cases_eq, eq-eqb, ne_eqb, false≢true}, lemmas.Nat.mul-le}
use Rattle.lert_levels.specs.declared.rows.bin_at.BinAt.{BinAt}
use Rattle.lert_reports.specs.{declared.log.LogBefore.LogBefore, declared.log.LogKind.LogKind, Log.{is_flush, is_closing, AreRecords, is_closed, last_n0, before_of, flushes_in}, LogRules.IsInTurn}
use Rattle.lert_reports.specs.LogText.{LogRecord, next_flush}
use Rattle.lert_reports.proofs.LogLaws.{EndsWith, ends, last_keeps, last_n0-push, is_closed-push, flushes_in-push}
use Rattle.lert_spec.specs.{declared.numbers.Numbers.Numbers, Edges.{span, offset, edge}, Limits.IsValid}
use Rattle.lert_spec.proofs.EdgeLaws.{steps, span_pos, moves_by_one}
use Rattle.lert_cone.specs.{Framed.last_flush, Logged.IsLogOf}

-- ---- the last flush

module _ (s : Numbers) where
  pub flush_stays : (n : ℕ) → edge s 0 (suc n) ≡ edge s 0 n → last_flush s (suc n) ≡ last_flush s n
  flush_stays n stays = ap (λ t. cond t (last_flush s n) (suc n)) (eq-eqb (edge s 0 (suc n)) (edge s 0 n) stays)

  pub flush_there : (n : ℕ) → edge s 0 (suc n) ≢ edge s 0 n → last_flush s (suc n) ≡ suc n
  flush_there n moves = ap (λ t. cond t (last_flush s n) (suc n)) (ne_eqb (edge s 0 (suc n)) (edge s 0 n) moves)

  pub last_flush_within : (n : ℕ) → last_flush s n ≤ n
  last_flush_within zero = omega arith
  last_flush_within (suc n) =
      elim (cases_eq (edge s 0 (suc n)) (edge s 0 n)) [
        | inl stays ↦ omega (arith, flush_stays n stays, last_flush_within n)
        | inr moves ↦ omega (arith, flush_there n moves)
      ]

  -- where no flush position is left behind n, the next one is none
  pub flush_passed : (n : ℕ) → last_flush s (n + 1) ≤ n → edge s 0 (n + 1) ≡ edge s 0 n
  flush_passed n passed =
      let next : n + 1 ≡ suc n = omega arith in
      elim (cases_eq (edge s 0 (suc n)) (edge s 0 n)) [
        | inl stays ↦ ap (edge s 0) next ∙ stays
        | inr moves ↦ absurd (omega (arith, passed, ap (last_flush s) next, flush_there n moves))
      ]

pub longer : (events : List Item) (item : Item) → length (events ++ item ∷ []) ≡ suc (length events)
longer events item = omega (arith, length-append events (item ∷ []))

-- ---- how many flushes there are

same_factor : (w a b : ℕ) → 1 ≤ w → w * a ≡ w * b → a ≡ b
same_factor w a b wide same = sym (mul-div_right a {m = w} wide) ∙ ap (λ x. x / w) same ∙ mul-div_right b {m = w} wide

spread : (b k w : ℕ) → b * w + w * suc k ≡ (suc b + k) * w
spread b k w = grind arith

module _ (s : Numbers) (valid : IsValid s) where
  base : 1 ≤ s.base
  base = omega (arith, valid.limits.base_from)

  ratio : 1 ≤ s.ratio
  ratio = omega (arith, valid.limits.ratio_from)

  wide : 1 ≤ span s 0
  wide = span_pos s 0 base ratio

  span_is : span s 0 ≡ s.base
  span_is = ap (λ p. s.base * p) (pow-zero s.ratio) ∙ omega arith

  -- the place of the flush that so many others come before
  place_is : (k : ℕ) → offset s 0 + span s 0 * suc k ≡ next_flush s k
  place_is k =
      let some : suc (s.bins - 1) ≡ s.bins = omega (arith, valid.limits.bins_from) in
      spread (s.bins - 1) k (span s 0) ∙ ap₂ (λ b w. (b + k) * w) some span_is

  -- a flush's place isn't 0
  flush_pos : (k : ℕ) → 1 ≤ next_flush s k
  flush_pos k = mul-le 1 1 (s.bins + k) s.base (omega (arith, valid.limits.bins_from)) base

  -- before the next flush
  pub before_next : (n : ℕ) → n < next_flush s (steps s 0 n)
  before_next n =
      let k = steps s 0 n in
      let parts = div-add-mod (n - offset s 0) (span s 0) in
      let rest = mod-lt (n - offset s 0) {m = span s 0} wide in
      omega (arith, place_is k, mul-suc (span s 0) k, parts, rest)

  pub record Flushes (n : ℕ) : Type 0 where
    pub place : suc n ≡ next_flush s (steps s 0 n)
    pub one_more : steps s 0 (suc n) ≡ suc (steps s 0 n)

  -- where the youngest edge moves, there is the next flush
  pub flushes_at : (n : ℕ) → edge s 0 (suc n) ≢ edge s 0 n → Flushes n
  flushes_at n moves =
      let k = steps s 0 n in
      let before : suc n - 1 ≡ n = omega arith in
      let one_more : steps s 0 (suc n) ≡ suc k =
      moves_by_one s base ratio 0 (suc n) (subst (λ b. edge s 0 (suc n) ≢ edge s 0 b) (sym before) moves) ∙ ap (λ b. suc (steps s 0 b)) before in
      let lower = subst (λ c. span s 0 * c ≤ suc n - offset s 0) one_more (mul-div-le (suc n - offset s 0) (span s 0)) in
      let upper = before_next n in
      let next = mul-suc (span s 0) k in
      record { place = omega (arith, lower, upper, place_is k, next, wide); one_more = one_more }

  steps_stay : (n : ℕ) → edge s 0 (suc n) ≡ edge s 0 n → steps s 0 (suc n) ≡ steps s 0 n
  steps_stay n stays = same_factor (span s 0) (steps s 0 (suc n)) (steps s 0 n) wide stays

  -- the last flush by the number of flushes
  pub record LastIs (n : ℕ) : Type 0 where
    pub none : steps s 0 n ≡ 0 → last_flush s n ≡ 0
    pub some : (k : ℕ) → steps s 0 n ≡ suc k → last_flush s n ≡ next_flush s k

  last_is : (n : ℕ) → LastIs n
  last_is zero = record {
    none = λ _. refl;
    some = λ k more. (let within = subst (λ c. span s 0 * c ≤ 0 - offset s 0) more (mul-div-le (0 - offset s 0) (span s 0)) in
        absurd (omega (arith, within, mul-suc (span s 0) k, wide)));
  }
  last_is (suc n) =
      elim (cases_eq (edge s 0 (suc n)) (edge s 0 n)) [
        | inl stays ↦ (
            let same = steps_stay n stays in
            let earlier = last_is n in
            record {
              none = λ empty. flush_stays s n stays ∙ earlier.none (sym same ∙ empty);
              some = λ k more. flush_stays s n stays ∙ earlier.some k (sym same ∙ more);
            })
        | inr moves ↦ (
            let at = flushes_at n moves in
            record {
              none = λ empty. absurd (omega (arith, at.one_more, empty));
              some = λ k more. flush_there s n moves ∙ at.place ∙ ap (next_flush s) (let same : steps s 0 n ≡ k = omega (arith, at.one_more, more) in same);
            })
      ]

  -- a flush's record in its turn
  flush_turn : (before : LogBefore) (kind : LogKind) (n0 : ℕ) → is_closing kind ≡ false → IsInTurn s before kind n0 → (n0 ≡ next_flush s before.flushes) × (is_flush kind ≡ true)
  flush_turn before LogKind.Flush n0 not_closing turn = (turn, refl)
  flush_turn before LogKind.Closing n0 not_closing turn = absurd (false≢true (sym not_closing))

  same_flush : (a b : ℕ) → next_flush s a ≡ next_flush s b → a ≡ b
  same_flush a b same =
      let sums = same_factor s.base (s.bins + a) (s.bins + b) base (mul_comm s.base (s.bins + a) ∙ same ∙ mul_comm (s.bins + b) s.base) in
      omega (arith, sums)

  -- the place of a flush is its own last flush
  flush_again : (k : ℕ) → last_flush s (next_flush s k) ≡ next_flush s k
  flush_again k =
      let behind : next_flush s k - offset s 0 ≡ span s 0 * suc k = omega (arith, place_is k) in
      let count : steps s 0 (next_flush s k) ≡ suc k = ap (λ n. n / span s 0) behind ∙ mul-div_right (suc k) {m = span s 0} wide in
      (last_is (next_flush s k)).some k count

  -- records end at a flush position, or at 0, where the last one isn't a closing one
  pub last_flush_logged : (cone : ℕ) (records : List LogRecord) → AreRecords s cone records → is_closed records ≡ false → last_flush s (last_n0 records) ≡ last_n0 records
  last_flush_logged cone records rules running = elim (ends records) [
    | inl empty ↦ (let none : last_n0 records ≡ 0 = ap last_n0 empty in ap (last_flush s) none ∙ sym none)
    | inr more ↦ (
        let front = more.front in
        let last = more.last in
        let keeps = (last_keeps s cone front last (subst (AreRecords s cone) more.is rules)).0 in
        let not_closing : is_closing last.kind ≡ false = sym (is_closed-push front last) ∙ ap is_closed (sym more.is) ∙ running in
        let turn = flush_turn (before_of front) last.kind last.n0 not_closing keeps.in_turn in
        let n0_is : last_n0 records ≡ next_flush s (flushes_in front) = ap last_n0 more.is ∙ last_n0-push front last ∙ turn.0 in
        ap (last_flush s) n0_is ∙ flush_again (flushes_in front) ∙ sym n0_is)
  ]

  module _ (cone : ℕ) (events : List Item) (rows : List (List BinAt)) (records : List LogRecord) (is : IsLogOf s cone events rows false records) where
    n : ℕ
    n = length events

    flushes_none : records ≡ [] → flushes_in records ≡ steps s 0 (length events)
    flushes_none empty =
        let none : flushes_in records ≡ 0 = ap flushes_in empty in
        let start : last_n0 records ≡ 0 = ap last_n0 empty in
        elim (cases_lt 0 (steps s 0 (length events))) [
          | inl some ↦ (
              let k = steps s 0 (length events) - 1 in
              let last = (last_is (length events)).some k (omega (arith, some)) in
              absurd (omega (arith, last, flush_pos k, is.n0_is, start)))
          | inr few ↦ omega (arith, none, few)
        ]

    flushes_some : EndsWith records → flushes_in records ≡ steps s 0 (length events)
    flushes_some more =
        let front = more.front in
        let last = more.last in
        let keeps = (last_keeps s cone front last (subst (AreRecords s cone) more.is is.rules)).0 in
        let not_closing : is_closing last.kind ≡ false = sym (is_closed-push front last) ∙ ap is_closed (sym more.is) ∙ is.closed_is in
        let turn = flush_turn (before_of front) last.kind last.n0 not_closing keeps.in_turn in
        let here : next_flush s (flushes_in front) ≡ last_flush s (length events) = sym turn.0 ∙ sym (last_n0-push front last) ∙ ap last_n0 (sym more.is) ∙ is.n0_is in
        let one_more : flushes_in records ≡ flushes_in front + 1 = ap flushes_in more.is ∙ flushes_in-push front last ∙ ap (λ t. flushes_in front + cond {A = ℕ} t 1 0) turn.1 in
        elim (cases_lt 0 (steps s 0 (length events))) [
          | inl some ↦ (
              let k = steps s 0 (length events) - 1 in
              let same = same_flush (flushes_in front) k (here ∙ (last_is (length events)).some k (omega (arith, some))) in
              omega (arith, one_more, same, some))
          | inr few ↦ absurd (omega (arith, here, (last_is (length events)).none (omega (arith, few)), flush_pos (flushes_in front)))
        ]

    -- a log has as many records of a flush as there were flushes
    pub flushes_are : flushes_in records ≡ steps s 0 (length events)
    flushes_are = elim (ends records) [
      | inl empty ↦ flushes_none empty
      | inr more ↦ flushes_some more
    ]

-- a later position has no earlier last flush
pub last_flush_grows : (s : Numbers) (m n : ℕ) → m ≤ n → last_flush s m ≤ last_flush s n
last_flush_grows s m zero early = (let none : m ≡ 0 = omega arith in omega (arith, ap (last_flush s) none))
last_flush_grows s m (suc n) early =
    elim (cases_lt m (suc n)) [
      | inl before ↦ elim (cases_eq (edge s 0 (suc n)) (edge s 0 n)) [
        | inl stays ↦ omega (arith, flush_stays s n stays, last_flush_grows s m n (omega arith))
        | inr moves ↦ omega (arith, flush_there s n moves, last_flush_within s m)
      ]
      | inr now ↦ (let same : m ≡ suc n = omega arith in omega (arith, ap (last_flush s) same))
    ]
