-- The keys that are due in a window, in mixed order, are those of the tails in the window's table, in ascending order.
use Rattle.std.proofs.Common.{ℕ, ◌≡◌, ◌≢◌, ◌+◌, ◌-◌, ◌*◌, ◌/◌, ◌%◌, ◌^◌, ◌<◌, ◌≤◌, zero, suc, Bool, cond, leb, not, ◌&&◌, List, []}
use Rattle.std.proofs.Common.{◌∷◌, take, drop, map, filter, refl, ap, ap₂, sym, ◌∙◌, arith, inl, inr, ◌⊎◌, subst, sum_by, slice_range}
use Rattle.std.proofs.lemmas.Bool.{cases_lt, cases_eq, cases_Bool, eq-eqb, ne_eqb, lt-leb}
use Rattle.std.proofs.lemmas.List.Sums.{sum_by-cons}
use Rattle.std.proofs.lemmas.Nat.{mul-add-lt, shr_high, mod_low, pow-add}
use Rattle.lert_spec.specs.Edges.{key_bits, key_limit, tail_bits}
use Rattle.lert_spec.specs.declared.numbers.Numbers.{Numbers}
use Rattle.lert_spec.specs.declared.piece.Piece.{Piece}
use Rattle.lert_spec.specs.declared.report.Report.{Report}
use Rattle.lert_spec.specs.Bins.{tally, tallied}
use Rattle.lert_spec.specs.Counts.{Measure, plain, weight_for, weight_in}
use Rattle.lert_spec.specs.Look.{mixed_in, mixed_order, is_listed, is_due_in, is_due}
use Rattle.lert_spec.specs.Mix.{mix, cone_of, tail_of}
use Rattle.lert_spec.specs.Table.{count_of, AscendsFrom}
use Rattle.lert_spec.proofs.LookLaws.{HaveKeys, AreKeys, AreKeys-filter, AreKeys-mixed_order, MixedFrom-filter, MixedFrom-lower, one_order, due_occurs}
use Rattle.lert_spec.proofs.MixLaws.{unmixed, unmixed_below, mix-unmixed, one_key, tail_below}
use Rattle.lert_spec.proofs.ReportLaws.{times, times-cons_same, times-cons_other, times-filter, times-mixed_order, times_in, times_in-other, MixedFrom, MixedFrom-mixed_order}
use Rattle.lert_spec.proofs.TallyLaws.{tail_weight, tails_in, tally_table, count_of-tally, keys_weigh, WeighSome, count_of-cons_same, count_of-cons_other}

-- the key with a cone and a tail
abbrev pub key_with : Numbers → ℕ → ℕ → ℕ
key_with s cone tail = unmixed (cone * 2 ^ tail_bits s + tail)

-- items whose keys are of one cone
abbrev pub IsPartOf : {A : Type 0} → Measure A → Numbers → ℕ → List A → Type 0
IsPartOf by s cone [] = Unit {0}
IsPartOf by s cone (item ∷ items) = (cone_of s (by.key item) ≡ cone) × IsPartOf by s cone items

abbrev pub AreOfCone : Numbers → ℕ → List ℕ → Type 0
AreOfCone s cone keys = IsPartOf plain s cone keys

-- the keys of pieces
abbrev pub keys_of : Numbers → ℕ → List Piece → List ℕ
keys_of s cone pieces = map (λ piece. key_with s cone piece.tail) pieces

-- a piece whose count reaches the threshold, and whose key isn't reported
abbrev pub is_due_piece : Numbers → ℕ → ℕ → List Report → Piece → Bool
is_due_piece s cone threshold reports piece = leb threshold piece.count && not (is_listed (key_with s cone piece.tail) reports)

AscendsFrom-lower : (least high limit : ℕ) (pieces : List Piece) → least ≤ high → AscendsFrom high limit pieces → AscendsFrom least limit pieces
AscendsFrom-lower least high limit [] below ascends = tt
AscendsFrom-lower least high limit (p ∷ ps) below ascends = (omega (arith, ascends.0), ascends.1, ascends.2, ascends.3)

module _ (s : Numbers) (cone : ℕ) (bits : s.cone_bits ≤ key_bits s) (named : cone < 2 ^ s.cone_bits) where
  joined_below : (tail : ℕ) → tail < 2 ^ tail_bits s → cone * 2 ^ tail_bits s + tail < key_limit s
  joined_below tail below =
      let whole : tail_bits s + s.cone_bits ≡ key_bits s = omega arith in
      let power = sym (pow-add 2 (tail_bits s) s.cone_bits) ∙ ap (λ n. 2 ^ n) whole in
      omega (arith, mul-add-lt cone (2 ^ tail_bits s) tail (2 ^ s.cone_bits) named below, power)

  mix-key_with : (tail : ℕ) → tail < 2 ^ tail_bits s → mix (key_with s cone tail) ≡ cone * 2 ^ tail_bits s + tail
  mix-key_with tail below = mix-unmixed (cone * 2 ^ tail_bits s + tail) (joined_below tail below)

  key_with_below : (tail : ℕ) → tail < 2 ^ tail_bits s → key_with s cone tail < key_limit s
  key_with_below tail below = unmixed_below (cone * 2 ^ tail_bits s + tail) (joined_below tail below)

  cone-key_with : (tail : ℕ) → tail < 2 ^ tail_bits s → cone_of s (key_with s cone tail) ≡ cone
  cone-key_with tail below = ap (λ m. m / 2 ^ tail_bits s) (mix-key_with tail below) ∙ shr_high cone (tail_bits s) tail below

  tail-key_with : (tail : ℕ) → tail < 2 ^ tail_bits s → tail_of s (key_with s cone tail) ≡ tail
  tail-key_with tail below = ap (λ m. m % 2 ^ tail_bits s) (mix-key_with tail below) ∙ mod_low cone (tail_bits s) tail below

  -- a key of the cone is the one with its tail
  key_with-tail : (key : ℕ) → key < key_limit s → cone_of s key ≡ cone → key_with s cone (tail_of s key) ≡ key
  key_with-tail key below of_cone =
      let under = tail_below s key in
      one_key s (key_with s cone (tail_of s key)) key (key_with_below (tail_of s key) under) below
      (cone-key_with (tail_of s key) under ∙ sym of_cone) (tail-key_with (tail_of s key) under)

  -- ascending tails are keys in mixed order
  MixedFrom-keys_of : (least : ℕ) (pieces : List Piece) → AscendsFrom least (2 ^ tail_bits s) pieces → MixedFrom (cone * 2 ^ tail_bits s + least) (keys_of s cone pieces)
  MixedFrom-keys_of least [] ascends = tt
  MixedFrom-keys_of least (p ∷ ps) ascends =
      let here = mix-key_with p.tail ascends.1 in (
        omega (arith, ascends.0),
        MixedFrom-lower (mix (key_with s cone p.tail)) (cone * 2 ^ tail_bits s + (p.tail + 1)) (keys_of s cone ps) (omega arith)
            (MixedFrom-keys_of (p.tail + 1) ps ascends.3),
      )

  AreKeys-keys_of : (least : ℕ) (pieces : List Piece) → AscendsFrom least (2 ^ tail_bits s) pieces → AreKeys s (keys_of s cone pieces)
  AreKeys-keys_of least [] ascends = tt
  AreKeys-keys_of least (p ∷ ps) ascends = (key_with_below p.tail ascends.1, AreKeys-keys_of (p.tail + 1) ps ascends.3)

  AscendsFrom-filter : (test : Piece → Bool) (least limit : ℕ) (pieces : List Piece) → AscendsFrom least limit pieces → AscendsFrom least limit (filter test pieces)
  AscendsFrom-filter test least limit [] ascends = tt
  AscendsFrom-filter test least limit (p ∷ ps) ascends =
      let rest = AscendsFrom-filter test (p.tail + 1) limit ps ascends.3 in
      elim (cases_Bool (test p)) [
        | inl passes ↦ subst (AscendsFrom least limit) (sym (ap (λ t. cond t (p ∷ filter test ps) (filter test ps)) passes)) (ascends.0, ascends.1, ascends.2, rest)
        | inr fails ↦ subst (AscendsFrom least limit) (sym (ap (λ t. cond t (p ∷ filter test ps) (filter test ps)) fails))
            (AscendsFrom-lower least (p.tail + 1) limit (filter test ps) (omega (arith, ascends.0)) rest)
      ]

  -- a key of another cone isn't among the keys of pieces
  times-other_cone : (key least : ℕ) (pieces : List Piece) → AscendsFrom least (2 ^ tail_bits s) pieces → ((key < key_limit s) × (cone_of s key ≡ cone) → ⊥) →
      times key (keys_of s cone pieces) ≡ 0
  times-other_cone key least [] ascends other = refl
  times-other_cone key least (p ∷ ps) ascends other =
      let differs : key_with s cone p.tail ≢ key = λ same. other
      (subst (λ k. k < key_limit s) same (key_with_below p.tail ascends.1), ap (cone_of s) (sym same) ∙ cone-key_with p.tail ascends.1) in
      times-cons_other key (key_with s cone p.tail) (keys_of s cone ps) differs
      ∙ times-other_cone key (p.tail + 1) ps ascends.3 other

  -- a key whose tail is below all isn't there
  times-before : (key least : ℕ) (pieces : List Piece) → AscendsFrom least (2 ^ tail_bits s) pieces → tail_of s key < least → times key (keys_of s cone pieces) ≡ 0
  times-before key least [] ascends below = refl
  times-before key least (p ∷ ps) ascends below =
      let differs : key_with s cone p.tail ≢ key = λ same.
      (let tails_same = sym (tail-key_with p.tail ascends.1) ∙ ap (tail_of s) same in omega (arith, ascends.0)) in
      times-cons_other key (key_with s cone p.tail) (keys_of s cone ps) differs
      ∙ times-before key (p.tail + 1) ps ascends.3 (omega (arith, ascends.0))

  -- how often a key of the cone stands among the keys of the due pieces: once where its count reaches the threshold and it isn't reported
  module _ (threshold : ℕ) (reports : List Report) (positive : 1 ≤ threshold) where
    times-due_pieces : (key least : ℕ) (pieces : List Piece) → AscendsFrom least (2 ^ tail_bits s) pieces → key < key_limit s → cone_of s key ≡ cone →
        times key (keys_of s cone (filter (is_due_piece s cone threshold reports) pieces)) ≡ cond {A = ℕ} (leb threshold (count_of pieces (tail_of s key)) && not (is_listed key reports)) 1 0
    times-due_pieces key least [] ascends below of_cone =
        sym (ap (λ t. cond {A = ℕ} (t && not (is_listed key reports)) 1 0) (lt-leb threshold 0 (omega arith)))
    times-due_pieces key least (p ∷ ps) ascends below of_cone =
        let test = is_due_piece s cone threshold reports in
        let rest = AscendsFrom-filter test (p.tail + 1) (2 ^ tail_bits s) ps ascends.3 in
        elim (cases_eq p.tail (tail_of s key)) [
          | inl here ↦ (
              let is_key : key_with s cone p.tail ≡ key = ap (key_with s cone) here ∙ key_with-tail key below of_cone in
              let none = times-before key (p.tail + 1) (filter test ps) rest (omega arith) in
              let counted = count_of-cons_same p ps (tail_of s key) here in
              let tested : test p ≡ (leb threshold (count_of (p ∷ ps) (tail_of s key)) && not (is_listed key reports)) =
              ap₂ (λ c k. leb threshold c && not (is_listed k reports)) (sym counted) is_key in
              elim (cases_Bool (test p)) [
                | inl passes ↦ ap (λ t. times key (keys_of s cone (cond t (p ∷ filter test ps) (filter test ps)))) passes
                    ∙ times-cons_same key (key_with s cone p.tail) (keys_of s cone (filter test ps)) is_key
                    ∙ ap (λ n. 1 + n) none
                    ∙ ap (λ t. cond {A = ℕ} t 1 0) (sym passes ∙ tested)
                | inr fails ↦ ap (λ t. times key (keys_of s cone (cond t (p ∷ filter test ps) (filter test ps)))) fails
                    ∙ none
                    ∙ ap (λ t. cond {A = ℕ} t 1 0) (sym fails ∙ tested)
              ])
          | inr apart ↦ (
              let differs : key_with s cone p.tail ≢ key = λ same. apart (sym (tail-key_with p.tail ascends.1) ∙ ap (tail_of s) same) in
              let counted = count_of-cons_other p ps (tail_of s key) apart in
              let later = times-due_pieces key (p.tail + 1) ps ascends.3 below of_cone
              ∙ ap (λ c. cond {A = ℕ} (leb threshold c && not (is_listed key reports)) 1 0) (sym counted) in
              elim (cases_Bool (test p)) [
                | inl passes ↦ ap (λ t. times key (keys_of s cone (cond t (p ∷ filter test ps) (filter test ps)))) passes
                    ∙ times-cons_other key (key_with s cone p.tail) (keys_of s cone (filter test ps)) differs
                    ∙ later
                | inr fails ↦ ap (λ t. times key (keys_of s cone (cond t (p ∷ filter test ps) (filter test ps)))) fails ∙ later
              ])
        ]

  -- among items of the cone a tail weighs as much as its key
  tails-weigh : {A : Type 0} (by : Measure A) (key : ℕ) (items : List A) → key < key_limit s → cone_of s key ≡ cone → HaveKeys s by items → IsPartOf by s cone items →
      tails_in by s (tail_of s key) items ≡ sum_by (weight_for by key) items
  tails-weigh by key [] below of_cone fit of = refl
  tails-weigh by key (other ∷ others) below of_cone fit of =
      let rest = tails-weigh by key others below of_cone fit.1 of.1 in
      let parts = sum_by-cons (tail_weight by s (tail_of s key)) other others in
      let sums = sum_by-cons (weight_for by key) other others in
      elim (cases_eq (by.key other) key) [
        | inl same ↦ omega (
          arith,
          parts,
          sums,
          rest,
          ap (λ t. cond {A = ℕ} t (by.weight other) 0) (eq-eqb (by.key other) key same),
          ap (λ t. cond {A = ℕ} t (by.weight other) 0) (eq-eqb (tail_of s (by.key other)) (tail_of s key) (ap (tail_of s) same)),
        )
        | inr differs ↦ omega (
          arith,
          parts,
          sums,
          rest,
          ap (λ t. cond {A = ℕ} t (by.weight other) 0) (ne_eqb (by.key other) key differs),
          ap (λ t. cond {A = ℕ} t (by.weight other) 0) (ne_eqb (tail_of s (by.key other)) (tail_of s key)
              (λ tails_same. differs (one_key s (by.key other) key fit.0 below (of.0 ∙ sym of_cone) tails_same))),
        )
      ]

module _ {A : Type 0} (s : Numbers) (by : Measure A) where
  pub HaveKeys-take : (n : ℕ) (items : List A) → HaveKeys s by items → HaveKeys s by (take n items)
  HaveKeys-take zero items fit = tt
  HaveKeys-take (suc n) [] fit = tt
  HaveKeys-take (suc n) (item ∷ items) fit = (fit.0, HaveKeys-take n items fit.1)

  pub HaveKeys-drop : (n : ℕ) (items : List A) → HaveKeys s by items → HaveKeys s by (drop n items)
  HaveKeys-drop zero items fit = fit
  HaveKeys-drop (suc n) [] fit = tt
  HaveKeys-drop (suc n) (item ∷ items) fit = HaveKeys-drop n items fit.1

module _ {A : Type 0} (by : Measure A) where
  pub IsPartOf-take : (s : Numbers) (cone n : ℕ) (items : List A) → IsPartOf by s cone items → IsPartOf by s cone (take n items)
  IsPartOf-take s cone zero items of = tt
  IsPartOf-take s cone (suc n) [] of = tt
  IsPartOf-take s cone (suc n) (item ∷ items) of = (of.0, IsPartOf-take s cone n items of.1)

  pub IsPartOf-drop : (s : Numbers) (cone n : ℕ) (items : List A) → IsPartOf by s cone items → IsPartOf by s cone (drop n items)
  IsPartOf-drop s cone zero items of = of
  IsPartOf-drop s cone (suc n) [] of = tt
  IsPartOf-drop s cone (suc n) (item ∷ items) of = IsPartOf-drop s cone n items of.1

  pub WeighSome-take : (n : ℕ) (items : List A) → WeighSome by items → WeighSome by (take n items)
  WeighSome-take zero items some = tt
  WeighSome-take (suc n) [] some = tt
  WeighSome-take (suc n) (item ∷ items) some = (some.0, WeighSome-take n items some.1)

  pub WeighSome-drop : (n : ℕ) (items : List A) → WeighSome by items → WeighSome by (drop n items)
  WeighSome-drop zero items some = some
  WeighSome-drop (suc n) [] some = tt
  WeighSome-drop (suc n) (item ∷ items) some = WeighSome-drop n items some.1

  -- a key that occurs fits, and is of the cone
  occurs_fits : (s : Numbers) (cone key : ℕ) (events : List A) → HaveKeys s by events → IsPartOf by s cone events → 1 ≤ times_in by key events → (key < key_limit s) × (cone_of s key ≡ cone)
  occurs_fits s cone key [] fit of occurs = absurd (omega arith)
  occurs_fits s cone key (event ∷ events) fit of occurs =
      elim (cases_eq (by.key event) key) [
        | inl same ↦ (subst (λ k. k < key_limit s) same fit.0, ap (cone_of s) (sym same) ∙ of.0)
        | inr differs ↦ occurs_fits s cone key events fit.1 of.1 (omega (arith, times_in-other by key event events differs))
      ]

cases_of_cone : (s : Numbers) (cone key : ℕ) → ((key < key_limit s) × (cone_of s key ≡ cone)) ⊎ ((key < key_limit s) × (cone_of s key ≡ cone) → ⊥)
cases_of_cone s cone key =
    elim (cases_lt key (key_limit s)) [
      | inl below ↦ elim (cases_eq (cone_of s key) cone) [
        | inl same ↦ inl (below, same)
        | inr other ↦ inr (λ both. other both.1)
      ]
      | inr above ↦ inr (λ both. omega (arith, both.0))
    ]

-- the keys that are due in a window, in mixed order, are those of the due pieces of the window's table, in ascending tails
pub due_by_tally : {A : Type 0} (by : Measure A) (s : Numbers) (cone threshold : ℕ) (events : List A) (from to : ℕ) (reports : List Report) → s.cone_bits ≤ key_bits s →
    cone < 2 ^ s.cone_bits → 1 ≤ threshold → HaveKeys s by events → IsPartOf by s cone events → WeighSome by events →
    filter (is_due_in by threshold events from to reports) (mixed_in by events)
    ≡ keys_of s cone (filter (is_due_piece s cone threshold reports) (tally by s (slice_range events from to)))
due_by_tally by s cone threshold events from to reports bits named positive fit of some =
    let limit = 2 ^ tail_bits s in
    let window = slice_range events from to in
    let due : ℕ → Bool = is_due_in by threshold events from to reports in
    let test : Piece → Bool = is_due_piece s cone threshold reports in
    let window_fits = HaveKeys-take s by (to - from) (drop from events) (HaveKeys-drop s by from events fit) in
    let window_of = IsPartOf-take by s cone (to - from) (drop from events) (IsPartOf-drop by s cone from events of) in
    let window_some = WeighSome-take by (to - from) (drop from events) (WeighSome-drop by from events some) in
    let table = tally_table by s window window_some in
    let kept = AscendsFrom-filter s cone bits named test 0 limit (tally by s window) table in
    one_order s 0 (filter due (mixed_in by events)) (keys_of s cone (filter test (tally by s window)))
    (MixedFrom-filter due 0 (mixed_in by events) (MixedFrom-mixed_order by events))
    (MixedFrom-lower 0 (cone * limit + 0) (keys_of s cone (filter test (tally by s window))) (omega arith) (MixedFrom-keys_of s cone bits named 0 (filter test (tally by s window)) kept))
    (AreKeys-filter s due (mixed_in by events) (AreKeys-mixed_order s by events fit))
    (AreKeys-keys_of s cone bits named 0 (filter test (tally by s window)) kept)
    (λ key. times-filter key due (mixed_in by events) ∙ elim (cases_of_cone s cone key) [
      | inl mine ↦ (
          let counted : count_of (tally by s window) (tail_of s key) ≡ weight_in by key events from to =
          count_of-tally by s window (tail_of s key) window_some ∙ tails-weigh s cone bits named by key window mine.0 mine.1 window_fits window_of in
          let there = times-due_pieces s cone bits named threshold reports positive key 0 (tally by s window) table mine.0 mine.1
          ∙ ap (λ c. cond {A = ℕ} (leb threshold c && not (is_listed key reports)) 1 0) counted in
          elim (cases_Bool (due key)) [
            | inl is_it ↦ ap (λ t. cond {A = ℕ} t (times key (mixed_in by events)) 0) is_it
                ∙ times-mixed_order by key events (due_occurs by threshold events from to reports key positive is_it)
                ∙ sym (there ∙ ap (λ t. cond {A = ℕ} t 1 0) is_it)
            | inr is_not ↦ ap (λ t. cond {A = ℕ} t (times key (mixed_in by events)) 0) is_not
                ∙ sym (there ∙ ap (λ t. cond {A = ℕ} t 1 0) is_not)
          ])
      | inr other ↦ (
          let there = times-other_cone s cone bits named key 0 (filter test (tally by s window)) kept other in
          elim (cases_Bool (due key)) [
            | inl is_it ↦ absurd (other (occurs_fits by s cone key events fit of (due_occurs by threshold events from to reports key positive is_it)))
            | inr is_not ↦ ap (λ t. cond {A = ℕ} t (times key (mixed_in by events)) 0) is_not ∙ sym there
          ])
    ])

-- the same of a list of keys
pub due_by_tails : (s : Numbers) (cone threshold : ℕ) (events : List ℕ) (from to : ℕ) (reports : List Report) → s.cone_bits ≤ key_bits s → cone < 2 ^ s.cone_bits → 1 ≤ threshold →
    AreKeys s events → AreOfCone s cone events →
    filter (is_due threshold events from to reports) (mixed_order events)
    ≡ keys_of s cone (filter (is_due_piece s cone threshold reports) (tallied s (slice_range events from to)))
due_by_tails s cone threshold events from to reports bits named positive fit of =
    due_by_tally plain s cone threshold events from to reports bits named positive fit of (keys_weigh events)

pub AreKeys-take : (s : Numbers) (n : ℕ) (keys : List ℕ) → AreKeys s keys → AreKeys s (take n keys)
AreKeys-take s n keys fit = HaveKeys-take s plain n keys fit

pub AreKeys-drop : (s : Numbers) (n : ℕ) (keys : List ℕ) → AreKeys s keys → AreKeys s (drop n keys)
AreKeys-drop s n keys fit = HaveKeys-drop s plain n keys fit

pub AreOfCone-take : (s : Numbers) (cone n : ℕ) (keys : List ℕ) → AreOfCone s cone keys → AreOfCone s cone (take n keys)
AreOfCone-take s cone n keys of = IsPartOf-take plain s cone n keys of

pub AreOfCone-drop : (s : Numbers) (cone n : ℕ) (keys : List ℕ) → AreOfCone s cone keys → AreOfCone s cone (drop n keys)
AreOfCone-drop s cone n keys of = IsPartOf-drop plain s cone n keys of
