-- The reports that the next key brings, and those of the end, by the totals that a taker gets.
use Rattle.std.proofs.Common.{ℕ, ◌≡◌, ◌+◌, ◌-◌, ◌^◌, ◌<◌, ◌≤◌, suc, Bool, true, false, cond, leb, not, ◌&&◌, List, [], ◌∷◌, ◌++◌, length, map, ap, sym, ◌∙◌, arith, inl, inr, subst, slice_range}
use Rattle.std.proofs.{Common.length-append, Math.Nat.mul-div-le, Math.Seq.take-length}
use Rattle.std.proofs.{lemmas.Bool.{cases_eq, eq-eqb, ne_eqb}, lemmas.List.Elements.{All-nil, All-cons, All-append}, lemmas.Slice.between_from_start}
use Rattle.lert_spec.specs.{declared.numbers.Numbers.Numbers, declared.piece.Piece.Piece, declared.report.Report.Report, Bins.tally, Counts.{weighed, weight_in}, declared.item.Item.Item}
use Rattle.lert_spec.specs.Edges.{key_bits, key_limit, span, offset, edge, depth, lookback, tail_bits}
use Rattle.lert_spec.specs.{Limits.IsValid, Look.{is_listed, look_of, closing_of}, Mix.{cone_of, tail_of}, Table.{count_of, IsTable}}
use Rattle.lert_spec.proofs.{CountLaws.{count-append, count-push}, EdgeLaws.deepest_reaches, LookLaws.{HaveKeys, look-push, look-push_between}, MixLaws.tail_below}
use Rattle.lert_spec.proofs.{TailLaws.{IsPartOf, key_with, due_by_tally}, TallyLaws.tally_table, WindowLaws.{count_parts, count_never_falls}}
use Rattle.lert_cone.specs.{Due.due_reports, Tally.totals_at}
use Rattle.lert_cone.proofs.KeyLemmas.{HaveKeys-push, IsPartOf-push, count-tail, key_with-tail}
use Rattle.lert_levels.proofs.rows.WeightLaws.{WeighAll, weigh_some, weigh_slice}

pub edge_within : (s : Numbers) (level n : ℕ) → edge s level n ≤ n
edge_within s level n = omega (arith, mul-div-le (n - offset s level) (span s level))

-- where a flush has no depth, the edge of level 0 stays
pub young_stays : (s : Numbers) (n : ℕ) → IsValid s → depth s (suc n) ≡ 0 → edge s 0 (suc n) ≡ edge s 0 n
young_stays s n valid shallow =
    let same : suc n - 1 ≡ n = omega arith in
    elim (cases_eq (edge s 0 (suc n)) (edge s 0 (suc n - 1))) [
      | inl stays ↦ stays ∙ ap (edge s 0) same
      | inr moves ↦ absurd (omega (
        arith,
        deepest_reaches s (omega (arith, valid.limits.base_from)) (omega (arith, valid.limits.ratio_from)) s.levels 0 (suc n) (omega (arith, valid.limits.levels_from)) moves,
      ))
    ]

module _ (s : Numbers) (cone : ℕ) (events : List Item) (valid : IsValid s) (named : cone < 2 ^ s.cone_bits) (keys : HaveKeys s weighed events) (own : IsPartOf weighed s cone events)
    (weigh : WeighAll events) where
  bits : s.cone_bits ≤ key_bits s
  bits = omega (arith, valid.limits.cone_bits_to)

  -- the reports of the end are those of all counts
  pub closing_is : closing_of weighed s events ≡ look_of weighed s events ++ due_reports s cone (look_of weighed s events) (length events) (tally weighed s events)
  closing_is =
      let n = length events in
      let due = due_by_tally weighed s cone s.threshold events 0 n (look_of weighed s events) bits named valid.limits.threshold_from keys own (weigh_some events weigh) in
      ap (λ ks. look_of weighed s events ++ map (λ key. record { key = key; at = n }) ks) due
      ∙ ap (λ xs. look_of weighed s events ++ due_reports s cone (look_of weighed s events) n (tally weighed s xs)) (between_from_start events n ∙ take-length events)

  module _ (item : Item) (below : item.key < key_limit s) (mine : cone_of s item.key ≡ cone) (weighs : 1 ≤ item.weight) where
    abbrev key : ℕ
    key = item.key

    n : ℕ
    n = length events

    abbrev all : List Item
    all = events ++ item ∷ []

    abbrev tail : ℕ
    tail = tail_of s key

    abbrev window : ℕ
    window = count_of (tally weighed s (slice_range all (edge s 0 (suc (length events) - 1)) (suc (length events)))) tail

    all_keys : HaveKeys s weighed all
    all_keys = HaveKeys-push s events item keys below

    all_own : IsPartOf weighed s cone all
    all_own = IsPartOf-push s cone events item own mine

    all_weigh : WeighAll all
    all_weigh = All-append (λ (i : Item). 1 ≤ i.weight) events (item ∷ []) weigh (All-cons (λ (i : Item). 1 ≤ i.weight) item [] weighs (All-nil (λ (i : Item). 1 ≤ i.weight)))

    before_is : suc (length events) - 1 ≡ length events
    before_is = omega arith

    counted : window ≡ weight_in weighed key all (edge s 0 (length events)) (suc (length events))
    counted = count-tail s cone key (edge s 0 (suc (length events) - 1)) (suc (length events)) all below mine all_keys all_own all_weigh
        ∙ ap (λ p. weight_in weighed key all (edge s 0 p) (suc (length events))) before_is

    -- the item itself is counted
    some : 1 ≤ window
    some =
        let from = edge s 0 (length events) in
        let early = edge_within s 0 (length events) in
        let longer : length all ≡ suc (length events) = omega (arith, length-append events (item ∷ [])) in
        let whole = ap (weight_in weighed key all 0) (sym longer) ∙ count-push weighed key events item
        ∙ ap (λ t. weight_in weighed key events 0 (length events) + cond {A = ℕ} t item.weight 0) (eq-eqb key key (λ _. key)) in
        let first = count-append weighed key events (item ∷ []) from early in
        omega (arith, counted, whole, first, weighs, count_never_falls weighed key events from (length events) early, count_parts weighed key all from (suc (length events)) (omega (arith, early)))

    pub totals_table : IsTable (2 ^ tail_bits s) (totals_at s all (suc (length events)) tail)
    totals_table =
        elim (cases_eq (depth s (suc (length events))) 0) [
          | inl shallow ↦ subst (λ t. IsTable (2 ^ tail_bits s) (cond t (record { tail = tail; count = window } ∷ [])
              (tally weighed s (slice_range all (lookback s (suc (length events))) (suc
              (length events))))))
              (sym (eq-eqb (depth s (suc (length events))) 0 shallow)) (omega arith, tail_below s key, some, tt)
          | inr deep ↦ subst (λ t. IsTable (2 ^ tail_bits s) (cond t (record { tail = tail; count = window } ∷ []) (tally weighed s (slice_range all (lookback s (suc (length events))) (suc
              (length events))))))
              (sym (ne_eqb (depth s (suc (length events))) 0 deep)) (tally_table weighed s (slice_range all (lookback s (suc (length events))) (suc (length events))) (weigh_slice all
              (lookback s (suc (length events))) (suc (length events)) all_weigh))
        ]

    -- the report of one piece
    one_report : (c at : ℕ) (listed : List Report) → due_reports s cone listed at (record { tail = tail; count = c } ∷ []) ≡ cond {A = List Report} (leb s.threshold c && not
        (is_listed key listed)) (record { key = key; at = at } ∷ []) []
    one_report c at listed =
        let same = key_with-tail s cone bits named key below mine in
        ap (λ k. map (λ x. record { key = x; at = at }) (map (λ (p : Piece). key_with s cone p.tail) (cond (leb s.threshold c && not (is_listed k listed)) (record {
          tail = tail;
          count = c;
        } ∷ []) []))) same
        ∙ shown (leb s.threshold c && not (is_listed key listed))
      where
        shown : (t : Bool) → map (λ x. record { key = x; at = at }) (map (λ (p : Piece). key_with s cone p.tail) (cond t (record { tail = tail; count = c } ∷ []) []))
            ≡ cond {A = List Report} t
            (record { key = key; at = at } ∷ []) []
        shown true = ap (λ k. record { key = k; at = at } ∷ []) (key_with-tail s cone bits named key below mine)
        shown false = λ _. []

    pub look_is : look_of weighed s all ≡ look_of weighed s events ++ due_reports s cone (look_of weighed s events) (suc (length events)) (totals_at s all (suc (length events)) tail)
    look_is =
        let m = suc (length events) in
        let reports = look_of weighed s events in
        elim (cases_eq (depth s m) 0) [
          | inl shallow ↦
              look-push_between weighed s events item valid keys below (young_stays s (length events) valid shallow)
              ∙ ap (λ c. reports ++ cond {A = List Report} (leb s.threshold c && not (is_listed key reports)) (record { key = key; at = m } ∷ []) []) (sym counted)
              ∙ ap (λ rs. reports ++ rs) (sym (one_report window m reports))
              ∙ ap (λ t. reports ++ due_reports s cone reports m (cond t (record { tail = tail; count = window } ∷ []) (tally weighed s (slice_range all (lookback s m) m)))) (sym (eq-eqb
              (depth s m) 0 shallow))
          | inr deep ↦
              look-push weighed s events item valid.limits.threshold_from keys below
              ∙ ap (λ ks. reports ++ map (λ k. record { key = k; at = m }) ks)
              (due_by_tally weighed s cone s.threshold all (lookback s m) m reports bits named valid.limits.threshold_from all_keys all_own (weigh_some all all_weigh))
              ∙ ap (λ t. reports ++ due_reports s cone reports m (cond t (record { tail = tail; count = window } ∷ []) (tally weighed s (slice_range all (lookback s m) m)))) (sym (ne_eqb
              (depth s m) 0 deep))
        ]
