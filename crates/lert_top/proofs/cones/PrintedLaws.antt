-- What is printed of all cones: the keys that weigh enough in all traces, each once.
use Rattle.std.proofs.Common.{◌≡◌, ◌≢◌, ℕ, ◌+◌, ◌^◌, ◌<◌, ◌≤◌, Bool, cond, eqb, List, [], ◌∷◌, ◌++◌, length, get_or, flat_map, sum_by, Option, Some, slice_get, refl, ap, sym, ◌∙◌, subst, inl, inr}
use Rattle.std.proofs.{Common.arith, lemmas.Bool.{cases_eq, cases_lt, eq-eqb, ne_eqb}, lemmas.List.FromFn.fill_by_all, lemmas.List.Sums.{sum_by-append, sum_by-cons}}
use Rattle.std.proofs.lemmas.Option.{slice_get-get_or, slice_get_within}
use Rattle.std.specs.Prelude.{◌↔◌, Contains}
use Rattle.lert_bay.specs.Files.{Files}
use Rattle.lert_spec.specs.{declared.item.Item.Item, declared.numbers.Numbers.Numbers, declared.report.Report.Report, Counts.{heavy_in, weighed}, Limits.IsValid}
use Rattle.lert_spec.specs.{Lines.Printed, Look.closing_of, Mix.{cone_of, part_in}, Timely.times_listed}
use Rattle.lert_ingest.specs.{Bays.AreTold, Traces.all_items}
use Rattle.lert_ingest.proofs.BayLaws.{slice_get-some}
use Rattle.lert_top.specs.cones.Printed.{ArePrinted, HoldsReported, IsPrinted, printed_of}
use Rattle.lert_top.proofs.{cones.HeavyLaws.{cone_any, enough_heavy, heavy_enough}, cones.TraceSums.{by_place, joined, nothing_in, one_in}}
use Rattle.lert_top.proofs.cones.WovenLaws.{weighs, weighs_other, weighs_own, woven_one}

-- the reports of all cones, one behind the other
abbrev pub all_reports : List Printed → List Report
all_reports cones = flat_map (λ (one : Printed). one.reports) cones

times_listed-append : (key : ℕ) (xs ys : List Report) → times_listed key (xs ++ ys) ≡ times_listed key xs + times_listed key ys
times_listed-append key xs ys = sum_by-append (λ (r : Report). cond (eqb r.key key) 1 0) xs ys

module _ (s : Numbers) (valid : IsValid s) (workers : ℕ) (traces : List (List Item)) (key : ℕ) where
  module _ (cone : ℕ) (reports : List Report) (seen : Files) (holds : HoldsReported s workers traces cone reports seen) where
    -- a key that has another cone isn't reported
    listed_other : cone_of s key ≢ cone → times_listed key reports ≡ 0
    listed_other other =
        holds.in_time.light key (omega (arith, weighs_other s cone workers traces holds.history holds.woven key other, valid.limits.threshold_from))

    -- one that has this cone is reported once where it weighs enough
    listed_own : cone_of s key ≡ cone → s.threshold ≤ weighs key (all_items traces) → times_listed key reports ≡ 1
    listed_own own many =
        (holds.in_time.heavy key (omega (arith, weighs_own s cone workers traces holds.history holds.woven key own, many))).once

    listed_few : weighs key (all_items traces) < s.threshold → times_listed key reports ≡ 0
    listed_few few =
        elim (cases_eq (cone_of s key) cone) [
          | inl own ↦ holds.in_time.light key (omega (arith, weighs_own s cone workers traces holds.history holds.woven key own, few))
          | inr other ↦ listed_other other
        ]

  module _ (cones : List Printed) (number : length cones ≡ 2 ^ s.cone_bits)
      (each : (cone : ℕ) (one : Printed) → slice_get cones cone ≡ Some one → (seen : Files) × HoldsReported s workers traces cone one.reports seen) where
    all_listed : (w : ℕ) → ((cone : ℕ) (one : Printed) → slice_get cones cone ≡ Some one → cone_of s key ≡ cone → times_listed key one.reports ≡ w) →
        times_listed key (all_reports cones) ≡ w
    all_listed w own =
        let own_cone = cone_of s key in
        let below : own_cone < 0 + length cones = omega (arith, cone_any s key (omega (arith, valid.limits.cone_bits_to)), number) in
        let G = λ (k : ℕ). cond (eqb own_cone k) w 0 in
        let at_own : G own_cone ≡ w + 0 = ap (λ (b : Bool). cond b w 0) (eq-eqb own_cone own_cone refl) ∙ (omega arith) in
        let placed = by_place (λ (one : Printed). times_listed key one.reports) G cones 0 (λ k one is.
        ap G (let same : 0 + k ≡ k = omega arith in same)
        ∙ (elim (cases_eq own_cone k) [
          | inl same ↦ ap (λ (b : Bool). cond b w 0) (eq-eqb own_cone k same) ∙ sym (own k one is same)
          | inr other ↦ ap (λ (b : Bool). cond b w 0) (ne_eqb own_cone k other) ∙ sym (let held = each k one is in listed_other k one.reports held.0 held.1 other)
        ])) in
        let one = one_in (λ k. 0) G own_cone w 0 (length cones) at_own (λ k differs. ap (λ (b : Bool). cond b w 0) (ne_eqb own_cone k (λ is. differs (sym is)))) (omega arith) below in
        omega (arith, joined (times_listed key) refl (times_listed-append key) (λ (one : Printed). one.reports) cones, placed, one, nothing_in 0 (length cones))

    pub all_enough : s.threshold ≤ weighs key (all_items traces) → times_listed key (all_reports cones) ≡ 1
    all_enough many = all_listed 1 (λ cone one is own. let held = each cone one is in listed_own cone one.reports held.0 held.1 own many)

    pub all_few : weighs key (all_items traces) < s.threshold → times_listed key (all_reports cones) ≡ 0
    all_few few = all_listed 0 (λ cone one is own. let held = each cone one is in listed_few cone one.reports held.0 held.1 few)

    pub heavy_listed : Contains (heavy_in weighed s.threshold (all_items traces)) key ↔ (times_listed key (all_reports cones) ≡ 1)
    heavy_listed = (
      λ has. all_enough (heavy_enough weighed s.threshold (all_items traces) key has),
      λ once. elim (cases_lt (weighs key (all_items traces)) s.threshold) [
        | inl few ↦ absurd (omega (arith, once, all_few few))
        | inr many ↦ enough_heavy weighed s.threshold (all_items traces) key valid.limits.threshold_from many
      ],
    )

    pub at_most_once : times_listed key (all_reports cones) ≤ 1
    at_most_once =
        elim (cases_lt (weighs key (all_items traces)) s.threshold) [
          | inl few ↦ omega (arith, all_few few)
          | inr many ↦ omega (arith, all_enough many)
        ]

-- what is printed of each cone says what is printed of all
module _ {B : Type 0} (files : B → Option Files) (s : Numbers) (valid : IsValid s) (workers : ℕ) (bays : List B) (traces : List (List Item)) (cones : List Printed)
    (number : length cones ≡ 2 ^ s.cone_bits) (within : 2 ^ s.cone_bits ≤ length bays)
    (each : (cone : ℕ) (one : Printed) → slice_get cones cone ≡ Some one → IsPrinted files s workers bays traces cone one) where
  held : AreTold files bays → (cone : ℕ) (one : Printed) → slice_get cones cone ≡ Some one → (seen : Files) × HoldsReported s workers traces cone one.reports seen
  held told cone one is =
      let bay = slice_get-some bays cone (omega (arith, slice_get_within cones cone one is, number, within)) in
      let seen = told cone bay.0 bay.1 in
      (seen.0, (each cone one is).reports_are bay.0 bay.1 seen.0 seen.1)

  one_is : (items : List Item) → traces ≡ items ∷ [] → AreTold files bays → (cone : ℕ) (one : Printed) → slice_get cones cone ≡ Some one → one ≡ printed_of s items cone
  one_is items only told cone one is =
      let here = each cone one is in
      let all = subst (λ ts. HoldsReported s workers ts cone one.reports (held told cone one is).0) only (held told cone one is).1 in
      let events : one.events ≡ length (part_in weighed s cone items) =
      here.events_are
      ∙ (ap (λ ts. sum_by (λ xs. length (part_in weighed s cone xs)) ts) only ∙ (omega (arith, sum_by-cons (λ xs. length (part_in weighed s cone xs)) items []))) in
      let reports : one.reports ≡ closing_of weighed s (part_in weighed s cone items) =
      all.reports_are ∙ ap (closing_of weighed s) (woven_one s cone workers items all.history all.woven) in
      (λ i. record { events = events i; reports = reports i; closed = here.closed_is i })

  pub printed_all : ArePrinted files s workers bays traces cones
  printed_all = record {
    number_is = number;
    each = each;
    heavy_are = λ told key. heavy_listed s valid workers traces key cones number (held told);
    no_others = λ told key. at_most_once s valid workers traces key cones number (held told);
    of_one = λ told items only.
        fill_by_all (printed_of s items) cones (2 ^ s.cone_bits) (printed_of s items 0) number (λ cone below.
        one_is items only told cone (get_or cones cone (printed_of s items 0)) (slice_get-get_or cones cone (printed_of s items 0) (omega (arith, below, number))));
  }
