-- A cone whose items come again up to n0, while its rows are those after n0 events already.
use Rattle.std.proofs.Common.{ℕ, ◌≡◌, ◌≢◌, ◌+◌, ◌-◌, ◌*◌, ◌%◌, ◌<◌, ◌≤◌, suc, cond, ltb, Bool, true, false, List, [], ◌∷◌, ◌++◌, length, ap, sym, ◌∙◌, arith, inl, inr, subst, length-append}
use Rattle.std.proofs.{Math.Nat.mul-div-le, lemmas.Bool.{cases_eq, cases_lt, eq-eqb, ne_eqb, lt-ltb, le-ltb}, lemmas.Nat.mul-le}
use Rattle.lert_spec.specs.{Counts.weighed, declared.item.Item.Item, declared.numbers.Numbers.Numbers}
use Rattle.lert_spec.specs.{Items.{most_weight, AreOfVersion}, Edges.{key_limit, span, offset, edge, capacity}, Limits.IsValid, Mix.{cone_of, tail_of}}
use Rattle.lert_spec.proofs.{LookLaws.HaveKeys, TailLaws.IsPartOf}
use Rattle.lert_levels.specs.{rows.Ranges.young_bins, rows.Rows.{IsAt, AreRows}, rows.Young.{Young, IsNextPosition, with_event, added}}
use Rattle.lert_levels.proofs.rows.YoungBins.{young-added, young-none}
use Rattle.lert_cone.specs.Tally.{Tallied, IsCounted, IsRecounted, IsRising, AreYoung}
use Rattle.lert_cone.proofs.{KeyLemmas.{HaveKeys-push, IsPartOf-push, AreOfVersion-push}, TallyLaws.{wide, aligned, next_free}}
use Rattle.lert_spec.specs.Items.{IsVersion}

module _ (s : Numbers) (valid : IsValid s) where
  -- the newest event is above the edge of level 0
  pub edge_below : (n : ℕ) → 1 ≤ n → edge s 0 n < n
  edge_below n some =
      let far = mul-le 1 1 (s.bins - 1) (span s 0) (omega (arith, valid.limits.bins_from)) (wide s valid) in
      omega (arith, mul-div-le (n - offset s 0) (span s 0))

  -- level 0 as the next item comes again
  module _ (n0 : ℕ) (events : List Item) (y : Young) (rising : IsRising s n0 events y) (settings : y.settings ≡ s) (before : length events < n0) (fits : n0 ≤ capacity s) where
    abbrev made : Young
    made = record { settings = s; from = 0; to = 0; bins = [] }

    -- where no item above the edge came yet
    module _ (same : length events ≡ edge s 0 n0) where
      none_from : y.from ≡ 0
      none_from = ap (λ (v : Young). v.from) (rising.made (omega arith))

      none_to : y.to ≡ 0
      none_to = ap (λ (v : Young). v.to) (rising.made (omega arith))

      none_bins : y.bins ≡ young_bins s events (edge s 0 n0)
      none_bins = ap (λ (v : Young). v.bins) (rising.made (omega arith)) ∙ sym (young-none s events (edge s 0 n0) (omega arith))

    pub again_position : edge s 0 n0 < suc (length events) → IsNextPosition y (suc (length events))
    again_position above = record {
      first = omega arith;
      last = omega (arith, ap capacity settings);
      follows = λ differs. elim (cases_eq (length events) (edge s 0 n0)) [
        | inl same ↦ absurd (differs (none_from same ∙ sym (none_to same)))
        | inr later ↦ (let further : edge s 0 n0 < length events = omega arith in ap suc (sym (rising.to further)))
      ];
      begins = λ whole. elim (cases_eq (length events) (edge s 0 n0)) [
        | inl same ↦
            ap (λ (t : Numbers). (suc (length events) - 1) % span t 0) settings
            ∙ ap (λ p. p % span s 0) ((let back : suc (length events) - 1 ≡ length events = omega arith in back) ∙ same)
            ∙ aligned s valid n0
        | inr later ↦ (
            let further : edge s 0 n0 < length events = omega arith in
            absurd (later (sym (rising.to further) ∙ sym whole ∙ rising.from further)))
      ];
      free = λ differs. elim (cases_eq (length events) (edge s 0 n0)) [
        | inl same ↦ absurd (differs (none_from same ∙ sym (none_to same)))
        | inr later ↦ (
            let further : edge s 0 n0 < length events = omega arith in
            subst (λ (t : Numbers). suc (length events) ≤ y.from + t.bins * span t 0) (sym settings) (omega (arith, next_free s valid n0, rising.from further)))
      ];
    }

    module _ (item : Item) (tail : ℕ) (tail_is : tail ≡ tail_of s item.key) where
      abbrev all : List Item
      all = events ++ item ∷ []

      all_long : length all ≡ suc (length events)
      all_long = omega (arith, length-append events (item ∷ []))

      from_again : edge s 0 n0 < suc (length events) → (with_event y tail item.weight (suc (length events))).from ≡ edge s 0 n0
      from_again above = elim (cases_eq (length events) (edge s 0 n0)) [
        | inl same ↦ (
            let one : y.from ≡ y.to = none_from same ∙ sym (none_to same) in
            ap (λ t. cond {A = ℕ} t (suc (length events) - 1) y.from) (eq-eqb y.from y.to one) ∙ (let last : suc (length events) - 1 ≡ edge s 0 n0 = omega arith in last))
        | inr later ↦ (
            let further : edge s 0 n0 < length events = omega arith in
            let differs : y.from ≢ y.to = λ one. later (sym (rising.to further) ∙ sym one ∙ rising.from further) in
            ap (λ t. cond {A = ℕ} t (suc (length events) - 1) y.from) (ne_eqb y.from y.to differs) ∙ rising.from further)
      ]

      bins_before : edge s 0 n0 < suc (length events) → y.bins ≡ young_bins s events (edge s 0 n0)
      bins_before above = elim (cases_eq (length events) (edge s 0 n0)) [
        | inl same ↦ none_bins same
        | inr later ↦ (let further : edge s 0 n0 < length events = omega arith in (rising.bins further).is)
      ]

      bins_again : edge s 0 n0 < suc (length events) → (with_event y tail item.weight (suc (length events))).bins ≡ young_bins s all (edge s 0 n0)
      bins_again above =
          (λ i. added (settings i) (bins_before above i) (tail_is i) item.weight (suc (length events)))
          ∙ sym (young-added s events item (edge s 0 n0) (wide s valid) (aligned s valid n0) (omega arith))

      counted_again : edge s 0 n0 < suc (length events) → IsRising s n0 all (with_event y tail item.weight (suc (length events)))
      counted_again above = record {
        made = λ none. absurd (omega (arith, all_long));
        from = λ _. from_again above;
        to = λ _. sym all_long;
        bins = λ _. record { is = bins_again above };
      }

      numbered_again : suc (length events) ≤ edge s 0 n0 → IsRising s n0 all y
      numbered_again below = record {
        made = λ _. rising.made (omega arith);
        from = λ above. absurd (omega (arith, all_long));
        to = λ above. absurd (omega (arith, all_long));
        bins = λ above. absurd (omega (arith, all_long));
      }

      pub rising_more : (next : Young) → next ≡ cond (ltb (edge s 0 n0) (suc (length events))) (with_event y tail item.weight (suc (length events))) y → IsRising s n0 all next
      rising_more next next_is =
          let m = suc (length events) in
          elim (cases_lt (edge s 0 n0) m) [
            | inl above ↦ subst (λ (v : Young). IsRising s n0 all v)
                (sym (next_is ∙ ap (λ t. cond t (with_event y tail item.weight m) y) (lt-ltb (edge s 0 n0) m above))) (counted_again above)
            | inr below ↦ subst (λ (v : Young). IsRising s n0 all v)
                (sym (next_is ∙ ap (λ t. cond t (with_event y tail item.weight m) y) (le-ltb (edge s 0 n0) m below))) (numbered_again below)
          ]

-- level 0 at n0 itself is that of its events
module _ (s : Numbers) (valid : IsValid s) (n0 : ℕ) (events : List Item) (y : Young) (rising : IsRising s n0 events y) (there : length events ≡ n0) where
  none_at : length events ≤ edge s 0 n0 → length events ≡ 0
  none_at few = elim (cases_lt 0 n0) [
    | inl some ↦ absurd (omega (arith, edge_below s valid n0 some))
    | inr none ↦ omega arith
  ]

  pub risen_from : y.from ≡ edge s 0 (length events)
  risen_from = elim (cases_lt (edge s 0 n0) (length events)) [
    | inl some ↦ rising.from some ∙ ap (edge s 0) (sym there)
    | inr none ↦ (
        let from : y.from ≡ 0 = ap (λ (v : Young). v.from) (rising.made none) in
        let same : edge s 0 n0 ≡ edge s 0 (length events) = ap (edge s 0) (sym there) in
        omega (arith, from, same, none_at none, mul-div-le (n0 - offset s 0) (span s 0)))
  ]

  pub risen_to : y.to ≡ length events
  risen_to = elim (cases_lt (edge s 0 n0) (length events)) [
    | inl some ↦ rising.to some
    | inr none ↦ ap (λ (v : Young). v.to) (rising.made none) ∙ sym (none_at none)
  ]

  pub risen_bins : AreYoung s events (edge s 0 (length events)) y.bins
  risen_bins = elim (cases_lt (edge s 0 n0) (length events)) [
    | inl some ↦ subst (λ n. AreYoung s events (edge s 0 n) y.bins) (sym there) (rising.bins some)
    | inr none ↦ record {
      is = ap (λ (v : Young). v.bins) (rising.made none)
          ∙ sym (young-none s events (edge s 0 (length events)) (omega (arith, none, ap (edge s 0) there)));
    }
  ]

-- before the first item above the edge, where none of level 0's came yet
module _ (t : Tallied) (n0 : ℕ) (known : IsVersion t.listing.version) (valid : IsValid t.listing.settings) (few : length t.listing.events ≤ edge t.listing.settings 0 n0) (fits : n0 ≤ capacity
    t.listing.settings)
    (young : t.young ≡ record { settings = t.listing.settings; from = 0; to = 0; bins = [] }) (at : IsAt t.listing.settings n0 t.rows) (are : AreRows t.listing.settings t.rows)
    (keys : HaveKeys t.listing.settings weighed t.listing.events) (own : IsPartOf weighed t.listing.settings t.listing.cone t.listing.events) (light : AreOfVersion t.listing.version t.listing.events)
    (due_settings : t.due.settings ≡ t.listing.settings) (due_cone : t.due.cone ≡ t.listing.cone) where
  within : length t.listing.events ≤ n0
  within = omega (arith, few, mul-div-le (n0 - offset t.listing.settings 0) (span t.listing.settings 0))

  begun : IsRising t.listing.settings n0 t.listing.events t.young
  begun = record {
    made = λ _. young;
    from = λ some. absurd (omega (arith, few, some));
    to = λ some. absurd (omega (arith, few, some));
    bins = λ some. absurd (omega (arith, few, some));
  }

  pub recounted_none : IsRecounted t n0
  recounted_none =
      let short : length t.listing.events ≤ capacity t.listing.settings = omega (arith, within, fits) in
      record {
        valid = valid;
        fits = short;
        n0_fits = fits;
        keys = keys;
        own = own;
        known = known;
        light = light;
        are = are;
        due_settings = due_settings;
        due_cone = due_cone;
        rows = λ _. at;
        young = λ _. begun;
        behind = λ enough.
            let there : length t.listing.events ≡ n0 = omega (arith, within, enough) in
            record {
              valid = valid;
              fits = short;
              keys = keys;
              own = own;
              known = known;
              light = light;
              from = risen_from t.listing.settings valid n0 t.listing.events t.young begun there;
              to = risen_to t.listing.settings valid n0 t.listing.events t.young begun there;
              bins = risen_bins t.listing.settings valid n0 t.listing.events t.young begun there;
              rows = subst (λ n. IsAt t.listing.settings n t.rows) (sym there) at;
              are = are;
              due_settings = due_settings;
              due_cone = due_cone;
            };
      }

-- one item again
module _ (t : Tallied) (n0 : ℕ) (recounted : IsRecounted t n0) (settings : t.young.settings ≡ t.listing.settings) (before : length t.listing.events < n0)
    (item : Item) (tail m : ℕ) (tail_is : tail ≡ tail_of t.listing.settings item.key) (m_is : m ≡ suc (length t.listing.events)) where
  pub recount_position : edge t.young.settings 0 n0 < m → IsNextPosition t.young m
  recount_position above =
      subst (IsNextPosition t.young) (sym m_is)
      (again_position t.listing.settings recounted.valid n0 t.listing.events t.young (recounted.young before) settings before recounted.n0_fits
      (omega (arith, ap (λ (v : Numbers). edge v 0 n0) settings)))

  module _ (below : item.key < key_limit t.listing.settings) (is_own : cone_of t.listing.settings item.key ≡ t.listing.cone) (some : 1 ≤ item.weight) (most : item.weight ≤ most_weight
      t.listing.version)
      (next : Young) (next_is : next ≡ cond (ltb (edge t.young.settings 0 n0) m) (with_event t.young tail item.weight m) t.young) where
    abbrev more : List Item
    more = t.listing.events ++ item ∷ []

    more_long : length more ≡ suc (length t.listing.events)
    more_long = omega (arith, length-append t.listing.events (item ∷ []))

    risen : IsRising t.listing.settings n0 more next
    risen = rising_more t.listing.settings recounted.valid n0 t.listing.events t.young (recounted.young before) settings before recounted.n0_fits item tail tail_is next
        (next_is ∙ (λ i. cond (ltb (edge (settings i) 0 n0) (m_is i)) (with_event t.young tail item.weight (m_is i)) t.young))

    pub recounted_more : (after : Tallied) → after ≡ record t { listing = record t.listing { events = more }; young = next } → IsRecounted after n0
    recounted_more after after_is =
        let keys : HaveKeys t.listing.settings weighed more = HaveKeys-push t.listing.settings t.listing.events item recounted.keys below in
        let own : IsPartOf weighed t.listing.settings t.listing.cone more = IsPartOf-push t.listing.settings t.listing.cone t.listing.events item recounted.own is_own in
        let light : AreOfVersion t.listing.version more = AreOfVersion-push t.listing.version t.listing.events item recounted.light some most in
        let at : IsAt t.listing.settings n0 t.rows = recounted.rows (omega arith) in
        let fits : length more ≤ capacity t.listing.settings = omega (arith, more_long, recounted.n0_fits) in
        subst (λ (v : Tallied). IsRecounted v n0) (sym after_is) (record {
          valid = recounted.valid;
          fits = fits;
          n0_fits = recounted.n0_fits;
          keys = keys;
          own = own;
          known = recounted.known;
          light = light;
          are = recounted.are;
          due_settings = recounted.due_settings;
          due_cone = recounted.due_cone;
          rows = λ _. at;
          young = λ _. risen;
          behind = λ few.
              let there : length more ≡ n0 = omega (arith, more_long) in
              record {
                valid = recounted.valid;
                fits = fits;
                keys = keys;
                own = own;
                known = recounted.known;
                light = light;
                from = risen_from t.listing.settings recounted.valid n0 more next risen there;
                to = risen_to t.listing.settings recounted.valid n0 more next risen there;
                bins = risen_bins t.listing.settings recounted.valid n0 more next risen there;
                rows = subst (λ n. IsAt t.listing.settings n t.rows) (sym there) at;
                are = recounted.are;
                due_settings = recounted.due_settings;
                due_cone = recounted.due_cone;
              };
        })

-- a counted cone that has n0 keys already
pub recounted_behind : (t : Tallied) (n0 : ℕ) → IsCounted t → n0 ≤ length t.listing.events → IsRecounted t n0
recounted_behind t n0 counted enough = record {
  valid = counted.valid;
  fits = counted.fits;
  n0_fits = omega (arith, counted.fits);
  keys = counted.keys;
  own = counted.own;
  known = counted.known;
  light = counted.light;
  are = counted.are;
  due_settings = counted.due_settings;
  due_cone = counted.due_cone;
  rows = λ few.
      let there : length t.listing.events ≡ n0 = omega arith in
      subst (λ n. IsAt t.listing.settings n t.rows) there counted.rows;
  young = λ few. absurd (omega arith);
  behind = λ _. counted;
}

-- and one that comes again from none on is counted
pub counted_from_none : (t : Tallied) → IsRecounted t 0 → IsCounted t
counted_from_none t recounted = recounted.behind (omega arith)

-- level 0 keeps its settings, whether an item is counted again or not
pub again_settings : (counts : Bool) (y next : Young) (tail weight m : ℕ) → next ≡ cond counts (with_event y tail weight m) y → next.settings ≡ y.settings
again_settings true y next tail weight m is = ap (λ (v : Young). v.settings) is
again_settings false y next tail weight m is = ap (λ (v : Young). v.settings) is
