-- The items of four traces have all generated keys, in another order.
use Rattle.std.proofs.Common.{◌≡◌, ◌≢◌, ℕ, ◌+◌, ◌-◌, ◌%◌, Bool, cond, eqb, List, [], ◌∷◌, ◌++◌, length, filter, map, sum_by, Option, refl, ap, ◌∙◌, inl, inr, arith, length-append}
use Rattle.std.proofs.{lemmas.Bool.{cases_eq, eq-eqb, ne_eqb}, lemmas.List.Elements.filter-append, lemmas.List.Sums.sum_by-cons}
use Rattle.std.specs.List.{range_with_len}
use Rattle.lert_spec.specs.{declared.item.Item.Item, declared.numbers.Numbers.Numbers, Counts.weighed, Items.units, Mix.{cone_of, part_in, part_of}}
use Rattle.lert_spec.proofs.ItemLaws.{length-units}
use Rattle.lert_trace.specs.Trace.{whole}
use Rattle.lert_gen.specs.Generated.{dealt, generated, key_at, trace_of}
use Rattle.lert_gen.proofs.RoundTrip.{all_generated_below, whole-trace}
use Rattle.lert_ingest.specs.Traces.{AreItemsOf, part_length}
use Rattle.lert_ingest.proofs.Exactly.{items_same}
use Rattle.lert_top.specs.drills.Dealt.{AreDealt, all_dealt, all_dealt_items}
use Rattle.lert_top.proofs.{cones.TraceSums.sum_by-same, drills.UnitLaws.{part-units, sum_by-map}}

-- the events of a trace
abbrev pub to_trace : ℕ → List ℕ → List ℕ
to_trace trace events = filter (λ event. eqb ((event - 1) % 4) trace) events

module _ (f : List ℕ → ℕ) (none : f [] ≡ 0) (joins : (xs ys : List ℕ) → f (xs ++ ys) ≡ f xs + f ys) (g : ℕ → ℕ) where
  dealt_here : (trace event : ℕ) (events : List ℕ) → (event - 1) % 4 ≡ trace → f (map g (to_trace trace (event ∷ events))) ≡ f (g event ∷ []) + f (map g (to_trace trace events))
  dealt_here trace event events is =
      ap (λ (b : Bool). f (map g (cond b (event ∷ to_trace trace events) (to_trace trace events)))) (eq-eqb ((event - 1) % 4) trace is)
      ∙ joins (g event ∷ []) (map g (to_trace trace events))

  dealt_not : (trace event : ℕ) (events : List ℕ) → (event - 1) % 4 ≢ trace → f (map g (to_trace trace (event ∷ events))) ≡ f (map g (to_trace trace events))
  dealt_not trace event events differs = ap (λ (b : Bool). f (map g (cond b (event ∷ to_trace trace events) (to_trace trace events)))) (ne_eqb ((event - 1) % 4) trace differs)

  -- what adds up over lists is of all keys what it is of the four parts
  all_parts : (events : List ℕ) → f (map g events) ≡ f (map g (to_trace 0 events)) + f (map g (to_trace 1 events)) + f (map g (to_trace 2 events)) + f (map g (to_trace 3 events))
  all_parts [] = omega (arith, none)
  all_parts (event ∷ events) =
      let rest = all_parts events in
      let more = joins (g event ∷ []) (map g events) in
      elim (cases_eq ((event - 1) % 4) 0) [
        | inl a ↦ omega (
          arith,
          more,
          rest,
          dealt_here 0 event events a,
          dealt_not 1 event events (λ b. absurd (omega (arith, a, b))),
          dealt_not 2 event events (λ b. absurd (omega (arith, a, b))),
          dealt_not 3 event events (λ b. absurd (omega (arith, a, b))),
        )
        | inr a ↦ elim (cases_eq ((event - 1) % 4) 1) [
          | inl b ↦ omega (
            arith,
            more,
            rest,
            dealt_not 0 event events a,
            dealt_here 1 event events b,
            dealt_not 2 event events (λ c. absurd (omega (arith, b, c))),
            dealt_not 3 event events (λ c. absurd (omega (arith, b, c))),
          )
          | inr b ↦ elim (cases_eq ((event - 1) % 4) 2) [
            | inl c ↦ omega (
              arith,
              more,
              rest,
              dealt_not 0 event events a,
              dealt_not 1 event events b,
              dealt_here 2 event events c,
              dealt_not 3 event events (λ d. absurd (omega (arith, c, d))),
            )
            | inr c ↦ omega (
              arith,
              more,
              rest,
              dealt_not 0 event events a,
              dealt_not 1 event events b,
              dealt_not 2 event events c,
              dealt_here 3 event events (last (event - 1) a b c),
            )
          ]
        ]
      ]
    where
      last : (n : ℕ) → n % 4 ≢ 0 → n % 4 ≢ 1 → n % 4 ≢ 2 → n % 4 ≡ 3
      last n a b c = omega (arith, a, b, c)

module _ (seed events : ℕ) where
  sum_parts : (f : List ℕ → ℕ) → f [] ≡ 0 → ((xs ys : List ℕ) → f (xs ++ ys) ≡ f xs + f ys) → sum_by f (all_dealt seed events) ≡ f (generated seed events)
  sum_parts f none joins =
      let a = dealt seed events 0 in
      let b = dealt seed events 1 in
      let c = dealt seed events 2 in
      let d = dealt seed events 3 in
      omega (
        arith,
        sum_by-cons f a (b ∷ c ∷ d ∷ []),
        sum_by-cons f b (c ∷ d ∷ []),
        sum_by-cons f c (d ∷ []),
        sum_by-cons f d [],
        all_parts f none joins (key_at seed) (range_with_len 1 events),
      )

  -- what adds up over lists is of a cone's part of all keys what it is of its parts of the four traces
  sum_of_parts : (s : Numbers) (cone : ℕ) (f : List ℕ → ℕ) → f [] ≡ 0 → ((xs ys : List ℕ) → f (xs ++ ys) ≡ f xs + f ys) →
      sum_by (λ keys. f (part_of s cone keys)) (all_dealt seed events) ≡ f (part_of s cone (generated seed events))
  sum_of_parts s cone f none joins =
      sum_parts (λ keys. f (part_of s cone keys)) none (λ xs ys. ap f (filter-append (λ key. eqb (cone_of s key) cone) xs ys) ∙ joins (part_of s cone xs) (part_of s cone ys))

  -- what adds up over their items as another sum does over keys is this sum of the part of all keys
  pub sum_of_items : (s : Numbers) (cone : ℕ) (f : List Item → ℕ) (g : List ℕ → ℕ) → ((keys : List ℕ) → f (units keys) ≡ g keys) → g [] ≡ 0 →
      ((xs ys : List ℕ) → g (xs ++ ys) ≡ g xs + g ys) → sum_by (λ items. f (part_in weighed s cone items)) (all_dealt_items seed events) ≡ g (part_of s cone (generated seed events))
  sum_of_items s cone f g same none joins =
      sum_by-map units (λ items. f (part_in weighed s cone items)) (all_dealt seed events)
      ∙ (sum_by-same (λ keys. f (part_in weighed s cone (units keys))) (λ keys. g (part_of s cone keys)) (all_dealt seed events) (λ keys.
      ap f (part-units s cone keys) ∙ same (part_of s cone keys))
      ∙ sum_of_parts s cone g none joins)

  pub part_length_is : (s : Numbers) (cone : ℕ) → part_length s cone (all_dealt_items seed events) ≡ length (part_of s cone (generated seed events))
  part_length_is s cone = sum_of_items s cone length length length-units refl length-append

  read_back : (trace : ℕ) → whole (trace_of (dealt seed events trace)) ≡ units (dealt seed events trace)
  read_back trace = whole-trace (dealt seed events trace) (all_generated_below seed (to_trace trace (range_with_len 1 events)))

  -- the items of sources that tell the bytes of the four traces
  pub dealt_items : {S : Type 0} (remaining : S → Option (List ℕ)) (sources : List S) (traces : List (List Item)) → AreDealt remaining seed events sources →
      AreItemsOf remaining sources traces → traces ≡ all_dealt_items seed events
  dealt_items remaining sources traces are items =
      items_same remaining sources (map trace_of (all_dealt seed events)) traces are items
      ∙ (λ i. read_back 0 i ∷ read_back 1 i ∷ read_back 2 i ∷ read_back 3 i ∷ [])
