-- Packets of one trace behind those of earlier ones.
use Rattle.std.proofs.Common.{◌≡◌, ◌≢◌, ◌⊎◌, ℕ, zero, suc, ◌+◌, ◌-◌, ◌<◌, ◌≤◌, cond, eqb, List, [], ◌∷◌, ◌++◌, length, map, get_or, set}
use Rattle.std.proofs.Common.{Some, slice_get, refl, ap, sym, ◌∙◌, subst, inl, inr, arith, append-nil, length-append}
use Rattle.std.specs.Prelude.{All, Contains}
use Rattle.std.specs.List.Sorted.{IsNonDecreasing, IsStrictlyIncreasing}
use Rattle.std.proofs.lemmas.Bool.{cases_eq, eq-eqb, ne_eqb}
use Rattle.std.proofs.lemmas.List.{get_or-append-add}
use Rattle.std.proofs.lemmas.List.Elements.{All-append, All-head, All-map, All-tail, All-weaker, filter-append}
use Rattle.std.proofs.lemmas.Option.{get_or_from_slice_get, slice_get_within, same_Some}
use Rattle.lert_base.specs.Beginning.{BeginsWith}
use Rattle.lert_base.specs.Packet.{Packet, events_of, of_trace}
use Rattle.lert_base.specs.Weave.{AreCut}
use Rattle.lert_fleet.proofs.Places.{slice_get-set_other, slice_get-set_same}
use Rattle.lert_spec.specs.{declared.item.Item.Item, declared.numbers.Numbers.Numbers, Counts.weighed, Mix.part_in}
use Rattle.lert_worker.specs.Brings.{Brings, BringsPart, IsOwn}
use Rattle.lert_worker.specs.Sending.{IsOf}

-- places of two lists, one behind the other
pub split_at : (xs : List ℕ) (i : ℕ) → (i < length xs) ⊎ (length xs ≤ i)
split_at [] i = inr (omega arith)
split_at (x ∷ xs) zero = inl (omega arith)
split_at (x ∷ xs) (suc i) =
    elim (split_at xs i) [
      | inl low ↦ inl (omega (arith, low))
      | inr high ↦ inr (omega (arith, high))
    ]

pub front : (xs ys : List ℕ) (i d : ℕ) → i < length xs → get_or (xs ++ ys) i d ≡ get_or xs i d
front [] ys i d within = absurd (omega (arith, within))
front (x ∷ xs) ys zero d within = refl
front (x ∷ xs) ys (suc i) d within = front xs ys i d (omega (arith, within))

behind : (xs ys : List ℕ) (i d : ℕ) → length xs ≤ i → get_or (xs ++ ys) i d ≡ get_or ys (i - length xs) d
behind xs ys i d past =
    ap (λ n. get_or (xs ++ ys) n d) (let same : i ≡ length xs + (i - length xs) = omega (arith, past) in same) ∙ get_or-append-add xs ys (i - length xs) d

map-append : {X Y : Type 0} (f : X → Y) (xs ys : List X) → map f (xs ++ ys) ≡ map f xs ++ map f ys
map-append f [] ys = refl
map-append f (x ∷ xs) ys = ap (λ zs. f x ∷ zs) (map-append f xs ys)

below_or : (a b : ℕ) → a ≢ b → (a < b) ⊎ (b < a)
below_or zero zero apart = absurd (apart refl)
below_or zero (suc b) apart = inl (omega arith)
below_or (suc a) zero apart = inr (omega arith)
below_or (suc a) (suc b) apart =
    elim (below_or a b (λ e. apart (ap suc e))) [
      | inl below ↦ inl (omega (arith, below))
      | inr above ↦ inr (omega (arith, above))
    ]

-- numbers that ascend, by their places
rises : (xs : List ℕ) → IsStrictlyIncreasing xs → (i more : ℕ) → i + suc more < length xs → get_or xs i 0 < get_or xs (i + suc more) 0
rises xs up i zero within =
    let step = up i (omega (arith, within)) in
    subst (λ n. get_or xs i 0 < get_or xs n 0) (omega arith) step
rises xs up i (suc more) within =
    let first = rises xs up i more (omega (arith, within)) in
    let step = up (i + suc more) (omega (arith, within)) in
    let same : i + suc more + 1 ≡ i + suc (suc more) = omega arith in
    let last = subst (λ n. get_or xs (i + suc more) 0 < get_or xs n 0) same step in
    omega (arith, first, last)

pub ascend_at : (xs : List ℕ) → IsStrictlyIncreasing xs → (i j a b : ℕ) → slice_get xs i ≡ Some a → slice_get xs j ≡ Some b → i < j → a < b
ascend_at xs up i j a b at_i at_j below =
    let within = slice_get_within xs j b at_j in
    let same : i + suc (j - i - 1) ≡ j = omega (arith, below) in
    let rise = rises xs up i (j - i - 1) (omega (arith, within, same)) in
    let first = get_or_from_slice_get xs i a 0 at_i in
    let last = ap (λ n. get_or xs n 0) same ∙ get_or_from_slice_get xs j b 0 at_j in
    omega (arith, rise, first, last)

-- another place has another number
pub apart_at : (xs : List ℕ) → IsStrictlyIncreasing xs → (i j a b : ℕ) → slice_get xs i ≡ Some a → slice_get xs j ≡ Some b → i ≢ j → a ≢ b
apart_at xs up i j a b at_i at_j other same =
    elim (below_or i j other) [
      | inl below ↦ let less = ascend_at xs up i j a b at_i at_j below in omega (arith, less, same)
      | inr above ↦ let less = ascend_at xs up j i b a at_j at_i above in omega (arith, less, same)
    ]

-- packets of one trace are those of this trace, and none of another one
of_all : (packets : List Packet) (trace : ℕ) → All (λ packet. packet.trace ≡ trace) packets → of_trace packets trace ≡ packets
of_all [] trace all = refl
of_all (packet ∷ packets) trace all =
    ap (λ b. cond b (packet ∷ of_trace packets trace) (of_trace packets trace))
    (eq-eqb packet.trace trace (All-head (λ (p : Packet). p.trace ≡ trace) packet packets all))
    ∙ ap (λ ps. packet ∷ ps) (of_all packets trace (All-tail (λ (p : Packet). p.trace ≡ trace) packet packets all))

of_none : (packets : List Packet) (trace : ℕ) → All (λ packet. packet.trace ≢ trace) packets → of_trace packets trace ≡ []
of_none [] trace all = refl
of_none (packet ∷ packets) trace all =
    ap (λ b. cond b (packet ∷ of_trace packets trace) (of_trace packets trace))
    (ne_eqb packet.trace trace (All-head (λ (p : Packet). p.trace ≢ trace) packet packets all))
    ∙ of_none packets trace (All-tail (λ (p : Packet). p.trace ≢ trace) packet packets all)

-- numbers that don't fall, and behind them one that is none of them less than, again and again
orders : (xs ys : List ℕ) (most : ℕ) → IsNonDecreasing xs → All (λ x. x ≤ most) xs → All (λ y. y ≡ most) ys → IsNonDecreasing (xs ++ ys)
orders xs ys most up few same = λ i j d first within.
    elim (split_at xs j) [
      | inl low ↦
          let at_i = front xs ys i d (omega (arith, low, first)) in
          let at_j = front xs ys j d low in
          let rise = up i j d first low in
          omega (arith, at_i, at_j, rise)
      | inr high ↦
          let at_j = behind xs ys j d high in
          let last = same (j - length xs) d (omega (arith, high, within, length-append xs ys)) in
          elim (split_at xs i) [
            | inl low ↦
                let at_i = front xs ys i d low in
                let less = few i d low in
                omega (arith, at_i, at_j, last, less)
            | inr above ↦
                let at_i = behind xs ys i d above in
                let also = same (i - length xs) d (omega (arith, above, first, within, length-append xs ys)) in
                omega (arith, at_i, at_j, last, also)
          ]
    ]

module _ (s : Numbers) (number cone : ℕ) (traces : List ℕ) (reads : List (List Item)) (up : IsStrictlyIncreasing traces)
    (place trace : ℕ) (at : slice_get traces place ≡ Some trace) (within : place < length reads) (items : List Item)
    (added : List Packet) (old : Brings s number cone traces reads added) (below : All (λ packet. packet.trace < trace) added)
    (more : List Packet) (each : All (IsOf s number trace) more) (cut : AreCut s.packet more) where
  traces_are : All (λ packet. packet.trace ≡ trace) more
  traces_are = All-weaker (IsOf s number trace) (λ (p : Packet). p.trace ≡ trace) (λ p is. is.trace_is) more each

  -- of the trace there are the new packets alone, and of another one none of them
  pub of_here : of_trace (added ++ more) trace ≡ more
  of_here =
      filter-append (λ (p : Packet). eqb p.trace trace) added more
      ∙ (ap (λ ps. ps ++ of_trace more trace)
      (of_none added trace (All-weaker (λ (p : Packet). p.trace < trace) (λ (p : Packet). p.trace ≢ trace) (λ p less same. absurd (omega (arith, less, same))) added below))
      ∙ of_all more trace traces_are)

  pub of_other : (other : ℕ) → other ≢ trace → of_trace (added ++ more) other ≡ of_trace added other
  of_other other apart =
      filter-append (λ (p : Packet). eqb p.trace other) added more
      ∙ (ap (λ ps. of_trace added other ++ ps)
      (of_none more other (All-weaker (λ (p : Packet). p.trace ≡ trace) (λ (p : Packet). p.trace ≢ other) (λ p is same. apart (sym same ∙ is)) more traces_are))
      ∙ append-nil (of_trace added other))

  own_each : All (IsOwn s number traces) (added ++ more)
  own_each = All-append (IsOwn s number traces) added more old.each (All-weaker (IsOf s number trace) (IsOwn s number traces)
      (λ p is. record {
        some = is.some;
        few = is.few;
        weights = is.weights;
        by_is = is.by_is;
        of_one = subst (Contains traces) (sym is.trace_is) (place, slice_get_within traces place trace at, get_or_from_slice_get traces place trace trace at);
      }) more each)

  own_order : IsNonDecreasing (map (λ (p : Packet). p.trace) (added ++ more))
  own_order =
      subst IsNonDecreasing (sym (map-append (λ (p : Packet). p.trace) added more))
      (orders (map (λ (p : Packet). p.trace) added) (map (λ (p : Packet). p.trace) more) trace old.in_order
      (All-map (λ x. x ≤ trace) (λ (p : Packet). p.trace) added
      (All-weaker (λ (p : Packet). p.trace < trace) (λ (p : Packet). p.trace ≤ trace) (λ p less. omega (arith, less)) added below))
      (All-map (λ x. x ≡ trace) (λ (p : Packet). p.trace) more traces_are))

  own_cut : (other : ℕ) → AreCut s.packet (of_trace (added ++ more) other)
  own_cut other = elim (cases_eq other trace) [
    | inl same ↦ subst (AreCut s.packet) (sym (ap (of_trace (added ++ more)) same ∙ of_here)) cut
    | inr apart ↦ subst (AreCut s.packet) (sym (of_other other apart)) (old.cut other)
  ]

  -- the items of all of them, or a beginning of those of the last trace
  pub brings_more : events_of more ≡ part_in weighed s cone items → Brings s number cone traces (set reads place items) (added ++ more)
  brings_more joined = record {
    each = own_each;
    in_order = own_order;
    joined = λ other found read is_trace is_read. elim (cases_eq other place) [
      | inl same ↦
          let trace_is : trace ≡ found = same_Some trace found (sym at ∙ (ap (slice_get traces) (sym same) ∙ is_trace)) in
          let items_are : items ≡ read = same_Some items read (sym (slice_get-set_same reads place items within) ∙ (ap (slice_get (set reads place items)) (sym same) ∙ is_read)) in
          ap (λ t. events_of (of_trace (added ++ more) t)) (sym trace_is) ∙ (ap events_of of_here ∙ (joined ∙ ap (part_in weighed s cone) items_are))
      | inr apart ↦
          let others = apart_at traces up other place found trace is_trace at apart in
          ap events_of (of_other found others) ∙ old.joined other found read is_trace (sym (slice_get-set_other reads place other items apart) ∙ is_read)
    ];
    cut = own_cut;
  }

  pub brings_part : BeginsWith (part_in weighed s cone items) (events_of more) → BringsPart s number cone traces (set reads place items) (added ++ more)
  brings_part begins = record {
    each = own_each;
    in_order = own_order;
    joined = λ other found read is_trace is_read. elim (cases_eq other place) [
      | inl same ↦
          let trace_is : trace ≡ found = same_Some trace found (sym at ∙ (ap (slice_get traces) (sym same) ∙ is_trace)) in
          let items_are : items ≡ read = same_Some items read (sym (slice_get-set_same reads place items within) ∙ (ap (slice_get (set reads place items)) (sym same) ∙ is_read)) in
          let events : events_of (of_trace (added ++ more) found) ≡ events_of more = ap (λ t. events_of (of_trace (added ++ more) t)) (sym trace_is) ∙ ap events_of of_here in
          (begins.0, ap (λ xs. xs ++ begins.0) events ∙ (begins.1 ∙ ap (part_in weighed s cone) items_are))
      | inr apart ↦
          let others = apart_at traces up other place found trace is_trace at apart in (
            [],
            append-nil (events_of (of_trace (added ++ more) found))
                ∙ (ap events_of (of_other found others) ∙ old.joined other found read is_trace (sym (slice_get-set_other reads place other items apart) ∙ is_read)),
          )
    ];
    cut = own_cut;
  }

-- packets that bring all bring a part
pub brings_all : (s : Numbers) (number cone : ℕ) (traces : List ℕ) (reads : List (List Item)) (packets : List Packet)
    → Brings s number cone traces reads packets → BringsPart s number cone traces reads packets
brings_all s number cone traces reads packets all = record {
  each = all.each;
  in_order = all.in_order;
  joined = λ place trace items at read. ([], append-nil (events_of (of_trace packets trace)) ∙ all.joined place trace items at read);
  cut = all.cut;
}
