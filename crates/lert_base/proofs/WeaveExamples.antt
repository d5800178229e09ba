-- The definition of a weave, computed: two traces, two workers, and a history of four packets that is one, and one that isn't.
use Rattle.std.proofs.{Common.{◌≡◌, ℕ, zero, suc, ◌<◌, List, [], ◌∷◌, ◌*◌, length, Some, slice_get, get_or, refl, sym, ap, ◌∙◌, subst, arith}, lemmas.List.Elements.{All-nil, All-cons}}
use Rattle.std.proofs.lemmas.Option.{none-some, same_Some}
use Rattle.std.specs.Prelude.{All}
use Rattle.lert_base.specs.{Packet.{Packet, events_of, of_trace}, Weave.{AreCut, IsBrought, IsWhole, IsWoven}}
use Rattle.lert_spec.specs.{declared.numbers.Numbers.Numbers, Counts.weighed, Mix.{mix, part_in}, Items.{unit, units}, declared.item.Item.Item}

-- settings with two cones and packets of two keys
abbrev small : Numbers
small = record { threshold = 3; bins = 3; ratio = 2; base = 4; levels = 2; cone_bits = 1; room = 32; packet = 2 }

-- of the first trace 2 is a key of cone 0, of the second it is 3; the others are keys of cone 1
abbrev heavy_six : Item
heavy_six = record { key = 6; weight = 9 }

abbrev traces : List (List Item)
traces = (unit 1 ∷ unit 2 ∷ unit 5 ∷ heavy_six ∷ []) ∷ units (9 ∷ 11 ∷ 3 ∷ 12 ∷ 13 ∷ 14 ∷ []) ∷ []

abbrev of_worker : ℕ → List Item → Packet
of_worker worker items = record { by = worker; trace = worker; items = items }

abbrev behind_third : List Packet
behind_third = of_worker 1 (units (14 ∷ [])) ∷ []

abbrev behind_second : List Packet
behind_second = of_worker 0 (heavy_six ∷ []) ∷ behind_third

abbrev behind_first : List Packet
behind_first = of_worker 1 (units (9 ∷ 11 ∷ 12 ∷ 13 ∷ [])) ∷ behind_second

abbrev woven : List Packet
woven = of_worker 0 (units (1 ∷ 5 ∷ [])) ∷ behind_first

-- the same with another weight at the first trace's end
abbrev strayed : List Packet
strayed = of_worker 0 (units (1 ∷ 5 ∷ [])) ∷ of_worker 1 (units (9 ∷ 11 ∷ 12 ∷ 13 ∷ [])) ∷ of_worker 0 (unit 6 ∷ []) ∷ of_worker 1 (units (14 ∷ [])) ∷ []

part_of_first : part_in weighed small 1 (unit 1 ∷ unit 2 ∷ unit 5 ∷ heavy_six ∷ []) ≡ unit 1 ∷ unit 5 ∷ heavy_six ∷ []
unfolding mix
part_of_first = refl

part_of_second : part_in weighed small 1 (units (9 ∷ 11 ∷ 3 ∷ 12 ∷ 13 ∷ 14 ∷ [])) ≡ units (9 ∷ 11 ∷ 12 ∷ 13 ∷ 14 ∷ [])
unfolding mix
part_of_second = refl

abbrev Brought : Packet → Type 0
Brought = IsBrought small 2 2

brought_by : (worker : ℕ) (items : List Item) (rest : List Packet) → worker < 2 → 0 < length items → length items < 9 → All Brought rest → All Brought (of_worker worker items ∷ rest)
brought_by worker items rest low some few others =
    All-cons Brought (of_worker worker items) rest
    (record { some = omega (arith, some); few = omega (arith, few); of_them = low; by_is = omega (arith, low) })
    others

each_brought : All Brought woven
each_brought =
    brought_by 0 (units (1 ∷ 5 ∷ [])) behind_first (omega arith) (omega arith) (omega arith)
    (brought_by 1 (units (9 ∷ 11 ∷ 12 ∷ 13 ∷ [])) behind_second (omega arith) (omega arith) (omega arith)
    (brought_by 0 (heavy_six ∷ []) behind_third (omega arith) (omega arith) (omega arith)
    (brought_by 1 (units (14 ∷ [])) [] (omega arith) (omega arith) (omega arith) (All-nil Brought))))

joined_each : (trace : ℕ) (items : List Item) → slice_get traces trace ≡ Some items → events_of (of_trace woven trace) ≡ part_in weighed small 1 items
joined_each zero items is = sym part_of_first ∙ ap (part_in weighed small 1) (same_Some _ _ is)
joined_each (suc zero) items is = sym part_of_second ∙ ap (part_in weighed small 1) (same_Some _ _ is)
joined_each (suc (suc trace)) items is = absurd (none-some items is)

-- of two packets the first is whole
cut_of_two : (times : ℕ) (first second : Packet) → 0 < times → times < 5 → length first.items ≡ times * 2 → AreCut 2 (first ∷ second ∷ [])
cut_of_two times first second some few long zero packet below is =
    subst (IsWhole 2) (same_Some _ _ is) (record { times = times; least = omega (arith, some); most = omega (arith, few); items_are = long })
cut_of_two times first second some few long (suc place) packet below is = absurd (omega (arith, below))

cut_each : (trace : ℕ) → trace < 2 → AreCut 2 (of_trace woven trace)
cut_each zero low = cut_of_two 1 (of_worker 0 (units (1 ∷ 5 ∷ []))) (of_worker 0 (heavy_six ∷ [])) (omega arith) (omega arith) refl
cut_each (suc zero) low = cut_of_two 2 (of_worker 1 (units (9 ∷ 11 ∷ 12 ∷ 13 ∷ []))) (of_worker 1 (units (14 ∷ []))) (omega arith) (omega arith) refl
cut_each (suc (suc trace)) low = absurd (omega (arith, low))

is_woven : IsWoven small 1 2 traces woven
is_woven = record { each = each_brought; joined = joined_each; cut = cut_each }

-- the packets of the first trace join to the same keys, of which one has another weight
isn't_woven : IsWoven small 1 2 traces strayed → ⊥
isn't_woven is =
    let joined : units (1 ∷ 5 ∷ 6 ∷ []) ≡ unit 1 ∷ unit 5 ∷ heavy_six ∷ [] = is.joined 0 (unit 1 ∷ unit 2 ∷ unit 5 ∷ heavy_six ∷ []) refl ∙ part_of_first in
    let other : 1 ≡ 9 = ap (λ items. (get_or items 2 (unit 0)).weight) joined in
    omega (arith, other)
