-- What items weigh behind a position up to which they are counted elsewhere, some packets after others.
use Rattle.std.proofs.lemmas.Nat.{mul-le}
use Rattle.std.proofs.Common.{◌≡◌, ℕ, ◌+◌, ◌-◌, ◌≤◌, ◌^◌, List, [], ◌∷◌, ◌++◌, length, drop, ap, ◌∙◌, arith}
use Rattle.std.proofs.lemmas.List.{drop_all}
use Rattle.lert_base.specs.Packet.{Packet, events_of}
use Rattle.lert_spec.specs.{Counts.{weighed, weight_of}, declared.item.Item.Item, declared.numbers.Numbers.Numbers, Edges.weight_room, Limits.IsValid}
use Rattle.lert_cone.specs.Replay.{weight_behind}
use Rattle.lert_cone.proofs.{SoundLaws.events_more, WeighLaws.{drop_joined, weigh_more}}

pub none_behind : (from n : ℕ) → weight_behind from n [] ≡ 0
none_behind from n = ap (weight_of weighed) (drop_all (from - n) [] (omega arith))

pub behind_append : (from n : ℕ) (items more : List Item) → weight_behind from n (items ++ more) ≡ weight_behind from n items + weight_behind from (n + length items) more
behind_append from n items more =
    ap (weight_of weighed) (drop_joined (from - n) items more)
    ∙ weigh_more (drop (from - n) items) (drop (from - n - length items) more)
    ∙ ap (λ k. weight_behind from n items + weight_of weighed (drop k more)) (let same : from - n - length items ≡ from - (n + length items) = omega arith in same)

-- no packet
pub same_weight : (from n w : ℕ) → w ≡ w + weight_behind from n []
same_weight from n w = omega (arith, none_behind from n)

-- one packet before others
pub weighs_first : (from n w : ℕ) (packet : Packet) (rest : List Packet) →
    w + weight_behind from n packet.items + weight_behind from (n + length packet.items) (events_of rest) ≡ w + weight_behind from n (events_of (packet ∷ rest))
weighs_first from n w packet rest = omega (arith, behind_append from n packet.items (events_of rest))

-- and behind them
pub weighs_last : (from n w : ℕ) (packets : List Packet) (packet : Packet) →
    w + weight_behind from n (events_of (packets ++ packet ∷ [])) ≡ w + weight_behind from n (events_of packets) + weight_behind from (n + length (events_of packets)) packet.items
weighs_last from n w packets packet = omega (arith, ap (weight_behind from n) (events_more packets packet), behind_append from n (events_of packets) packet.items)

-- a cone takes no great weight
pub room_to : (s : Numbers) → IsValid s → weight_room s ≤ 2 ^ 54
room_to s valid = (let most = mul-le s.threshold s.room 4294967295 4194304 valid.limits.threshold_to valid.limits.room_to in omega (arith, most))
