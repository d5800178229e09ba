-- Items of a trace by their numbers.
use Rattle.std.proofs.Common.{◌≡◌, ℕ, ◌+◌, ◌-◌, ◌*◌, ◌<◌, ◌≤◌, eqb, nat_lt, cond, List, length, take, drop, get_or, sym, ap, ◌∙◌, arith, lt-ltb}
use Rattle.std.proofs.lemmas.List.{Sums.prefix_len_is, FromFn.{get_or-map-range_with_len, length-map-range_with_len}}
use Rattle.std.specs.List.{prefix_len}
use Rattle.byteorder.specs.{Endian.little_from, Numbers.little_from-take}
use Rattle.lert_spec.proofs.TextLaws.{little_from-drop}
use Rattle.lert_spec.specs.declared.item.Item.{Item}
use Rattle.lert_trace.specs.Trace.{full, full_len, item_at, item_size, version_in, weighs}
use Rattle.lert_trace.proofs.Format.{sizes}

-- so many items weigh something, up to one that weighs nothing or to the last
pub weighed_to : (bytes : List ℕ) (n : ℕ) → n ≤ full_len bytes → ((k : ℕ) → k < n → 1 ≤ (item_at (version_in bytes) bytes k).weight) →
    (n < full_len bytes → (item_at (version_in bytes) bytes n).weight ≡ 0) → n ≡ prefix_len weighs (full bytes)
weighed_to bytes n within weighed ends =
    let none : Item = record { key = 0; weight = 0 } in
    let many : length (full bytes) ≡ full_len bytes = length-map-range_with_len (item_at (version_in bytes) bytes) 0 (full_len bytes) in
    let at = λ (k : ℕ) (below : k < full_len bytes). get_or-map-range_with_len (item_at (version_in bytes) bytes) 0 (full_len bytes) k k none below (omega arith) in
    sym (prefix_len_is weighs (full bytes) n none (omega (arith, many, within))
    (λ k below. ap weighs (at k (omega (arith, within, below))) ∙ lt-ltb 0 (item_at (version_in bytes) bytes k).weight (weighed k below))
    (λ more. ap weighs (at n (omega (arith, many, more))) ∙ ap (λ w. nat_lt 0 w) (ends (omega (arith, many, more)))))

-- a key and a weight that were read where an item stands
pub item_read : (version size n key weight : ℕ) (bytes : List ℕ) → version ≡ version_in bytes → size ≡ item_size version → 8 + size * n + size ≤ length bytes →
    key ≡ little_from 0 8 (take (length bytes - (8 + size * n)) (drop (8 + size * n) bytes)) → weight ≡ cond (eqb version 1) 1 (get_or bytes (8 + size * n + 8) 0) →
    ◌≡◌ {A = Item} (record { key = key; weight = weight }) (item_at (version_in bytes) bytes n)
unfolding item_at
item_read version size n key weight bytes named sized within read weighs_so =
    let place = 8 + size * n in
    let here : little_from 0 8 (take (length bytes - place) (drop place bytes)) ≡ little_from place 8 bytes =
    little_from-take 0 8 (length bytes - place) (drop place bytes) (omega (arith, within, sized, sizes version))
    ∙ sym (little_from-drop place 0 8 bytes)
    ∙ ap (λ m. little_from m 8 bytes) (omega arith) in
    let size_is : size ≡ item_size (version_in bytes) = sized ∙ ap item_size named in
    let key_is : key ≡ little_from (8 + item_size (version_in bytes) * n) 8 bytes = read ∙ (here ∙ ap (λ s. little_from (8 + s * n) 8 bytes) size_is) in
    let weight_is : weight ≡ cond (eqb (version_in bytes) 1) 1 (get_or bytes (8 + item_size (version_in bytes) * n + 8) 0) =
    weighs_so ∙ (ap (λ v. cond (eqb v 1) 1 (get_or bytes (8 + size * n + 8) 0)) named
    ∙ ap (λ s. cond (eqb (version_in bytes) 1) 1 (get_or bytes (8 + s * n + 8) 0)) size_is) in
    λ i. record { key = key_is i; weight = weight_is i }
