-- The keys of each fourth event are those that one of four traces gets.
use Rattle.std.proofs.Common.{◌≡◌, ℕ, zero, suc, ◌+◌, ◌-◌, ◌*◌, ◌/◌, ◌%◌, ◌<◌, Bool, true, false, eqb, cond, List, [], ◌∷◌, ◌++◌, map, refl, ap, sym, ◌∙◌, arith, append-nil, append_assoc}
use Rattle.std.proofs.{lemmas.Bool.{eqb-false, eqb-true}, lemmas.List.map-append, lemmas.List.Elements.filter-append, lemmas.List.Concat.flat_map-append, lemmas.List.FromFn.map-range_with_len_more}
use Rattle.std.specs.{Prelude.filter, List.{flat_map, range_with_len}}
use Rattle.byteorder.specs.Endian.{little_bytes}
use Rattle.lert_trace.specs.Trace.{trace_header}
use Rattle.lert_gen.specs.Generated.{dealt, key_at, trace_of}
use Rattle.lert_gen.proofs.Blocks.{range-split}

-- the keys of so many events of a trace
abbrev pub fourths : ℕ → ℕ → ℕ → List ℕ
fourths seed trace number = map (λ n. key_at seed (4 * n + trace + 1)) (range_with_len 0 number)

-- how many events a trace gets of the first ones
abbrev pub share : ℕ → ℕ → ℕ
share events trace = (events + 3 - trace) / 4

module _ (seed trace : ℕ) (within : trace < 4) where
  abbrev is_turn : ℕ → Bool
  is_turn event = eqb ((event - 1) % 4) trace

  next_event : (event : ℕ) (b : Bool) → eqb (event % 4) trace ≡ b →
      fourths seed trace (share event trace) ++ map (key_at seed) (cond b ((event + 1) ∷ []) []) ≡ fourths seed trace (share (suc event) trace)
  next_event event true is =
      let turn = eqb-true (event % 4) trace is in
      let more : share (suc event) trace ≡ share event trace + 1 = omega (arith, turn, within) in
      let place : event + 1 ≡ 4 * share event trace + trace + 1 = omega (arith, turn, within) in
      let first : 0 + share event trace ≡ share event trace = omega arith in
      ap (λ n. fourths seed trace (share event trace) ++ key_at seed n ∷ []) place
      ∙ sym (ap (fourths seed trace) more ∙ map-range_with_len_more (λ n. key_at seed (4 * n + trace + 1)) 0 (share event trace) (share event trace) first)
  next_event event false is =
      let other = eqb-false (event % 4) trace is in
      let same : share event trace ≡ share (suc event) trace = omega (arith, other, within) in
      append-nil (fourths seed trace (share event trace)) ∙ ap (fourths seed trace) same

  pub dealt-fourths : (events : ℕ) → dealt seed events trace ≡ fourths seed trace (share events trace)
  dealt-fourths zero = let none : 0 ≡ share 0 trace = omega (arith, within) in ap (fourths seed trace) none
  dealt-fourths (suc event) =
      let more : suc event ≡ event + 1 = omega arith in
      let turned : 1 + event ≡ event + 1 = omega arith in
      let back : event + 1 - 1 ≡ event = omega arith in
      ap (λ n. dealt seed n trace) more
      ∙ ap (λ events. map (key_at seed) (filter is_turn events)) (range-split 1 event 1)
      ∙ ap (map (key_at seed)) (filter-append is_turn (range_with_len 1 event) ((1 + event) ∷ []))
      ∙ map-append (key_at seed) (filter is_turn (range_with_len 1 event)) (filter is_turn ((1 + event) ∷ []))
      ∙ ap (λ n. dealt seed event trace ++ map (key_at seed) (filter is_turn (n ∷ []))) turned
      ∙ ap (λ n. dealt seed event trace ++ map (key_at seed) (cond (eqb (n % 4) trace) ((event + 1) ∷ []) [])) back
      ∙ ap (λ xs. xs ++ map (key_at seed) (cond (eqb (event % 4) trace) ((event + 1) ∷ []) [])) (dealt-fourths event)
      ∙ next_event event (eqb (event % 4) trace) refl

-- a key more
pub fourths-more : (seed trace number : ℕ) (bytes : List ℕ) → bytes ≡ trace_of (fourths seed trace number) →
    bytes ++ little_bytes 8 (key_at seed (4 * number + trace + 1)) ≡ trace_of (fourths seed trace (number + 1))
fourths-more seed trace number bytes is =
    let first : 0 + number ≡ number = omega arith in
    let key = key_at seed (4 * number + trace + 1) in
    ap (λ xs. xs ++ little_bytes 8 key) is
    ∙ append_assoc (trace_header 1) (flat_map (little_bytes 8) (fourths seed trace number)) (little_bytes 8 key)
    ∙ ap (λ xs. trace_header 1 ++ xs)
    (sym (ap (flat_map (little_bytes 8)) (map-range_with_len_more (λ n. key_at seed (4 * n + trace + 1)) 0 number number first)
    ∙ flat_map-append (little_bytes 8) (fourths seed trace number) (key ∷ [])))
