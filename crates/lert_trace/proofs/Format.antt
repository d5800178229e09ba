-- What the format says of bytes that begin as a trace: how many items have all their bytes, which of these weigh something, and
-- where the bytes leave the format.
use Rattle.std.proofs.Common.{◌≡◌, ℕ, ◌⊎◌, ◌+◌, ◌-◌, ◌*◌, ◌/◌, ◌%◌, ◌<◌, ◌≤◌, Bool, true, false, eqb, ltb, cond, List, [], ◌++◌, length, drop, get_or, slice_get}
use Rattle.std.proofs.Common.{Some, None, inl, inr, refl, ap, sym, ◌∙◌, subst, arith, lt-ltb, le-ltb, below_more, take}
use Rattle.std.proofs.Math.{ListN.get_or-append, Seq.take-length}
use Rattle.std.proofs.lemmas.{Bool.{cases_lt, ne_eqb, false≢true}, Option.slice_get-get_or}
use Rattle.std.proofs.lemmas.List.{get_or-drop, get_or-take, FromFn.{length-map-range_with_len, get_or-map-range_with_len}}
use Rattle.std.proofs.lemmas.List.{Folds.length-prefix_len, Sums.{prefix_len_is, prefix_len_stops}}
use Rattle.std.specs.List.{prefix_len, take_while}
use Rattle.byteorder.specs.{Endian.little_from, Numbers.little_from-append}
use Rattle.lert_spec.proofs.TextLaws.{little_from-drop}
use Rattle.lert_spec.specs.declared.item.Item.{Item}
use Rattle.lert_trace.specs.Trace.{full, full_len, header_len, item_at, item_size, left, place_of, version_in, weighs, whole}
use Rattle.lert_trace.specs.{Reader.{IsTraceOf, LeavesAt}, Window.item_in}

-- an item has eight bytes or nine
pub sizes : (version : ℕ) → (item_size version ≡ 8) ⊎ (item_size version ≡ 9)
sizes version = cases (eqb version 1)
  where
    cases : (b : Bool) → (◌≡◌ {A = ℕ} (cond b 8 9) 8) ⊎ (◌≡◌ {A = ℕ} (cond b 8 9) 9)
    cases true = inl refl
    cases false = inr refl

-- behind items there are the bytes of one more
pub full-more : (size given total ahead : ℕ) → (size ≡ 8) ⊎ (size ≡ 9) → total ≡ 8 + size * given + ahead → size ≤ ahead → given < (total - 8) / size
full-more size given total ahead (inl is) =
    subst (λ s. total ≡ 8 + s * given + ahead → s ≤ ahead → given < (total - 8) / s) (sym is) (λ sum enough. omega (arith, sum, enough))
full-more size given total ahead (inr is) =
    subst (λ s. total ≡ 8 + s * given + ahead → s ≤ ahead → given < (total - 8) / s) (sym is) (λ sum enough. omega (arith, sum, enough))

-- behind items there are fewer bytes than one has
full-last : (size given total over : ℕ) → (size ≡ 8) ⊎ (size ≡ 9) → total ≡ 8 + size * given + over → over < size →
    ((total - 8) / size ≡ given) × ((total - 8) % size ≡ over)
full-last size given total over (inl is) =
    subst (λ s. total ≡ 8 + s * given + over → over < s → ((total - 8) / s ≡ given) × ((total - 8) % s ≡ over)) (sym is)
    (λ sum few. (omega (arith, sum, few), omega (arith, sum, few)))
full-last size given total over (inr is) =
    subst (λ s. total ≡ 8 + s * given + over → over < s → ((total - 8) / s ≡ given) × ((total - 8) % s ≡ over)) (sym is)
    (λ sum few. (omega (arith, sum, few), omega (arith, sum, few)))

-- an item that stands in front of what is behind a place
pub item_ahead : (version place : ℕ) (bytes pending rest : List ℕ) → drop place bytes ≡ pending ++ rest → item_size version ≤ length pending →
    ◌≡◌ {A = Item} (record { key = little_from place 8 bytes; weight = cond (eqb version 1) 1 (get_or bytes (place + 8) 0) }) (item_in version pending)
item_ahead version place bytes pending rest ahead enough =
    let key_is : little_from place 8 bytes ≡ little_from 0 8 pending =
    ap (λ m. little_from m 8 bytes) (omega arith)
    ∙ little_from-drop place 0 8 bytes
    ∙ ap (λ xs. little_from 0 8 xs) ahead
    ∙ little_from-append 8 pending rest (omega (arith, sizes version, enough)) in
    let weight_is : cond (eqb version 1) 1 (get_or bytes (place + 8) 0) ≡ cond (eqb version 1) 1 (get_or pending 8 0) =
    elim (eqb version 1) as (λ b. cond b 8 9 ≤ length pending → cond b 1 (get_or bytes (place + 8) 0) ≡ cond b 1 (get_or pending 8 0)) [
      | true ↦ λ _. refl
      | false ↦ λ nine.
          sym (get_or-drop place bytes 8 0) ∙ (ap (λ xs. get_or xs 8 0) ahead ∙ get_or-append pending rest 0 8 (omega (arith, nine)))
    ] enough in
    λ i. record { key = key_is i; weight = weight_is i }

module _ (bytes : List ℕ) (begins : header_len bytes ≡ 8) where
  whole-begun : whole bytes ≡ take_while weighs (full bytes)
  whole-begun = ap (λ n. cond (ltb n 8) [] (take_while weighs (full bytes))) begins

  pub length-full : length (full bytes) ≡ full_len bytes
  length-full = length-map-range_with_len (item_at (version_in bytes) bytes) 0 (full_len bytes)

  pub length-whole : length (whole bytes) ≡ prefix_len weighs (full bytes)
  length-whole = ap length whole-begun ∙ length-prefix_len weighs (full bytes)

  full_at : (n : ℕ) (d : Item) → n < full_len bytes → get_or (full bytes) n d ≡ item_at (version_in bytes) bytes n
  full_at n d within = get_or-map-range_with_len (item_at (version_in bytes) bytes) 0 (full_len bytes) n n d within (omega arith)

  -- so many items weigh something
  abbrev pub Weighed : ℕ → Type 0
  Weighed given = (n : ℕ) → n < given → 1 ≤ (item_at (version_in bytes) bytes n).weight

  no_item : Item
  no_item = record { key = 0; weight = 0 }

  passes : (given : ℕ) → given ≤ full_len bytes → Weighed given → (n : ℕ) → n < given → weighs (get_or (full bytes) n no_item) ≡ true
  passes given within weighed n below =
      ap weighs (full_at n no_item (omega (arith, within, below)))
      ∙ lt-ltb 0 (item_at (version_in bytes) bytes n).weight (weighed n below)

  reaches : (given : ℕ) → given ≤ full_len bytes → Weighed given → given ≤ prefix_len weighs (full bytes)
  reaches given within weighed =
      elim (cases_lt (prefix_len weighs (full bytes)) given) [
        | inl short ↦ absurd (false≢true
            (sym (prefix_len_stops weighs (full bytes) no_item (omega (arith, short, within, length-full)))
            ∙ passes given within weighed (prefix_len weighs (full bytes)) short))
        | inr there ↦ there
      ]

  -- one more item that weighs something
  pub more_whole : (given : ℕ) → given < full_len bytes → Weighed given → 1 ≤ (item_at (version_in bytes) bytes given).weight → given < length (whole bytes)
  more_whole given within weighed weight =
      omega (arith, length-whole, reaches (given + 1) (omega (arith, within)) (below_more (λ n. 1 ≤ (item_at (version_in bytes) bytes n).weight) given weighed weight))

  pub slice_get-whole : (given : ℕ) → given < full_len bytes → Weighed given → 1 ≤ (item_at (version_in bytes) bytes given).weight →
      slice_get (whole bytes) given ≡ Some (item_at (version_in bytes) bytes given)
  slice_get-whole given within weighed weight =
      let there : given < length (whole bytes) = more_whole given within weighed weight in
      slice_get-get_or (whole bytes) given no_item there
      ∙ ap Some
      (ap (λ xs. get_or xs given no_item) whole-begun
      ∙ (get_or-take (prefix_len weighs (full bytes)) (full bytes) given no_item (omega (arith, there, length-whole))
      ∙ full_at given no_item within))

  left-begun : (n : ℕ) → prefix_len weighs (full bytes) ≡ n → left bytes ≡ cond (ltb n (full_len bytes)) (Some (place_of (version_in bytes) n + 8))
      (cond (eqb ((length bytes - 8) % item_size (version_in bytes)) 0) None (Some (length bytes - (length bytes - 8) % item_size (version_in bytes))))
  left-begun n first =
      ap (λ m. cond (ltb m 8) (Some m) (cond (ltb (prefix_len weighs (full bytes)) (full_len bytes)) (Some (place_of (version_in bytes) (prefix_len weighs (full bytes)) + 8))
      (cond (eqb ((length bytes - 8) % item_size (version_in bytes)) 0) None (Some (length bytes - (length bytes - 8) % item_size (version_in bytes)))))) begins
      ∙ ap (λ m. cond (ltb m (full_len bytes)) (Some (place_of (version_in bytes) m + 8))
      (cond (eqb ((length bytes - 8) % item_size (version_in bytes)) 0) None (Some (length bytes - (length bytes - 8) % item_size (version_in bytes))))) first

  -- the next item weighs nothing
  pub LeavesAt-weight : (given : ℕ) → given < full_len bytes → Weighed given → (item_at (version_in bytes) bytes given).weight ≡ 0 →
      LeavesAt bytes (place_of (version_in bytes) given + 8) given
  LeavesAt-weight given within weighed zero =
      let first : prefix_len weighs (full bytes) ≡ given =
      prefix_len_is weighs (full bytes) given no_item (omega (arith, within, length-full)) (passes given (omega (arith, within)) weighed)
      (λ _. ap weighs (full_at given no_item within) ∙ ap (λ w. ltb 0 w) zero) in
      record {
        place =
            left-begun given first
            ∙ ap (λ b. cond b (Some (place_of (version_in bytes) given + 8))
            (cond (eqb ((length bytes - 8) % item_size (version_in bytes)) 0) None (Some (length bytes - (length bytes - 8) % item_size (version_in bytes)))))
            (lt-ltb given (full_len bytes) within);
        behind = length-whole ∙ first;
      }

  -- every item that has all its bytes weighs something, and behind them stand fewer bytes than one has
  module _ (given over : ℕ) (few : over < item_size (version_in bytes)) (sum : length bytes ≡ place_of (version_in bytes) given + over) (weighed : Weighed given) where
    counted : (full_len bytes ≡ given) × ((length bytes - 8) % item_size (version_in bytes) ≡ over)
    counted = full-last (item_size (version_in bytes)) given (length bytes) over (sizes (version_in bytes)) sum few

    all : prefix_len weighs (full bytes) ≡ given
    all =
        prefix_len_is weighs (full bytes) given no_item (omega (arith, length-full, counted.0)) (passes given (omega (arith, counted.0)) weighed)
        (λ more. absurd (omega (arith, more, length-full, counted.0)))

    left-last : left bytes ≡ cond (eqb over 0) None (Some (length bytes - over))
    left-last =
        left-begun given all
        ∙ ap (λ b. cond b (Some (place_of (version_in bytes) given + 8))
        (cond (eqb ((length bytes - 8) % item_size (version_in bytes)) 0) None (Some (length bytes - (length bytes - 8) % item_size (version_in bytes)))))
        (le-ltb given (full_len bytes) (omega (arith, counted.0)))
        ∙ ap (λ n. cond (eqb n 0) None (Some (length bytes - n))) counted.1

    -- all of them stand in the trace
    pub whole-full : whole bytes ≡ full bytes
    whole-full = whole-begun ∙ (ap (λ n. take n (full bytes)) (all ∙ (sym counted.0 ∙ sym length-full)) ∙ take-length (full bytes))

    pub LeavesAt-cut : (over ≡ 0 → ⊥) → LeavesAt bytes (place_of (version_in bytes) given) given
    LeavesAt-cut some = record {
      place = left-last ∙ (ap (λ b. cond b None (Some (length bytes - over))) (ne_eqb over 0 some) ∙ ap Some (omega (arith, sum)));
      behind = length-whole ∙ all;
    }

    pub IsTraceOf-end : over ≡ 0 → IsTraceOf bytes given
    IsTraceOf-end none = record {
      well_formed = left-last ∙ ap (λ n. cond (eqb n 0) None (Some (length bytes - n))) none;
      all_given = length-whole ∙ all;
    }
