-- The place at which a payload first leaves the format, test by test.
use Rattle.std.proofs.Common.{◌≡◌, ℕ, ◌+◌, ◌-◌, ◌*◌, ◌/◌, ◌%◌, ◌<◌, ◌≤◌, ◌&&◌, ◌==◌, Bool, true, false, not, nat_lt, nat_le, Option, Some, List, length}
use Rattle.std.proofs.Common.{take, drop, sym, ap, ◌∙◌, arith, length-take, length-drop, lt-ltb}
use Rattle.std.specs.Prelude.{option_map, if◌then◌else◌}
use Rattle.std.specs.List.{position_from}
use Rattle.std.proofs.lemmas.Bool.{and_parts, leb-true, le-ltb}
use Rattle.std.proofs.lemmas.List.{take_all}
use Rattle.byteorder.specs.Endian.{little_number}
use Rattle.lert_spec.specs.declared.numbers.Numbers.{Numbers}
use Rattle.lert_journal.specs.Payload.{packet_in, item_len, is_counted, is_own, stray_place, left}

-- ---- the places

abbrev left_of : Bool → Bool → Bool → Option ℕ → Option ℕ
left_of counted by trace keys = if not counted then Some 0 else (if by then Some 4 else (if trace then Some 8 else keys))

module _ (version : ℕ) (s : Numbers) (cone : ℕ) (payload : List ℕ) where
  abbrev of_items : Option ℕ
  of_items = option_map (stray_place version s cone payload) (position_from (λ item. not (is_own s cone item)) 0 (packet_in version payload).items)

  pub left_by_count : is_counted version s (length payload) ≡ false → left version s cone payload ≡ Some 0
  left_by_count none = ap (λ b. left_of b (nat_lt 63 (packet_in version payload).by) (nat_lt 1023 (packet_in version payload).trace) of_items) none

  pub left_by_bringer : is_counted version s (length payload) ≡ true → 63 < (packet_in version payload).by → left version s cone payload ≡ Some 4
  left_by_bringer counted many =
      ap (λ b. left_of b (nat_lt 63 (packet_in version payload).by) (nat_lt 1023 (packet_in version payload).trace) of_items) counted
      ∙ ap (λ b. left_of true b (nat_lt 1023 (packet_in version payload).trace) of_items) (lt-ltb 63 (packet_in version payload).by many)

  pub left_by_trace : is_counted version s (length payload) ≡ true → (packet_in version payload).by ≤ 63 → 1023 < (packet_in version payload).trace → left version s cone payload ≡ Some 8
  left_by_trace counted few many =
      ap (λ b. left_of b (nat_lt 63 (packet_in version payload).by) (nat_lt 1023 (packet_in version payload).trace) of_items) counted
      ∙ (ap (λ b. left_of true b (nat_lt 1023 (packet_in version payload).trace) of_items) (le-ltb 63 (packet_in version payload).by few)
      ∙ ap (λ b. left_of true false b of_items) (lt-ltb 1023 (packet_in version payload).trace many))

  -- else it is that of an item
  pub left_by_item : is_counted version s (length payload) ≡ true → (packet_in version payload).by ≤ 63 → (packet_in version payload).trace ≤ 1023 → (stray : Option ℕ) →
      stray ≡ position_from (λ item. not (is_own s cone item)) 0 (packet_in version payload).items → option_map (stray_place version s cone payload) stray ≡ left version s cone payload
  left_by_item counted few short stray is =
      ap (option_map (stray_place version s cone payload)) is
      ∙ sym (ap (λ b. left_of b (nat_lt 63 (packet_in version payload).by) (nat_lt 1023 (packet_in version payload).trace) of_items) counted
      ∙ (ap (λ b. left_of true b (nat_lt 1023 (packet_in version payload).trace) of_items) (le-ltb 63 (packet_in version payload).by few)
      ∙ ap (λ b. left_of true false b of_items) (le-ltb 1023 (packet_in version payload).trace short)))

-- ---- the lengths

-- a payload of whole items has one at least
pub counted_long : (version : ℕ) (s : Numbers) (n : ℕ) → is_counted version s n ≡ true → 16 ≤ n
counted_long version s n counted =
    let items = (n - 8) / item_len version in
    let parts = and_parts ((n - 8) % item_len version == 0) (nat_le 1 items && nat_le items (4 * s.packet)) counted in
    let bounds = and_parts (nat_le 1 items) (nat_le items (4 * s.packet)) parts.1 in
    long (version == 1) n (leb-true 1 items bounds.0)
  where
    long : (plain : Bool) (n : ℕ) → 1 ≤ (n - 8) / (if plain then 8 else 9) → 16 ≤ n
    long true n some = omega (arith, some)
    long false n some = omega (arith, some)

pub more_than : (place n : ℕ) → place ≤ 8 → 16 ≤ n → place < n + 4
more_than place n small long = omega (arith, small, long)

pub some_length : (n : ℕ) → 0 < n + 4
some_length n = omega arith

pub at_least : (k n : ℕ) → k ≤ 16 → 16 ≤ n → k ≤ n
at_least k n small long = omega (arith, small, long)

pub stray_within : (each n spot len : ℕ) → 8 + each * n + each ≤ len → spot < each → 12 + each * n + spot < len + 4
stray_within each n spot len within near = omega (arith, within, near)

-- the bytes behind the first four
pub behind_four : (payload : List ℕ) → 16 ≤ length payload → 4 ≤ length (take (length payload - 4) (drop 4 payload))
behind_four payload long = omega (arith, long, length-take (length payload - 4) (drop 4 payload), length-drop 4 payload)

pub trace_there : (payload : List ℕ) → little_number 4 (take (length payload - 4) (drop 4 payload)) ≡ little_number 4 (drop 4 payload)
trace_there payload = ap (little_number 4) (take_all (length payload - 4) (drop 4 payload) (omega (arith, length-drop 4 payload)))
