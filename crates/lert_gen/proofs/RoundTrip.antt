-- A trace of keys is well formed, and has these keys as items that weigh 1.
use Rattle.std.proofs.Common.{◌≡◌, ℕ, ◌+◌, ◌*◌, ◌/◌, ◌%◌, ◌<◌, ◌≤◌, ◌^◌, Bool, true, false, eqb, cond, List, [], ◌∷◌, ◌++◌, length, map, None, refl, ap, ap₂, sym, ◌∙◌, arith}
use Rattle.std.proofs.Common.{length-append, append_assoc}
use Rattle.std.proofs.Math.Seq.{drop-append_seam}
use Rattle.std.proofs.lemmas.List.Elements.{All-nil, All-cons, All-head, All-tail}
use Rattle.std.specs.List.{All, flat_map, range_with_len}
use Rattle.byteorder.specs.Endian.{little_bytes, little_from}
use Rattle.byteorder.specs.Numbers.{length-bytes_low_first, little_number-reads_back}
use Rattle.lert_spec.specs.Items.{unit, units}
use Rattle.lert_trace.specs.Trace.{full_len, header_len, item_at, left, trace_header, whole}
use Rattle.lert_trace.proofs.Format.{IsTraceOf-end, whole-full}
use Rattle.lert_spec.proofs.TextLaws.{little_from-drop}
use Rattle.lert_spec.specs.Mix.{mix}
use Rattle.lert_spec.proofs.MixLaws.{mix_below}
use Rattle.lert_gen.specs.Generated.{key_at as generated_key, trace_of}

pub length_keys : (keys : List ℕ) → length (flat_map (little_bytes 8) keys) ≡ 8 * length keys
length_keys [] = refl
length_keys (key ∷ keys) =
    omega (arith, length-append (little_bytes 8 key) (flat_map (little_bytes 8) keys), length-bytes_low_first 0 8 key, length_keys keys)

pub length_trace : (keys : List ℕ) → length (trace_of keys) ≡ 8 + 8 * length keys
length_trace keys = omega (arith, length_keys keys)

begins : (keys : List ℕ) → header_len (trace_of keys) ≡ 8
begins keys = refl

-- each item of the first version weighs 1
weighed : (keys : List ℕ) (n : ℕ) → n < length keys → 1 ≤ (item_at 1 (trace_of keys) n).weight
unfolding item_at
weighed keys n within = omega arith

pub left-trace : (keys : List ℕ) → left (trace_of keys) ≡ None
left-trace keys =
    (IsTraceOf-end (trace_of keys) (begins keys) (length keys) 0 (omega arith) (omega (arith, length_trace keys)) (weighed keys) refl).well_formed

-- the keys behind some bytes of a trace are read back from there
read_back : (front : List ℕ) (number : ℕ) (keys : List ℕ) → length front ≡ 8 + 8 * number → All (λ key. key < 2 ^ 64) keys →
    map (item_at 1 (front ++ flat_map (little_bytes 8) keys)) (range_with_len number (length keys)) ≡ units keys
unfolding item_at
read_back front number [] long are = refl
read_back front number (key ∷ keys) long are =
    let rest = flat_map (little_bytes 8) keys in
    let bytes = front ++ (little_bytes 8 key ++ rest) in
    let first : little_from (8 + 8 * number) 8 bytes ≡ key =
    ap (λ n. little_from n 8 bytes) (omega (arith, long)) ∙ little_from-drop (length front) 0 8 bytes
    ∙ ap (little_from 0 8) (drop-append_seam front (little_bytes 8 key ++ rest)) ∙ little_number-reads_back 8 key rest (All-head (λ k. k < 2 ^ 64) key keys are) in
    let longer : length (front ++ little_bytes 8 key) ≡ 8 + 8 * (number + 1) =
    omega (arith, length-append front (little_bytes 8 key), length-bytes_low_first 0 8 key, long) in
    let others = read_back (front ++ little_bytes 8 key) (number + 1) keys longer (All-tail (λ k. k < 2 ^ 64) key keys are) in
    ap₂ (λ y ys. unit y ∷ ys) first (ap (λ xs. map (item_at 1 xs) (range_with_len (number + 1) (length keys))) (sym (append_assoc front (little_bytes 8 key) rest)) ∙ others)

-- each of these keys is an item of the trace that weighs 1
pub whole-trace : (keys : List ℕ) → All (λ key. key < 2 ^ 64) keys → whole (trace_of keys) ≡ units keys
whole-trace keys are =
    let many : full_len (trace_of keys) ≡ length keys = omega (arith, length_trace keys) in
    whole-full (trace_of keys) (begins keys) (length keys) 0 (omega arith) (omega (arith, length_trace keys)) (weighed keys)
    ∙ ap (λ n. map (item_at 1 (trace_of keys)) (range_with_len 0 n)) many ∙ read_back (trace_header 1) 0 keys refl are

-- generated keys fit their eight bytes
of_mixed_below : (b : Bool) (v : ℕ) → v < 2 ^ 64 → cond b (v / 2 ^ 32 % 1000) v < 2 ^ 64
of_mixed_below true v below = omega arith
of_mixed_below false v below = below

pub generated_below : (seed event : ℕ) → generated_key seed event < 2 ^ 64
unfolding generated_key
generated_below seed event =
    let v = mix ((seed + event) % 2 ^ 64) in
    of_mixed_below (eqb (v % 2) 0) v (mix_below ((seed + event) % 2 ^ 64))

pub all_generated_below : (seed : ℕ) (events : List ℕ) → All (λ key. key < 2 ^ 64) (map (generated_key seed) events)
all_generated_below seed [] = All-nil (λ key. key < 2 ^ 64)
all_generated_below seed (event ∷ events) =
    All-cons (λ key. key < 2 ^ 64) (generated_key seed event) (map (generated_key seed) events) (generated_below seed event) (all_generated_below seed events)
