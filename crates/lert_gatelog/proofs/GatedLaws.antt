-- Gated texts: what writes behind a closed gate and at it leave of the records.
use Rattle.std.proofs.Common.{◌≡◌, ℕ, ◌+◌, ◌-◌, ◌<◌, ◌≤◌, List, [], ◌∷◌, ◌++◌, length, take, drop, replicate, get_or, refl}
use Rattle.std.proofs.Common.{sym, ap, ◌∙◌, subst, inl, arith, length-append, length-take, length-drop, append-nil}
use Rattle.std.proofs.lemmas.List.{get_or_at, ext_get_or, take_at, drop_at, take-append-le, length-take-le}
use Rattle.byteorder.specs.Endian.{little_number, little_bytes}
use Rattle.byteorder.specs.Numbers.{little_number-reads_back, length-bytes_low_first}
use lib.ListN.{length-replicate}
use Rattle.lert_bay.specs.Files.{Torn, Holds, padded}
use Rattle.lert_bay.specs.Settled.{part}
use Rattle.lert_bay.proofs.Settling.{part_at, part_same, length_part}
use Rattle.lert_gatelog.specs.Gated.{body, next_gate, IsOpen, IsClosed, Records, IsGated, appendix}

-- ---- two texts that agree up to a place

pub record Agree (end : ℕ) (old new : List ℕ) : Type 0 where
  pub old_long : end ≤ length old
  pub new_long : end ≤ length new
  pub same : (place : ℕ) → place < end → get_or new place 0 ≡ get_or old place 0

agree_less : (end less : ℕ) (old new : List ℕ) → less ≤ end → Agree end old new → Agree less old new
agree_less end less old new fewer agree = record {
  old_long = omega (arith, agree.old_long, fewer);
  new_long = omega (arith, agree.new_long, fewer);
  same = λ place below. agree.same place (omega (arith, below, fewer));
}

-- a write behind a place
pub torn_agrees : (at count end : ℕ) (old new : List ℕ) → Torn at count old new → end ≤ at → end ≤ length old → Agree end old new
torn_agrees at count end old new torn before long = record {
  old_long = long;
  new_long = omega (arith, torn.no_shorter, long);
  same = λ place below. torn.elsewhere place (omega (arith, below, long)) (inl (omega (arith, below, before)));
}

-- a part of a text that isn't empty lies in it
pub part_within : (bytes xs : List ℕ) (from to : ℕ) → part bytes from to ≡ xs → to ≡ from + length xs → 0 < length xs → to ≤ length bytes
part_within bytes xs from to is end some = omega (arith, ap length is, length-drop from (take to bytes), length-take to bytes, end, some)

-- a part of a part
pub part_of_part : (bytes xs : List ℕ) (from to a b x y : ℕ) → part bytes from to ≡ xs → to ≡ from + length xs → 0 < length xs → a ≤ b → b ≤ length xs → x ≡ from + a →
    y ≡ from + b → part bytes x y ≡ part xs a b
part_of_part bytes xs from to a b x y is end some order within x_is y_is =
    let long : to ≤ length bytes = part_within bytes xs from to is end some in
    let left : length (part bytes x y) ≡ b - a = length_part bytes x y (omega (arith, long, end, within, y_is)) ∙ omega (arith, x_is, y_is) in
    let right : length (part xs a b) ≡ b - a = length_part xs a b within in
    ext_get_or 0 (part bytes x y) (part xs a b) (left ∙ sym right)
    (λ k below.
    let under : a + k < b = omega (arith, below, left) in
    part_at bytes x y k (omega (arith, under, x_is, y_is))
    ∙ (ap (λ n. get_or bytes n 0) (omega (arith, x_is))
    ∙ (sym (part_at bytes from to (a + k) (omega (arith, under, within, end)))
    ∙ (ap (λ ys. get_or ys (a + k) 0) is ∙ sym (part_at xs a b k under)))))

-- one byte of a part
pub byte_of_part : (bytes xs : List ℕ) (from to k : ℕ) → part bytes from to ≡ xs → to ≡ from + length xs → k < length xs → get_or bytes (from + k) 0 ≡ get_or xs k 0
byte_of_part bytes xs from to k is end within = sym (part_at bytes from to k (omega (arith, end, within))) ∙ ap (λ ys. get_or ys k 0) is

-- ---- records

-- an open record stays where the text agrees up to its end
open_kept : (most gate end : ℕ) (payload old new : List ℕ) → IsOpen most old gate payload → next_gate gate payload ≤ end → Agree end old new → IsOpen most new gate payload
open_kept most gate end payload old new open_record below agree = record {
  opened = agree.same gate (omega (arith, below)) ∙ open_record.opened;
  counted = ap (little_number 4) (part_same new old (gate + 1) (gate + 5) (omega (arith, agree.new_long, below)) (omega (arith, agree.old_long, below))
      (λ place from to. agree.same place (omega (arith, to, below)))) ∙ open_record.counted;
  some = open_record.some;
  fits = open_record.fits;
  there = part_same new old (gate + 5) (next_gate gate payload) (omega (arith, agree.new_long, below)) (omega (arith, agree.old_long, below))
      (λ place from to. agree.same place (omega (arith, to, below))) ∙ open_record.there;
}

-- records go on from their first gate
pub records_ascend : (most first : ℕ) (payloads : List (List ℕ)) (bytes : List ℕ) (end : ℕ) → Records most bytes first payloads end → first ≤ end
records_ascend most first [] bytes end records = omega (arith, records)
records_ascend most first (payload ∷ rest) bytes end records = omega (arith, records_ascend most (next_gate first payload) rest bytes end records.1)

pub records_kept : (most first : ℕ) (payloads : List (List ℕ)) (old new : List ℕ) (end : ℕ) → Records most old first payloads end → Agree end old new →
    Records most new first payloads end
records_kept most first [] old new end records agree = records
records_kept most first (payload ∷ rest) old new end records agree = (
  open_kept most first end payload old new records.0 (records_ascend most (next_gate first payload) rest old end records.1) agree,
  records_kept most (next_gate first payload) rest old new end records.1 agree,
)

-- one record more
pub records_more : (most first : ℕ) (payloads : List (List ℕ)) (payload bytes : List ℕ) (gate : ℕ) → Records most bytes first payloads gate → IsOpen most bytes gate payload →
    Records most bytes first (payloads ++ payload ∷ []) (next_gate gate payload)
records_more most first [] payload bytes gate records open_record =
    (subst (λ (g : ℕ). IsOpen most bytes g payload) records open_record, ap (λ g. next_gate g payload) records)
records_more most first (one ∷ rest) payload bytes gate records open_record = (records.0, records_more most (next_gate first one) rest payload bytes gate records.1 open_record)

-- ---- the first write of an append

-- behind the closed gate any bytes may stand
pub gated_behind : (most first : ℕ) (payloads : List (List ℕ)) (gate count : ℕ) (old new : List ℕ) → IsGated most old first payloads gate → Torn (gate + 1) count old new →
    IsGated most new first payloads gate
gated_behind most first payloads gate count old new gated torn =
    let agree : Agree (gate + 1) old new = torn_agrees (gate + 1) count (gate + 1) old new torn (omega arith) (omega (arith, gated.closed.within)) in
    record {
      records = records_kept most first payloads old new gate gated.records (agree_less (gate + 1) gate old new (omega arith) agree);
      closed = record {
        within = omega (arith, agree.new_long);
        shut = λ one. gated.closed.shut (sym (agree.same gate (omega arith)) ∙ one);
      };
    }

-- a closed gate stays closed
pub closed_behind : (gate count : ℕ) (old new : List ℕ) → IsClosed old gate → Torn (gate + 1) count old new → IsClosed new gate
closed_behind gate count old new closed torn =
    let agree : Agree (gate + 1) old new = torn_agrees (gate + 1) count (gate + 1) old new torn (omega arith) (omega (arith, closed.within)) in
    record {
      within = omega (arith, agree.new_long);
      shut = λ one. closed.shut (sym (agree.same gate (omega arith)) ∙ one);
    }

-- ---- what `append` takes

length_body : (payload : List ℕ) → length (body payload) ≡ 4 + length payload
length_body payload = length-append (little_bytes 4 (length payload)) payload ∙ ap (λ n. n + length payload) (length-bytes_low_first 0 4 (length payload))

pub length_appendix : (payload : List ℕ) → length (appendix payload) ≡ 5 + length payload
length_appendix payload = length-append (body payload) (0 ∷ []) ∙ omega (arith, length_body payload)

-- it is read back
body_back : (payload : List ℕ) → part (appendix payload) 4 (4 + length payload) ≡ payload
body_back payload =
    ap (drop 4) (take_at (body payload) (0 ∷ []) (4 + length payload) (length_body payload))
    ∙ drop_at (little_bytes 4 (length payload)) payload 4 (length-bytes_low_first 0 4 (length payload))

number_back : (payload : List ℕ) → length payload < 4294967296 → little_number 4 (part (appendix payload) 0 4) ≡ length payload
number_back payload small =
    ap (little_number 4) (take-append-le 4 (body payload) (0 ∷ []) (omega (arith, length_body payload)) ∙ take_at (little_bytes 4 (length payload)) payload 4
    (length-bytes_low_first 0 4 (length payload)))
    ∙ (ap (little_number 4) (sym (append-nil (little_bytes 4 (length payload)))) ∙ little_number-reads_back 4 (length payload) [] small)

-- a text with it behind an open gate has the record there
pub open_there : (most gate : ℕ) (payload bytes : List ℕ) → part bytes (gate + 1) (gate + 1 + length (appendix payload)) ≡ appendix payload → get_or bytes gate 0 ≡ 1 →
    0 < length payload → length payload ≤ most → length payload < 4294967296 → IsOpen most bytes gate payload
open_there most gate payload bytes is one some fits small =
    let long = length_appendix payload in
    record {
      opened = one;
      counted = ap (little_number 4) (part_of_part bytes (appendix payload) (gate + 1) (gate + 1 + length (appendix payload)) 0 4 (gate + 1) (gate + 5) is refl
          (omega (arith, long)) (omega arith) (omega (arith, long)) (omega arith) (omega arith)) ∙ number_back payload small;
      some = some;
      fits = fits;
      there = part_of_part bytes (appendix payload) (gate + 1) (gate + 1 + length (appendix payload)) 4 (4 + length payload) (gate + 5) (next_gate gate payload) is refl
          (omega (arith, long)) (omega arith) (omega (arith, long)) (omega arith) (omega arith) ∙ body_back payload;
    }

-- and, whatever the gate is, a closed gate behind it
pub closed_there : (gate : ℕ) (payload bytes : List ℕ) → part bytes (gate + 1) (gate + 1 + length (appendix payload)) ≡ appendix payload → IsClosed bytes (next_gate gate payload)
closed_there gate payload bytes is =
    let long = length_appendix payload in
    let within : gate + 1 + length (appendix payload) ≤ length bytes = part_within bytes (appendix payload) (gate + 1) (gate + 1 + length (appendix payload)) is refl
    (omega (arith, long)) in
    let zero_byte : get_or bytes (gate + 1 + (4 + length payload)) 0 ≡ 0 = byte_of_part bytes (appendix payload) (gate + 1) (gate + 1 + length (appendix payload))
    (4 + length payload) is refl (omega (arith, long)) ∙ get_or_at (body payload) 0 [] 0 (4 + length payload) (length_body payload) in
    let here : get_or bytes (next_gate gate payload) 0 ≡ 0 = ap (λ n. get_or bytes n 0) (omega arith) ∙ zero_byte in
    record {
      within = omega (arith, within, long);
      shut = λ one. absurd (omega (arith, one, here));
    }

-- bytes laid over a file stand there
pub held_part : (at : ℕ) (piece old new : List ℕ) → Holds at piece old new → part new at (at + length piece) ≡ piece
held_part at piece old new held =
    let front : length (take at (padded old at)) ≡ at = length-take-le at (padded old at)
    (omega (arith, length-append old (replicate {A = ℕ} (at - length old) 0), length-replicate {A = ℕ} (at - length old) 0)) in
    let both : length (take at (padded old at) ++ piece) ≡ at + length piece = length-append (take at (padded old at)) piece ∙ ap (λ n. n + length piece) front in
    ap (λ bytes. part bytes at (at + length piece)) held
    ∙ (ap (drop at) (take_at (take at (padded old at) ++ piece) (drop (at + length piece) old) (at + length piece) both)
    ∙ drop_at (take at (padded old at)) piece at front)

-- after a whole write of the gate
pub gate_held : (gate : ℕ) (old new : List ℕ) → Holds gate (1 ∷ []) old new → get_or new gate 0 ≡ 1
gate_held gate old new held = ap (λ n. get_or new n 0) (omega arith) ∙ byte_of_part new (1 ∷ []) gate (gate + length {A = ℕ} (1 ∷ [])) 0 (held_part gate (1 ∷ []) old new held)
    refl (omega arith)
