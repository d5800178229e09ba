-- A header reads back as what it was written from.
use Rattle.std.proofs.{Common.{◌≡◌, ℕ, ◌<◌, ◌≤◌, ◌^◌, List, [], ◌++◌, length, take, drop, refl, sym, ap, arith, ◌∙◌}, lemmas.List.take_all}
use Rattle.byteorder.specs.{Endian.{little_number, little_bytes}, Numbers.little_number-reads_back}
use Rattle.lert_spec.specs.{declared.numbers.Numbers.Numbers, Limits.IsInLimits}
use Rattle.lert_journal.specs.Header.{magic, header, number_at, kept_in}

pub begins : (version : ℕ) (s : Numbers) (cone : ℕ) → take 8 (header (magic version) s cone) ≡ magic version
begins version s cone = refl

-- a number of four bytes reads back
number : (x : ℕ) (rest : List ℕ) → x < 2 ^ 32 → little_number 4 (little_bytes 4 x ++ rest) ≡ x
number x rest below = little_number-reads_back 4 x rest below

pub reads_back : (version : ℕ) (s : Numbers) (cone : ℕ) → IsInLimits s → cone < 2 ^ 32 → kept_in (header (magic version) s cone) ≡ record { cone = cone; version = version; numbers = s }
reads_back version s cone limits below =
    let threshold_is : number_at (header (magic version) s cone) 8 ≡ s.threshold = number s.threshold (drop 12 (header (magic version) s cone)) (omega (arith, limits.threshold_to)) in
    let room_is : number_at (header (magic version) s cone) 12 ≡ s.room = number s.room (drop 16 (header (magic version) s cone)) (omega (arith, limits.room_to)) in
    let base_is : number_at (header (magic version) s cone) 16 ≡ s.base = number s.base (drop 20 (header (magic version) s cone)) (omega (arith, limits.base_to)) in
    let packet_is : number_at (header (magic version) s cone) 20 ≡ s.packet = number s.packet (drop 24 (header (magic version) s cone)) (omega (arith, limits.packet_to)) in
    let cone_is : number_at (header (magic version) s cone) 28 ≡ cone = number cone [] below in
    λ i. record {
      cone = cone_is i;
      version = version;
      numbers = record {
        threshold = threshold_is i;
        bins = s.bins;
        ratio = s.ratio;
        base = base_is i;
        levels = s.levels;
        cone_bits = s.cone_bits;
        room = room_is i;
        packet = packet_is i;
      };
    }

-- each step lays its bytes behind those of the steps before: what then fills all places is their join
pub laid : (n0 n1 n2 n3 n4 n5 n6 : ℕ) (a b c d e f g x0 x1 x2 x3 x4 x5 x6 : List ℕ)
    → take n0 x0 ≡ a → take n1 x1 ≡ take n0 x0 ++ b → take n2 x2 ≡ take n1 x1 ++ c → take n3 x3 ≡ take n2 x2 ++ d → take n4 x4 ≡ take n3 x3 ++ e
    → take n5 x5 ≡ take n4 x4 ++ f → take n6 x6 ≡ take n5 x5 ++ g → length x6 ≤ n6 → x6 ≡ a ++ b ++ c ++ d ++ e ++ f ++ g
laid n0 n1 n2 n3 n4 n5 n6 a b c d e f g x0 x1 x2 x3 x4 x5 x6 p0 p1 p2 p3 p4 p5 p6 long =
    sym (take_all n6 x6 long)
    ∙ (p6 ∙ ap (λ t. t ++ g)
    (p5 ∙ ap (λ t. t ++ f)
    (p4 ∙ ap (λ t. t ++ e)
    (p3 ∙ ap (λ t. t ++ d)
    (p2 ∙ ap (λ t. t ++ c)
    (p1 ∙ ap (λ t. t ++ b) p0))))))
