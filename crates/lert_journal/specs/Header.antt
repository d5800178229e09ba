-- The header of a journal: eight bytes that begin it, the eight numbers of its settings, and its cone.
use Rattle.std.specs.Prelude.{ℕ, List, [], ◌∷◌, ◌++◌, length, drop, slice_index, nat_lt, max, Option, Some, None, if◌then◌else◌}
use Rattle.byteorder.specs.Endian.{little_number, little_bytes}
use Rattle.lert_base.specs.declared.kept.Kept.{Kept}
use Rattle.lert_spec.specs.{declared.numbers.Numbers.Numbers, Agreed.agreed}

-- the bytes that begin a journal: the letters LERTJ, and its version
abbrev pub magic : ℕ → List ℕ
magic version = 76 ∷ 69 ∷ 82 ∷ 84 ∷ 74 ∷ version ∷ 0 ∷ 0 ∷ []

-- the header of a cone's file that begins with eight bytes
abbrev pub header : List ℕ → Numbers → ℕ → List ℕ
header begins s cone =
    begins
    ++ little_bytes 4 s.threshold
    ++ little_bytes 4 s.room
    ++ little_bytes 4 s.base
    ++ little_bytes 4 s.packet
    ++ (s.bins ∷ s.ratio ∷ s.levels ∷ s.cone_bits ∷ [])
    ++ little_bytes 4 cone

-- the number in the four bytes from a place on
abbrev pub number_at : List ℕ → ℕ → ℕ
number_at bytes place = little_number 4 (drop place bytes)

-- the cone, the version and the numbers in the bytes of a header
abbrev pub kept_in : List ℕ → Kept
kept_in bytes = record {
  cone = number_at bytes 28;
  version = slice_index bytes 5;
  numbers = record {
    threshold = number_at bytes 8;
    bins = slice_index bytes 24;
    ratio = slice_index bytes 25;
    base = number_at bytes 16;
    levels = slice_index bytes 26;
    cone_bits = slice_index bytes 27;
    room = number_at bytes 12;
    packet = number_at bytes 20;
  };
}

-- the version that the sixth byte of a journal says
abbrev pub version_in : List ℕ → ℕ
version_in bytes = slice_index bytes 5

-- how many of a file's first eight bytes begin a journal of one version or the other
abbrev pub begun : List ℕ → ℕ
begun bytes = max (agreed (magic 1) bytes) (agreed (magic 2) bytes)

-- the place at which a file leaves the header of a journal: at the first of its first eight bytes that differs from those
-- that begin one, in both versions, else at its length, where it ends inside the header; none where it has a header, of
-- whatever numbers. A file that ends behind its header leaves the format at its length too, for want of a gate
abbrev pub header_left : List ℕ → Option ℕ
header_left bytes = if nat_lt (begun bytes) 8 then Some (begun bytes) else (if nat_lt (length bytes) 32 then Some (length bytes) else None)
