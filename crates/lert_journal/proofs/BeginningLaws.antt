-- Where a file leaves the header is decided by its first bytes, and a header of a known version leaves nowhere.
use Rattle.std.proofs.Common.{◌≡◌, ℕ, zero, suc, ◌<◌, ◌≤◌, max, nat_lt, Some, None, List, length, take, take-take, refl, sym, ap, ap₂, ◌∙◌, subst, arith, inl, inr, ◌⊎◌, length-take}
use Rattle.std.proofs.lemmas.{Bool.{lt-ltb, le-ltb}, List.{get_or-take, take_all, length-take-le}}
use Rattle.std.specs.Prelude.{if◌then◌else◌}
use Rattle.lert_bay.specs.Settled.{part}
use Rattle.lert_spec.specs.{declared.numbers.Numbers.Numbers, Agreed.agreed, Items.IsVersion}
use Rattle.lert_journal.specs.Header.{begun, magic, header, header_left, version_in}
use Rattle.lert_journal.proofs.{AgreedLaws.{agreed_all, agreed_front, agreed_whole}, HeaderLaws.begins}

-- ---- the version

-- it is said by the first bytes
pub version_front : (n : ℕ) (bytes : List ℕ) → 5 < n → version_in (take n bytes) ≡ version_in bytes
version_front n bytes within = get_or-take n bytes 5 0 within

pub version_same : (n : ℕ) (bytes file : List ℕ) → 5 < n → take n bytes ≡ take n file → version_in bytes ≡ version_in file
version_same n bytes file within is = sym (version_front n bytes within) ∙ (ap version_in is ∙ version_front n file within)

pub version_of_magic : (version : ℕ) (bytes : List ℕ) → take 8 bytes ≡ magic version → version_in bytes ≡ version
version_of_magic version bytes is = sym (version_front 8 bytes (omega arith)) ∙ ap version_in is

module _ (version : ℕ) (s : Numbers) (cone : ℕ) where
  -- of a header, of bytes that begin with it, and of the same in other words
  pub version_of_header : version_in (header (magic version) s cone) ≡ version
  version_of_header = refl

  pub version_headed : (bytes : List ℕ) → take 32 bytes ≡ header (magic version) s cone → version_in bytes ≡ version
  version_headed bytes is = sym (version_front 32 bytes (omega arith)) ∙ ap version_in is

  pub version_in_part : (bytes : List ℕ) → part bytes 0 32 ≡ header (magic version) s cone → version_in bytes ≡ version
  version_in_part = version_headed

-- ---- how far files begin as a journal

two : (version : ℕ) → IsVersion version → (version ≡ 1) ⊎ (version ≡ 2)
two zero known = absurd (omega (arith, known.0))
two (suc zero) known = inl refl
two (suc (suc zero)) known = inr refl
two (suc (suc (suc version))) known = absurd (omega (arith, known.1))

-- files with the same first 32 bytes do so as far
pub begun_same : (bytes file : List ℕ) → take 32 bytes ≡ take 32 file → begun bytes ≡ begun file
begun_same bytes file is = ap₂ max (one 1 (omega arith)) (one 2 (omega arith))
  where
    one : (version : ℕ) → 0 < version → agreed (magic version) bytes ≡ agreed (magic version) file
    one version some = sym (agreed_front (magic version) bytes 32 (omega arith)) ∙ (ap (agreed (magic version)) is ∙ agreed_front (magic version) file 32 (omega arith))

-- with all eight bytes of a version
pub begun_whole : (version : ℕ) (file : List ℕ) → IsVersion version → take 8 file ≡ magic version → 8 ≤ begun file
begun_whole version file known is =
    elim (two version known) [
      | inl one ↦ omega (arith, agreed_whole (magic 1) file (is ∙ ap magic one))
      | inr other ↦ omega (arith, agreed_whole (magic 2) file (is ∙ ap magic other))
    ]

-- and only with these
abbrev IsBegun : List ℕ → Type 0
IsBegun bytes = IsVersion (version_in bytes) × (take 8 bytes ≡ magic (version_in bytes))

begun_of : (version : ℕ) (bytes : List ℕ) → IsVersion version → take 8 bytes ≡ magic version → IsBegun bytes
begun_of version bytes known is =
    let same = sym (version_of_magic version bytes is) in
    (subst IsVersion same known, is ∙ ap magic same)

pub begins_known : (bytes : List ℕ) → 8 ≤ begun bytes → IsBegun bytes
begins_known bytes all =
    elim (greater (agreed (magic 1) bytes) (agreed (magic 2) bytes) all) [
      | inl one ↦ begun_of 1 bytes (omega arith, omega arith) (agreed_all (magic 1) bytes one)
      | inr other ↦ begun_of 2 bytes (omega arith, omega arith) (agreed_all (magic 2) bytes other)
    ]
  where
    greater : (m n : ℕ) → 8 ≤ max m n → (8 ≤ m) ⊎ (8 ≤ n)
    greater m n is = grind (arith, is)

-- ---- where a file leaves the header

-- behind the right eight bytes the length decides
length_decides : (file : List ℕ) → 8 ≤ begun file → header_left file ≡ (if nat_lt (length file) 32 then Some (length file) else None)
length_decides file all = ap (λ b. if b then Some (begun file) else (if nat_lt (length file) 32 then Some (length file) else None)) (le-ltb (begun file) 8 all)

-- a file that leaves them
pub front_left : (file bytes : List ℕ) → take 32 bytes ≡ take 32 file → begun bytes < 8 → Some (begun bytes) ≡ header_left file
front_left file bytes is left =
    let same = begun_same bytes file is in
    ap Some same ∙ sym (ap (λ b. if b then Some (begun file) else (if nat_lt (length file) 32 then Some (length file) else None))
    (lt-ltb (begun file) 8 (omega (arith, same, left))))

-- a file that ends inside the header
pub front_short : (file bytes : List ℕ) → take 32 bytes ≡ take 32 file → 8 ≤ begun bytes → length bytes < 32 → Some (length bytes) ≡ header_left file
front_short file bytes is all short =
    let whole : bytes ≡ take 32 file = sym (take_all 32 bytes (omega (arith, short))) ∙ is in
    let same : bytes ≡ file = whole ∙ take_all 32 file (omega (arith, short, ap length whole, length-take 32 file)) in
    sym (sym (ap header_left same) ∙ (length_decides bytes all ∙ ap (λ b. if b then Some (length bytes) else None) (lt-ltb (length bytes) 32 short)))

whole_left : (file : List ℕ) → 8 ≤ begun file → 32 ≤ length file → header_left file ≡ None
whole_left file all long = length_decides file all ∙ ap (λ b. if b then Some (length file) else None) (le-ltb (length file) 32 long)

-- a file with a header
pub front_whole : (file bytes : List ℕ) → take 32 bytes ≡ take 32 file → 8 ≤ begun bytes → 32 ≤ length bytes → None ≡ header_left file
front_whole file bytes is all whole =
    let lengths : length (take 32 file) ≡ 32 = sym (ap length is) ∙ length-take-le 32 bytes whole in
    sym (whole_left file (omega (arith, all, begun_same bytes file is)) (omega (arith, lengths, length-take 32 file)))

-- so one that begins with the eight bytes of a version leaves it nowhere, and one that begins with a cone's header
pub begun_nowhere : (version : ℕ) (file : List ℕ) → IsVersion version → take 8 file ≡ magic version → 32 ≤ length file → header_left file ≡ None
begun_nowhere version file known is long = whole_left file (begun_whole version file known is) long

module _ (version : ℕ) (s : Numbers) (cone : ℕ) where
  -- the first eight bytes by the first thirty-two
  pub first_eight : (file : List ℕ) → take 32 file ≡ header (magic version) s cone → take 8 file ≡ magic version
  first_eight file is = sym (take-take 8 32 file (omega arith)) ∙ (ap (take 8) is ∙ begins version s cone)

  long : (file : List ℕ) → take 32 file ≡ header (magic version) s cone → 32 ≤ length file
  long file is = omega (arith, ap (length {A = ℕ}) is, length-take 32 file)

  pub headed_nowhere : (file : List ℕ) → IsVersion version → take 32 file ≡ header (magic version) s cone → header_left file ≡ None
  headed_nowhere file known is = begun_nowhere version file known (first_eight file is) (long file is)

  pub header_nowhere : IsVersion version → header_left (header (magic version) s cone) ≡ None
  header_nowhere known = headed_nowhere (header (magic version) s cone) known refl
