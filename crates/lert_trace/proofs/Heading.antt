-- The header's bytes in front of a window.
use Rattle.std.proofs.Common.{◌≡◌, ℕ, ◌⊎◌, ◌<◌, ◌≤◌, Bool, true, false, eqb, cond, List, [], ◌++◌, length, drop, slice_get, get_or, Option, Some, sym, ap, ◌∙◌, inl, inr, arith, append-nil, refl}
use Rattle.std.proofs.Math.ListN.{get_or-append}
use Rattle.std.proofs.lemmas.{Bool.{cases_lt, ne_eqb}, List.{drop-append-le, get_or_past}, Option.{get_or_from_slice_get, slice_get-get_or}}
use Rattle.lert_spec.specs.Agreed.{agreed}
use Rattle.lert_trace.specs.{Trace.{header_len, trace_header, version_in}, Window.{StillAhead, IsAtEnd}}
use Rattle.lert_trace.proofs.Agreed.{agreed-le_text, agreed-le_bytes, agreed-append}

-- a fifth byte of 2 names version 2
pub named_two : (bytes : List ℕ) → slice_get bytes 4 ≡ Some 2 → 2 ≡ version_in bytes
named_two bytes is = sym (ap (λ n. cond (eqb n 2) 2 1) (get_or_from_slice_get bytes 4 2 1 is))

-- another one, or none, names no other than 1
pub named_one : (bytes : List ℕ) → (slice_get bytes 4 ≡ Some 2 → ⊥) → 1 ≡ version_in bytes
named_one bytes other = sym (ap (λ b. cond b 2 1) (ne_eqb (get_or bytes 4 1) 2 (apart (cases_lt 4 (length bytes)))))
  where
    apart : (4 < length bytes) ⊎ (length bytes ≤ 4) → get_or bytes 4 1 ≡ 2 → ⊥
    apart (inl there) two = other (slice_get-get_or bytes 4 1 there ∙ ap Some two)
    apart (inr past) two = absurd (omega (arith, two, get_or_past bytes 4 1 past))

-- bytes behind the eighth change nothing
version_in-append : (xs ys : List ℕ) → 8 ≤ length xs → version_in (xs ++ ys) ≡ version_in xs
version_in-append xs ys enough = ap (λ n. cond (eqb n 2) 2 1) (get_or-append xs ys 1 4 (omega (arith, enough)))

header_len-append : (xs ys : List ℕ) → 8 ≤ length xs → header_len (xs ++ ys) ≡ header_len xs
header_len-append xs ys enough =
    ap (λ version. agreed (trace_header version) (xs ++ ys)) (version_in-append xs ys enough)
    ∙ agreed-append (trace_header (version_in xs)) xs ys enough

-- what the bytes ahead are as a header, the pending bytes are, once eight are pending or none is left
pub header-ahead : (full : Bool) (before after : Option (List ℕ)) (old new : List ℕ) → StillAhead before after old new → (full ≡ true → 8 ≤ length new) →
    (full ≡ false → IsAtEnd before after) → (bytes : List ℕ) → before ≡ Some bytes → (header_len (old ++ bytes) ≡ header_len new) × (version_in (old ++ bytes) ≡ version_in new)
header-ahead true before after old new ahead enough end bytes was =
    let next = ahead.told bytes was in (
      ap header_len (sym next.2) ∙ header_len-append new next.0 (enough refl),
      ap version_in (sym next.2) ∙ version_in-append new next.0 (enough refl),
    )
header-ahead false before after old new ahead enough end bytes was =
    let next = ahead.told bytes was in
    let remains : after ≡ Some next.0 = next.1 in
    let none : next.0 ≡ [] = cc (remains, end refl bytes was) in
    let same : old ++ bytes ≡ new = sym next.2 ∙ (ap (λ rest. new ++ rest) none ∙ append-nil new) in
    (ap header_len same, ap version_in same)

-- what they have in common with the header of the version that they name
pub header_read : (named same : ℕ) (text bytes : List ℕ) → same ≡ agreed text bytes → text ≡ trace_header named → named ≡ version_in bytes → same ≡ header_len bytes
header_read named same text bytes read is names = read ∙ ap (λ xs. agreed xs bytes) (is ∙ ap trace_header names)

pub header-whole : (bytes : List ℕ) → 8 ≤ header_len bytes → header_len bytes ≡ 8
header-whole bytes all = omega (arith, all, agreed-le_text (trace_header (version_in bytes)) bytes)

pub header-within : (bytes : List ℕ) → 8 ≤ header_len bytes → 8 ≤ length bytes
header-within bytes all = omega (arith, all, agreed-le_bytes (trace_header (version_in bytes)) bytes)

-- the header is taken off
pub taken-header : (before after : Option (List ℕ)) (old new rest : List ℕ) → StillAhead before after old new → 8 ≤ length new → rest ≡ drop 8 new →
    (bytes : List ℕ) → before ≡ Some bytes → (left : List ℕ) × (after ≡ Some left) × (rest ++ left ≡ drop 8 (old ++ bytes))
taken-header before after old new rest ahead enough is bytes was =
    let next = ahead.told bytes was in (
      next.0,
      next.1,
      ap (λ xs. xs ++ next.0) is ∙ (sym (drop-append-le 8 new next.0 enough) ∙ ap (λ xs. drop 8 xs) next.2),
    )
