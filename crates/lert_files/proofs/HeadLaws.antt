-- What the first bytes of a journal say is one of three: the header of this cone, another one, or a place at which they leave
-- the format.
use Rattle.std.proofs.Common.{ℕ, ◌≡◌, ◌+◌, ◌<◌, ◌≤◌, ◌^◌, min, Some, None, Result, Ok, Err, List, [], ◌∷◌, ◌++◌, length, take, drop, refl, ap, ap₂, sym, ◌∙◌, subst, arith, inl, inr, ◌⊎◌}
use Rattle.std.proofs.{Common.length-take, Math.Seq.take-add, lemmas.Bool.{cases_lt}, lemmas.List.{drop_more, get_or-drop, length-drop, take_all, take-take}, lemmas.Option.none-some}
use Rattle.std.specs.Prelude.{slice_index, MatchResult, IsErrAnd}
use Rattle.byteorder.specs.Endian.{little_bytes}
use Rattle.lert_base.specs.declared.kept.Kept.{Kept}
use Rattle.lert_bay.specs.declared.bay.TheConstants.{JOURNAL}
use Rattle.lert_spec.specs.{declared.numbers.Numbers.Numbers, Items.IsVersion, Limits.IsInLimits}
use Rattle.lert_spec.proofs.ByteLaws.{bytes_back}
use Rattle.lert_journal.specs.Header.{magic, header, header_left, number_at, kept_in, version_in}
use Rattle.lert_journal.proofs.{BeginningLaws.{begun_nowhere, headed_nowhere, version_headed}, HeaderLaws.reads_back}
use Rattle.lert_files.specs.{declared.fault.ReopenFault.ReopenFault, declared.fault.ReopenFault.TheVariants.{Failed, Malformed, OtherSettings}}
use Rattle.lert_files.specs.Headed.{BeginningLeaves, IsHeaded, IsOwn, HasOther, IsHeaderFault}

-- ---- the header of what it says

module _ (bytes : List ℕ) (small : (k : ℕ) → slice_index bytes k < 256) (long : length bytes ≡ 32) where
  piece : (place : ℕ) (rest : List ℕ) → take 4 (drop place bytes) ≡ rest → take place bytes ++ rest ≡ take (place + 4) bytes
  piece place rest is = ap (λ more. take place bytes ++ more) (sym is) ∙ sym (take-add place 4 bytes)

  number : (place : ℕ) → place + 4 ≤ 32 → take 4 (drop place bytes) ≡ little_bytes 4 (number_at bytes place)
  number place within =
      sym (bytes_back 0 4 (drop place bytes)
      (λ k. subst (λ byte. byte < 256) (sym (get_or-drop place bytes k 0)) (small (place + k)))
      (omega (arith, within, long, length-drop place bytes)))

  four : take 4 (drop 24 bytes) ≡ slice_index bytes 24 ∷ slice_index bytes 25 ∷ slice_index bytes 26 ∷ slice_index bytes 27 ∷ []
  four =
      ap (take 4)
      (drop_more bytes 24 0 (omega (arith, long))
      ∙ ap (λ rest. slice_index bytes 24 ∷ rest)
      (drop_more bytes 25 0 (omega (arith, long))
      ∙ ap (λ rest. slice_index bytes 25 ∷ rest)
      (drop_more bytes 26 0 (omega (arith, long))
      ∙ ap (λ rest. slice_index bytes 26 ∷ rest) (drop_more bytes 27 0 (omega (arith, long))))))

  -- bytes that say these numbers, and begin as a journal of a version, are their header
  pub header_of : (version : ℕ) (s : Numbers) (cone : ℕ) → take 8 bytes ≡ magic version → IsOwn s cone (kept_in bytes) → bytes ≡ header (magic version) s cone
  header_of version s cone begun own =
      let numbers : (kept_in bytes).numbers ≡ s = own.1 in
      let cone_is : number_at bytes 28 ≡ cone = own.0 in
      let a = ap (λ (n : Numbers). little_bytes 4 n.threshold) numbers in
      let b = ap (λ (n : Numbers). little_bytes 4 n.room) numbers in
      let c = ap (λ (n : Numbers). little_bytes 4 n.base) numbers in
      let d = ap (λ (n : Numbers). little_bytes 4 n.packet) numbers in
      let e = ap (λ (n : Numbers). n.bins ∷ n.ratio ∷ n.levels ∷ n.cone_bits ∷ []) numbers in
      let f = ap (little_bytes 4) cone_is in
      let at12 = ap₂ (λ x y. x ++ y) (sym begun) (sym a) ∙ piece 8 _ (number 8 (omega arith)) in
      let at16 = ap₂ (λ x y. x ++ y) at12 (sym b) ∙ piece 12 _ (number 12 (omega arith)) in
      let at20 = ap₂ (λ x y. x ++ y) at16 (sym c) ∙ piece 16 _ (number 16 (omega arith)) in
      let at24 = ap₂ (λ x y. x ++ y) at20 (sym d) ∙ piece 20 _ (number 20 (omega arith)) in
      let at28 = ap₂ (λ x y. x ++ y) at24 (sym e) ∙ piece 24 _ four in
      let at32 = ap₂ (λ x y. x ++ y) at28 (sym f) ∙ piece 28 _ (number 28 (omega arith)) in
      sym (at32 ∙ take_all 32 bytes (omega (arith, long)))

-- ---- files by their first bytes

-- the first eight bytes by the first thirty-two
eight_of : (version : ℕ) (file head : List ℕ) → head ≡ take 32 file → take 8 head ≡ magic version → take 8 file ≡ magic version
eight_of version file head is begun = sym (take-take 8 32 file (omega arith)) ∙ (ap (take 8) (sym is) ∙ begun)

-- one that begins with the cone's header of a version that there is
pub headed_of : (version : ℕ) (s : Numbers) (cone : ℕ) (file : List ℕ) → IsVersion version → take 32 file ≡ header (magic version) s cone → 32 < length file → IsHeaded s cone file
headed_of version s cone file known is gate =
    let same = sym (version_headed version s cone file is) in
    record { headed = is ∙ ap (λ v. header (magic v) s cone) same; known = subst IsVersion same known; gate = gate }

module _ (s : Numbers) (cone : ℕ) (limits : IsInLimits s) (below : cone < 2 ^ 32) (file : List ℕ) where
  headed_says : IsHeaded s cone file → IsOwn s cone (kept_in (take 32 file))
  headed_says headed =
      let says = ap kept_in headed.headed ∙ reads_back (version_in file) s cone limits below in
      (ap (λ (k : Kept). k.cone) says, ap (λ (k : Kept). k.numbers) says)

  pub headed_whole : IsHeaded s cone file → (at : ℕ) → BeginningLeaves s cone file at → ⊥
  headed_whole headed at (inl left) = none-some at (sym (headed_nowhere (version_in file) s cone file headed.known headed.headed) ∙ left)
  headed_whole headed at (inr (gateless, is)) = absurd (omega (arith, headed.gate, gateless.short))

  pub headed_or_fault : (fault : ReopenFault) → IsHeaded s cone file → IsHeaderFault s cone file fault → ⊥
  headed_or_fault fault headed (inl (at, is, left)) = headed_whole headed at left
  headed_or_fault fault headed (inr (kept, is, other)) = other.other (subst (IsOwn s cone) (sym other.kept_is) (headed_says headed))

  some_place : (m n : ℕ) → Some m ≡ Some n → m ≡ n
  some_place m n is = cc

  -- a beginning is left at one place, and not where it says other numbers
  pub one_beginning : (m n : ℕ) → BeginningLeaves s cone file m → BeginningLeaves s cone file n → m ≡ n
  one_beginning m n (inl left) (inl too) = some_place m n (sym left ∙ too)
  one_beginning m n (inl left) (inr (gateless, is)) = absurd (none-some m (sym gateless.whole ∙ left))
  one_beginning m n (inr (gateless, is)) (inl left) = absurd (none-some n (sym gateless.whole ∙ left))
  one_beginning m n (inr (gateless, is)) (inr (other, too)) = is ∙ sym too

  pub other_or_left : (kept : Kept) (at : ℕ) → HasOther s cone file kept → BeginningLeaves s cone file at → ⊥
  other_or_left kept at has (inl left) = none-some at (sym has.whole ∙ left)
  other_or_left kept at has (inr (gateless, is)) = has.other (subst (IsOwn s cone) (sym has.kept_is) gateless.own)

  left_fault : (fault : ReopenFault) (at : ℕ) → BeginningLeaves s cone file at → IsHeaderFault s cone file fault → fault ≡ Malformed JOURNAL at
  left_fault fault at left (inl (other, is, too)) = is ∙ ap (Malformed JOURNAL) (one_beginning other at too left)
  left_fault fault at left (inr (kept, is, other)) = absurd (other_or_left kept at other left)

  other_fault : (fault : ReopenFault) (kept : Kept) → HasOther s cone file kept → IsHeaderFault s cone file fault → fault ≡ OtherSettings kept
  other_fault fault kept has (inl (at, is, left)) = absurd (other_or_left kept at has left)
  other_fault fault kept has (inr (too, is, other)) = is ∙ ap OtherSettings (other.kept_is ∙ sym has.kept_is)

  -- ---- what an answer that is right says the other way round

  abbrev IsVersionThere : ℕ → Type 0
  IsVersionThere version = IsHeaded s cone file × (version ≡ version_in file)

  abbrev pub Told : Result ℕ ReopenFault → Type 0
  Told result = MatchResult result IsVersionThere (λ fault. (fault ≡ Failed) ⊎ IsHeaderFault s cone file fault)

  pub told : (result : Result ℕ ReopenFault) → MatchResult result IsVersionThere (IsHeaderFault s cone file) → Told result
  told (Ok version) is = is
  told (Err fault) is = inr is

  pub headed_back : (result : Result ℕ ReopenFault) → Told result → IsHeaded s cone file → MatchResult result (λ version. version ≡ version_in file) (λ fault. fault ≡ Failed)
  headed_back (Ok version) is headed = is.1
  headed_back (Err fault) (inl failed) headed = failed
  headed_back (Err fault) (inr is) headed = absurd (headed_or_fault fault headed is)

  pub left_back : (result : Result ℕ ReopenFault) → Told result → (at : ℕ) → BeginningLeaves s cone file at →
      IsErrAnd result (λ fault. (fault ≡ Failed) ⊎ (fault ≡ Malformed JOURNAL at))
  left_back (Ok version) is at left = headed_whole is.0 at left
  left_back (Err fault) (inl failed) at left = inl failed
  left_back (Err fault) (inr is) at left = inr (left_fault fault at left is)

  pub other_back : (result : Result ℕ ReopenFault) → Told result → (kept : Kept) → HasOther s cone file kept →
      IsErrAnd result (λ fault. (fault ≡ Failed) ⊎ (fault ≡ OtherSettings kept))
  other_back (Ok version) is kept has = has.other (subst (IsOwn s cone) (sym has.kept_is) (headed_says is.0))
  other_back (Err fault) (inl failed) kept has = inl failed
  other_back (Err fault) (inr is) kept has = inr (other_fault fault kept has is)

-- ---- from what was read to the file

-- as many bytes as there is room for, or as the file has
pub read_front : (room count : ℕ) (into file : List ℕ) → count ≡ min room (length file) → take count into ≡ take count file → take count into ≡ take room file
read_front room count into file count_is copied =
    elim (cases_lt (length file) room) [
      | inl short ↦ copied ∙ (take_all count file (omega (arith, count_is, short)) ∙ sym (take_all room file (omega (arith, short))))
      | inr long ↦ copied ∙ ap (λ n. take n file) (let same : count ≡ room = omega (arith, count_is, long) in same)
    ]

-- a whole header that was read, with a gate behind it: its file begins with it
pub read_whole : (count : ℕ) (head file : List ℕ) → length head ≡ 32 → count ≤ 32 → take count head ≡ take 32 file → 32 ≤ length (take count head) → head ≡ take 32 file
read_whole count head file long few is whole =
    sym (take_all 32 head (omega (arith, long)))
    ∙ (ap (λ n. take n head) (let same : 32 ≡ count = omega (arith, whole, few, length-take count head) in same) ∙ is)

-- its first bytes were read, too
pub front_read : (count : ℕ) (head : List ℕ) → 32 ≤ length (take count head) → take 8 head ≡ take 8 (take count head)
front_read count head whole = sym (take-take 8 count head (omega (arith, whole, length-take count head)))

-- its file has as many bytes
pub whole_file : (count : ℕ) (head file : List ℕ) → take count head ≡ take 32 file → 32 ≤ length (take count head) → 32 ≤ length file
whole_file count head file is whole = omega (arith, whole, ap (λ (xs : List ℕ). length xs) is, length-take 32 file)

-- why a header that was read, that of a version, is refused, and what it says where it isn't
module _ (s : Numbers) (cone version : ℕ) (head file : List ℕ) (kept : Kept) (known : IsVersion version) (is : head ≡ take 32 file) (begun : take 8 head ≡ magic version)
    (whole : 32 ≤ length file) (kept_is : kept ≡ kept_in head) where
  nowhere : header_left file ≡ None
  nowhere = begun_nowhere version file known (eight_of version file head is begun) whole

  own_there : IsOwn s cone kept → IsOwn s cone (kept_in (take 32 file))
  own_there own = subst (IsOwn s cone) (kept_is ∙ ap kept_in is) own

  pub gateless_there : (at : ℕ) → at ≡ length file → at ≤ 32 → IsOwn s cone kept → IsHeaderFault s cone file (Malformed JOURNAL at)
  gateless_there at at_is short own =
      inl (at, refl, inr (record { whole = nowhere; own = own_there own; short = omega (arith, at_is, short) }, at_is))

  pub fault_there : ¬ IsOwn s cone kept → IsHeaderFault s cone file (OtherSettings kept)
  fault_there other = inr (kept, refl, record { whole = nowhere; kept_is = kept_is ∙ ap kept_in is; other = other })

  pub headed_there : ((k : ℕ) → slice_index head k < 256) → length head ≡ 32 → 32 < length file → IsOwn s cone kept → IsHeaded s cone file × (version ≡ version_in file)
  headed_there small long gate own =
      let begins = sym is ∙ header_of head small long version s cone begun (subst (IsOwn s cone) kept_is own) in
      (headed_of version s cone file known begins gate, sym (version_headed version s cone file begins))
