-- Writes put back, one by one.
use Rattle.std.proofs.Common.{◌≡◌, ℕ, ◌+◌, ◌-◌, ◌<◌, ◌≤◌, min, List, [], ◌∷◌, ◌++◌, length, take, drop, get_or, map, suc, true, nat_le, nat_lt}
use Rattle.std.proofs.Common.{refl, sym, ap, ◌∙◌, subst, inl, inr, arith, length-take, length-drop, length-append}
use Rattle.std.proofs.Math.Seq.{drop-cons}
use Rattle.std.proofs.lemmas.Bool.{and_parts, leb-true, ltb-true}
use Rattle.std.proofs.lemmas.List.{get_or_append_left, get_or-append_right, get_or-take, get_or-drop, length-take-le, map-append, take_more}
use Rattle.std.specs.Vec.{vec_len}
use Rattle.lert_bay.specs.Files.{IsOutside}
use Rattle.lert_bay.specs.Pending.{covers, before_all, kept_by}
use Rattle.lert_bay.specs.declared.overwrite.Overwrite.{Overwrite}
use Rattle.lert_bay.proofs.TakenBack.{before_covered, before_outside}
use Rattle.lert_bay.proofs.Tearing.{inside_cases}

-- `count` of the bytes kept, from a place on, as a slice of them is written
abbrev pub piece_of : List ℕ → ℕ → ℕ → List ℕ
piece_of kept from count = take ((from + count) - from) (drop from kept)

pub length_piece : (kept : List ℕ) (from count : ℕ) → from + count ≤ length kept → length (piece_of kept from count) ≡ count
length_piece kept from count within = simp (length-take, length-drop) (omega (arith, within))

kept_length : (write : Overwrite) → vec_len write.old ≡ length write.old.items
kept_length write = write.old.ok.0

-- the part that is taken back stands within the file
pub piece_within : (write : Overwrite) (from to end : ℕ) (kept old : List ℕ) → kept ≡ write.old.items → to ≤ vec_len write.old → end ≡ min (length old) (write.at + to) →
    write.at + from < end → (write.at + from) + length (piece_of kept from (end - (write.at + from))) ≤ length old
piece_within write from to end kept old kept_is to_within end_is some =
    let count : length kept ≡ length write.old.items = ap length kept_is in
    let most : to ≤ length write.old.items = subst (λ (n : ℕ). to ≤ n) (kept_length write) to_within in
    omega (arith, end_is, some, length_piece kept from (end - (write.at + from)) (omega (arith, count, most, end_is, some)))

-- what a write makes of a file by the part of it from `from` up to `to` that is taken back
pub record Restores (write : Overwrite) (from to : ℕ) (old new : List ℕ) : Type 0 where
  pub long : length new ≡ length old
  pub elsewhere : (place : ℕ) → IsOutside write.at (length write.old.items) place → get_or new place 0 ≡ get_or old place 0
  pub lost : from ≡ 0 → to ≡ vec_len write.old → (place : ℕ) → place < length old → get_or new place 0 ≡ before_all (write ∷ []) place (get_or old place 0)
  pub whole : from ≡ to → new ≡ old

-- a covered place lies between the write's ends
between : (write : Overwrite) (place : ℕ) → covers write place ≡ true → (write.at ≤ place) × (place < write.at + length write.old.items)
between write place is =
    let parts = and_parts (nat_le write.at place) (nat_lt place (write.at + length write.old.items)) is in
    (leb-true write.at place parts.0, ltb-true place (write.at + length write.old.items) parts.1)

-- no byte of it lies within the file
pub restores_none : (write : Overwrite) (from to end : ℕ) (old : List ℕ) → end ≡ min (length old) (write.at + to) → end ≤ write.at + from → Restores write from to old old
restores_none write from to end old end_is none = record {
  long = refl;
  elsewhere = λ place outside. refl;
  lost = λ from_is to_is place within. elim (inside_cases write.at (length write.old.items) place) [
    | inl is ↦ let ends = between write place is in absurd (omega (arith, ends.0, ends.1, end_is, none, from_is, to_is, kept_length write, within))
    | inr outside ↦ sym (before_outside write [] place (get_or old place 0) outside)
  ];
  whole = λ same. refl;
}

-- bytes laid over a file
laid_length : (start count : ℕ) (piece old new : List ℕ) → length piece ≡ count → start + count ≤ length old →
    new ≡ (take start old ++ piece) ++ drop (start + length piece) old → length new ≡ length old
laid_length start count piece old new long within is =
    ap length is ∙ simp (length-append, length-take, length-drop) (omega (arith, long, within))

laid_before : (start : ℕ) (piece old new : List ℕ) → start ≤ length old → new ≡ (take start old ++ piece) ++ drop (start + length piece) old →
    (place : ℕ) → place < start → get_or new place 0 ≡ get_or old place 0
laid_before start piece old new within is place before =
    let front : length (take start old) ≡ start = length-take-le start old within in
    ap (λ xs. get_or xs place 0) is
    ∙ (get_or_append_left (take start old ++ piece) (drop (start + length piece) old) 0 place (omega (arith, length-append (take start old) piece, front, before))
    ∙ (get_or_append_left (take start old) piece 0 place (omega (arith, front, before)) ∙ get_or-take start old place 0 before))

laid_behind : (start : ℕ) (piece old new : List ℕ) → start ≤ length old → new ≡ (take start old ++ piece) ++ drop (start + length piece) old →
    (place : ℕ) → start + length piece ≤ place → get_or new place 0 ≡ get_or old place 0
laid_behind start piece old new within is place behind =
    let both : length (take start old ++ piece) ≡ start + length piece = length-append (take start old) piece ∙ ap (λ n. n + length piece) (length-take-le start old within) in
    ap (λ xs. get_or xs place 0) is
    ∙ (get_or-append_right (take start old ++ piece) (drop (start + length piece) old) (start + length piece) place 0 both behind
    ∙ (get_or-drop (start + length piece) old (place - (start + length piece)) 0 ∙ ap (λ n. get_or old n 0) (omega (arith, behind))))

laid_here : (start : ℕ) (piece old new : List ℕ) → start ≤ length old → new ≡ (take start old ++ piece) ++ drop (start + length piece) old →
    (place : ℕ) → start ≤ place → place < start + length piece → get_or new place 0 ≡ get_or piece (place - start) 0
laid_here start piece old new within is place from to =
    let front : length (take start old) ≡ start = length-take-le start old within in
    ap (λ xs. get_or xs place 0) is
    ∙ (get_or_append_left (take start old ++ piece) (drop (start + length piece) old) 0 place (omega (arith, length-append (take start old) piece, front, to))
    ∙ get_or-append_right (take start old) piece start place 0 front from)

-- some bytes of it do
pub restores_some : (write : Overwrite) (from to end : ℕ) (kept old new : List ℕ) → kept ≡ write.old.items → to ≤ vec_len write.old → end ≡ min (length old) (write.at + to) →
    write.at + from < end →
    new ≡ (take (write.at + from) old ++ piece_of kept from (end - (write.at + from))) ++ drop ((write.at + from) + length (piece_of kept from (end - (write.at + from)))) old →
    Restores write from to old new
restores_some write from to end kept old new kept_is to_within end_is some is =
    let start : ℕ = write.at + from in
    let piece : List ℕ = piece_of kept from (end - start) in
    let count : length kept ≡ length write.old.items = ap length kept_is in
    let most : to ≤ length write.old.items = subst (λ (n : ℕ). to ≤ n) (kept_length write) to_within in
    let fits : from + (end - start) ≤ length kept = omega (arith, count, most, end_is, some) in
    let long : length piece ≡ end - start = length_piece kept from (end - start) fits in
    let within : start ≤ length old = omega (arith, end_is, some) in
    record {
      long = laid_length start (end - start) piece old new long (omega (arith, end_is, some)) is;
      elsewhere = λ place outside. elim outside [
        | inl before ↦ laid_before start piece old new within is place (omega (arith, before))
        | inr behind ↦ laid_behind start piece old new within is place (omega (arith, long, some, behind, end_is, most))
      ];
      lost = λ from_is to_is place below. elim (inside_cases write.at (length write.old.items) place) [
        | inl covered ↦
            let ends = between write place covered in
            let short : place - start < end - start = omega (arith, ends.0, ends.1, from_is, to_is, kept_length write, end_is, below) in
            laid_here start piece old new within is place (omega (arith, ends.0, from_is)) (omega (arith, short, long, ends.0, from_is))
            ∙ (get_or-take ((from + (end - start)) - from) (drop from kept) (place - start) 0 (omega (arith, short))
            ∙ (get_or-drop from kept (place - start) 0
            ∙ (ap (λ n. get_or kept n 0) (omega (arith, from_is))
            ∙ (ap (λ (xs : List ℕ). get_or xs (place - write.at) 0) kept_is ∙ sym (before_covered write [] place (get_or old place 0) covered)))))
        | inr outside ↦
            (elim outside [
              | inl before ↦ laid_before start piece old new within is place (omega (arith, before))
              | inr behind ↦ laid_behind start piece old new within is place (omega (arith, long, some, behind, end_is, most))
            ])
            ∙ sym (before_outside write [] place (get_or old place 0) outside)
      ];
      whole = λ same. absurd (omega (arith, same, end_is, some));
    }

-- ---- all writes, the last one first

-- one write more is taken back
pub back_more : (writes : List Overwrite) (index place first now new : ℕ) (write : Overwrite) → 0 < index → index ≤ length writes → write ≡ get_or writes (index - 1) write →
    new ≡ before_all (write ∷ []) place now → now ≡ before_all (drop index writes) place first → new ≡ before_all (drop (index - 1) writes) place first
back_more writes index place first now new write some within is restored earlier =
    let next : suc (index - 1) ≡ index = omega (arith, some) in
    let split : drop (index - 1) writes ≡ write ∷ drop index writes = drop-cons writes (index - 1) write (omega (arith, some, within))
    ∙ (ap (λ w. w ∷ drop (suc (index - 1)) writes) (sym is) ∙ ap (λ n. write ∷ drop n writes) next) in
    restored ∙ (ap (λ byte. before_all (write ∷ []) place byte) earlier ∙ sym (ap (λ ws. before_all ws place first) split))

-- the last write that is left
pub last_within : (index n : ℕ) → 0 < index → index ≤ n → index - 1 < n
last_within index n some within = omega (arith, some, within)

pub none_left : (index : ℕ) → index ≤ 0 → index ≡ 0
none_left index none = omega (arith, none)

-- ---- copies

-- one write more is copied
pub copied_more : (writes copies after : List Overwrite) (n : ℕ) (write copy : Overwrite) → map kept_by copies ≡ map kept_by (take n writes) → n < length writes →
    write ≡ get_or writes n write → kept_by copy ≡ kept_by write → after ≡ copies ++ copy ∷ [] → map kept_by after ≡ map kept_by (take (n + 1) writes)
copied_more writes copies after n write copy same within is keeps more =
    ap (map kept_by) more
    ∙ (map-append kept_by copies (copy ∷ [])
    ∙ (ap (λ xs. xs ++ kept_by copy ∷ []) same
    ∙ (ap (λ kept. map kept_by (take n writes) ++ kept ∷ []) (keeps ∙ ap kept_by is)
    ∙ sym (ap (map kept_by) (take_more writes n write within) ∙ map-append kept_by (take n writes) (get_or writes n write ∷ [])))))
