-- What is at hand in a window, and what is to come.
use Rattle.std.proofs.Common.{◌≡◌, ◌↔◌, ℕ, ◌+◌, ◌-◌, ◌<◌, ◌≤◌, Bool, false, true, List, [], ◌++◌, length, take, drop, get_or, refl, sym, ap, ap₂, ◌∙◌, subst, inl, inr, arith, append_assoc}
use Rattle.std.{proofs.Common.{length-take, length-drop}, proofs.Math.Dec.leb, proofs.lemmas.Bool.{cases_lt, le-leb, leb-false, leb-true}}
use Rattle.std.proofs.lemmas.List.{drop-drop, drop-append-le, drop-take, get_or-take, get_or-drop, get_or_default, take-append-drop, take_all, with_items_is}
use Rattle.std.{proofs.lemmas.List.Elements.{All-append, All-drop, All-nil, All-same, All-take}, proofs.Math.Seq.take-add, specs.Bool.{IsFalse, IsTrue}, specs.Vec.with_items}
use Rattle.std.specs.declared.vec.Vec.{Vec}
use Rattle.lert_bay.{specs.Files.CopiesFrom, specs.Settled.part, proofs.Settling.part_none}
use Rattle.lert_frames.{specs.Bytes.AreBytes, proofs.PartLaws.{part_is, part_join, part_less}}

-- bytes of a buffer
pub small_part : (bytes : List ℕ) (from count : ℕ) → ((k : ℕ) → get_or bytes k 0 < 256) → AreBytes (take count (drop from bytes))
small_part bytes from count small k d below =
    let same = get_or_default (take count (drop from bytes)) k d 0 below in
    let within : k < count = omega (arith, below, length-take count (drop from bytes)) in
    subst (λ (byte : ℕ). byte < 256) (sym (same ∙ (get_or-take count (drop from bytes) k 0 within ∙ get_or-drop from bytes k 0))) (small (from + k))

-- ---- some of them passed

module _ (bytes : List ℕ) (from upto count : ℕ) (within : from + count ≤ upto) where
  pub passed : take (upto - (from + count)) (drop (from + count) bytes) ≡ drop count (take (upto - from) (drop from bytes))
  passed =
      let sum : upto - from ≡ count + (upto - (from + count)) = omega (arith, within) in
      ap (take (upto - (from + count))) (sym (drop-drop count from bytes))
      ∙ (sym (drop-take count (upto - (from + count)) (drop from bytes)) ∙ ap (λ n. drop count (take n (drop from bytes))) (sym sum))

  -- and so of what is to come
  pub passed_come : upto ≤ length bytes → (rest : List ℕ) →
      take (upto - (from + count)) (drop (from + count) bytes) ++ rest ≡ drop count (take (upto - from) (drop from bytes) ++ rest)
  passed_come fits rest =
      let hand = take (upto - from) (drop from bytes) in
      ap (λ xs. xs ++ rest) passed
      ∙ sym (drop-append-le count hand rest (omega (arith, within, fits, length-take (upto - from) (drop from bytes), length-drop from bytes)))

-- ---- whether so many are at hand

module _ (count long had : ℕ) (is : long ≡ had) where
  pub is_enough : IsTrue (leb count long) ↔ (count ≤ had)
  is_enough = (λ yes. omega (arith, leb-true count long yes, is), λ few. le-leb count long (omega (arith, few, is)))

  pub too_few : IsFalse (leb count long) → had < count
  too_few missing = omega (arith, leb-false count long missing, is)

-- where fewer are at hand than were wanted, no others come
pub off_of : (enough : Bool) (count had : ℕ) → (IsTrue enough ↔ (count ≤ had)) → had < count → enough ≡ false
off_of true count had means short = absurd (omega (arith, means.0 refl, short))
off_of false count had means short = refl

-- ---- those behind them read

-- what is at hand at the front of a buffer
hand_at : (bytes : List ℕ) (from upto : ℕ) → from ≡ 0 → take (upto - from) (drop from bytes) ≡ take upto bytes
hand_at bytes from upto front = let same : upto - from ≡ upto = omega (arith, front) in ap₂ (λ count place. take count (drop place bytes)) same front

-- a read into the buffer behind the bytes at hand
module _ {Z : Type 0} (bytes : Vec ℕ Z) (into : List ℕ) (from upto : ℕ) (front : from ≡ 0) (long : length into ≡ bytes.len) (same : take upto into ≡ take upto bytes.items) where
  -- leaves them
  pub hand_kept : take (upto - from) (drop from (with_items bytes into).items) ≡ take (upto - from) (drop from bytes.items)
  hand_kept =
      hand_at (with_items bytes into).items from upto front
      ∙ (ap (take upto) (with_items_is bytes into long) ∙ (same ∙ sym (hand_at bytes.items from upto front)))

  module _ (file : List ℕ) (at read : ℕ) (copied : CopiesFrom at read (drop upto into) file) where
    -- puts those of the file behind them
    filled : take (upto + read - from) (drop from (with_items bytes into).items) ≡ take (upto - from) (drop from bytes.items) ++ take read (drop at file)
    filled =
        hand_at (with_items bytes into).items from (upto + read) front
        ∙ (ap (take (upto + read)) (with_items_is bytes into long)
        ∙ (take-add upto read into ∙ ap₂ (λ xs ys. xs ++ ys) (same ∙ sym (hand_at bytes.items from upto front)) copied.copied))

    -- so that what is to come stays
    pub filled_come : take (upto + read - from) (drop from (with_items bytes into).items) ++ drop (at + read) file ≡ take (upto - from) (drop from bytes.items) ++ drop at file
    filled_come =
        let hand = take (upto - from) (drop from bytes.items) in
        ap (λ xs. xs ++ drop (at + read) file) filled
        ∙ (append_assoc hand (take read (drop at file)) (drop (at + read) file)
        ∙ ap (λ xs. hand ++ xs) (ap (λ xs. take read (drop at file) ++ xs) (sym (drop-drop read at file)) ∙ take-append-drop read (drop at file)))

    -- and is all at hand, where the buffer isn't full
    pub filled_all : upto + read < length into →
        take (upto + read - from) (drop from (with_items bytes into).items) ≡ take (upto - from) (drop from bytes.items) ++ drop at file
    filled_all short =
        let all : length (drop at file) ≤ read = omega (arith, copied.count_is, length-drop upto into, length-drop at file, short) in
        filled ∙ ap (λ xs. take (upto - from) (drop from bytes.items) ++ xs) (take_all read (drop at file) all)

-- ---- what is read are bytes

-- those that were copied
pub read_more : (into file : List ℕ) (upto at read first : ℕ) → CopiesFrom at read (drop upto into) file → first ≤ at → AreBytes into → AreBytes (part file first at) →
    AreBytes (part file first (at + read))
read_more into file upto at read first copied before small known = elim (cases_lt (length file) at) [
  | inl past ↦
      let none : at + read ≡ at = omega (arith, copied.count_is, past) in
      subst (λ (n : ℕ). AreBytes (part file first n)) (sym none) known
  | inr within ↦
      let more : part file at (at + read) ≡ take read (drop upto into) = part_is file at read (at + read) refl ∙ sym copied.copied in
      All-same (λ byte. byte < 256) (part file first (at + read)) (part file first at ++ part file at (at + read))
      (sym (part_join file first at (at + read) before (omega arith) within))
      (All-append (λ byte. byte < 256) (part file first at) (part file at (at + read)) known
      (All-same (λ byte. byte < 256) (part file at (at + read)) (take read (drop upto into)) more
      (All-take (λ byte. byte < 256) read (drop upto into) (All-drop (λ byte. byte < 256) upto into small))))
]

-- none are read yet
pub none_read : (file : List ℕ) (at : ℕ) → AreBytes (part file at at)
none_read file at = All-same (λ byte. byte < 256) (part file at at) [] (part_none file at at (omega arith)) (All-nil (λ byte. byte < 256))

-- fewer bytes
pub read_less : (file : List ℕ) (from upto at : ℕ) → upto ≤ at → AreBytes (part file from at) → AreBytes (part file from upto)
read_less file from upto at fewer known =
    All-same (λ byte. byte < 256) (part file from upto) (take (upto - from) (part file from at)) (part_less file from upto at fewer)
    (All-take (λ byte. byte < 256) (upto - from) (part file from at) known)
