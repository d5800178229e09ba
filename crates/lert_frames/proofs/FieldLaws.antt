-- The fields at the front of a block: what bytes at hand say of all that is to come.
use Rattle.std.proofs.Common.{◌≡◌, ℕ, ◌+◌, ◌-◌, ◌*◌, ◌<◌, ◌≤◌, ◌==◌, ◌&&◌, ◌||◌, not, cond, nat_lt, Bool, true, false, List, ◌++◌, length, take, drop, Some, None, sym, ap, ap₂, ◌∙◌, subst}
use Rattle.std.proofs.Common.{inl, inr, arith, append_assoc, length-append, length-take, length-drop, lt-ltb, le-ltb, eq-eqb, ne_eqb}
use Rattle.std.{proofs.lemmas.Bool.{cond-true, cond-false, cases_lt, cases_eq}, proofs.lemmas.List.{drop-append-le, drop-drop, take-append-drop, take_all}}
use Rattle.std.{proofs.lemmas.List.Elements.{All-append, All-same}, proofs.Math.Seq.drop-append-add}
use Rattle.byteorder.specs.Endian.{little_number}
use Rattle.lert_bay.specs.Settled.{part}
use Rattle.lert_blocks.{specs.Frame.{numbers_in, occupied_in, count_in, words_in, head_len, ends_agree, head_left}, specs.Text.word_count}
use Rattle.lert_frames.{specs.Bytes.AreBytes, specs.declared.fields.Head.Head, specs.declared.window.Window.Window, specs.Steps.{AreFields, IsFitting, fields_len, run_ends_left}}
use Rattle.lert_frames.{specs.Window.{at_hand, count_of, place_of, to_come}, proofs.NumberLaws.{little_number-append, numbers-append}, proofs.PartLaws.part_join, proofs.WindowLaws.read_less}

-- ---- a window

pub length_hand : (w : Window) → length (at_hand w) ≡ count_of w
length_hand w = omega (arith, length-take (w.upto - w.from) (drop w.from w.bytes.items), length-drop w.from w.bytes.items, w.in_order, w.within, w.bytes.ok.0)

pub end_of : (w : Window) → place_of w + count_of w ≡ w.at
end_of w = omega (arith, w.begins)

-- ---- the first fields

pub fields_behind : (head : Head) (hand rest : List ℕ) → AreFields head hand → AreFields head (hand ++ rest)
fields_behind head hand rest are = record {
  long = omega (arith, are.long, length-append hand rest);
  occupied = are.occupied ∙ sym (little_number-append 8 hand rest (omega (arith, are.long)));
  count = are.count ∙ sym (
      let later : drop 8 (hand ++ rest) ≡ drop 8 hand ++ rest = drop-append-le 8 hand rest (omega (arith, are.long)) in
      ap (little_number 4) later ∙ little_number-append 4 (drop 8 hand) rest (omega (arith, are.long, length-drop 8 hand)));
}

-- those at hand are those of all that is to come
pub fields_told : (head : Head) (hand xs : List ℕ) (w : Window) (file : List ℕ) → hand ≡ at_hand w → to_come w file ≡ xs → AreFields head hand → AreFields head xs
fields_told head hand xs w file is come are =
    subst (AreFields head) come (fields_behind head (at_hand w) (drop w.at file) (subst (AreFields head) is are))

-- too few bytes for them
pub head_short : (most at end : ℕ) (bytes : List ℕ) → length bytes < 12 → head_left most at end bytes ≡ Some end
head_short most at end bytes short = cond-true (nat_lt (length bytes) 12) (Some end) _ (lt-ltb (length bytes) 12 short)

-- a number of slots that doesn't fit
pub head_unfit : (most at end : ℕ) (head : Head) (bytes : List ℕ) → AreFields head bytes →
    (nat_lt most head.count || (head.count == 0) && not (head.occupied == 0)) ≡ true → head_left most at end bytes ≡ Some (at + 8)
head_unfit most at end head bytes are unfit =
    cond-false (nat_lt (length bytes) 12) (Some end) _ (le-ltb (length bytes) 12 are.long)
    ∙ cond-true (nat_lt most (count_in bytes) || (count_in bytes == 0) && not (occupied_in bytes == 0)) (Some (at + 8)) _
    (ap₂ (λ n o. nat_lt most n || (n == 0) && not (o == 0)) (sym are.count) (sym are.occupied) ∙ unfit)

-- else what is left is left by the run ends
pub head_fits : (most at end : ℕ) (head : Head) (bytes : List ℕ) → AreFields head bytes → IsFitting most head → head_left most at end bytes ≡ run_ends_left at end bytes
head_fits most at end head bytes are fits =
    cond-false (nat_lt (length bytes) 12) (Some end) _ (le-ltb (length bytes) 12 are.long)
    ∙ cond-false (nat_lt most (count_in bytes) || (count_in bytes == 0) && not (occupied_in bytes == 0)) (Some (at + 8)) _
    (ap₂ (λ n o. nat_lt most n || (n == 0) && not (o == 0)) (sym are.count) (sym are.occupied)
    ∙ (ap (λ b. b || (head.count == 0) && not (head.occupied == 0)) (le-ltb most head.count fits.within) ∙ no_runs))
  where
    no_runs : (head.count == 0) && not (head.occupied == 0) ≡ false
    no_runs = elim (cases_eq head.count 0) [
      | inl none ↦ ap₂ (λ a b. a && not b) (eq-eqb head.count 0 none) (eq-eqb head.occupied 0 (fits.some none))
      | inr some ↦ ap (λ a. a && not (head.occupied == 0)) (ne_eqb head.count 0 some)
    ]

-- ---- the run ends

module _ (head : Head) (bytes : List ℕ) (are : AreFields head bytes) where
  pub fields_are : head_len bytes ≡ fields_len head
  fields_are = ap (λ n. 12 + 8 * word_count n) (sym are.count)

  pub words_are : words_in bytes ≡ numbers_in (word_count head.count) (drop 12 bytes)
  words_are = ap (λ n. numbers_in (word_count n) (drop 12 bytes)) (sym are.count)

  pub run_ends_short : (at end : ℕ) → length bytes < fields_len head → run_ends_left at end bytes ≡ Some end
  run_ends_short at end short = cond-true (nat_lt (length bytes) (head_len bytes)) (Some end) _ (lt-ltb (length bytes) (head_len bytes) (omega (arith, short, fields_are)))

  run_ends_long : (at end : ℕ) → fields_len head ≤ length bytes →
      run_ends_left at end bytes ≡ cond (ends_agree (occupied_in bytes) (count_in bytes) (words_in bytes)) None (Some (at + head_len bytes - 8))
  run_ends_long at end long = cond-false (nat_lt (length bytes) (head_len bytes)) (Some end) _ (le-ltb (length bytes) (head_len bytes) (omega (arith, long, fields_are)))

  agree_in : (agrees : Bool) → agrees ≡ ends_agree head.occupied head.count (numbers_in (word_count head.count) (drop 12 bytes)) →
      ends_agree (occupied_in bytes) (count_in bytes) (words_in bytes) ≡ agrees
  agree_in agrees is =
      ap₂ (λ o n. ends_agree o n (words_in bytes)) (sym are.occupied) (sym are.count) ∙ (ap (ends_agree head.occupied head.count) words_are ∙ sym is)

  pub run_ends_agree : (at end : ℕ) → fields_len head ≤ length bytes →
      true ≡ ends_agree head.occupied head.count (numbers_in (word_count head.count) (drop 12 bytes)) → run_ends_left at end bytes ≡ None
  run_ends_agree at end long is =
      run_ends_long at end long ∙ cond-true (ends_agree (occupied_in bytes) (count_in bytes) (words_in bytes)) None _ (agree_in true is)

  pub run_ends_differ : (at end : ℕ) → fields_len head ≤ length bytes →
      false ≡ ends_agree head.occupied head.count (numbers_in (word_count head.count) (drop 12 bytes)) → run_ends_left at end bytes ≡ Some (at + fields_len head - 8)
  run_ends_differ at end long is =
      run_ends_long at end long
      ∙ (cond-false (ends_agree (occupied_in bytes) (count_in bytes) (words_in bytes)) None _ (agree_in false is) ∙ ap (λ n. Some (at + n - 8)) fields_are)

-- the words that stand in bytes, of which the front is at hand
pub words_near : (words len : ℕ) (hand rest : List ℕ) → len ≡ 12 + 8 * words → len ≤ length hand →
    numbers_in words (take (len - 12) (drop 12 hand)) ≡ numbers_in words (drop 12 (hand ++ rest))
words_near words len hand rest is long =
    let slots = drop 12 hand in
    let front = take (len - 12) slots in
    let all : drop 12 (hand ++ rest) ≡ front ++ (drop (len - 12) slots ++ rest) =
    drop-append-le 12 hand rest (omega (arith, is, long))
    ∙ (ap (λ xs. xs ++ rest) (sym (take-append-drop (len - 12) slots)) ∙ append_assoc front (drop (len - 12) slots) rest) in
    sym (ap (numbers_in words) all
    ∙ numbers-append words front (drop (len - 12) slots ++ rest) (omega (arith, is, long, length-take (len - 12) slots, length-drop 12 hand)))

-- ---- far from there

-- what comes behind all that is at hand is what the file has there
pub come_far : (w : Window) (len : ℕ) (file : List ℕ) → count_of w ≤ len → drop (place_of w + len) file ≡ drop len (to_come w file)
come_far w len file far = sym (
    ap (λ n. drop n (to_come w file)) (let e : len ≡ length (at_hand w) + (len - count_of w) = omega (arith, length_hand w, far) in e)
    ∙ (drop-append-add (at_hand w) (drop w.at file) (len - count_of w)
    ∙ (drop-drop (len - count_of w) w.at file ∙ ap (λ n. drop n file) (let e : w.at + (len - count_of w) ≡ place_of w + len = omega (arith, end_of w, far) in e))))

-- bytes up to one place, and from there on
pub bytes_join : (file : List ℕ) (from at end upto : ℕ) → from ≤ at → at ≤ end → upto ≤ end → AreBytes (part file from at) → AreBytes (part file at end) → AreBytes (part file from upto)
bytes_join file from at end upto low high near first second =
    read_less file from upto end near (elim (cases_lt (length file) at) [
      | inl past ↦ All-same (λ byte. byte < 256) (part file from end) (part file from at)
          (ap (drop from) (take_all end file (omega (arith, past, high)) ∙ sym (take_all at file (omega (arith, past))))) first
      | inr within ↦ All-same (λ byte. byte < 256) (part file from end) (part file from at ++ part file at end) (sym (part_join file from at end low high within))
          (All-append (λ byte. byte < 256) (part file from at) (part file at end) first second)
    ])
