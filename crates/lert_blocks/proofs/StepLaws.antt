-- How a decoder goes through the groups of a word.
use Rattle.std.proofs.Common.{◌≡◌, ℕ, ◌+◌, ◌-◌, ◌*◌, ◌^◌, ◌<◌, ◌≤◌, Bool, true, false, cond, min, List, [], ◌∷◌, ◌++◌, length, get_or, take, drop, All}
use Rattle.std.proofs.Common.{Option, Some, None, Ok, Err}
use Rattle.std.proofs.Common.{refl, sym, ap, ap₂, ◌∙◌, subst, arith, length-append, append_assoc}
use Rattle.std.specs.Prelude.{option_map}
use Rattle.std.proofs.lemmas.List.{append-nil, take_at, drop_at, drop-drop, length-drop}
use Rattle.std.proofs.lemmas.List.Elements.{All-nil, All-push}
use Rattle.lert_counter.specs.declared.group.Group.{Group}
use Rattle.lert_slotbits.specs.Bits.{word_bits}
use Rattle.lert_slotbits.proofs.RowLemmas.{length_word_bits}
use Rattle.lert_spec.specs.declared.piece.Piece.{Piece}
use Rattle.lert_spec.specs.Table.{AscendsFrom}
use Rattle.lert_blocks.specs.declared.decoder.Slots.{Slots}
use Rattle.lert_blocks.specs.declared.decoder.Walk.{Walk}
use Rattle.lert_blocks.specs.declared.step.Step.{Step}
use Rattle.lert_blocks.specs.Walk.{Found, broken, group_at, after_group, walk_on, walk, places, floor_from}
use Rattle.lert_blocks.specs.Decoding.{AreSlots, IsStep, IsLeft, GoesOn, IsPieceOf, rest_found, with_front, floor_of}
use Rattle.lert_blocks.proofs.PieceLaws.{ascends_append}
use Rattle.lert_blocks.proofs.WalkLaws.{walk_enough}
use Rattle.lert_blocks.proofs.PlaceLaws.{places_of, places_none, floor_behind}

-- ---- one group of a walk

pub walk_step : (width least q : ℕ) (qs : List ℕ) (ends : List Bool) (slots : List ℕ) (g : Group) → 0 < length ends → group_at width least ends slots ≡ Ok g → 1 ≤ g.used →
    walk (length ends) width (q ∷ qs) least ends slots
    ≡ after_group width q g (cond (get_or ends (g.used - 1) false)
    (walk (length (drop g.used ends)) width qs 0 (drop g.used ends) (drop g.used slots))
    (walk (length (drop g.used ends)) width (q ∷ qs) (g.x + 1) (drop g.used ends) (drop g.used slots)))
walk_step width least q qs [] slots g some is used = absurd (omega arith)
walk_step width least q qs (end ∷ ends) slots g some is used =
    let rest = drop g.used (end ∷ ends) in
    let left : length rest ≤ length ends = omega (arith, length-drop g.used (end ∷ ends)) in
    ap (λ read. walk_on read (λ g. after_group width q g
    (cond (get_or (end ∷ ends) (g.used - 1) false)
    (walk (length ends) width qs 0 (drop g.used (end ∷ ends)) (drop g.used slots))
    (walk (length ends) width (q ∷ qs) (g.x + 1) (drop g.used (end ∷ ends)) (drop g.used slots))))) is
    ∙ ap (after_group width q g)
    (ap₂ (λ x y. cond (get_or (end ∷ ends) (g.used - 1) false) x y)
    (walk_enough (length ends) (length rest) width qs 0 rest (drop g.used slots) left (omega arith))
    (walk_enough (length ends) (length rest) width (q ∷ qs) (g.x + 1) rest (drop g.used slots) left (omega arith)))

walk_left : (width least q place : ℕ) (qs : List ℕ) (ends : List Bool) (slots : List ℕ) → 0 < length ends → group_at width least ends slots ≡ Err place →
    walk (length ends) width (q ∷ qs) least ends slots ≡ broken place
walk_left width least q place qs [] slots some is = absurd (omega arith)
walk_left width least q place qs (end ∷ ends) slots some is =
    ap (λ read. walk_on read (λ g. after_group width q g
    (cond (get_or (end ∷ ends) (g.used - 1) false)
    (walk (length ends) width qs 0 (drop g.used (end ∷ ends)) (drop g.used slots))
    (walk (length ends) width (q ∷ qs) (g.x + 1) (drop g.used (end ∷ ends)) (drop g.used slots))))) is

walk_out : (width least : ℕ) (ends : List Bool) (slots : List ℕ) → 0 < length ends → walk (length ends) width [] least ends slots ≡ broken 0
walk_out width least [] slots some = absurd (omega arith)
walk_out width least (end ∷ ends) slots some = refl

-- the walk behind it, by the quotients and the least remainder that are chosen there
chosen : (b : Bool) (n width q least most : ℕ) (qs all : List ℕ) (ends : List Bool) (slots : List ℕ) → least ≡ cond b 0 most → all ≡ cond b qs (q ∷ qs) →
    cond b (walk n width qs 0 ends slots) (walk n width (q ∷ qs) most ends slots) ≡ walk n width all least ends slots
chosen true n width q least most qs all ends slots low rest = ap₂ (λ (qs : List ℕ) x. walk n width qs x ends slots) (sym rest) (sym low)
chosen false n width q least most qs all ends slots low rest = ap₂ (λ (qs : List ℕ) x. walk n width qs x ends slots) (sym rest) (sym low)

-- a tail stands below all that may come behind it
floor_above : (b : Bool) (width end q x least : ℕ) (qs all : List ℕ) → least ≡ cond b 0 (x + 1) → all ≡ cond b qs (q ∷ qs) → x < 2 ^ width →
    (q + 1) * 2 ^ width ≤ floor_from width end qs 0 → q * 2 ^ width + x < floor_from width end all least
floor_above true width end q x least qs all low rest narrow behind = rw (low, rest) (omega arith)
floor_above false width end q x least qs all low rest narrow behind = rw (low, rest) (omega arith)

-- ---- pieces before what is found

moved_by : (n : ℕ) (left : Option ℕ) → n ≡ 0 → option_map (λ place. n + place) left ≡ left
moved_by n None none = refl
moved_by n (Some place) none = ap Some (let e : n + place ≡ place = omega arith in e)

moved_on : (n m k : ℕ) (left : Option ℕ) → n + m ≡ k → option_map (λ place. n + place) (option_map (λ place. m + place) left) ≡ option_map (λ place. k + place) left
moved_on n m k None sum = refl
moved_on n m k (Some place) sum = ap Some (let e : n + (m + place) ≡ k + place = omega arith in e)

with_none : (n : ℕ) (found : Found) → n ≡ 0 → found ≡ with_front [] n found
with_none n found none = λ i. record { pieces = found.pieces; left = sym (moved_by n found.left none) i }

with_more : (width q n k : ℕ) (g : Group) (put : List Piece) (piece : Piece) (found : Found) → piece.tail ≡ q * 2 ^ width + g.x → piece.count ≡ g.count → n + g.used ≡ k →
    with_front put n (after_group width q g found) ≡ with_front (put ++ piece ∷ []) k found
with_more width q n k g put piece found tail count sum =
    let same : record { tail = q * 2 ^ width + g.x; count = g.count } ≡ piece = λ i. record { tail = sym tail i; count = sym count i } in
    λ i. record {
      pieces = (ap (λ (p : Piece). put ++ p ∷ found.pieces) same ∙ sym (append_assoc put (piece ∷ []) found.pieces)) i;
      left = moved_on n g.used k found.left sum i;
    }

-- ---- the groups of a word so far

-- where a walk stands
abbrev pub walk_at : ℕ → ℕ → Walk
walk_at occupied least = record { occupied = occupied; least = least }

-- the least remainder behind a group
least_low : (ends_run : Bool) (x least limit : ℕ) → least ≡ cond ends_run 0 (x + 1) → x < limit → least ≤ limit
least_low true x least limit is narrow = omega (arith, is)
least_low false x least limit is narrow = omega (arith, is)

-- from a slot of the word on, a walk came to another one, and put these pieces behind those before
pub record Goes (width first from : ℕ) (slots : Slots) (begin now : Walk) (at : ℕ) (before pieces : List Piece) : Type 0 where
  pub put : List Piece
  pub is : pieces ≡ before ++ put
  pub found : (ends : List Bool) (more : List ℕ) → AreSlots slots ends more → rest_found width first begin (drop from ends) (drop from (slots.slots.now ++ more))
      ≡ with_front put (at - from) (rest_found width first now (drop at ends) (drop at (slots.slots.now ++ more)))
  pub rises : floor_of width first begin ≤ floor_of width first now
  pub low : begin.least ≤ 2 ^ width → now.least ≤ 2 ^ width
  pub ascend : AscendsFrom (floor_of width first begin) (floor_of width first now) put
  pub counts : All (λ (piece : Piece). piece.count ≤ 2 ^ 47) put
  pub few : length put ≤ min 64 (at - from)
  pub behind : from ≤ at
  pub within : at ≤ length slots.slots.now

pub Goes-none : (width first from : ℕ) (slots : Slots) (begin : Walk) (before : List Piece) → from ≤ length slots.slots.now →
    Goes width first from slots begin begin from before before
Goes-none width first from slots begin before within = record {
  put = [];
  is = sym (append-nil before);
  found = λ ends more are. with_none (from - from) _ (omega arith);
  rises = omega arith;
  low = λ below. below;
  ascend = tt;
  counts = All-nil (λ (piece : Piece). piece.count ≤ 2 ^ 47);
  few = omega arith;
  behind = omega arith;
  within = within;
}

module _ (width first from : ℕ) (slots : Slots) (begin : Walk) (at occupied least : ℕ) (before pieces : List Piece)
    (goes : Goes width first from slots begin (walk_at occupied least) at before pieces) (word : at < 64) (there : at < slots.some) where
  some_left : (ends : List Bool) (more : List ℕ) → AreSlots slots ends more → 0 < length (drop at ends)
  some_left ends more are = let some = are.some in let rest = length-drop at ends in omega arith

  -- the slot that breaks a rule
  left_by : (ends : List Bool) (more : List ℕ) (place : ℕ) → AreSlots slots ends more → at ≤ place →
      rest_found width first (walk_at occupied least) (drop at ends) (drop at (slots.slots.now ++ more)) ≡ broken (place - at) →
      (rest_found width first begin (drop from ends) (drop from (slots.slots.now ++ more))).left ≡ Some (place - from)
  left_by ends more place are behind is =
      let after = goes.behind in
      ap (λ (found : Found). found.left) (goes.found ends more are ∙ ap (with_front goes.put (at - from)) is)
      ∙ ap Some (let e : at - from + (place - at) ≡ place - from = omega arith in e)

  pub Goes-left : 0 < occupied → occupied < 2 ^ 64 → (place : ℕ) → IsLeft width least at slots place → (ends : List Bool) (more : List ℕ) → AreSlots slots ends more →
      (rest_found width first begin (drop from ends) (drop from (slots.slots.now ++ more))).left ≡ Some (place - from)
  Goes-left some fits place left ends more are =
      left_by ends more place are left.from
      (ap (λ (qs : List ℕ). walk (length (drop at ends)) width qs least (drop at ends) (drop at (slots.slots.now ++ more))) (places_of first occupied some fits)
      ∙ walk_left width least _ (place - at) _ (drop at ends) (drop at (slots.slots.now ++ more)) (some_left ends more are) (left.is ends more are))

  -- no quotient is left
  pub Goes-out : occupied ≡ 0 → (ends : List Bool) (more : List ℕ) → AreSlots slots ends more →
      (rest_found width first begin (drop from ends) (drop from (slots.slots.now ++ more))).left ≡ Some (at - from)
  Goes-out none ends more are =
      left_by ends more at are (omega arith)
      (ap (λ (qs : List ℕ). walk (length (drop at ends)) width qs least (drop at ends) (drop at (slots.slots.now ++ more))) (places_none first occupied none)
      ∙ walk_out width least (drop at ends) (drop at (slots.slots.now ++ more)) (some_left ends more are)
      ∙ ap broken (let e : 0 ≡ at - at = omega arith in e))

  module _ (step : Step) (piece : Piece) (next : Walk) (is_step : IsStep width least at slots step) (is_piece : IsPieceOf width first occupied step.group piece)
      (goes_on : GoesOn step occupied next) where
    -- the quotients of the walk behind the group
    next_quotients : places first (word_bits next.occupied) ≡ cond step.ends_run (drop 1 (places first (word_bits occupied))) (is_piece.quotient ∷ drop 1 (places first (word_bits occupied)))
    next_quotients = goes_on.quotients first ∙ ap (cond step.ends_run (drop 1 (places first (word_bits occupied)))) is_piece.head

    -- what is found from the group on
    found_on : (ends : List Bool) (more : List ℕ) → AreSlots slots ends more →
        rest_found width first (walk_at occupied least) (drop at ends) (drop at (slots.slots.now ++ more))
        ≡ after_group width is_piece.quotient step.group
        (rest_found width first next (drop (at + step.group.used) ends) (drop (at + step.group.used) (slots.slots.now ++ more)))
    found_on ends more are =
        let here = drop at ends in
        let text = drop at (slots.slots.now ++ more) in
        let q = is_piece.quotient in
        let qs = drop 1 (places first (word_bits occupied)) in
        let used = step.group.used in
        let rest = length (drop used here) in
        ap (λ (all : List ℕ). walk (length here) width all least here text) is_piece.head
        ∙ walk_step width least q qs here text step.group (some_left ends more are) (is_step.group ends more are) is_step.some
        ∙ ap (after_group width q step.group)
        (ap (λ b. cond b (walk rest width qs 0 (drop used here) (drop used text)) (walk rest width (q ∷ qs) (step.group.x + 1) (drop used here) (drop used text))) (is_step.last ends more are)
        ∙ chosen step.ends_run rest width q next.least (step.group.x + 1) qs (places first (word_bits next.occupied)) (drop used here) (drop used text) goes_on.least next_quotients
        ∙ ap₂ (λ (es : List Bool) (ss : List ℕ). rest_found width first next es ss) (drop-drop used at ends) (drop-drop used at (slots.slots.now ++ more)))

    -- the piece stands between what came before and what is to come
    floors : AscendsFrom (floor_of width first (walk_at occupied least)) (floor_of width first next) (piece ∷ [])
    floors =
        let q = is_piece.quotient in
        let qs = drop 1 (places first (word_bits occupied)) in
        let low : floor_of width first (walk_at occupied least) ≡ q * 2 ^ width + least = ap (λ (all : List ℕ). floor_from width (first + 64) all least) is_piece.head in
        let others = subst (λ n. (q + 1) * 2 ^ width ≤ floor_from width (first + n) qs 0) (length_word_bits occupied) (floor_behind width first (word_bits occupied) q qs is_piece.head) in
        let high : q * 2 ^ width + step.group.x < floor_of width first next =
        floor_above step.ends_run width (first + 64) q step.group.x next.least qs (places first (word_bits next.occupied)) goes_on.least next_quotients is_step.narrow others in
        let tail = is_piece.tail in
        let least_is = is_step.low in
        (omega arith, omega arith, omega (arith, is_piece.count, is_step.counts.0), tt)

    pub Goes-more : Goes width first from slots begin next (at + step.group.used) before (pieces ++ piece ∷ [])
    Goes-more =
        let few = goes.few in
        let some = is_step.some in
        let behind = goes.behind in
        record {
          put = goes.put ++ piece ∷ [];
          is = ap (λ (front : List Piece). front ++ piece ∷ []) goes.is ∙ append_assoc before goes.put (piece ∷ []);
          found = λ ends more are. goes.found ends more are ∙ ap (with_front goes.put (at - from)) (found_on ends more are)
              ∙ with_more width is_piece.quotient (at - from) (at + step.group.used - from) step.group goes.put piece _ is_piece.tail is_piece.count (omega arith);
          rises = let low = goes.rises in omega (arith, floors.0, floors.1);
          low = λ below. least_low step.ends_run step.group.x next.least (2 ^ width) goes_on.least is_step.narrow;
          ascend = ascends_append (floor_of width first begin) (floor_of width first (walk_at occupied least)) (floor_of width first next) goes.put (piece ∷ []) goes.rises
              (omega (arith, floors.0, floors.1)) goes.ascend floors;
          counts = All-push (λ (p : Piece). p.count ≤ 2 ^ 47) goes.put piece goes.counts (omega (arith, is_piece.count, is_step.counts.1));
          few = omega (arith, length-append goes.put (piece ∷ []));
          behind = omega arith;
          within = is_step.within;
        }

-- ---- what is put behind what was there

module _ (width first from : ℕ) (slots : Slots) (begin now : Walk) (at : ℕ) (before pieces : List Piece) (goes : Goes width first from slots begin now at before pieces) where
  pub put_kept : take (length before) pieces ≡ before
  put_kept = ap (take (length before)) goes.is ∙ take_at before goes.put (length before) refl

  put_behind : drop (length before) pieces ≡ goes.put
  put_behind = ap (drop (length before)) goes.is ∙ drop_at before goes.put (length before) refl

  pub put_ascend : AscendsFrom (floor_of width first begin) (floor_of width first now) (drop (length before) pieces)
  put_ascend = subst (AscendsFrom (floor_of width first begin) (floor_of width first now)) (sym put_behind) goes.ascend

  pub put_counts : All (λ (piece : Piece). piece.count ≤ 2 ^ 47) (drop (length before) pieces)
  put_counts = subst (All (λ (piece : Piece). piece.count ≤ 2 ^ 47)) (sym put_behind) goes.counts

  pub put_few : length pieces ≤ length before + 64
  put_few = omega (arith, ap (length {A = Piece}) goes.is, length-append before goes.put, goes.few)
