-- What is to come of a reader stays through a step of its decoder, and so does what it keeps.
use Rattle.std.proofs.Common.{◌≡◌, ℕ, zero, suc, ◌≤◌, ◌^◌, List, [], ◌++◌, All, length, take, drop, Option, Some, None, refl, sym, ap, ap₂, ◌∙◌, subst, arith, append_assoc}
use Rattle.std.proofs.lemmas.List.{drop-append-le}
use Rattle.lert_base.{specs.declared.pieces.PieceFault.PieceFault, specs.declared.pieces.PieceFault.TheVariants.{Failed, Malformed}}
use Rattle.lert_blocks.specs.Walk.{Found, behind, nothing}
use Rattle.lert_spec.{specs.declared.numbers.Numbers.Numbers, specs.declared.piece.Piece.Piece, specs.Table.{AreGiven, AscendsFrom}, proofs.GivenLaws.given_wide}
use Rattle.lert_frames.{specs.Decoded.{decoder_floor, decoder_limit, IsBetween}, specs.Frame.if_summed, specs.Reading.{IsReading, IsReached, SumsUp, if_over, verdict, sum_less, pieces_kept}}
use Rattle.lert_frames.{specs.ToCome.known_or, specs.declared.decoder.Decoder.Decoder, specs.declared.reader.Sum.Sum, specs.declared.reader.Sum.TheVariants.{Left, Over}}
use Rattle.lert_frames.{proofs.JudgedLaws.{if_fits, if_short}, proofs.StandsLaws.stands_on, proofs.ReadingLaws.{verdict_stays, all_kept, length_kept, kept_given, kept_sums_up}}

-- ---- a step that stops

-- a place that breaks a rule is the frame's
pub broken_verdict : (version : ℕ) (sum : Sum) (place at : ℕ) (found : Found) → found.left ≡ Some at → verdict version sum place found ≡ Some at
broken_verdict version (Left most due) place at found is = ap (if_summed version most due place found.pieces) is
broken_verdict version Over place at found is = ap (if_over place) is

pub left_stopped : (version : ℕ) (sum : Sum) (place : ℕ) (old new : Found) (before known : Option ℕ) (fault : PieceFault) → before ≡ None → new ≡ old →
    ((at : ℕ) → fault ≡ Malformed at → (old.left ≡ Some at) × (known ≡ Some at)) → (fault ≡ Failed → known ≡ None) →
    known_or known (verdict version sum place new) ≡ known_or before (verdict version sum place old)
left_stopped version sum place old new before known Failed none same broke failed = ap₂ known_or (failed refl ∙ sym none) (ap (verdict version sum place) same)
left_stopped version sum place old new before known (Malformed at) none same broke failed =
    let is = broke at refl in
    ap (λ k. known_or k (verdict version sum place new)) is.1
    ∙ (sym (broken_verdict version sum place at old is.0) ∙ ap (λ k. known_or k (verdict version sum place old)) (sym none))

pub left_broken : (version : ℕ) (sum : Sum) (place at : ℕ) (found : Found) (before : Option ℕ) → before ≡ None → found.left ≡ Some at → known_or before (verdict version sum place found) ≡ Some at
left_broken version sum place at found before none is = ap (λ k. known_or k (verdict version sum place found)) none ∙ broken_verdict version sum place at found is

-- the reader keeps what it kept
pub reading_stopped : (s : Numbers) (version level place wide : ℕ) (sum : Sum) (old new : Decoder) (before items : List Piece) (room more given : ℕ) (gave : List Piece) →
    IsReading s version level place wide sum old before room given gave → items ≡ before → decoder_floor old ≤ decoder_floor new → decoder_limit new ≡ decoder_limit old →
    decoder_floor new ≤ decoder_limit new → more ≡ room → ((from end : ℕ) → IsBetween from end old → IsBetween from end new) →
    IsReading s version level place wide sum new items more given gave
reading_stopped s version level place wide sum old new before items room more given gave is same up limit bounded room_is between = record {
  valid = is.valid;
  known = is.known;
  first = is.first;
  last = is.last;
  decoded = subst (λ xs. AreGiven (decoder_floor new) (gave ++ drop given xs)) (sym same) (given_wide (decoder_floor old) (decoder_floor new) (gave ++ drop given before) up is.decoded);
  limit = limit ∙ is.limit;
  below = omega (arith, bounded, limit, is.limit);
  sums = subst (λ xs. SumsUp version wide (gave ++ drop given xs) sum) (sym same) is.sums;
  within = omega (arith, ap length same, is.within);
  room = room_is ∙ is.room;
  stands = stands_on s version level place old new between is.stands;
}

-- ---- a step that gives pieces

-- the new pieces are those behind the first ones, which stay
pub less_behind : (version : ℕ) (sum less : Sum) (from len : ℕ) (items : List Piece) → from ≡ len → less ≡ sum_less version sum (drop from items) → less ≡ sum_less version sum (drop len items)
less_behind version sum less from len items from_is less_is = less_is ∙ ap (λ n. sum_less version sum (drop n items)) from_is

pub kept_behind : (less : Sum) (from : ℕ) (before items kept : List Piece) → from ≡ length before → take (length before) items ≡ before →
    kept ≡ pieces_kept less (take from items) (drop from items) → kept ≡ pieces_kept less before (drop (length before) items)
kept_behind less from before items kept from_is stay is =
    is ∙ (ap (λ n. pieces_kept less (take n items) (drop n items)) from_is ∙ ap (λ xs. pieces_kept less xs (drop (length before) items)) stay)

pub left_on : (version : ℕ) (sum less : Sum) (place : ℕ) (put : List Piece) (old new : Found) → less ≡ sum_less version sum put → old ≡ behind (record { pieces = put; left = None }) new →
    verdict version less place new ≡ verdict version sum place old
left_on version sum less place put old new less_is old_is =
    ap (λ s. verdict version s place new) less_is ∙ (verdict_stays version sum place put new ∙ ap (verdict version sum place) (sym old_is))

pub pieces_on : (version : ℕ) (less : Sum) (place given : ℕ) (items before put : List Piece) (old new : Found) → items ≡ pieces_kept less before put → given ≤ length before →
    verdict version less place new ≡ None → old ≡ behind (record { pieces = put; left = None }) new → drop given items ++ new.pieces ≡ drop given before ++ old.pieces
pieces_on version less place given items before put old new items_are within whole old_is =
    ap (λ xs. drop given xs ++ new.pieces) (items_are ∙ all_kept version less place before put new whole)
    ∙ (ap (λ xs. xs ++ new.pieces) (drop-append-le given before put within)
    ∙ (append_assoc (drop given before) put new.pieces ∙ ap (λ (found : Found). drop given before ++ found.pieces) (sym old_is)))

pub reading_on : (s : Numbers) (version level place wide : ℕ) (sum less : Sum) (old new : Decoder) (before put items : List Piece) (room more given : ℕ) (gave : List Piece) →
    IsReading s version level place wide sum old before room given gave → less ≡ sum_less version sum put → items ≡ pieces_kept less before put →
    AscendsFrom (decoder_floor old) (decoder_floor new) put → All (λ piece. piece.count ≤ 2 ^ 47) put →
    decoder_floor old ≤ decoder_floor new → decoder_limit new ≡ decoder_limit old → decoder_floor new ≤ decoder_limit new → more ≡ room →
    ((from end : ℕ) → IsBetween from end old → IsBetween from end new) → IsReading s version level place wide less new items more given gave
reading_on s version level place wide sum less old new before put items room more given gave is less_is items_are ascend counts up limit bounded room_is between = record {
  valid = is.valid;
  known = is.known;
  first = is.first;
  last = is.last;
  decoded = subst (λ xs. AreGiven (decoder_floor new) (gave ++ drop given xs)) (sym items_are)
      (kept_given (decoder_floor old) (decoder_floor new) given less gave before put is.within up is.decoded ascend counts);
  limit = limit ∙ is.limit;
  below = omega (arith, bounded, limit, is.limit);
  sums = subst (λ xs. SumsUp version wide (gave ++ drop given xs) less) (sym items_are)
      (subst (λ (sum : Sum). SumsUp version wide (gave ++ drop given (pieces_kept sum before put)) sum) (sym less_is) (kept_sums_up version wide given sum gave before put is.within is.sums));
  within = omega (arith, ap length items_are, length_kept less before put, is.within);
  room = room_is ∙ is.room;
  stands = stands_on s version level place old new between is.stands;
}

-- ---- the frame's end

-- where the counts don't reach what is due, the frame leaves its text at its first byte
unsummed : (version : ℕ) (sum : Sum) (place : ℕ) → ¬ IsReached sum → verdict version sum place nothing ≡ Some place
unsummed version (Left most zero) place other = absurd (other refl)
unsummed version (Left most (suc n)) place other = if_short version most (suc n) place [] (omega arith)
unsummed version Over place other = refl

pub left_unsummed : (version : ℕ) (sum : Sum) (place : ℕ) (found : Found) (fault : Option ℕ) → fault ≡ None → ¬ IsReached sum → found ≡ nothing →
    known_or fault (verdict version sum place found) ≡ Some place
left_unsummed version sum place found fault none other end =
    ap₂ (λ fault (found : Found). known_or fault (verdict version sum place found)) none end ∙ unsummed version sum place other

-- and where they do, it leaves it nowhere
pub reached : (version : ℕ) (sum : Sum) (place : ℕ) → IsReached sum → verdict version sum place nothing ≡ None
reached version (Left most due) place none = if_fits version most due place [] (omega arith) (omega (arith, none))
reached version Over place none = absurd none
