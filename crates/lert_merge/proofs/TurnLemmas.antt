-- What a turn leaves, and turns behind one another.
use Rattle.std.proofs.Common.{◌≡◌, Bool, ℕ, ◌+◌, ◌<◌, ◌≤◌, true, false, Option, Some, None, Ok, MatchOption, List, [], ◌∷◌, ◌++◌, length, get_or}
use Rattle.std.proofs.Common.{arith, sym, ap, ◌∙◌, refl, subst, inl, inr, length-append}
use Rattle.std.proofs.lemmas.Bool.{cases_eq}
use Rattle.lert_spec.specs.declared.piece.Piece.{Piece}
use Rattle.lert_merge.specs.order.Fronts.{pieces_of}
use Rattle.lert_merge.specs.order.Ordering.{AreSame, Ordering, part_in}
use Rattle.lert_merge.specs.declared.order.streams.Streams.{Ghosts as StreamsOf}
use Rattle.lert_merge.proofs.order.FrontLemmas.{pieces_some, pieces_none}
use Rattle.lert_merge.proofs.order.GiveLemmas.{part_here, part_else}
use Rattle.lert_merge.specs.declared.merge.Turn.{Turn}
use Rattle.lert_merge.specs.declared.merge.Turn.TheVariants.{Taken, Given}
use Rattle.lert_merge.specs.declared.sums.Giver.{Giver}
use Rattle.lert_merge.specs.Givers.{Taking, share_in, AreGivers, IsSum}
use Rattle.lert_merge.specs.Merging.{Merging, IsMerging, IsPart, Moves, ComesBehind, HasTurned, TellsSums}
use Rattle.lert_merge.proofs.GiverLemmas.{givers_none, givers_push, givers_less, share_none, share_first, share_later}
use Rattle.lert_merge.proofs.StepLemmas.{HasStepped}
use Rattle.lert_merge.proofs.TakeLemmas.{IsOwn, taken_after, within, not_yet, keeps_taken, told_taken, stands_taken, part_new}
use Rattle.lert_merge.proofs.GiveLemmas.{IsGivenFor, gives_sum, told_sum, gives_end}

-- a merge begins
pub begun_stands : {S C : Type 0} (members : StreamsOf S C) (order : Ordering S) (sums : Taking) → members.count order.streams ≤ 65535 →
    members.count order.streams ≤ sums.room → order.ahead.room ≡ sums.room → sums.taken ≡ [] → sums.last ≡ None →
    IsMerging members (record { order = order; sums = sums; is_over = false })
begun_stands members order sums few room same empty last = record {
  few = few;
  room = room;
  same_room = same;
  givers = subst (AreGivers (members.count order.streams)) (sym empty) (givers_none (members.count order.streams));
  parts = λ k under some. let none : share_in sums.taken k ≡ 0 = share_none sums.taken k empty in absurd (omega arith);
  last = λ some. let none : length sums.taken ≡ 0 = ap length empty in absurd (omega arith);
  above = λ some. let none : length sums.taken ≡ 0 = ap length empty in absurd (omega arith);
  first = λ none going. last;
  over = λ over. absurd (cc (over));
}

-- a turn of what a step of the order says, where it did not refuse
turned : {S C : Type 0} (members : StreamsOf S C) (faults mark : C → ℕ) (a b : C) (m seen after : Merging S) (given : Option (ℕ × Piece)) (turn : Turn) → m ≡ seen →
    HasStepped members faults mark a m.order b after.order given → Moves members m after (Ok turn) →
    ((lists : List (List Piece)) → TellsSums members a m lists → ComesBehind members b after lists (Ok turn)) → HasTurned members faults mark a seen b after (Ok turn)
turned {S} members faults mark a b m seen after given turn is stepped moved told =
    subst (λ (m : Merging S). HasTurned members faults mark a m b after (Ok turn)) is (record {
      same = stepped.same;
      set = stepped.set;
      untold = stepped.untold;
      known = stepped.known;
      moved = moved;
      told = told;
      failed = λ no. absurd (cc (no));
      malformed = λ at no. absurd (cc (no));
      rises = stepped.rises;
      marked = stepped.marked;
      kept = stepped.kept;
    })

lesser : (low high : ℕ) → low ≤ high → (high ≡ low → ⊥) → low < high
lesser low high least other = elim (cases_eq high low) [
  | inl same ↦ absurd (other same)
  | inr ne ↦ omega arith
]

-- what was no piece is the end
pub none_is : {X : Type 0} (o : Option X) → ((x : X) → o ≡ Some x → ⊥) → o ≡ None
none_is None never = refl
none_is (Some x) never = absurd (never x refl)

-- one piece in hand
hand_one : (i k : ℕ) (p : Piece) → 1 ≤ p.count → pieces_of p.tail (share_in (record { stream = i; count = p.count } ∷ []) k) ≡ part_in (Some (i, p)) k
hand_one i k p some = let giver : Giver = record { stream = i; count = p.count } in elim (cases_eq k i) [
  | inl same ↦ subst (λ (n : ℕ). pieces_of p.tail (share_in (giver ∷ []) n) ≡ part_in (Some (i, p)) n) (sym same)
      (ap (λ share. pieces_of p.tail share) (share_first giver [] i refl) ∙ pieces_some p.tail p.count some ∙ sym (part_here i p))
  | inr ne ↦ pieces_none p.tail (share_in (giver ∷ []) k) (share_later giver [] k (λ same. ne (sym same))) ∙ sym (part_else i k p ne)
]

one_share : (i k : ℕ) (p : Piece) → 1 ≤ share_in (record { stream = i; count = p.count } ∷ []) k → k ≡ i
one_share i k p some = let giver : Giver = record { stream = i; count = p.count } in elim (cases_eq k i) [
  | inl same ↦ same
  | inr ne ↦ let none : share_in (giver ∷ []) k ≡ 0 = share_later giver [] k (λ same. ne (sym same)) in absurd (omega arith)
]

-- a merge after its order gave this piece, for which what was in hand was given
abbrev given_after : {S : Type 0} → Merging S → Ordering S → ℕ → Piece → Merging S
given_after m y i p = record {
  order = y;
  sums = record { given = m.sums.taken; taken = record { stream = i; count = p.count } ∷ []; tail = p.tail; last = Some m.sums.tail; room = m.sums.room };
  is_over = m.is_over;
}

given_sums : (old mid : Taking) (i : ℕ) (p q : Piece) (sums : Taking) → IsSum old mid q →
    sums ≡ record { given = mid.given; taken = mid.taken ++ record { stream = i; count = p.count } ∷ []; tail = p.tail; last = mid.last; room = mid.room } →
    sums ≡ record { given = old.taken; taken = record { stream = i; count = p.count } ∷ []; tail = p.tail; last = Some old.tail; room = old.room }
given_sums old mid i p q sums gave at = at ∙ (λ j. record {
  given = gave.given j;
  taken = gave.taken j ++ record { stream = i; count = p.count } ∷ [];
  tail = p.tail;
  last = gave.last j;
  room = gave.room j;
})

module _ {S C : Type 0} (members : StreamsOf S C) (faults mark : C → ℕ) (a b : C) (m seen : Merging S) (y : Ordering S) (same : m ≡ seen) (is : IsMerging members m)
    (going : m.is_over ≡ false) where
  -- a piece of the tail in hand was taken
  pub turned_taken : (sums : Taking) (i : ℕ) (p : Piece) → HasStepped members faults mark a m.order b y (Some (i, p)) → IsOwn m p.tail →
      sums ≡ (taken_after m y i p).sums → HasTurned members faults mark a seen b (record { order = y; sums = sums; is_over = m.is_over }) (Ok Taken)
  turned_taken sums i p stepped own at = subst (λ (s : Taking). HasTurned members faults mark a seen b (record { order = y; sums = s; is_over = m.is_over }) (Ok Taken)) (sym at)
      (turned members faults mark a b m seen (taken_after m y i p) (Some (i, p)) Taken same stepped
      (keeps_taken members faults mark a b m y i p is stepped own) (told_taken members faults mark a b m y i p is stepped own))

  pub taken_stands : (sums : Taking) (i : ℕ) (p : Piece) → HasStepped members faults mark a m.order b y (Some (i, p)) → IsOwn m p.tail →
      sums ≡ (taken_after m y i p).sums → IsMerging members (record { order = y; sums = sums; is_over = m.is_over })
  taken_stands sums i p stepped own at = subst (λ (s : Taking). IsMerging members (record { order = y; sums = s; is_over = m.is_over })) (sym at)
      (stands_taken members faults mark a b m y i p is stepped own going)

  -- what was in hand is given for a piece of another tail
  pub turned_given : (mid sums : Taking) (i : ℕ) (p : Piece) (given : Option Piece) → HasStepped members faults mark a m.order b y (Some (i, p)) →
      1 ≤ length m.sums.taken → (p.tail ≡ m.sums.tail → ⊥) → MatchOption given ((m.sums.taken ≡ []) × (mid ≡ m.sums)) (IsSum m.sums mid) →
      sums ≡ record { given = mid.given; taken = mid.taken ++ record { stream = i; count = p.count } ∷ []; tail = p.tail; last = mid.last; room = mid.room } →
      HasTurned members faults mark a seen b (record { order = y; sums = sums; is_over = m.is_over }) (Ok (Given given))
  turned_given mid sums i p None stepped some other gave at = let none : length m.sums.taken ≡ 0 = ap length gave.0 in absurd (omega arith)
  turned_given mid sums i p (Some q) stepped some other gave at =
      let up : m.sums.tail < p.tail = lesser m.sums.tail p.tail (stepped.above m.sums.tail (is.last some)) other in
      let for_it : IsGivenFor m (given_after m y i p) y (Some (i, p)) q = record {
        order = refl;
        some = gave.some;
        tail = gave.tail;
        count = gave.count;
        counted = gave.counted;
        small = gave.small;
        givers = refl;
        last = refl;
        hand = λ k. hand_one i k p stepped.small.0;
        above = up;
      } in subst (λ (s : Taking). HasTurned members faults mark a seen b (record { order = y; sums = s; is_over = m.is_over }) (Ok (Given (Some q))))
      (sym (given_sums m.sums mid i p q sums gave at))
      (turned members faults mark a b m seen (given_after m y i p) (Some (i, p)) (Given (Some q)) same stepped
      (gives_sum members faults mark a b m (given_after m y i p) y (Some (i, p)) q is stepped for_it)
      (told_sum members faults mark a b m (given_after m y i p) y (Some (i, p)) q is stepped for_it))

  pub given_stands : (mid sums : Taking) (i : ℕ) (p : Piece) (given : Option Piece) → HasStepped members faults mark a m.order b y (Some (i, p)) →
      1 ≤ length m.sums.taken → (p.tail ≡ m.sums.tail → ⊥) → MatchOption given ((m.sums.taken ≡ []) × (mid ≡ m.sums)) (IsSum m.sums mid) →
      sums ≡ record { given = mid.given; taken = mid.taken ++ record { stream = i; count = p.count } ∷ []; tail = p.tail; last = mid.last; room = mid.room } →
      IsMerging members (record { order = y; sums = sums; is_over = m.is_over })
  given_stands mid sums i p None stepped some other gave at = let none : length m.sums.taken ≡ 0 = ap length gave.0 in absurd (omega arith)
  given_stands mid sums i p (Some q) stepped some other gave at =
      let up : m.sums.tail < p.tail = lesser m.sums.tail p.tail (stepped.above m.sums.tail (is.last some)) other in
      let many : members.count y.streams ≡ members.count m.order.streams = stepped.same.streams in
      let giver : Giver = record { stream = i; count = p.count } in
      subst (λ (s : Taking). IsMerging members (record { order = y; sums = s; is_over = m.is_over })) (sym (given_sums m.sums mid i p q sums gave at)) (record {
        few = omega (arith, is.few);
        room = omega (arith, is.room);
        same_room = stepped.same.room ∙ is.same_room;
        givers = givers_push (members.count y.streams) [] giver (givers_none (members.count y.streams)) stepped.below.within refl stepped.small.0;
        parts = λ k under one. let here : k ≡ i = one_share i k p one in
            subst (λ (n : ℕ). IsPart members y p.tail n (share_in (giver ∷ []) n)) (sym here)
            (subst (IsPart members y p.tail i) (sym (share_first giver [] i refl)) (part_new members faults mark a b m y i p is stepped));
        last = λ one. stepped.last;
        above = λ one before was. let tail : m.sums.tail ≡ before = cc (was) in omega arith;
        first = λ empty. absurd (cc (empty));
        over = λ over. absurd (cc (over, going));
      })

  -- the order is over, and what was in hand is given, if anything was
  pub turned_over : (sums : Taking) (given : Option Piece) → HasStepped members faults mark a m.order b y None →
      MatchOption given ((m.sums.taken ≡ []) × (sums ≡ m.sums)) (IsSum m.sums sums) →
      HasTurned members faults mark a seen b (record { order = y; sums = sums; is_over = true }) (Ok (Given given))
  turned_over sums None stepped gave = turned members faults mark a b m seen (record { order = y; sums = sums; is_over = true }) None (Given None) same stepped
      (gives_end members faults mark a b m (record { order = y; sums = sums; is_over = true }) y stepped gave.0 refl gave.1)
      (λ lists tells. let told = stepped.told tells.rest tells.told in (
        λ k under. tells.each k under ∙ ap (λ xs. xs ++ get_or tells.rest k []) (pieces_none m.sums.tail (share_in m.sums.taken k) (share_none m.sums.taken k gave.0)) ∙
            told.0 k (omega (arith, tells.len)),
        record {
          rest = tells.rest;
          told = told.1;
          len = tells.len;
          each = λ k under. tells.each k under ∙ (λ j. pieces_of (sym gave.1 j).tail (share_in (sym gave.1 j).taken k) ++ get_or tells.rest k []);
        },
      ))
  turned_over sums (Some q) stepped gave =
      let for_it : IsGivenFor m (record { order = y; sums = sums; is_over = true }) y None q = record {
        order = refl;
        some = gave.some;
        tail = gave.tail;
        count = gave.count;
        counted = gave.counted;
        small = gave.small;
        givers = gave.given;
        last = gave.last;
        hand = λ k. pieces_none sums.tail (share_in sums.taken k) (share_none sums.taken k gave.taken);
        above = tt;
      } in turned members faults mark a b m seen (record { order = y; sums = sums; is_over = true }) None (Given (Some q)) same stepped
      (gives_sum members faults mark a b m (record { order = y; sums = sums; is_over = true }) y None q is stepped for_it)
      (told_sum members faults mark a b m (record { order = y; sums = sums; is_over = true }) y None q is stepped for_it)

  over_stands : (sums : Taking) → HasStepped members faults mark a m.order b y None → sums.taken ≡ [] → sums.room ≡ m.sums.room →
      IsMerging members (record { order = y; sums = sums; is_over = true })
  over_stands sums stepped empty room = let many : members.count y.streams ≡ members.count m.order.streams = stepped.same.streams in record {
    few = omega (arith, is.few);
    room = omega (arith, is.room);
    same_room = stepped.same.room ∙ is.same_room ∙ sym room;
    givers = subst (AreGivers (members.count y.streams)) (sym empty) (givers_none (members.count y.streams));
    parts = λ k under some. let none : share_in sums.taken k ≡ 0 = share_none sums.taken k empty in absurd (omega arith);
    last = λ some. let none : length sums.taken ≡ 0 = ap length empty in absurd (omega arith);
    above = λ some. let none : length sums.taken ≡ 0 = ap length empty in absurd (omega arith);
    first = λ none no. absurd (cc (no));
    over = λ over. record { order = stepped.over refl; none = empty };
  }

  pub ended_stands : (sums : Taking) (given : Option Piece) → HasStepped members faults mark a m.order b y None →
      MatchOption given ((m.sums.taken ≡ []) × (sums ≡ m.sums)) (IsSum m.sums sums) → IsMerging members (record { order = y; sums = sums; is_over = true })
  ended_stands sums None stepped gave = over_stands sums stepped (ap (λ (s : Taking). s.taken) gave.1 ∙ gave.0) (ap (λ (s : Taking). s.room) gave.1)
  ended_stands sums (Some q) stepped gave = over_stands sums stepped gave.taken gave.room

  -- how far a turn goes that took a piece
  pub taken_goes : (sums : Taking) (i : ℕ) (p : Piece) → HasStepped members faults mark a m.order b y (Some (i, p)) → IsOwn m p.tail →
      sums ≡ (taken_after m y i p).sums → (m.is_over ≡ false) × (length sums.taken ≡ length seen.sums.taken + 1) × (length sums.taken ≤ members.count seen.order.streams)
  taken_goes sums i p stepped own at =
      let long : length (m.sums.taken ++ record { stream = i; count = p.count } ∷ []) ≡ length m.sums.taken + 1 =
      length-append m.sums.taken (record { stream = i; count = p.count } ∷ []) in
      let is_long : length sums.taken ≡ length m.sums.taken + 1 = ap (λ (s : Taking). length s.taken) at ∙ long in
      let most : length m.sums.taken < members.count m.order.streams =
      givers_less (members.count m.order.streams) m.sums.taken i is.givers (within members faults mark a b m y i p is stepped)
      (not_yet members faults mark a b m y i p is stepped own) in
      subst (λ (n : Merging S). (m.is_over ≡ false) × (length sums.taken ≡ length n.sums.taken + 1) × (length sums.taken ≤ members.count n.order.streams)) same
      (going, is_long, omega arith)
