-- A merge that goes on: what each stream gave so far, what is left of it, and the totals.
use Rattle.std.proofs.Common.{ℕ, zero, suc, ◌≡◌, ◌≢◌, ◌+◌, ◌<◌, ◌≤◌, cond, Option, Some, None, List, [], ◌∷◌, ◌++◌, length, get_or, set, replicate, refl, ap, sym, ◌∙◌, subst, arith, inl, inr}
use Rattle.std.{proofs.Common.{append_assoc, append-nil}, proofs.lemmas.Bool.{cases_eq, eq-eqb, ne_eqb}}
use Rattle.std.{proofs.lemmas.List.{get_or-set_same, get_or-set_other, get_or-replicate, length-set, length-replicate, ext_get_or}, proofs.lemmas.List.Elements.{All-nil, All-cons, All-append}}
use Rattle.lert_levels.{specs.landing.Summed.{sums_of, AreTables}, specs.landing.Whole.{AreUpTo, Takes}, specs.declared.landing.sum.Sum.Sum, proofs.landing.SumLaws.takes_none}
use Rattle.lert_levels.{specs.flush.Merged.{is_of, picked, with_piece, IsUnread, AreToCome, AreTaken}, specs.flush.Staying.ComesTheSame, proofs.flush.WholeLaws.all_to_come}
use Rattle.lert_levels.proofs.flush.SumsLaws.{front_table, up_to-sums_of, sums_more, part_more}
use Rattle.lert_merge.specs.order.Fronts.{front_at, pieces_of}
use Rattle.lert_merge.specs.order.Ordering.{Ordering, HasTaken, Tells, AreOver, IsNext, IsNotBelow, IsBelow, AreEnded, AreKnown, AreWhole, AreSame, Breaks, part_in}
use Rattle.lert_merge.{specs.declared.order.streams.Streams.{Ghosts as StreamsOf}, specs.tree.Race.number_at}
use Rattle.lert_spec.{specs.declared.piece.Piece.Piece, specs.Table.{costs, plus, AreGiven, IsTable}, proofs.GivenLaws.given_wide}

-- the lists of pieces that the streams gave so far, and what the totals have of them
pub record IsGathering {S C T : Type 0} (members : StreamsOf S C) (took : T → List Piece → Type 0) (first : Ordering S) (start : C) (lists : List (List Piece))
    (now : Ordering S) (ctx : C) (totals : T) (sums : Sum) : Type 0 where
  pub len : length lists ≡ members.count first.streams
  pub taken : (k : ℕ) → k < members.count first.streams → HasTaken members now k (get_or lists k [])
  pub given : (k : ℕ) → k < members.count first.streams → AreGiven (members.limit first.streams k) (get_or lists k [])
  pub up : (tail : ℕ) → IsNotBelow now.last tail → (k : ℕ) → k < length lists → AreUpTo tail (get_or lists k [])
  pub totals_are : Takes took totals sums (sums_of lists)
  pub same : AreSame members start first ctx now
  pub kept : members.same first.streams now.streams
  pub known : AreKnown members start first ctx now
  pub untold : (k : ℕ) → k < members.count first.streams → members.to_come first.streams k start ≡ None → members.to_come now.streams k ctx ≡ None
  pub whole : AreWhole members ctx now
  pub told : (given : List (List Piece)) → AreToCome members first.streams start given →
      (left : List (List Piece)) × Tells members ctx now left × ((k : ℕ) → k < members.count first.streams → get_or given k [] ≡ get_or lists k [] ++ get_or left k [])

-- what an order says as it gives a piece
pub record HasGiven {S C : Type 0} (members : StreamsOf S C) (now : Ordering S) (ctx : C) (new : Ordering S) (after : C) (next : ℕ × Piece) : Type 0 where
  pub taken : (k : ℕ) (pieces : List Piece) → k < members.count now.streams → HasTaken members now k pieces → HasTaken members new k (pieces ++ part_in (Some next) k)
  pub ascending : (pieces : List Piece) → HasTaken members now next.0 pieces → AreGiven (members.limit new.streams next.0) (pieces ++ next.1 ∷ [])
  pub below : IsBelow members new.streams next.0 next.1.tail
  pub above : IsNotBelow now.last next.1.tail
  pub last : new.last ≡ Some next.1.tail
  pub told : (lists : List (List Piece)) → Tells members ctx now lists → (rest : List Piece) × (IsNext lists next.0 next.1 rest × Tells members after new (set lists next.0 rest))
  pub known : AreKnown members ctx now after new
  pub whole : AreWhole members ctx now → AreWhole members after new
  pub untold : (k : ℕ) → k < members.count now.streams → members.to_come now.streams k ctx ≡ None → members.to_come new.streams k after ≡ None
  pub same : AreSame members ctx now after new
  pub kept : members.same now.streams new.streams

-- ---- before the first piece

abbrev pub nothing : ℕ → List (List Piece)
nothing n = replicate {A = List Piece} n []

sums_nothing : (n : ℕ) → sums_of (nothing n) ≡ []
sums_nothing zero = refl
sums_nothing (suc n) = sums_nothing n

front_none : {S : Type 0} (order : Ordering S) (k : ℕ) → order.ahead.counts ≡ [] → front_at order.ahead k ≡ []
front_none order k none = ap (λ counts. pieces_of (number_at order.ahead.tails k) (number_at counts k)) none

pub gathering_none : {S C T : Type 0} (members : StreamsOf S C) (took : T → List Piece → Type 0) (first : Ordering S) (start : C) (totals : T) (sums : Sum) →
    ((streams : S) → members.same streams streams) → IsUnread members first → took totals [] → sums.last ≡ None →
    IsGathering members took first start (nothing (members.count first.streams)) first start totals sums
gathering_none members took first start totals sums self unread empty none =
    let n = members.count first.streams in
    let none_at : (k : ℕ) → k < n → get_or (nothing n) k [] ≡ [] = λ k below. get_or-replicate n k [] [] below in
    let fronts : (k : ℕ) → front_at first.ahead k ≡ [] = λ k. front_none first k unread.counts in
    record {
      len = length-replicate {A = List Piece} n [];
      taken = λ k below. unread.given k below ∙ sym (ap (λ (xs : List Piece). xs ++ front_at first.ahead k) (none_at k below) ∙ fronts k);
      given = λ k below. subst (AreGiven (members.limit first.streams k)) (sym (none_at k below)) (record { table = tt; counts = All-nil (λ (piece : Piece). piece.count ≤ 140737488355328) });
      up = λ tail above k below. subst (AreUpTo tail) (sym (none_at k (omega (arith, below, length-replicate {A = List Piece} n [])))) (All-nil (λ (piece : Piece). piece.tail ≤ tail));
      totals_are = subst (Takes took totals sums) (sym (sums_nothing n)) (takes_none took totals sums none empty);
      same = record { streams = refl; room = refl; limits = λ k below. refl; same_breaks = λ k at below. ((λ breaks. breaks), (λ breaks. breaks)) };
      kept = self first.streams;
      known = λ k below untold. untold;
      untold = λ k below untold. untold;
      whole = λ tells k below under. absurd (omega (arith, under, ap length unread.counts));
      told = λ given are. (
        given,
        record {
          len = are.len;
          each = λ k below. record {
            rest = get_or given k [];
            told = are.told k below;
            is = sym (ap (λ (xs : List Piece). xs ++ get_or given k []) (fronts k));
            ended = λ under. absurd (omega (arith, under, ap length unread.counts));
          };
        },
        λ k below. sym (ap (λ (xs : List Piece). xs ++ get_or given k []) (none_at k below)),
      );
    }

-- ---- a piece more

-- some number is above all of them
pub highest : (f : ℕ → ℕ) (n : ℕ) → (high : ℕ) × ((k : ℕ) → k < n → f k ≤ high)
highest f zero = (0, λ k below. absurd (omega (arith, below)))
highest f (suc n) =
    let rest = highest f n in (
      rest.0 + f n,
      λ k below. elim (cases_eq k n) [
        | inl same ↦ omega (arith, ap f same)
        | inr other ↦ omega (arith, rest.1 k (omega (arith, below, other)))
      ],
    )

up_higher : (low high : ℕ) (pieces : List Piece) → low ≤ high → AreUpTo low pieces → AreUpTo high pieces
up_higher low high pieces less up = λ n d below. omega (arith, up n d below, less)

module _ {S C T : Type 0} {members : StreamsOf S C} {took : T → List Piece → Type 0} {first : Ordering S} {start : C} {lists : List (List Piece)} {now : Ordering S} {ctx : C}
    {totals : T} {sums : Sum} (was : IsGathering members took first start lists now ctx totals sums) where
  abbrev n : ℕ
  n = members.count first.streams

  -- some limit is above those of all streams
  abbrev limits : (high : ℕ) × ((k : ℕ) → k < n → members.limit first.streams k ≤ high)
  limits = highest (λ k. members.limit first.streams k) n

  pub tables_by : (high : ℕ) → ((k : ℕ) → k < n → members.limit first.streams k ≤ high) → AreTables high lists
  tables_by high less k below =
      let under : k < n = omega (arith, below, was.len) in
      (given_wide (members.limit first.streams k) high (get_or lists k []) (less k under) (was.given k under)).table

  module _ {new : Ordering S} {after : C} {next : ℕ × Piece} (step : HasGiven members now ctx new after next) where
    abbrev pub its : List Piece
    its = get_or lists next.0 [] ++ next.1 ∷ []

    abbrev pub more : List (List Piece)
    more = set lists next.0 its

    pub within : next.0 < n
    within = omega (arith, step.below.within, step.same.streams, was.same.streams)

    within_lists : next.0 < length lists
    within_lists = omega (arith, within, was.len)

    now_below : (k : ℕ) → k < n → k < members.count now.streams
    now_below k below = omega (arith, below, was.same.streams)

    -- what stands at a place then
    pub here_more : get_or more next.0 [] ≡ its
    here_more = get_or-set_same lists next.0 its [] within_lists

    pub elsewhere_more : (k : ℕ) → k ≢ next.0 → get_or more k [] ≡ get_or lists k []
    elsewhere_more k other = get_or-set_other lists next.0 k its [] other

    at_more : (P : ℕ → List Piece → Type 0) → P next.0 its → ((k : ℕ) → k < n → k ≢ next.0 → P k (get_or lists k [])) → (k : ℕ) → k < n → P k (get_or more k [])
    at_more P one others k below = elim (cases_eq k next.0) [
      | inl same ↦ subst (λ m. P m (get_or more m [])) (sym same) (subst (P next.0) (sym here_more) one)
      | inr other ↦ subst (P k) (sym (elsewhere_more k other)) (others k below other)
    ]

    part_here : part_in (Some next) next.0 ≡ next.1 ∷ []
    part_here = ap (λ b. cond {A = List Piece} b (next.1 ∷ []) []) (eq-eqb next.0 next.0 refl)

    part_elsewhere : (k : ℕ) → k ≢ next.0 → part_in (Some next) k ≡ []
    part_elsewhere k other = ap (λ b. cond {A = List Piece} b (next.1 ∷ []) []) (ne_eqb next.0 k (λ same. other (sym same)))

    pub taken_more : (k : ℕ) → k < n → HasTaken members new k (get_or more k [])
    taken_more = at_more (λ k pieces. HasTaken members new k pieces)
        (subst (λ (part : List Piece). HasTaken members new next.0 (get_or lists next.0 [] ++ part)) part_here
        (step.taken next.0 (get_or lists next.0 []) (now_below next.0 within) (was.taken next.0 within)))
        (λ k below other.
        subst (HasTaken members new k) (append-nil (get_or lists k []))
        (subst (λ (part : List Piece). HasTaken members new k (get_or lists k [] ++ part)) (part_elsewhere k other)
        (step.taken k (get_or lists k []) (now_below k below) (was.taken k below))))

    pub given_more : (k : ℕ) → k < n → AreGiven (members.limit first.streams k) (get_or more k [])
    given_more = at_more (λ k pieces. AreGiven (members.limit first.streams k) pieces)
        (subst (λ (limit : ℕ). AreGiven limit its) (step.same.limits next.0 (now_below next.0 within) ∙ was.same.limits next.0 within)
        (step.ascending (get_or lists next.0 []) (was.taken next.0 within)))
        (λ k below other. was.given k below)

    -- the piece may be added to the totals
    pub up_so_far : AreUpTo next.1.tail (sums_of lists)
    up_so_far = up_to-sums_of next.1.tail lists (was.up next.1.tail step.above)

    up_more : (tail : ℕ) → IsNotBelow new.last tail → (k : ℕ) → k < n → AreUpTo tail (get_or more k [])
    up_more tail above =
        let less : next.1.tail ≤ tail = above next.1.tail step.last in
        let each : (k : ℕ) → k < n → AreUpTo tail (get_or lists k []) =
        λ k below. up_higher next.1.tail tail (get_or lists k []) less (was.up next.1.tail step.above k (omega (arith, below, was.len))) in
        at_more (λ k pieces. AreUpTo tail pieces)
        (All-append (λ (piece : Piece). piece.tail ≤ tail) (get_or lists next.0 []) (next.1 ∷ []) (each next.0 within)
        (All-cons (λ (piece : Piece). piece.tail ≤ tail) next.1 [] less (All-nil (λ (piece : Piece). piece.tail ≤ tail))))
        (λ k below other. each k below)

    pub its_table : IsTable limits.0 its
    its_table = subst (IsTable limits.0) here_more
        (given_wide (members.limit first.streams next.0) limits.0 (get_or more next.0 []) (limits.1 next.0 within) (given_more next.0 within)).table

    pub sums_are : plus (sums_of lists) next.1.tail next.1.count ≡ sums_of more
    sums_are = sums_more limits.0 lists next.0 next.1 within_lists (tables_by limits.0 limits.1) its_table

    -- and those of a part
    pub part_are : (parts : List (Option ℕ)) → length parts ≡ n → (part : ℕ) →
        with_piece (is_of (get_or parts next.0 None) part) next.1 (sums_of (picked parts part lists)) ≡ sums_of (picked parts part more)
    part_are parts len part = part_more limits.0 lists next.0 next.1 within_lists (tables_by limits.0 limits.1) its_table parts (omega (arith, within, len)) part

    pub next_some : 1 ≤ next.1.count
    next_some = (front_table 0 limits.0 (get_or lists next.0 []) next.1 its_table).2

    pub next_below : (high : ℕ) → ((k : ℕ) → k < n → members.limit first.streams k ≤ high) → next.1.tail < high
    next_below high less =
        omega (arith, step.below.below, step.same.limits next.0 (now_below next.0 within), was.same.limits next.0 within, less next.0 within)

    pub len_more : length more ≡ n
    len_more = length-set lists next.0 its ∙ was.len

    told_more : (given : List (List Piece)) → AreToCome members first.streams start given →
        (left : List (List Piece)) × Tells members after new left × ((k : ℕ) → k < n → get_or given k [] ≡ get_or more k [] ++ get_or left k [])
    told_more given are =
        let before = was.told given are in
        let left = before.0 in
        let then = step.told left before.1 in
        let rest = then.0 in
        let is = then.1.0 in (
          set left next.0 rest,
          then.1.1,
          λ k below. elim (cases_eq k next.0) [
            | inl same ↦ subst (λ m. get_or given m [] ≡ get_or more m [] ++ get_or (set left next.0 rest) m []) (sym same)
                (before.2 next.0 within
                ∙ ap (λ (xs : List Piece). get_or lists next.0 [] ++ xs) is.front
                ∙ sym (append_assoc (get_or lists next.0 []) (next.1 ∷ []) rest)
                ∙ sym (λ i. here_more i ++ get_or-set_same left next.0 rest [] is.within i))
            | inr other ↦ before.2 k below ∙ sym (λ i. elsewhere_more k other i ++ get_or-set_other left next.0 k rest [] other i)
          ],
        )

    pub gathering_more : (same_on : (a b c : S) → members.same a b → members.same b c → members.same a c) (totals_then : T) (sums_then : Sum) →
        ((list : List Piece) → Takes took totals sums list → AreUpTo next.1.tail list → Takes took totals_then sums_then (plus list next.1.tail next.1.count)) →
        IsGathering members took first start more new after totals_then sums_then
    gathering_more same_on totals_then sums_then takes = record {
      len = len_more;
      taken = taken_more;
      given = given_more;
      up = λ tail above k below. up_more tail above k (omega (arith, below, len_more));
      totals_are = subst (Takes took totals_then sums_then) sums_are (takes (sums_of lists) was.totals_are up_so_far);
      same = same_then;
      kept = same_on first.streams now.streams new.streams was.kept step.kept;
      known = λ k below untold. was.known k below (step.known k (now_below k below) untold);
      untold = λ k below untold. step.untold k (now_below k below) (was.untold k below untold);
      whole = step.whole was.whole;
      told = told_more;
    }
      where
        same_then : AreSame members start first after new
        same_then = record {
          streams = step.same.streams ∙ was.same.streams;
          room = step.same.room ∙ was.same.room;
          limits = λ k below. step.same.limits k (now_below k below) ∙ was.same.limits k below;
          same_breaks = λ k at below.
              let one = was.same.same_breaks k at below in
              let two = step.same.same_breaks k at (now_below k below) in
              ((λ breaks. one.0 (two.0 breaks)), (λ breaks. two.1 (one.1 breaks)));
        }

  -- ---- calls elsewhere, through which the same is to come

  pub gathering_on : (after : C) → (members.tells after → members.tells ctx) → ((k : ℕ) → k < members.count now.streams → ComesTheSame members.to_come members.breaks now.streams k ctx after) →
      IsGathering members took first start lists now after totals sums
  gathering_on after back stays =
      let now_under : (k : ℕ) → k < n → k < members.count now.streams = λ k below. omega (arith, below, was.same.streams) in
      record {
        len = was.len;
        taken = was.taken;
        given = was.given;
        up = was.up;
        totals_are = was.totals_are;
        same = record {
          streams = was.same.streams;
          room = was.same.room;
          limits = was.same.limits;
          same_breaks = λ k at below.
              let one = was.same.same_breaks k at below in
              let two = (stays k (now_under k below)).breaking at in
              ((λ breaks. one.0 (two.0 breaks)), (λ breaks. two.1 (one.1 breaks)));
        };
        kept = was.kept;
        known = λ k below untold. was.known k below (sym (stays k (now_under k below)).coming ∙ untold);
        untold = λ k below untold. (stays k (now_under k below)).coming ∙ was.untold k below untold;
        whole = λ tells k below under ended untold. was.whole (back tells) k below under ended (sym (stays k below).coming ∙ untold);
        told = λ given are. (
            let before = was.told given are in (
              before.0,
              record {
                len = before.1.len;
                each = λ k below. (
                    let come = before.1.each k below in
                    record { rest = come.rest; told = (stays k below).coming ∙ come.told; is = come.is; ended = come.ended });
              },
              before.2,
            ));
      }

  -- ---- a fault, and the end

  -- what leaves its format now left it at the start
  pub breaks_back : (at : ℕ) → Breaks members ctx now.streams at → Breaks members start first.streams at
  breaks_back at breaks =
      let within : breaks.stream < n = omega (arith, breaks.within, was.same.streams) in
      record {
        stream = breaks.stream;
        within = within;
        untold = was.known breaks.stream within breaks.untold;
        at_it = (was.same.same_breaks breaks.stream at within).0 breaks.at_it;
      }

  -- where the context tells, each stream was told at the start
  started_told : (after : C) (new : Ordering S) → AreEnded members new → AreWhole members after new → members.tells after → members.count new.streams ≡ members.count now.streams →
      ((k : ℕ) → k < members.count now.streams → members.to_come now.streams k ctx ≡ None → members.to_come new.streams k after ≡ None) →
      (k : ℕ) → k < n → members.to_come first.streams k start ≢ None
  started_told after new over whole tells long untold k below none =
      let under : k < members.count now.streams = omega (arith, below, was.same.streams) in
      let inside : k < members.count new.streams = omega (arith, under, long) in
      whole tells k inside (omega (arith, inside, over.all)) (over.ended k inside) (untold k under (was.untold k below none))

  pub taken_all : (version width : S → ℕ → ℕ) (after : C) (new : Ordering S) (totals_then : T) → ((k : ℕ) → k < n → costs (version first.streams k) (get_or lists k []) ≤ width first.streams k) →
      ((left : List (List Piece)) → Tells members ctx now left → AreOver left × Tells members after new left) →
      ((list : List Piece) → Takes took totals sums list → took totals_then list) →
      (members.tells start → members.tells after) → AreEnded members new → (AreWhole members ctx now → AreWhole members after new) → AreSame members ctx now after new →
      ((k : ℕ) → k < members.count now.streams → members.to_come now.streams k ctx ≡ None → members.to_come new.streams k after ≡ None) →
      AreTaken members version width took first.streams start totals_then lists
  taken_all version width after new totals_then fits over ends on ended whole same untold = record {
    len = was.len;
    given = was.given;
    fits = fits;
    totals_are = ends (sums_of lists) was.totals_are;
    told = told_all;
    whole = λ tells. (
        let some = all_to_come members first.streams start (started_told after new ended (whole was.whole) (on tells) same.streams untold) in
        subst (AreToCome members first.streams start) (sym (told_all some.0 some.1)) some.1);
  }
    where
      told_all : (given : List (List Piece)) → AreToCome members first.streams start given → lists ≡ given
      told_all given are =
          let before = was.told given are in
          let none = (over before.0 before.1).0 in
          ext_get_or [] lists given (was.len ∙ sym are.len)
          (λ k below.
          let under : k < n = omega (arith, below, was.len) in
          sym (before.2 k under
          ∙ (ap (λ (xs : List Piece). get_or lists k [] ++ xs) (none k (omega (arith, under, before.1.len, was.same.streams)))
          ∙ append-nil (get_or lists k []))))

-- a fault shows that a stream wasn't told
pub sound_by : {S C : Type 0} (members : StreamsOf S C) (start : C) (streams : S) (lists : List (List Piece)) (at : ℕ) → AreToCome members streams start lists →
    Breaks members start streams at → ⊥
sound_by members start streams lists at are breaks = let told = are.told breaks.stream breaks.within in let untold = breaks.untold in absurd (cc (told, untold))
