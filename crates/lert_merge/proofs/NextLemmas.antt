-- A refusal, turns behind one another, and what they say of the next piece.
use Rattle.std.proofs.Common.{◌≡◌, ℕ, ◌<◌, false, Option, Some, None, Result, Ok, Err, OnOk, IfSome, [], ◌++◌, length, get_or, arith, sym, ap, ◌∙◌, refl, subst, append-nil}
use Rattle.lert_base.specs.declared.pieces.PieceFault.{PieceFault}
use Rattle.lert_io.proofs.Rising.{risen_since}
use Rattle.lert_spec.specs.declared.piece.Piece.{Piece}
use Rattle.lert_merge.specs.{order.Ordering.{Ordering, AreKnown, AreSame}, declared.order.streams.Streams.Ghosts as StreamsOf, declared.merge.Turn.Turn, declared.merge.Turn.TheVariants.{Taken, Given}}
use Rattle.lert_merge.specs.{Givers.share_in, Merging.{Merging, AreSummedUp, HasSummed, Keeps, GivesSum, Moves, HasTurned}}
use Rattle.lert_merge.proofs.{order.AskLemmas.AreLawful, order.FrontLemmas.pieces_none, order.StepLemmas.known_on, order.ToldLemmas.are_over, GiverLemmas.share_none}

same_on : {S C : Type 0} (members : StreamsOf S C) (a b c : C) (x y z : Ordering S) → AreSame members a x b y → AreSame members b y c z → AreSame members a x c z
same_on members a b c x y z one two = let many : members.count y.streams ≡ members.count x.streams = one.streams in record {
  streams = two.streams ∙ one.streams;
  room = two.room ∙ one.room;
  limits = λ k under. two.limits k (omega arith) ∙ one.limits k under;
  same_breaks = λ k at under. (
    λ is. (one.same_breaks k at under).0 ((two.same_breaks k at (omega arith)).0 is),
    λ is. (two.same_breaks k at (omega arith)).1 ((one.same_breaks k at under).1 is),
  );
}

keeps_on : {S C : Type 0} (members : StreamsOf S C) (x y z : Merging S) → members.count y.order.streams ≡ members.count x.order.streams → Keeps members x y →
    Keeps members y z → Keeps members x z
keeps_on members x y z many one two = record {
  taken = λ k pieces under was. two.taken k pieces (omega arith) (one.taken k pieces under was);
  last = two.last ∙ one.last;
  shares = λ k. two.shares k ∙ one.shares k;
}

gives_on : {S C : Type 0} (members : StreamsOf S C) (x y z : Merging S) (given : Option Piece) → members.count y.order.streams ≡ members.count x.order.streams →
    Keeps members x y → GivesSum members y z given → GivesSum members x z given
gives_on {S} members x y z given many one two = record {
  above = subst (λ last. IfSome given (λ p. (before : ℕ) → last ≡ Some before → before < p.tail)) one.last two.above;
  below = two.below;
  last = two.last;
  sum = two.sum;
  small = two.small;
  taken = λ k pieces under was. two.taken k pieces (omega arith) (one.taken k pieces under was);
  over = two.over;
  nothing = λ none. ((two.nothing none).0 ∙ one.last, λ k. (two.nothing none).1 k ∙ one.shares k);
}

moves_on : {S C : Type 0} (members : StreamsOf S C) (x y z : Merging S) (result : Result Turn PieceFault) → members.count y.order.streams ≡ members.count x.order.streams →
    Keeps members x y → Moves members y z result → Moves members x z result
moves_on members x y z (Ok Taken) many one two = keeps_on members x y z many one two
moves_on members x y z (Ok (Given given)) many one two = gives_on members x y z given many one two
moves_on members x y z (Err fault) many one two = keeps_on members x y z many one two

known_by : {S C : Type 0} (members : StreamsOf S C) (a b c : C) (x y z : Ordering S) (result : Result Turn PieceFault) → members.count y.streams ≡ members.count x.streams →
    AreKnown members a x b y → OnOk result (AreKnown members b y c z) → OnOk result (AreKnown members a x c z)
known_by members a b c x y z (Ok turn) many one two = known_on members a b c x y z many one two
known_by members a b c x y z (Err fault) many one two = tt

-- a turn behind one that took a piece
pub turned_on : {S C : Type 0} (members : StreamsOf S C) (laws : AreLawful members) (faults mark : C → ℕ) (a b c : C) (x y z : Merging S) (result : Result Turn PieceFault) →
    HasTurned members faults mark a x b y (Ok Taken) → HasTurned members faults mark b y c z result → HasTurned members faults mark a x c z result
turned_on members laws faults mark a b c x y z result one two =
    let many : members.count y.order.streams ≡ members.count x.order.streams = one.same.streams in record {
      same = same_on members a b c x.order y.order z.order one.same two.same;
      set = laws.same_on x.order.streams y.order.streams z.order.streams one.set two.set;
      untold = λ k under none. two.untold k (omega arith) (one.untold k under none);
      known = known_by members a b c x.order y.order z.order result many one.known two.known;
      moved = moves_on members x y z result many one.moved two.moved;
      told = λ lists tells. two.told lists (one.told lists tells);
      failed = λ is. risen_since (faults a) (faults b) (faults c) one.rises two.rises (two.failed is);
      malformed = λ at is. let it = two.malformed at is in let inside : it.stream < members.count y.order.streams = it.within in
          let within : it.stream < members.count x.order.streams = omega arith in record {
            stream = it.stream;
            within = within;
            untold = one.known it.stream within it.untold;
            at_it = (one.same.same_breaks it.stream at within).0 it.at_it;
          };
      rises = omega (arith, one.rises, two.rises);
      marked = two.marked ∙ one.marked;
      kept = laws.keeps_on a b c one.kept two.kept;
    }

-- no turn: nothing has changed
pub turned_none : {S C : Type 0} (members : StreamsOf S C) (laws : AreLawful members) (faults mark : C → ℕ) (ctx : C) (m : Merging S) →
    HasTurned members faults mark ctx m ctx m (Ok Taken)
turned_none members laws faults mark ctx m = record {
  same = record { streams = refl; room = refl; limits = λ k under. refl; same_breaks = λ k at under. (λ is. is, λ is. is) };
  set = laws.same_self m.order.streams;
  untold = λ k under none. none;
  known = λ k under none. none;
  moved = record { taken = λ k pieces under was. was; last = refl; shares = λ k. refl };
  told = λ lists tells. tells;
  failed = λ no. absurd (cc (no));
  malformed = λ at no. absurd (cc (no));
  rises = omega arith;
  marked = refl;
  kept = laws.keeps_same ctx;
}

-- a merge that is over
pub turned_ended : {S C : Type 0} (members : StreamsOf S C) (laws : AreLawful members) (faults mark : C → ℕ) (ctx : C) (m : Merging S) → AreSummedUp members m →
    HasTurned members faults mark ctx m ctx m (Ok (Given None))
turned_ended members laws faults mark ctx m ended =
    let none = turned_none members laws faults mark ctx m in record {
      same = none.same;
      set = none.set;
      untold = none.untold;
      known = none.known;
      moved = record {
        above = tt;
        below = tt;
        last = tt;
        sum = tt;
        small = tt;
        taken = λ k pieces under was. subst (HasSummed members m k) (sym (append-nil pieces)) was;
        over = λ none. ended;
        nothing = λ none. (refl, λ k. refl);
      };
      told = λ lists tells. (
        λ k under. tells.each k under ∙ ap (λ xs. xs ++ get_or tells.rest k []) (pieces_none m.sums.tail (share_in m.sums.taken k) (share_none m.sums.taken k ended.none)) ∙
            are_over members ctx m.order tells.rest ended.order.all
            (λ j below. ended.order.ended j (let all : length m.order.ahead.counts ≡ members.count m.order.streams = ended.order.all in omega arith)) tells.told k (omega (arith, tells.len)),
        tells,
      );
      failed = λ no. absurd (cc (no));
      malformed = λ at no. absurd (cc (no));
      rises = none.rises;
      marked = none.marked;
      kept = none.kept;
    }

-- some turns took a piece each
pub record IsTurning {S C : Type 0} (members : StreamsOf S C) (faults mark : C → ℕ) (before : C) (old : Merging S) (after : C) (new : Merging S) : Type 0 where
  pub turned : HasTurned members faults mark before old after new (Ok Taken)
  pub going : new.is_over ≡ false
