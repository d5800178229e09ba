-- Calls on an order in turn.
use Rattle.std.proofs.Common.{◌≡◌, ℕ, ◌<◌, ◌≤◌, Option, Some, None, IfSome, List, [], ◌++◌, get_or, arith, sym, ap, ◌∙◌, refl, subst, append-nil, Result, Ok, Err, IfOk, OnOk, OnErr}
use Rattle.lert_base.specs.declared.pieces.PieceFault.{PieceFault}
use Rattle.lert_spec.specs.declared.piece.Piece.{Piece}
use Rattle.lert_merge.specs.{order.Fronts.front_at, order.Ordering.{Ordering, HasTaken, none_of, part_of, part_in, AllGive, AllTold, AreKnown, AreWhole, AreSame, Breaks, IsGiven, IsStarted, Tells}}
use Rattle.lert_merge.specs.declared.order.streams.Streams.{Ghosts as StreamsOf}
use Rattle.lert_merge.proofs.order.AskLemmas.{AreLawful}

-- one call behind another by which nothing was given
pub gives_on : {S C : Type 0} (members : StreamsOf S C) (laws : AreLawful members) (part : ℕ → List Piece) (a b c : C) (x y z : Ordering S) →
    AllGive members none_of a x b y → AllGive members part b y c z → AllGive members part a x c z
gives_on members laws part a b c x y z first then = record {
  streams = then.streams ∙ first.streams;
  room = then.room ∙ first.room;
  kept = laws.same_on x.streams y.streams z.streams first.kept then.kept;
  each = λ k under. let more : members.count y.streams ≡ members.count x.streams = first.streams in
      let one = first.each k under in let two = then.each k (omega arith) in record {
        taken = λ pieces is. two.taken pieces (one.taken pieces is ∙ ap (λ xs. xs ++ front_at y.ahead k) (append-nil pieces));
        untold = λ is. two.untold (one.untold is);
        limits = two.limits ∙ one.limits;
        same_breaks = λ at. ((λ b. (one.same_breaks at).0 ((two.same_breaks at).0 b)), (λ b. (two.same_breaks at).1 ((one.same_breaks at).1 b)));
      };
}

-- what a call by which each stream gave its part says of a refusal, and of all that no call changes
pub gave_none : {S C : Type 0} (members : StreamsOf S C) (a b : C) (x y : Ordering S) → AllGive members none_of a x b y → (k : ℕ) (pieces : List Piece) →
    k < members.count x.streams → HasTaken members x k pieces → HasTaken members y k pieces
gave_none members a b x y gives k pieces under was = subst (HasTaken members y k) (append-nil pieces) ((gives.each k under).taken pieces was)

pub same_by : {S C : Type 0} (members : StreamsOf S C) (part : ℕ → List Piece) (a b : C) (x y : Ordering S) → AllGive members part a x b y → AreSame members a x b y
same_by members part a b x y gives = record {
  streams = gives.streams;
  room = gives.room;
  limits = λ k under. (gives.each k under).limits;
  same_breaks = λ k at under. (gives.each k under).same_breaks at;
}

pub taken_by : {S C : Type 0} (members : StreamsOf S C) (a b : C) (x y : Ordering S) (result : Result (Option (ℕ × Piece)) PieceFault) →
    AllGive members (part_of result) a x b y → IfOk result (λ given. (k : ℕ) (pieces : List Piece) → k < members.count x.streams → HasTaken members x k pieces →
    HasTaken members y k (pieces ++ part_in given k))
taken_by members a b x y (Ok given) gives = λ k pieces under was. (gives.each k under).taken pieces was
taken_by members a b x y (Err fault) gives = tt

pub refused_by : {S C : Type 0} (members : StreamsOf S C) (a b : C) (x y : Ordering S) (result : Result (Option (ℕ × Piece)) PieceFault) →
    AllGive members (part_of result) a x b y → OnErr result ((k : ℕ) (pieces : List Piece) → k < members.count x.streams → HasTaken members x k pieces →
    HasTaken members y k pieces)
refused_by members a b x y (Ok given) gives = tt
refused_by members a b x y (Err fault) gives = gave_none members a b x y gives

-- the tree was told the tails: the streams gave what they gave
pub gives_started : {S C : Type 0} (members : StreamsOf S C) (a b : C) (x y z : Ordering S) → AllGive members none_of a x b y → IsStarted y z → AllGive members none_of a x b z
gives_started {S} members a b x y z gives started =
    subst (AllGive members none_of a x b) (λ j. record {
      streams = sym started.streams j;
      ahead = record { tails = sym started.tails j; counts = sym started.counts j; is_begun = z.ahead.is_begun; first = z.ahead.first; room = sym started.room j };
      last = sym started.last j;
    }) (record {
      streams = gives.streams;
      room = gives.room;
      kept = gives.kept;
      each = λ k under. let one = gives.each k under in record { taken = one.taken; untold = one.untold; limits = one.limits; same_breaks = one.same_breaks };
    })

pub told_started : {S C : Type 0} (members : StreamsOf S C) (a b : C) (x y z : Ordering S) → AllTold members a x b y → IsStarted y z → AllTold members a x b z
told_started {S} members a b x y z told started =
    subst (AllTold members a x b) (λ j. record {
      streams = sym started.streams j;
      ahead = record { tails = sym started.tails j; counts = sym started.counts j; is_begun = z.ahead.is_begun; first = z.ahead.first; room = sym started.room j };
      last = sym started.last j;
    }) (record {
      same = λ k pieces under come. let one = told.same k pieces under come in record { rest = one.rest; told = one.told; is = one.is; ended = one.ended };
      known = told.known;
    })

pub whole_started : {S C : Type 0} (members : StreamsOf S C) (b : C) (y z : Ordering S) → AreWhole members b y → IsStarted y z → AreWhole members b z
whole_started {S} members b y z whole started =
    subst (AreWhole members b) (λ j. record {
      streams = sym started.streams j;
      ahead = record { tails = sym started.tails j; counts = sym started.counts j; is_begun = z.ahead.is_begun; first = z.ahead.first; room = sym started.room j };
      last = sym started.last j;
    }) whole

-- the same, where the order that was asked is seen as another
pub gives_behind : {S C : Type 0} (members : StreamsOf S C) (laws : AreLawful members) (part : ℕ → List Piece) (a b here c : C) (x y seen z : Ordering S) → seen ≡ y →
    here ≡ b → AllGive members none_of a x b y → AllGive members part here seen c z → AllGive members part a x c z
gives_behind {S} {C} members laws part a b here c x y seen z self_is ctx_is first then = gives_on members laws part a b c x y z first
    (subst (λ (at : C). AllGive members part at y c z) ctx_is (subst (λ (m : Ordering S). AllGive members part here m c z) self_is then))

pub gives_seen : {S C : Type 0} (members : StreamsOf S C) (part : ℕ → List Piece) (a here c : C) (x seen z : Ordering S) → seen ≡ x → here ≡ a →
    AllGive members part here seen c z → AllGive members part a x c z
gives_seen {S} {C} members part a here c x seen z self_is ctx_is then =
    subst (λ (at : C). AllGive members part at x c z) ctx_is (subst (λ (m : Ordering S). AllGive members part here m c z) self_is then)

-- where a stream was told before two calls, it is told after them
pub known_on : {S C : Type 0} (members : StreamsOf S C) (a b c : C) (x y z : Ordering S) → members.count y.streams ≡ members.count x.streams →
    AreKnown members a x b y → AreKnown members b y c z → AreKnown members a x c z
known_on members a b c x y z long first then k under none = first k under (then k (omega arith) none)

pub told_on : {S C : Type 0} (members : StreamsOf S C) (a b c : C) (x y z : Ordering S) → members.count y.streams ≡ members.count x.streams →
    AllTold members a x b y → AllTold members b y c z → AllTold members a x c z
told_on members a b c x y z long first then = record {
  same = λ k pieces under come. then.same k pieces (omega arith) (first.same k pieces under come);
  known = known_on members a b c x y z long first.known then.known;
}

-- a stream that leaves its format did so before
pub breaks_on : {S C : Type 0} (members : StreamsOf S C) (a b : C) (x y : Ordering S) (at : ℕ) → AllGive members none_of a x b y → AllTold members a x b y →
    Breaks members b y.streams at → Breaks members a x.streams at
breaks_on members a b x y at gives told it = let long : members.count y.streams ≡ members.count x.streams = gives.streams in
    let inside : it.stream < members.count y.streams = it.within in let within : it.stream < members.count x.streams = omega arith in record {
      stream = it.stream;
      within = within;
      untold = told.known it.stream within it.untold;
      at_it = ((gives.each it.stream within).same_breaks at).0 it.at_it;
    }

-- the same, where the order that was asked is seen as another
pub breaks_behind : {S C : Type 0} (members : StreamsOf S C) (a b here : C) (x y seen : Ordering S) (at : ℕ) → seen ≡ y → here ≡ b → AllGive members none_of a x b y →
    AllTold members a x b y → Breaks members here seen.streams at → Breaks members a x.streams at
breaks_behind {S} {C} members a b here x y seen at self_is ctx_is gives told it = breaks_on members a b x y at gives told
    (subst (λ (c : C). Breaks members c y.streams at) ctx_is (subst (λ (m : Ordering S). Breaks members here m.streams at) self_is it))

pub breaks_same : {S C : Type 0} (members : StreamsOf S C) (a here : C) (x seen : Ordering S) (at : ℕ) → seen ≡ x → here ≡ a →
    Breaks members here seen.streams at → Breaks members a x.streams at
breaks_same {S} {C} members a here x seen at self_is ctx_is it =
    subst (λ (c : C). Breaks members c x.streams at) ctx_is (subst (λ (m : Ordering S). Breaks members here m.streams at) self_is it)

-- some streams were read
pub record IsReading {S C : Type 0} (members : StreamsOf S C) (faults mark : C → ℕ) (before : C) (old : Ordering S) (after : C) (new : Ordering S) : Type 0 where
  pub gives : AllGive members none_of before old after new
  pub last : new.last ≡ old.last
  pub told : AllTold members before old after new
  pub whole : AreWhole members before old → AreWhole members after new
  pub faults_rise : faults before ≤ faults after
  pub same_mark : mark after ≡ mark before
  pub kept : members.keeps before after

pub reading_none : {S C : Type 0} (members : StreamsOf S C) (laws : AreLawful members) (faults mark : C → ℕ) (ctx : C) (x : Ordering S) →
    IsReading members faults mark ctx x ctx x
reading_none members laws faults mark ctx x = record {
  gives = record {
    streams = refl;
    room = refl;
    kept = laws.same_self x.streams;
    each = λ k under. record {
      taken = λ pieces is. is ∙ ap (λ xs. xs ++ front_at x.ahead k) (sym (append-nil pieces));
      untold = λ is. is;
      limits = refl;
      same_breaks = λ at. ((λ b. b), (λ b. b));
    };
  };
  last = refl;
  told = record { same = λ k pieces under come. come; known = λ k under none. none };
  whole = λ whole. whole;
  faults_rise = omega arith;
  same_mark = refl;
  kept = laws.keeps_same ctx;
}

pub reading_more : {S C : Type 0} (members : StreamsOf S C) (laws : AreLawful members) (faults mark : C → ℕ) (a b c : C) (x y z : Ordering S) →
    IsReading members faults mark a x b y → AllGive members none_of b y c z → z.last ≡ y.last → AllTold members b y c z →
    (AreWhole members b y → AreWhole members c z) → faults b ≤ faults c → mark c ≡ mark b → members.keeps b c → IsReading members faults mark a x c z
reading_more members laws faults mark a b c x y z is gives last told whole rise same kept = record {
  gives = gives_on members laws none_of a b c x y z is.gives gives;
  last = last ∙ is.last;
  told = told_on members a b c x y z is.gives.streams is.told told;
  whole = λ was. whole (is.whole was);
  faults_rise = let one : faults a ≤ faults b = is.faults_rise in omega arith;
  same_mark = same ∙ is.same_mark;
  kept = laws.keeps_on a b c is.kept kept;
}

-- ---- what stands behind calls by which nothing was given

-- a map over what a result says
pub on_ok : {T E : Type 0} (P Q : Type 0) (result : Result T E) → OnOk result P → (P → Q) → OnOk result Q
on_ok P Q (Ok value) is turned = turned is
on_ok P Q (Err fault) is turned = tt

pub ok_apart : {T E : Type 0} (result : Result T E) (value : T) (fault : E) → result ≡ Ok value → result ≡ Err fault → ⊥
ok_apart result value fault ok err = absurd (cc)

pub some_apart : {T E : Type 0} (result : Result (Option T) E) (value : T) → result ≡ Ok (Some value) → result ≡ Ok None → ⊥
some_apart result value some none = absurd (cc)

pub rose_none : (n : ℕ) → n ≤ n
rose_none n = omega arith

pub each_given : (P Q : ℕ × Piece → Type 0) (result : Result (Option (ℕ × Piece)) PieceFault) → IfOk result (λ given. IfSome given P) →
    ((g : ℕ × Piece) → P g → Q g) → IfOk result (λ given. IfSome given Q)
each_given P Q (Ok None) is turned = tt
each_given P Q (Ok (Some g)) is turned = turned g is
each_given P Q (Err fault) is turned = tt

pub reading_as : {S C : Type 0} (members : StreamsOf S C) (faults mark : C → ℕ) (a b here : C) (x y seen : Ordering S) → seen ≡ y → here ≡ b →
    IsReading members faults mark a x b y → IsReading members faults mark a x here seen
reading_as {S} {C} members faults mark a b here x y seen self_is ctx_is is =
    subst (λ (at : C). IsReading members faults mark a x at seen) (sym ctx_is)
    (subst (λ (m : Ordering S). IsReading members faults mark a x b m) (sym self_is) is)

module _ {S C : Type 0} (members : StreamsOf S C) (faults mark : C → ℕ) (a b : C) (x y : Ordering S) (is : IsReading members faults mark a x b y) where
  pub tells_on : (lists : List (List Piece)) → Tells members a x lists → Tells members b y lists
  tells_on lists tells =
      let long : members.count y.streams ≡ members.count x.streams = is.gives.streams in
      record {
        len = tells.len ∙ sym long;
        each = λ k under. let within : k < members.count x.streams = omega (arith, under, long) in is.told.same k (get_or lists k []) within (tells.each k within);
      }

  -- what a piece that is given then has to do with the order before
  pub given_on : (z : Ordering S) (result : Result (Option (ℕ × Piece)) PieceFault) → members.count z.streams ≡ members.count x.streams →
      IfOk result (λ given. IfSome given (λ g. IsGiven members y z g.0 g.1)) → IfOk result (λ given. IfSome given (λ g. IsGiven members x z g.0 g.1))
  given_on z result long given = each_given (λ g. IsGiven members y z g.0 g.1) (λ g. IsGiven members x z g.0 g.1) result given (λ g one. record {
    above = λ before was. one.above before (is.last ∙ was);
    below = one.below;
    last = one.last;
    counted = one.counted;
    small = one.small;
    ascending = λ pieces was. one.ascending pieces (gave_none members a b x y is.gives g.0 pieces (omega (arith, one.below.within, long)) was);
  })
