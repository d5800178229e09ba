-- What a step of the order says, and what it leaves to come.
use Rattle.std.proofs.Common.{◌≡◌, ℕ, ◌<◌, ◌≤◌, ◌^◌, Option, Some, None, IfSome, MatchOption, List, [], ◌∷◌, ◌++◌, length, set, get_or, All}
use Rattle.std.proofs.Common.{Result, Ok, Err, IfOk, OnOk, arith, sym, ap, ◌∙◌, refl, subst, inl, inr, length-set, get_or-set_same, get_or-set_other}
use Rattle.std.proofs.lemmas.Bool.{cases_eq}
use Rattle.std.specs.Prelude.{OnErr}
use Rattle.lert_base.specs.declared.pieces.PieceFault.{PieceFault}
use Rattle.lert_base.specs.declared.pieces.PieceFault.TheVariants.{Failed, Malformed}
use Rattle.lert_io.specs.Fault.{HasRisen}
use Rattle.lert_spec.specs.declared.piece.Piece.{Piece}
use Rattle.lert_spec.specs.Table.{AreGiven}
use Rattle.lert_merge.specs.order.Ordering.{Ordering, AreOver, AreKnown, AreWhole, AreSame, Tells, HasTaken, AreEnded, IsNext, IsNotBelow, IsBelow, IsNothingGiven, Breaks, part_in}
use Rattle.lert_merge.specs.declared.order.streams.Streams.{Ghosts as StreamsOf}
use Rattle.lert_merge.proofs.order.GiveLemmas.{part_here, part_else}

-- the clauses of a step
pub record HasStepped {S C : Type 0} (members : StreamsOf S C) (faults mark : C → ℕ) (a : C) (x : Ordering S) (b : C) (y : Ordering S) (given : Option (ℕ × Piece)) : Type 0 where
  pub told : (lists : List (List Piece)) → Tells members a x lists → MatchOption given (AreOver lists × Tells members b y lists)
      (λ g. (rest : List Piece) × (IsNext lists g.0 g.1 rest × Tells members b y (set lists g.0 rest)))
  pub untold : (k : ℕ) → k < members.count x.streams → members.to_come x.streams k a ≡ None → members.to_come y.streams k b ≡ None
  pub known : AreKnown members a x b y
  pub above : IfSome given (λ g. IsNotBelow x.last g.1.tail)
  pub below : IfSome given (λ g. IsBelow members y.streams g.0 g.1.tail)
  pub last : IfSome given (λ g. y.last ≡ Some g.1.tail)
  pub small : IfSome given (λ g. (1 ≤ g.1.count) × (g.1.count ≤ 2 ^ 47))
  pub ascending : IfSome given (λ g. (pieces : List Piece) → HasTaken members x g.0 pieces → AreGiven (members.limit y.streams g.0) (pieces ++ g.1 ∷ []))
  pub taken : (k : ℕ) (pieces : List Piece) → k < members.count x.streams → HasTaken members x k pieces → HasTaken members y k (pieces ++ part_in given k)
  pub held : (k : ℕ) → k < members.count x.streams → (pieces : List Piece) × HasTaken members x k pieces
  pub over : given ≡ None → AreEnded members y
  pub same : AreSame members a x b y
  pub set : members.same x.streams y.streams
  pub rises : faults a ≤ faults b
  pub marked : mark b ≡ mark a
  pub kept : members.keeps a b

-- a step that went well, as its contract says it
abbrev pub StepSays : {S C : Type 0} → StreamsOf S C → (C → ℕ) → (C → ℕ) → C → Ordering S → C → Ordering S → Result (Option (ℕ × Piece)) PieceFault → Type 0
StepSays members faults mark a x b y result = record {
  told : (lists : List (List Piece)) → Tells members a x lists → IfOk result (λ given. MatchOption given (AreOver lists × Tells members b y lists)
      (λ g. (rest : List Piece) × (IsNext lists g.0 g.1 rest × Tells members b y (set lists g.0 rest))));
  untold : (k : ℕ) → k < members.count x.streams → members.to_come x.streams k a ≡ None → members.to_come y.streams k b ≡ None;
  known : OnOk result (AreKnown members a x b y);
  whole : OnOk result (AreWhole members a x → AreWhole members b y);
  above : IfOk result (λ given. IfSome given (λ g. IsNotBelow x.last g.1.tail));
  below : IfOk result (λ given. IfSome given (λ g. IsBelow members y.streams g.0 g.1.tail));
  last : IfOk result (λ given. IfSome given (λ g. y.last ≡ Some g.1.tail));
  small : IfOk result (λ given. IfSome given (λ g. (1 ≤ g.1.count) × (g.1.count ≤ 2 ^ 47)));
  ascending : IfOk result (λ given. IfSome given (λ g. (pieces : List Piece) → HasTaken members x g.0 pieces → AreGiven (members.limit y.streams g.0) (pieces ++ g.1 ∷ [])));
  taken : IfOk result (λ given. (k : ℕ) (pieces : List Piece) → k < members.count x.streams → HasTaken members x k pieces → HasTaken members y k (pieces ++ part_in given k));
  refused : OnErr result ((k : ℕ) (pieces : List Piece) → k < members.count x.streams → HasTaken members x k pieces → HasTaken members y k pieces);
  held : (k : ℕ) → k < members.count x.streams → (pieces : List Piece) × HasTaken members x k pieces;
  over : result ≡ Ok None → AreEnded members y;
  nothing_given : IsNothingGiven result → y.last ≡ x.last;
  failed : result ≡ Err Failed → HasRisen (faults a) (faults b);
  malformed : (at : ℕ) → result ≡ Err (Malformed at) → Breaks members a x.streams at;
  same : AreSame members a x b y;
  kept : members.same x.streams y.streams;
  faults : faults a ≤ faults b;
  mark : mark b ≡ mark a;
  keeps : members.keeps a b;
}

pub stepped : {S C : Type 0} (members : StreamsOf S C) (faults mark : C → ℕ) (a : C) (x : Ordering S) (b : C) (y : Ordering S) (taken given : Option (ℕ × Piece)) →
    taken ≡ given → StepSays members faults mark a x b y (Ok taken) → HasStepped members faults mark a x b y given
stepped members faults mark a x b y taken given is says = subst (HasStepped members faults mark a x b y) is (record {
  told = says.told;
  untold = says.untold;
  known = says.known;
  above = says.above;
  below = says.below;
  last = says.last;
  small = says.small;
  ascending = says.ascending;
  taken = says.taken;
  held = says.held;
  over = λ none. says.over (ap Ok none);
  same = says.same;
  set = says.kept;
  rises = says.faults;
  marked = says.mark;
  kept = says.keeps;
})

-- what is to come behind a step: of each stream its part of what was given, and then this
pub record ComesThen {S C : Type 0} (members : StreamsOf S C) (b : C) (y : Ordering S) (given : Option (ℕ × Piece)) (lists : List (List Piece)) : Type 0 where
  pub rest : List (List Piece)
  pub told : Tells members b y rest
  pub len : length rest ≡ length lists
  pub each : (k : ℕ) → k < length lists → get_or lists k [] ≡ part_in given k ++ get_or rest k []
  pub above : (tail : ℕ) → IfSome given (λ g. tail < g.1.tail) → (k : ℕ) → k < length lists → All (λ other. tail < other.tail) (get_or lists k [])

comes_some : {S C : Type 0} (members : StreamsOf S C) (b : C) (y : Ordering S) (i : ℕ) (p : Piece) (lists : List (List Piece)) (rest : List Piece) →
    IsNext lists i p rest → Tells members b y (set lists i rest) → ComesThen members b y (Some (i, p)) lists
comes_some members b y i p lists rest next told = record {
  rest = set lists i rest;
  told = told;
  len = length-set lists i rest;
  each = λ k under. elim (cases_eq k i) [
    | inl same ↦ subst (λ (n : ℕ). get_or lists n [] ≡ part_in (Some (i, p)) n ++ get_or (set lists i rest) n []) (sym same)
        (next.front ∙ sym (ap (λ xs. p ∷ xs) (get_or-set_same lists i rest [] next.within)) ∙ ap (λ xs. xs ++ get_or (set lists i rest) i []) (sym (part_here i p)))
    | inr ne ↦ sym (get_or-set_other lists i k rest [] ne) ∙ ap (λ xs. xs ++ get_or (set lists i rest) k []) (sym (part_else i k p ne))
  ];
  above = λ tail low k under j d below. let least : p.tail ≤ (get_or (get_or lists k []) j d).tail = next.least k under j d below in let low_at : tail < p.tail = low in omega arith;
}

comes_none : {S C : Type 0} (members : StreamsOf S C) (b : C) (y : Ordering S) (lists : List (List Piece)) → AreOver lists → Tells members b y lists →
    ComesThen members b y None lists
comes_none members b y lists over told = record {
  rest = lists;
  told = told;
  len = refl;
  each = λ k under. refl;
  above = λ tail low k under. subst (All (λ (other : Piece). tail < other.tail)) (sym (over k under)) (λ j d below. let no : j < 0 = below in absurd (omega arith));
}

pub comes_then : {S C : Type 0} (members : StreamsOf S C) (faults mark : C → ℕ) (a b : C) (x y : Ordering S) (given : Option (ℕ × Piece)) (lists : List (List Piece)) →
    HasStepped members faults mark a x b y given → Tells members a x lists → ComesThen members b y given lists
comes_then members faults mark a b x y None lists stepped tells = let told = stepped.told lists tells in comes_none members b y lists told.0 told.1
comes_then members faults mark a b x y (Some (i, p)) lists stepped tells = let told = stepped.told lists tells in comes_some members b y i p lists told.0 told.1.0 told.1.1
