-- One stream of a set is asked, and the others stay.
use Rattle.std.proofs.{Common.{◌≡◌, ◌≢◌, ℕ, ◌<◌, ◌↔◌, Option, Some, None, List, [], ◌∷◌, ◌++◌, sym, ap, ◌∙◌, refl, subst, inl, inr, ◌⊎◌, MatchOption, option_to_list, append-nil}, lemmas.Bool.cases_eq}
use Rattle.lert_spec.specs.{declared.piece.Piece.Piece, Table.AreGiven}
use Rattle.lert_merge.specs.{order.Fronts.{Fronts, front_at}, order.Ordering.{Ordering, none_of, Gives, AllGive, Breaks}, order.Untouched.IsUntouched}
use Rattle.lert_merge.specs.declared.order.streams.Streams.{Ghosts as StreamsOf}

-- what holds of the stream that was asked, and of each other, holds of each
pub each_number : (Q : ℕ → Type 0) (i : ℕ) → Q i → ((k : ℕ) → k ≢ i → Q k) → (k : ℕ) → Q k
each_number Q i here others k = elim (cases_eq k i) [
  | inl same ↦ subst Q (sym same) here
  | inr ne ↦ others k ne
]

pub none_or : {X : Type 0} (o : Option X) → (o ≡ None) ⊎ ((x : X) × (o ≡ Some x))
none_or None = inl refl
none_or (Some x) = inr (x, refl)

-- the laws that each set of streams keeps
pub record AreLawful {S C : Type 0} (members : StreamsOf S C) : Type 0 where
  pub in_order : (streams : S) (k : ℕ) (ctx : C) (pieces : List Piece) → k < members.count streams → members.to_come streams k ctx ≡ Some pieces →
      AreGiven (members.limit streams k) (members.given streams k ++ pieces)
  pub keeps_same : (ctx : C) → members.keeps ctx ctx
  pub keeps_on : (a b c : C) → members.keeps a b → members.keeps b c → members.keeps a c
  pub keeps_told : (streams : S) (k : ℕ) (a b : C) (ps : List Piece) → members.keeps a b → members.to_come streams k a ≡ Some ps → members.to_come streams k b ≡ Some ps
  pub keeps_untold : (streams : S) (k : ℕ) (a b : C) → members.keeps a b → members.to_come streams k a ≡ None → members.to_come streams k b ≡ None
  pub keeps_breaks : (streams : S) (k : ℕ) (a b : C) (at : ℕ) → members.keeps a b → members.breaks streams k b at ↔ members.breaks streams k a at
  pub keeps_tells : (a b : C) → members.keeps a b → members.tells b → members.tells a
  pub same_self : (streams : S) → members.same streams streams
  pub same_on : (a b c : S) → members.same a b → members.same b c → members.same a c

-- what a stream's answer says
pub record IsAsked {S C : Type 0} (members : StreamsOf S C) (i : ℕ) (before : C) (old : S) (after : C) (new : S) (next : Option Piece) : Type 0 where
  pub told : (ps : List Piece) → members.to_come old i before ≡ Some ps → MatchOption next ((ps ≡ []) × (members.to_come new i after ≡ Some []))
      (λ p. (rest : List Piece) × (ps ≡ p ∷ rest) × (members.to_come new i after ≡ Some rest))
  pub untold : members.to_come old i before ≡ None → members.to_come new i after ≡ None
  pub ended : members.tells before → next ≡ None → members.to_come old i before ≡ Some []
  pub gave : members.given new i ≡ members.given old i ++ option_to_list next
  pub are : AreGiven (members.limit new i) (members.given new i)
  pub limits : members.limit new i ≡ members.limit old i
  pub same_breaks : (at : ℕ) → members.breaks new i after at ↔ members.breaks old i before at

-- what a refusal says of the stream that was asked
pub record IsRefused {S C : Type 0} (members : StreamsOf S C) (i : ℕ) (before : C) (old : S) (after : C) (new : S) : Type 0 where
  pub gave : members.given new i ≡ members.given old i
  pub untold : members.to_come old i before ≡ None → members.to_come new i after ≡ None
  pub limits : members.limit new i ≡ members.limit old i
  pub same_breaks : (at : ℕ) → members.breaks new i after at ↔ members.breaks old i before at

-- what a call leaves of the set, whatever it answers
pub record IsCalled {S C : Type 0} (members : StreamsOf S C) (i : ℕ) (before : C) (old : S) (after : C) (new : S) : Type 0 where
  pub others : (k : ℕ) → k ≢ i → IsUntouched members.to_come members.given members.limit members.breaks old new k
  pub counts : members.count new ≡ members.count old
  pub set : members.same old new
  pub kept : members.keeps before after

module _ {S C : Type 0} (members : StreamsOf S C) (laws : AreLawful members) where
  -- a stream that was not asked
  pub other_told : (a b : C) (old new : S) (k : ℕ) (ps : List Piece) → IsUntouched members.to_come members.given members.limit members.breaks old new k →
      members.keeps a b → members.to_come old k a ≡ Some ps → members.to_come new k b ≡ Some ps
  other_told a b old new k ps same kept told = same.coming b ∙ laws.keeps_told old k a b ps kept told

  pub other_untold : (a b : C) (old new : S) (k : ℕ) → IsUntouched members.to_come members.given members.limit members.breaks old new k →
      members.keeps a b → members.to_come old k a ≡ None → members.to_come new k b ≡ None
  other_untold a b old new k same kept none = same.coming b ∙ laws.keeps_untold old k a b kept none

  -- where it was told, it still is
  pub other_known : (a b : C) (old new : S) (k : ℕ) → IsUntouched members.to_come members.given members.limit members.breaks old new k →
      members.keeps a b → members.to_come new k b ≡ None → members.to_come old k a ≡ None
  other_known a b old new k same kept none = elim (none_or (members.to_come old k a)) [
    | inl is ↦ is
    | inr some ↦ let told : members.to_come new k b ≡ Some some.0 = other_told a b old new k some.0 same kept some.1 in absurd (cc (told, none))
  ]

  pub other_breaks : (a b : C) (old new : S) (k at : ℕ) → IsUntouched members.to_come members.given members.limit members.breaks old new k →
      members.keeps a b → members.breaks new k b at ↔ members.breaks old k a at
  other_breaks a b old new k at same kept =
      ((λ x. (laws.keeps_breaks old k a b at kept).0 ((same.breaking b at).0 x)), (λ x. (same.breaking b at).1 ((laws.keeps_breaks old k a b at kept).1 x)))

  -- it gives nothing
  gives_other : (a b : C) (before after : Ordering S) (k : ℕ) → IsUntouched members.to_come members.given members.limit members.breaks before.streams after.streams k →
      front_at after.ahead k ≡ front_at before.ahead k → members.keeps a b → Gives members k [] a before b after
  gives_other a b before after k same front kept = record {
    taken = λ pieces is. same.pieces ∙ is ∙ ap (λ xs. xs ++ front_at before.ahead k) (sym (append-nil pieces)) ∙ ap (λ xs. (pieces ++ []) ++ xs) (sym front);
    untold = other_untold a b before.streams after.streams k same kept;
    limits = same.limits;
    same_breaks = λ at. other_breaks a b before.streams after.streams k at same kept;
  }

  -- a stream gives its part, and its answer is read ahead
  pub gives_next : (part : List Piece) (a b : C) (before after : Ordering S) (i : ℕ) (next : Option Piece) → front_at before.ahead i ≡ part →
      front_at after.ahead i ≡ option_to_list next → IsAsked members i a before.streams b after.streams next → Gives members i part a before b after
  gives_next part a b before after i next at put asked = record {
    taken = λ pieces is. asked.gave ∙ ap (λ xs. xs ++ option_to_list next) (is ∙ ap (λ xs. pieces ++ xs) at) ∙ ap (λ xs. (pieces ++ part) ++ xs) (sym put);
    untold = asked.untold;
    limits = asked.limits;
    same_breaks = asked.same_breaks;
  }

  -- a stream that refused gives nothing
  gives_refused : (a b : C) (before after : Ordering S) (i : ℕ) → front_at after.ahead i ≡ front_at before.ahead i →
      IsRefused members i a before.streams b after.streams → Gives members i [] a before b after
  gives_refused a b before after i front refused = record {
    taken = λ pieces is. refused.gave ∙ is ∙ ap (λ xs. xs ++ front_at before.ahead i) (sym (append-nil pieces)) ∙ ap (λ xs. (pieces ++ []) ++ xs) (sym front);
    untold = refused.untold;
    limits = refused.limits;
    same_breaks = refused.same_breaks;
  }

  -- one stream gives its part, and the others are as they were
  pub all_give : (part : ℕ → List Piece) (a b : C) (before after : Ordering S) (i : ℕ) → IsCalled members i a before.streams b after.streams →
      after.ahead.room ≡ before.ahead.room → ((k : ℕ) → k ≢ i → front_at after.ahead k ≡ front_at before.ahead k) → ((k : ℕ) → k ≢ i → part k ≡ []) →
      Gives members i (part i) a before b after → AllGive members part a before b after
  all_give part a b before after i called room fronts none here = record {
    streams = called.counts;
    room = room;
    kept = called.set;
    each = λ k under. each_number (λ k. Gives members k (part k) a before b after) i here
        (λ k ne. subst (λ xs. Gives members k xs a before b after) (sym (none k ne)) (gives_other a b before after k (called.others k ne) (fronts k ne) called.kept)) k;
  }

  -- a stream refused: none gives anything, also where the order that was asked is seen as another
  pub all_refused : (a b : C) (before seen after : Ordering S) (i : ℕ) → before ≡ seen → IsCalled members i a before.streams b after.streams →
      after.ahead ≡ before.ahead → IsRefused members i a before.streams b after.streams → AllGive members none_of a seen b after
  all_refused a b before seen after i is called ahead refused = subst (λ (m : Ordering S). AllGive members none_of a m b after) is
      (all_give none_of a b before after i called (ap (λ (fronts : Fronts). fronts.room) ahead)
      (λ k ne. ap (λ (fronts : Fronts). front_at fronts k) ahead) (λ k ne. refl)
      (gives_refused a b before after i (ap (λ (fronts : Fronts). front_at fronts i) ahead) refused))

-- a stream that leaves its format
pub breaks_at : {S C : Type 0} (members : StreamsOf S C) (ctx : C) (order before : Ordering S) (i at : ℕ) → order ≡ before → i < members.count order.streams →
    (members.to_come order.streams i ctx ≡ None) × members.breaks order.streams i ctx at → Breaks members ctx before.streams at
breaks_at {S} members ctx order before i at seen within both =
    subst (λ (m : Ordering S). Breaks members ctx m.streams at) seen (record { stream = i; within = within; untold = both.0; at_it = both.1 })
