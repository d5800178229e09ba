-- A piece is taken, of the tail in hand.
use Rattle.std.proofs.Common.{◌≡◌, ℕ, ◌+◌, ◌<◌, ◌≤◌, ◌⊎◌, Option, Some, None, List, [], ◌∷◌, ◌++◌, length, get_or, arith, sym}
use Rattle.std.proofs.Common.{ap, ap₂, ◌∙◌, refl, subst, false, inl, inr, append-nil, append_assoc, length-append}
use Rattle.std.proofs.lemmas.Bool.{cases_eq}
use Rattle.lert_spec.specs.declared.piece.Piece.{Piece}
use Rattle.lert_merge.specs.order.Fronts.{pieces_of, front_at}
use Rattle.lert_merge.specs.order.Ordering.{Ordering, HasTaken, part_in}
use Rattle.lert_merge.specs.declared.order.streams.Streams.{Ghosts as StreamsOf}
use Rattle.lert_merge.proofs.order.FrontLemmas.{pieces_some, pieces_none}
use Rattle.lert_merge.proofs.order.GiveLemmas.{part_here, part_else}
use Rattle.lert_merge.proofs.order.OrderLemmas.{ascends_last}
use Rattle.lert_merge.specs.declared.sums.Giver.{Giver}
use Rattle.lert_merge.specs.Givers.{share_in, AreGivers}
use Rattle.lert_merge.specs.Merging.{Merging, IsMerging, IsPart, Keeps, TellsSums, taken_of}
use Rattle.lert_merge.proofs.GiverLemmas.{share_here, share_else, share_none, givers_push, givers_less}
use Rattle.lert_merge.proofs.StepLemmas.{HasStepped, comes_then}

-- a merge after its order gave this piece, which was taken
abbrev pub taken_after : {S : Type 0} → Merging S → Ordering S → ℕ → Piece → Merging S
taken_after m y i p = record {
  order = y;
  sums = record { given = m.sums.given; taken = m.sums.taken ++ record { stream = i; count = p.count } ∷ []; tail = p.tail; last = m.sums.last; room = m.sums.room };
  is_over = m.is_over;
}

-- nothing is in hand, or something of this tail
abbrev pub IsOwn : {S : Type 0} → Merging S → ℕ → Type 0
IsOwn m tail = (m.sums.taken ≡ []) ⊎ (tail ≡ m.sums.tail)

-- what a step leaves of the parts that are in hand
pub part_on : {S C : Type 0} (members : StreamsOf S C) (faults mark : C → ℕ) (a b : C) (x y : Ordering S) (given : Option (ℕ × Piece)) (tail k share : ℕ) →
    HasStepped members faults mark a x b y given → k < members.count x.streams → part_in given k ≡ [] → IsPart members x tail k share → IsPart members y tail k share
part_on members faults mark a b x y given tail k share stepped under none part = record {
  front = part.front;
  taken = subst (HasTaken members y k) (ap (λ xs. (part.front ++ record { tail = tail; count = share } ∷ []) ++ xs) none ∙
      append-nil (part.front ++ record { tail = tail; count = share } ∷ []))
      (stepped.taken k (part.front ++ record { tail = tail; count = share } ∷ []) under part.taken);
  below = let same : members.limit y.streams k ≡ members.limit x.streams k = stepped.same.limits k under in
      let low : tail < members.limit x.streams k = part.below in omega arith;
}

no_giver : (givers : List Giver) → length givers ≡ 0 → givers ≡ []
no_giver [] none = refl
no_giver (x ∷ givers) none = absurd (omega arith)

pushed_some : (givers : List Giver) (giver : Giver) → (givers ++ giver ∷ []) ≡ [] → ⊥
pushed_some givers giver empty = let long : length (givers ++ giver ∷ []) ≡ length givers + 1 = length-append givers (giver ∷ []) in
    let none : length (givers ++ giver ∷ []) ≡ 0 = ap length empty in omega arith

-- where a stream has a part in hand, the tail in hand is this one
own_tail : {S : Type 0} (m : Merging S) (tail k : ℕ) → IsOwn m tail → 1 ≤ share_in m.sums.taken k → tail ≡ m.sums.tail
own_tail m tail k own some = elim own [
  | inl empty ↦ let none : share_in m.sums.taken k ≡ 0 = share_none m.sums.taken k empty in absurd (omega arith)
  | inr same ↦ same
]

module _ {S C : Type 0} (members : StreamsOf S C) (faults mark : C → ℕ) (a b : C) (m : Merging S) (y : Ordering S) (i : ℕ) (p : Piece) (is : IsMerging members m)
    (stepped : HasStepped members faults mark a m.order b y (Some (i, p))) where
  pub within : i < members.count m.order.streams
  within = let same : members.count y.streams ≡ members.count m.order.streams = stepped.same.streams in
      let inside : i < members.count y.streams = stepped.below.within in omega arith

  -- no stream gives a tail twice
  pub not_yet : IsOwn m p.tail → share_in m.sums.taken i ≡ 0
  not_yet own = elim (cases_eq (share_in m.sums.taken i) 0) [
    | inl none ↦ none
    | inr ne ↦ elim own [
      | inl empty ↦ share_none m.sums.taken i empty
      | inr same ↦ let part = is.parts i within (omega arith) in
          let up : m.sums.tail < p.tail = ascends_last 0 (members.limit y.streams i) part.front (record { tail = m.sums.tail; count = share_in m.sums.taken i }) p
          (stepped.ascending (part.front ++ record { tail = m.sums.tail; count = share_in m.sums.taken i } ∷ []) part.taken).table in absurd (omega arith)
    ]
  ]

  -- so there is room for it
  pub has_room : IsOwn m p.tail → (length m.sums.taken < m.sums.room) × (length m.sums.taken < 65535)
  has_room own = let less : length m.sums.taken < members.count m.order.streams = givers_less (members.count m.order.streams) m.sums.taken i is.givers within (not_yet own) in
      let room : members.count m.order.streams ≤ m.sums.room = is.room in let few : members.count m.order.streams ≤ 65535 = is.few in (omega arith, omega arith)

  -- what was taken of a stream, after this piece was
  same_part : IsOwn m p.tail → (k : ℕ) → pieces_of p.tail (share_in m.sums.taken k) ≡ taken_of m k
  same_part own k = elim own [
    | inl empty ↦ let none : share_in m.sums.taken k ≡ 0 = share_none m.sums.taken k empty in
        pieces_none p.tail (share_in m.sums.taken k) none ∙ sym (pieces_none m.sums.tail (share_in m.sums.taken k) none)
    | inr same ↦ ap (λ tail. pieces_of tail (share_in m.sums.taken k)) same
  ]

  part_after : IsOwn m p.tail → (k : ℕ) → taken_of (taken_after m y i p) k ≡ taken_of m k ++ part_in (Some (i, p)) k
  part_after own k = let giver : Giver = record { stream = i; count = p.count } in elim (cases_eq k i) [
    | inl same ↦ let none = not_yet own in
        subst (λ (n : ℕ). taken_of (taken_after m y i p) n ≡ taken_of m n ++ part_in (Some (i, p)) n) (sym same)
        (ap (λ share. pieces_of p.tail share) (share_here m.sums.taken giver is.givers.counted none) ∙ pieces_some p.tail p.count stepped.small.0 ∙
        sym (ap₂ (λ xs ys. xs ++ ys) (pieces_none m.sums.tail (share_in m.sums.taken i) none) (part_here i p)))
    | inr ne ↦ ap (λ share. pieces_of p.tail share) (share_else m.sums.taken giver k ne) ∙ same_part own k ∙ sym (append-nil (taken_of m k)) ∙
        ap (λ xs. taken_of m k ++ xs) (sym (part_else i k p ne))
  ]

  pub keeps_taken : IsOwn m p.tail → Keeps members m (taken_after m y i p)
  keeps_taken own = record {
    taken = λ k pieces under was. stepped.taken k (pieces ++ taken_of m k) under was ∙ ap (λ xs. xs ++ front_at y.ahead k)
        (append_assoc pieces (taken_of m k) (part_in (Some (i, p)) k) ∙ ap (λ xs. pieces ++ xs) (sym (part_after own k)));
    last = refl;
    shares = λ k. refl;
  }

  pub told_taken : IsOwn m p.tail → (lists : List (List Piece)) → TellsSums members a m lists → TellsSums members b (taken_after m y i p) lists
  told_taken own lists tells =
      let come = comes_then members faults mark a b m.order y (Some (i, p)) tells.rest stepped tells.told in record {
        rest = come.rest;
        told = come.told;
        len = tells.len ∙ sym come.len;
        each = λ k under. tells.each k under ∙ ap (λ xs. taken_of m k ++ xs) (come.each k (omega (arith, tells.len))) ∙
            sym (append_assoc (taken_of m k) (part_in (Some (i, p)) k) (get_or come.rest k [])) ∙ ap (λ xs. xs ++ get_or come.rest k []) (sym (part_after own k));
      }

  -- the stream whose piece was taken
  pub part_new : IsPart members y p.tail i p.count
  part_new = let before = stepped.held i within in record {
    front = before.0;
    taken = subst (λ xs. HasTaken members y i (before.0 ++ xs)) (part_here i p) (stepped.taken i before.0 within before.1);
    below = stepped.below.below;
  }

  -- a tail in hand is above the one given last
  above_own : IsOwn m p.tail → m.is_over ≡ false → (last : ℕ) → m.sums.last ≡ Some last → last < p.tail
  above_own own going last was = elim own [
    | inl empty ↦ let none : m.sums.last ≡ None = is.first empty going in absurd (cc (none, was))
    | inr same ↦ elim (cases_eq (length m.sums.taken) 0) [
      | inl none ↦ let first : m.sums.last ≡ None = is.first (no_giver m.sums.taken none) going in absurd (cc (first, was))
      | inr ne ↦ let up : last < m.sums.tail = is.above (omega arith) last was in omega arith
    ]
  ]

  pub stands_taken : IsOwn m p.tail → m.is_over ≡ false → IsMerging members (taken_after m y i p)
  stands_taken own going = let giver : Giver = record { stream = i; count = p.count } in
      let same : members.count y.streams ≡ members.count m.order.streams = stepped.same.streams in
      let none = not_yet own in record {
        few = omega (arith, is.few);
        room = omega (arith, is.room);
        same_room = stepped.same.room ∙ is.same_room;
        givers = subst (λ n. AreGivers n (m.sums.taken ++ giver ∷ [])) (sym same)
            (givers_push (members.count m.order.streams) m.sums.taken giver is.givers within none stepped.small.0);
        parts = λ k under some. elim (cases_eq k i) [
          | inl here ↦ subst (λ (n : ℕ). IsPart members y p.tail n (share_in (m.sums.taken ++ giver ∷ []) n)) (sym here)
              (subst (IsPart members y p.tail i) (sym (share_here m.sums.taken giver is.givers.counted none)) part_new)
          | inr ne ↦ let share : share_in (m.sums.taken ++ giver ∷ []) k ≡ share_in m.sums.taken k = share_else m.sums.taken giver k ne in
              let was : 1 ≤ share_in m.sums.taken k = omega (arith, some, share) in let inside : k < members.count m.order.streams = omega (arith, under, same) in
              subst (IsPart members y p.tail k) (sym share) (part_on members faults mark a b m.order y (Some (i, p)) p.tail k (share_in m.sums.taken k) stepped inside
              (part_else i k p ne) (subst (λ tail. IsPart members m.order tail k (share_in m.sums.taken k)) (sym (own_tail m p.tail k own was)) (is.parts k inside was)))
        ];
        last = λ some. stepped.last;
        above = λ some. above_own own going;
        first = λ empty. absurd (pushed_some m.sums.taken giver empty);
        over = λ over. absurd (cc (over, going));
      }
