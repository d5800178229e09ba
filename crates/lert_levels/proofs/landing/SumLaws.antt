-- A sum that is open behind what was handed on.
use Rattle.std.proofs.Common.{ℕ, ◌≡◌, ◌+◌, ◌<◌, ◌≤◌, List, [], ◌∷◌, ◌++◌, Option, Some, None, refl, ap, sym, ◌∙◌, subst, arith, append_assoc}
use Rattle.std.proofs.lemmas.List.Elements.{All-nil, All-cons, All-head, All-tail, All-append, All-contains, All-weaker, Contains-push}
use Rattle.std.specs.Prelude.{IfSome, IsSomeAnd, option_to_list}
use Rattle.lert_spec.specs.{declared.piece.Piece.Piece, Table.{plus, total, AscendsFrom}}
use Rattle.lert_spec.proofs.Tables.{plus_here, plus_behind}
use Rattle.lert_levels.specs.{declared.landing.sum.Sum.Sum, landing.Whole.{whole, AreBelow, AreUpTo, Takes}}

-- ---- one piece more

-- pieces of lower tails stay as they are
pub plus_past : (front rest : List Piece) (tail n : ℕ) → AreBelow tail front → plus (front ++ rest) tail n ≡ front ++ plus rest tail n
plus_past [] rest tail n below = refl
plus_past (p ∷ front) rest tail n below =
    plus_behind p (front ++ rest) tail n (All-head (λ (q : Piece). q.tail < tail) p front below)
    ∙ ap (λ ps. p ∷ ps) (plus_past front rest tail n (All-tail (λ (q : Piece). q.tail < tail) p front below))

-- a piece behind nothing that is open, behind the sum of its own tail, and behind that of a lower one
pub whole_first : (front : List Piece) (piece : Piece) → AreBelow piece.tail front → (front ++ []) ++ piece ∷ [] ≡ plus (front ++ []) piece.tail piece.count
whole_first front piece below = append_assoc front [] (piece ∷ []) ∙ sym (plus_past front [] piece.tail piece.count below)

pub whole_same : (front : List Piece) (last piece : Piece) → last.tail ≡ piece.tail → AreBelow piece.tail front →
    (front ++ []) ++ record { tail = piece.tail; count = last.count + piece.count } ∷ [] ≡ plus (front ++ last ∷ []) piece.tail piece.count
whole_same front last piece same below =
    append_assoc front [] (record { tail = piece.tail; count = last.count + piece.count } ∷ [])
    ∙ (ap (λ ps. front ++ ps) (sym (plus_here last [] piece.tail piece.count same))
    ∙ sym (plus_past front (last ∷ []) piece.tail piece.count below))

pub whole_next : (front : List Piece) (last piece : Piece) → last.tail < piece.tail → AreBelow piece.tail front →
    (front ++ last ∷ []) ++ piece ∷ [] ≡ plus (front ++ last ∷ []) piece.tail piece.count
whole_next front last piece less below =
    append_assoc front (last ∷ []) (piece ∷ [])
    ∙ (ap (λ ps. front ++ ps) (sym (plus_behind last [] piece.tail piece.count less))
    ∙ sym (plus_past front (last ∷ []) piece.tail piece.count below))

-- ---- the open sum of a list

pub last_up_to : (tail : ℕ) (front : List Piece) (last : Option Piece) → AreUpTo tail (front ++ option_to_list last) → IfSome last (λ (p : Piece). p.tail ≤ tail)
last_up_to tail front None up = tt
last_up_to tail front (Some p) up = All-contains (λ (q : Piece). q.tail ≤ tail) (front ++ p ∷ []) p up (Contains-push front p)

total_push : (front : List Piece) (p : Piece) → p.count ≤ total (front ++ p ∷ [])
total_push [] p = omega arith
total_push (q ∷ front) p = let rest = total_push front p in omega arith

pub last_fits : (limit n : ℕ) (front : List Piece) (last : Option Piece) → total (front ++ option_to_list last) + n < limit → IfSome last (λ (p : Piece). p.count + n < limit)
last_fits limit n front None fits = tt
last_fits limit n front (Some p) fits = omega (arith, fits, total_push front p)

-- all before the open sum stay below a tail that comes
pub front_below : (tail : ℕ) (front : List Piece) (last : Option Piece) → IfSome last (λ (p : Piece). AreBelow p.tail front) → (last ≡ None → front ≡ []) →
    IfSome last (λ (p : Piece). p.tail ≤ tail) → AreBelow tail front
front_below tail front None below begun up = subst (AreBelow tail) (sym (begun refl)) (All-nil (λ (q : Piece). q.tail < tail))
front_below tail front (Some p) below begun up = All-weaker (λ (q : Piece). q.tail < p.tail) (λ (q : Piece). q.tail < tail) (λ q less. omega (arith, less, up)) front below

-- ---- in a table

least_last : (least limit : ℕ) (front : List Piece) (p : Piece) → AscendsFrom least limit (front ++ p ∷ []) → least ≤ p.tail
least_last least limit [] p up = up.0
least_last least limit (q ∷ front) p up = let rest = least_last (q.tail + 1) limit front p up.3 in omega (arith, up.0, rest)

below_last : (least limit : ℕ) (front : List Piece) (p : Piece) → AscendsFrom least limit (front ++ p ∷ []) → AreBelow p.tail front
below_last least limit [] p up = All-nil (λ (q : Piece). q.tail < p.tail)
below_last least limit (q ∷ front) p up =
    let first : q.tail < p.tail = (let rest = least_last (q.tail + 1) limit front p up.3 in omega (arith, rest)) in
    All-cons (λ (r : Piece). r.tail < p.tail) q front first (below_last (q.tail + 1) limit front p up.3)

pub table_below : (limit : ℕ) (front : List Piece) (last : Option Piece) → AscendsFrom 0 limit (front ++ option_to_list last) → IfSome last (λ (p : Piece). AreBelow p.tail front)
table_below limit front None up = tt
table_below limit front (Some p) up = below_last 0 limit front p up

-- ---- totals

-- nothing was taken yet
pub takes_none : {T : Type 0} (took : T → List Piece → Type 0) (totals : T) (sum : Sum) → sum.last ≡ None → took totals [] → Takes took totals sum []
takes_none took totals sum none took_it = record {
  front = [];
  taken = took_it;
  is = ap (λ (o : Option Piece). [] ++ option_to_list o) (sym none);
  below = nothing sum.last;
  begun = λ _. refl;
}
  where
    nothing : (o : Option Piece) → IfSome o (λ (p : Piece). AreBelow p.tail [])
    nothing None = tt
    nothing (Some p) = All-nil (λ (q : Piece). q.tail < p.tail)

-- a sum that began or grew has the tail of the piece
tail_below : (tail : ℕ) (front : List Piece) (last : Option Piece) → IsSomeAnd last (λ (p : Piece). p.tail ≡ tail) → AreBelow tail front →
    IfSome last (λ (p : Piece). AreBelow p.tail front)
tail_below tail front None is below = tt
tail_below tail front (Some p) is below = subst (λ (t : ℕ). AreBelow t front) (sym is) below

pub never_none : (tail : ℕ) (last : Option Piece) → IsSomeAnd last (λ (p : Piece). p.tail ≡ tail) → last ≡ None → ⊥
never_none tail None is none = is
never_none tail (Some p) is none = cc

finished_below : (tail : ℕ) (front : List Piece) (result last : Option Piece) → IfSome result (λ (p : Piece). (last ≡ Some p) × (p.tail < tail)) → AreBelow tail front →
    AreBelow tail (front ++ option_to_list result)
finished_below tail front None last finished below = All-append (λ (q : Piece). q.tail < tail) front [] below (All-nil (λ (q : Piece). q.tail < tail))
finished_below tail front (Some p) last finished below =
    All-append (λ (q : Piece). q.tail < tail) front (p ∷ []) below
    (All-cons (λ (q : Piece). q.tail < tail) p [] finished.1 (All-nil (λ (q : Piece). q.tail < tail)))

-- a piece came, and the sum that is finished was taken
module _ {T : Type 0} (took : T → List Piece → Type 0) (before : T) (old : Sum) (list : List Piece) (piece : Piece) (was : Takes took before old list) (up : AreUpTo piece.tail list) where
  pub takes_fits : (limit : ℕ) → total list + piece.count < limit → IfSome old.last (λ (p : Piece). p.count + piece.count < limit)
  takes_fits limit fits = last_fits limit piece.count was.front old.last (omega (arith, fits, ap total was.is))

  front_before : AreBelow piece.tail was.front
  front_before = front_below piece.tail was.front old.last was.below was.begun (last_up_to piece.tail was.front old.last (subst (AreUpTo piece.tail) was.is up))

  pub last_before : (p : Piece) → old.last ≡ Some p → AreBelow p.tail was.front
  last_before p is = rw is at was.below

  pub takes_more : (after : T) (new : Sum) (result : Option Piece) → took after (was.front ++ option_to_list result) →
      ((front : List Piece) → AreBelow piece.tail front → whole (front ++ option_to_list result) new ≡ plus (whole front old) piece.tail piece.count) →
      IsSomeAnd new.last (λ (p : Piece). p.tail ≡ piece.tail) → IfSome result (λ (p : Piece). (old.last ≡ Some p) × (p.tail < piece.tail)) →
      Takes took after new (plus list piece.tail piece.count)
  takes_more after new result took_it adds last finished = record {
    front = was.front ++ option_to_list result;
    taken = took_it;
    is = ap (λ (ps : List Piece). plus ps piece.tail piece.count) was.is ∙ sym (adds was.front front_before);
    below = tail_below piece.tail (was.front ++ option_to_list result) new.last last (finished_below piece.tail was.front result old.last finished front_before);
    begun = λ none. absurd (never_none piece.tail new.last last none);
  }
