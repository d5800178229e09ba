-- A reader of a trace, one call later.
use Rattle.std.proofs.Common.{◌≡◌, ℕ, ◌+◌, ◌-◌, ◌<◌, ◌≤◌, List, [], ◌∷◌, ◌++◌, length, take, drop, Option, Some, None, slice_get, refl, ap, sym, ◌∙◌, subst, arith, length-drop}
use Rattle.std.proofs.{lemmas.List.{take_more, get_or-drop, length_push}, lemmas.Option.{get_or_from_slice_get, slice_get_within}}
use Rattle.std.specs.Prelude.{IfSome}
use Rattle.lert_io.specs.Reading.{IfTold}
use Rattle.lert_spec.specs.declared.item.Item.{Item}
use Rattle.lert_trace.specs.{Trace.whole, Reader.{IsTraceOf, Means, Reading}, declared.fault.TraceFault.TraceFault}
use Rattle.lert_base.specs.declared.cone_fault.ConeFault.{ConeFault}
use Rattle.lert_worker.specs.{Ends.{IsAtEnd, WasRead}, Trace.{EndsBy, IsByCone, IsNamed}, declared.end.WorkerEnd.WorkerEnd, declared.end.WorkerEnd.TheVariants.Cone}

-- the next of some items
taken_more : (all : List Item) (from n : ℕ) (item : Item) → slice_get all (from + n) ≡ Some item → take (n + 1) (drop from all) ≡ take n (drop from all) ++ item ∷ []
taken_more all from n item at =
    let within = slice_get_within all (from + n) item at in
    take_more (drop from all) n item (omega (arith, within, length-drop from all))
    ∙ ap (λ (i : Item). take n (drop from all) ++ i ∷ []) (get_or-drop from all n item ∙ get_or_from_slice_get all (from + n) item item at)

none_some : {A B : Type 0} (o : Option A) (x : A) → o ≡ None → o ≡ Some x → B
none_some o x none some = absurd (cc)

module _ {S : Type 0} (remaining : S → Option (List ℕ)) (faults mark : S → ℕ) where
  pub was_none : (reading : Reading S) → (reading.fault ≡ None → (fault : TraceFault) → reading.fault ≡ Some fault
      → Means remaining faults reading.made reading.source reading.limit reading.given fault) → WasRead remaining faults mark reading reading []
  was_none reading caused = record {
    made_is = refl;
    limit_is = refl;
    given_is = omega arith;
    within = λ few. few;
    told = λ bytes was. refl;
    marked = refl;
    never_falls = omega arith;
    caused = caused;
  }

  pub was_new : (reading : Reading S) → WasRead remaining faults mark reading reading []
  was_new reading = was_none reading (λ none fault is. none_some reading.fault fault none is)

  module _ (old mid new : Reading S) (items : List Item) (was : WasRead remaining faults mark old mid items)
      (made : new.made ≡ mid.made) (limit : new.limit ≡ mid.limit) (falls : faults mid.source ≤ faults new.source) (marked : mark new.source ≡ mark mid.source) where
    -- it gave an item
    pub was_more : (item : Item) → new.given ≡ mid.given + 1 → new.given ≤ new.limit
        → IfTold (remaining mid.made) (λ bytes. slice_get (whole bytes) mid.given ≡ Some item) → new.fault ≡ None
        → WasRead remaining faults mark old new (items ++ item ∷ [])
    was_more item given few at sound = record {
      made_is = made ∙ was.made_is;
      limit_is = limit ∙ was.limit_is;
      given_is = omega (arith, given, was.given_is, length_push items item);
      within = λ _. few;
      told = λ bytes told.
          let place = ap (slice_get (whole bytes)) (sym was.given_is) ∙ at bytes (ap remaining was.made_is ∙ told) in
          let more = taken_more (whole bytes) old.given (length items) item place in
          ap (λ (xs : List Item). xs ++ item ∷ []) (was.told bytes told) ∙ (sym more ∙ ap (λ n. take n (drop old.given (whole bytes))) (sym (length_push items item)));
      marked = marked ∙ was.marked;
      never_falls = omega (arith, was.never_falls, falls);
      caused = λ none fault is. none_some new.fault fault sound is;
    }

    -- it gave none
    pub was_still : new.given ≡ mid.given → ((fault : TraceFault) → new.fault ≡ Some fault → Means remaining faults new.made new.source new.limit new.given fault)
        → WasRead remaining faults mark old new items
    was_still given caused = record {
      made_is = made ∙ was.made_is;
      limit_is = limit ∙ was.limit_is;
      given_is = given ∙ was.given_is;
      within = λ few. let more = was.within few in omega (arith, given, limit, more);
      told = was.told;
      marked = marked ∙ was.marked;
      never_falls = omega (arith, was.never_falls, falls);
      caused = λ _. caused;
    }

    pub was_ended : new.given ≡ mid.given → new.fault ≡ None → WasRead remaining faults mark old new items
    was_ended given sound = was_still given (λ fault is. none_some new.fault fault sound is)

-- an item less is left
pub fewer_left : (next : Option Item) (item : Item) (limit most given then : ℕ) → next ≡ Some item → most ≡ limit → IfSome next (λ _. (then ≡ given + 1) × (then ≤ most))
    → most - then < limit - given
fewer_left next item limit most given then is limit_is counted =
    let both = subst (λ (o : Option Item). IfSome o (λ _. (then ≡ given + 1) × (then ≤ most))) is counted in
    let one = both.0 in
    let within = both.1 in
    omega (arith, limit_is, one, within)

-- a reader that answered the end of its trace stands there
pub at_end : {S : Type 0} (remaining : S → Option (List ℕ)) (mid new : Reading S) → new.made ≡ mid.made → new.given ≡ mid.given → new.fault ≡ None
    → IfTold (remaining mid.made) (λ bytes. IsTraceOf bytes mid.given × (remaining new.source ≡ Some [])) → IsAtEnd remaining new
at_end remaining mid new made given sound end = record {
  sound = sound;
  told = λ bytes was. subst (IsTraceOf bytes) (sym given) (end bytes (ap remaining (sym made) ∙ was)).0;
  read = λ bytes was. (end bytes (ap remaining (sym made) ∙ was)).1;
}

-- a cone's refusal leaves the reader without a fault
pub ends_by_cone : {S : Type 0} (remaining : S → Option (List ℕ)) (end : WorkerEnd) (trace : ℕ) (now : Reading S)
    → (cones : ℕ) → IsByCone cones end → now.fault ≡ None → EndsBy remaining end trace now
ends_by_cone remaining end trace now cones by_cone sound = subst (λ e. EndsBy remaining e trace now) (sym by_cone.is) sound

cone_same : (a b : ℕ) (f g : ConeFault) → Cone a f ≡ Cone b g → a ≡ b
cone_same a b f g is = cc

pub named_by_cone : (end : WorkerEnd) (cones : ℕ) → IsByCone cones end → IsNamed end cones
named_by_cone end cones by_cone = λ cone fault is.
    let same : by_cone.cone ≡ cone = cone_same by_cone.cone cone by_cone.fault fault (sym by_cone.is ∙ is) in
    let named = by_cone.named in
    omega (arith, same, named)
