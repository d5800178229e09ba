-- What was asked, handed out and put back.
use Rattle.std.proofs.Common.{◌≡◌, ℕ, ◌+◌, ◌<◌, true, List, [], ◌∷◌, ◌++◌, length, get_or, take, Option, option_map, Some, slice_get, refl, ap, sym, ◌∙◌, subst, arith}
use Rattle.std.proofs.{lemmas.List.{map-append, take_more, take-map}, lemmas.Option.{get_or_from_slice_get, slice_get-get_or, slice_get-map, slice_get_within, same_Some}}
use Rattle.lert_args.specs.{Names.names_of, Word.word_at}
use Rattle.lert_place.specs.{declared.opening.Opening.Opening, Openings.{AreReturned, AreReturnedSame, trace_asked}}
use Rattle.lert_bay.specs.Files.{Files}
use Rattle.lert_ingest.specs.{Bays.{AreLater, AreMarked}, Traces.AreTracesLater, declared.status.Status.Status}
use Rattle.lert_ingest.proofs.BayLaws.{slice_get-some, still_marked}
use Rattle.lert_top.specs.cones.Asked.{IsAskedForBays, traces_opened}
use Rattle.lert_top.proofs.cones.ConeLaws.{none_left}

-- a word is the one at its number
pub word_at-slice_get : (words : List (List ℕ)) (number : ℕ) (word : List ℕ) → slice_get words number ≡ Some word → word ≡ word_at words number
word_at-slice_get words number word at = sym (get_or_from_slice_get words number word [] at)

-- the opening of one trace more
pub opened_more : (words : List (List ℕ)) (places : List ℕ) (number : ℕ) → number < length places →
    traces_opened (names_of words (take (number + 1) places)) ≡ traces_opened (names_of words (take number places)) ++ trace_asked (word_at words (get_or places number 0)) true ∷ []
opened_more words places number below =
    ap (λ ps. traces_opened (names_of words ps)) (take_more places number 0 below)
    ∙ (ap traces_opened (map-append (word_at words) (take number places) (get_or places number 0 ∷ []))
    ∙ map-append (λ name. trace_asked name true) (names_of words (take number places)) (word_at words (get_or places number 0) ∷ []))

-- the name at hand is the next one, and those before it are the first ones
pub name_there : (words : List (List ℕ)) (places : List ℕ) (number : ℕ) → number < length places → slice_get (names_of words places) number ≡ Some (word_at words (get_or places number 0))
name_there words places number below = slice_get-map (word_at words) places number ∙ ap (option_map (word_at words)) (slice_get-get_or places number 0 below)

pub names_before : (words : List (List ℕ)) (places : List ℕ) (number : ℕ) → take number (names_of words places) ≡ names_of words (take number places)
names_before words places number = take-map (word_at words) number places

-- what was put back under its place is what was handed out there
pub all_returned : {T : Type 0} (mark : T → ℕ) (objects handed : List T) (returned : ℕ → Option T) → handed ≡ objects →
    ((number : ℕ) → number < length objects → returned number ≡ slice_get objects number) → AreMarked mark objects → AreReturned mark handed returned
all_returned mark objects handed returned same back marked = λ number within.
    let below : number < length objects = subst (λ (xs : List _). number < length xs) same within in
    let there = slice_get-some objects number below in
    (there.0, back number below ∙ there.1, marked number there.0 there.1)

pub same_returned : {T : Type 0} (objects handed : List T) (returned : ℕ → Option T) → handed ≡ objects →
    ((number : ℕ) → number < length objects → returned number ≡ slice_get objects number) → AreReturnedSame handed returned
same_returned objects handed returned same back = λ number within.
    back number (subst (λ (xs : List _). number < length xs) same within) ∙ ap (λ (xs : List _). slice_get xs number) (sym same)

pub none_returned : {T : Type 0} (mark : T → ℕ) (handed : List T) (returned : ℕ → Option T) → handed ≡ [] → AreReturned mark handed returned
none_returned mark handed returned none = λ number within. absurd (omega (arith, within, ap length none))

pub none_returned_same : {T : Type 0} (handed : List T) (returned : ℕ → Option T) → handed ≡ [] → AreReturnedSame handed returned
none_returned_same handed returned none = λ number within. absurd (omega (arith, within, ap length none))

-- a place that was asked for nothing handed out nothing
pub nothing_handed : {T : Type 0} (granted : List Opening → ℕ) (asked : List Opening) (handed : List T) → length handed ≡ granted asked → granted asked ≡ 0 → handed ≡ []
nothing_handed granted asked handed tied none = none_left handed (tied ∙ none)

pub returned_along : {T : Type 0} (mark : T → ℕ) (handed handed' : List T) (returned returned' : ℕ → Option T) → handed' ≡ handed →
    ((number : ℕ) → returned' number ≡ returned number) →
    AreReturned mark handed returned → AreReturned mark handed' returned'
returned_along mark handed handed' returned returned' same each are = λ number within.
    let back = are number (subst (λ (xs : List _). number < length xs) same within) in
    (back.0, each number ∙ back.1, back.2)

pub returned_same_along : {T : Type 0} (handed handed' : List T) (returned returned' : ℕ → Option T) → handed' ≡ handed → ((number : ℕ) → returned' number ≡ returned number) →
    AreReturnedSame handed returned → AreReturnedSame handed' returned'
returned_same_along handed handed' returned returned' same each are = λ number within.
    each number ∙ (are number (subst (λ (xs : List _). number < length xs) same within) ∙ ap (λ (xs : List _). slice_get xs number) (sym same))

pub all_back : {B : Type 0} (files : B → Option Files) (faults mark : B → ℕ) (bays later handed : List B) (returned : ℕ → Option B) → handed ≡ bays →
    AreLater files faults mark bays later → AreMarked mark bays →
    ((cone : ℕ) → cone < length later → returned cone ≡ slice_get later cone) → AreReturned mark handed returned
all_back files faults mark bays later handed returned same are marked back = λ number within.
    let below : number < length later = omega (arith, within, ap length same, are.number) in
    let there = slice_get-some later number below in
    (there.0, back number below ∙ there.1, still_marked files faults mark bays later are marked number there.0 there.1)

-- traces later
pub traces_same : {S : Type 0} (faults mark : S → ℕ) (traces : List S) → AreTracesLater faults mark traces traces
traces_same faults mark traces = record {
  number = refl;
  each = λ trace before now was is.
      let same = same_Some before now (sym was ∙ is) in
      record { marked = ap mark (sym same); never_falls = let counts = ap faults same in omega (arith, counts) };
}

pub traces_marked : {S : Type 0} (faults mark : S → ℕ) (traces later : List S) → AreTracesLater faults mark traces later → AreMarked mark traces → AreMarked mark later
traces_marked faults mark traces later are marked trace now is =
    let was = slice_get-some traces trace (omega (arith, slice_get_within later trace now is, are.number)) in
    (are.each trace was.0 now was.1 is).marked ∙ marked trace was.0 was.1

pub traces_returned : {S : Type 0} (faults mark : S → ℕ) (traces later handed : List S) (returned : ℕ → Option S) → handed ≡ traces →
    AreTracesLater faults mark traces later → AreMarked mark traces →
    ((trace : ℕ) → trace < length later → returned trace ≡ slice_get later trace) → AreReturned mark handed returned
traces_returned faults mark traces later handed returned same are marked back = λ number within.
    let below : number < length later = omega (arith, within, ap length same, are.number) in
    let there = slice_get-some later number below in
    (there.0, back number below ∙ there.1, traces_marked faults mark traces later are marked number there.0 there.1)

pub asked_along : (dir dir' : List ℕ) (cones : ℕ) (before before' asked asked' : List Opening) (status : Status) → dir ≡ dir' → before ≡ before' → asked ≡ asked' →
    IsAskedForBays dir cones before asked status → IsAskedForBays dir' cones before' asked' status
asked_along dir dir' cones before before' asked asked' status one two three_is are =
    subst (λ d. IsAskedForBays d cones before' asked' status) one (subst (λ b. IsAskedForBays dir cones b asked' status) two
    (subst (λ a. IsAskedForBays dir cones before a status) three_is are))
