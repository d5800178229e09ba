-- How the calls that read traces into cones end.
use Rattle.std.proofs.Common.{◌≡◌, ℕ, ◌%◌, ◌^◌, ◌<◌, ◌≤◌, List, length, min, Option, Result, Ok, Err, refl, ap, sym, ◌∙◌, subst, arith}
use Rattle.std.proofs.{Math.Nat.le-min, lemmas.List.length-map, lemmas.Option.{same_Some, slice_get_within}}
use Rattle.std.specs.Prelude.{IfErr, IfOk}
use Rattle.lert_base.specs.{declared.held.Held.{Ghosts as HeldOf}, Packet.Packet, declared.cone_fault.ConeFault.ConeFault}
use Rattle.lert_bay.specs.Files.{Files}
use Rattle.lert_cone.specs.Stands.{Standing, Terms}
use Rattle.lert_fleet.proofs.Places.{image_at}
use Rattle.lert_worker.proofs.crew.Lists.{same_lists}
use Rattle.lert_spec.specs.declared.numbers.Numbers.{Numbers}
use Rattle.lert_trace.specs.Reader.{Reading}
use Rattle.lert_worker.specs.{crew.Crewed.{HasCrewed, end_at}, declared.end.WorkerEnd.WorkerEnd}
use Rattle.lert_ingest.specs.{Back.AreSeen, Cones.{AreHeld, mades_of}, Ingest.{HasIngestedBehind, answer_of, first_of_all}, Past.past_of}
use Rattle.lert_ingest.specs.{Readers.{AreReadable, given_of, opened_of, sources_of}, declared.status.Status.Status}
use Rattle.lert_ingest.specs.declared.status.Status.TheVariants as status
use Rattle.lert_ingest.proofs.{Assembling.{ingested, untouched}, Crewed.Crewed, Ended.{IsConeHeld, is_back}, Fewer.{ingested_fewer, same_workers}, Starting.{are_begun, seen_later}}

-- a run leaves of which traces its readers are
made_same : {S H T R : Type 0} (remaining : S → Option (List ℕ)) (faults mark : S → ℕ) (held : HeldOf H T R ConeFault) (s : Numbers) (olds news : List (Reading S)) (firsts backs : List H)
    (ends : List WorkerEnd) → 1 ≤ length ends → HasCrewed remaining faults mark held s olds news firsts backs ends → opened_of news ≡ opened_of olds
made_same {S = S} remaining faults mark held s olds news firsts backs ends some crewed =
    same_lists (opened_of news) (opened_of olds)
    (length-map news (λ (r : Reading S). r.made) ∙ (crewed.read_by.number ∙ sym (length-map olds (λ (r : Reading S). r.made)))) (λ trace x y is there.
    let new = image_at (λ (r : Reading S). r.made) news trace x is in
    let old = image_at (λ (r : Reading S). r.made) olds trace y there in
    let below : trace % length ends < length ends = omega (arith, some) in
    let place = (crewed.read_by.shared (trace % length ends) below).all trace (slice_get_within olds trace old.0 old.1) refl in
    let at = crewed.read_by.each (trace % length ends) place.0 trace below place.1 in
    let of = at.4 in
    sym new.2 ∙ (ap (λ (r : Reading S). r.made) (same_Some new.0 at.0 (sym new.1 ∙ of.is))
    ∙ (of.read_is.made_is ∙ (ap (λ (r : Reading S). r.made) (same_Some of.before old.0 (sym of.was ∙ old.1)) ∙ old.2))))

module _ {S B R : Type 0} (remaining : S → Option (List ℕ)) (s_faults s_mark : S → ℕ) (files : B → Option Files) (leaves : B → Files → Type 0) (b_faults b_mark : B → ℕ)
    (held : HeldOf (Standing B) (Terms B) R ConeFault) (is_held : IsConeHeld files leaves b_faults b_mark held) (s : Numbers) (before : ℕ → List Packet) (olds : List (Reading S))
    (readable : AreReadable olds) (firsts : List (Standing B)) (cones_are : length firsts ≡ 2 ^ s.cone_bits) (new : AreHeld files leaves b_faults s before firsts) where
  -- a crew that ran, as what knows cones and traces sees it
  abbrev crew_of : (ends : List WorkerEnd) → 1 ≤ length ends → (news : List (Reading S)) (backs : List (Standing B)) →
      HasCrewed remaining s_faults s_mark held s olds news firsts backs ends → AreSeen files b_faults b_mark backs → Crewed S B
  crew_of ends some news backs crewed seen = record {
    read = record {
      remaining = remaining;
      s_faults = s_faults;
      s_mark = s_mark;
      workers = length ends;
      some = some;
      opened = opened_of olds;
      given = given_of olds;
      were = sources_of olds;
      laters = sources_of news;
      olds = olds;
      news = news;
      olds_number = sym (length-map olds (λ (r : Reading S). r.made));
      olds_are = are_begun olds readable;
      were_are = refl;
      laters_are = refl;
      shares = crewed.shares;
      reads = crewed.reads;
      was = crewed.was;
      readings = crewed.readings;
      places = crewed.places;
      stopped = crewed.stopped;
      ends = end_at ends;
      run = crewed.read_by;
    };
    files = files;
    leaves = leaves;
    b_faults = b_faults;
    b_mark = b_mark;
    s = s;
    before = before;
    firsts = firsts;
    backs = backs;
    added = crewed.added;
    turned = crewed.turned;
    left_by = record {
      cones_are = cones_are;
      number = crewed.left_by.number;
      each = λ cone first closed first_is closed_is. is_back files leaves b_faults b_mark held is_held s (length ends) cone (before cone) (crewed.added cone) (crewed.turned cone) first closed
          (new cone first first_is) (crewed.left_by.each cone first closed first_is closed_is) (seen cone closed closed_is);
      left = crewed.left_by.left;
      named = crewed.left_by.named;
    };
  }

  -- what is behind
  abbrev pub Ingested : ℕ → List S → List (Standing B) → Result (Unit {0}) Status → Type 0
  Ingested workers laters backs result = HasIngestedBehind (past_of s (given_of olds) before) remaining s_faults s_mark files leaves b_faults b_mark s workers (opened_of olds) (sources_of olds)
      laters (mades_of firsts) firsts backs result

  -- the answer of a crew that ran
  answered : (workers : ℕ) (ends : List WorkerEnd) → length ends ≡ min workers (length olds) → 1 ≤ workers → 1 ≤ length olds → (news : List (Reading S)) (backs : List (Standing B)) →
      HasCrewed remaining s_faults s_mark held s olds news firsts backs ends → AreSeen files b_faults b_mark backs → Ingested workers (sources_of news) backs (answer_of (first_of_all ends backs))
  answered workers ends busy one some news backs crewed seen =
      ingested_fewer s (length ends) workers (past_of s (given_of olds) before) remaining s_faults s_mark files leaves b_faults b_mark (opened_of olds) (sources_of olds) (sources_of news)
      (same_workers (length ends) workers (length (opened_of olds)) (busy ∙ ap (min workers) (sym (length-map olds (λ (r : Reading S). r.made)))))
      (mades_of firsts) firsts backs (answer_of (first_of_all ends backs))
      (ingested (crew_of ends (let least = le-min one some in omega (arith, busy, least)) news backs crewed seen) (first_of_all ends backs) refl)

  -- the answer, whether a crew ran or not, by readers and cones as the calls show them
  module _ {V E : Type 0} (items : V → List WorkerEnd) (news : List (Reading S)) (backs : List (Standing B)) where
    pub of_answer : (ends : Result V E) (workers : ℕ) → 1 ≤ workers → 1 ≤ length olds → IfOk ends (λ es. length (items es) ≡ min workers (length olds)) →
        IfOk ends (λ es. HasCrewed remaining s_faults s_mark held s olds news firsts backs (items es)) → IfErr ends (λ _. news ≡ olds) → IfErr ends (λ _. backs ≡ firsts) →
        AreSeen files b_faults b_mark firsts → (shown : List (Standing B)) → shown ≡ backs → (result : Result (Unit {0}) Status) →
        IfOk ends (λ es. result ≡ answer_of (first_of_all (items es) shown)) → IfOk ends (λ _. AreSeen files b_faults b_mark shown) →
        IfErr ends (λ _. result ≡ Err status.OutOfMemory) → Ingested workers (sources_of news) backs result
    of_answer (Ok es) workers one some busy crewed readers_back states_back seen_first shown shown_is result judged seen none_began =
        subst (Ingested workers (sources_of news) backs) (sym (judged ∙ ap (λ bs. answer_of (first_of_all (items es) bs)) shown_is))
        (answered workers (items es) busy one some news backs crewed (subst (AreSeen files b_faults b_mark) shown_is seen))
    of_answer (Err e) workers one some busy crewed readers_back states_back seen_first shown shown_is result judged seen none_began =
        subst (Ingested workers (sources_of news) backs) (sym none_began)
        (untouched (past_of s (given_of olds) before) remaining s_faults s_mark files leaves b_faults b_mark s workers (opened_of olds) (sources_of olds) (sources_of news) (mades_of firsts)
        firsts backs (seen_later files b_faults b_mark firsts seen_first) (ap sources_of readers_back) states_back)

    -- as many cones come back as there were
    pub as_many_back : (ends : Result V E) → IfOk ends (λ es. HasCrewed remaining s_faults s_mark held s olds news firsts backs (items es)) →
        IfErr ends (λ _. backs ≡ firsts) → length backs ≡ length firsts
    as_many_back (Ok es) crewed states_back = crewed.left_by.number
    as_many_back (Err e) crewed states_back = ap (λ (cs : List (Standing B)). length cs) states_back

    -- the readers are of the same traces
    pub opened_same : (ends : Result V E) (workers : ℕ) → 1 ≤ workers → 1 ≤ length olds → IfOk ends (λ es. length (items es) ≡ min workers (length olds)) →
        IfOk ends (λ es. HasCrewed remaining s_faults s_mark held s olds news firsts backs (items es)) → IfErr ends (λ _. news ≡ olds) → opened_of news ≡ opened_of olds
    opened_same (Ok es) workers one some busy crewed readers_back =
        made_same remaining s_faults s_mark held s olds news firsts backs (items es) (let least = le-min one some in omega (arith, busy, least)) crewed
    opened_same (Err e) workers one some busy crewed readers_back = ap opened_of readers_back
