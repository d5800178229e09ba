use Rattle.std.proofs.{Common.{ℕ, ◌<◌, ◌^◌, List, ◌++◌, ◌∷◌, [], false, length, slice_get, Some, refl, ap, sym, ◌∙◌, subst, arith, append_assoc, length-append}, lemmas.List.Elements.All-pop}
use Rattle.std.proofs.lemmas.Option.{slice_get_within}
use Rattle.lert_cone.specs.Stands.{Standing}
use Rattle.lert_spec.specs.declared.numbers.Numbers.{Numbers}
use Rattle.lert_ingest.specs.{Bays.{AreLater, AreUnused, bays_of}, Cones.{IsNew, IsNewRoom}, Status.create_status}
use Rattle.lert_top.specs.cones.Unmade.{IsUnmade}
use Rattle.lert_ingest.proofs.{BayLaws.are_same, EachLaws.unused_same}
use Rattle.lert_top.proofs.cones.ConeLaws.{back_later, bay_there, call_later, each-push, made_later, made_unused, none_left, unmade_by}
use Rattle.lert_top.proofs.cones.cones.fill_rooms.Goals as goal
use Rattle.lert_cone.specs.History.{most_version}

pub returns-in-Err-clause-room : goal.returns-in-Err-clause-room
returns-in-Err-clause-room g c = c.push_front_reserved.ensures.capacity ∙ (c.pop_front.ensures.capacity ∙ c.loop-number.invariant.room)

pub returns-in-Err-clause-later : goal.returns-in-Err-clause-later
returns-in-Err-clause-later g c =
    let here = c.loop-number.invariant in
    let bay = c.in-Some.bay in
    let rest = c.pop_front.new.self.items in
    let cones = c.loop-number.cones.items in
    let bays = c.args.bays.now.items in
    let items = c.in-Some.ensures.items in
    let front = here.split.0 in
    let split = ap (λ xs. front ++ xs) (sym items) ∙ here.split.2 in
    let later = subst (λ xs. AreLater g.B.Bay.files g.B.Faulty.faults g.B.Faulty.mark bays (bays_of cones ++ xs)) items here.later in
    let kept = c.in-Err.ensures.kept in
    let one = call_later g.B.Bay.files g.B.Faulty.faults g.B.Faulty.mark bay c.in-Err.refused.bay kept.mark kept.never_falls c.in-Err.ensures.handed_back.1 in
    let is = ap (λ xs. bays_of cones ++ xs) (c.push_front_reserved.ensures.items ∙ ap (λ b. b ∷ rest) c.bay_of.ensures) in
    subst (AreLater g.B.Bay.files g.B.Faulty.faults g.B.Faulty.mark bays) (sym is)
    (back_later g.B.Bay.files g.B.Faulty.faults g.B.Faulty.mark bays front bay rest cones split here.split.1 later c.in-Err.refused.bay one)

pub returns-in-Err-clause-unmade : goal.returns-in-Err-clause-unmade
returns-in-Err-clause-unmade g c =
    let here = c.loop-number.invariant in
    let bay = c.in-Some.bay in
    let rest = c.pop_front.new.self.items in
    let cones = c.loop-number.cones.items in
    let bays = c.args.bays.now.items in
    let items = c.in-Some.ensures.items in
    let front = here.split.0 in
    let fault = c.in-Err.refused.fault in
    let split = ap (λ xs. front ++ xs) (sym items) ∙ here.split.2 in
    let later = subst (λ xs. AreLater g.B.Bay.files g.B.Faulty.faults g.B.Faulty.mark bays (bays_of cones ++ xs)) items here.later in
    let is = ap (λ xs. bays_of cones ++ xs) (c.push_front_reserved.ensures.items ∙ ap (λ b. b ∷ rest) c.bay_of.ensures) in
    let s = c.args.settings.now in
    let unused = subst (λ xs. AreUnused g.B.Bay.files s bays (bays_of cones ++ xs)) items here.unused in
    let back = c.in-Err.refused.bay in
    let unmade = unmade_by g.B.Bay.files g.B.Faulty.faults g.B.Faulty.mark bays front bay rest cones split here.split.1 later s unused back fault
    c.requires.fresh c.in-Err.ensures.handed_back.1 c.in-Err.ensures.not_fresh c.in-Err.ensures.kept.failed in
    subst (IsUnmade g.B.Bay.files g.B.Faulty.faults s bays (bays_of cones ++ c.push_front_reserved.new.self.items)) (sym c.status_of.ensures)
    (subst (λ xs. IsUnmade g.B.Bay.files g.B.Faulty.faults s bays xs (create_status c.loop-number.number fault)) (sym is)
    (subst (λ n. IsUnmade g.B.Bay.files g.B.Faulty.faults s bays (bays_of cones ++ back ∷ rest) (create_status n fault)) here.number unmade))

pub returns : goal.returns
returns g c = record {
  new_cones = c.loop-number.invariant.new_cones;
  number = omega (arith, c.loop-number.invariant.number, c.loop-number-test.false, c.loop-number.auto.number-end, c.cones-number-end.ensures);
  emptied =
      let here = c.loop-number.invariant in
      let whole = ap length here.split.2 in
      none_left c.loop-number.bays.items
      (omega (arith, whole, length-append here.split.0 c.loop-number.bays.items, here.split.1, here.number, c.loop-number-test.false, c.cones-number-end.ensures, c.requires.number));
  room = c.loop-number.invariant.room;
  later = c.loop-number.invariant.later;
  unused = c.loop-number.invariant.unused;
  unmade = tt;
}

pub loop-number-preserved : goal.loop-number-preserved
loop-number-preserved g c =
    let here = c.loop-number.invariant in
    let s = c.args.settings.now in
    let cones = c.loop-number.cones.items in
    let cone = c.in-Ok.cone in
    let room = c.in-Some-pop.room in
    let bay = c.in-Some.bay in
    let rest = c.pop_front.new.self.items in
    let items = c.in-Some.ensures.items in
    let front = here.split.0 in
    let bays = c.args.bays.now.items in
    let split = ap (λ xs. front ++ xs) (sym items) ∙ here.split.2 in
    let later = subst (λ xs. AreLater g.B.Bay.files g.B.Faulty.faults g.B.Faulty.mark bays (bays_of cones ++ xs)) items here.later in
    let one = call_later g.B.Bay.files g.B.Faulty.faults g.B.Faulty.mark bay cone.bay c.in-Ok.ensures.kept.mark c.in-Ok.ensures.kept.never_falls c.in-Ok.ensures.frames in
    let pushed = c.push_reserved.ensures.items in
    let popped = All-pop (IsNewRoom s) c.loop-number.rooms.items c.pop.new.self.items (Some room) c.in-Some-pop.ensures.items here.rooms in
    let number = ap length pushed ∙ length-append cones (cone ∷ []) in
    let fewer = ap length c.in-Some-pop.ensures.items ∙ length-append c.pop.new.self.items (room ∷ []) in
    let unused = subst (λ xs. AreUnused g.B.Bay.files s bays (bays_of cones ++ xs)) items here.unused in
    let there = bay_there g.B.Bay.files g.B.Faulty.faults g.B.Faulty.mark bays front bay rest cones split here.split.1 later in
    let new : IsNew g.B.Bay.files g.B.Bay.leaves g.B.Faulty.faults s (length cones) cone = record {
      stands = c.in-Ok.ensures.stands_for;
      sound = c.in-Ok.ensures.was_sound;
      made_is = ap (λ (x : Standing g.row.B.Denot). x.made) c.in-Ok.ensures.made;
      listing_is =
          ap (λ (x : Standing g.row.B.Denot). x.listing) c.in-Ok.ensures.made
          ∙ (ap (λ (n : Numbers). record { settings = n; version = most_version; cone = c.loop-number.number; events = []; closed = false }) popped.1.0
          ∙ ap (λ (n : ℕ). record { settings = s; version = most_version; cone = n; events = []; closed = false }) (sym here.number));
      version_is = ap (λ (x : Standing g.row.B.Denot). x.last.version) c.in-Ok.ensures.made;
      state_is = ap (λ (x : Standing g.row.B.Denot). x.state) c.in-Ok.ensures.made;
    } in
    record {
      number = omega (arith, number, here.number);
      rooms_left = omega (arith, fewer, here.rooms_left);
      rooms = popped.0;
      split = (front ++ bay ∷ [], omega (arith, length-append front (bay ∷ []), number, here.split.1), append_assoc front (bay ∷ []) rest ∙ split);
      later = subst (λ xs. AreLater g.B.Bay.files g.B.Faulty.faults g.B.Faulty.mark bays (bays_of xs ++ rest)) (sym pushed)
          (made_later g.B.Bay.files g.B.Faulty.faults g.B.Faulty.mark bays front bay rest cones split here.split.1 later cone one);
      unused = subst (λ xs. AreUnused g.B.Bay.files s bays (bays_of xs ++ rest)) (sym pushed)
          (made_unused g.B.Bay.files g.B.Faulty.faults g.B.Faulty.mark bays front bay rest cones split here.split.1 later s unused g.B.Bay.leaves cone
          (λ seen told. c.requires.fresh (length cones) bay there seen told) new);
      new_cones = λ place found is.
          each-push (IsNew g.B.Bay.files g.B.Bay.leaves g.B.Faulty.faults s) cones cone here.new_cones new place found (ap (λ xs. slice_get xs place) (sym pushed) ∙ is);
      room = c.pop_front.ensures.capacity ∙ here.room;
      cones_room = omega (arith, here.cones_room, c.push_reserved.ensures.capacity);
    }

pub loop-number-init : goal.loop-number-init
loop-number-init g c =
    let bays = c.args.bays.now.items in
    record {
      number = ap length c.requires.none;
      rooms_left = omega (arith, c.requires.rooms_number);
      rooms = c.requires.rooms;
      split = ([], sym (ap length c.requires.none), refl);
      later = subst (λ (xs : List (Standing g.row.B.Denot)). AreLater g.B.Bay.files g.B.Faulty.faults g.B.Faulty.mark bays (bays_of xs ++ bays)) (sym c.requires.none)
          (are_same g.B.Bay.files g.B.Faulty.faults g.B.Faulty.mark bays);
      unused = subst (λ (xs : List (Standing g.row.B.Denot)). AreUnused g.B.Bay.files c.args.settings.now bays (bays_of xs ++ bays)) (sym c.requires.none)
          (unused_same g.B.Bay.files c.args.settings.now bays);
      new_cones = λ place cone is. absurd (omega (arith, slice_get_within c.args.cones.now.items place cone is, ap length c.requires.none));
      room = refl;
      cones_room = c.requires.cones_room;
    }

pub push_reserved-requires : goal.push_reserved-requires
push_reserved-requires g c =
    let here = c.loop-number.invariant in
    omega (arith, here.number, here.cones_room, c.loop-number-test.true, c.cones-number-end.ensures, c.loop-number.cones.ok)

pub push_front_reserved-requires : goal.push_front_reserved-requires
push_front_reserved-requires g c =
    let here = c.loop-number.invariant in
    omega (
      arith,
      c.pop_front.ensures.capacity,
      here.room,
      c.requires.room,
      ap length c.in-Some.ensures.items,
      ap length here.split.2,
      length-append here.split.0 c.loop-number.bays.items,
      c.pop_front.new.self.ok,
    )

pub create-requires : goal.create-requires
create-requires g c = record {
  named =
      let popped = All-pop (IsNewRoom c.args.settings.now) c.loop-number.rooms.items c.pop.new.self.items (Some c.in-Some-pop.room) c.in-Some-pop.ensures.items c.loop-number.invariant.rooms in
      let below : c.loop-number.number < 2 ^ c.args.settings.now.cone_bits = omega (arith, c.loop-number-test.true, c.cones-number-end.ensures) in
      subst (λ (n : Numbers). c.loop-number.number < 2 ^ n.cone_bits) (sym popped.1.0) below;
  room = (All-pop (IsNewRoom c.args.settings.now) c.loop-number.rooms.items c.pop.new.self.items (Some c.in-Some-pop.room) c.in-Some-pop.ensures.items c.loop-number.invariant.rooms).1.1;
}
