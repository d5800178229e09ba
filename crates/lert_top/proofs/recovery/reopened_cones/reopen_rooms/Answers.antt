use Rattle.std.proofs.{Common.{◌≡◌, ℕ, ◌<◌, ◌^◌, List, ◌++◌, ◌∷◌, [], length, slice_get, Some, refl, ap, sym, ◌∙◌, subst, arith, append_assoc, length-append}, lemmas.List.length-map}
use Rattle.std.proofs.{lemmas.List.Elements.All-pop, lemmas.Option.{same_Some, slice_get_within}}
use Rattle.lert_cone.specs.Stands.{Standing}
use Rattle.lert_spec.specs.declared.numbers.Numbers.{Numbers}
use Rattle.lert_ingest.specs.{Bays.bays_of, Cones.IsNewRoom}
use Rattle.lert_top.specs.{recovery.Recovered.{IsOpenOver, IsUnopened, IsSoundStill, reopen_status}, recovery.Moments.{AreReread, IsSpared}}
use Rattle.lert_ingest.proofs.BayLaws.{slice_get-behind}
use Rattle.lert_top.proofs.{cones.ConeLaws.{back_later, bay_there, call_later, each-push, made_later, none_left}, recovery.JournalLaws.{journals_back, journals_made}}
use Rattle.lert_top.proofs.{recovery.RecoverLaws.{WasRefused, open_over, unopened_by}, recovery.SoundLaws.{sound_back, sound_made, stays_by, stays_open}}
use Rattle.lert_top.proofs.recovery.MomentLaws.{reread_same, throughout_back, throughout_by, throughout_made}
use Rattle.lert_bay.proofs.KeptLaws.{IsLawful}
use Rattle.lert_top.proofs.recovery.reopened_cones.reopen_rooms.Given as given
use Rattle.lert_top.proofs.recovery.reopened_cones.reopen_rooms.Invariants.{bays as bays_in}
use Rattle.lert_top.proofs.recovery.reopened_cones.reopen_rooms.Goals as goal

lawful : (g : given.Over) → IsLawful (bays_in g)
lawful g = record { as_read = g.met.B.Bay.as_read; since_now = g.met.B.Bay.since_now; only_now = g.met.B.Bay.only_now; since_earlier = g.met.B.Bay.since_earlier }

pub returns-in-Err : goal.returns-in-Err
returns-in-Err g c =
    let here = c.loop-number.invariant in
    let bay = c.in-Some.bay in
    let rest = c.pop_front.new.self.items in
    let cones = c.loop-number.cones.items in
    let bays = c.args.bays.now.items in
    let items = c.in-Some.ensures.items in
    let front = here.split.0 in
    let split = ap (λ xs. front ++ xs) (sym items) ∙ here.split.2 in
    let back = c.in-Err.refused.bay in
    let s = c.args.settings.now in
    let room = c.in-Some-pop.room in
    let popped = All-pop (IsNewRoom s) c.loop-number.rooms.items c.pop.new.self.items (Some room) c.in-Some-pop.ensures.items here.rooms in
    let so_far = subst (λ xs. AreReread (bays_in g) s bays (bays_of cones ++ xs)) items here.reread in
    let there = bay_there g.B.Bay.files g.B.Faulty.faults g.B.Faulty.mark bays front bay rest cones split here.split.1 so_far.later in
    record {
      «open» = tt;
      number = tt;
      emptied = tt;
      room = c.push_front_reserved.ensures.capacity ∙ (c.pop_front.ensures.capacity ∙ here.room);
      reread = subst (AreReread (bays_in g) s bays) (ap (λ xs. bays_of cones ++ xs) (sym c.push_front_reserved.ensures.items)) (record {
        later = back_later g.B.Bay.files g.B.Faulty.faults g.B.Faulty.mark bays front bay rest cones split here.split.1 so_far.later back
            (call_later g.B.Bay.files g.B.Faulty.faults g.B.Faulty.mark bay back c.in-Err.ensures.kept.mark c.in-Err.ensures.kept.never_falls c.in-Err.ensures.reads);
        journals = journals_back g.B.Bay.files bays cones bay rest so_far.journals back c.in-Err.ensures.reads;
        stays_sound = sound_back g.B.Bay.files s bays cones bay rest so_far.stays_sound back (subst (λ (n : Numbers). IsSoundStill g.B.Bay.files n (length cones) bay back) popped.1.0
            (subst (λ (n : ℕ). IsSoundStill g.B.Bay.files room.settings n bay back) (sym here.number)
            (stays_by g.B.Bay.files room.settings c.loop-number.number bay back c.in-Err.ensures.reads c.in-Err.ensures.stays_sound)));
        each_moment = throughout_back (bays_in g) s bays cones bay rest there so_far.each_moment back (subst (λ (n : Numbers). IsSpared (bays_in g) n (length cones) bay back) popped.1.0
            (subst (λ (n : ℕ). IsSpared (bays_in g) room.settings n bay back) (sym here.number)
            (throughout_by (bays_in g) room.settings c.loop-number.number bay back _ c.in-Err.ensures.kept c.in-Err.ensures.reads c.in-Err.ensures.each_moment c.in-Err.ensures.unharmed)));
      });
      unopened =
          let fault = c.in-Err.refused.fault in
          let is = ap (λ xs. bays_of cones ++ xs) c.push_front_reserved.ensures.items in
          let why : WasRefused g.B.Bay.files c.in-Some-pop.room.settings c.loop-number.number bay back fault = record {
            malformed = c.in-Err.ensures.malformed;
            other_is = c.in-Err.ensures.other;
            refuses = c.in-Err.ensures.refuses;
            differs = c.in-Err.ensures.differs;
            opens = c.in-Err.ensures.sound_opens;
            unread = λ seen told file at leaves. (c.in-Err.ensures.unharmed.left seen told file at leaves).seen;
            untouched = λ kept is. (c.in-Err.ensures.other_untouched kept is).seen;
          } in
          let why_here = subst (λ (n : Numbers). WasRefused g.B.Bay.files n (length cones) bay back fault) popped.1.0
          (subst (λ (n : ℕ). WasRefused g.B.Bay.files c.in-Some-pop.room.settings n bay back fault) (sym here.number) why) in
          let unopened = unopened_by g.B.Bay.files g.B.Bay.leaves g.B.Faulty.faults g.B.Faulty.mark s bays front bay rest cones there here.open_cones back fault why_here c.in-Err.ensures.kept.failed
          (λ other behind. let sizes = length-map cones (λ (x : Standing g.row.B.Denot). x.bay) in
          slice_get-behind (bays_of cones) front back bay rest other (sizes ∙ sym here.split.1) (omega (arith, behind, sizes)) ∙ ap (λ xs. slice_get xs other) split) in
          subst (IsUnopened g.B.Bay.files g.B.Faulty.faults s bays (bays_of cones ++ c.push_front_reserved.new.self.items)) (sym c.status_of.ensures)
          (subst (λ xs. IsUnopened g.B.Bay.files g.B.Faulty.faults s bays xs (reopen_status c.loop-number.number fault)) (sym is)
          (subst (λ n. IsUnopened g.B.Bay.files g.B.Faulty.faults s bays (bays_of cones ++ back ∷ rest) (reopen_status n fault)) here.number unopened));
    }

pub returns : goal.returns
returns g c = record {
  «open» = c.loop-number.invariant.open_cones;
  number = omega (arith, c.loop-number.invariant.number, c.loop-number-test.false, c.loop-number.auto.number-end, c.cones-number-end.ensures);
  emptied =
      let here = c.loop-number.invariant in
      let whole = ap length here.split.2 in
      none_left c.loop-number.bays.items
      (omega (arith, whole, length-append here.split.0 c.loop-number.bays.items, here.split.1, here.number, c.loop-number-test.false, c.cones-number-end.ensures, c.requires.number));
  room = c.loop-number.invariant.room;
  reread = c.loop-number.invariant.reread;
  unopened = tt;
}

pub loop-number-preserved : goal.loop-number-preserved
loop-number-preserved g c =
    let here = c.loop-number.invariant in
    let s = c.args.settings.now in
    let cones = c.loop-number.cones.items in
    let cone = c.in-Ok.cone in
    let room = c.in-Some-pop.room in
    let bay = c.in-Some.bay in
    let rest = c.pop_front.new.self.items in
    let items = c.in-Some.ensures.items in
    let front = here.split.0 in
    let bays = c.args.bays.now.items in
    let split = ap (λ xs. front ++ xs) (sym items) ∙ here.split.2 in
    let so_far = subst (λ xs. AreReread (bays_in g) s bays (bays_of cones ++ xs)) items here.reread in
    let there = bay_there g.B.Bay.files g.B.Faulty.faults g.B.Faulty.mark bays front bay rest cones split here.split.1 so_far.later in
    let one = call_later g.B.Bay.files g.B.Faulty.faults g.B.Faulty.mark bay cone.bay c.in-Ok.ensures.kept.mark c.in-Ok.ensures.kept.never_falls c.in-Ok.ensures.reads in
    let pushed = c.push_reserved.ensures.items in
    let popped = All-pop (IsNewRoom s) c.loop-number.rooms.items c.pop.new.self.items (Some room) c.in-Some-pop.ensures.items here.rooms in
    let number = ap length pushed ∙ length-append cones (cone ∷ []) in
    let fewer = ap length c.in-Some-pop.ensures.items ∙ length-append c.pop.new.self.items (room ∷ []) in
    let own = c.in-Ok.ensures.own in
    let opened : IsOpenOver g.B.Bay.files g.B.Bay.leaves g.B.Faulty.faults room.settings c.loop-number.number bay cone =
    open_over g.B.Bay.files g.B.Bay.leaves g.B.Faulty.faults g.B.Faulty.mark room.settings c.loop-number.number bay cone c.in-Ok.ensures.sound_opens c.in-Ok.ensures.journal
    c.in-Ok.ensures.journal_whole c.in-Ok.ensures.refuses c.in-Ok.ensures.differs own.0 own.1 own.2 own.3 c.in-Ok.ensures.made.0 in
    let opened_here = subst (λ (n : Numbers). IsOpenOver g.B.Bay.files g.B.Bay.leaves g.B.Faulty.faults n (length cones) bay cone) popped.1.0
    (subst (λ (n : ℕ). IsOpenOver g.B.Bay.files g.B.Bay.leaves g.B.Faulty.faults room.settings n bay cone) (sym here.number) opened) in
    record {
      number = omega (arith, number, here.number);
      rooms_left = omega (arith, fewer, here.rooms_left);
      rooms = popped.0;
      split = (front ++ bay ∷ [], omega (arith, length-append front (bay ∷ []), number, here.split.1), append_assoc front (bay ∷ []) rest ∙ split);
      reread = subst (λ xs. AreReread (bays_in g) s bays (bays_of xs ++ rest)) (sym pushed) (record {
        later = made_later g.B.Bay.files g.B.Faulty.faults g.B.Faulty.mark bays front bay rest cones split here.split.1 so_far.later cone one;
        journals = journals_made g.B.Bay.files bays cones bay rest so_far.journals cone c.in-Ok.ensures.reads;
        stays_sound = sound_made g.B.Bay.files s bays cones bay rest so_far.stays_sound cone
            (stays_open g.B.Bay.files g.B.Bay.leaves g.B.Faulty.faults s (length cones) bay cone opened_here c.in-Ok.ensures.reads);
        each_moment = throughout_made (bays_in g) s bays cones bay rest there so_far.each_moment cone (subst (λ (n : Numbers). IsSpared (bays_in g) n (length cones) bay cone.bay) popped.1.0
            (subst (λ (n : ℕ). IsSpared (bays_in g) room.settings n bay cone.bay) (sym here.number)
            (throughout_by (bays_in g) room.settings c.loop-number.number bay cone.bay ⊥ c.in-Ok.ensures.kept c.in-Ok.ensures.reads c.in-Ok.ensures.each_moment c.in-Ok.ensures.unharmed)));
      });
      open_cones = λ place found is.
          each-push (λ (k : ℕ) (x : Standing g.row.B.Denot). (held : g.row.B.Denot) → slice_get bays k ≡ Some held → IsOpenOver g.B.Bay.files g.B.Bay.leaves g.B.Faulty.faults s k held x)
          cones cone here.open_cones
          (λ held at. subst (λ (b : g.row.B.Denot). IsOpenOver g.B.Bay.files g.B.Bay.leaves g.B.Faulty.faults s (length cones) b cone) (same_Some bay held (sym there ∙ at)) opened_here)
          place found (ap (λ xs. slice_get xs place) (sym pushed) ∙ is);
      room = c.pop_front.ensures.capacity ∙ here.room;
      cones_room = omega (arith, here.cones_room, c.push_reserved.ensures.capacity);
    }

pub loop-number-init : goal.loop-number-init
loop-number-init g c =
    let bays = c.args.bays.now.items in
    record {
      number = ap length c.requires.none;
      rooms_left = omega (arith, c.requires.rooms_number);
      rooms = c.requires.rooms;
      split = ([], sym (ap length c.requires.none), refl);
      reread = subst (λ (xs : List (Standing g.row.B.Denot)). AreReread (bays_in g) c.args.settings.now bays (bays_of xs ++ bays)) (sym c.requires.none)
          (reread_same (bays_in g) (lawful g) c.args.settings.now bays);
      open_cones = λ place cone is _ _. absurd (omega (arith, slice_get_within c.args.cones.now.items place cone is, ap length c.requires.none));
      room = refl;
      cones_room = c.requires.cones_room;
    }

pub push_reserved-requires : goal.push_reserved-requires
push_reserved-requires g c =
    let here = c.loop-number.invariant in
    omega (arith, here.number, here.cones_room, c.loop-number-test.true, c.cones-number-end.ensures, c.loop-number.cones.ok)

pub push_front_reserved-requires : goal.push_front_reserved-requires
push_front_reserved-requires g c =
    let here = c.loop-number.invariant in
    omega (
      arith,
      c.pop_front.ensures.capacity,
      here.room,
      c.requires.room,
      ap length c.in-Some.ensures.items,
      ap length here.split.2,
      length-append here.split.0 c.loop-number.bays.items,
      c.pop_front.new.self.ok,
    )

pub reopen-requires : goal.reopen-requires
reopen-requires g c = record {
  named =
      let popped = All-pop (IsNewRoom c.args.settings.now) c.loop-number.rooms.items c.pop.new.self.items (Some c.in-Some-pop.room) c.in-Some-pop.ensures.items c.loop-number.invariant.rooms in
      let below : c.loop-number.number < 2 ^ c.args.settings.now.cone_bits = omega (arith, c.loop-number-test.true, c.cones-number-end.ensures) in
      subst (λ (n : Numbers). c.loop-number.number < 2 ^ n.cone_bits) (sym popped.1.0) below;
  room = (All-pop (IsNewRoom c.args.settings.now) c.loop-number.rooms.items c.pop.new.self.items (Some c.in-Some-pop.room) c.in-Some-pop.ensures.items c.loop-number.invariant.rooms).1.1;
}
