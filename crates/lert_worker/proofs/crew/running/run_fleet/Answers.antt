use Rattle.std.proofs.Common.{◌≡◌, ◌∙◌, ap, sym, subst, refl, arith, length, length-drop}
use Rattle.lert_worker.specs.crew.{Passes.{AreDone, AreHired}, Ready.AreReady, Sharing.{AreFree, AreShared, WereTaken}}
use Rattle.lert_worker.proofs.crew.{Crewing.{as_many_ends, has_crewed}, Returning.{back_again, closed_quiet, is_whole, may_run, pass_all, quiet_all}}
use Rattle.lert_worker.proofs.crew.Manning.{done_taken, free_in_line, front_is, quiet_taken, ran_passes, ready_now, ready_passes, ready_quiet, ready_shared, some_front}
use Rattle.lert_worker.proofs.crew.running.run_fleet.Goals as goal

pub line_up-crew-requires : goal.line_up-crew-requires
line_up-crew-requires g c = subst (λ n. AreHired c.args.fleet c.args.settings.now n c.in-Ok.crew.items) (sym c.in-Ok.ensures.number) c.in-Ok.ensures.hired

pub close-requires : goal.close-requires
close-requires g c = record { belongs = c.in-Err.ensures.pass.belongs; whole = is_whole c.args.fleet c.args.workers c.in-Err.pass c.in-Err.ensures.pass c.requires.numbers }

pub returns-in-Err : goal.returns-in-Err
returns-in-Err g c = record {
  busy = tt;
  ran = tt;
  readers_back = refl;
  states_back = closed_quiet _ c.args.fleet c.in-Err.pass c.close.result.items c.close.ensures c.in-Err.ensures.quiet;
}

pub give_readers-requires : goal.give_readers-requires
give_readers-requires g c = record {
  some =
      let number = ap (λ xs. length xs) c.deref_mut.ensures.value ∙ (c.line_up-crew.ensures.number ∙ c.in-Ok.ensures.number) in
      let least = c.requires.least in omega (arith, number, least);
  few = c.requires.few;
  free = subst (λ xs. AreFree xs) (sym c.deref_mut.ensures.value) (free_in_line c.args.fleet c.args.settings.now c.line_up-crew.result.items c.line_up-crew.ensures.in_line);
}

pub take_readers-back-requires : goal.take_readers-back-requires
take_readers-back-requires g c = record {
  some =
      let shown = c.deref_mut-in-Err-give_readers.ensures.value
      ∙ front_is c.give_readers.new.crew _ c.line_up-crew.result.len (c.give_readers.auto.crew ∙ c.deref_mut.ensures.len) in
      let number = ap (λ xs. length xs) shown
      ∙ (c.in-Err-give_readers.ensures.some_given.number
      ∙ (ap (λ xs. length xs) c.deref_mut.ensures.value ∙ (c.line_up-crew.ensures.number ∙ c.in-Ok.ensures.number))) in
      let least = c.requires.least in
      omega (arith, number, least);
  shared =
      subst (AreShared c.in-Err-give_readers.given)
      (sym (c.deref_mut-in-Err-give_readers.ensures.value ∙ (front_is c.give_readers.new.crew _ c.line_up-crew.result.len (c.give_readers.auto.crew ∙ c.deref_mut.ensures.len))))
      (ready_shared c.args.fleet c.args.settings.now c.in-Err-give_readers.given c.args.readers.items c.give_readers.new.crew
      (ready_now c.args.fleet c.args.settings.now c.args.workers c.in-Err-give_readers.given c.args.readers.items c.line_up-crew.result.items c.deref_mut.result.now c.give_readers.new.crew
      c.deref_mut.ensures.value c.line_up-crew.ensures.in_line c.in-Err-give_readers.ensures.some_given));
  empty = c.requires.empty;
  room = let r = c.requires.room in let f = c.in-Err-give_readers.ensures.refused in omega (arith, r, f);
}

pub dismiss_all-pass-requires-clause-done : goal.dismiss_all-pass-requires-clause-done
dismiss_all-pass-requires-clause-done g c =
    subst (AreDone c.args.fleet) (sym (front_is c.take_readers-back.new.crew _ c.line_up-crew.result.len (c.take_readers-back.auto.crew ∙ c.deref_mut-in-Err-give_readers.ensures.len)))
    (done_taken c.args.fleet c.in-Err-give_readers.given c.give_readers.new.crew c.take_readers-back.new.crew c.take_readers-back.result.items
    (subst (λ xs. WereTaken c.in-Err-give_readers.given xs c.take_readers-back.new.crew c.take_readers-back.result.items)
    (c.deref_mut-in-Err-give_readers.ensures.value ∙ (front_is c.give_readers.new.crew _ c.line_up-crew.result.len (c.give_readers.auto.crew ∙ c.deref_mut.ensures.len)))
    c.take_readers-back.ensures.taken) (ready_passes c.args.fleet c.args.settings.now c.args.workers c.in-Err-give_readers.given c.args.readers.items c.give_readers.new.crew
    (ready_now c.args.fleet c.args.settings.now c.args.workers c.in-Err-give_readers.given c.args.readers.items c.line_up-crew.result.items c.deref_mut.result.now
    c.give_readers.new.crew c.deref_mut.ensures.value c.line_up-crew.ensures.in_line c.in-Err-give_readers.ensures.some_given)))

pub dismiss_all-pass-requires-clause-some : goal.dismiss_all-pass-requires-clause-some
dismiss_all-pass-requires-clause-some g c =
    let taken = subst (λ xs. WereTaken c.in-Err-give_readers.given xs c.take_readers-back.new.crew c.take_readers-back.result.items)
    (c.deref_mut-in-Err-give_readers.ensures.value ∙ (front_is c.give_readers.new.crew _ c.line_up-crew.result.len (c.give_readers.auto.crew ∙ c.deref_mut.ensures.len)))
    c.take_readers-back.ensures.taken in
    let number = taken.number ∙ (c.in-Err-give_readers.ensures.some_given.number
    ∙ (ap (λ xs. length xs) c.deref_mut.ensures.value ∙ (c.line_up-crew.ensures.number ∙ c.in-Ok.ensures.number))) in
    some_front c.take_readers-back.new.crew _ c.line_up-crew.result.len (c.take_readers-back.auto.crew ∙ c.deref_mut-in-Err-give_readers.ensures.len)
    (let least = c.requires.least in omega (arith, number, least))

pub pour-requires : goal.pour-requires
pour-requires g c =
    let given = c.in-Err-give_readers.given in
    let rest = ap (λ xs. length xs) c.in-Err-give_readers.ensures.rest ∙ length-drop given c.args.readers.items in
    omega (
      arith,
      c.take_readers-back.ensures.taken.taken,
      rest,
      c.in-Err-give_readers.ensures.refused,
      c.take_readers-back.ensures.capacity,
      c.requires.room,
    )

pub close-requires-in-Err-give_readers-clause-whole : goal.close-requires-in-Err-give_readers-clause-whole
close-requires-in-Err-give_readers-clause-whole g c =
    is_whole c.args.fleet c.args.workers c.dismiss_all-pass.result (pass_all c.args.fleet c.args.workers _ c.take_readers-back.new.crew
    (front_is c.take_readers-back.new.crew _ c.line_up-crew.result.len (c.take_readers-back.auto.crew ∙ c.deref_mut-in-Err-give_readers.ensures.len))
    ((subst (λ xs. WereTaken c.in-Err-give_readers.given xs c.take_readers-back.new.crew c.take_readers-back.result.items)
    (c.deref_mut-in-Err-give_readers.ensures.value ∙ (front_is c.give_readers.new.crew _ c.line_up-crew.result.len (c.give_readers.auto.crew ∙ c.deref_mut.ensures.len)))
    c.take_readers-back.ensures.taken).number
    ∙ (c.in-Err-give_readers.ensures.some_given.number
    ∙ (ap (λ xs. length xs) c.deref_mut.ensures.value ∙ (c.line_up-crew.ensures.number ∙ c.in-Ok.ensures.number)))) c.dismiss_all-pass.result
    c.dismiss_all-pass.ensures.pass) c.requires.numbers

pub returns-in-Err-give_readers : goal.returns-in-Err-give_readers
returns-in-Err-give_readers g c = record {
  busy = tt;
  ran = tt;
  readers_back = back_again c.in-Err-give_readers.given c.args.readers.items c.deref_mut.result.now c.give_readers.new.crew c.take_readers-back.new.crew c.take_readers-back.result.items
      c.give_readers.new.readers.items c.pour.result.items
      (let e = ap (λ xs. length xs) c.deref_mut.ensures.value in let f = (c.line_up-crew.ensures.number ∙ c.in-Ok.ensures.number) in let l = c.requires.least in omega (arith, e, f, l))
      c.in-Err-give_readers.ensures.refused c.in-Err-give_readers.ensures.some_given
      (subst (λ xs. WereTaken c.in-Err-give_readers.given xs c.take_readers-back.new.crew c.take_readers-back.result.items)
      (c.deref_mut-in-Err-give_readers.ensures.value ∙ (front_is c.give_readers.new.crew _ c.line_up-crew.result.len (c.give_readers.auto.crew ∙ c.deref_mut.ensures.len)))
      c.take_readers-back.ensures.taken) c.in-Err-give_readers.ensures.rest c.pour.ensures;
  states_back = closed_quiet _ c.args.fleet c.dismiss_all-pass.result c.close-in-Err-give_readers.result.items c.close-in-Err-give_readers.ensures
      (quiet_all c.args.fleet c.args.workers _ c.take_readers-back.new.crew
      (front_is c.take_readers-back.new.crew _ c.line_up-crew.result.len (c.take_readers-back.auto.crew ∙ c.deref_mut-in-Err-give_readers.ensures.len))
      ((subst (λ xs. WereTaken c.in-Err-give_readers.given xs c.take_readers-back.new.crew c.take_readers-back.result.items)
      (c.deref_mut-in-Err-give_readers.ensures.value ∙ (front_is c.give_readers.new.crew _ c.line_up-crew.result.len (c.give_readers.auto.crew ∙ c.deref_mut.ensures.len)))
      c.take_readers-back.ensures.taken).number
      ∙ (c.in-Err-give_readers.ensures.some_given.number
      ∙ (ap (λ xs. length xs) c.deref_mut.ensures.value ∙ (c.line_up-crew.ensures.number ∙ c.in-Ok.ensures.number)))) c.dismiss_all-pass.result
      c.dismiss_all-pass.ensures.quiet (quiet_taken c.in-Err-give_readers.given c.give_readers.new.crew c.take_readers-back.new.crew
      c.take_readers-back.result.items (subst (λ xs. WereTaken c.in-Err-give_readers.given xs c.take_readers-back.new.crew c.take_readers-back.result.items)
      (c.deref_mut-in-Err-give_readers.ensures.value
      ∙ (front_is c.give_readers.new.crew _ c.line_up-crew.result.len (c.give_readers.auto.crew ∙ c.deref_mut.ensures.len)))
      c.take_readers-back.ensures.taken) (ready_quiet c.args.fleet c.args.settings.now c.args.workers c.in-Err-give_readers.given
      c.args.readers.items c.give_readers.new.crew (ready_now c.args.fleet c.args.settings.now c.args.workers c.in-Err-give_readers.given c.args.readers.items
      c.line_up-crew.result.items c.deref_mut.result.now c.give_readers.new.crew c.deref_mut.ensures.value c.line_up-crew.ensures.in_line c.in-Err-give_readers.ensures.some_given))));
}

pub read_all-readers-requires-clause-may : goal.read_all-readers-requires-clause-may
read_all-readers-requires-clause-may g c = λ κs h. may_run g.H.Held c.args.fleet c.args.settings.now c.len-count.result c.args.readers.items c.deref_mut-2.result.now
    (subst (λ n. AreReady c.args.fleet c.args.settings.now n c.args.readers.items c.deref_mut-2.result.now)
    (sym (let k : c.len-count.result ≡ length c.args.readers.items = (let n = c.len-count.ensures in let o = c.args.readers.ok in omega (arith, n, o)) in k))
    (subst (AreReady c.args.fleet c.args.settings.now (length c.args.readers.items) c.args.readers.items)
    (sym (c.deref_mut-2.ensures.value ∙ (front_is c.give_readers.new.crew _ c.line_up-crew.result.len (c.give_readers.auto.crew ∙ c.deref_mut.ensures.len))))
    (ready_now c.args.fleet c.args.settings.now c.args.workers (length c.args.readers.items) c.args.readers.items c.line_up-crew.result.items
    c.deref_mut.result.now c.give_readers.new.crew c.deref_mut.ensures.value c.line_up-crew.ensures.in_line c.in_default.ensures.given)))
    (let n = (ap (λ xs. length xs) (c.deref_mut-2.ensures.value ∙ (front_is c.give_readers.new.crew _ c.line_up-crew.result.len (c.give_readers.auto.crew ∙ c.deref_mut.ensures.len)))
    ∙ (c.in_default.ensures.given.number ∙ (ap (λ xs. length xs) c.deref_mut.ensures.value ∙ (c.line_up-crew.ensures.number ∙ c.in-Ok.ensures.number))))
    in let m = c.requires.most in omega (arith, n, m)) c.requires.number c.requires.fits

pub read_all-readers-requires-clause-shared : goal.read_all-readers-requires-clause-shared
read_all-readers-requires-clause-shared g c =
    λ κs h. ready_shared c.args.fleet c.args.settings.now c.len-count.result c.args.readers.items c.deref_mut-2.result.now
    (subst (λ n. AreReady c.args.fleet c.args.settings.now n c.args.readers.items c.deref_mut-2.result.now)
    (sym (let k : c.len-count.result ≡ length c.args.readers.items = (let n = c.len-count.ensures in let o = c.args.readers.ok in omega (arith, n, o)) in k))
    (subst (AreReady c.args.fleet c.args.settings.now (length c.args.readers.items) c.args.readers.items)
    (sym (c.deref_mut-2.ensures.value ∙ (front_is c.give_readers.new.crew _ c.line_up-crew.result.len (c.give_readers.auto.crew ∙ c.deref_mut.ensures.len))))
    (ready_now c.args.fleet c.args.settings.now c.args.workers (length c.args.readers.items) c.args.readers.items c.line_up-crew.result.items c.deref_mut.result.now
    c.give_readers.new.crew c.deref_mut.ensures.value c.line_up-crew.ensures.in_line c.in_default.ensures.given)))

pub dismiss_all-pass-requires-2-clause-done : goal.dismiss_all-pass-requires-2-clause-done
dismiss_all-pass-requires-2-clause-done g c =
    subst (AreDone c.args.fleet) (sym (front_is c.read_all-readers.new.crew _ c.line_up-crew.result.len (c.read_all-readers.auto.crew ∙ c.deref_mut-2.ensures.len)))
    (done_taken c.args.fleet c.len-count.result c.read_all-readers.ensures.mids c.read_all-readers.new.crew c.read_all-readers.result.0.items c.read_all-readers.ensures.taken
    (ran_passes g.S.Source.remaining g.S.Faulty.faults g.S.Faulty.mark c.args.fleet c.args.settings.now c.len-count.result c.args.readers.items c.deref_mut-2.result.now
    c.read_all-readers.ensures.mids c.read_all-readers.ensures.ran (subst (λ n. AreReady c.args.fleet c.args.settings.now n c.args.readers.items c.deref_mut-2.result.now)
    (sym (let k : c.len-count.result ≡ length c.args.readers.items = (let n = c.len-count.ensures in let o = c.args.readers.ok in omega (arith, n, o)) in k))
    (subst (AreReady c.args.fleet c.args.settings.now (length c.args.readers.items) c.args.readers.items)
    (sym (c.deref_mut-2.ensures.value ∙ (front_is c.give_readers.new.crew _ c.line_up-crew.result.len (c.give_readers.auto.crew ∙ c.deref_mut.ensures.len))))
    (ready_now c.args.fleet c.args.settings.now c.args.workers (length c.args.readers.items) c.args.readers.items c.line_up-crew.result.items c.deref_mut.result.now
    c.give_readers.new.crew c.deref_mut.ensures.value c.line_up-crew.ensures.in_line c.in_default.ensures.given)))))

pub close-requires-2-clause-whole : goal.close-requires-2-clause-whole
close-requires-2-clause-whole g c = is_whole c.args.fleet c.args.workers c.dismiss_all-pass-2.result (pass_all c.args.fleet c.args.workers _ c.read_all-readers.new.crew
    (front_is c.read_all-readers.new.crew _ c.line_up-crew.result.len (c.read_all-readers.auto.crew ∙ c.deref_mut-2.ensures.len))
    (c.read_all-readers.ensures.taken.number ∙ (c.read_all-readers.ensures.ran.as_many
    ∙ (ap (λ xs. length xs) (c.deref_mut-2.ensures.value
    ∙ (front_is c.give_readers.new.crew _ c.line_up-crew.result.len (c.give_readers.auto.crew ∙ c.deref_mut.ensures.len)))
    ∙ (c.in_default.ensures.given.number ∙ (ap (λ xs. length xs) c.deref_mut.ensures.value ∙ (c.line_up-crew.ensures.number ∙ c.in-Ok.ensures.number))))))
    c.dismiss_all-pass-2.result c.dismiss_all-pass-2.ensures.pass) c.requires.numbers

pub returns : goal.returns
returns g c = record {
  busy = as_many_ends g.S.Source.remaining g.S.Faulty.faults g.S.Faulty.mark g.H.Held c.args.fleet c.args.settings.now c.args.workers c.len-count.result c.args.readers.items
      c.deref_mut-2.result.now
      (ap (λ xs. length xs) (c.deref_mut-2.ensures.value ∙ (front_is c.give_readers.new.crew _ c.line_up-crew.result.len (c.give_readers.auto.crew ∙ c.deref_mut.ensures.len)))
      ∙ (c.in_default.ensures.given.number ∙ (ap (λ xs. length xs) c.deref_mut.ensures.value ∙ (c.line_up-crew.ensures.number ∙ c.in-Ok.ensures.number))))
      (let k : c.len-count.result ≡ length c.args.readers.items = (let n = c.len-count.ensures in let o = c.args.readers.ok in omega (arith, n, o)) in k)
      (subst (λ n. AreReady c.args.fleet c.args.settings.now n c.args.readers.items c.deref_mut-2.result.now)
      (sym (let k : c.len-count.result ≡ length c.args.readers.items = (let n = c.len-count.ensures in let o = c.args.readers.ok in omega (arith, n, o)) in k))
      (subst (AreReady c.args.fleet c.args.settings.now (length c.args.readers.items) c.args.readers.items)
      (sym (c.deref_mut-2.ensures.value ∙ (front_is c.give_readers.new.crew _ c.line_up-crew.result.len (c.give_readers.auto.crew ∙ c.deref_mut.ensures.len))))
      (ready_now c.args.fleet c.args.settings.now c.args.workers (length c.args.readers.items) c.args.readers.items c.line_up-crew.result.items
      c.deref_mut.result.now c.give_readers.new.crew c.deref_mut.ensures.value c.line_up-crew.ensures.in_line c.in_default.ensures.given)))
      c.requires.numbers c.read_all-readers.new.crew c.read_all-readers.result.0.items c.read_all-readers.result.1.items c.read_all-readers.ensures;
  ran = has_crewed g.S.Source.remaining g.S.Faulty.faults g.S.Faulty.mark g.H.Held c.args.fleet c.args.settings.now c.args.workers c.len-count.result c.args.readers.items
      c.deref_mut-2.result.now
      (ap (λ xs. length xs) (c.deref_mut-2.ensures.value ∙ (front_is c.give_readers.new.crew _ c.line_up-crew.result.len (c.give_readers.auto.crew ∙ c.deref_mut.ensures.len)))
      ∙ (c.in_default.ensures.given.number ∙ (ap (λ xs. length xs) c.deref_mut.ensures.value ∙ (c.line_up-crew.ensures.number ∙ c.in-Ok.ensures.number))))
      (let k : c.len-count.result ≡ length c.args.readers.items = (let n = c.len-count.ensures in let o = c.args.readers.ok in omega (arith, n, o)) in k)
      (subst (λ n. AreReady c.args.fleet c.args.settings.now n c.args.readers.items c.deref_mut-2.result.now)
      (sym (let k : c.len-count.result ≡ length c.args.readers.items = (let n = c.len-count.ensures in let o = c.args.readers.ok in omega (arith, n, o)) in k))
      (subst (AreReady c.args.fleet c.args.settings.now (length c.args.readers.items) c.args.readers.items)
      (sym (c.deref_mut-2.ensures.value ∙ (front_is c.give_readers.new.crew _ c.line_up-crew.result.len (c.give_readers.auto.crew ∙ c.deref_mut.ensures.len))))
      (ready_now c.args.fleet c.args.settings.now c.args.workers (length c.args.readers.items) c.args.readers.items c.line_up-crew.result.items
      c.deref_mut.result.now c.give_readers.new.crew c.deref_mut.ensures.value c.line_up-crew.ensures.in_line c.in_default.ensures.given)))
      c.requires.numbers c.read_all-readers.new.crew _ c.read_all-readers.result.0.items c.read_all-readers.result.1.items c.read_all-readers.ensures
      (front_is c.read_all-readers.new.crew _ c.line_up-crew.result.len (c.read_all-readers.auto.crew ∙ c.deref_mut-2.ensures.len)) c.dismiss_all-pass-2.result c.close-2.result.items
      c.close-2.ensures c.dismiss_all-pass-2.ensures.shows;
  readers_back = tt;
  states_back = tt;
}

pub dismiss_all-pass-requires-2-clause-some : goal.dismiss_all-pass-requires-2-clause-some
dismiss_all-pass-requires-2-clause-some g c = some_front c.read_all-readers.new.crew _ c.line_up-crew.result.len (c.read_all-readers.auto.crew ∙ c.deref_mut-2.ensures.len) (let m =
    (c.read_all-readers.ensures.taken.number ∙ (c.read_all-readers.ensures.ran.as_many
    ∙ (ap (λ xs. length xs) (c.deref_mut-2.ensures.value ∙ (front_is c.give_readers.new.crew _ c.line_up-crew.result.len (c.give_readers.auto.crew ∙ c.deref_mut.ensures.len)))
    ∙ (c.in_default.ensures.given.number ∙ (ap (λ xs. length xs) c.deref_mut.ensures.value ∙ (c.line_up-crew.ensures.number ∙ c.in-Ok.ensures.number)))))) in let l =
    c.requires.least in omega (arith, m, l))

pub make_crew-requires : goal.make_crew-requires
make_crew-requires g c = record { some = c.requires.least; most = c.requires.most; pass = c.requires.pass; quiet = c.requires.quiet }

pub close-requires-in-Err-give_readers-clause-belongs : goal.close-requires-in-Err-give_readers-clause-belongs
close-requires-in-Err-give_readers-clause-belongs g c = c.dismiss_all-pass.ensures.pass.belongs

pub close-requires-2-clause-belongs : goal.close-requires-2-clause-belongs
close-requires-2-clause-belongs g c = c.dismiss_all-pass-2.ensures.pass.belongs

pub overflow_cast-count : goal.overflow_cast-count
overflow_cast-count g c =
    let counted = c.len-count.ensures in
    let items = c.args.readers.ok in
    let few = c.requires.few in
    record { fits = omega (arith, counted, items, few) }

pub destroy_empty-requires : goal.destroy_empty-requires
destroy_empty-requires g c =
    let items = c.args.room.ok in
    let none = ap (λ xs. length xs) c.requires.empty in
    omega (arith, items, none)

pub destroy_empty-requires-2 : goal.destroy_empty-requires-2
destroy_empty-requires-2 g c =
    let items = c.give_readers.new.readers.ok in
    let none = ap (λ xs. length xs) c.in_default.ensures.emptied in
    omega (arith, items, none)

pub read_all-readers-requires-clause-some : goal.read_all-readers-requires-clause-some
read_all-readers-requires-clause-some g c κs within =
    let shown = c.deref_mut-2.ensures.value
    ∙ front_is c.give_readers.new.crew _ c.line_up-crew.result.len (c.give_readers.auto.crew ∙ c.deref_mut.ensures.len) in
    let number = ap (λ xs. length xs) shown
    ∙ (c.in_default.ensures.given.number
    ∙ (ap (λ xs. length xs) c.deref_mut.ensures.value ∙ (c.line_up-crew.ensures.number ∙ c.in-Ok.ensures.number))) in
    let least = c.requires.least in
    omega (arith, number, least)

pub read_all-readers-requires-clause-empty : goal.read_all-readers-requires-clause-empty
read_all-readers-requires-clause-empty g c κs within = c.requires.empty

pub read_all-readers-requires-clause-room : goal.read_all-readers-requires-clause-room
read_all-readers-requires-clause-room g c κs within =
    let counted = c.len-count.ensures in
    let items = c.args.readers.ok in
    let room = c.requires.room in
    omega (arith, counted, items, room)

pub read_all-readers-requires-clause-no_end : goal.read_all-readers-requires-clause-no_end
read_all-readers-requires-clause-no_end g c κs within = c.requires.no_end

pub read_all-readers-requires-clause-ends : goal.read_all-readers-requires-clause-ends
read_all-readers-requires-clause-ends g c κs within =
    let n = (ap (λ xs. length xs) (c.deref_mut-2.ensures.value ∙ (front_is c.give_readers.new.crew _ c.line_up-crew.result.len (c.give_readers.auto.crew ∙ c.deref_mut.ensures.len)))
    ∙ (c.in_default.ensures.given.number ∙ (ap (λ xs. length xs) c.deref_mut.ensures.value ∙ (c.line_up-crew.ensures.number ∙ c.in-Ok.ensures.number))))
    in let e = c.requires.ends in omega (arith, n, e)
