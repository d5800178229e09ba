use Rattle.std.{proofs.Common.{◌≡◌, ℕ, ◌+◌, ◌*◌, ◌^◌, ◌<◌, ◌≤◌, ◌∙◌, ◌++◌, length, ap, sym, subst, refl, arith}, proofs.lemmas.Result.err_from_is_err_and}
use Rattle.lert_bay.specs.declared.bay.TheConstants.{FRAMES}
use Rattle.lert_blocks.specs.Text.{numbers_text}
use Rattle.lert_frames.{specs.Outlet.next_place, proofs.CallLaws.{writes_on, writes_as, told_then}, proofs.OrderLaws.here, proofs.WriteLaws.if_ok}
use Rattle.lert_frames.proofs.closing.write_numbers.Goals as goal

-- the places of the numbers
low_as : (begin at made put : ℕ) → begin ≤ at → at ≤ made → put ≡ made → begin ≤ put
low_as begin at made put low later same = omega (arith, low, later, same)

room_before : (next count end : ℕ) → next + count ≤ end → next ≤ end
room_before next count end within = omega (arith, within)

pub make_room-requires : goal.make_room-requires
make_room-requires g c = c.requires.size

pub put_numbers-requires : goal.put_numbers-requires
put_numbers-requires g c =
    let made = c.in_ok-make_room.ensures in
    record { room = made.room; reach = subst (λ n. n + 8 * length c.args.numbers.now < 2 ^ 63) (sym made.place) c.requires.reach }

pub returns-in_err-make_room : goal.returns-in_err-make_room
returns-in_err-make_room g c =
    let p = err_from_is_err_and c.from_residual.result c.from_residual.ensures.1 in
    let made = c.in_err-make_room.ensures in
    rw p.1 (record {
      out = λ seen told later told_later begin text out. tt;
      empty = tt;
      place = tt;
      size = made.size;
      writes = λ begin end low high. writes_as (λ _. refl) (made.writes begin end low (room_before _ _ end high));
    })

pub returns : goal.returns
returns g c =
    let o = c.args.outlet.now in
    let made = c.in_ok-make_room.ensures in
    let put = c.put_numbers.ensures in
    let flushed = c.flush.ensures in
    let place : next_place c.put_numbers.new.self ≡ next_place o + 8 * length c.args.numbers.now = put.place ∙ ap (λ n. n + 8 * length c.args.numbers.now) made.place in
    record {
      out = λ seen told later told_later begin text out.
          let between = told_then (made.writes o.at (next_place o) (here o.at) (here (next_place o))).within told in
          flushed.out between.0 between.1 later told_later begin (text ++ numbers_text c.args.numbers.now)
          (put.out begin text (between.0 FRAMES) (made.out seen told between.0 between.1 begin text out));
      empty = flushed.written;
      place = if_ok _ c.flush.result (flushed.place ∙ place);
      size = flushed.size ∙ (put.size ∙ made.size);
      writes = λ begin end low high.
          writes_on g.met.B.Bay.since_earlier (made.writes begin end low (room_before _ _ end high))
          (record { within = flushed.within begin end (low_as begin o.at _ _ low made.at put.at) (subst (λ n. n ≤ end) (sym place) high); kept = flushed.kept });
    }
