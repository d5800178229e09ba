use Rattle.std.{proofs.Common.{◌≡◌, ℕ, ◌≤◌, ◌++◌, ◌∙◌, take, drop, refl, sym, ap, ap₂, subst, arith}, proofs.lemmas.Result.err_from_is_err_and}
use Rattle.lert_bay.{specs.declared.bay.TheConstants.FRAMES, specs.Settled.part}
use Rattle.lert_frames.{specs.declared.window.Window.Window, specs.Window.{count_of, place_of}, specs.Bytes.AreBytes, proofs.WindowLaws.{hand_kept, filled_come, filled_all, read_more}}
use Rattle.lert_frames.proofs.CallLaws.{reads_turned}
use Rattle.lert_frames.proofs.window.Window.fill.Goals as goal

-- the place of what is at hand
module _ (w old : Window) (front : w.from ≡ 0) (count : w.upto ≡ count_of old) (end : w.at ≡ old.at) where
  place_moved : place_of w ≡ place_of old
  place_moved = omega (arith, front, count, end)

  count_moved : count_of old ≤ count_of w
  count_moved = omega (arith, front, count)

pub returns-in_err-read : goal.returns-in_err-read
returns-in_err-read g c =
    let w = c.move_to_front.new.self in
    let old = c.args.self.now in
    let moved = c.move_to_front.ensures in
    let same = c.read_behind.ensures.front ∙ ap (take w.upto) c.deref_mut.ensures.value in
    let hand = hand_kept w.bytes c.read_behind.new.into w.from w.upto moved.front (omega arith) same ∙ moved.hand in
    let p = err_from_is_err_and c.from_residual.result c.from_residual.ensures.1 in
    rw p.1 (record {
      full = λ seen told. tt;
      ahead = record {
        place = place_moved w old moved.front moved.count moved.end;
        room = moved.room;
        grows = count_moved w old moved.front moved.count moved.end;
        later = omega (arith, moved.end);
        come = λ seen told. ap₂ (λ hand at. hand ++ drop at (seen FRAMES)) hand moved.end;
        read = λ seen told from before known. subst (λ (n : ℕ). AreBytes (part (seen FRAMES) from n)) (sym moved.end) known;
      };
      only_reads = reads_turned (λ _. refl) c.in_err-read.ensures.only_reads;
    })

pub returns-clause-full : goal.returns-clause-full
returns-clause-full g c seen told short =
    let w = c.move_to_front.new.self in
    let moved = c.move_to_front.ensures in
    let same = c.read_behind.ensures.front ∙ ap (take w.upto) c.deref_mut.ensures.value in
    filled_all w.bytes c.read_behind.new.into w.from w.upto moved.front (omega arith) same (seen FRAMES) w.at c.in_ok-read.read (c.in_ok-read.ensures.told seen told)
    (omega (arith, short, moved.front))
    ∙ ap₂ (λ hand at. hand ++ drop at (seen FRAMES)) moved.hand moved.end

pub returns-clause-ahead : goal.returns-clause-ahead
returns-clause-ahead g c =
    let w = c.move_to_front.new.self in
    let moved = c.move_to_front.ensures in
    let into = c.read_behind.new.into in
    let read = c.in_ok-read.read in
    let same = c.read_behind.ensures.front ∙ ap (take w.upto) c.deref_mut.ensures.value in
    record {
      place = omega (arith, moved.front, moved.count, moved.end);
      room = moved.room;
      grows = omega (arith, moved.front, moved.count);
      later = omega (arith, moved.end);
      come = λ seen told.
          filled_come w.bytes into w.from w.upto moved.front (omega arith) same (seen FRAMES) w.at read (c.in_ok-read.ensures.told seen told)
          ∙ ap₂ (λ hand at. hand ++ drop at (seen FRAMES)) moved.hand moved.end;
      read = λ seen told from before known.
          read_more into (seen FRAMES) w.upto w.at read from (c.in_ok-read.ensures.told seen told) (omega (arith, before, moved.end)) c.read_behind.ensures.small
          (subst (λ (n : ℕ). AreBytes (part (seen FRAMES) from n)) (sym moved.end) known);
    }
