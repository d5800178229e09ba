use Rattle.std.{proofs.Common.{◌≡◌, ℕ, ◌+◌, ◌*◌, ◌^◌, ◌≤◌, Option, sym, subst, arith}, specs.Prelude.OnOk}
use Rattle.lert_bay.specs.declared.bay.TheConstants.{FRAMES}
use Rattle.lert_blocks.{specs.Text.block_text, proofs.LengthLaws.block_text_len}
use Rattle.lert_frames.{specs.declared.long.Long.Long, specs.declared.outlet.Outlet.Outlet, specs.Outlet.next_place, specs.Spilt.{Reaches, block_bytes, closed_place, first_place, last_place}}
use Rattle.lert_frames.{proofs.CallLaws.{both_ok, three_ok}, proofs.ClosingLaws.{before_stays, out_behind}, proofs.OrderLaws.{here, at_least}, proofs.WriteLaws.{on_ok, if_ok}}
use Rattle.lert_frames.proofs.closing.close.Goals as goal

-- where a long block begins
begin_before : (l : Long) (slots : ℕ) (e o : Outlet) → Reaches l slots (2 ^ 62) e o → l.begin ≤ next_place o + 8 * slots
begin_before l slots e o reach = omega (arith, reach.ends_at, reach.ends_next, reach.words_fit, reach.slots_at)

ends_at : (at len place : ℕ) → at ≡ place → len ≡ 0 → at + len ≡ place
ends_at at len place is none = omega (arith, is, none)

behind : (at begin slots : ℕ) → at ≡ begin + block_bytes slots → begin ≤ at
behind at begin slots is = omega (arith, is)

short_before : (next more : ℕ) → next ≤ next + more
short_before next more = omega arith

pub close_short-requires : goal.close_short-requires
close_short-requires g c = record { reach = c.requires.room.short c.in-None.is; size = c.requires.size }

pub close_long-requires : goal.close_long-requires
close_long-requires g c =
    let room = c.requires.room in
    record {
      reach = room.spilt c.in-Some.long c.in-Some.is;
      some = room.some c.in-Some.long c.in-Some.is;
      few = room.few c.in-Some.long c.in-Some.is;
      size = c.requires.size;
      ends_size = c.requires.ends_size;
    }

pub returns-in-None : goal.returns-in-None
returns-in-None g c =
    let o = c.args.outlet.now in
    let len = c.args.block.now.len in
    let done = c.close_short.ensures in
    let none = c.in-None.is in
    record {
      out = λ seen told later told_later place width number limit text pieces up behind.
          done.out seen told later told_later place width number text pieces (behind.filled none) (behind.out none);
      place = subst (λ (long : Option Long). OnOk c.close_short.result (next_place c.close_short.new.outlet ≡ closed_place long len o)) (sym none) done.place;
      at = subst (λ (long : Option Long). OnOk c.close_short.result (first_place long o ≤ c.close_short.new.outlet.at)) (sym none) (if_ok _ c.close_short.result done.at);
      size = done.size;
      ends_size = c.requires.ends_size;
      writes = λ begin end low high. done.writes begin end (subst (λ (long : Option Long). begin ≤ first_place long o) none low)
          (at_least (short_before (next_place o) (block_bytes len)) (subst (λ (long : Option Long). last_place long len o ≤ end) none high));
    }

pub returns-in-Some : goal.returns-in-Some
returns-in-Some g c =
    let o = c.args.outlet.now in
    let len = c.args.block.now.len in
    let done = c.close_long.ensures in
    let is = c.in-Some.is in
    let after = c.close_long.new.outlet in
    record {
      out = λ seen told later told_later place width number limit text pieces up behind.
          let l = c.in-Some.long in
          let b = c.args.block.now in
          let done = c.close_long.ensures in
          let spilt = behind.spilt l c.in-Some.is in
          let begins = behind.begins l c.in-Some.is in
          let last = next_place c.args.outlet.now + 8 * b.len in
          let reach = c.requires.room.spilt l c.in-Some.is in
          let before = before_stays _ l.begin last _ _ seen later told told_later (done.writes l.begin last (here l.begin) (here last)).within
          (begin_before l b.len c.args.ends.now c.args.outlet.now reach) place text begins (behind.before l c.in-Some.is) in
          let long = block_text_len width number 0 limit pieces up in
          three_ok _ _ _ _ c.close_long.result (done.there seen told later told_later width number limit pieces up spilt) done.place done.empty
          (λ there at none. out_behind place l.begin text (block_text width number pieces) (later FRAMES) c.close_long.new.outlet before begins there
          (omega (arith, at, long, spilt.filled.skipped)) (omega (arith, long)) none);
      place = subst (λ (long : Option Long). OnOk c.close_long.result (next_place after ≡ closed_place long len o)) (sym is)
          (both_ok _ _ _ c.close_long.result done.place done.empty (λ at none. ends_at after.at after.len _ at none));
      at = subst (λ (long : Option Long). OnOk c.close_long.result (first_place long o ≤ after.at)) (sym is) (on_ok _ _ c.close_long.result done.place (λ at. behind after.at _ _ at));
      size = done.size;
      ends_size = done.ends_size;
      writes = λ begin end low high. done.writes begin end (subst (λ (long : Option Long). begin ≤ first_place long o) is low) (subst (λ (long : Option Long). last_place long len o ≤ end) is high);
    }
