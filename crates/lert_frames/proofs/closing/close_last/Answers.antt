use Rattle.std.{proofs.Common.{◌≤◌, ◌∙◌, ◌++◌, refl, sym, subst}, proofs.lemmas.Result.err_from_is_err_and}
use Rattle.lert_bay.specs.declared.bay.TheConstants.{FRAMES}
use Rattle.lert_blocks.specs.Text.{block_text}
use Rattle.lert_frames.{specs.Spilt.{first_place, last_place}, proofs.CallLaws.{both_ok, told_then, writes_as, writes_on}, proofs.OutletLaws.out_whole, proofs.OrderLaws.{here, at_least}}
use Rattle.lert_frames.proofs.closing.close_last.Goals as goal

pub close-requires : goal.close-requires
close-requires g c = record { room = c.requires.room; size = c.requires.size; ends_size = c.requires.ends_size }

pub returns-in_err-close : goal.returns-in_err-close
returns-in_err-close g c =
    let p = err_from_is_err_and c.from_residual.result c.from_residual.ensures.1 in
    let closed = c.in_err-close.ensures in
    rw p.1 (record {
      there = λ seen told later told_later place width number limit text pieces up behind. tt;
      size = closed.size;
      ends_size = closed.ends_size;
      writes = λ begin end low high last. writes_as (λ _. refl) (closed.writes begin end low high);
    })

pub returns : goal.returns
returns g c =
    let closed = c.in_ok-close.ensures in
    let flushed = c.flush.ensures in
    record {
      there = λ seen told later told_later place width number limit text pieces up behind.
          let first = first_place c.args.long c.args.outlet.now in
          let last = last_place c.args.long c.args.block.now.len c.args.outlet.now in
          let mid = told_then (closed.writes first last (here first) (here last)).within told in
          let all = text ++ block_text width number pieces in
          both_ok _ _ _ c.flush.result
          (flushed.out mid.0 mid.1 later told_later place all (closed.out seen told mid.0 mid.1 place width number limit text pieces up behind))
          flushed.written (λ out none. out_whole place all (later FRAMES) c.flush.new.self out none);
      size = flushed.size ∙ closed.size;
      ends_size = closed.ends_size;
      writes = λ begin end low high last.
          writes_on g.met.B.Bay.since_earlier (closed.writes begin end low high)
          (record { within = flushed.within begin end (at_least low closed.at) (subst (λ n. n ≤ end) (sym closed.place) last); kept = flushed.kept });
    }
