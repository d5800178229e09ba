use Rattle.std.{proofs.Common.{◌∙◌, ◌+◌, ◌≤◌, ap, refl, sym, subst}, proofs.lemmas.Result.err_from_is_err_and}
use Rattle.lert_bay.specs.declared.bay.TheConstants.{FRAMES}
use Rattle.lert_frames.{specs.Laid.laid_len, proofs.CallLaws.writes_as}
use Rattle.lert_frames.proofs.closing.close_short.Goals as goal

pub returns-in_err-make_room : goal.returns-in_err-make_room
returns-in_err-make_room g c =
    let p = err_from_is_err_and c.from_residual.result c.from_residual.ensures.1 in
    let made = c.in_err-make_room.ensures in
    rw p.1 (record {
      out = λ seen told later told_later place width number text pieces filled out. tt;
      place = tt;
      at = made.at;
      size = made.size ∙ c.requires.size;
      writes = λ begin end low high. writes_as (λ _. refl) (made.writes begin end low high);
    })

pub returns : goal.returns
returns g c =
    let made = c.in_ok-make_room.ensures in
    let put = c.put_block.ensures in
    record {
      out = λ seen told later told_later place width number text pieces filled out.
          put.out width number pieces filled place text (later FRAMES) (made.out seen told later told_later place text out);
      place = put.place ∙ ap (λ n. n + laid_len c.args.block.now) made.place;
      at = subst (λ n. c.args.outlet.now.at ≤ n) (sym put.at) made.at;
      size = put.size ∙ (made.size ∙ c.requires.size);
      writes = λ begin end low high. writes_as (λ is. is) (made.writes begin end low high);
    }
