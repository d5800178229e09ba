use Rattle.std.{proofs.Common.{◌≡◌, ◌∙◌, ℕ, ◌+◌, refl, arith}, proofs.lemmas.Result.err_from_is_err_and}
use Rattle.lert_bay.{specs.declared.bay.TheConstants.FRAMES, specs.Settled.part}
use Rattle.lert_frames.{proofs.OutletLaws.out_laid, proofs.CallLaws.reads_turned}
use Rattle.lert_frames.proofs.outlet.Outlet.copy.Goals as goal

place_behind : (at len count : ℕ) → at + (len + count) ≡ at + len + count
place_behind at len count = omega arith

pub returns-in_err-read_into : goal.returns-in_err-read_into
returns-in_err-read_into g c =
    let p = err_from_is_err_and c.from_residual.result c.from_residual.ensures.1 in
    rw p.1 (record {
      out = λ seen told within begin text out. tt;
      place = tt;
      size = refl;
      at = refl;
      only_reads = reads_turned (λ _. refl) c.in_err-read_into.ensures.only_reads;
    })

pub returns : goal.returns
returns g c =
    let from = c.args.from in
    record {
      place = place_behind c.args.self.now.at c.args.self.now.len c.args.count;
      size = refl;
      at = refl;
      only_reads = c.in_ok-read_into.ensures.only_reads;
      out = λ seen told within begin text out.
          out_laid begin text (seen FRAMES) c.args.self.now out (part (seen FRAMES) from (from + c.args.count)) c.deref_mut.result.now c.read_into.new.into
          c.args.count _ c.deref_mut.ensures.value (c.read_into.auto.into ∙ c.deref_mut.ensures.len)
          (c.in_ok-read_into.ensures.told seen told within) refl refl;
    }
