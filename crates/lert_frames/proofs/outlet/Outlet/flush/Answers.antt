use Rattle.std.{proofs.Common.{◌≡◌, ◌+◌, ◌≤◌, ◌∙◌, List, ℕ, length, length-take, take, ap, sym, subst, refl, arith}, proofs.lemmas.Bool.false≢true, proofs.lemmas.Result.err_from_is_err_and}
use Rattle.lert_bay.{specs.declared.bay.TheConstants.FRAMES, specs.Files.{Changes, Files, Holds}}
use Rattle.lert_frames.{specs.Outlet.IsOut, proofs.CallLaws.{reads_same, same_files}, proofs.OutletLaws.out_flushed, proofs.OrderLaws.here, proofs.WithinLaws.{turns_to, within_reads}}
use Rattle.lert_bay.specs.Kept.{seen_by}
use Rattle.lert_frames.proofs.outlet.Outlet.flush.Goals as goal

-- ---- the bytes that aren't written

none_at : (at len : ℕ) → at + len + 0 ≡ at + len
none_at at len = omega arith

later_at : (at len : ℕ) → at ≤ at + len
later_at at len = omega arith

within_end : (at len end : ℕ) (bytes : List ℕ) → at + len ≤ end → at + length (take len bytes) ≤ end
within_end at len end bytes high = omega (arith, length-take len bytes, high)

pub returns-then-self-eq0 : goal.returns-then-self-eq0
returns-then-self-eq0 g c =
    let o = c.args.self.now in
    let bay = c.args.bay.now in
    record {
      out = λ seen told later told_later begin text out. subst (λ (files : Files). IsOut begin text (files FRAMES) o) (same_files seen later (sym told ∙ told_later)) out;
      written = c.if-self-eq0.true;
      failed = tt;
      place = refl;
      size = refl;
      at = here o.at;
      within = λ begin end low high. within_reads _ begin end bay bay ⊥ (reads_same (seen_by g.B.Faulty g.B.Bay) g.met.B.Bay.only_now (λ never. never));
      kept = (reads_same (seen_by g.B.Faulty g.B.Bay) g.met.B.Bay.only_now (λ is. absurd (false≢true is))).kept;
    }

pub returns-in_err-write_bytes : goal.returns-in_err-write_bytes
returns-in_err-write_bytes g c =
    let o = c.args.self.now in
    let p = err_from_is_err_and c.from_residual.result c.from_residual.ensures.1 in
    let wrote = c.in_err-write_bytes.ensures in
    rw p.1 (record {
      out = λ seen told later told_later begin text out. tt;
      written = tt;
      failed = (refl, refl, refl);
      place = refl;
      size = refl;
      at = here o.at;
      within = λ begin end low high. wrote.within begin end low (within_end o.at o.len end c.deref.result.now high);
      kept = wrote.kept;
    })

pub returns : goal.returns
returns g c =
    let o = c.args.self.now in
    let wrote = c.in_ok-write_bytes.ensures in
    record {
      out = λ seen told later told_then begin text out.
          let changed = turns_to (Changes (Holds o.at (take o.len c.deref.result.now)) FRAMES) _ _ seen later wrote.written told told_then in
          let held = subst (λ (bytes : List ℕ). Holds o.at bytes (seen FRAMES) (later FRAMES)) (ap (take o.len) c.deref.ensures.value) changed.here in
          out_flushed begin text (seen FRAMES) o out (later FRAMES) _ (omega arith) held refl refl;
      written = refl;
      failed = tt;
      place = none_at o.at o.len;
      size = refl;
      at = later_at o.at o.len;
      within = λ begin end low high. wrote.within begin end low (within_end o.at o.len end c.deref.result.now high);
      kept = wrote.kept;
    }
