use Rattle.lert_bay.specs.Kept.{seen_by}
use Rattle.std.{proofs.Common.{◌≡◌, ◌∙◌, ℕ, ◌-◌, ◌≤◌, sym, subst, arith}, proofs.lemmas.Bool.false≢true}
use Rattle.lert_bay.{specs.Files.Files, specs.declared.bay.TheConstants.FRAMES}
use Rattle.lert_frames.{specs.Outlet.IsOut, proofs.CallLaws.{writes_none, same_files}, proofs.WriteLaws.on_ok}
use Rattle.lert_frames.proofs.outlet.Outlet.make_room.Goals as goal

pub returns-then-count-room-clause-out : goal.returns-then-count-room-clause-out
returns-then-count-room-clause-out g c seen told later told_later begin text out =
    subst (λ (files : Files). IsOut begin text (files FRAMES) c.args.self.now) (same_files seen later (sym told ∙ told_later)) out

pub returns-then-count-room-clause-writes : goal.returns-then-count-room-clause-writes
returns-then-count-room-clause-writes g c begin end low high = writes_none (seen_by g.B.Faulty g.B.Bay) g.met.B.Bay.only_now (λ is. absurd (false≢true is))

-- an outlet that has written all has room for what its buffer holds
room_behind : (count size was len : ℕ) → count ≤ was → size ≡ was → len ≡ 0 → count ≤ size - len
room_behind count size was len fits same none = omega (arith, fits, same, none)

pub returns : goal.returns
returns g c =
    let flushed = c.flush.ensures in
    record {
      out = flushed.out;
      room = on_ok _ _ c.flush.result flushed.written (λ none. room_behind _ _ _ _ c.requires flushed.size none);
      place = flushed.place;
      size = flushed.size;
      at = flushed.at;
      writes = λ begin end low high. record { within = flushed.within begin end low high; kept = flushed.kept };
    }
