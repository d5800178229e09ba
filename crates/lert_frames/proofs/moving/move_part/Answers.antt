use Rattle.std.{proofs.Common.{◌≡◌, ℕ, ◌+◌, ◌-◌, ◌≤◌, ◌∙◌, refl, sym, subst, arith}, proofs.lemmas.Result.err_from_is_err_and}
use Rattle.lert_frames.{proofs.CallLaws.{writes_on, writes_as, writes_reads}, specs.Outlet.size_of, proofs.WriteLaws.on_ok}
use Rattle.lert_frames.proofs.moving.move_part.Goals as goal

-- the place behind the bytes
behind : (at len mid old_at old_len count : ℕ) → at + len ≡ mid → mid ≡ old_at + old_len + count → old_len ≡ 0 → len ≡ 0 → at ≡ old_at + count
behind at len mid old_at old_len count place copied empty none = omega (arith, place, copied, empty, none)

high_as : (mid old_at old_len count end : ℕ) → mid ≡ old_at + old_len + count → old_len ≡ 0 → old_at + count ≤ end → mid ≤ end
high_as mid old_at old_len count end copied empty high = omega (arith, copied, empty, high)

room_as : (size len count : ℕ) → count ≤ size → len ≡ 0 → count ≤ size - len
room_as size len count few empty = omega (arith, few, empty)

pub copy-requires : goal.copy-requires
copy-requires g c = record { room = room_as (size_of c.args.outlet.now) c.args.outlet.now.len c.args.count c.requires.size c.requires.empty; reach = c.requires.reach }

pub returns-in_err-copy : goal.returns-in_err-copy
returns-in_err-copy g c =
    let p = err_from_is_err_and c.from_residual.result c.from_residual.ensures.1 in
    let copied = c.in_err-copy.ensures in
    rw p.1 (record {
      out = λ seen told later told_later within begin text out. tt;
      empty = tt;
      place = tt;
      size = copied.size;
      writes = λ begin end low high. writes_as (λ _. refl) (writes_reads copied.only_reads);
    })

pub returns : goal.returns
returns g c =
    let o = c.args.outlet.now in
    let count = c.args.count in
    let copied = c.in_ok-copy.ensures in
    let flushed = c.flush.ensures in
    record {
      out = λ seen told later told_later within begin text out.
          flushed.out seen (copied.only_reads.seen ∙ told) later told_later begin _ (copied.out seen told within begin text out);
      empty = flushed.written;
      place = on_ok _ _ c.flush.result flushed.written (λ none. behind c.flush.new.self.at c.flush.new.self.len _ o.at o.len count flushed.place copied.place c.requires.empty none);
      size = flushed.size ∙ copied.size;
      writes = λ begin end low high.
          writes_on g.met.B.Bay.since_earlier (writes_reads copied.only_reads)
          (record {
            within = flushed.within begin end (subst (λ n. begin ≤ n) (sym copied.at) low) (high_as _ o.at o.len count end copied.place c.requires.empty high);
            kept = flushed.kept;
          });
    }
