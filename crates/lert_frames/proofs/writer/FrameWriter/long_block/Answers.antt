use Rattle.lert_bay.specs.Kept.{seen_by}
use Rattle.std.{proofs.Common.{◌≡◌, ℕ, ◌+◌, ◌*◌, ◌^◌, ◌<◌, ◌≤◌, ◌∙◌, None, length, ap, subst, refl, arith}, proofs.lemmas.Bool.false≢true, proofs.lemmas.List.length-take-le}
use Rattle.std.proofs.lemmas.Result.{err_from_is_err_and}
use Rattle.lert_bay.specs.declared.bay.TheConstants.{FRAMES}
use Rattle.lert_blocks.specs.Text.{blocks_text, pieces_in}
use Rattle.lert_frames.{specs.declared.writer.FrameWriter.FrameWriter, specs.Outlet.next_place, specs.Place.slots_each, specs.Spilt.{Reaches, block_bytes}, specs.Writing.end_of}
use Rattle.lert_frames.{proofs.GrowingLaws.{growing_flushed, growing_long, long_fits}, proofs.ProceedLaws.{proceeds_none, stays_none}, proofs.WritingLaws.behind_long}
use Rattle.lert_frames.proofs.writer.FrameWriter.long_block.Goals as goal

pub returns-in-Some : goal.returns-in-Some
returns-in-Some g c =
    let w = c.args.self.now in
    record {
      proceeds = proceeds_none (seen_by g.B.Faulty g.B.Bay) g.met.B.Bay.only_now
          (record { settings = refl; version = refl; level = refl; frame = refl; width = refl; place = refl; put = refl; left = refl })
          (λ e. absurd (false≢true e));
      stays = stays_none (seen_by g.B.Faulty g.B.Bay) w c.args.bay.now;
      number = refl;
      block = refl;
      long = c.in-Some.is;
    }

flush_end : (w : FrameWriter) → w.long ≡ None → next_place w.outlet ≤ end_of w
flush_end w none = omega (arith, long_fits w.growing w.holding none)

long_reach : (place slots : ℕ) (w : FrameWriter) → place + slots ≤ end_of w → place + slots < 2 ^ 62
long_reach place slots w fits = omega (arith, fits, w.growing.end)

pub invariant_of-self : goal.invariant_of-self
invariant_of-self g c =
    let w = c.args.self.now in
    let flushed = c.in_err-flush.ensures in
    record { growing = w.growing; holding = growing_flushed w.growing w.holding c.flush.new.self c.in_default.is flushed.size flushed.place flushed.at; given = w.given }

pub begin_long-long-requires : goal.begin_long-long-requires
begin_long-long-requires g c =
    let w = c.args.self.now in
    let b = w.block in
    let counted : length c.slots.result.now ≡ b.len = ap length c.slots.ensures ∙ length-take-le b.len b.slots.items (omega (arith, b.sized.0, b.sized.2)) in
    let reserve = ap (λ each. each * w.left) c.slots_each-each.ensures.value in
    let fits : next_place c.flush.new.self + block_bytes (length c.slots.result.now + c.slots_each-each.result * w.left) ≤ end_of w =
    omega (arith, long_fits w.growing w.holding c.in_default.is, c.in_ok-flush.ensures.place, counted, reserve) in
    long_reach (next_place c.flush.new.self) (block_bytes (length c.slots.result.now + c.slots_each-each.result * w.left)) w fits

pub returns-in_err-flush : goal.returns-in_err-flush
returns-in_err-flush g c =
    let w = c.args.self.now in
    let p = err_from_is_err_and c.from_residual.result c.from_residual.ensures.1 in
    let flushed = c.in_err-flush.ensures in
    rw p.1 (record {
      proceeds = record {
        same = record { settings = refl; version = refl; level = refl; frame = refl; width = refl; place = refl; put = refl; left = refl };
        writes = record { within = flushed.within w.place (end_of w) (w.holding.short c.in_default.is).at (flush_end w c.in_default.is); kept = flushed.kept };
      };
      stays = tt;
      number = refl;
      block = refl;
      long = tt;
    })

pub invariant_of-self-2-clause-holding : goal.invariant_of-self-2-clause-holding
invariant_of-self-2-clause-holding g c =
    let w = c.args.self.now in
    let b = w.block in
    let flushed = c.in_ok-flush.ensures in
    let begun = c.begin_long-long.ensures in
    let counted : length c.slots.result.now ≡ b.len = ap length c.slots.ensures ∙ length-take-le b.len b.slots.items (omega (arith, b.sized.0, b.sized.2)) in
    let reserve = ap (λ each. each * w.left) c.slots_each-each.ensures.value in
    let most : length c.slots.result.now + c.slots_each-each.result * w.left ≡ b.len + slots_each w.version * w.left = omega (arith, counted, reserve) in
    let fits : next_place c.flush.new.self + block_bytes (length c.slots.result.now + c.slots_each-each.result * w.left) ≤ end_of w =
    omega (arith, long_fits w.growing w.holding c.in_default.is, flushed.place, counted, reserve) in
    growing_long w.growing w.holding c.begin_long-long.new.outlet c.begin_long-long.new.ends c.begin_long-long.result c.in_default.is c.requires
    (begun.size ∙ (flushed.size ∙ w.holding.size)) (begun.ends_size ∙ w.holding.ends_size) (begun.begin ∙ flushed.place) begun.words
    (subst (λ n. Reaches c.begin_long-long.result n (end_of w) c.begin_long-long.new.ends c.begin_long-long.new.outlet) most (begun.reach (end_of w) fits))

pub returns : goal.returns
returns g c =
    let w = c.args.self.now in
    let short = w.holding.short c.in_default.is in
    let text = blocks_text w.width 0 w.number w.put in
    let pieces = pieces_in w.width w.number w.put in
    let flushed = c.in_ok-flush.ensures in
    let begun = c.begin_long-long.ensures in
    record {
      number = refl;
      block = refl;
      long = refl;
      proceeds =
          record {
            same = record { settings = refl; version = refl; level = refl; frame = refl; width = refl; place = refl; put = refl; left = refl };
            writes = record {
              within = c.in_ok-flush.ensures.within w.place (end_of w) short.at (omega (arith, long_fits w.growing w.holding c.in_default.is));
              kept = c.in_ok-flush.ensures.kept;
            };
          };
      stays = λ seen told later told_later at.
          record {
            passed = at.passed;
            stands = behind_long w.long c.begin_long-long.result w.place text w.width w.number pieces (later FRAMES) c.flush.new.self c.begin_long-long.new.ends c.begin_long-long.new.outlet w.block
                (flushed.out seen told later told_later w.place text (at.stands.out c.in_default.is)) flushed.written begun.begin
                (begun.spilt w.width w.number pieces (later FRAMES) w.block (at.stands.filled c.in_default.is));
          };
    }
