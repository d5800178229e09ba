use Rattle.std.{proofs.Common.{◌≡◌, ◌<◌, ◌*◌, ◌/◌, ◌∙◌, ℕ, min, length, ap, ap₂, arith}, proofs.lemmas.Result.err_from_is_err_and}
use Rattle.lert_blocks.specs.Frame.{numbers_in}
use Rattle.lert_frames.{specs.Window.count_of, proofs.FaultLaws.not_err, proofs.WindowLaws.off_of, proofs.WriteLaws.same_err, proofs.CallLaws.reads_turned}
use Rattle.lert_frames.proofs.slots.read_slots.Goals as goal

pub returns-in_err-need : goal.returns-in_err-need
returns-in_err-need g c =
    let p = err_from_is_err_and c.from_residual.result c.from_residual.ensures.1 in
    let asked = c.in_err-need.ensures in
    rw (p.1, p.2) (record {
      count = tt;
      slots = tt;
      all = λ seen told. tt;
      ahead = asked.ahead;
      failed = asked.failed;
      only_reads = reads_turned (λ is. same_err _ _ is) asked.only_reads;
    })

-- fewer were read than wanted
short_of : (count most wanted long had : ℕ) → count ≡ min most (long / 8) → most ≡ wanted → long ≡ had → count < wanted → had < 8 * most
short_of count most wanted long had count_is most_is long_is few = omega (arith, count_is, most_is, long_is, few)

pub returns : goal.returns
returns g c =
    let most = c.min-most.ensures ∙ ap (λ n. min n (64 * c.args.words)) c.min.ensures in
    let asked = c.in_ok-need.ensures in
    let had = count_of c.need.new.window in
    record {
      ahead = c.in_ok-need.ensures.ahead;
      failed = tt;
      only_reads = reads_turned (λ is. absurd (not_err _ _ is)) c.in_ok-need.ensures.only_reads;
      count = c.read_numbers.ensures.count ∙ ap₂ (λ most long. min most (long / 8)) most c.at_hand.ensures.count;
      slots = c.read_numbers.ensures.numbers ∙ ap (numbers_in c.read_numbers.result) c.at_hand.ensures.value;
      all = λ seen told few.
          let short =
          short_of c.read_numbers.result c.min-most.result _ (length c.at_hand.result.now) had c.read_numbers.ensures.count most c.at_hand.ensures.count few in
          asked.ends seen told (off_of c.in_ok-need.field-0 (8 * c.min-most.result) had asked.enough short);
    }
