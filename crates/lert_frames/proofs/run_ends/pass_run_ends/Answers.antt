use Rattle.lert_bay.specs.Kept.{seen_by}
use Rattle.std.{proofs.Common.{◌≡◌, ℕ, ◌∙◌, arith, subst}, proofs.lemmas.Result.err_from_is_err_and}
use Rattle.lert_frames.{proofs.PassLaws.{words_none, words_more, words_short}, specs.Steps.PassesWords, proofs.FaultLaws.not_err, proofs.WriteLaws.same_err}
use Rattle.lert_frames.proofs.CallLaws.{reads_turned, reads_then, reads_same}
use Rattle.lert_frames.proofs.run_ends.pass_run_ends.Goals as goal

pub loop-word-init : goal.loop-word-init
loop-word-init g c = record {
  passes = words_none _ c.args.bay.now c.args.ends.now c.none-found.result c.none-found.ensures;
  reads = reads_same (seen_by g.B.Faulty g.B.Bay) g.met.B.Bay.only_now (λ never. never);
}

pub pass_word-requires : goal.pass_word-requires
pass_word-requires g c = record {
  room = c.loop-word.invariant.passes.room ∙ c.requires.room;
  reach = omega (arith, c.loop-word.invariant.passes.place, c.requires.reach);
}

pub with-found-requires : goal.with-found-requires
with-found-requires g c = omega (arith, c.loop-word.invariant.passes.few, c.requires.few)

pub loop-word-preserved : goal.loop-word-preserved
loop-word-preserved g c =
    let now = c.loop-word.invariant in
    let one = c.in_ok-pass_word.ensures in
    let more = c.with-found.ensures in
    record {
      passes = words_more _ c.args.bay.now c.loop-word._word c.in_ok-pass_word.field-0 c.args.ends.now c.loop-word.ends c.pass_word.new.ends c.loop-word.found c.with-found.result
          now.passes (record {
            place = one.behind;
            room = one.room;
            later = one.later;
            word = λ seen told. one.word seen (now.reads.seen ∙ told);
            long = λ seen told. one.long seen (now.reads.seen ∙ told);
            come = λ seen told. one.come seen (now.reads.seen ∙ told);
            read = λ seen told. one.bytes seen (now.reads.seen ∙ told);
          }) more.counted more.few;
      reads = reads_then g.met.B.Bay.since_earlier now.reads
          (reads_turned (λ never. absurd never) one.only_reads);
    }

pub returns-in_err-pass_word : goal.returns-in_err-pass_word
returns-in_err-pass_word g c =
    let p = err_from_is_err_and c.from_residual.result c.from_residual.ensures.1 in
    let now = c.loop-word.invariant in
    let one = c.in_err-pass_word.ensures in
    rw (p.1, p.2) (record {
      passes = tt;
      short = λ seen told at is. words_short _ c.args.bay.now c.loop-word._word c.args.words c.args.ends.now c.loop-word.ends c.loop-word.found now.passes c.loop-word-test.true
          seen told (one.short seen (now.reads.seen ∙ told) at (same_err _ _ is));
      end = λ seen told at is. one.end seen (now.reads.seen ∙ told) at (same_err _ _ is);
      within = omega (arith, one.within, now.passes.place, c.loop-word-test.true);
      room = one.room ∙ now.passes.room;
      only_reads = reads_then g.met.B.Bay.since_earlier now.reads
          (reads_turned (λ is. same_err _ _ is) one.only_reads);
    })

pub returns : goal.returns
returns g c =
    let now = c.loop-word.invariant in
    let all : c.loop-word._word ≡ c.args.words = omega (arith, c.loop-word-test.false, c.loop-word.auto) in
    record {
      passes = subst (λ (n : ℕ). PassesWords (seen_by g.B.Faulty g.B.Bay) c.args.bay.now n c.args.ends.now c.loop-word.ends c.loop-word.found) all now.passes;
      short = λ seen told at is. absurd (not_err _ _ is);
      end = λ seen told at is. absurd (not_err _ _ is);
      within = omega (arith, now.passes.place, c.loop-word.auto);
      room = now.passes.room;
      only_reads = reads_turned (λ is. not_err _ _ is) now.reads;
    }
