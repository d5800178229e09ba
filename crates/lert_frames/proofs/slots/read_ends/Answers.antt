use Rattle.std.{proofs.Common.{ℕ, ◌≡◌, ◌<◌, ◌≤◌, ◌+◌, ◌*◌, ◌/◌, ◌∙◌, ◌++◌, List, [], length, drop, min, ap, arith, subst, length-append}, proofs.lemmas.List.drop_all}
use Rattle.std.proofs.lemmas.Result.{err_from_is_err_and}
use Rattle.lert_bay.specs.declared.bay.TheConstants.{FRAMES}
use Rattle.lert_blocks.specs.Text.{word_count}
use Rattle.lert_frames.{specs.Steps.AreEnds, specs.Window.{count_of, to_come}, proofs.WindowLaws.off_of, proofs.FaultLaws.not_err, proofs.WriteLaws.same_err, proofs.CallLaws.reads_turned}
use Rattle.lert_frames.proofs.slots.read_ends.Goals as goal

at_hand_too : (had now bytes : ℕ) → had ≤ now → bytes ≡ now → 8 ≤ had → 8 ≤ bytes
at_hand_too had now bytes grows is some = omega (arith, grows, is, some)

pub returns-in_err-need : goal.returns-in_err-need
returns-in_err-need g c =
    let p = err_from_is_err_and c.from_residual.result c.from_residual.ensures.1 in
    let asked = c.in_err-need.ensures in
    rw (p.1, p.2) (record {
      there = λ seen told. tt;
      hand = tt;
      few = tt;
      one = tt;
      ahead = asked.ahead;
      failed = asked.failed;
      only_reads = reads_turned (λ is. same_err _ _ is) asked.only_reads;
    })

none_more : (xs rest ys : List ℕ) → xs ++ rest ≡ ys → xs ≡ ys → rest ≡ []
none_more xs rest ys all same = drop_all 0 rest (omega (arith, ap (λ (zs : List ℕ). length zs) all, ap (λ (zs : List ℕ). length zs) same, length-append xs rest))

wanted : (some bytes had words : ℕ) → bytes < 8 * min 2 (word_count some) → bytes ≡ had → words ≡ min ((some + 63) / 64) 2 → had < 8 * words
wanted some bytes had words few is words_are = omega (arith, few, is, words_are)

pub returns : goal.returns
returns g c =
    let asked = c.in_ok-need.ensures in
    let w = c.need.new.window in
    let bytes = c.at_hand.result.now in
    record {
      there = λ seen told.
          let rest = drop w.at (seen FRAMES) in
          let all : bytes ++ rest ≡ to_come c.args.ends.now (seen FRAMES) = ap (λ (xs : List ℕ). xs ++ rest) c.at_hand.ensures.value ∙ asked.ahead.come seen told in
          subst (λ (xs : List ℕ). AreEnds c.args.some xs c.of.result) all
          (c.of.ensures.there rest (λ few.
          none_more bytes rest _ all (c.at_hand.ensures.value
          ∙ asked.ends seen told
          (off_of c.in_ok-need.field-0 _ (count_of w) asked.enough (wanted c.args.some (length bytes) (count_of w) c.min-words.result few c.at_hand.ensures.count c.min-words.ensures)))));
      hand = subst (λ n. 8 * c.of.result.words ≤ n) c.at_hand.ensures.count c.of.ensures.hand;
      few = c.of.ensures.few;
      one = λ some. c.of.ensures.one (at_hand_too _ _ _ c.in_ok-need.ensures.ahead.grows c.at_hand.ensures.count some);
      ahead = c.in_ok-need.ensures.ahead;
      failed = tt;
      only_reads = reads_turned (λ is. absurd (not_err _ _ is)) c.in_ok-need.ensures.only_reads;
    }
