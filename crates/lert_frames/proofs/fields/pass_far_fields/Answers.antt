use Rattle.std.{proofs.Common.{◌≡◌, ℕ, ◌+◌, ◌*◌, ◌-◌, ◌^◌, ◌<◌, ◌≤◌, ◌∙◌, Some, length, drop, ap, ap₂, sym, subst, refl, arith, true, false}, proofs.lemmas.Result.err_from_is_err_and}
use Rattle.lert_bay.specs.declared.bay.TheConstants.{FRAMES}
use Rattle.lert_blocks.{specs.Frame.ends_agree, specs.Text.word_count}
use Rattle.lert_frames.{specs.declared.fields.Head.Head, specs.Steps.fields_len, specs.Window.{at_hand, place_of, to_come}, proofs.FaultLaws.{not_err, not_failed, fault_is, same_place}}
use Rattle.lert_frames.proofs.FieldLaws.{fields_told, length_hand, come_far, run_ends_short, run_ends_agree, run_ends_differ}
use Rattle.lert_frames.{proofs.NearLaws.{agrees_as, block_words, far_short, far_long, far_words, far_held, far_read}, proofs.WriteLaws.same_err, proofs.CallLaws.reads_turned}
use Rattle.lert_frames.proofs.fields.pass_far_fields.Goals as goal

near_place : (place len : ℕ) → place + len < 2 ^ 43 → place < 2 ^ 43
near_place place len reach = omega (arith, reach)

words_near : (place held words : ℕ) (head : Head) → place + fields_len head < 2 ^ 43 → held ≡ place + 12 → words ≡ word_count head.count → held + 8 * words < 2 ^ 43
words_near place held words head reach held_is words_are = omega (arith, reach, held_is, words_are)

pub hold_behind-requires : goal.hold_behind-requires
hold_behind-requires g c =
    let w = c.args.window.now in
    record {
      some = subst (λ n. 12 ≤ n) (length_hand w) c.requires.fields.long;
      room = c.requires.room ∙ sym c.requires.ends_room;
      reach = near_place (place_of w) (fields_len c.args.head) c.requires.reach;
    }

pub pass_run_ends-requires-clause-room : goal.pass_run_ends-requires-clause-room
pass_run_ends-requires-clause-room g c = c.hold_behind.ensures.room ∙ c.requires.ends_room

pub pass_run_ends-requires-clause-reach : goal.pass_run_ends-requires-clause-reach
pass_run_ends-requires-clause-reach g c = words_near (place_of c.args.window.now) _ _ c.args.head c.requires.reach c.hold_behind.ensures.place c.words.ensures

pub left_at_last_word-requires : goal.left_at_last_word-requires
left_at_last_word-requires g c = c.requires.reach

pub hold_behind-requires-2 : goal.hold_behind-requires-2
hold_behind-requires-2 g c =
    let w = c.args.window.now in
    record {
      some = subst (λ n. 12 ≤ n) (length_hand w) c.requires.fields.long;
      room = c.requires.room ∙ sym (c.in_ok-found.ensures.passes.room ∙ (c.hold_behind.ensures.room ∙ c.requires.ends_room));
      reach = near_place (place_of w) (fields_len c.args.head) c.requires.reach;
    }

pub returns-in_err-found : goal.returns-in_err-found
returns-in_err-found g c =
    let p = err_from_is_err_and c.from_residual.result c.from_residual.ensures.1 in
    let passed = c.in_err-found.ensures in
    let head = c.args.head in
    let w = c.args.window.now in
    rw (p.1, p.2) (record {
      passes = tt;
      words = λ seen told. tt;
      agree = λ seen told. tt;
      ends_place = tt;
      malformed = λ seen told at is.
          let xs = to_come w (seen FRAMES) in
          let are = fields_told head (at_hand w) xs w (seen FRAMES) refl refl c.requires.fields in
          run_ends_short head xs are (place_of w) (length (seen FRAMES))
          (far_short head c.words.result xs (to_come c.hold_behind.new.ends (seen FRAMES)) are c.words.ensures (c.hold_behind.ensures.come (seen FRAMES)) (passed.short seen told at (same_err _ _ is)))
          ∙ ap Some (sym (passed.end seen told at (same_err _ _ is)));
      ahead = record { place = refl; room = refl; grows = omega arith; later = omega arith; come = λ seen told. refl; read = λ seen told from near is. is };
      ends_within = λ near. omega (arith, passed.within, c.hold_behind.ensures.place, c.words.ensures, c.requires.reach);
      ends_room = passed.room ∙ c.hold_behind.ensures.room;
      only_reads = reads_turned (λ is. same_err _ _ is) passed.only_reads;
    })

pub returns-then-not-agree : goal.returns-then-not-agree
returns-then-not-agree g c =
    let passed = c.in_ok-found.ensures in
    let head = c.args.head in
    let w = c.args.window.now in
    record {
      passes = tt;
      words = λ seen told. tt;
      agree = λ seen told. tt;
      ends_place = tt;
      malformed = λ seen told at is.
          let xs = to_come w (seen FRAMES) in
          let are = fields_told head (at_hand w) xs w (seen FRAMES) refl refl c.requires.fields in
          let come = c.hold_behind.ensures.come (seen FRAMES) in
          let differ : false ≡ ends_agree head.occupied head.count (block_words head xs) =
          sym c.if-not-agree.true ∙ agrees_as head c.in_ok-found.found c.agree.result _ xs c.agree.ensures (passed.passes.counted seen told)
          (far_words head c.words.result xs _ c.words.ensures come) in
          let place : place_of w + fields_len head - 8 ≡ at = same_place _ at (sym c.left_at_last_word.ensures ∙ fault_is _ _ is) in
          run_ends_differ head xs are (place_of w) (length (seen FRAMES)) (far_long head c.words.result xs _ are c.words.ensures come (passed.passes.long seen told)) differ
          ∙ ap Some place;
      ahead = record { place = refl; room = refl; grows = omega arith; later = omega arith; come = λ seen told. refl; read = λ seen told from near is. is };
      ends_within = λ near. omega (arith, passed.within, c.hold_behind.ensures.place, c.words.ensures, c.requires.reach);
      ends_room = passed.room ∙ c.hold_behind.ensures.room;
      only_reads = reads_turned (λ is. absurd (not_failed _ _ c.left_at_last_word.ensures is)) passed.only_reads;
    }

pub returns : goal.returns
returns g c =
    let passed = c.in_ok-found.ensures in
    let head = c.args.head in
    let w = c.args.window.now in
    let begun = c.hold_behind.ensures in
    let held = c.hold_behind-2.ensures in
    let started = c.start.ensures in
    let place : c.place.result + c.len.result ≡ place_of w + fields_len head = ap₂ (λ m n. m + n) c.place.ensures c.len.ensures in
    record {
      passes = record {
        place = started.place ∙ place;
        room = started.room;
        come = λ seen told. started.come (seen FRAMES) ∙ (ap (λ n. drop n (seen FRAMES)) place ∙ come_far w (fields_len head) (seen FRAMES) (omega (arith, w.within, c.requires.room, c.requires.far)));
        read = λ seen told from before is. far_read w c.hold_behind.new.ends c.pass_run_ends.new.ends c.start.new.self (seen FRAMES) from (fields_len head) before begun.end passed.passes.later
            (passed.passes.read seen told w.at (omega (arith, begun.end))) (omega (arith, passed.passes.place, begun.place, c.words.ensures)) (started.place ∙ place) started.hand is;
      };
      words = λ seen told.
          let xs = to_come w (seen FRAMES) in
          far_held head c.words.result xs _ _ (fields_told head (at_hand w) xs w (seen FRAMES) refl refl c.requires.fields) c.words.ensures (begun.come (seen FRAMES)) (held.come (seen FRAMES))
          (passed.passes.long seen told);
      agree = λ seen told.
          let xs = to_come w (seen FRAMES) in
          let are = fields_told head (at_hand w) xs w (seen FRAMES) refl refl c.requires.fields in
          let agrees : true ≡ ends_agree head.occupied head.count (block_words head xs) =
          sym c.if-not-agree.false ∙ agrees_as head c.in_ok-found.found c.agree.result _ xs c.agree.ensures (passed.passes.counted seen told)
          (far_words head c.words.result xs _ c.words.ensures (begun.come (seen FRAMES))) in
          run_ends_agree head xs are (place_of w) (length (seen FRAMES))
          (far_long head c.words.result xs _ are c.words.ensures (begun.come (seen FRAMES)) (passed.passes.long seen told)) agrees;
      ends_place = held.place;
      malformed = λ seen told at is. absurd (not_err _ _ is);
      ahead = tt;
      ends_within = λ near. omega (arith, held.place, c.requires.reach);
      ends_room = held.room ∙ (passed.room ∙ begun.room);
      only_reads = reads_turned (λ is. absurd (not_err _ _ is)) passed.only_reads;
    }
