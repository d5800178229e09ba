use Rattle.std.{proofs.Common.{◌≡◌, ℕ, ◌+◌, ◌-◌, ◌*◌, ◌^◌, ◌<◌, ◌≤◌, ◌∙◌, Some, length, drop, ap, sym, refl, subst, arith, true, false}, proofs.lemmas.Result.err_from_is_err_and}
use Rattle.lert_bay.specs.declared.bay.TheConstants.{FRAMES}
use Rattle.lert_blocks.{specs.Frame.ends_agree, specs.Text.word_count}
use Rattle.lert_frames.{specs.Steps.fields_len, specs.Window.{at_hand, place_of, room_of, to_come}, proofs.FaultLaws.{not_err, not_failed, fault_is, same_place}}
use Rattle.lert_frames.{proofs.FieldLaws.{fields_told, end_of, run_ends_short, run_ends_agree, run_ends_differ}, proofs.NearLaws.{agrees_as, block_words, near_long, near_words, near_held}}
use Rattle.lert_frames.{proofs.WriteLaws.same_err, proofs.CallLaws.reads_turned}
use Rattle.lert_frames.proofs.fields.pass_near_fields.Goals as goal

-- ---- what calls want

-- by the number of bytes before the slots, of which some are those of the words
module _ (len words count : ℕ) (len_is : len ≡ 12 + 8 * count) (near : 12 + 8 * count ≤ 8192) where
  fits : (room : ℕ) → room ≡ 8192 → len ≤ room
  fits room room_is = omega (arith, len_is, near, room_is)

  few_words : words ≡ count → words ≤ 2 ^ 32
  few_words are = omega (arith, are, near)

  some_fields : 12 ≤ len
  some_fields = omega (arith, len_is)

  behind_fields : (long : ℕ) → long ≡ len - 12 → words ≡ count → long ≡ 8 * words
  behind_fields long long_is are = omega (arith, long_is, len_is, are)

  words_fit : (long room : ℕ) → long ≡ len - 12 → room ≡ 8192 → long ≤ room
  words_fit long room long_is room_is = omega (arith, long_is, len_is, near, room_is)

near_end : (place more room : ℕ) → place + more < 2 ^ 43 → room ≡ 8192 → place + room < 2 ^ 63
near_end place more room near room_is = omega (arith, near, room_is)

begins : (long len place : ℕ) → long ≡ len - 12 → long ≤ place + len
begins long len place long_is = omega (arith, long_is)

pub demand-requires : goal.demand-requires
demand-requires g c = record {
  fits = fits c.len-len.result 0 (word_count c.args.head.count) c.len-len.ensures c.requires.near (room_of c.args.window.now) c.requires.room;
  reach = near_end (place_of c.args.window.now) (fields_len c.args.head) (room_of c.args.window.now) c.requires.reach c.requires.room;
}

pub between-words-requires : goal.between-words-requires
between-words-requires g c = record {
  order = some_fields c.len-len.result 0 (word_count c.args.head.count) c.len-len.ensures c.requires.near;
  within = subst (λ n. c.len-len.result ≤ n) (sym c.at_hand.ensures.count) c.in_ok-demand.ensures.enough;
}

pub run_ends_of-requires : goal.run_ends_of-requires
run_ends_of-requires g c = record {
  few = few_words c.len-len.result c.words.result (word_count c.args.head.count) c.len-len.ensures c.requires.near c.words.ensures;
  long =
      behind_fields c.len-len.result c.words.result (word_count c.args.head.count) c.len-len.ensures c.requires.near (length c.between-words.result.now)
      c.between-words.ensures.count c.words.ensures;
}

pub left_at_last_word-requires : goal.left_at_last_word-requires
left_at_last_word-requires g c = subst (λ n. n + fields_len c.args.head < 2 ^ 43) (sym c.in_ok-demand.ensures.ahead.place) c.requires.reach

pub hold-requires : goal.hold-requires
hold-requires g c = record {
  room =
      words_fit c.len-len.result 0 (word_count c.args.head.count) c.len-len.ensures c.requires.near
      (length c.between-words.result.now) (room_of c.args.ends.now) c.between-words.ensures.count c.requires.ends_room;
  begins = begins (length c.between-words.result.now) c.len-len.result c.place.result c.between-words.ensures.count;
}

pub overflow_add-place : goal.overflow_add-place
overflow_add-place g c =
    let there = c.place.ensures ∙ c.in_ok-demand.ensures.ahead.place in
    omega (arith, there, c.len-len.ensures, c.requires.reach)

pub skip-requires : goal.skip-requires
skip-requires g c = c.in_ok-demand.ensures.enough

-- ---- its ends

pub returns-in_err-demand : goal.returns-in_err-demand
returns-in_err-demand g c =
    let p = err_from_is_err_and c.from_residual.result c.from_residual.ensures.1 in
    let asked = c.in_err-demand.ensures in
    let head = c.args.head in
    let w = c.args.window.now in
    rw (p.1, p.2) (record {
      passes = tt;
      words = λ seen told. tt;
      agree = λ seen told. tt;
      ends_place = tt;
      malformed = λ seen told at is.
          let xs = to_come w (seen FRAMES) in
          let short : length xs < fields_len head = subst (λ n. length xs < n) c.len-len.ensures (asked.short seen told at (same_err _ _ is)) in
          run_ends_short head xs (fields_told head (at_hand w) xs w (seen FRAMES) refl refl c.requires.fields) (place_of w) (length (seen FRAMES)) short
          ∙ ap Some (sym (asked.end seen told at (same_err _ _ is)));
      ahead = asked.ahead;
      ends_within = λ near. near;
      ends_room = refl;
      only_reads = reads_turned (λ is. same_err _ _ is) asked.only_reads;
    })

pub returns-then-not-agree : goal.returns-then-not-agree
returns-then-not-agree g c =
    let asked = c.in_ok-demand.ensures in
    let head = c.args.head in
    let w = c.args.window.now in
    record {
      passes = tt;
      words = λ seen told. tt;
      agree = λ seen told. tt;
      ends_place = tt;
      malformed = λ seen told at is.
          let xs = to_come w (seen FRAMES) in
          let near = near_words head c.demand.new.window c.at_hand.result.now c.between-words.result.now xs (seen FRAMES) c.len-len.result c.words.result c.len-len.ensures c.words.ensures
          c.at_hand.ensures.value c.between-words.ensures.value asked.enough (asked.ahead.come seen told) in
          let differ : false ≡ ends_agree head.occupied head.count (block_words head xs) =
          sym c.if-not-agree.true ∙ agrees_as head c.run_ends_of.result c.agree.result _ xs c.agree.ensures c.run_ends_of.ensures near in
          let long = near_long head c.demand.new.window c.at_hand.result.now c.between-words.result.now xs (seen FRAMES) c.len-len.result c.words.result c.len-len.ensures c.words.ensures
          c.at_hand.ensures.value c.between-words.ensures.value asked.enough (asked.ahead.come seen told) in
          let place : place_of c.demand.new.window + fields_len head - 8 ≡ at = same_place _ at (sym c.left_at_last_word.ensures ∙ fault_is _ _ is) in
          run_ends_differ head xs (fields_told head (at_hand w) xs w (seen FRAMES) refl refl c.requires.fields) (place_of w) (length (seen FRAMES)) long differ
          ∙ ap Some (ap (λ n. n + fields_len head - 8) (sym asked.ahead.place) ∙ place);
      ahead = asked.ahead;
      ends_within = λ near. near;
      ends_room = refl;
      only_reads = reads_turned (λ is. absurd (not_failed _ _ c.left_at_last_word.ensures is)) asked.only_reads;
    }

pub returns : goal.returns
returns g c =
    let asked = c.in_ok-demand.ensures in
    let head = c.args.head in
    let w = c.args.window.now in
    let near = c.demand.new.window in
    let held = c.hold.ensures in
    let skipped = c.skip.ensures in
    let len_is = c.len-len.ensures in
    record {
      passes = record {
        place = skipped.place ∙ (ap (λ n. n + c.len-len.result) asked.ahead.place ∙ ap (λ n. place_of w + n) len_is);
        room = skipped.room ∙ asked.ahead.room;
        come = λ seen told. skipped.come (seen FRAMES) ∙ (ap (drop c.len-len.result) (asked.ahead.come seen told) ∙ ap (λ n. drop n (to_come w (seen FRAMES))) len_is);
        read = λ seen told from before is. skipped.read from (seen FRAMES) (asked.ahead.read seen told from (omega (arith, before, end_of w)) is);
      };
      words = λ seen told. near_held head near c.at_hand.result.now c.between-words.result.now (to_come w (seen FRAMES)) (seen FRAMES) c.len-len.result c.words.result len_is c.words.ensures
          c.at_hand.ensures.value c.between-words.ensures.value asked.enough (asked.ahead.come seen told) _ _
          (fields_told head (at_hand w) (to_come w (seen FRAMES)) w (seen FRAMES) refl refl c.requires.fields) (held.come (seen FRAMES));
      agree = λ seen told.
          let xs = to_come w (seen FRAMES) in
          let words = near_words head near c.at_hand.result.now c.between-words.result.now xs (seen FRAMES) c.len-len.result c.words.result len_is c.words.ensures
          c.at_hand.ensures.value c.between-words.ensures.value asked.enough (asked.ahead.come seen told) in
          let agrees : true ≡ ends_agree head.occupied head.count (block_words head xs) =
          sym c.if-not-agree.false ∙ agrees_as head c.run_ends_of.result c.agree.result _ xs c.agree.ensures c.run_ends_of.ensures words in
          run_ends_agree head xs (fields_told head (at_hand w) xs w (seen FRAMES) refl refl c.requires.fields) (place_of w) (length (seen FRAMES))
          (near_long head near c.at_hand.result.now c.between-words.result.now xs (seen FRAMES) c.len-len.result c.words.result len_is c.words.ensures
          c.at_hand.ensures.value c.between-words.ensures.value asked.enough (asked.ahead.come seen told)) agrees;
      ends_place = omega (arith, held.place, c.between-words.ensures.count, c.place.ensures, asked.ahead.place, len_is);
      malformed = λ seen told at is. absurd (not_err _ _ is);
      ahead = tt;
      ends_within = λ near. omega (arith, held.place, c.between-words.ensures.count, c.place.ensures, asked.ahead.place, len_is, c.requires.reach);
      ends_room = held.room;
      only_reads = reads_turned (λ is. absurd (not_err _ _ is)) asked.only_reads;
    }
