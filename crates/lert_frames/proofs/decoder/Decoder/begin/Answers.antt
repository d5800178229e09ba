use Rattle.std.{proofs.Common.{◌+◌, ◌*◌, ◌^◌, ◌<◌, ◌∙◌, ℕ, List, length, ap, sym, refl, subst, arith}, proofs.lemmas.Result.err_from_is_err_and}
use Rattle.lert_bay.specs.declared.bay.TheConstants.{FRAMES}
use Rattle.lert_blocks.{specs.Frame.words_in, specs.Text.word_count}
use Rattle.lert_frames.{specs.Steps.{AreWords, fields_len, run_ends_left}, specs.Window.{at_hand, count_of, place_of, to_come}}
use Rattle.lert_frames.{proofs.AheadLaws.{ahead_on, passes_on, standing_ahead, standing_begun, standing_decoded, window_near, ends_near, fields_near}, proofs.FaultLaws.{err_of, not_err}}
use Rattle.lert_frames.{proofs.FieldLaws.{fields_told, head_fits}, proofs.OrderLaws.here, proofs.StepLaws.{next_fits, steps_begun, steps_unbegun}, proofs.WriteLaws.same_err}
use Rattle.lert_frames.proofs.CallLaws.{reads_turned, reads_then}
use Rattle.lert_frames.proofs.decoder.Decoder.begin.Goals as goal

next_too : (next : ℕ) → 64 * next < 2 ^ 64 → next + 1 < 2 ^ 64
next_too next fits = omega (arith, fits)

pub read_head-requires : goal.read_head-requires
read_head-requires g c = record { room = c.args.self.now.standing.window_room; reach = window_near c.args.self.now }

pub pass_fields-requires : goal.pass_fields-requires
pass_fields-requires g c =
    let old = c.args.self.now in
    let asked = c.in_ok-head.ensures in
    record {
      fields = asked.fields;
      some = asked.fits.some;
      room = asked.ahead.room ∙ old.standing.window_room;
      ends_room = old.standing.ends_room;
      reach = fields_near old c.in_ok-head.head _ c.requires.more asked.fits.within asked.ahead.place;
    }

pub behind-self-requires : goal.behind-self-requires
behind-self-requires g c = record { some = c.requires.more; most = c.in_ok-head.ensures.fits.within; next = next_too c.args.self.now.ahead.next (next_fits c.args.self.now c.requires.more) }

pub invariant_of-self : goal.invariant_of-self
invariant_of-self g c =
    let old = c.args.self.now in
    let asked = c.in_err-head.ensures.ahead in
    record { standing = standing_ahead old c.read_head.new.window old.ends _ asked.place asked.room asked.grows refl refl (here (count_of old.ends)) refl }

pub invariant_of-self-in-Break-branch-2 : goal.invariant_of-self-in-Break-branch-2
invariant_of-self-in-Break-branch-2 g c =
    let old = c.args.self.now in
    let asked = c.in_ok-head.ensures.ahead in
    let passed = c.in_err-pass_fields.ensures in
    record {
      standing = standing_decoded old c.pass_fields.new.window c.pass_fields.new.ends _ c.requires.decoded (passed.ahead.place ∙ asked.place) (passed.ahead.room ∙ asked.room)
          (passed.ends_within (ends_near old)) passed.ends_room refl;
    }

pub returns-in_err-head : goal.returns-in_err-head
returns-in_err-head g c =
    let p = err_from_is_err_and c.from_residual.result c.from_residual.ensures.1 in
    let before = c.args.bay.now in
    let after = c.read_head.new.bay in
    let asked = c.in_err-head.ensures in
    rw (p.1, p.2) (steps_unbegun _ before after c.args.self.now _ refl c.requires.decoded c.requires.more _ refl refl asked.ahead
    (λ seen told at is. asked.malformed seen told at (err_of _ _ is))
    (reads_turned (λ is. same_err _ _ is) asked.only_reads))

pub returns-in_err-pass_fields : goal.returns-in_err-pass_fields
returns-in_err-pass_fields g c =
    let p = err_from_is_err_and c.from_residual-in_err-pass_fields.result c.from_residual-in_err-pass_fields.ensures.1 in
    let before = c.args.bay.now in
    let between = c.read_head.new.bay in
    let after = c.pass_fields.new.bay in
    let old = c.args.self.now in
    let near = c.read_head.new.window in
    let head = c.in_ok-head.head in
    let asked = c.in_ok-head.ensures in
    let passed = c.in_err-pass_fields.ensures in
    rw (p.1, p.2) (steps_unbegun _ before after old _ refl c.requires.decoded c.requires.more _ refl refl
    (ahead_on _ before between asked.only_reads.seen old.window near c.pass_fields.new.window asked.ahead passed.ahead)
    (λ seen told at is.
    let xs = to_come old.window (seen FRAMES) in
    head_fits old.ahead.most (place_of old.window) (length (seen FRAMES)) head xs
    (fields_told head (at_hand near) xs near (seen FRAMES) refl (asked.ahead.come seen told) asked.fields) asked.fits
    ∙ ((λ i. run_ends_left (sym asked.ahead.place i) (length (seen FRAMES)) (sym (asked.ahead.come seen told) i))
    ∙ passed.malformed seen (asked.only_reads.seen ∙ told) at (err_of _ _ is)))
    (reads_then g.met.B.Bay.since_earlier asked.only_reads (reads_turned (λ is. same_err _ _ is) passed.only_reads)))

pub begun-self-requires : goal.begun-self-requires
begun-self-requires g c = next_fits c.args.self.now c.requires.more

pub invariant_of-self-2 : goal.invariant_of-self-2
invariant_of-self-2 g c =
    let old = c.args.self.now in
    let asked = c.in_ok-head.ensures in
    let passed = c.in_ok-pass_fields.ensures in
    record {
      standing = standing_begun old c.in_ok-head.head c.begun-self.result c.behind-self.result c.pass_fields.new.window c.pass_fields.new.ends c.requires.decoded c.requires.more
          asked.small asked.fits c.begun-self.ensures c.behind-self.ensures
          (passed.passes.place ∙ ap (λ n. n + fields_len c.in_ok-head.head) asked.ahead.place)
          (passed.passes.room ∙ (asked.ahead.room ∙ old.standing.window_room))
          (passed.ends_place ∙ ap (λ n. n + 12) asked.ahead.place)
          (passed.ends_room ∙ old.standing.ends_room) (length old.slots.items) old.standing.slots_room;
    }

pub returns : goal.returns
returns g c =
    let before = c.args.bay.now in
    let between = c.read_head.new.bay in
    let after = c.pass_fields.new.bay in
    let old = c.args.self.now in
    let head = c.in_ok-head.head in
    let asked = c.in_ok-head.ensures in
    let passed = c.in_ok-pass_fields.ensures in
    let near = c.read_head.new.window in
    let passes = passes_on _ before between asked.only_reads.seen old.window near c.pass_fields.new.window asked.ahead (fields_len head) passed.passes in
    steps_begun _ before after old _ refl c.requires.decoded c.requires.more head c.begun-self.ensures c.behind-self.ensures asked.small asked.fits passes
    (passed.ends_place ∙ ap (λ n. n + 12) asked.ahead.place)
    (λ seen told. fields_told head (at_hand near) (to_come old.window (seen FRAMES)) near (seen FRAMES) refl (asked.ahead.come seen told) asked.fields)
    (λ seen told. (λ i. run_ends_left (sym asked.ahead.place i) (length (seen FRAMES)) (sym (asked.ahead.come seen told) i)) ∙ passed.agree seen (asked.only_reads.seen ∙ told))
    (λ seen told. subst (λ (xs : List ℕ). AreWords (words_in xs) (word_count head.count) (to_come c.pass_fields.new.ends (seen FRAMES))) (asked.ahead.come seen told)
    (passed.words seen (asked.only_reads.seen ∙ told)))
    (reads_then g.met.B.Bay.since_earlier asked.only_reads (reads_turned (λ is. absurd (not_err _ _ is)) passed.only_reads))
