use Rattle.std.{proofs.Common.{◌≡◌, ◌≤◌, ◌*◌, ◌/◌, ◌∙◌, ℕ, min, List, refl, sym, ap, subst, arith, take}, specs.Vec.with_items, proofs.lemmas.List.with_items_is}
use Rattle.std.proofs.lemmas.Result.{err_from_is_err_and}
use Rattle.lert_bay.specs.declared.bay.TheConstants.{FRAMES}
use Rattle.lert_frames.{specs.Steps.AreEnds, specs.Window.{count_of, to_come}, proofs.AheadLaws.{ahead_none, ahead_since, standing_ahead, window_near, ends_near}, proofs.FaultLaws.not_err}
use Rattle.lert_frames.{proofs.SlotLaws.{hand_from, hand_read}, proofs.OrderLaws.here, proofs.WriteLaws.same_err, proofs.CallLaws.{reads_turned, reads_then}}
use Rattle.lert_frames.proofs.decoder.Decoder.read_word.Goals as goal

-- the slots that were read
module _ (some words count had : ℕ) (is : count ≡ min (min (min some 72) (64 * words)) (had / 8)) where
  few_slots : count ≤ min some 72
  few_slots = omega (arith, is)

  known_slots : count ≤ 64 * words
  known_slots = omega (arith, is)

  slots_there : 8 * count ≤ had
  slots_there = omega (arith, is)

pub read_ends-requires : goal.read_ends-requires
read_ends-requires g c =
    let old = c.args.self.now in
    record { some = c.requires; few = old.standing.some; room = old.standing.ends_room; reach = ends_near old }

pub read_slots-requires : goal.read_slots-requires
read_slots-requires g c =
    let old = c.args.self.now in
    record {
      words = c.in_ok-ends.ensures.few;
      into = c.deref_mut.ensures.len ∙ (old.slots.ok.0 ∙ old.standing.slots_room);
      room = old.standing.window_room;
      reach = window_near old;
    }

pub invariant_of-self : goal.invariant_of-self
invariant_of-self g c =
    let old = c.args.self.now in
    let word = c.in_err-ends.ensures.ahead in
    record { standing = standing_ahead old old.window c.read_ends.new.ends _ refl refl (here (count_of old.window)) word.place word.room word.grows refl }

pub invariant_of-self-2 : goal.invariant_of-self-2
invariant_of-self-2 g c =
    let old = c.args.self.now in
    let word = c.in_ok-ends.ensures.ahead in
    let read = c.read_slots.ensures.ahead in
    record {
      standing = standing_ahead old c.read_slots.new.window c.read_ends.new.ends _ read.place read.room read.grows word.place word.room word.grows
          (sym (with_items old.slots c.read_slots.new.into).ok.0 ∙ old.slots.ok.0);
    }

pub returns-in_err-ends : goal.returns-in_err-ends
returns-in_err-ends g c =
    let p = err_from_is_err_and c.from_residual.result c.from_residual.ensures.1 in
    let before = c.args.bay.now in
    let word = c.in_err-ends.ensures in
    rw (p.1, p.2) (record {
      width = refl;
      block = refl;
      ahead = refl;
      window = ahead_none _ before c.args.self.now.window;
      ends = word.ahead;
      hand = tt;
      slots = λ seen told. tt;
      failed = word.failed;
      only_reads = reads_turned (λ is. same_err _ _ is) word.only_reads;
    })

pub returns-in_err-count : goal.returns-in_err-count
returns-in_err-count g c =
    let p = err_from_is_err_and c.from_residual-in_err-count.result c.from_residual-in_err-count.ensures.1 in
    let before = c.args.bay.now in
    let between = c.read_ends.new.bay in
    let after = c.read_slots.new.bay in
    let word = c.in_ok-ends.ensures in
    let read = c.in_err-count.ensures in
    rw (p.1, p.2) (record {
      width = refl;
      block = refl;
      ahead = refl;
      window = ahead_since _ before between c.args.self.now.window c.read_slots.new.window word.only_reads.seen read.ahead;
      ends = word.ahead;
      hand = tt;
      slots = λ seen told. tt;
      failed = read.failed;
      only_reads = reads_then g.met.B.Bay.since_earlier word.only_reads (reads_turned (λ is. same_err _ _ is) read.only_reads);
    })

pub returns : goal.returns
returns g c =
    let before = c.args.bay.now in
    let between = c.read_ends.new.bay in
    let after = c.read_slots.new.bay in
    let old = c.args.self.now in
    let word = c.in_ok-ends.ensures in
    let read = c.in_ok-count.ensures in
    let words = c.in_ok-ends.ends.words in
    let count = c.in_ok-count.count in
    let had = count_of c.read_slots.new.window in
    record {
      width = refl;
      block = refl;
      ahead = refl;
      window = ahead_since _ before between old.window c.read_slots.new.window word.only_reads.seen read.ahead;
      ends = word.ahead;
      hand = record {
        few = few_slots old.block.some words count had read.count;
        known = known_slots old.block.some words count had read.count;
        hand = slots_there old.block.some words count had read.count;
        hand_ends = word.hand;
        from = hand_from old.block.from old.block.some words count had (count_of old.ends) (count_of old.window)
            old.standing.from old.standing.near old.standing.hand read.ahead.grows old.standing.word word.one read.count;
      };
      slots = λ seen told. hand_read old.block.some (to_come c.read_ends.new.ends (seen FRAMES)) (to_come c.read_slots.new.window (seen FRAMES)) c.in_ok-ends.ends c.in_ok-count.count _
          c.read_slots.new.window (seen FRAMES)
          (subst (λ (ends : List ℕ). AreEnds old.block.some ends c.in_ok-ends.ends) (sym (word.ahead.come seen told)) (word.there seen told)) refl read.count
          (ap (take count) (with_items_is old.slots c.read_slots.new.into (c.read_slots.auto.into ∙ c.deref_mut.ensures.len)) ∙ read.slots)
          (λ few. read.all seen (word.only_reads.seen ∙ told) few ∙ sym (read.ahead.come seen (word.only_reads.seen ∙ told)));
      failed = tt;
      only_reads = reads_then g.met.B.Bay.since_earlier word.only_reads (reads_turned (λ is. absurd (not_err _ _ is)) read.only_reads);
    }
