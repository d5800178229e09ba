-- Writes into a range of the file of frames, one after another, are writes into it.
use Rattle.std.{proofs.Common.{◌≡◌, ℕ, ◌+◌, ◌-◌, ◌≤◌, List, length, Option, Some, refl, sym, ◌∙◌, ◌⊎◌, subst, inl, inr, arith}, proofs.lemmas.Bool.cases_lt, proofs.lemmas.List.take_all}
use Rattle.lert_bay.{specs.Files.{Files, Turns, Changes, Holds, IsOutside, Torn, LeftByFailure}, specs.Images.ComesByWrite, specs.Kept.{Bays, KeepsBay, OnlyReads}, specs.Settled.part}
use Rattle.lert_bay.{specs.declared.bay.TheConstants.FRAMES, proofs.Settling.part_torn, proofs.Tearing.{comes_same, left_same, left_by_part}}
use Rattle.lert_frames.{specs.Kept.{Wrote, WritesWithin, KeepsOutside}, proofs.WriteLaws.{changes_on, changes_weaker, turns_on, turns_weaker, kept_outside}}

-- ---- one file

outside_within : (at count begin end place : ℕ) → begin ≤ at → at + count ≤ end → IsOutside begin (end - begin) place → IsOutside at count place
outside_within at count begin end place low high (inl before) = inl (omega (arith, low, before))
outside_within at count begin end place low high (inr behind) = inr (omega (arith, low, high, behind))

pub torn_within : (at count begin end : ℕ) (old new : List ℕ) → begin ≤ at → at + count ≤ end → Torn at count old new → Torn begin (end - begin) old new
torn_within at count begin end old new low high torn = record {
  no_shorter = torn.no_shorter;
  no_longer = omega (arith, torn.no_longer, low, high);
  elsewhere = λ place within outside. torn.elsewhere place within (outside_within at count begin end place low high outside);
}

pub left_within : (at count begin end : ℕ) (old new : List ℕ) → begin ≤ at → at + count ≤ end → LeftByFailure at count old new → LeftByFailure begin (end - begin) old new
left_within at count begin end old new low high left = record {
  torn = torn_within at count begin end old new low high left.torn;
  gap = λ place past before. left.gap place past (omega (arith, low, before));
}

-- a whole write is one
pub held_within : (at begin end : ℕ) (bytes old new : List ℕ) → begin ≤ at → at + length bytes ≤ end → Holds at bytes old new → LeftByFailure begin (end - begin) old new
held_within at begin end bytes old new low high held =
    let all = sym (take_all (length bytes) bytes (omega arith)) in
    left_within at (length bytes) begin end old new low high
    (left_by_part at (length bytes) bytes old new (omega arith) (subst (λ (piece : List ℕ). Holds at piece old new) all held))

torn_twice : (at count : ℕ) (old middle new : List ℕ) → Torn at count old middle → Torn at count middle new → Torn at count old new
torn_twice at count old middle new one two = record {
  no_shorter = omega (arith, one.no_shorter, two.no_shorter);
  no_longer = omega (arith, one.no_longer, two.no_longer);
  elsewhere = λ place within outside. two.elsewhere place (omega (arith, within, one.no_shorter)) outside ∙ one.elsewhere place within outside;
}

left_twice : (at count : ℕ) (old middle new : List ℕ) → LeftByFailure at count old middle → LeftByFailure at count middle new → LeftByFailure at count old new
left_twice at count old middle new one two = record {
  torn = torn_twice at count old middle new one.torn two.torn;
  gap = λ place past before. elim (cases_lt place (length middle)) [
    | inl within ↦ two.torn.elsewhere place within (inl before) ∙ one.gap place past before
    | inr past_middle ↦ two.gap place past_middle before
  ];
}

-- ---- images

comes_within : (leaves : Files → Type 0) (file at count begin end : ℕ) (image : Files) → begin ≤ at → at + count ≤ end → ComesByWrite leaves file at count image →
    ComesByWrite leaves file begin (end - begin) image
comes_within leaves file at count begin end image low high came = (
  came.0,
  came.1,
  changes_weaker file (Torn at count) (Torn begin (end - begin)) came.0 image (λ a b torn. torn_within at count begin end a b low high torn) came.2,
)

comes_twice : (first middle : Files → Type 0) (file at count : ℕ) (image : Files) → ((earlier : Files) → middle earlier → ComesByWrite first file at count earlier) →
    ComesByWrite middle file at count image → ComesByWrite first file at count image
comes_twice first middle file at count image before came =
    let earlier = before came.0 came.1 in (
      earlier.0,
      earlier.1,
      changes_on file (Torn at count) (Torn at count) (Torn at count) earlier.0 came.0 image (λ a b c one two. torn_twice at count a b c one two) earlier.2 came.2,
    )

-- ---- calls of a bay

-- files that are told before a step and behind it make it
pub turns_to : (step : Files → Files → Type 0) (before after : Option Files) (seen later : Files) → Turns step before after → before ≡ Some seen → after ≡ Some later →
    step seen later
turns_to step before after seen later turned told told_then =
    let then = turned.told seen told in
    let both : Some then.0 ≡ Some later = sym then.1 ∙ told_then in
    let same : then.0 ≡ later = cc in
    subst (λ (files : Files). step seen files) same then.2

module _ {B : Type 0} (bays : Bays B) (begin end : ℕ) where
  -- calls that read alone
  pub within_reads : (before after : B) (Failed : Type 0) → OnlyReads bays before after Failed → WritesWithin bays begin end before after
  within_reads before after Failed reads = record {
    wrote = record {
      seen = record {
        told = λ old told. (old, reads.seen ∙ told, record { here = left_same begin (end - begin) (old FRAMES); others = λ other apart. refl });
        untold = λ untold. reads.seen ∙ untold;
      };
      images = λ image now. comes_same (bays.leaves before) FRAMES begin (end - begin) image ((reads.images image).0 now);
      moments = λ image since. comes_same (bays.leaves before) FRAMES begin (end - begin) image (reads.moments image since);
    };
  }

  -- a write into a part of the range
  pub within_wrote : (step : List ℕ → List ℕ → Type 0) (at count : ℕ) (before after : B) → ((a b : List ℕ) → step a b → LeftByFailure begin (end - begin) a b) →
      begin ≤ at → at + count ≤ end → Wrote bays step FRAMES at count before after → WritesWithin bays begin end before after
  within_wrote step at count before after follows low high wrote = record {
    wrote = record {
      seen = turns_weaker FRAMES step (LeftByFailure begin (end - begin)) (bays.files before) (bays.files after) follows wrote.seen;
      images = λ image now. comes_within (bays.leaves before) FRAMES at count begin end image low high (wrote.images image now);
      moments = λ image since. comes_within (bays.leaves before) FRAMES at count begin end image low high (wrote.moments image since);
    };
  }

  -- calls in turn
  pub within_on : (before between after : B) (First Then : Type 0) → KeepsBay bays before between First → KeepsBay bays between after Then →
      WritesWithin bays begin end before between → WritesWithin bays begin end between after → WritesWithin bays begin end before after
  within_on before between after First Then kept kept_then first second =
      let count = end - begin in
      record {
        wrote = record {
          seen = turns_on FRAMES (LeftByFailure begin count) (LeftByFailure begin count) (LeftByFailure begin count) (bays.files before) (bays.files between) (bays.files after)
              (λ a b c one two. left_twice begin count a b c one two) first.wrote.seen second.wrote.seen;
          images = λ image now.
              comes_twice (bays.leaves before) (bays.leaves between) FRAMES begin count image first.wrote.images (second.wrote.images image now);
          moments = λ image since. elim (kept_then.time.known (bays.moment before) image kept.time.later since) [
            | inl past ↦ first.wrote.moments image past
            | inr later ↦ comes_twice (bays.leaves before) (bays.leaves between) FRAMES begin count image first.wrote.images (second.wrote.moments image later)
          ];
        };
      }

  -- a wider range
  pub within_wider : (low high : ℕ) (before after : B) → low ≤ begin → begin ≤ end → end ≤ high → WritesWithin bays begin end before after →
      WritesWithin bays low high before after
  within_wider low high before after lower order higher wrote = record {
    wrote = record {
      seen = turns_weaker FRAMES (LeftByFailure begin (end - begin)) (LeftByFailure low (high - low)) (bays.files before) (bays.files after)
          (λ a b left. left_within begin (end - begin) low high a b lower (omega (arith, order, higher)) left) wrote.wrote.seen;
      images = λ image now. comes_within (bays.leaves before) FRAMES begin (end - begin) low high image lower (omega (arith, order, higher)) (wrote.wrote.images image now);
      moments = λ image since. comes_within (bays.leaves before) FRAMES begin (end - begin) low high image lower (omega (arith, order, higher)) (wrote.wrote.moments image since);
    };
  }

  -- what is settled outside of the range, and in each other file, stays so
  pub within_outside : (last : ℕ) (before after : B) (seen : Files) → begin ≤ last → end ≤ last → WritesWithin bays begin end before after →
      KeepsOutside bays before after seen FRAMES begin last
  within_outside last before after seen low high wrote =
      kept_outside bays (LeftByFailure begin (end - begin)) FRAMES begin (end - begin) last before after seen (omega (arith, low, high)) wrote.wrote

  -- where the files are told before, they are told behind
  module _ (before after : B) (seen later : Files) (told : bays.files before ≡ Some seen) (told_then : bays.files after ≡ Some later)
      (wrote : WritesWithin bays begin end before after) where
    pub turned : Changes (LeftByFailure begin (end - begin)) FRAMES seen later
    turned = turns_to (Changes (LeftByFailure begin (end - begin)) FRAMES) (bays.files before) (bays.files after) seen later wrote.wrote.seen told told_then

    -- bytes outside of the range stay
    pub part_within : (from to : ℕ) → to ≤ length (seen FRAMES) → begin ≤ end → (to ≤ begin) ⊎ (end ≤ from) → part (later FRAMES) from to ≡ part (seen FRAMES) from to
    part_within from to within order apart =
        part_torn begin (end - begin) (seen FRAMES) (later FRAMES) (seen FRAMES) from to turned.here.torn refl within (beside apart)
      where
        beside : (to ≤ begin) ⊎ (end ≤ from) → (to ≤ begin) ⊎ (begin + (end - begin) ≤ from)
        beside (inl low) = inl low
        beside (inr high) = inr (omega (arith, order, high))
