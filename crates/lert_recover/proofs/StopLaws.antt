-- Why a replay stopped, and what was so of a cone when it was made.
use Rattle.std.proofs.Common.{ℕ, ◌≡◌, Bool, Option, List, length, refl, ap, ◌∙◌, subst, inl, inr}
use Rattle.lert_bay.specs.{declared.bay.TheConstants.{LOG, FRAMES}, Files.Files}
use Rattle.lert_cone.specs.{declared.refusal.ReplayFault.ReplayFault, declared.refusal.ReplayFault.TheVariants.{Failed as ReplayFailed, Malformed as ReplayMalformed, Unsound as ReplayUnsound}}
use Rattle.lert_cone.specs.{Replay.ReplayLeavesAt, Replaying.{Replaying, IsSameReplay}, Sound.IsSound, Stands.WereSoundAs, Tally.Shows}
use Rattle.lert_levels.specs.declared.rows.bin_at.BinAt.{BinAt}
use Rattle.lert_spec.specs.declared.{item.Item.Item, numbers.Numbers.Numbers, report.Report.Report}
use Rattle.lert_files.specs.{declared.fault.ReopenFault.ReopenFault, declared.fault.ReopenFault.TheVariants.{Failed, Malformed}}
use Rattle.lert_recover.specs.{Replayed.{HasReplayed, JournalEnds, JournalLeavesAt}, Reopened.{IsStopped, IsWhy, At_call, At_place, At_sight}}
use Rattle.lert_recover.proofs.ReplayedLaws.{ends_from_start, here, leaves_from_start}

-- a replay that stopped at a gate behind what it had replayed
module _ {version : ℕ} (s : Numbers) (cone n0 : ℕ) (closed : Bool) (bytes : List ℕ) (before : List Item) (w first gate n : ℕ) (events : List Item) (weight : ℕ)
    (has : HasReplayed version s cone n0 closed bytes before w first gate events weight) (n_is : n ≡ length events) where
  start_leaves : (at : ℕ) → JournalLeavesAt version s cone n0 closed bytes n weight gate at → JournalLeavesAt version s cone n0 closed bytes (length before) w first at
  start_leaves at leaves =
      leaves_from_start version s cone n0 closed bytes before w first gate events weight at has (subst (λ (m : ℕ). JournalLeavesAt version s cone n0 closed bytes m weight gate at) n_is leaves)

  start_ends : JournalEnds version s cone n0 closed bytes n weight gate → JournalEnds version s cone n0 closed bytes (length before) w first
  start_ends ends = ends_from_start version s cone n0 closed bytes before w first gate events weight has (subst (λ (m : ℕ). JournalEnds version s cone n0 closed bytes m weight gate) n_is ends)

  pub stopped_of : (fault : ReopenFault) (replay : ReplayFault) → IsWhy version s cone n0 closed bytes n weight gate replay fault →
      ((at : ℕ) → replay ≡ ReplayMalformed at → ReplayLeavesAt version s cone n0 closed n weight bytes gate at) →
      ((file at : ℕ) → replay ≡ ReplayUnsound file at → (file ≡ LOG) × (at ≡ 0)) →
      IsStopped version s cone n0 closed bytes (length before) w first fault
  stopped_of fault ReplayFailed why left shown = At_call why
  stopped_of fault (ReplayMalformed at) why left shown = At_place at why (start_leaves at (here version s cone n0 closed bytes n weight gate at (left at refl)))
  stopped_of fault (ReplayUnsound file at) (inl failed) left shown = At_call failed
  stopped_of fault (ReplayUnsound file at) (inr (inl (is, ends))) left shown = (let where_ = shown file at refl in At_sight file at is (start_ends ends) where_.0 where_.1)
  stopped_of fault (ReplayUnsound file at) (inr (inr (place, is, leaves))) left shown = At_place place is (start_leaves place leaves)

pub failed_or_unsound : (file at : ℕ) → ReplayUnsound file at ≡ ReplayFailed → ⊥
failed_or_unsound file at is = cc

failed_or_malformed : (at : ℕ) → ReplayMalformed at ≡ ReplayFailed → ⊥
failed_or_malformed at is = cc

pub named_a_place : (file at : ℕ) → Malformed file at ≡ Failed → ⊥
named_a_place file at is = cc

pub outside_of : (version : ℕ) (s : Numbers) (cone n0 : ℕ) (closed : Bool) (bytes : List ℕ) (n w gate : ℕ) (fault : ReopenFault) (replay : ReplayFault) →
    IsWhy version s cone n0 closed bytes n w gate replay fault → replay ≡ ReplayFailed → fault ≡ Failed
outside_of version s cone n0 closed bytes n w gate fault ReplayFailed why outside = why
outside_of version s cone n0 closed bytes n w gate fault (ReplayMalformed at) why failed = absurd (failed_or_malformed at failed)
outside_of version s cone n0 closed bytes n w gate fault (ReplayUnsound file at) why failed = absurd (failed_or_unsound file at failed)

-- what was so when the cone was made
pub was_before : {B : Type 0} (files : B → Option Files) (start now : Replaying B) → IsSameReplay start now → WereSoundAs files now.listing.settings now.listing.cone now.made →
    WereSoundAs files start.listing.settings start.listing.cone start.made
was_before files start now same was first told =
    let sound = was first (ap files same.made ∙ told) in (
      sound.0,
      subst (λ (s : Numbers). IsSound s start.listing.cone sound.0 first) same.settings
          (subst (λ (cone : ℕ). IsSound now.listing.settings cone sound.0 first) same.cone sound.1),
    )

-- where no frame shows that files are sound for no list, the store is full
pub full_alone : {version : ℕ} (s : Numbers) (rows : List (List BinAt)) (reports : List Report) (frames : List ℕ) (file at : ℕ) → Shows version s rows reports frames file at → (file ≡ FRAMES → ⊥) →
    (file ≡ LOG) × (at ≡ 0)
full_alone s rows reports frames file at (inl broken) never = absurd (never broken.0)
full_alone s rows reports frames file at (inr full) never = (full.0, full.1)
