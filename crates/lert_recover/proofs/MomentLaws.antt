-- Files that stay sound for a list at each moment of a reopening.
use Rattle.std.proofs.Common.{◌≡◌, ℕ, Some, Result, Ok, Err, List, arith, subst, sym}
use Rattle.std.specs.Prelude.{MatchResult}
use Rattle.lert_base.specs.Packet.{Packet}
use Rattle.lert_bay.specs.{Files.Files, Kept.{Bays, CallsBay, ReadsBay}}
use Rattle.lert_bay.proofs.KeptLaws.{IsLawful}
use Rattle.lert_cone.specs.{Sound.{IsSound, StaysSound}, Replaying.{IsSameReplay, Replaying}, Stands.Standing}
use Rattle.lert_cone.proofs.{Calls.now_since, ReplayCalls.{stays_by, stays_on}}
use Rattle.lert_files.specs.Opened.{WritesNothing}
use Rattle.lert_spec.specs.declared.numbers.Numbers.{Numbers}
use Rattle.lert_recover.specs.Moments.{AreSound}

-- ---- the same, said of settings and a number that are the same

pub sound_as : (s t : Numbers) (cone number : ℕ) (history : List Packet) (image : Files) → t ≡ s → number ≡ cone → IsSound s cone history image → IsSound t number history image
sound_as s t cone number history image settings_are cone_is sound =
    subst (λ (u : Numbers). IsSound u number history image) (sym settings_are) (subst (λ (n : ℕ). IsSound s n history image) (sym cone_is) sound)

module _ {B : Type 0} (bays : Bays B) where
  pub stays_as : (s t : Numbers) (cone number : ℕ) (history : List Packet) (before after : B) → t ≡ s → number ≡ cone → StaysSound bays t number history before after →
      StaysSound bays s cone history before after
  stays_as s t cone number history before after settings_are cone_is stays =
      subst (λ (u : Numbers). StaysSound bays u cone history before after) settings_are
      (subst (λ (n : ℕ). StaysSound bays t n history before after) cone_is stays)

module _ {B : Type 0} (bays : Bays B) (lawful : IsLawful bays) (history : List Packet) where
  module _ (s : Numbers) (cone : ℕ) where
    -- no call
    pub stays_none : (bay : B) → AreSound (bays.leaves bay) s cone history → StaysSound bays s cone history bay bay
    stays_none bay each = stays_by bays lawful s cone history bay bay (omega arith) (λ image since. each image (lawful.only_now bay image since))

    -- calls that write nothing
    pub stays_quiet : (before after : B) (Failed : Type 0) → WritesNothing bays before after Failed → (seen : Files) → bays.files before ≡ Some seen →
        AreSound (bays.leaves before) s cone history → StaysSound bays s cone history before after
    stays_quiet before after Failed quiet seen told each =
        stays_by bays lawful s cone history before after quiet.kept.time.later (λ image since. each image (quiet.moments seen told image since))

    -- calls behind that read alone
    pub stays_read : (before between after : B) (First Failed : Type 0) → CallsBay bays before between First → StaysSound bays s cone history before between →
        ReadsBay bays between after Failed → StaysSound bays s cone history before after
    stays_read before between after First Failed kept stays reads =
        stays_on bays lawful s cone history before between after kept.time.later reads.kept.time stays
        (stays_by bays lawful s cone history between after reads.kept.time.later
        (λ image since. stays.each_moment image (now_since lawful kept.time.later image (reads.moments image since))))

  -- one packet more is replayed
  pub stays_replayed : (start old : Replaying B) (after : B) (First Second : Type 0) → IsSameReplay start old → CallsBay bays start.bay old.bay First →
      CallsBay bays old.bay after Second → StaysSound bays start.listing.settings start.listing.cone history start.bay old.bay →
      StaysSound bays old.listing.settings old.listing.cone history old.bay after →
      StaysSound bays start.listing.settings start.listing.cone history start.bay after
  stays_replayed start old after First Second same kept step one two =
      stays_on bays lawful start.listing.settings start.listing.cone history start.bay old.bay after kept.time.later step.time one
      (stays_as bays start.listing.settings old.listing.settings start.listing.cone old.listing.cone history old.bay after same.settings same.cone two)

  -- a cone is made behind calls that wrote nothing, and its journal is replayed
  pub stays_made : {E : Type 0} (bay_in : E → B) (Failed : E → Type 0) (s : Numbers) (cone : ℕ) (start : Replaying B) (before : B) → start.listing.settings ≡ s →
      start.listing.cone ≡ cone → WritesNothing bays before start.bay ⊥ → (seen : Files) → bays.files before ≡ Some seen →
      AreSound (bays.leaves before) s cone history → (result : Result (Standing B) E) →
      MatchResult result (λ now. CallsBay bays start.bay now.bay ⊥) (λ refused. CallsBay bays start.bay (bay_in refused) (Failed refused)) →
      (AreSound (bays.leaves start.bay) start.listing.settings start.listing.cone history → MatchResult result
      (λ now. StaysSound bays start.listing.settings start.listing.cone history start.bay now.bay)
      (λ refused. StaysSound bays start.listing.settings start.listing.cone history start.bay (bay_in refused))) →
      MatchResult result (λ now. StaysSound bays s cone history before now.bay) (λ refused. StaysSound bays s cone history before (bay_in refused))
  stays_made {E = E} bay_in Failed s cone start before settings_are cone_is quiet seen told each result kept stays = behind result kept (stays made)
    where
      made : AreSound (bays.leaves start.bay) start.listing.settings start.listing.cone history
      made = λ image may. sound_as s start.listing.settings cone start.listing.cone history image settings_are cone_is (each image (quiet.images seen told image may))

      joined : (after : B) (Any : Type 0) → CallsBay bays start.bay after Any → StaysSound bays start.listing.settings start.listing.cone history start.bay after →
          StaysSound bays s cone history before after
      joined after Any kept stays =
          stays_on bays lawful s cone history before start.bay after quiet.kept.time.later kept.time (stays_quiet s cone before start.bay ⊥ quiet seen told each)
          (stays_as bays s start.listing.settings cone start.listing.cone history start.bay after settings_are cone_is stays)

      behind : (result : Result (Standing B) E) →
          MatchResult result (λ now. CallsBay bays start.bay now.bay ⊥) (λ refused. CallsBay bays start.bay (bay_in refused) (Failed refused)) →
          MatchResult result
          (λ now. StaysSound bays start.listing.settings start.listing.cone history start.bay now.bay)
          (λ refused. StaysSound bays start.listing.settings start.listing.cone history start.bay (bay_in refused)) →
          MatchResult result (λ now. StaysSound bays s cone history before now.bay) (λ refused. StaysSound bays s cone history before (bay_in refused))
      behind (Ok now) kept stays = joined now.bay ⊥ kept stays
      behind (Err refused) kept stays = joined (bay_in refused) (Failed refused) kept stays
