-- Cones that are opened over bays one by one, what is printed of them, and which status a recovery ends with.
use Rattle.std.proofs.Common.{◌≡◌, ◌⊎◌, ℕ, ◌-◌, ◌^◌, Bool, true, false, List, ◌∷◌, ◌++◌, length, map, Option, Some, slice_get, refl, ap, sym, ◌∙◌, subst, inl, inr, arith, length-append}
use Rattle.std.proofs.{lemmas.List.length-map, lemmas.Option.{slice_get_within, same_Some}}
use Rattle.lert_base.specs.{declared.kept.Kept.Kept, Packet.{Packet, events_of}}
use Rattle.lert_bay.specs.Files.{Files, IfTold}
use Rattle.lert_cone.specs.{Listing.reports_of, JournalPlaces.{IsPlaceIn, last_place}, Sound.{IsJournal, IsSound, IsSoundAs}, Stands.{Standing, StandsFor, is_broken, is_finished}, Unread.unread}
use Rattle.lert_cone.proofs.UnreadLaws.{length_unread}
use Rattle.lert_io.specs.Fault.{HasRisen}
use Rattle.lert_files.specs.declared.fault.ReopenFault.{ReopenFault}
use Rattle.lert_files.specs.declared.fault.ReopenFault.TheVariants as fault
use Rattle.lert_journal.specs.Header.{version_in}
use Rattle.lert_files.specs.{Headed.HasOther, Opened.LeaveAt}
use Rattle.lert_recover.specs.{Reopened.{IsReadOn, IsUnsoundAt}, Replayed.{AreReplayed, FirstLeaves, frames_weigh}}
use Rattle.lert_reports.specs.{Log.{is_closed, last_first, last_n0, last_offset, HasLog}, LogText.LogRecord}
use Rattle.lert_spec.specs.{declared.item.Item.Item, declared.numbers.Numbers.Numbers}
use Rattle.lert_ingest.specs.Bays.{AreLater, AreUntouched, IfHeld, bays_of}
use Rattle.lert_top.specs.{cones.Print.{state_of, ArePrintable, printed_as}, recovery.Recovered.{AreCounted, AreOpenOver, AreRecovered, IsOpenOver, IsRecovered, IsUnopened, LowerAreFormed, OfBay}}
use Rattle.lert_top.specs.recovery.Recovered.{printed_for, reopen_status, unopened_failed, unopened_spoiled, unopened_other}
use Rattle.lert_ingest.proofs.BayLaws.{bay_at, bay_is, slice_get-seam, slice_get-some}
use Rattle.lert_top.proofs.cones.EndLaws.{printed_at}

-- a state tells whether a cone is finished
same_end : (one other : Bool) → state_of one ≡ state_of other → one ≡ other
same_end true true same = refl
same_end true false same = absurd (cc)
same_end false true same = absurd (cc)
same_end false false same = refl

pub open_is : (closed : Bool) → is_broken (state_of closed) ≡ false
open_is true = refl
open_is false = refl

end_is : (closed : Bool) → is_finished (state_of closed) ≡ closed
end_is true = refl
end_is false = refl

-- how many keys were had of a journal
counted_on : (s : Numbers) (cone : ℕ) (seen : Files) (events : List Item) (weight gate count : ℕ) → count ≡ length events → IsReadOn s cone seen events weight gate → AreCounted s cone seen count
counted_on s cone seen events weight gate count count_is read =
    let records = read.records in
    let has = read.replayed in
    let version = version_in (seen 0) in
    let framed = frames_weigh s seen read.rows in
    let before = last_first records - 1 in
    let n_is = length_unread version s cone before (Some seen) in
    let keys_are = ap (λ (xs : List Item). length xs) has.events_are ∙ length-append (unread version s cone before (Some seen)) (events_of has.packets) in
    record {
      records = records;
      log_end = read.log_end;
      log = read.log;
      rows = read.rows;
      named = read.named;
      ends = record {
        packets = has.packets;
        end = gate;
        stand = subst (λ (n : ℕ). AreReplayed version s cone (last_n0 records) (is_closed records) (seen 0) n framed (last_offset records) has.packets gate) n_is has.stand;
        shut = read.shut;
        enough = omega (arith, read.enough, keys_are, n_is);
      };
      count = omega (arith, count_is, keys_are, n_is);
    }

-- what a cone that isn't reopened says of its files
pub record WasRefused {B : Type 0} (files : B → Option Files) (s : Numbers) (cone : ℕ) (bay back : B) (refusal : ReopenFault) : Type 0 where
  pub malformed : IfTold (files bay) (λ seen. (file at : ℕ) → refusal ≡ fault.Malformed file at → FirstLeaves s cone seen file at ⊎ IsUnsoundAt s cone seen file at)
  pub other_is : IfTold (files bay) (λ seen. (kept : Kept) → refusal ≡ fault.OtherSettings kept → HasOther s cone (seen 0) kept)
  pub refuses : IfTold (files bay) (λ seen. (file at : ℕ) → FirstLeaves s cone seen file at →
      (refusal ≡ fault.Failed) ⊎ (refusal ≡ fault.Malformed file at))
  pub differs : IfTold (files bay) (λ seen. (kept : Kept) → HasOther s cone (seen 0) kept →
      (refusal ≡ fault.Failed) ⊎ (refusal ≡ fault.OtherSettings kept))
  pub opens : IfTold (files bay) (λ seen. (history : List Packet) → IsSound s cone history seen → refusal ≡ fault.Failed)
  pub unread : IfTold (files bay) (λ seen. (file at : ℕ) → LeaveAt s cone seen file at → files back ≡ files bay)
  pub untouched : (kept : Kept) → refusal ≡ fault.OtherSettings kept → files back ≡ files bay

module _ {B : Type 0} (files : B → Option Files) (leaves : B → Files → Type 0) (faults mark : B → ℕ) where
  -- a cone that was reopened over a bay
  pub open_over : (s : Numbers) (number : ℕ) (bay : B) (cone : Standing B) →
      IfTold (files bay) (λ seen. (history : List Packet) (sound : IsSound s number history seen) →
      StandsFor files leaves faults cone history × (cone.state ≡ state_of (is_closed sound.logged))) →
      IfTold (files bay) (λ seen. IsReadOn s number seen cone.listing.events cone.weight cone.gate) →
      IfTold (files bay) (λ seen. (history : List Packet) → IsJournal (version_in (seen 0)) s number history (seen 0) → (records : List LogRecord) (log_end : ℕ) →
      HasLog s number (seen 1) records log_end → IsPlaceIn (version_in (seen 0)) history (last_place records) → cone.listing.events ≡ events_of history) →
      IfTold (files bay) (λ seen. (file at : ℕ) → FirstLeaves s number seen file at → ⊥) →
      IfTold (files bay) (λ seen. (kept : Kept) → HasOther s number (seen 0) kept → ⊥) →
      cone.listing.settings ≡ s → cone.listing.cone ≡ number → cone.events ≡ length cone.listing.events → cone.state ≡ state_of cone.listing.closed →
      files cone.made ≡ files bay → IsOpenOver files leaves faults s number bay cone
  open_over s number bay cone opens journal whole formed own settings named counted state made = record {
    settings_are = settings;
    number_is = named;
    state_is = state;
    counted = counted;
    sound = λ seen told history sound.
        let all = opens seen told history sound in (
          all.0,
          λ first was.
              let same : seen ≡ first = same_Some seen first (sym told ∙ (sym made ∙ was)) in (
                history,
                subst (λ (t : Numbers). IsSound t cone.listing.cone history first) (sym settings)
                    (subst (λ n. IsSound s n history first) (sym named) (subst (IsSound s number history) same sound)),
              ),
          same_end cone.listing.closed (is_closed sound.logged) (sym state ∙ all.1),
        );
    journal = journal;
    whole = λ seen told history named. whole seen told history named.journal named.records named.log_end named.log named.place;
    formed = formed;
    own = own;
  }

  module _ (s : Numbers) (bays front : List B) (bay : B) (rest : List B) (cones : List (Standing B)) (there : slice_get bays (length cones) ≡ Some bay)
      (open_so_far : AreOpenOver files leaves faults s bays cones) where
    -- the cones so far don't leave their formats
    lower : LowerAreFormed files s bays (length cones)
    lower = λ other below held found seen told.
        let cone = slice_get-some cones other below in
        let opened = open_so_far other cone.0 cone.1 held found in
        (opened.formed seen told, opened.own seen told)

    module _ (back : B) (refusal : ReopenFault) (why : WasRefused files s (length cones) bay back refusal) (failed : refusal ≡ fault.Failed → HasRisen (faults bay) (faults back))
        (untouched : AreUntouched (length cones) bays (bays_of cones ++ back ∷ rest)) where
      abbrev later : List B
      later = bays_of cones ++ back ∷ rest

      back_there : slice_get later (length cones) ≡ Some back
      back_there = ap (slice_get later) (sym (length-map cones (λ (c : Standing B). c.bay))) ∙ slice_get-seam (bays_of cones) back rest

      of_bay : (P : Files → Type 0) → IfTold (files bay) P → IfHeld files bays (length cones) P
      of_bay P holds = λ other found. subst (λ b. IfTold (files b) P) (same_Some bay other (sym there ∙ found)) holds

      of_back : (R : B → B → Type 0) → R bay back → OfBay (length cones) R bays later
      of_back R holds = λ before now was is.
          subst (λ b. R b now) (same_Some bay before (sym there ∙ was)) (subst (R bay) (same_Some back now (sym back_there ∙ is)) holds)

      unopened_as : (f : ReopenFault) → refusal ≡ f → IsUnopened files faults s bays later (reopen_status (length cones) f)
      unopened_as fault.Failed is = unopened_failed (length cones) (record { before = bay; now = back; was = there; is = back_there; rose = failed is }) lower untouched
      unopened_as (fault.Malformed file at) is = unopened_spoiled (length cones) file at (record {
        named = slice_get_within bays (length cones) bay there;
        told = of_bay _ (λ seen told. why.malformed seen told file at is);
        first = of_bay _ (λ seen told other place leaves_there. elim (why.refuses seen told other place leaves_there) [
          | inl failed_is ↦ absurd (let clash = sym is ∙ failed_is in cc)
          | inr same ↦ let equal : fault.Malformed file at ≡ fault.Malformed other place = sym is ∙ same in (cc, cc)
        ]);
        unsound = of_bay _ (λ seen told history sound. let clash = sym is ∙ why.opens seen told history sound in cc);
        own = of_bay _ (λ seen told kept other. elim (why.differs seen told kept other) [
          | inl failed_is ↦ let clash = sym is ∙ failed_is in cc
          | inr same ↦ let clash = sym is ∙ same in cc
        ]);
        kept = of_back _ (λ seen told leaves_there. why.unread seen told file at leaves_there);
      }) lower untouched
      unopened_as (fault.OtherSettings kept) is = unopened_other (length cones) (record {
        named = slice_get_within bays (length cones) bay there;
        told = of_bay _ (λ seen told. (kept, why.other_is seen told kept is));
        unsound = of_bay _ (λ seen told history sound. let clash = sym is ∙ why.opens seen told history sound in cc);
        formed = of_bay _ (λ seen told file at leaves_there. elim (why.refuses seen told file at leaves_there) [
          | inl failed_is ↦ let clash = sym is ∙ failed_is in cc
          | inr same ↦ let clash = sym is ∙ same in cc
        ]);
        kept = of_back _ (why.untouched kept is);
      }) lower untouched

      -- why no cone is opened over the bay at hand
      pub unopened_by : IsUnopened files faults s bays later (reopen_status (length cones) refusal)
      unopened_by = unopened_as refusal refl

  module _ (s : Numbers) (bays : List B) (cones : List (Standing B)) (open_are : AreOpenOver files leaves faults s bays cones) (number_is : length cones ≡ length bays)
      (later_are : AreLater files faults mark bays (bays_of cones)) where
    -- none of them leaves its format
    pub all_formed : LowerAreFormed files s bays (length bays)
    all_formed = λ other below held found seen told.
        let cone = slice_get-some cones other (omega (arith, below, number_is)) in
        let opened = open_are other cone.0 cone.1 held found in
        (opened.formed seen told, opened.own seen told)

    bay_of : (at : ℕ) (cone : Standing B) → slice_get cones at ≡ Some cone → (bay : B) × (slice_get bays at ≡ Some bay)
    bay_of at cone found = slice_get-some bays at (omega (arith, slice_get_within cones at cone found, number_is))

    pub open_printable : ArePrintable s cones
    open_printable at cone found =
        let bay = bay_of at cone found in
        let opened = open_are at cone found bay.0 bay.1 in
        (ap is_broken opened.state_is ∙ open_is cone.listing.closed, opened.settings_are)

    -- what is printed of a cone that stands for a list
    one_for : (at : ℕ) (cone : Standing B) (history : List Packet) (closed : Bool) → cone.listing.settings ≡ s → cone.state ≡ state_of cone.listing.closed →
        cone.listing.closed ≡ closed →
        length (events_of history) ≡ cone.events → cone.listing.events ≡ events_of history → cone.reports ≡ reports_of cone.listing → printed_as cone ≡ printed_for s history closed
    one_for at cone history closed settings state ends counted keys reports =
        let finished = ap is_finished state ∙ (end_is cone.listing.closed ∙ ends) in
        let listed : reports_of cone.listing ≡ (printed_for s history closed).reports =
        ap (λ (t : Numbers). reports_of (record cone.listing { settings = t })) settings
        ∙ (ap (λ (xs : List Item). reports_of (record cone.listing { settings = s; events = xs })) keys
        ∙ ap (λ (b : Bool). reports_of (record cone.listing { settings = s; events = events_of history; closed = b })) ends) in
        λ i. record { events = sym counted i; reports = (reports ∙ listed) i; closed = finished i }

    one_recovered : (at : ℕ) (cone : Standing B) → slice_get cones at ≡ Some cone → IsRecovered files s bays (bays_of cones) at (printed_as cone)
    one_recovered at cone found = record {
      sound = λ bay there seen told history sound.
          let opened = open_are at cone found bay there in
          let all = opened.sound seen told history sound in
          let unbroken = ap is_broken opened.state_is ∙ open_is cone.listing.closed in
          let turned = (later_are.each at bay cone.bay there (bay_at cones at cone found)).tells.told seen told in
          let whole = all.0.whole unbroken all.1 turned.0 turned.1 in (
            one_for at cone history (is_closed sound.logged) opened.settings_are opened.state_is all.2 all.0.counted whole.keys whole.in_step.reports_are,
            λ back back_there now now_told.
                let same = bay_is cones at cone back found back_there in
                let there_now = all.0.whole unbroken all.1 now (ap files (sym same) ∙ now_told) in
                subst (λ (t : Numbers). IsSoundAs t at (is_closed sound.logged) history now) opened.settings_are
                (subst (λ n. IsSoundAs cone.listing.settings n (is_closed sound.logged) history now) opened.number_is
                (subst (λ b. IsSoundAs cone.listing.settings cone.listing.cone b history now) all.2 there_now.files.kept.as_read)),
          );
      journal = λ bay there seen told.
          let opened = open_are at cone found bay there in
          counted_on s at seen cone.listing.events cone.weight cone.gate cone.events opened.counted (opened.journal seen told);
      whole = λ bay there seen told history named.
          let opened = open_are at cone found bay there in
          opened.counted ∙ ap (λ (xs : List Item). length xs) (opened.whole seen told history named);
    }

    pub open_recovered : length bays ≡ 2 ^ s.cone_bits → AreRecovered files s bays (bays_of cones) (map printed_as cones)
    open_recovered number = record {
      number_is = length-map cones printed_as ∙ (number_is ∙ number);
      each = λ at one found.
          let there = slice_get-some cones at (omega (arith, slice_get_within (map printed_as cones) at one found, length-map cones printed_as)) in
          let same = same_Some one (printed_as there.0) (sym found ∙ printed_at cones at there.0 there.1) in
          subst (IsRecovered files s bays (bays_of cones) at) (sym same) (one_recovered at there.0 there.1);
    }
