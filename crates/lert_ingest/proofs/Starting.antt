-- Cones as a crew takes them.
use Rattle.std.proofs.Common.{◌≡◌, ℕ, ◌^◌, ◌≤◌, zero, suc, List, [], ◌∷◌, length, Option, Some, slice_get, refl, ap, sym, ◌∙◌, subst, arith, lit<}
use Rattle.std.proofs.{Math.Nat.{one-le-pow, pow-le-pow_right}, lemmas.List.length-map, lemmas.Option.{none-some, same_Some, slice_get-get_or, slice_get-map}}
use Rattle.std.specs.Option.{option_map}
use Rattle.std.specs.Prelude.{All}
use Rattle.lert_base.specs.{declared.held.Held.{Ghosts as HeldOf}, Packet.Packet, declared.cone_fault.ConeFault.ConeFault}
use Rattle.lert_bay.specs.Files.{Files}
use Rattle.lert_cone.specs.{History.most_version, Listing.Listing, Stands.{Standing, StandsFor, Terms}}
use Rattle.lert_fleet.proofs.Places.{image_at, some_at}
use Rattle.lert_journal.specs.Payload.{IsJournaled}
use Rattle.lert_spec.specs.declared.numbers.Numbers.{Numbers}
use Rattle.lert_worker.specs.{crew.Ready.AllFit}
use Rattle.lert_trace.specs.Reader.{Reading}
use Rattle.lert_ingest.specs.{Back.AreSeen, Bays.{AreLater, IsLater, bays_of}, Cones.{AreHeld, AreNew, mades_of}, Readers.{AreReadable, given_of, opened_of}}
use Rattle.lert_ingest.proofs.{BayLaws.made_at, Crewed.IsBegun, Ended.IsConeHeld}

module _ {B : Type 0} (files : B → Option Files) (leaves : B → Files → Type 0) (faults : B → ℕ) (s : Numbers) (before : ℕ → List Packet) (cones : List (Standing B))
    (new : AreHeld files leaves faults s before cones) where
  -- each stands for some packets
  pub all_opened : All (λ cone. (h : List Packet) × StandsFor files leaves faults cone h) cones
  all_opened = λ k d below. (before k, (new k _ (slice_get-get_or cones k d below)).stands)

  -- and takes each packet that a worker may bring
  pub all_fit_new : {R : Type 0} (mark : B → ℕ) (held : HeldOf (Standing B) (Terms B) R ConeFault) → IsConeHeld files leaves faults mark held →
      ((terms : Terms B) (packet : Packet) → IsJournaled most_version terms.settings terms.cone packet → held.fits terms packet) → AllFit held s cones
  all_fit_new mark held is_held fits = record {
    each = λ cone state there packet may.
        let first = new cone state there in
        fits (held.terms state) packet (subst (λ (t : Terms B). IsJournaled most_version t.settings t.cone packet) (sym (is_held.terms_are state))
        (subst (λ (t : Numbers). IsJournaled most_version t state.listing.cone packet) (sym first.settings_is)
        (subst (λ n. IsJournaled most_version s n packet) (sym first.number_is) (record {
          some = may.some;
          few = may.few;
          by_most = may.by_most;
          trace_most = may.trace_most;
          of_cone = may.of_cone;
          weighed = may.weights;
        }))));
  }

-- there are 1 to 256 of them
pub few_cones : {B : Type 0} {files : B → Option Files} {leaves : B → Files → Type 0} {faults : B → ℕ} {before : ℕ → List Packet} (s : Numbers) (cones : List (Standing B)) →
    length cones ≡ 2 ^ s.cone_bits →
    AreHeld files leaves faults s before cones → length cones ≤ 256
few_cones s cones number new =
    let some = one-le-pow s.cone_bits 2 (omega arith) in
    let first = some_at cones 0 (omega (arith, number, some)) in
    let made = new 0 first.0 first.1 in
    let bits : s.cone_bits ≤ 8 = subst (λ (t : Numbers). t.cone_bits ≤ 8) made.settings_is made.stands.valid.limits.cone_bits_to in
    let p = pow-le-pow_right {n = 2} (lit< tt) {i = s.cone_bits} {j = 8} bits in
    omega (arith, number, p)

-- readers as a crew takes them
pub are_begun : {S : Type 0} (readers : List (Reading S)) → AreReadable readers → (trace : ℕ) (reader : Reading S) → slice_get readers trace ≡ Some reader →
    IsBegun (opened_of readers) (given_of readers) trace reader
are_begun readers readable trace reader is =
    let one = readable trace reader is in
    record {
      made_is = slice_get-map (λ (r : Reading _). r.made) readers trace ∙ ap (option_map (λ (r : Reading _). r.made)) is;
      given_is = given_at readers trace is;
      limit_is = one.limit_is;
      within = one.within;
      no_fault = one.no_fault;
    }
  where
    given_at : {S : Type 0} {reader : Reading S} (readers : List (Reading S)) (trace : ℕ) → slice_get readers trace ≡ Some reader → reader.given ≡ given_of readers trace
    given_at {reader = reader} [] trace is = absurd (none-some reader is)
    given_at {reader = reader} (first ∷ readers) zero is = sym (ap (λ (r : Reading _). r.given) (same_Some first reader is))
    given_at (first ∷ readers) (suc trace) is = given_at readers trace is

-- what a look at cones says of their bays
pub seen_later : {B : Type 0} (files : B → Option Files) (faults mark : B → ℕ) (cones : List (Standing B)) → AreSeen files faults mark cones →
    AreLater files faults mark (mades_of cones) (bays_of cones)
seen_later files faults mark cones seen = record {
  number = length-map cones (λ (c : Standing _). c.bay) ∙ sym (length-map cones (λ (c : Standing _). c.made));
  each = λ number old now was is.
      let cone = image_at (λ (c : Standing _). c.bay) cones number now is in
      let look = seen number cone.0 cone.1 in
      subst (λ (b : _). IsLater files faults mark old b) cone.2 (subst (λ (b : _). IsLater files faults mark b cone.0.bay)
      (same_Some cone.0.made old (sym (made_at cones number cone.0 cone.1) ∙ was)) (record { marked = look.later.1; never_falls = look.later.0; tells = look.later.2 }));
}

-- cones that were just made stand for nothing, and their bays are those with which they were made
module _ {B : Type 0} (files : B → Option Files) (leaves : B → Files → Type 0) (faults : B → ℕ) (s : Numbers) where
  pub new_held : (cones : List (Standing B)) → AreNew files leaves faults s cones → AreHeld files leaves faults s (λ _. []) cones
  new_held cones new number cone is =
      let one = new number cone is in
      record {
        stands = one.stands;
        sound = one.sound;
        settings_is = ap (λ (l : Listing). l.settings) one.listing_is;
        number_is = ap (λ (l : Listing). l.cone) one.listing_is;
        version_is = one.version_is;
        state_is = one.state_is;
      }

  pub new_mades : (cones : List (Standing B)) → ((place : ℕ) (cone : Standing B) → slice_get cones place ≡ Some cone → cone.made ≡ cone.bay) → mades_of cones ≡ bays_of cones
  new_mades [] same = refl
  new_mades (cone ∷ cones) same = ap (λ b. b ∷ mades_of cones) (same 0 cone refl) ∙ ap (λ bs. cone.bay ∷ bs) (new_mades cones (λ place. same (suc place)))
