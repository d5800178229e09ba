-- One pass over the words behind a command.
use Rattle.std.proofs.Common.{◌≡◌, ℕ, ◌+◌, ◌≤◌, Bool, true, false, cond, List, [], ◌∷◌, ◌++◌, length, map, drop, replicate, Option, Some, None, slice_get, Ok, Err, refl, ap, sym, ◌∙◌, Bor}
use Rattle.std.specs.Prelude.{option_and_then}
use Rattle.std.proofs.lemmas.List.{append-nil, drop_more, map-append}
use Rattle.std.proofs.lemmas.Option.{get_or_from_slice_get, slice_get_within}
use Rattle.std.proofs.Math.ListN.{drop_of_length-le}
use Rattle.lert_args.specs.Word.{is_late_name, number_of}
use Rattle.lert_args.specs.Said.{Given, Kind, ends, awaits, valued, named, refused, Reading, between, value_of, behind, Said}
use Rattle.lert_args.specs.Said.{are_distinct, is_among, kind_of, said, said_at_end, said_once, spelt, value_given}
use Rattle.lert_words_tests.specs.Steps.{Shows, State, Steps, after_kind, after_reading, after_word, giving, names_of_given, naming, reading_of}
use Rattle.lert_args.specs.Lookups.{texts}
use Rattle.lert_words_tests.specs.declared.by_hand.Given.{Given as Held}
use Rattle.lert_words_tests.specs.declared.by_hand.Stage.{Stage}
use Rattle.lert_words_tests.specs.declared.by_hand.Stage.TheVariants.{Between, ValueOf, Behind}
use Rattle.lert_words_tests.specs.declared.by_hand.HandFault.{HandFault}
use Rattle.lert_words_tests.specs.declared.by_hand.HandFault.TheVariants.{Faulty}
use Rattle.lert_words_tests.proofs.StepLaws.{distinct-push, onwards, said_behind, spelt_from, spelt_from-more}
use Rattle.lert_words_tests.proofs.ValueLaws.{values-none}

-- the words before a place were read
pub record IsRead (options : List (Bor (List ℕ))) (words : List (List ℕ)) (place : ℕ) (held : Held) (stage : Stage) : Type 0 where
  pub state : State
  pub shows : Shows options held stage state
  pub distinct : are_distinct (names_of_given state.given) ≡ true
  pub same : spelt (texts options) (drop 1 words) ≡ spelt_from (texts options) state place (drop place words)

abbrev nothing_yet : State
nothing_yet = record { given = []; names = []; reading = between }

-- no option is given twice in what a step makes
module _ (s : State) (distinct : are_distinct (names_of_given s.given) ≡ true) where
  abbrev KeepsDistinct : Option State → Type 0
  KeepsDistinct after = (next : State) → after ≡ Some next → are_distinct (names_of_given next.given) ≡ true

  same_given : (given : List Given) (names : List ℕ) (reading : Reading) → are_distinct (names_of_given given) ≡ true →
      KeepsDistinct (Some (record { given = given; names = names; reading = reading }))
  same_given given names reading is next same =
      let fields : record { given = given; names = names; reading = reading } ≡ next = cc in
      ap (λ (t : State). are_distinct (names_of_given t.given)) (sym fields) ∙ is

  by_giving : (name : List ℕ) (number : Option ℕ) → KeepsDistinct (giving s name number)
  by_giving name None = λ next same. absurd (cc)
  by_giving name (Some value) = by_test (is_among (names_of_given s.given) name) refl
    where
      by_test : (b : Bool) → is_among (names_of_given s.given) name ≡ b →
          KeepsDistinct (cond b None (Some (record { given = s.given ++ record { name = name; value = value } ∷ []; names = s.names; reading = between })))
      by_test true is = λ next same. absurd (cc)
      by_test false is =
          same_given (s.given ++ record { name = name; value = value } ∷ []) s.names between
          (ap are_distinct (map-append (λ g. g.name) s.given (record { name = name; value = value } ∷ [])) ∙ distinct-push (names_of_given s.given) name distinct is)

  by_naming : (place : ℕ) (reading : Reading) → KeepsDistinct (naming s place reading)
  by_naming place reading = same_given s.given (s.names ++ place ∷ []) reading distinct

  by_kind : (place : ℕ) (kind : Kind) → KeepsDistinct (after_kind s place kind)
  by_kind place ends = same_given s.given s.names behind distinct
  by_kind place (awaits name) = same_given s.given s.names (value_of name) distinct
  by_kind place (valued name value) = by_giving name (number_of value)
  by_kind place named = by_naming place between
  by_kind place refused = λ next same. absurd (cc)

  by_late : (place : ℕ) (b : Bool) → KeepsDistinct (cond b (naming s place behind) None)
  by_late place true = by_naming place behind
  by_late place false = λ next same. absurd (cc)

  by_reading : (options : List (List ℕ)) (place : ℕ) (word : List ℕ) (reading : Reading) → KeepsDistinct (after_reading options s place word reading)
  by_reading options place word between = by_kind place (kind_of options word)
  by_reading options place word (value_of name) = by_giving name (number_of word)
  by_reading options place word behind = by_late place (is_late_name word)

  pub distinct_after : (options : List (List ℕ)) (place : ℕ) (word : List ℕ) → KeepsDistinct (after_word options s place word)
  distinct_after options place word = by_reading options place word s.reading

from_nothing : (o : Option Said) → option_and_then said_once o ≡ said_behind nothing_yet o
from_nothing None = refl
from_nothing (Some s) = refl

module _ (options : List (Bor (List ℕ))) (words : List (List ℕ)) where
  -- no word was read
  pub IsRead-none : (held : Held) → held.values.items ≡ replicate (length options) None → held.names.items ≡ [] → IsRead options words 1 held Between
  IsRead-none held values names = record {
    state = nothing_yet;
    shows = record { values = values ∙ values-none options; names = names; reading = refl };
    distinct = refl;
    same = from_nothing (said (texts options) 1 (drop 1 words) between);
  }

  module _ (place : ℕ) (held : Held) (stage : Stage) (word : List ℕ) (is : IsRead options words place held stage) (at : slice_get words place ≡ Some word) where
    -- what the words say, by the step over the next one
    onwards_is : spelt (texts options) (drop 1 words) ≡ onwards (after_word (texts options) is.state place word) (said (texts options) (place + 1) (drop (place + 1) words))
    onwards_is =
        let ahead : drop place words ≡ word ∷ drop (place + 1) words =
        drop_more words place [] (slice_get_within words place word at) ∙ ap (λ w. w ∷ drop (place + 1) words) (get_or_from_slice_get words place word [] at) in
        is.same ∙ ap (spelt_from (texts options) is.state place) ahead ∙ spelt_from-more (texts options) is.state place word (drop (place + 1) words)

    -- a word more
    pub IsRead-more : (now : Held) (next : Stage) →
        ((s : State) → Shows options held stage s → Steps options now (Ok next) (after_word (texts options) s place word)) → IsRead options words (place + 1) now next
    IsRead-more now next steps =
        let step = (steps is.state is.shows).ok in
        record {
          state = step.0;
          shows = step.2;
          distinct = distinct_after is.state is.distinct (texts options) place word step.0 step.1;
          same = onwards_is ∙ ap (λ after. onwards after (said (texts options) (place + 1) (drop (place + 1) words))) step.1;
        }

    -- a word that is refused
    pub refused_at : (now : Held) (error : HandFault) →
        ((s : State) → Shows options held stage s → Steps options now (Err error) (after_word (texts options) s place word)) → error ≡ Faulty → spelt (texts options) (drop 1 words) ≡ None
    refused_at now error steps same =
        onwards_is ∙ ap (λ after. onwards after (said (texts options) (place + 1) (drop (place + 1) words))) ((steps is.state is.shows).err same)

  -- all words were read
  module _ (place : ℕ) (held : Held) (stage : Stage) (is : IsRead options words place held stage) (past : length words ≤ place) where
    at_end : spelt (texts options) (drop 1 words) ≡ said_behind is.state (said_at_end is.state.reading)
    at_end = is.same ∙ ap (spelt_from (texts options) is.state place) (drop_of_length-le words past)

    -- and a value is missing
    pub missing_value : (option : ℕ) → stage ≡ ValueOf option → spelt (texts options) (drop 1 words) ≡ None
    missing_value option same =
        at_end ∙ ap (λ reading. said_behind is.state (said_at_end reading)) (sym is.shows.reading ∙ ap (reading_of options) same)

    -- or none is
    abbrev whole : Said
    whole = record { given = is.state.given ++ []; names = is.state.names ++ [] }

    by_stage : (t : Stage) → ((option : ℕ) → t ≡ ValueOf option → ⊥) → said_behind is.state (said_at_end (reading_of options t)) ≡ said_once whole
    by_stage Between none = refl
    by_stage (ValueOf option) none = absurd (none option refl)
    by_stage Behind none = refl

    pub all_said : ((option : ℕ) → stage ≡ ValueOf option → ⊥) →
        (s : Said) × (spelt (texts options) (drop 1 words) ≡ Some s) × (held.names.items ≡ s.names) × (held.values.items ≡ map (λ option. value_given s option.now) options)
    all_said none = (
      record { given = is.state.given; names = is.state.names },
      at_end ∙ ap (λ reading. said_behind is.state (said_at_end reading)) (sym is.shows.reading) ∙ by_stage stage none
          ∙ (λ i. said_once (record { given = append-nil is.state.given i; names = append-nil is.state.names i }))
          ∙ ap (λ b. cond b (Some (record { given = is.state.given; names = is.state.names })) None) is.distinct,
      is.shows.names,
      is.shows.values,
    )
