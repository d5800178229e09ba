-- One word more of what words say, where the state after the words before it is known.
use Rattle.std.specs.{Prelude.{◌≡◌, ℕ, ◌<◌, List, [], ◌∷◌, ◌++◌, map, Option, Some, None, option_map, Result, IfOk, IfErr, slice_index_or, if◌then◌else◌}, Borrow.Bor, List.find, Str.bytes_eq}
use Rattle.lert_args.specs.{Lookups.texts, Word.{is_late_name, number_of}, Said.{Given, Kind, ends, awaits, valued, named, refused, Reading, between, value_of, behind, is_among, kind_of}}
use Rattle.lert_words_tests.specs.{declared.by_hand.Given.Given as Held, declared.by_hand.Stage.Stage, declared.by_hand.Stage.TheVariants.{Between, ValueOf, Behind}}
use Rattle.lert_words_tests.specs.{declared.by_hand.HandFault.HandFault, declared.by_hand.HandFault.TheVariants.Faulty}

-- what words say so far, and where the reading stands
pub record State : Type 0 where
  pub given : List Given
  pub names : List ℕ
  pub reading : Reading

-- a reading that goes on elsewhere
abbrev pub going : State → Reading → Option State
going s reading = Some (record { given = s.given; names = s.names; reading = reading })

-- the names of the options that are given
abbrev pub names_of_given : List Given → List (List ℕ)
names_of_given given = map (λ one. one.name) given

-- with this value of an option, where it isn't given yet
abbrev pub giving : State → List ℕ → Option ℕ → Option State
giving s name None = None
giving s name (Some value) =
    if is_among (names_of_given s.given) name then None
    else Some (record { given = s.given ++ record { name = name; value = value } ∷ []; names = s.names; reading = between })

-- with a name at this place
abbrev pub naming : State → ℕ → Reading → Option State
naming s place reading = Some (record { given = s.given; names = s.names ++ place ∷ []; reading = reading })

-- after a word of this kind, at this place
abbrev pub after_kind : State → ℕ → Kind → Option State
after_kind s place ends = going s behind
after_kind s place (awaits name) = going s (value_of name)
after_kind s place (valued name value) = giving s name (number_of value)
after_kind s place named = naming s place between
after_kind s place refused = None

abbrev pub after_reading : List (List ℕ) → State → ℕ → List ℕ → Reading → Option State
after_reading options s place word between = after_kind s place (kind_of options word)
after_reading options s place word (value_of name) = giving s name (number_of word)
after_reading options s place word behind = if is_late_name word then naming s place behind else None

-- after a word at this place
abbrev pub after_word : List (List ℕ) → State → ℕ → List ℕ → Option State
after_word options s place word = after_reading options s place word s.reading

-- the value of an option among those given
abbrev pub value_among : List Given → List ℕ → Option ℕ
value_among given name = option_map (λ one. one.value) (find (λ one. bytes_eq one.name name) given)

-- where a reading stands, by the place of the option whose value comes
abbrev pub reading_of : List (Bor (List ℕ)) → Stage → Reading
reading_of options Between = between
reading_of options (ValueOf place) = value_of (slice_index_or (texts options) place [])
reading_of options Behind = behind

-- that place is one of the options'
abbrev pub IsStage : ℕ → Stage → Type 0
IsStage number Between = Unit {0}
IsStage number (ValueOf place) = place < number
IsStage number Behind = Unit {0}

-- what is held is what this state says
pub record Shows (options : List (Bor (List ℕ))) (held : Held) (stage : Stage) (s : State) : Type 0 where
  pub values : held.values.items ≡ map (λ option. value_among s.given option.now) options
  pub names : held.names.items ≡ s.names
  pub reading : reading_of options stage ≡ s.reading

-- a step was made to this state, or it was refused where there is none
pub record Steps (options : List (Bor (List ℕ))) (held : Held) (result : Result Stage HandFault) (after : Option State) : Type 0 where
  pub ok : IfOk result (λ stage. (s : State) × (after ≡ Some s) × Shows options held stage s)
  pub err : IfErr result (λ fault. fault ≡ Faulty → after ≡ None)
