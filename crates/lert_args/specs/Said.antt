-- What the words behind a command say, read from left to right.
use Rattle.std.specs.Prelude.{ℕ, ◌+◌, ◌==◌, Bool, true, not, ◌&&◌, List, [], ◌∷◌, take, drop, map, find, codes, Option, Some, None, option_map, option_and_then, if◌then◌else◌}
use Rattle.std.specs.{List.{after_first, before_first, list_any}, Str.bytes_eq}
use Rattle.lert_args.specs.Word.{is_late_name, is_name, number_of}

-- an option that is given: its name, without the two hyphens, and its value
pub record Given : Type 0 where
  pub name : List ℕ
  pub value : ℕ

-- what words say: the options that are given, and the places of the names in the line, both in their order
pub record Said : Type 0 where
  pub given : List Given
  pub names : List ℕ

-- where a reading stands: options and names may come, the value of an option comes, or, behind `--`, names alone
pub data Reading : Type 0 where
  between : Reading
  value_of : List ℕ → Reading
  behind : Reading

-- what a word is where options may stand: `--`, `--NAME` of an option whose value comes, `--NAME=VALUE`, a name, or nothing
-- that may stand there
pub data Kind : Type 0 where
  ends : Kind
  awaits : List ℕ → Kind
  valued : List ℕ → List ℕ → Kind
  named : Kind
  refused : Kind

abbrev pub is_equals_sign : ℕ → Bool
is_equals_sign byte = byte == 61

-- whether a name is that of one of the options
abbrev pub is_among : List (List ℕ) → List ℕ → Bool
is_among options name = list_any (λ option. bytes_eq option name) options

-- what a word is, by what stands behind its two hyphens
abbrev pub option_kind : List (List ℕ) → List ℕ → Kind
option_kind options text =
    if is_among options (before_first is_equals_sign text)
    then (if list_any is_equals_sign text then valued (before_first is_equals_sign text) (after_first is_equals_sign text) else awaits text)
    else refused

abbrev pub kind_of : List (List ℕ) → List ℕ → Kind
kind_of options word =
    if bytes_eq word (codes "--") then ends
    else (if bytes_eq (take 2 word) (codes "--") then option_kind options (drop 2 word)
    else (if is_name word then named else refused))

-- words that say nothing
abbrev pub nothing_said : Said
nothing_said = record { given = []; names = [] }

-- an option with this value, before what other words say
abbrev pub with_value : List ℕ → Option ℕ → Option Said → Option Said
with_value name None others = None
with_value name (Some value) others = option_map {T = Said} (λ s. record s { given = record { name = name; value = value } ∷ s.given }) others

-- a name at this place, before what other words say
abbrev pub with_name : ℕ → Option Said → Option Said
with_name place = option_map {T = Said} (λ s. record s { names = place ∷ s.names })

-- what a word and those behind it say, by its kind
abbrev pub said_by : ℕ → Kind → (Reading → Option Said) → Option Said
said_by place ends others = others behind
said_by place (awaits name) others = others (value_of name)
said_by place (valued name value) others = with_value name (number_of value) (others between)
said_by place named others = with_name place (others between)
said_by place refused others = None

abbrev pub said_with : List (List ℕ) → Reading → ℕ → List ℕ → (Reading → Option Said) → Option Said
said_with options between place word others = said_by place (kind_of options word) others
said_with options (value_of name) place word others = with_value name (number_of word) (others between)
said_with options behind place word others = if is_late_name word then with_name place (others behind) else None

-- at the end of the words no value is missing
abbrev pub said_at_end : Reading → Option Said
said_at_end between = Some nothing_said
said_at_end (value_of name) = None
said_at_end behind = Some nothing_said

-- what words say of which the first stands at this place of the line, read from there on, where each may stand where it does
abbrev pub said : List (List ℕ) → ℕ → List (List ℕ) → Reading → Option Said
said options place [] reading = said_at_end reading
said options place (word ∷ words) reading = said_with options reading place word (said options (place + 1) words)

-- no name stands twice among these
abbrev pub are_distinct : List (List ℕ) → Bool
are_distinct [] = true
are_distinct (name ∷ others) = not (is_among others name) && are_distinct others

abbrev pub names_given : Said → List (List ℕ)
names_given s = map (λ one. one.name) s.given

-- what words say, where each option is given at most once
abbrev pub said_once : Said → Option Said
said_once s = if are_distinct (names_given s) then Some s else None

-- what the words behind a command say, which begin at place 1 of the line, where it has these options
abbrev pub spelt : List (List ℕ) → List (List ℕ) → Option Said
spelt options words = option_and_then said_once (said options 1 words between)

-- the value that an option is given, or none
abbrev pub value_given : Said → List ℕ → Option ℕ
value_given s name = option_map (λ one. one.value) (find (λ one. bytes_eq one.name name) s.given)
