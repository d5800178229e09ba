-- What clap makes of one more word, by where it stands and its shape.
use Rattle.std.proofs.Common.{◌≡◌, ◌∙◌, Bool, true, false, cond, ◌&&◌, List, [], ◌∷◌, Option, Some, None, refl, ap, ap₂}
use Rattle.std.specs.Prelude.{codes, nat_lt, option_and_then}
use Rattle.std.specs.Option.{option_map_or}
use Rattle.clap.specs.Lexer.{long_of, long_of_rest, short_of, short_of_rest, strip_byte}
use Rattle.std.specs.Str.{bytes_eq}
use Rattle.std.proofs.Math.Bool.{and-false}
use Rattle.clap.specs.Walk.{Held, Rule, Step, Text, Waiting, Walk, after_step, idle, is_pending, long_or_other}
use Rattle.clap.specs.Walk.{next, option, option_word, plain_word, positional, pushed, settled, short_or_plain, trailing, walked}
use Rattle.clap.specs.Kinds.{Kinds, or_else}
use Rattle.clap.specs.Faults.{bundle_fault, flag_word_fault, settle_fault, step_fault, turn_fault}
use Rattle.clap.specs.Simple.{Shape}
use Rattle.lert_args.specs.Said.{is_among}
use Rattle.lert_args.specs.Word.{is_hyphened}
use Rattle.lert_args.proofs.Building.{built_names, by_id, rules, shape_of_options}
use Rattle.lert_args.proofs.Texts.{same_text}

-- between two words, where no word was a subcommand
abbrev pub at_word : Held → Waiting → Bool → Walk
at_word h waiting is_trailing = record { held = h; waiting = waiting; position = 1; is_trailing = is_trailing; stopped = None }

-- no option waits for its value
abbrev pub IsFree : Waiting → Type 0
IsFree (option name) = ⊥
IsFree _ = Unit {0}

abbrev pub fails : Kinds → Bool
fails [] = false
fails (kind ∷ kinds) = true

-- behind an option without its value, and behind a name
abbrev pub awaiting : Text → Held → Held
awaiting name h = record h { pending = Some (name, []) }

abbrev pub holding : Text → Text → Held → Held
holding name text h = record h { pending = Some (name, text ∷ []) }

-- a word that is no flag
pub record IsPlain (word : Text) : Type 0 where
  pub not_end : bytes_eq word (45 ∷ 45 ∷ []) ≡ false
  pub not_long : long_of word ≡ None
  pub not_short : short_of word ≡ None

pub is_plain : (word : Text) → is_hyphened word ≡ false → IsPlain word
is_plain [] is = record { not_end = refl; not_long = refl; not_short = refl }
is_plain (byte ∷ bytes) is = record {
  not_end = ap (λ b. b && bytes_eq bytes (45 ∷ [])) is;
  not_long = ap (λ b. option_and_then long_of_rest (option_and_then (strip_byte 45) (cond b (Some bytes) None))) is;
  not_short = ap (λ b. option_and_then short_of_rest (cond b (Some bytes) None)) is;
}

module _ (options : List Text) where
  abbrev c : List Rule
  c = rules options

  abbrev s : Shape
  s = shape_of_options options

  abbrev named : Text → Held → Held
  named word h = holding (codes "NAMES") word (settled c h)

  -- a word that goes to the names
  abbrev stepped : Held → Bool → Kinds
  stepped h b = cond b [] (settle_fault c false h)

  abbrev placed : Held → Text → Bool → Bool → Walk
  placed h word is_trailing b = at_word (pushed (codes "NAMES") word (cond b h (settled c h))) positional is_trailing

  pub trailing_fault : (h : Held) (waiting : Waiting) (word : Text) → turn_fault s [] (at_word h waiting true) word ≡ settle_fault c false h
  trailing_fault h waiting word = ap (stepped h) (and-false (is_pending built_names h.pending))

  pub trailing_walked : (h : Held) (waiting : Waiting) (word : Text) → walked c [] (at_word h waiting true) word ≡ at_word (named word h) positional true
  unfolding walked
  trailing_walked h waiting word = ap (placed h word true) (and-false (is_pending built_names h.pending))

  -- a word without hyphens is no flag
  module _ (h : Held) (word : Text) (plain : IsPlain word) where
    abbrev met : Waiting → Bool → Option (Text × Option Text) → Held × Step
    met waiting is_end long = cond is_end (h, trailing 1) (long_or_other c waiting word long h)

    abbrev fault_by : Waiting → Bool → Option (Text × Option Text) → Kinds
    fault_by waiting is_end long =
        or_else (cond is_end [] (flag_word_fault c false long word h)) (step_fault s 1 (met waiting is_end long).0 (met waiting is_end long).1)

    abbrev fault_short : Waiting → Option Text → Kinds
    fault_short waiting short = or_else (option_map_or (λ flags. bundle_fault c false flags h) short [])
        (step_fault s 1 (short_or_plain c waiting word short h).0 (short_or_plain c waiting word short h).1)

    fault_starts : (waiting : Waiting) → turn_fault s [] (at_word h waiting false) word ≡ fault_by waiting (bytes_eq word (45 ∷ 45 ∷ [])) (long_of word)
    fault_starts idle = refl
    fault_starts positional = refl
    fault_starts (option name) = refl

    pub plain_fault : (waiting : Waiting)
        → turn_fault s [] (at_word h waiting false) word ≡ step_fault s 1 (plain_word c waiting word h).0 (plain_word c waiting word h).1
    plain_fault waiting = fault_starts waiting ∙ ap₂ (fault_by waiting) plain.not_end plain.not_long ∙ ap (fault_short waiting) plain.not_short

    abbrev walked_by : Waiting → Bool → Option (Text × Option Text) → Walk
    walked_by waiting is_end long = after_step c word (at_word h waiting false) (met waiting is_end long).0 (met waiting is_end long).1

    abbrev walked_short : Waiting → Option Text → Walk
    walked_short waiting short =
        after_step c word (at_word h waiting false) (short_or_plain c waiting word short h).0 (short_or_plain c waiting word short h).1

    walked_starts : (waiting : Waiting) → walked c [] (at_word h waiting false) word ≡ walked_by waiting (bytes_eq word (45 ∷ 45 ∷ [])) (long_of word)
    unfolding walked
    walked_starts idle = refl
    walked_starts positional = refl
    walked_starts (option name) = refl

    pub plain_walked : (waiting : Waiting)
        → walked c [] (at_word h waiting false) word ≡ after_step c word (at_word h waiting false) (plain_word c waiting word h).0 (plain_word c waiting word h).1
    plain_walked waiting = walked_starts waiting ∙ ap₂ (walked_by waiting) plain.not_end plain.not_long ∙ ap (walked_short waiting) plain.not_short

    pub name_fault : (waiting : Waiting) → IsFree waiting → turn_fault s [] (at_word h waiting false) word ≡ settle_fault c false h
    name_fault idle free = plain_fault idle ∙ ap (stepped h) (and-false (is_pending built_names h.pending))
    name_fault positional free = plain_fault positional ∙ ap (stepped h) (and-false (is_pending built_names h.pending))
    name_fault (option name) free = absurd free

    pub name_walked : (waiting : Waiting) → IsFree waiting → walked c [] (at_word h waiting false) word ≡ at_word (named word h) positional false
    name_walked idle free = plain_walked idle ∙ ap (placed h word false) (and-false (is_pending built_names h.pending))
    name_walked positional free = plain_walked positional ∙ ap (placed h word false) (and-false (is_pending built_names h.pending))
    name_walked (option name) free = absurd free

  pub ends_fault : (h : Held) (waiting : Waiting) → turn_fault s [] (at_word h waiting false) (45 ∷ 45 ∷ []) ≡ []
  ends_fault h idle = refl
  ends_fault h positional = refl
  ends_fault h (option name) = refl

  pub ends_walked : (h : Held) (waiting : Waiting) → walked c [] (at_word h waiting false) (45 ∷ 45 ∷ []) ≡ at_word h waiting true
  unfolding walked
  ends_walked h idle = refl
  ends_walked h positional = refl
  ends_walked h (option name) = refl

  -- ---- the value of an option

  module _ (clear : is_among options (codes "NAMES") ≡ false) (name : Text) (among : is_among options name ≡ true) (h : Held) (word : Text) (plain : IsPlain word) where
    abbrev waits : Held
    waits = awaiting name h

    abbrev fault_value : Option Rule → Kinds
    fault_value found = step_fault s 1 (option_word found name word waits).0 (next (option_word found name word waits).1)

    pub value_fault : turn_fault s [] (at_word waits (option name) false) word ≡ []
    value_fault = plain_fault waits word plain (option name)

    abbrev walked_value : Option Rule → Walk
    walked_value found = at_word (option_word found name word waits).0 (option_word found name word waits).1 false

    pub value_walked : walked c [] (at_word waits (option name) false) word ≡ at_word (holding name word h) idle false
    value_walked = plain_walked waits word plain (option name) ∙ ap walked_value (by_id options name clear among)
        ∙ ap (λ b. at_word (holding name word h) (cond (nat_lt (cond b 1 0) 1) (option name) idle) false) (same_text name)
