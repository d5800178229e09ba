-- What clap makes of an option.
use Rattle.std.proofs.Common.{◌≡◌, ◌∙◌, ℕ, Bool, true, false, cond, List, [], ◌∷◌, Option, Some, None, refl, ap, ap₂}
use Rattle.std.specs.List.{after_first, before_first, list_any}
use Rattle.clap.specs.{Walk.{Held, Rule, Text, Waiting, Walk, after_flag, after_step, arg_by_long, idle, long_met, option, positional, reacted, settled, walked}, Kinds.{Kinds, or_else}}
use Rattle.clap.specs.Faults.{long_fault, react_fault, settle_fault, step_fault, turn_fault}
use Rattle.lert_args.specs.Said.{is_among, is_equals_sign}
use Rattle.lert_args.proofs.{Building.{built_option, by_long, no_long, rules, shape_of_options}, Turning.{at_word, awaiting, fails}}

pub or_none : (kinds : Kinds) → or_else kinds [] ≡ kinds
or_none [] = refl
or_none (kind ∷ kinds) = refl

module _ (options : List Text) (h : Held) (text : Text) where
  abbrev c : List Rule
  c = rules options

  abbrev pub option_name : Text
  option_name = before_first is_equals_sign text

  abbrev pub option_value : Text
  option_value = after_first is_equals_sign text

  abbrev value_by : Bool → Option Text
  value_by has = cond has (Some option_value) None

  abbrev word_of : Text
  word_of = 45 ∷ 45 ∷ text

  abbrev fault_by : Waiting → Option Rule → Bool → Kinds
  fault_by waiting found has = or_else (long_fault c false found (value_by has) h)
      (step_fault (shape_of_options options) 1 (after_flag c waiting word_of (long_met c found (value_by has) h).0 (long_met c found (value_by has) h).1).0
      (after_flag c waiting word_of (long_met c found (value_by has) h).0 (long_met c found (value_by has) h).1).1)

  abbrev walked_by : Waiting → Option Rule → Bool → Walk
  walked_by waiting found has = after_step c word_of (at_word h waiting false)
      (after_flag c waiting word_of (long_met c found (value_by has) h).0 (long_met c found (value_by has) h).1).0
      (after_flag c waiting word_of (long_met c found (value_by has) h).0 (long_met c found (value_by has) h).1).1

module _ (options : List Text) (h : Held) (byte : ℕ) (bytes : List ℕ) where
  abbrev text : Text
  text = byte ∷ bytes

  abbrev name : Text
  name = option_name options h text

  abbrev has : Bool
  has = list_any is_equals_sign text

  fault_starts : (waiting : Waiting) → turn_fault (shape_of_options options) [] (at_word h waiting false) (45 ∷ 45 ∷ text) ≡ fault_by options h text waiting (arg_by_long (rules options) name) has
  fault_starts idle = refl
  fault_starts positional = refl
  fault_starts (option other) = refl

  walked_starts : (waiting : Waiting) → walked (rules options) [] (at_word h waiting false) (45 ∷ 45 ∷ text) ≡ walked_by options h text waiting (arg_by_long (rules options) name) has
  unfolding walked
  walked_starts idle = refl
  walked_starts positional = refl
  walked_starts (option other) = refl

  -- an unknown option
  pub unknown_fault : (waiting : Waiting) → is_among options name ≡ false → fails (turn_fault (shape_of_options options) [] (at_word h waiting false) (45 ∷ 45 ∷ text)) ≡ true
  unknown_fault waiting missing = ap fails (fault_starts waiting ∙ ap (λ found. fault_by options h text waiting found has) (no_long options name missing))

  module _ (among : is_among options name ≡ true) where
    -- with its value in the word
    pub valued_fault : (waiting : Waiting) → has ≡ true
        → turn_fault (shape_of_options options) [] (at_word h waiting false) (45 ∷ 45 ∷ text)
        ≡ react_fault (rules options) false (built_option name) (option_value options h text ∷ []) h
    valued_fault waiting is = fault_starts waiting ∙ ap₂ (fault_by options h text waiting) (by_long options name among) is ∙ or_none _

    pub valued_walked : (waiting : Waiting) → has ≡ true
        → walked (rules options) [] (at_word h waiting false) (45 ∷ 45 ∷ text)
        ≡ at_word (reacted (rules options) (built_option name) (option_value options h text ∷ []) h) idle false
    valued_walked waiting is = walked_starts waiting ∙ ap₂ (walked_by options h text waiting) (by_long options name among) is

    -- with its value to come
    pub bare_fault : (waiting : Waiting) → has ≡ false
        → turn_fault (shape_of_options options) [] (at_word h waiting false) (45 ∷ 45 ∷ text) ≡ settle_fault (rules options) false h
    bare_fault waiting is = fault_starts waiting ∙ ap₂ (fault_by options h text waiting) (by_long options name among) is ∙ or_none _

    pub bare_walked : (waiting : Waiting) → has ≡ false
        → walked (rules options) [] (at_word h waiting false) (45 ∷ 45 ∷ text) ≡ at_word (awaiting name (settled (rules options) h)) (option name) false
    bare_walked waiting is = walked_starts waiting ∙ ap₂ (walked_by options h text waiting) (by_long options name among) is
