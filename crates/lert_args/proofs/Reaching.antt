-- The faults and the matches of the whole command are those of the walk.
use Rattle.std.proofs.Common.{◌≡◌, ◌∙◌, Bool, true, false, cond, ◌&&◌, ◌||◌, not, List, [], ◌∷◌, map, refl, ap, ap₂}
use Rattle.std.specs.Prelude.{fold}
use Rattle.clap.specs.{Walk.{Row, Rule, Text, finished, has_row, idle, nothing_held, rows_after, walk, walk_from, with_default}, Simple.{App, matches_of, names_of}, Kinds.{check_kinds, or_else}}
use Rattle.clap.specs.{Faults.{built_fault, check_fault, defaults_fault, fault_of, given_default_fault, settle_fault, walk_fault}, Takes.is_given}
use Rattle.clap.proofs.FaultLemmas.{leaf_fault}
use Rattle.lert_args.specs.App.{app_with}
use Rattle.lert_args.proofs.{Building.{built_is, built_names, built_option, none_mapped, rules, shape_of_options}, Options.or_none, Settling.{faults, rows_end}, Turning.at_word}

or_true : (b : Bool) → (b || true) ≡ true
or_true true = refl
or_true false = refl

either_same : {X : Type 0} (b : Bool) (x : X) → cond b x x ≡ x
either_same true x = refl
either_same false x = refl

-- no argument has a default
no_default : (rows : List Row) (options : List Text) → fold with_default rows (map built_option options) ≡ rows
no_default rows [] = refl
no_default rows (option ∷ options) = ap (λ r. fold with_default r (map built_option options)) (either_same (has_row option rows) rows) ∙ no_default rows options

no_defaults : (rows : List Row) (options : List Text) → fold with_default rows (rules options) ≡ rows
no_defaults rows options = ap (λ r. fold with_default r (map built_option options)) (either_same (has_row built_names.id rows) rows) ∙ no_default rows options

no_default_fault : (rows : List Row) (options : List Text) → defaults_fault rows (map built_option options) ≡ []
unfolding defaults_fault
no_default_fault rows [] = refl
no_default_fault rows (option ∷ options) =
    ap₂ (λ b k. or_else (cond b [] (given_default_fault (built_option option) [])) k) (or_true (has_row option rows))
    (no_default_fault (with_default rows (built_option option)) options)

no_defaults_fault : (rows : List Row) (options : List Text) → defaults_fault rows (rules options) ≡ []
unfolding defaults_fault
no_defaults_fault rows options =
    ap₂ (λ b k. or_else (cond b [] (given_default_fault built_names [])) k) (or_true (has_row built_names.id rows))
    (no_default_fault (with_default rows built_names) options)

-- nor is one required
no_check : (rows : List Row) (options : List Text) → check_fault (shape_of_options options) rows false ≡ []
no_check rows options =
    ap (λ b. check_kinds false false b) (none_mapped (λ (a : Rule). a.required && not (is_given a.id rows)) built_option options (λ option. refl))

module _ (options : List Text) (words : List Text) where
  pub fault_is : fault_of (app_with options) words ≡ faults options (at_word nothing_held idle false) words
  fault_is =
      let end = (walk (rules options) [] nothing_held words).held in
      ap (λ (a : App). built_fault a nothing_held words) (built_is options)
      ∙ leaf_fault (record { top = shape_of_options options; subs = [] }) nothing_held words refl
      ∙ ap₂ (λ d k. or_else (walk_fault (shape_of_options options) [] (walk_from nothing_held) words) (or_else (settle_fault (rules options) false end) (or_else d k)))
      (no_defaults_fault (rows_end options (at_word nothing_held idle false) words) options) (no_check (finished (rules options) end) options)
      ∙ ap (or_else (walk_fault (shape_of_options options) [] (walk_from nothing_held) words)) (or_none (settle_fault (rules options) false end))

  pub matches_are : matches_of (app_with options) words ≡ rows_end options (at_word nothing_held idle false) words
  matches_are = ap (λ (a : App). rows_after a.top.rules (names_of a) words) (built_is options) ∙ no_defaults (rows_end options (at_word nothing_held idle false) words) options
