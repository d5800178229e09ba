-- The simple command of `clap` that reads the options of a command.
use Rattle.std.specs.Prelude.{List, ℕ, Bool, ◌∷◌, map, codes, true, Option, Some, None, is_some}
use Rattle.clap.specs.{Words.{App, Rule, new_app, new_rule}, declared.builder.action.ArgAction.TheVariants.{Append, Set}}
use Rattle.lert_args.specs.Word.{number_of}

-- an option, by its name, and the names behind all of them
abbrev pub option_rule : List ℕ → Rule
option_rule option = record (new_rule option) { long = Some option; action = Some Set }

abbrev pub names_rule : Rule
names_rule = record (new_rule (codes "NAMES")) { action = Some Append }

-- the command before it is built
abbrev pub app_with : List (List ℕ) → App
app_with options = record (new_app (codes "lert")) {
  top = record (new_app (codes "lert")).top {
    rules = names_rule ∷ map option_rule options;
    no_binary_name = true;
    disable_help_flag = true;
    disable_version_flag = true;
  };
}

-- a text that is there spells a number
abbrev pub is_read : Option (List ℕ) → Bool
is_read None = true
is_read (Some text) = is_some (number_of text)
