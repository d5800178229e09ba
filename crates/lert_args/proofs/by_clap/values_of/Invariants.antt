use Rattle.std.proofs.Common.{◌≡◌, ◌≤◌, take, length, map, true, vec_len, vec_capacity}
use Rattle.std.specs.{Prelude.option_and_then, List.list_all}
use Rattle.lert_args.specs.{App.is_read, Word.number_of}
use Rattle.clap.specs.Words.{first_value, found_of}
use Rattle.lert_args.proofs.by_clap.values_of.Given as goal

-- the values of the options so far, each read, and room for all
abbrev pub invariant-loop-option : goal.invariant-loop-option
invariant-loop-option l = record {
  values : l.values.items ≡ map (λ option. option_and_then number_of (first_value (found_of l.matches) option.now)) (take l.option-index l.options);
  read : list_all (λ option. is_read (first_value (found_of l.matches) option.now)) (take l.option-index l.options) ≡ true;
  room : length l.options ≤ vec_capacity l.values;
  number : vec_len l.values ≡ l.option-index;
}
