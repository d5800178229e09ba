-- The command lines, and the first rule that a line breaks.
use Rattle.std.specs.{Prelude.{ℕ, nat_le, ◌^◌, List, [], ◌∷◌, ◌++◌, length, codes, Option, Some, None, option_and_then, unwrap_or, if◌then◌else◌}, Str.bytes_eq}
use Rattle.lert_spec.specs.{declared.numbers.Numbers.Numbers, Limits.{early_broken, first_broken, first_or, late_broken, lies}}
use Rattle.lert_args.specs.{Said.{Said, spelt, value_given}, declared.line.Line.Line, declared.line.Line.TheVariants.{Run, Recover, Gen, Drill}}

-- the options of the settings, and those of each command
abbrev pub setting_options : List (List ℕ)
setting_options =
    codes "threshold" ∷ codes "bins" ∷ codes "ratio" ∷ codes "base" ∷ codes "levels" ∷ codes "cone-bits" ∷ codes "room" ∷ codes "packet" ∷ []

abbrev pub run_options : List (List ℕ)
run_options = setting_options ++ codes "workers" ∷ []

abbrev pub gen_options : List (List ℕ)
gen_options = codes "seed" ∷ codes "events" ∷ []

abbrev pub drill_options : List (List ℕ)
drill_options = run_options ++ gen_options

-- the value that an option is given, or the one that it has otherwise
abbrev pub value_or : Said → List ℕ → ℕ → ℕ
value_or s name usual = unwrap_or (value_given s name) usual

-- the settings that words say
abbrev pub settings_said : Said → Numbers
settings_said s = record {
  threshold = value_or s (codes "threshold") 24;
  bins = value_or s (codes "bins") 4;
  ratio = value_or s (codes "ratio") 4;
  base = value_or s (codes "base") 4096;
  levels = value_or s (codes "levels") 5;
  cone_bits = value_or s (codes "cone-bits") 4;
  room = value_or s (codes "room") 262144;
  packet = value_or s (codes "packet") 1024;
}

abbrev pub workers_said : Said → ℕ
workers_said s = value_or s (codes "workers") 4

abbrev pub seed_said : Said → ℕ
seed_said s = value_or s (codes "seed") 1

abbrev pub events_said : Said → ℕ
events_said s = value_or s (codes "events") 1000

-- `run`: a directory, and one trace or more
abbrev pub run_named : Said → List ℕ → Option Line
run_named s (dir ∷ (trace ∷ traces)) = Some (Run (settings_said s) (workers_said s) dir (trace ∷ traces))
run_named s _ = None

abbrev pub run_said : Said → Option Line
run_said s = run_named s s.names

-- `recover`: a directory
abbrev pub recover_named : Said → List ℕ → Option Line
recover_named s (dir ∷ []) = Some (Recover (settings_said s) dir)
recover_named s _ = None

abbrev pub recover_said : Said → Option Line
recover_said s = recover_named s s.names

-- `gen` and `drill`: no name
abbrev pub if_unnamed : List ℕ → Line → Option Line
if_unnamed [] line = Some line
if_unnamed (name ∷ names) line = None

abbrev pub gen_said : Said → Option Line
gen_said s = if_unnamed s.names (Gen (seed_said s) (events_said s))

abbrev pub drill_said : Said → Option Line
drill_said s = if_unnamed s.names (Drill (settings_said s) (workers_said s) (seed_said s) (events_said s))

-- the line of a command, by what the words behind it say
abbrev pub line_of : List ℕ → List (List ℕ) → Option Line
line_of name words =
    if bytes_eq name (codes "run") then option_and_then run_said (spelt run_options words)
    else (if bytes_eq name (codes "recover") then option_and_then recover_said (spelt setting_options words)
    else (if bytes_eq name (codes "gen") then option_and_then gen_said (spelt gen_options words)
    else (if bytes_eq name (codes "drill") then option_and_then drill_said (spelt drill_options words) else None)))

-- the line that words spell
abbrev pub command : List (List ℕ) → Option Line
command [] = None
command (name ∷ words) = line_of name words

-- rule 12: 1 to 64 workers
abbrev pub workers_broken : ℕ → Option ℕ
workers_broken workers = if lies 1 64 workers then None else Some 12

-- rule 13: at most 1,024 traces
abbrev pub traces_broken : List ℕ → Option ℕ
traces_broken traces = if nat_le (length traces) 1024 then None else Some 13

-- rule 14: so many events at most
abbrev pub events_broken : ℕ → ℕ → Option ℕ
events_broken most events = if nat_le events most then None else Some 14

-- the first rule that a line breaks, in ascending order over all that concern its command: the early ones of its settings,
-- its own, and the late ones of its settings
abbrev pub line_broken : Line → Option ℕ
line_broken (Run settings workers dir traces) =
    first_or (early_broken settings) (first_or (workers_broken workers) (first_or (traces_broken traces) (late_broken settings)))
line_broken (Recover settings dir) = first_broken settings
line_broken (Gen seed events) = events_broken (2 ^ 32) events
line_broken (Drill settings workers seed events) =
    first_or (early_broken settings) (first_or (workers_broken workers) (first_or (events_broken 4194304 events) (late_broken settings)))

abbrev pub usage_of : Option Line → Option ℕ
usage_of None = Some 0
usage_of (Some line) = line_broken line

-- the rule of a usage fault: 0 where the words spell no line, else the first that the line breaks, or none
abbrev pub usage : List (List ℕ) → Option ℕ
usage words = usage_of (command words)
