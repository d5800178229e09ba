-- Where names stand in words, read before anything is known of the options: what a word is there, by its hyphens alone.
use Rattle.std.specs.{Prelude.{ℕ, ◌+◌, ◌==◌, List, [], ◌∷◌, Option, Some, None, option_map, option_and_then, if◌then◌else◌}, List.list_any}
use Rattle.lert_args.specs.{Said.is_equals_sign, Word.{is_hyphened, is_late_name}, declared.scan.Stand.Stand, declared.scan.Stand.TheVariants.{Between, Value, Behind}, declared.scan.Turn.Turn}
use Rattle.lert_args.specs.declared.scan.Turn.TheVariants.{Name, Other}

-- behind two hyphens: the end of the options, an option with its value, or one whose value comes
abbrev pub turn_of_option : List ℕ → Turn
turn_of_option [] = Other Behind
turn_of_option (byte ∷ bytes) = if list_any is_equals_sign (byte ∷ bytes) then Other Between else Other Value

abbrev pub turn_hyphened : List ℕ → Option Turn
turn_hyphened [] = None
turn_hyphened (second ∷ rest) = if second == 45 then Some (turn_of_option rest) else None

abbrev pub turn_between : List ℕ → Option Turn
turn_between [] = None
turn_between (first ∷ rest) = if first == 45 then turn_hyphened rest else Some (Name Between)

-- what a word is, by where it stands, or none where no line has it there
abbrev pub turn_of : Stand → List ℕ → Option Turn
turn_of Between word = turn_between word
turn_of Value word = if is_hyphened word then None else Some (Other Between)
turn_of Behind word = if is_late_name word then Some (Name Behind) else None

abbrev pub places_by : ℕ → (Stand → Option (List ℕ)) → Turn → Option (List ℕ)
places_by place others (Name stand) = option_map (λ places. place ∷ places) (others stand)
places_by place others (Other stand) = others stand

-- the places of the names in words of which the first stands at this place
abbrev pub places_from : ℕ → List (List ℕ) → Stand → Option (List ℕ)
places_from place [] stand = Some []
places_from place (word ∷ words) stand = option_and_then (places_by place (places_from (place + 1) words)) (turn_of stand word)
