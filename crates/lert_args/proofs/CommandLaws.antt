-- What words spell, by their first one.
use Rattle.std.proofs.Common.{◌≡◌, ℕ, ◌<◌, ◌≤◌, Bool, true, false, List, [], ◌∷◌, length, drop, get_or, Option, Some, None, slice_get, Result, Err}
use Rattle.std.proofs.Common.{◌⊎◌, inl, inr, refl, ap, sym, ◌∙◌, subst, arith, cond, leb, le-leb, Ok}
use Rattle.std.proofs.lemmas.Bool.{lt-leb}
use Rattle.std.specs.Prelude.{codes, option_and_then}
use Rattle.std.specs.List.{remove}
use Rattle.std.specs.Str.{bytes_eq}
use Rattle.lert_spec.specs.{declared.numbers.Numbers.Numbers, Limits.{early_broken, first_broken, first_or, late_broken}}
use Rattle.lert_spec.proofs.LimitLaws.{first_breaks, first_keeps, first_none}
use Rattle.lert_args.specs.Answered.{IsAnswered}
use Rattle.lert_args.specs.Command.{command, if_unnamed, line_broken, line_of, recover_named, run_named, settings_said, usage_of, workers_said}
use Rattle.lert_args.specs.Said.{Said}
use Rattle.lert_args.specs.declared.line.Line.{Line}
use Rattle.lert_args.specs.declared.line.Line.TheVariants.{Run, Recover}
use Rattle.lert_args.specs.declared.line.LineFault.{LineFault}
use Rattle.lert_args.specs.declared.line.LineFault.TheVariants.{Usage}
use Rattle.lert_args.proofs.Texts.{equal_texts}

-- no line is spelled
pub IsAnswered-none : (spelled : Option Line) → spelled ≡ None → IsAnswered (Err (Usage 0)) spelled
IsAnswered-none spelled none = record {
  line = tt;
  sound = tt;
  usage = λ rule same. let zero_is : 0 ≡ rule = cc in ap usage_of none ∙ ap Some zero_is;
}

-- where words say nothing, they spell no line
pub unsaid : (f : Said → Option Line) (o : Option Said) (fault : LineFault) → ((rule : ℕ) → fault ≡ Usage rule → (rule ≡ 0) × (o ≡ None)) →
    IsAnswered (Err fault) (option_and_then f o)
unsaid f o fault refused = record {
  line = tt;
  sound = tt;
  usage = λ rule same. let r = refused rule same in ap (λ said. usage_of (option_and_then f said)) r.1 ∙ ap Some (sym r.0);
}

-- where words say something, they spell what that says
pub by_said : (f : Said → Option Line) (o : Option Said) (s : Said) (line : Option Line) → o ≡ Some s → f s ≡ line → option_and_then f o ≡ line
by_said f o s line said is = ap (option_and_then f) said ∙ is

pub unnamed-none : (names : List ℕ) (line : Line) → 1 ≤ length names → if_unnamed names line ≡ None
unnamed-none [] line some = absurd (omega arith)
unnamed-none (name ∷ names) line some = refl

pub unnamed-is : (names : List ℕ) (line : Line) → length names ≡ 0 → if_unnamed names line ≡ Some line
unnamed-is [] line none = refl
unnamed-is (name ∷ names) line none = absurd (omega arith)

pub run_named-none : (s : Said) (names : List ℕ) → length names < 2 → run_named s names ≡ None
run_named-none s [] few = refl
run_named-none s (dir ∷ []) few = refl
run_named-none s (dir ∷ (trace ∷ traces)) few = absurd (omega arith)

-- the line of a run: the first name is the directory's, and the others those of traces
pub run_named-is : (s : Said) (names : List ℕ) (dir : ℕ) (traces : List ℕ) → 2 ≤ length names → dir ≡ get_or names 0 dir → traces ≡ remove names 0 →
    run_named s names ≡ Some (Run (settings_said s) (workers_said s) dir traces)
run_named-is s [] dir traces enough first others = absurd (omega arith)
run_named-is s (x ∷ []) dir traces enough first others = absurd (omega arith)
run_named-is s (x ∷ (trace ∷ rest)) dir traces enough first others = sym (λ i. Some (Run (settings_said s) (workers_said s) (first i) (others i)))

-- the line of a recovery: its one name is the directory's
pub recover_named-is : (s : Said) (names read : List ℕ) (usual : ℕ) → read ≡ names → 1 ≤ length read → length read < 2 →
    recover_named s names ≡ Some (Recover (settings_said s) (get_or read 0 usual))
recover_named-is s names read usual same some few = ap (recover_named s) (sym same) ∙ by_names read some few
  where
    by_names : (names : List ℕ) → 1 ≤ length names → length names < 2 → recover_named s names ≡ Some (Recover (settings_said s) (get_or names 0 usual))
    by_names [] some few = absurd (omega arith)
    by_names (dir ∷ []) some few = refl
    by_names (dir ∷ (other ∷ others)) some few = absurd (omega arith)

-- and where there is none, or more than one, no line is spelled
pub recover_named-none : (s : Said) (names read : List ℕ) → read ≡ names → (length read < 1) ⊎ (2 ≤ length read) → recover_named s names ≡ None
recover_named-none s names read same number = ap (recover_named s) (sym same) ∙ by_names read number
  where
    by_names : (names : List ℕ) → (length names < 1) ⊎ (2 ≤ length names) → recover_named s names ≡ None
    by_names [] number = refl
    by_names (dir ∷ []) (inl none) = absurd (omega (arith, none))
    by_names (dir ∷ []) (inr many) = absurd (omega (arith, many))
    by_names (dir ∷ (other ∷ others)) number = refl

-- the first word is the command
pub command-of : (words : List (List ℕ)) (name : List ℕ) → slice_get words 0 ≡ Some name → command words ≡ line_of name (drop 1 words)
command-of [] name first = absurd (cc)
command-of (word ∷ words) name first =
    let same : word ≡ name = cc in
    ap (λ w. line_of w words) same

no_match : (name known : List ℕ) → (name ≡ known → ⊥) → bytes_eq name known ≡ false
no_match name known other = by_test (bytes_eq name known) refl
  where
    by_test : (b : Bool) → bytes_eq name known ≡ b → bytes_eq name known ≡ false
    by_test true is = absurd (other (equal_texts name known is))
    by_test false is = is

-- and no other one is
pub line_of-none : (name : List ℕ) (words : List (List ℕ)) → (name ≡ codes "run" → ⊥) → (name ≡ codes "recover" → ⊥) → (name ≡ codes "gen" → ⊥) → (name ≡ codes "drill" → ⊥) →
    line_of name words ≡ None
line_of-none name words run recover gen drill =
    rw (no_match name (codes "run") run, no_match name (codes "recover") recover, no_match name (codes "gen") gen, no_match name (codes "drill") drill) refl

pub answered : (result : Result Line LineFault) (spelled other : Option Line) → spelled ≡ other → IsAnswered result other → IsAnswered result spelled
answered result spelled other same is = subst (IsAnswered result) (sym same) is

-- a line that breaks a rule, and one that keeps them all
pub breaks : (line : Line) (fault : LineFault) → ((rule : ℕ) → fault ≡ Usage rule → line_broken line ≡ Some rule) → IsAnswered (Err fault) (Some line)
breaks line fault is = record { line = tt; sound = tt; usage = is }

pub breaks_by : (line : Line) (rule : ℕ) → line_broken line ≡ Some rule → IsAnswered (Err (Usage rule)) (Some line)
breaks_by line rule broken = breaks line (Usage rule) (λ other same. let rules : rule ≡ other = cc in broken ∙ ap Some rules)

pub keeps : (given line : Line) → line ≡ given → line_broken line ≡ None → IsAnswered (Ok given) (Some line)
keeps given line same kept = record { line = ap Some same; sound = kept; usage = tt }

-- the rules of the settings, none of which comes late
only_first : (first : Option ℕ) (rule : ℕ) → first_or first None ≡ Some rule → first ≡ Some rule
only_first (Some early) rule is = is
only_first None rule is = absurd (cc)

pub all_early : (s : Numbers) (rule : ℕ) → first_broken s ≡ Some rule → early_broken s ≡ Some rule
all_early s rule broken = only_first (early_broken s) rule broken

-- a line's own rules, between those
module _ (s : Numbers) (workers last : Option ℕ) (kept : first_broken s ≡ None) where
  both_kept : (early_broken s ≡ None) × (late_broken s ≡ None)
  both_kept = first_none (early_broken s) (late_broken s) kept

  pub workers_break : (rule : ℕ) → workers ≡ Some rule → first_or (early_broken s) (first_or workers (first_or last (late_broken s))) ≡ Some rule
  workers_break rule broken = first_keeps (early_broken s) _ _ both_kept.0 (first_breaks workers _ rule broken)

  pub last_breaks : (rule : ℕ) → workers ≡ None → last ≡ Some rule → first_or (early_broken s) (first_or workers (first_or last (late_broken s))) ≡ Some rule
  last_breaks rule enough broken = first_keeps (early_broken s) _ _ both_kept.0 (first_keeps workers _ _ enough (first_breaks last _ rule broken))

  pub none_breaks : workers ≡ None → last ≡ None → first_or (early_broken s) (first_or workers (first_or last (late_broken s))) ≡ None
  none_breaks enough few = first_keeps (early_broken s) _ _ both_kept.0 (first_keeps workers _ _ enough (first_keeps last _ _ few both_kept.1))

pub over : (most n rule : ℕ) → most < n → cond {A = Option ℕ} (leb n most) None (Some rule) ≡ Some rule
over most n rule more = ap (λ b. cond {A = Option ℕ} b None (Some rule)) (lt-leb n most more)

pub at_most : (most n rule : ℕ) → n ≤ most → cond {A = Option ℕ} (leb n most) None (Some rule) ≡ None
at_most most n rule few = ap (λ b. cond {A = Option ℕ} b None (Some rule)) (le-leb n most few)
