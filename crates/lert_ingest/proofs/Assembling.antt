-- The answer of a crew, and what is as it was where none began.
use Rattle.std.proofs.{Common.{◌≡◌, ℕ, List, Option, Some, None, Ok, Err, refl, ap, sym, ◌∙◌, subst, arith}}
use Rattle.std.proofs.lemmas.Option.{same_Some}
use Rattle.std.specs.Prelude.{IfErr, OnOk}
use Rattle.lert_bay.specs.Files.{Files}
use Rattle.lert_cone.specs.Stands.{Standing}
use Rattle.lert_spec.specs.declared.numbers.Numbers.{Numbers}
use Rattle.lert_ingest.specs.{Bays.{AreLater, bays_of}, Cones.mades_of, Ingest.{HasIngestedBehind, answer_of}, Past.Past}
use Rattle.lert_ingest.specs.{Stops.{AreIngestedBehind, StopShowsBehind, out_of_memory}, declared.status.Status.Status}
use Rattle.lert_ingest.specs.declared.status.Status.TheVariants as status
use Rattle.lert_ingest.proofs.{Answering.is_exact, Crewed.{Crewed, first_fault, past}, Completing.{all_fit, are_weaving, items_are, read_to_end, traces_later}, Exactly.exact_memory_behind}
use Rattle.lert_ingest.proofs.Judging.{bays_later, stop_shows, traces}

module _ {S B : Type 0} (past : Past) (remaining : S → Option (List ℕ)) (s_faults s_mark : S → ℕ) (files : B → Option Files) (leaves : B → Files → Type 0) (b_faults b_mark : B → ℕ)
    (s : Numbers) (workers : ℕ) where
  -- nothing was read
  pub untouched : (opened were now : List S) (bays : List B) (firsts backs : List (Standing B)) → AreLater files b_faults b_mark bays (bays_of firsts) → now ≡ were → backs ≡ firsts →
      HasIngestedBehind past remaining s_faults s_mark files leaves b_faults b_mark s workers opened were now bays firsts backs (Err status.OutOfMemory)
  untouched opened were now bays firsts backs later same_traces same_cones =
      subst (λ (ns : List S). HasIngestedBehind past remaining s_faults s_mark files leaves b_faults b_mark s workers opened were ns bays firsts backs (Err status.OutOfMemory)) (sym same_traces)
      (subst (λ (bs : List (Standing B)). HasIngestedBehind past remaining s_faults s_mark files leaves b_faults b_mark s workers opened were were bays firsts bs (Err status.OutOfMemory))
      (sym same_cones) (record {
        later = later;
        traces_later = record {
          number = refl;
          each = λ trace before now was is. let e =
              same_Some before now (sym was ∙ is) in record { marked = ap s_mark (sym e); never_falls = (let f = ap s_faults e in omega (arith, f)) };
        };
        read = tt;
        stopped = out_of_memory refl refl;
        exact = exact_memory_behind remaining s_faults files b_faults s past opened were were workers bays (bays_of firsts) (bays_of firsts) _ _ (λ texts are. refl);
      }))

-- all that a crew did
module _ {S B : Type 0} (crew : Crewed S B) where
  open crew.read use {remaining, s_faults, s_mark, workers, opened, were, laters}
  open crew use {files, leaves, b_faults, b_mark, s, before, firsts, backs}

  pub ingested : (first : Option Status) → first ≡ first_fault crew →
      HasIngestedBehind (past crew) remaining s_faults s_mark files leaves b_faults b_mark s workers opened were laters (mades_of firsts) firsts backs (answer_of first)
  ingested first is = record {
    later = bays_later crew;
    traces_later = traces_later crew;
    read = reads_all first is;
    stopped = stops first is;
    exact = is_exact crew (answer_of first ≡ Ok tt) (λ status. answer_of first ≡ Err status) (λ none. ap answer_of (is ∙ none)) (λ one found. ap answer_of (is ∙ found));
  }
    where
      reads_all : (answer : Option Status) → answer ≡ first_fault crew → OnOk (answer_of answer) (AreIngestedBehind (past crew) remaining files leaves b_faults s workers opened laters backs)
      reads_all None none = record {
        traces = traces crew;
        items = items_are crew (sym none);
        read = read_to_end crew (sym none);
        weaving = are_weaving crew (sym none);
        fits = all_fit crew (sym none);
      }
      reads_all (Some one) found = tt

      stops : (answer : Option Status) → answer ≡ first_fault crew →
          IfErr (answer_of answer) (StopShowsBehind (past crew) remaining s_faults files b_faults s workers opened were laters (mades_of firsts) (bays_of firsts) (bays_of backs))
      stops None none = tt
      stops (Some one) found = stop_shows crew one (sym found)
