-- The reports of a payload one by one, and whether their keys are new.
use Rattle.std.proofs.Common.{ℕ, ◌≡◌, ◌+◌, ◌*◌, List, [], ◌∷◌, ◌++◌, length, ap, sym, ◌∙◌, arith, below_more, append_assoc}
use Rattle.std.proofs.lemmas.List.FromFn.{length-map-range_with_len, map-range_with_len_more}
use Rattle.lert_spec.specs.declared.report.Report.{Report}
use Rattle.lert_reports.specs.LogText.{report_in}
use Rattle.lert_files.specs.Repeated.{reports_from, IsNewThere, AreNewThere}

module _ (payload : List ℕ) (start : ℕ) where
  abbrev there : ℕ → Report
  there k = report_in payload (start + 16 * k)

  pub length_from : (n : ℕ) → length (reports_from payload start n) ≡ n
  length_from n = length-map-range_with_len there 0 n

  pub from_more : (n : ℕ) → reports_from payload start (n + 1) ≡ reports_from payload start n ++ report_in payload (start + 16 * n) ∷ []
  from_more n = map-range_with_len_more there 0 n n (let same : 0 + n ≡ n = omega arith in same)

  -- behind those that are listed
  pub listed_more : (listed : List Report) (n : ℕ) → listed ++ reports_from payload start (n + 1) ≡ (listed ++ reports_from payload start n) ++ report_in payload
      (start + 16 * n) ∷ []
  listed_more listed n = ap (λ more. listed ++ more) (from_more n) ∙ sym (append_assoc listed (reports_from payload start n) (report_in payload (start + 16 * n) ∷ []))

  -- one more new key
  pub new_more : (listed : List Report) (n : ℕ) → AreNewThere listed payload start n → IsNewThere listed payload start n → AreNewThere listed payload start (n + 1)
  new_more listed n are here = below_more (IsNewThere listed payload start) n are here
