-- The steps of a text that goes to a sink page by page.
use Rattle.std.proofs.{Common.{◌≡◌, ℕ, ◌+◌, ◌<◌, List, [], ◌++◌, length, get_or, take, drop, Option, Some, None, ap, sym, ◌∙◌, append_assoc, append-nil}, lemmas.Grind.flat_map-append}
use Rattle.std.proofs.lemmas.List.{flat_map_more, take-append-drop, take_more}
use Rattle.std.specs.List.{flat_map}
use Rattle.lert_spec.specs.{declared.report.Report.Report, Lines.report_line}
use Rattle.lert_text.specs.Page.{IsPrinting, IsCut}

module _ (start now : Option (List ℕ)) (page text : List ℕ) (printing : IsPrinting start now page text) where
  -- a line goes behind the page
  pub IsPrinting-append : (line : List ℕ) → IsPrinting start now (page ++ line) (text ++ line)
  IsPrinting-append line = record {
    told = λ before was.
        let x = printing.told before was in
        (x.0, x.1, sym (append_assoc x.0 page line) ∙ ap (λ xs. xs ++ line) x.2);
    untold = printing.untold;
  }

  -- the whole page was written
  pub IsPrinting-flush : (now' : Option (List ℕ)) → ((before : List ℕ) → now ≡ Some before → now' ≡ Some (before ++ page)) →
      (now ≡ None → now' ≡ None) → IsPrinting start now' [] text
  IsPrinting-flush now' wrote untold = record {
    told = λ before was.
        let x = printing.told before was in (
          x.0 ++ page,
          wrote (before ++ x.0) x.1 ∙ ap Some (append_assoc before x.0 page),
          append-nil (x.0 ++ page) ∙ x.2,
        );
    untold = λ was. untold (printing.untold was);
  }

  -- a part of the page was written
  pub IsCut-flush : (now' : Option (List ℕ)) →
      ((before : List ℕ) → now ≡ Some before → (count : ℕ) × (count < length page) × (now' ≡ Some (before ++ take count page))) →
      (now ≡ None → now' ≡ None) → IsCut start now' text
  IsCut-flush now' wrote untold = record {
    told = λ before was.
        let x = printing.told before was in
        let y = wrote (before ++ x.0) x.1 in (
          x.0 ++ take y.0 page,
          y.2 ∙ ap Some (append_assoc before x.0 (take y.0 page)),
          (
            drop y.0 page,
            append_assoc x.0 (take y.0 page) (drop y.0 page)
                ∙ ap (λ xs. x.0 ++ xs) (take-append-drop y.0 page)
                ∙ x.2,
          ),
        );
    untold = λ was. untold (printing.untold was);
  }

-- what is a part of a text is one of the text with more behind it
pub IsCut-more : (start now : Option (List ℕ)) (text more : List ℕ) → IsCut start now text → IsCut start now (text ++ more)
IsCut-more start now text more cut = record {
  told = λ before was.
      let x = cut.told before was in
      (x.0, x.1, (x.2.0 ++ more, sym (append_assoc x.0 x.2.0 more) ∙ ap (λ xs. xs ++ more) x.2.1));
  untold = cut.untold;
}

module _ (text head : List ℕ) (reports : List Report) (i : ℕ) where
  -- the line of one report more
  pub reports-more : (d : Report) → i < length reports →
      (text ++ (head ++ flat_map report_line (take i reports))) ++ report_line (get_or reports i d)
      ≡ text ++ (head ++ flat_map report_line (take (i + 1) reports))
  reports-more d below =
      append_assoc text (head ++ flat_map report_line (take i reports)) (report_line (get_or reports i d))
      ∙ ap (λ xs. text ++ xs) (flat_map_more report_line head (take i reports) (get_or reports i d)
      ∙ ap (λ rs. head ++ flat_map report_line rs) (sym (take_more reports i d below)))

  -- the lines of all others
  pub reports-rest : (text ++ (head ++ flat_map report_line (take i reports))) ++ flat_map report_line (drop i reports)
      ≡ text ++ (head ++ flat_map report_line reports)
  reports-rest =
      append_assoc text (head ++ flat_map report_line (take i reports)) (flat_map report_line (drop i reports))
      ∙ ap (λ xs. text ++ xs) (append_assoc head (flat_map report_line (take i reports)) (flat_map report_line (drop i reports))
      ∙ ap (λ xs. head ++ xs) (sym (flat_map-append report_line (take i reports) (drop i reports))
      ∙ ap (flat_map report_line) (take-append-drop i reports)))

-- nothing was printed yet
pub IsPrinting-start : (start : Option (List ℕ)) (page : List ℕ) → page ≡ [] → IsPrinting start start page []
IsPrinting-start start page empty = record {
  told = λ before was. ([], was ∙ ap Some (sym (append-nil before)), empty);
  untold = λ was. was;
}

-- all was printed, and the page is empty
pub IsPrinting-all : (start now : Option (List ℕ)) (text : List ℕ) → IsPrinting start now [] text →
    (before : List ℕ) → start ≡ Some before → now ≡ Some (before ++ text)
IsPrinting-all start now text printing before was =
    let x = printing.told before was in
    x.1 ∙ ap (λ done. Some (before ++ done)) (sym (append-nil x.0) ∙ x.2)
