use Rattle.std.proofs.{Common.{◌≡◌, ◌+◌, ◌*◌, ◌≤◌, ◌∙◌, List, [], replicate, length, ap, sym, subst, arith, vec_capacity}, lemmas.Nat.mul-le, lemmas.Result.err_from_is_err_and}
use Rattle.lert_spec.specs.declared.numbers.Numbers.{Numbers}
use Rattle.lert_levels.specs.{declared.rows.bin_at.BinAt.BinAt, rows.Rows.{AreRows, directory_text}}
use Rattle.lert_levels.proofs.rows.MoveLaws.{AreRows-none, directory_short}
use Rattle.lert_levels.proofs.levels.Levels.new.Goals as goal

-- the rows, as the settings count them
empty : (rows : List (List BinAt)) (n s : Numbers) → rows ≡ replicate n.levels [] → n ≡ s → rows ≡ replicate s.levels []
empty rows n s are same = are ∙ ap (λ (t : Numbers). replicate {A = List BinAt} t.levels []) same

pub lay_directory-requires : goal.lay_directory-requires
lay_directory-requires g c =
    let s = c.args.settings.now in
    let rows_are = ap (λ (rs : List (List BinAt)). length (directory_text rs)) (c.deref.ensures.value ∙ empty _ _ _ c.in_ok-rows.ensures c.numbers-numbers.ensures.value) in
    let room = ap (λ (n : Numbers). n.levels * (1 + n.bins)) c.numbers-numbers.ensures.value in
    omega (arith, rows_are, directory_short s (replicate s.levels []) (AreRows-none s), room, c.in_ok-directory.ensures.capacity)

pub invariant_of-result : goal.invariant_of-result
invariant_of-result g c =
    let s = c.args.settings.now in (
      record {
        are = subst (AreRows s) (sym (empty _ _ _ c.in_ok-rows.ensures c.numbers-numbers.ensures.value)) (AreRows-none s);
        of_version = (omega arith, omega arith);
        directory_is = c.lay_directory.ensures.text ∙ ap directory_text c.deref.ensures.value;
        directory_room = subst (λ (n : Numbers). n.levels * (1 + n.bins) ≤ vec_capacity c.lay_directory.new.directory) c.numbers-numbers.ensures.value
            (omega (arith, c.in_ok-directory.ensures.capacity, c.lay_directory.ensures.capacity));
        read_by = c.in_ok-new.ensures.settings;
      },
      (c.in_ok-new-3.ensures.room, omega (arith, c.in_ok-new-3.ensures.ahead)),
      c.in_ok-new-2.ensures,
    )

pub returns : goal.returns
returns g c = ap (λ rows. record { settings = c.args.settings.now; version = 2; rows = rows }) (empty _ _ _ c.in_ok-rows.ensures c.numbers-numbers.ensures.value)

-- ---- the sums, and the refusals, at which there are no levels

pub overflow_add-bins : goal.overflow_add-bins
overflow_add-bins g c = omega (arith, c.numbers-numbers.ensures.valid.limits.bins_to)

pub overflow_mul-levels : goal.overflow_mul-levels
overflow_mul-levels g c =
    let limits = c.numbers-numbers.ensures.valid.limits in
    let n = c.numbers-numbers.result in
    let few = mul-le n.levels (1 + n.bins) 8 17 (omega (arith, limits.levels_to)) (omega (arith, limits.bins_to)) in
    omega (arith, few)

pub returns-in_err-rows : goal.returns-in_err-rows
returns-in_err-rows g c = rw (err_from_is_err_and c.from_residual.result c.from_residual.ensures.1).1 tt

pub returns-in_err-directory : goal.returns-in_err-directory
returns-in_err-directory g c = rw (err_from_is_err_and c.from_residual-in_err-directory.result c.from_residual-in_err-directory.ensures.1).1 tt

pub returns-in_err-new : goal.returns-in_err-new
returns-in_err-new g c = rw (err_from_is_err_and c.from_residual-in_err-new.result c.from_residual-in_err-new.ensures.1).1 tt

pub returns-in_err-new-2 : goal.returns-in_err-new-2
returns-in_err-new-2 g c = rw (err_from_is_err_and c.from_residual-in_err-new-2.result c.from_residual-in_err-new-2.ensures.1).1 tt

pub returns-in_err-new-3 : goal.returns-in_err-new-3
returns-in_err-new-3 g c = rw (err_from_is_err_and c.from_residual-in_err-new-3.result c.from_residual-in_err-new-3.ensures.1).1 tt
