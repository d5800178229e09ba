-- Answers and their faults.
use Rattle.std.{proofs.Common.{◌≡◌, ℕ, Option, Some, None, Result}, specs.Prelude.{Ok, Err, IsErrOf}}
use Rattle.lert_base.{specs.declared.pieces.PieceFault.PieceFault, specs.declared.pieces.PieceFault.TheVariants.{Failed, Malformed}}

-- there is no fault
pub not_err : {T E : Type 0} (x : T) (fault : E) → IsErrOf {T = T} {E = E} (Ok x) fault → ⊥
not_err x fault is = cc

-- the fault of an answer is what another one's is
pub fault_is : {T E : Type 0} (x y : E) → IsErrOf {T = T} {E = E} (Err x) y → x ≡ y
fault_is x y is = cc

-- a place is named where no call failed
pub not_failed : {T : Type 0} (place : ℕ) (fault : PieceFault) → fault ≡ Malformed place → IsErrOf {T = T} {E = PieceFault} (Err fault) Failed → ⊥
not_failed place fault is failed = cc

pub place_is : {T : Type 0} (place at : ℕ) → IsErrOf {T = T} {E = PieceFault} (Err (Malformed place)) (Malformed at) → place ≡ at
place_is place at is = cc

pub same_place : (place at : ℕ) → ◌≡◌ {A = PieceFault} (Malformed place) (Malformed at) → place ≡ at
same_place place at is = cc

pub err_of : {T : Type 0} (x y : PieceFault) → x ≡ y → IsErrOf {T = T} {E = PieceFault} (Err x) y
err_of x y is = cc

-- a failed call names no place
pub no_place : (at : ℕ) (fault : PieceFault) → fault ≡ Failed → fault ≡ Malformed at → ⊥
no_place at fault failed is = cc

pub ok_not_err : {T E : Type 0} (x : T) (fault : E) → ◌≡◌ {A = Result T E} (Ok x) (Err fault) → ⊥
ok_not_err x fault is = cc

pub err_not_ok : {T E : Type 0} (x : T) (fault : E) → ◌≡◌ {A = Result T E} (Err fault) (Ok x) → ⊥
err_not_ok x fault is = cc

pub some_not_none : {T E : Type 0} (x : T) → ◌≡◌ {A = Result (Option T) E} (Ok (Some x)) (Ok None) → ⊥
some_not_none x is = cc

pub same_ok : {T E : Type 0} (x y : T) → ◌≡◌ {A = Result T E} (Ok x) (Ok y) → x ≡ y
same_ok x y is = cc
