-- What a step of a reader keeps.
use Rattle.std.proofs.Common.{◌≡◌, ◌≢◌, ℕ, ◌+◌, ◌*◌, ◌≤◌, Option, Some, None, Result, Ok, Err, refl, sym, ap, ◌∙◌, subst, arith}
use Rattle.std.specs.Prelude.{IfErr, IfSome}
use Rattle.lert_spec.specs.declared.item.Item.{Item}
use Rattle.lert_trace.specs.{declared.fault.TraceFault.TraceFault, declared.fault.TraceFault.TheVariants.{ReadFailed, CutKey, TooLong, ZeroWeight}, Reader.{Reading, IsSameReader}}

-- one step after another
pub same_again : {S : Type 0} (old mid new : Reading S) → IsSameReader old mid → IsSameReader mid new → IsSameReader old new
same_again old mid new first second = record {
  made = second.made ∙ first.made;
  limit = second.limit ∙ first.limit;
  fault = second.fault ∙ first.fault;
}

pub never_falls_on : (first middle last : ℕ) → first ≤ middle → middle ≤ last → first ≤ last
never_falls_on first middle last one two = omega (arith, one, two)

-- a fault of one call is that of the call around it
pub err_again : {T U E : Type 0} (fault other : E) → ◌≡◌ {A = Result T E} (Err fault) (Err other) → ◌≡◌ {A = Result U E} (Err fault) (Err other)
err_again fault other same = let is : fault ≡ other = cc in ap (λ f. Err f) is

pub ok_no_err : {T E : Type 0} (x : T) (fault : E) → ◌≡◌ {A = Result T E} (Ok x) (Err fault) → ⊥
ok_no_err x fault same = cc

pub cut_no_failure : {T : Type 0} (at : ℕ) → ◌≡◌ {A = Result T TraceFault} (Err (CutKey at)) (Err ReadFailed) → ⊥
cut_no_failure at same = cc

pub long_no_failure : {T : Type 0} → ◌≡◌ {A = Result T TraceFault} (Err TooLong) (Err ReadFailed) → ⊥
long_no_failure same = cc

pub weightless_no_failure : {T : Type 0} (at : ℕ) → ◌≡◌ {A = Result T TraceFault} (Err (ZeroWeight at)) (Err ReadFailed) → ⊥
weightless_no_failure at same = cc

pub no_err : {T E : Type 0} (result : Result T E) (P : E → Type 0) (x : T) → result ≡ Ok x → IfErr result P
no_err result P x is = subst (λ r. IfErr r P) (sym is) tt

-- no fault was met
pub none_is : {A : Type 0} (fault : Option A) → ((f : A) → fault ≡ Some f → ⊥) → fault ≡ None
none_is None never = refl
none_is (Some f) never = absurd (never f refl)

pub if_none : {A : Type 0} (fault : Option A) (P : A → Type 0) → fault ≡ None → IfSome fault P
if_none fault P none = subst (λ o. IfSome o P) (sym none) tt

pub if_some : {A : Type 0} (fault : Option A) (P : A → Type 0) (f : A) → fault ≡ Some f → P f → IfSome fault P
if_some fault P f is holds = subst (λ o. IfSome o P) (sym is) holds

pub some_no_none : {A : Type 0} (fault : Option A) (f : A) → fault ≡ Some f → fault ≡ None → ⊥
some_no_none fault f is none = cc

pub below_limit : (given limit : ℕ) → given ≤ limit → given ≢ limit → given + 1 ≤ limit
below_limit given limit within apart = omega (arith, within, apart)

pub none_less : (n : ℕ) → n ≤ n
none_less n = omega arith

-- an item begins behind the header, and its weight stands behind a key
pub behind_header : (size given : ℕ) → 8 ≤ 8 + size * given
behind_header size given = omega arith

pub behind_key : (size given : ℕ) → 16 ≤ 8 + size * given + 8
behind_key size given = omega arith

-- an item whose weight isn't 0
pub one_at_least : (weight : ℕ) → weight ≢ 0 → 1 ≤ weight
one_at_least weight some = omega (arith, some)

pub weighs_some : (item read : Item) → read ≡ item → read.weight ≢ 0 → 1 ≤ item.weight
weighs_some item read is some = subst (λ (i : Item). 1 ≤ i.weight) is (one_at_least read.weight some)
