-- What single tests answer, and what is asked of the types of values.
use Rattle.std.proofs.Common.{◌≡◌, ◌↔◌, ℕ, ◌+◌, ◌<◌, ◌≤◌, ⊎_elim, Option, Some, None, IsSome, List, [], ◌∷◌, ◌++◌, length, option_map, slice_get, refl, sym, ap, ◌∙◌, subst, arith, Result, Ok, Err, IsOk, IfErr, is_ok, false}
use Rattle.std.specs.Result.{IsErrAnd}
use Rattle.std.proofs.lemmas.Bool.{cases_eq, both_ways}
use Rattle.std.proofs.lemmas.Option.{slice_get-map, slice_get_within}
use Rattle.std.specs.List.{AllByRecursion}
use Rattle.ir_base.specs.declared.types.TypeHandle.{TypeHandle}
use Rattle.ir_program.specs.Program.{Program, TypedValue, value_in, type_in, type_at}
use Rattle.ir_program.specs.declared.handles.Value.{Value}
use Rattle.ir_core.specs.verification.Tests.{Test, of_type, tests_of_types}
use Rattle.ir_core.specs.verification.Verified.{IsFirstTestFault, AnswersTests}
use Rattle.ir_core.proofs.VerificationLemmas.Passed.{all-from, fault-left, answers-both}

not-ok : {F : Type 0} (r : Result Unit F) (f : F) → r ≡ Err f → IsOk r → ⊥
not-ok r f is h = let no : is_ok r ≡ false = ap is_ok is in both_ways (is_ok r) no h

-- what `?` hands on
pub handed-on : {F : Type 0} (r : Result Unit F) (f : F) → IsErrAnd r (λ e. e ≡ f) → r ≡ Err f
handed-on (Ok u) f h = absurd h
handed-on (Err e) f h = ap Err h

-- the test of a type
abbrev pub type_test : {Attr : Type 0} → TypeHandle → Test Attr
type_test ty = of_type ty

module _ {T F : Type 0} (accepts : T → Type 0) (answers : T → F → Type 0) where
  -- an answer that is known
  pub ok-of : (ts : List T) (r : Result Unit F) (u : Unit) → r ≡ Ok u → AnswersTests accepts answers ts r → AllByRecursion accepts ts
  ok-of ts r u is a = subst (AnswersTests accepts answers ts) is a

  pub err-of : (ts : List T) (r : Result Unit F) (f : F) → r ≡ Err f → AnswersTests accepts answers ts r → IsFirstTestFault accepts answers ts f
  err-of ts r f is a = subst (AnswersTests accepts answers ts) is a

  pub answers-err : (ts : List T) (r : Result Unit F) (f : F) → r ≡ Err f → IsFirstTestFault accepts answers ts f → AnswersTests accepts answers ts r
  answers-err ts r f is a = subst (AnswersTests accepts answers ts) (sym is) a

  -- one test
  pub one-test : (t : T) (r : Result Unit F) → (IsOk r ↔ accepts t) → IfErr r (answers t) → AnswersTests accepts answers (t ∷ []) r
  one-test t (Ok u) accepted fault = (accepted.0 refl, tt)
  one-test t (Err f) accepted fault = record { before = []; test = t; after = []; parts = refl; accepted = tt; refused = λ a. not-ok (Err f) f refl (accepted.1 a); answered = fault }

  pub accepted-of : (t : T) (r : Result Unit F) (u : Unit) → r ≡ Ok u → (IsOk r ↔ accepts t) → accepts t
  accepted-of t r u is accepted = accepted.0 (subst IsOk (sym is) refl)

  pub refused-of : (t : T) (r : Result Unit F) (f : F) → r ≡ Err f → (IsOk r ↔ accepts t) → accepts t → ⊥
  refused-of t r f is accepted a = not-ok r f is (accepted.1 a)

  pub answered-of : (t : T) (r : Result Unit F) (f : F) → r ≡ Err f → IfErr r (answers t) → answers t f
  answered-of t r f is fault = subst (λ (s : Result Unit F). IfErr s (answers t)) is fault

-- the tests of an operation or a block, one list of them after the other
module _ {T F : Type 0} (accepts : T → Type 0) (answers : T → F → Type 0) where
  pub first-refuses : (xs was ys : List T) (r from : Result Unit F) (f : F) → xs ≡ was → r ≡ Err f → AnswersTests accepts answers was r → IsErrAnd from (λ e. e ≡ f) → AnswersTests accepts answers (xs ++ ys) from
  first-refuses xs was ys r from f are is a handed =
      answers-err accepts answers (xs ++ ys) from f (handed-on from f handed) (fault-left accepts answers xs ys f (subst (λ ts. IsFirstTestFault accepts answers ts f) (sym are) (err-of accepts answers was r f is a)))

  pub second-answers : (xs was ys : List T) (r later : Result Unit F) (u : Unit) → xs ≡ was → r ≡ Ok u → AnswersTests accepts answers was r → AnswersTests accepts answers ys later → AnswersTests accepts answers (xs ++ ys) later
  second-answers xs was ys r later u are is a b =
      answers-both accepts answers xs ys later (subst (AllByRecursion accepts) (sym are) (ok-of accepts answers was r u is a)) b

-- the tests before an index accept
abbrev pub AcceptBelow : {T : Type 0} → (T → Type 0) → List T → ℕ → Type 0
AcceptBelow {T} accepts ts i = (k : ℕ) (t : T) → k < i → slice_get ts k ≡ Some t → accepts t

-- the type of the value at an index is tested at that index
module _ {O B : Type 0} (c : Program O B) (ts : List TypedValue) (k : ℕ) (v : Value) (here : value_in ts k ≡ Some v) (typed : type_at c v ≡ type_in ts k) where
  some_value : (o : Option TypedValue) → option_map (λ (t : TypedValue). t.value) o ≡ Some v → IsSome (option_map (λ (t : TypedValue). t.ty) o)
  some_value None e = cc
  some_value (Some t) e = refl

  pub value-live : IsSome (type_at c v)
  value-live = subst IsSome (sym typed) (some_value (slice_get ts k) here)

  test_of : {Attr : Type 0} (ty : TypeHandle) (o : Option TypedValue) → option_map (λ (t : TypedValue). t.ty) o ≡ Some ty → option_map (λ (t : TypedValue). type_test {Attr = Attr} t.ty) o ≡ Some (type_test ty)
  test_of ty None e = cc
  test_of ty (Some t) e = let s : t.ty ≡ ty = cc in ap (λ z. Some (type_test z)) s

  pub type-tested : {Attr : Type 0} (ty : TypeHandle) → type_at c v ≡ Some ty → slice_get (tests_of_types {Attr = Attr} ts) k ≡ Some (type_test ty)
  type-tested ty is = slice_get-map (λ (t : TypedValue). type_test t.ty) ts k ∙ test_of ty (slice_get ts k) (sym typed ∙ is)

module _ {T : Type 0} (accepts : T → Type 0) (ts : List T) where
  pub below-next : (i : ℕ) (t : T) → slice_get ts i ≡ Some t → accepts t → AcceptBelow accepts ts i → AcceptBelow accepts ts (i + 1)
  below-next i t here a below k s lt at = ⊎_elim
      (λ (same : k ≡ i). let e : Some t ≡ Some s = sym here ∙ ap (slice_get ts) (sym same) ∙ at in let q : t ≡ s = cc in subst accepts q a)
      (λ ne. below k s (omega (arith, lt, ne)) at)
      (cases_eq k i)

  pub below-all : (i : ℕ) → length ts ≤ i → AcceptBelow accepts ts i → AllByRecursion accepts ts
  below-all i over below = all-from accepts ts (λ k t at. below k t (let lt : k < length ts = slice_get_within ts k t at in omega (arith, lt, over)) at)
