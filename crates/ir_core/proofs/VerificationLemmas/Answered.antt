-- What a verifier answers, put together from what its parts do.
use Rattle.std.proofs.Common.{⊎_elim, ◌≡◌, ◌↔◌, ℕ, List, ◌∷◌, Bool, Result, Ok, Err, IsOk, Some, slice_get, refl, subst}
use Rattle.std.specs.List.{AllByRecursion, flat_map}
use Rattle.std.proofs.lemmas.Bool.{both_ways, cases_Bool}
use Rattle.ir_names.specs.declared.interfaces.OpInterface.{OpInterface}
use Rattle.ir_program.specs.Lists.{StandsInside}
use Rattle.ir_program.specs.Preorder.{nodes_inside, AreInside}
use Rattle.ir_program.specs.declared.handles.Ptr.{Ptr}
use Rattle.ir_program.specs.declared.handles.Operation.{Operation}
use Rattle.ir_program.specs.declared.handles.IRNode.{IRNode}
use Rattle.ir_program.specs.declared.handles.IRNode.TheVariants.{Operation as OperationNode, Region as RegionNode, BasicBlock as BlockNode}
use Rattle.ir_core.specs.verification.Dialect.{DialectProgram}
use Rattle.ir_core.specs.verification.Endings.{ends_in_terminator, IsFlawed, SomeHasFlaw, BlocksEndWell}
use Rattle.ir_core.specs.verification.Tests.{Test, of_op, tests_of, tests_inside, operation_tests_of, operation_tests_inside}
use Rattle.ir_core.specs.verification.Verified.{IsFirstTestFault, AnswersTests, AnswersOwn, own_answer, IsVerified, AnswersVerify}
use Rattle.ir_core.specs.declared.verification.errors.BasicBlockVerifyErr.TheVariants.{MissingTerminator, TerminatorNotLast, NoParent}
use Rattle.ir_core.specs.declared.verification.errors.VerifyErr.{VerifyErr}
use Rattle.ir_core.specs.declared.verification.errors.VerifyErr.TheVariants.{Block, Own}
use Rattle.ir_core.proofs.VerificationLemmas.Passed.{all-at, all-from, all-right, all-flat, flat-all}

-- an answer that is handed on accepts where it does
pub own-ok : {F : Type 0} (P : Type 0) (r : Result Unit F) → IsOk r ↔ P → IsOk (own_answer r) ↔ P
own-ok P (Ok u) h = h
own-ok P (Err f) h = h

module _ {T F : Type 0} (accepts : T → Type 0) (answers : T → F → Type 0) where
  -- an answer of tests, handed on
  pub own-answers : (ts : List T) (r : Result Unit F) → AnswersTests accepts answers ts r → AnswersOwn accepts answers ts (own_answer r)
  own-answers ts (Ok u) a = a
  own-answers ts (Err f) a = a

  -- where a test refuses not all accept
  pub not-all : (ts : List T) (f : F) → IsFirstTestFault accepts answers ts f → AllByRecursion accepts ts → ⊥
  not-all ts f fault all = fault.refused (all-right accepts fault.before (fault.test ∷ fault.after) (subst (AllByRecursion accepts) fault.parts all)).0

  pub own-accepted : (ts : List T) (r : Result Unit F) → AnswersTests accepts answers ts r → IsOk (own_answer r) ↔ AllByRecursion accepts ts
  own-accepted ts (Ok u) a = (λ h. a, λ h. refl)
  own-accepted ts (Err f) a = (λ h. cc, λ h. absurd (not-all ts f a h))

module _ {D TypeKind AttrKind TypeBody Saved Location OpKind Attr TypeKey F : Type 0} (has : OpKind → OpInterface → Bool) (accepts : Test Attr → Type 0) (answers : Test Attr → F → Type 0) (c : DialectProgram D TypeKind AttrKind TypeBody Saved Location OpKind Attr TypeKey) (x : IRNode) (are : AreInside c x (nodes_inside c x)) where
  -- the tests inside x accept where those of each entity inside do
  each-inside : (tests : IRNode → List (Test Attr)) → AllByRecursion accepts (flat_map tests (nodes_inside c x)) → (e : IRNode) → StandsInside c x e → AllByRecursion accepts (tests e)
  each-inside tests all e s = let at : (k : ℕ) × (slice_get (nodes_inside c x) k ≡ Some e) = are.all e s in all-at (λ n. AllByRecursion accepts (tests n)) (nodes_inside c x) (flat-all accepts answers tests (nodes_inside c x) all) at.0 e at.1

  all-inside : (tests : IRNode → List (Test Attr)) → ((e : IRNode) → StandsInside c x e → AllByRecursion accepts (tests e)) → AllByRecursion accepts (flat_map tests (nodes_inside c x))
  all-inside tests each = all-flat accepts answers tests (nodes_inside c x) (all-from (λ n. AllByRecursion accepts (tests n)) (nodes_inside c x) (λ k e at. each e (are.inside k e at)))

  op-tests : ((inner : Ptr Operation) → StandsInside c x (OperationNode inner) → accepts (of_op inner)) → (e : IRNode) → StandsInside c x e → AllByRecursion accepts (operation_tests_of c e)
  op-tests each (OperationNode p) s = (each p s, tt)
  op-tests each (RegionNode r) s = tt
  op-tests each (BlockNode b) s = tt

  pub ops-accepted : (r : Result Unit F) → AnswersTests accepts answers (operation_tests_inside c x) r → IsOk (own_answer r) ↔ ((inner : Ptr Operation) → StandsInside c x (OperationNode inner) → accepts (of_op inner))
  ops-accepted r a =
      let is : IsOk (own_answer r) ↔ AllByRecursion accepts (operation_tests_inside c x) = own-accepted accepts answers (operation_tests_inside c x) r a in (
        λ h inner s. (each-inside (operation_tests_of c) (is.0 h) (OperationNode inner) s).0,
        λ each. is.1 (all-inside (operation_tests_of c) (op-tests each)),
      )

  -- no block has a flaw where each ends well, and each ends well where none has a flaw
  pub well-unmissed : BlocksEndWell has c x → SomeHasFlaw has c MissingTerminator x → ⊥
  well-unmissed well s = by s.block s.inside s.flawed
    where
      by : (e : IRNode) → StandsInside c x e → IsFlawed has c MissingTerminator e → ⊥
      by (BlockNode b) inside flawed = both_ways (ends_in_terminator has c b) flawed.1 ((well b inside).last flawed.0)
      by (OperationNode p) inside flawed = flawed
      by (RegionNode r) inside flawed = flawed

  pub well-last : BlocksEndWell has c x → SomeHasFlaw has c TerminatorNotLast x → ⊥
  well-last well s = by s.block s.inside s.flawed
    where
      by : (e : IRNode) → StandsInside c x e → IsFlawed has c TerminatorNotLast e → ⊥
      by (BlockNode b) inside flawed = (well b inside).others flawed.0 flawed.1
      by (OperationNode p) inside flawed = flawed
      by (RegionNode r) inside flawed = flawed

  pub ends-well : (SomeHasFlaw has c MissingTerminator x → ⊥) → (SomeHasFlaw has c TerminatorNotLast x → ⊥) → BlocksEndWell has c x
  ends-well unmissed last b inside = record {
    last = λ needs. ⊎_elim (λ t. t) (λ f. absurd (unmissed (record { block = BlockNode b; inside = inside; flawed = (needs, f) }))) (cases_Bool (ends_in_terminator has c b));
    others = λ needs early. last (record { block = BlockNode b; inside = inside; flawed = (needs, early) });
  }

  pub verified-answer : BlocksEndWell has c x → (r : Result Unit F) → AnswersTests accepts answers (tests_inside c x) r → AnswersVerify has accepts answers c x (own_answer r)
  verified-answer well (Ok u) a = record { blocks = well; tests = each-inside (tests_of c) a }
  verified-answer well (Err f) a = (well, a)

  pub answer-accepted : (r : Result Unit (VerifyErr F)) → AnswersVerify has accepts answers c x r → IsOk r ↔ IsVerified has accepts c x
  answer-accepted (Ok u) a = (λ h. a, λ h. refl)
  answer-accepted (Err (Block MissingTerminator)) a = (λ h. cc, λ v. absurd (well-unmissed v.blocks a))
  answer-accepted (Err (Block TerminatorNotLast)) a = (λ h. cc, λ v. absurd (well-last v.blocks a.1))
  answer-accepted (Err (Block NoParent)) a = absurd a
  answer-accepted (Err (Own f)) a = (λ h. cc, λ v. absurd (not-all accepts answers (tests_inside c x) f a.1 (all-inside (tests_of c) v.tests)))
