-- What the answer of a verifier says.
use Rattle.std.specs.Prelude.{◌≡◌, List, ◌∷◌, ◌++◌, Bool, Result, Ok, Err}
use Rattle.std.specs.List.{AllByRecursion}
use Rattle.ir_names.specs.declared.interfaces.OpInterface.{OpInterface}
use Rattle.ir_program.specs.Lists.{StandsInside, IsUnlinkedBlock}
use Rattle.ir_program.specs.declared.handles.Ptr.{Ptr}
use Rattle.ir_program.specs.declared.handles.BasicBlock.{BasicBlock}
use Rattle.ir_program.specs.declared.handles.IRNode.{IRNode}
use Rattle.ir_program.specs.declared.handles.IRNode.TheVariants.{BasicBlock as BlockNode}
use Rattle.ir_core.specs.verification.Dialect.{DialectProgram}
use Rattle.ir_core.specs.verification.Endings.{SomeHasFlaw, BlocksEndWell}
use Rattle.ir_core.specs.verification.Tests.{Test, tests_of, tests_inside}
use Rattle.ir_core.specs.declared.verification.errors.BasicBlockVerifyErr.TheVariants.{MissingTerminator, TerminatorNotLast, NoParent}
use Rattle.ir_core.specs.declared.verification.errors.VerifyErr.{VerifyErr}
use Rattle.ir_core.specs.declared.verification.errors.VerifyErr.TheVariants.{Block, Own}

-- tests, of which some accept, and the faults that others answer
module _ {T F : Type 0} (accepts : T → Type 0) (answers : T → F → Type 0) where
  -- a test refuses and answers the fault, and each test before it accepts
  pub record IsFirstTestFault (tests : List T) (fault : F) : Type 0 where
    pub before : List T
    pub test : T
    pub after : List T
    pub parts : tests ≡ before ++ test ∷ after
    pub accepted : AllByRecursion accepts before
    pub refused : accepts test → ⊥
    pub answered : answers test fault

  -- all tests accept, or the answer is the fault of the first that doesn't
  abbrev pub AnswersTests : List T → Result Unit F → Type 0
  AnswersTests tests (Ok u) = AllByRecursion accepts tests
  AnswersTests tests (Err fault) = IsFirstTestFault tests fault

  -- the same, where no block is looked at
  abbrev pub AnswersOwn : List T → Result Unit (VerifyErr F) → Type 0
  AnswersOwn tests (Ok u) = AllByRecursion accepts tests
  AnswersOwn tests (Err (Own fault)) = IsFirstTestFault tests fault
  AnswersOwn tests (Err (Block flaw)) = ⊥

-- a fault of a test, as the answer of a verifier
abbrev pub own_answer : {F : Type 0} → Result Unit F → Result Unit (VerifyErr F)
own_answer (Ok u) = Ok u
own_answer (Err fault) = Err (Own fault)

-- the blocks end as they have to, and all tests of x and of what stands inside x accept
pub record IsVerified {D TypeKind AttrKind TypeBody Saved Location OpKind Attr TypeKey : Type 0} (has : OpKind → OpInterface → Bool) (accepts : Test Attr → Type 0) (c : DialectProgram D TypeKind AttrKind TypeBody Saved Location OpKind Attr TypeKey) (x : IRNode) : Type 0 where
  pub blocks : BlocksEndWell has c x
  pub tests : (e : IRNode) → StandsInside c x e → AllByRecursion accepts (tests_of c e)

-- a dialect, which interfaces its kinds of operations implement, and its tests
module _ {D TypeKind AttrKind TypeBody Saved Location OpKind Attr TypeKey F : Type 0} (has : OpKind → OpInterface → Bool) (accepts : Test Attr → Type 0) (answers : Test Attr → F → Type 0) (c : DialectProgram D TypeKind AttrKind TypeBody Saved Location OpKind Attr TypeKey) where
  -- what is answered of x: first a block without a terminator, then one with an early terminator, then the fault of the first test that refuses
  abbrev pub AnswersVerify : IRNode → Result Unit (VerifyErr F) → Type 0
  AnswersVerify x (Ok u) = IsVerified has accepts c x
  AnswersVerify x (Err (Block MissingTerminator)) = SomeHasFlaw has c MissingTerminator x
  AnswersVerify x (Err (Block TerminatorNotLast)) = (SomeHasFlaw has c MissingTerminator x → ⊥) × SomeHasFlaw has c TerminatorNotLast x
  AnswersVerify x (Err (Block NoParent)) = ⊥
  AnswersVerify x (Err (Own fault)) = BlocksEndWell has c x × IsFirstTestFault accepts answers (tests_inside c x) fault

  -- the same of a block, which a region has to hold
  pub record AnswersBlock (block : Ptr BasicBlock) (answer : Result Unit (VerifyErr F)) : Type 0 where
    pub unlinked : IsUnlinkedBlock c block → answer ≡ Err (Block NoParent)
    pub linked : (IsUnlinkedBlock c block → ⊥) → AnswersVerify (BlockNode block) answer
