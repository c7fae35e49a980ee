-- What an edit answers.
use Rattle.std.specs.Prelude.{Result, Ok, Err}
use Rattle.ir_context.specs.declared.errors.CoreError.{CoreError}
use Rattle.ir_context.specs.declared.errors.CoreError.TheVariants.{Memory, CounterFull, DanglingPtrDeref, TypedHandle, TypeInterfaceHandle, AttrInterfaceCast, NotInOpResult, NotInBlockArgument, OperandNotUseOfDef, MissingTerminator, TerminatorNotLast, NoParent, InvalidIdentifier, EditNotAllowed}

-- why an edit may be refused: for want of memory where it `asks` for some, at a full counter where one is `full`, and else exactly where it may not be made
abbrev pub IsRefusedBy : Type 0 → Type 0 → Type 0 → CoreError → Type 0
IsRefusedBy may asks full Memory = may × asks
IsRefusedBy may asks full CounterFull = may × full
IsRefusedBy may asks full EditNotAllowed = may → ⊥
IsRefusedBy may asks full DanglingPtrDeref = ⊥
IsRefusedBy may asks full TypedHandle = ⊥
IsRefusedBy may asks full TypeInterfaceHandle = ⊥
IsRefusedBy may asks full AttrInterfaceCast = ⊥
IsRefusedBy may asks full NotInOpResult = ⊥
IsRefusedBy may asks full NotInBlockArgument = ⊥
IsRefusedBy may asks full OperandNotUseOfDef = ⊥
IsRefusedBy may asks full MissingTerminator = ⊥
IsRefusedBy may asks full TerminatorNotLast = ⊥
IsRefusedBy may asks full NoParent = ⊥
IsRefusedBy may asks full InvalidIdentifier = ⊥

-- the edit was made, where it may be made; or it was refused, and all is the same
abbrev pub Answered : {R : Type 0} → Type 0 → Type 0 → Type 0 → (R → Type 0) → Type 0 → Result R CoreError → Type 0
Answered may asks full done same (Ok r) = may × done r
Answered may asks full done same (Err e) = IsRefusedBy may asks full e × same
