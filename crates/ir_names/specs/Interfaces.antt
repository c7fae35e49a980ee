-- Which interfaces stand on which.
use Rattle.std.specs.Prelude.{◌≡◌, Bool, true, List, [], ◌∷◌}
use Rattle.std.specs.List.{list_all}
use Rattle.ir_names.specs.declared.interfaces.OpInterface.{OpInterface}
use Rattle.ir_names.specs.declared.interfaces.OpInterface.TheVariants as op
use Rattle.ir_names.specs.declared.interfaces.AttrInterface.{AttrInterface}
use Rattle.ir_names.specs.declared.interfaces.AttrInterface.TheVariants as attr

-- the interfaces that an interface of operations stands on
abbrev pub parents_of : OpInterface → List OpInterface
parents_of op.Branch = op.IsTerminator ∷ []
parents_of (op.NSuccs n) = op.Branch ∷ []
parents_of op.OneSucc = op.Branch ∷ []
parents_of op.BranchOpFold = op.Branch ∷ []
parents_of op.AtMostOneRegion = op.AtMostNRegions 1 ∷ []
parents_of op.NoTerminator = op.SingleBlockRegion ∷ []
parents_of op.SymbolTable = op.SingleBlockRegion ∷ op.OneRegion ∷ []
parents_of (op.SegmentN n test) = op.OperandSegment ∷ []
parents_of op.SameOperandsAndResultType = op.SameOperandsType ∷ op.SameResultsType ∷ []
parents_of i = []

-- the interfaces that an interface of attributes stands on
abbrev pub parents_of_attr : AttrInterface → List AttrInterface
parents_of_attr attr.PrintOnceAttr = attr.OutlinedAttr ∷ []
parents_of_attr attr.MaterializableAttr = attr.TypedAttr ∷ []
parents_of_attr i = []

-- what implements an interface of operations implements those that it stands on
abbrev pub ImplementsParents : (OpInterface → Bool) → Type 0
ImplementsParents implements = (i : OpInterface) → implements i ≡ true → list_all implements (parents_of i) ≡ true

-- what implements an interface of attributes implements those that it stands on
abbrev pub ImplementsParentsOfAttr : (AttrInterface → Bool) → Type 0
ImplementsParentsOfAttr implements = (i : AttrInterface) → implements i ≡ true → list_all implements (parents_of_attr i) ≡ true
