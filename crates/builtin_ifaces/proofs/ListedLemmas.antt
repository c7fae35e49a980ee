-- Interfaces without tests of types that compare equal are the same, so a table that lists one has it at an index.
use Rattle.std.proofs.Common.{◌≡◌, ℕ, suc, ◌||◌, Bool, true, false, List, [], ◌∷◌, Some, slice_get, refl, ap}
use Rattle.std.proofs.lemmas.Bool.{false≢true, eqb-true}
use Rattle.ir_names.specs.contracts.interfaces.OpInterfacePartialEq.TheImpl as of_interfaces
use Rattle.ir_names.specs.declared.interfaces.OpInterface.{OpInterface}
use Rattle.ir_names.specs.declared.interfaces.OpInterface.TheVariants as interface
use Rattle.builtin_tables.specs.Listed.{lists_interface, has_only_numbers}

-- what compares equal to a plain interface is the same
pub plain_same : (i h : OpInterface) → has_only_numbers i ≡ true → of_interfaces.eq-value.it h i ≡ true → h ≡ i
plain_same interface.IsTerminator interface.IsTerminator plain e = refl
plain_same interface.IsTerminator h plain e = absurd (false≢true e)
plain_same interface.Branch interface.Branch plain e = refl
plain_same interface.Branch h plain e = absurd (false≢true e)
plain_same interface.OneSucc interface.OneSucc plain e = refl
plain_same interface.OneSucc h plain e = absurd (false≢true e)
plain_same interface.RegionBranch interface.RegionBranch plain e = refl
plain_same interface.RegionBranch h plain e = absurd (false≢true e)
plain_same interface.OperandSegment interface.OperandSegment plain e = refl
plain_same interface.OperandSegment h plain e = absurd (false≢true e)
plain_same interface.RegionKind interface.RegionKind plain e = refl
plain_same interface.RegionKind h plain e = absurd (false≢true e)
plain_same interface.OneRegion interface.OneRegion plain e = refl
plain_same interface.OneRegion h plain e = absurd (false≢true e)
plain_same interface.AtMostOneRegion interface.AtMostOneRegion plain e = refl
plain_same interface.AtMostOneRegion h plain e = absurd (false≢true e)
plain_same interface.SingleBlockRegion interface.SingleBlockRegion plain e = refl
plain_same interface.SingleBlockRegion h plain e = absurd (false≢true e)
plain_same interface.NoTerminator interface.NoTerminator plain e = refl
plain_same interface.NoTerminator h plain e = absurd (false≢true e)
plain_same interface.SymbolOp interface.SymbolOp plain e = refl
plain_same interface.SymbolOp h plain e = absurd (false≢true e)
plain_same interface.SymbolTable interface.SymbolTable plain e = refl
plain_same interface.SymbolTable h plain e = absurd (false≢true e)
plain_same interface.SymbolUserOp interface.SymbolUserOp plain e = refl
plain_same interface.SymbolUserOp h plain e = absurd (false≢true e)
plain_same interface.OptionalResult interface.OptionalResult plain e = refl
plain_same interface.OptionalResult h plain e = absurd (false≢true e)
plain_same interface.OneResult interface.OneResult plain e = refl
plain_same interface.OneResult h plain e = absurd (false≢true e)
plain_same interface.OptionalOpd interface.OptionalOpd plain e = refl
plain_same interface.OptionalOpd h plain e = absurd (false≢true e)
plain_same interface.OneOpd interface.OneOpd plain e = refl
plain_same interface.OneOpd h plain e = absurd (false≢true e)
plain_same interface.IsolatedFromAbove interface.IsolatedFromAbove plain e = refl
plain_same interface.IsolatedFromAbove h plain e = absurd (false≢true e)
plain_same interface.CallOp interface.CallOp plain e = refl
plain_same interface.CallOp h plain e = absurd (false≢true e)
plain_same interface.SameOperandsType interface.SameOperandsType plain e = refl
plain_same interface.SameOperandsType h plain e = absurd (false≢true e)
plain_same interface.SameResultsType interface.SameResultsType plain e = refl
plain_same interface.SameResultsType h plain e = absurd (false≢true e)
plain_same interface.SameOperandsAndResultType interface.SameOperandsAndResultType plain e = refl
plain_same interface.SameOperandsAndResultType h plain e = absurd (false≢true e)
plain_same interface.SideEffects interface.SideEffects plain e = refl
plain_same interface.SideEffects h plain e = absurd (false≢true e)
plain_same interface.BlockArgRemoval interface.BlockArgRemoval plain e = refl
plain_same interface.BlockArgRemoval h plain e = absurd (false≢true e)
plain_same interface.ConstFold interface.ConstFold plain e = refl
plain_same interface.ConstFold h plain e = absurd (false≢true e)
plain_same interface.BranchOpFold interface.BranchOpFold plain e = refl
plain_same interface.BranchOpFold h plain e = absurd (false≢true e)
plain_same (interface.NSuccs n) (interface.NSuccs m) plain e = ap interface.NSuccs (eqb-true m n e)
plain_same (interface.NSuccs n) h plain e = absurd (false≢true e)
plain_same (interface.NRegions n) (interface.NRegions m) plain e = ap interface.NRegions (eqb-true m n e)
plain_same (interface.NRegions n) h plain e = absurd (false≢true e)
plain_same (interface.AtMostNRegions n) (interface.AtMostNRegions m) plain e = ap interface.AtMostNRegions (eqb-true m n e)
plain_same (interface.AtMostNRegions n) h plain e = absurd (false≢true e)
plain_same (interface.NResults n) (interface.NResults m) plain e = ap interface.NResults (eqb-true m n e)
plain_same (interface.NResults n) h plain e = absurd (false≢true e)
plain_same (interface.AtMostNResults n) (interface.AtMostNResults m) plain e = ap interface.AtMostNResults (eqb-true m n e)
plain_same (interface.AtMostNResults n) h plain e = absurd (false≢true e)
plain_same (interface.AtLeastNResults n) (interface.AtLeastNResults m) plain e = ap interface.AtLeastNResults (eqb-true m n e)
plain_same (interface.AtLeastNResults n) h plain e = absurd (false≢true e)
plain_same (interface.NOpds n) (interface.NOpds m) plain e = ap interface.NOpds (eqb-true m n e)
plain_same (interface.NOpds n) h plain e = absurd (false≢true e)
plain_same (interface.AtMostNOpds n) (interface.AtMostNOpds m) plain e = ap interface.AtMostNOpds (eqb-true m n e)
plain_same (interface.AtMostNOpds n) h plain e = absurd (false≢true e)
plain_same (interface.AtLeastNOpds n) (interface.AtLeastNOpds m) plain e = ap interface.AtLeastNOpds (eqb-true m n e)
plain_same (interface.AtLeastNOpds n) h plain e = absurd (false≢true e)
plain_same i h plain e = absurd (false≢true plain)

-- a plain interface that is listed is in the list at some index
pub listed_at : (interfaces : List OpInterface) (i : OpInterface) → has_only_numbers i ≡ true → lists_interface interfaces i ≡ true → (k : ℕ) × (slice_get interfaces k ≡ Some i)
listed_at [] i plain e = absurd (false≢true e)
listed_at (h ∷ interfaces) i plain e = first (of_interfaces.eq-value.it h i) (plain_same i h plain) (listed_at interfaces i plain) e
  where
    first : (b : Bool) → (b ≡ true → h ≡ i) → (lists_interface interfaces i ≡ true → (k : ℕ) × (slice_get interfaces k ≡ Some i)) → (b || lists_interface interfaces i) ≡ true → (k : ℕ) × (slice_get (h ∷ interfaces) k ≡ Some i)
    first true same later e = (0, ap Some (same refl))
    first false same later e = let found = later e in (suc found.0, found.1)
