-- What a search tells that goes over the operations inside a root in walk order.
use Rattle.std.specs.Prelude.{◌≡◌, ◌↔◌, Bool, List, ◌∷◌, ◌++◌, Option, Some, None, IsTrue, option_map}
use Rattle.ir_names.specs.declared.place.Place.{Place}
use Rattle.ir_program.specs.Preorder.{nodes_inside}
use Rattle.ir_program.specs.Program.{Program}
use Rattle.ir_program.specs.declared.handles.IRNode.{IRNode}
use Rattle.ir_program.specs.declared.handles.IRNode.TheVariants.{Operation as OperationNode, Region as RegionNode, BasicBlock as BlockNode}
use Rattle.ir_program.specs.declared.handles.Ptr.{Ptr}
use Rattle.ir_program.specs.declared.handles.Operation.{Operation}
use Rattle.ir_trees.specs.Stands.{ProgramTree, StandsFor}
use Rattle.opt_trees.specs.Occurrences.{Has}
use Rattle.kit_checks.specs.declared.rule.Rule.{Rule}
use Rattle.kit_checks.specs.declared.rule.Rule.TheVariants as rule
use Rattle.kit_checks.specs.Faults.{Keeps, IsFirstBreak}
use Rattle.kit_checks.specs.Located.{IsSiteOf}
use Rattle.kit_checks.specs.Sites.{Site}
use Rattle.kit_checks.specs.World.{World}

module _ {O B : Type 0} (w : World O B) (c : Program O B) (root : Ptr Operation) (r : Rule) where
  -- the answer of a test of the operation: whether it keeps the rule where it is
  abbrev pub Tells : Ptr Operation → Bool → Type 0
  Tells op is = (s : Site O B) → IsSiteOf c root op s → IsTrue is ↔ Keeps w r s

  -- the operation keeps the rule; it doesn't
  abbrev pub KeptBy : Ptr Operation → Type 0
  KeptBy op = (s : Site O B) → IsSiteOf c root op s → Keeps w r s

  abbrev pub BrokenBy : Ptr Operation → Type 0
  BrokenBy op = (s : Site O B) → IsSiteOf c root op s → Keeps w r s → ⊥

  -- an entity keeps the rule unless it is an operation that doesn't
  abbrev pub KeptAt : IRNode → Type 0
  KeptAt (OperationNode op) = KeptBy op
  KeptAt (BlockNode b) = Unit {0}
  KeptAt (RegionNode b) = Unit {0}

  -- the operation is the first one inside the root that doesn't keep the rule
  pub record IsFirstBroken (op : Ptr Operation) : Type 0 where
    pub before : List IRNode
    pub behind : List IRNode
    pub parts : nodes_inside c (OperationNode root) ≡ before ++ OperationNode op ∷ behind
    pub broken : BrokenBy op
    pub kept : (e : IRNode) → Has e before → KeptAt e

  -- what a search for it answers
  abbrev pub IsSearched : Option (Ptr Operation) → Type 0
  IsSearched None = (e : IRNode) → Has e (nodes_inside c (OperationNode root)) → KeptAt e
  IsSearched (Some op) = IsFirstBroken op

  -- what is answered of an entity: an operation that doesn't keep the rule
  abbrev pub IsBrokenAt : IRNode → Option (Ptr Operation) → Type 0
  IsBrokenAt e None = KeptAt e
  IsBrokenAt e (Some op) = (e ≡ OperationNode op) × BrokenBy op

  -- the answer says of the tree that the root stands for where the rule is broken first
  abbrev pub IsFirstBreakIn : Option Place → Type 0
  IsFirstBreakIn found = (t : ProgramTree O B) → StandsFor c root t → IsFirstBreak w t r (option_map (λ (p : Place). p.children.items) found)

-- the rules that are tested so far
abbrev pub IsTested : Rule → Type 0
IsTested rule.RootIsModule = Unit {0}
IsTested rule.FunctionHasType = Unit {0}
IsTested rule.FunctionHolds = Unit {0}
IsTested rule.ValuesAreIntegers = Unit {0}
IsTested rule.BlocksEnd = Unit {0}
IsTested rule.OperandsAreVisible = Unit {0}
IsTested rule.TypesAgree = Unit {0}
IsTested rule.EdgesFit = Unit {0}
IsTested rule.ReturnsFit = Unit {0}
IsTested rule.ConstantsFit = Unit {0}
IsTested rule.AttributesAreKnown = Unit {0}
IsTested rule.FitsFormat = Unit {0}
IsTested _ = ⊥

module _ {O B : Type 0} (w : World O B) (c : Program O B) (root : Ptr Operation) where
  -- the answer of all these tests of the operation: whether it keeps each of the rules where it is
  abbrev pub TellsAll : Ptr Operation → Bool → Type 0
  TellsAll op is = (s : Site O B) → IsSiteOf c root op s → IsTrue is ↔ ((r : Rule) → IsTested r → Keeps w r s)

  -- what is answered of an entity: whether it is no operation, or is one that keeps each of the rules
  abbrev pub TellsAllAt : IRNode → Bool → Type 0
  TellsAllAt (OperationNode op) is = TellsAll op is
  TellsAllAt (BlockNode b) is = IsTrue is
  TellsAllAt (RegionNode r) is = IsTrue is

  -- each rule that is tested, so each that asks for no table of names, is kept everywhere in the tree that the root
  -- stands for
  abbrev pub KeepsLocalRules : Type 0
  KeepsLocalRules = (r : Rule) → IsTested r → IsFirstBreakIn w c root r None
