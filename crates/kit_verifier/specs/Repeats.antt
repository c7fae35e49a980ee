-- Operations that have the name of an earlier one of their block.
use Rattle.std.specs.Prelude.{◌≡◌, ◌↔◌, ◌<◌, ℕ, true, List, [], ◌∷◌, Some, slice_get}
use Rattle.ir_program.specs.Lists.{StandsInside, operations_in}
use Rattle.ir_program.specs.Program.{Program}
use Rattle.ir_program.specs.declared.handles.IRNode.{IRNode}
use Rattle.ir_program.specs.declared.handles.IRNode.TheVariants.{Operation as OperationNode}
use Rattle.ir_program.specs.declared.handles.IRNode.TheVariants.{Region as RegionNode, BasicBlock as BlockNode}
use Rattle.ir_program.specs.declared.handles.Ptr.{Ptr}
use Rattle.ir_program.specs.declared.handles.Operation.{Operation}
use Rattle.ir_trees.specs.Trees.{Blocks}
use Rattle.opt_trees.specs.Occurrences.{Has}
use Rattle.kit_checks.specs.Rules.{HasFreshName}
use Rattle.kit_checks.specs.Sites.{Listed, Around, Body, Site, block_list}
use Rattle.kit_checks.specs.Words.{is_symbol, kind_of}
use Rattle.kit_checks.specs.World.{World}
use Rattle.kit_verifier.specs.Reading.{name_at}

module _ {O B : Type 0} (w : World O B) (c : Program O B) where
  -- the operation has a name that is one of these
  abbrev pub HasNameAmong : List (List ℕ) → Ptr Operation → Type 0
  HasNameAmong names op = (name : List ℕ) × (name_at w c op ≡ Some name) × Has name names

  -- the operation is one of the list, and has the name of one that comes before it there
  pub record IsRepeat (ops : List (Ptr Operation)) (op : Ptr Operation) : Type 0 where
    pub index : ℕ
    pub here : slice_get ops index ≡ Some op
    pub first : ℕ
    pub before : first < index
    pub other : Ptr Operation
    pub there : slice_get ops first ≡ Some other
    pub name : List ℕ
    pub named : name_at w c op ≡ Some name
    pub same_name : name_at w c other ≡ Some name

  -- the entity is a block, and the operation is one of it with the name of an earlier one
  abbrev pub IsRepeatAt : IRNode → Ptr Operation → Type 0
  IsRepeatAt (BlockNode b) op = IsRepeat (operations_in c b) op
  IsRepeatAt (OperationNode p) op = ⊥
  IsRepeatAt (RegionNode r) op = ⊥

  -- the list has exactly the operations that have the name of an earlier one of their block, of all blocks inside the
  -- root
  abbrev pub AreRepeats : Ptr Operation → List (Ptr Operation) → Type 0
  AreRepeats root repeats = (op : Ptr Operation) →
      Has op repeats ↔ ((e : IRNode) × StandsInside c (OperationNode root) e × IsRepeatAt e op)

-- there is one block, and it has no arguments
abbrev pub HasPlainBlock : {O B : Type 0} → Listed O B Blocks → Type 0
HasPlainBlock {O} {B} blocks = (body : Body O B) × (block_list blocks ≡ body ∷ []) × (body.label.arguments ≡ [])

-- what is in a module: a module or a function, with a name that none before it in the block has
abbrev pub MayBeHeld : {O B : Type 0} → World O B → Site O B → Around O B → Type 0
MayBeHeld w s a = (is_symbol (kind_of w s.op) ≡ true) × HasFreshName w a s.op
