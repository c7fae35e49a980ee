-- What a text on its way into a context has open, and what has been made of it.
use Rattle.std.specs.Prelude.{◌≡◌, ℕ, ◌-◌, List, [], ◌∷◌, ◌++◌, None, reverse, ◌+◌, ◌<◌, map, length, Option, Some, slice_get, ◌⊎◌}
use Rattle.text_frames.specs.Worlds.{joined}
use Rattle.ir_print.specs.Pieces.{Values}
use Rattle.ir_print.specs.Shown.{Saying}
use Rattle.ir_print.specs.declared.format.ValueSort.{ValueSort}
use Rattle.ir_print.specs.declared.format.ValueSort.TheVariants as sorts
use Rattle.ir_context.specs.Views.{ContextView}
use Rattle.ir_context.specs.declared.notes.BlockNotes.{BlockNotes}
use Rattle.ir_context.specs.declared.notes.OperationData.{OperationData}
use Rattle.ir_types.specs.Views.{TypesView}
use Rattle.ir_program.specs.declared.handles.BasicBlock.{BasicBlock}
use Rattle.ir_program.specs.declared.handles.IRNode.{IRNode}
use Rattle.ir_program.specs.declared.handles.IRNode.TheVariants.{Operation as OperationNode}
use Rattle.ir_program.specs.declared.handles.Operation.{Operation}
use Rattle.ir_program.specs.declared.handles.Ptr.{Ptr}
use Rattle.ir_program.specs.declared.handles.Value.{Value}
use Rattle.ir_forest.specs.Building.{Built}
use Rattle.ir_formats.specs.Ordered.{Standing}
use Rattle.ir_grammar.specs.Nesting.{Position, at_end}
use Rattle.text_dialect.specs.Seen.{Seen, seen}
use Rattle.text_frames.specs.building.Loose.{IsDefinedValue, IsDefinedBlock}
use Rattle.text_frames.specs.declared.opened.Body.{Body}
use Rattle.text_frames.specs.declared.opened.Body.TheVariants as body
use Rattle.text_frames.specs.declared.opened.Open.{Open}
use Rattle.text_frames.specs.Frames.{Stands}
use Rattle.text_frames.specs.Opened.{IsFreshFrame}
use Rattle.text_frames.specs.Raised.{HoldsAllNew, RaisesAll, AreWaiting, block_nodes, blocks_of_body}
use Rattle.text_frames.specs.Worlds.{Rises, NameTokens, PartialModule}
use Rattle.text_assembling.specs.declared.assembling.Assembler.{Assembler}

-- ---- a context

-- a context as it is seen, with the number of the value that comes next
pub record Stage (K A T : Type 0) : Type 0 where
  pub ctx : Seen K A T
  pub counter : ℕ

-- what is seen of a context, and its counter
abbrev pub stage : {D TypeKind AttrKind TypeBody Saved Location OpKind Attr TypeKey : Type 0}
    → ContextView (OperationData D TypeKind AttrKind TypeBody Saved Location OpKind Attr TypeKey)
    (BlockNotes D TypeKind AttrKind TypeBody Saved Location OpKind Attr TypeKey) (TypesView TypeKey TypeBody Saved)
    → Stage OpKind Attr TypeKey
stage c = record { ctx = seen c; counter = c.program.counter }

-- the body of a value of a sort, of the kind with a number
abbrev pub value_body : {D K A T : Type 0} → ValueSort → ℕ → Body D K A T
value_body sorts.«Type» n = body.«Type» n
value_body sorts.Attribute n = body.Attribute n

-- ---- what is open

module _ {D K A T : Type 0} (says : Saying K A T) (values : Values) (text : ℕ → List ℕ) (types : List T) where
  -- what a text on its way into a context has open
  abbrev pub Holds : Assembler D K A T → Built → Standing → Type 0
  Holds a b s = Stands says values text types a.here s.here b.here (reverse a.around.items) b.around s.around

module _ {D K A T : Type 0} where
  -- something with this body begins at the last token
  pub record Begun (a c : Assembler D K A T) (b : Body D K A T) : Type 0 where
    pub here : IsFreshFrame c.here b (a.taken - 1)
    pub around : c.around.items ≡ a.around.items ++ a.here ∷ []
    pub taken : c.taken ≡ a.taken

  -- what is around the innermost stays, and no token was taken
  pub record KeepsAround (a c : Assembler D K A T) : Type 0 where
    pub around : c.around ≡ a.around
    pub taken : c.taken ≡ a.taken

  -- one more definition is named
  pub record NamesOne (a c : Assembler D K A T) : Type 0 where
    pub numbers : c.here.numbers.items ≡ a.here.numbers.items ++ length a.made.values.items ∷ []
    pub values : c.made.values.items ≡ a.made.values.items ++ None ∷ []
    pub blocks : c.made.blocks ≡ a.made.blocks
    pub pending : c.made.pending ≡ a.made.pending
    pub root : c.made.root ≡ a.made.root
    pub loose : c.made.loose ≡ a.made.loose

-- ---- what has been made

-- the root by its handle of any sort, if there is one
abbrev pub root_nodes : Option (Ptr Operation) → List IRNode
root_nodes None = []
root_nodes (Some p) = OperationNode p ∷ []

-- the label at a token, where its block isn't made
abbrev pub unmade_block : Option (Ptr BasicBlock) → ℕ → List ℕ
unmade_block None k = k ∷ []
unmade_block (Some b) k = []

-- no root is made before the end
abbrev pub IsUnrooted : Position → Option (Ptr Operation) → Type 0
IsUnrooted at_end root = Unit {0}
IsUnrooted _ root = root ≡ None

module _ {D K A T : Type 0} where
  -- all that is open, the outermost first
  abbrev pub all_open : Assembler D K A T → List (Open D K A T)
  all_open a = a.around.items ++ a.here ∷ []

  -- the numbers of the definitions that are named and not made
  abbrev pub numbers_of : Assembler D K A T → List ℕ
  numbers_of a = joined (map (λ f. f.numbers.items) (all_open a))

  -- the blocks that are in no region yet
  abbrev pub blocks_of : Assembler D K A T → List (Ptr BasicBlock)
  blocks_of a = joined (map (λ f. blocks_of_body f.body) (all_open a))

  -- the label of a block whose header isn't read
  abbrev pub unmade_label : Body D K A T → ℕ → List ℕ
  unmade_label (body.Block b) k = unmade_block b.block k
  unmade_label _ k = []

  -- the labels of the blocks that are begun and not made
  abbrev pub unmade_labels : List (Open D K A T) → List ℕ
  unmade_labels fs = joined (map (λ f. unmade_label f.body f.first) fs)

  -- what has been made so far, these names having been read
  abbrev pub world_of : Stage K A T → Assembler D K A T → NameTokens → PartialModule K A T
  world_of s a names = record {
    ctx = s.ctx;
    values = a.made.values.items;
    blocks = a.made.blocks.items;
    names = names;
    pending = a.made.pending.items;
  }

  -- The definitions: those that are named and not made have no value, and each other has one with a number of its own.
  pub record AreSettled (s : Stage K A T) (a : Assembler D K A T) (tokens : List ℕ) (counter : ℕ) : Type 0 where
    pub many : length tokens ≡ length a.made.values.items
    pub rise : Rises 0 (numbers_of a) (length a.made.values.items)
    pub waiting : (i n : ℕ) → slice_get (numbers_of a) i ≡ Some n → slice_get a.made.values.items n ≡ Some None
    pub settled : (n : ℕ) → n < length a.made.values.items
        → ((i : ℕ) × (slice_get (numbers_of a) i ≡ Some n))
        ⊎ ((v : Value) × (slice_get a.made.values.items n ≡ Some (Some v)))
    pub distinct : (m n : ℕ) (v w : Value) → slice_get a.made.values.items m ≡ Some (Some v)
        → slice_get a.made.values.items n ≡ Some (Some w) → v.number ≡ w.number → m ≡ n
    pub live : (n : ℕ) (v : Value) → slice_get a.made.values.items n ≡ Some (Some v)
        → IsDefinedValue s.ctx v × (v.number < s.counter)
    pub counted : s.counter + length (numbers_of a) ≡ counter + length a.made.values.items

  -- The blocks: each label but those of blocks that are begun and not made has one, in the order of the text, and it is there.
  pub record AreLabelled (s : Stage K A T) (a : Assembler D K A T) (labels : List ℕ) : Type 0 where
    pub made : List ℕ
    pub all : labels ≡ made ++ unmade_labels (all_open a)
    pub many : length made ≡ length a.made.blocks.items
    pub there : (n : ℕ) (b : Ptr BasicBlock) → slice_get a.made.blocks.items n ≡ Some b → IsDefinedBlock s.ctx b

-- All that has been made of what is built, since a start, at which the next value had this number. What has come since
-- is inside the blocks that are in no region yet, and the root.
pub record HasMade {D K A T : Type 0} (says : Saying K A T) (values : Values) (text : ℕ → List ℕ) (start : Seen K A T)
    (counter : ℕ) (s : Stage K A T) (a : Assembler D K A T) (b : Built) (here : Standing) (names : NameTokens) : Type 0 where
  pub frames : RaisesAll says values text (world_of s a names) a.made.root a.here here.here b.here
      (reverse a.around.items) b.around here.around
  pub held : HoldsAllNew start s.ctx a.made.loose.items
  pub stack : a.made.loose.items ≡ block_nodes (blocks_of a) ++ root_nodes a.made.root
  pub unrooted : IsUnrooted here.here a.made.root
  pub definitions : AreSettled s a names.definitions counter
  pub blocks : AreLabelled s a names.labels
  pub operands : AreWaiting start s.ctx a.made.pending.items names

-- nothing was read yet
pub record HasReadNothing {D K A T : Type 0} (a : Assembler D K A T) : Type 0 where
  pub here : IsFreshFrame a.here body.Text 0
  pub around : a.around.items ≡ []
  pub taken : a.taken ≡ 0
  pub root : a.made.root ≡ None
  pub values : a.made.values.items ≡ []
  pub blocks : a.made.blocks.items ≡ []
  pub pending : a.made.pending.items ≡ []
  pub loose : a.made.loose.items ≡ []
