-- What is open while a text is assembled, and what has been made of the trees that are built of it.
use Rattle.std.specs.Prelude.{◌≡◌, ℕ, ◌+◌, ◌<◌, IsSome, List, [], ◌∷◌, ◌++◌, map, length, Option, Some, None, slice_get, Bool, true, false}
use Rattle.ir_names.specs.Tree.{Trees, node, no_tree, a_tree, count}
use Rattle.ir_base.specs.declared.types.TypeHandle.{TypeHandle}
use Rattle.ir_names.specs.Text.{is_identifier}
use Rattle.ir_program.specs.declared.handles.IRNode.{IRNode}
use Rattle.ir_program.specs.declared.handles.IRNode.TheVariants.{Operation as OperationNode, BasicBlock as BlockNode}
use Rattle.ir_program.specs.declared.handles.Ptr.{Ptr}
use Rattle.ir_program.specs.declared.handles.Operation.{Operation}
use Rattle.ir_program.specs.declared.handles.BasicBlock.{BasicBlock}
use Rattle.ir_program.specs.declared.handles.Value.{Value}
use Rattle.text_dialect.specs.Seen.{Seen}
use Rattle.text_frames.specs.building.Inside.{AreLoose, CameSince}
use Rattle.text_frames.specs.building.Made.{lists_of}
use Rattle.text_frames.specs.building.Loose.{AreDistinctHandles, IsDefinedValue, IsDefinedBlock}
use Rattle.ir_print.specs.declared.format.Part.TheVariants as part
use Rattle.ir_print.specs.Pieces.{Pieces, Values, ValueTree, Entity, no_entity, an_entity}
use Rattle.ir_print.specs.Shown.{Saying, Pairs, ShowsType}
use Rattle.text_frames.specs.declared.assembly.Assembly.{Assembly}
use Rattle.text_frames.specs.Waiting.{Pending}
use Rattle.ir_grammar.specs.declared.grammar.Action.{Action}
use Rattle.ir_grammar.specs.declared.grammar.Action.TheVariants as act
use Rattle.ir_grammar.specs.declared.grammar.Event.{Event}
use Rattle.text_frames.specs.declared.opened.Body.{Body}
use Rattle.text_frames.specs.declared.opened.Body.TheVariants as body
use Rattle.text_frames.specs.declared.opened.Open.{Open}
use Rattle.ir_forest.specs.Building as building
use Rattle.ir_forest.specs.Building.{built, names_behind}
use Rattle.ir_forest.specs.Forest.{ActionSpan}
use Rattle.ir_forest.specs.Meaning.{pieces_in, operands_in, successors_in, arguments_in, typed, operations_in, regions_in, blocks_in}
use Rattle.ir_grammar.specs.Nesting.{Position, at_root, behind_root_results, at_end, in_header, in_argument, in_block, behind_results}
use Rattle.text_frames.specs.Worlds.{joined, AreAmong, NameTokens, PartialModule, IsMade, AreReady, AreReadyRegions, IsOpenBlock, operands_of, successors_of}
use Rattle.ir_scopes.specs.Naming.{defined_by, defined_from, mentioned_by, mentioned_from, labelled_by, labelled_from, label_mentioned_by, label_mentioned_from}
use Rattle.text_frames.specs.declared.opened.OpenOperation.{OpenOperation}

-- ---- what stands among steps

-- pieces as a list
abbrev pub listed : Pieces → List ValueTree
listed no_tree = []
listed (a_tree t ts) = t ∷ listed ts

-- the names with that of a result, or none behind an operation
abbrev pub with_result : List ℕ → Action → ℕ → List ℕ
with_result names act.Result k = names ++ k ∷ []
with_result names (act.Operation kind) k = []
with_result names _ k = names

-- the names of results behind the last operation, these standing before
abbrev pub result_names : List ℕ → Trees ActionSpan → List ℕ
result_names names no_tree = names
result_names names (a_tree (node s ts) rest) = result_names (with_result names s.action s.first) rest

-- the token, if it names an argument
abbrev pub argument_token : Action → ℕ → List ℕ
argument_token act.Argument k = k ∷ []
argument_token _ k = []

-- the tokens that name arguments
abbrev pub argument_tokens : Trees ActionSpan → List ℕ
argument_tokens no_tree = []
argument_tokens (a_tree (node s ts) rest) = argument_token s.action s.first ++ argument_tokens rest

-- the token that names the last argument, or this one
abbrev pub named_last : ℕ → Action → ℕ → ℕ
named_last k act.Argument n = n
named_last k _ n = k

abbrev pub last_argument : ℕ → Trees ActionSpan → ℕ
last_argument k no_tree = k
last_argument k (a_tree (node s ts) rest) = last_argument (named_last k s.action s.first) rest

-- a header ends among the steps
abbrev pub is_header : Action → Bool → Bool
is_header act.Header b = true
is_header _ b = b

abbrev pub has_header : Trees ActionSpan → Bool
has_header no_tree = false
has_header (a_tree (node s ts) rest) = is_header s.action (has_header rest)

-- the names in events
abbrev pub names_in : List Event → NameTokens
names_in es = record {
  definitions = defined_from 0 es;
  mentions = mentioned_from 0 es;
  labels = labelled_from 0 es;
  edges = label_mentioned_from 0 es;
}

-- these names, and those that an action at a token makes
abbrev pub names_after : NameTokens → Action → ℕ → NameTokens
names_after names a k = record {
  definitions = names.definitions ++ defined_by a k;
  mentions = names.mentions ++ mentioned_by a k;
  labels = names.labels ++ labelled_by a k;
  edges = names.edges ++ label_mentioned_by a k;
}

-- ---- frames

-- the tokens that name what isn't made yet of these trees at a position
abbrev pub named_tokens : Position → Trees ActionSpan → List ℕ
named_tokens in_header ts = argument_tokens ts
named_tokens in_argument ts = argument_tokens ts
named_tokens at_root ts = names_behind [] ts
named_tokens behind_root_results ts = names_behind [] ts
named_tokens at_end ts = names_behind [] ts
named_tokens in_block ts = names_behind [] ts
named_tokens behind_results ts = names_behind [] ts
named_tokens _ ts = []

-- each argument has a type; behind the name of one, the last has none yet
abbrev pub ArgumentsHaveTypes : Position → Trees ActionSpan → Pieces → Type 0
ArgumentsHaveTypes in_header ts ps = length (argument_tokens ts) ≡ count ps
ArgumentsHaveTypes in_argument ts ps = (front : List ℕ) × (argument_tokens ts ≡ front ++ last_argument 0 ts ∷ [])
    × (length front ≡ count ps)
ArgumentsHaveTypes _ ts ps = ⊥

-- a position among the operations of a block, where these names of results may stand before it
abbrev pub IsAmongOperations : Position → List ℕ → Type 0
IsAmongOperations in_block names = names ≡ []
IsAmongOperations behind_results names = Unit {0}
IsAmongOperations _ names = ⊥

-- the same of a position before or behind the root operation
abbrev pub IsAroundRoot : Position → List ℕ → Type 0
IsAroundRoot at_root names = names ≡ []
IsAroundRoot behind_root_results names = Unit {0}
IsAroundRoot at_end names = names ≡ []
IsAroundRoot _ names = ⊥

-- where reading stood when that began behind whose end it goes on here
abbrev pub begun_at : Position → Position
begun_at at_end = behind_root_results
begun_at in_header = in_argument
begun_at in_block = behind_results
begun_at p = p

-- what is open at this position may end: no header is unfinished, and no name stands behind what is in it
abbrev pub MayEnd : Position → Type 0
MayEnd in_header = ⊥
MayEnd in_argument = ⊥
MayEnd behind_results = ⊥
MayEnd _ = Unit {0}

-- the block, if there is one
abbrev pub listed_block : Option (Ptr BasicBlock) → List (Ptr BasicBlock)
listed_block None = []
listed_block (Some b) = b ∷ []

-- the blocks of a body that are in no region yet
abbrev pub blocks_of_body : {D K A T : Type 0} → Body D K A T → List (Ptr BasicBlock)
blocks_of_body (body.Operation o) = joined (lists_of o.regions.items)
blocks_of_body (body.Region bs) = bs.items
blocks_of_body (body.Block b) = listed_block b.block
blocks_of_body _ = []

-- these blocks as handles of any sort
abbrev pub block_nodes : List (Ptr BasicBlock) → List IRNode
block_nodes bs = map BlockNode bs

-- Before the root operation nothing is made; behind it the root has its tree.
abbrev pub RaisesRoot : {K A T : Type 0} → Saying K A T → Values → (ℕ → List ℕ) → PartialModule K A T → Option (Ptr Operation)
    → Position → Trees ActionSpan → Type 0
RaisesRoot says values text w root at_end ts = (p : Ptr Operation) × (t : Entity ℕ) × (root ≡ Some p)
    × (operations_in values text [] ts ≡ an_entity t no_entity) × IsMade says w p t
RaisesRoot says values text w root at ts = operations_in values text [] ts ≡ no_entity

module _ {K A T : Type 0} (says : Saying K A T) (values : Values) (text : ℕ → List ℕ) (w : PartialModule K A T) where
  -- Of an operation: its operands and the labels of its edges by their tokens, and its regions, whose blocks are made.
  pub record RaisesOperation (o : OpenOperation) (ts : Trees ActionSpan) : Type 0 where
    pub operands : o.operands.items ≡ operands_in ts
    pub mentioned : AreAmong o.operands.items w.names.mentions
    pub labels : o.labels.items ≡ successors_in ts
    pub labels_mentioned : AreAmong o.labels.items w.names.edges
    pub regions : AreReadyRegions says w o.regions.items (regions_in values text ts)

module _ {D K A T : Type 0} (says : Saying K A T) (values : Values) (text : ℕ → List ℕ) (w : PartialModule K A T) where
  -- The header of a block is being read: the types of its arguments are known.
  pub record IsHeader (f : Open D K A T) (at : Position) (ts : Trees ActionSpan) : Type 0 where
    pub open_still : has_header ts ≡ false
    pub spelt : is_identifier (text f.first) ≡ true
    pub unnamed : names_behind [] ts ≡ []
    pub no_results : result_names [] ts ≡ []
    pub empty : operations_in values text [] ts ≡ no_entity
    pub types : List TypeHandle
    pub parts : f.content.value.parts.items ≡ map part.«Type» types
    pub shown : Pairs (ShowsType says w.ctx.types) types (listed (pieces_in values text ts))
    pub arguments : arguments_in values text 0 ts ≡ typed (argument_tokens ts) (listed (pieces_in values text ts))
    pub typed_so : ArgumentsHaveTypes at ts (pieces_in values text ts)

  -- The header of a block was read, and its operations are.
  pub record IsOpened (p : Ptr BasicBlock) (f : Open D K A T) (at : Position) (ts : Trees ActionSpan) : Type 0 where
    pub among : IsAmongOperations at (names_behind [] ts)
    pub header : has_header ts ≡ true
    pub names : result_names [] ts ≡ names_behind [] ts
    pub block : IsOpenBlock says w p f.first (text f.first) (arguments_in values text 0 ts) (operations_in values text [] ts)

  -- Of a block: what is known of its header, or what is made of it.
  abbrev pub RaisesBlock : Option (Ptr BasicBlock) → Open D K A T → Position → Trees ActionSpan → Type 0
  RaisesBlock None f at ts = IsHeader f at ts
  RaisesBlock (Some b) f at ts = IsOpened b f at ts

  -- What is made of these trees in a body.
  abbrev pub Raises : Body D K A T → Open D K A T → Position → Trees ActionSpan → Type 0
  Raises (body.Operands ks) f at ts = AreAmong ks.items w.names.mentions
  Raises (body.Successor ks) f at ts = AreAmong ks.items w.names.mentions × AreAmong (f.first ∷ []) w.names.edges
  Raises (body.Operation o) f at ts = RaisesOperation says values text w o ts
  Raises (body.Region bs) f at ts = AreReady says w bs.items (blocks_in values text ts)
  Raises (body.Block b) f at ts = RaisesBlock b.block f at ts
  Raises b f at ts = Unit {0}

  -- of what is open at a position: what is made of its trees, and the numbers of what is named in it and isn't made yet
  pub record IsRaised (f : Open D K A T) (at : Position) (ts : Trees ActionSpan) : Type 0 where
    pub made : Raises f.body f at ts
    pub numbered : Pairs (λ n k. slice_get w.names.definitions n ≡ Some k) f.numbers.items (named_tokens at ts)

  -- The same of all that is open, the innermost first.
  abbrev pub RaisesAll : Option (Ptr Operation) → Open D K A T → Position → Trees ActionSpan → List (Open D K A T)
      → List building.Open → List Position → Type 0
  RaisesAll root f at ts [] [] [] = IsRaised f at ts × (result_names [] ts ≡ names_behind [] ts)
      × IsAroundRoot at (names_behind [] ts) × RaisesRoot says values text w root at ts
  RaisesAll root f at ts (g ∷ gs) (o ∷ os) (next ∷ more) = IsRaised f at ts
      × RaisesAll root g (begun_at next) o.before gs os more
  RaisesAll root f at ts _ _ _ = ⊥

-- The operations that wait for their operands and successors have come since the start, each is there once, and they have none
-- yet. Their tokens are among those of names.
pub record AreWaiting {K A T : Type 0} (start s : Seen K A T) (pending : List Pending) (names : NameTokens) :
    Type 0 where
  pub once : AreDistinctHandles (map (λ x. x.op) pending)
  pub there : (i : ℕ) (x : Pending) → slice_get pending i ≡ Some x → IsSome (s.operation x.op)
  pub came : (i : ℕ) (x : Pending) → slice_get pending i ≡ Some x → start.operation x.op ≡ None
  pub empty : (i : ℕ) (x : Pending) → slice_get pending i ≡ Some x → operands_of s x.op ≡ []
  pub no_successors : (i : ℕ) (x : Pending) → slice_get pending i ≡ Some x → successors_of s x.op ≡ []
  pub among : (i : ℕ) (x : Pending) → slice_get pending i ≡ Some x → AreAmong x.tokens names.mentions
  pub labels_among : (i : ℕ) (x : Pending) → slice_get pending i ≡ Some x → AreAmong x.labels names.edges

-- All that has come since the start is inside these things, which are in no list.
pub record HoldsAllNew {K A T : Type 0} (start s : Seen K A T) (things : List IRNode) : Type 0 where
  pub loose : AreLoose s things
  pub came : CameSince start s things

-- What a text has become but for its operands and successors, since a start, at which the next value had the first of these
-- numbers, and has the second now: the root has the tree that is built, and is in no block; each definition has a value with a
-- number of its own below the counter, which has moved on by their number; each label has a block; and the operations wait for
-- their operands and successors.
pub record IsAssembled {K A T : Type 0} (says : Saying K A T) (values : Values) (text : ℕ → List ℕ)
    (start s : Seen K A T) (first next : ℕ) (a : Assembly) (es : List Event) : Type 0 where
  pub root : Ptr Operation
  pub tree : Entity ℕ
  pub stands : a.root ≡ Some root
  pub says_so : operations_in values text [] (built es).here ≡ an_entity tree no_entity
  pub made : IsMade says (record {
    ctx = s;
    values = a.values.items;
    blocks = a.blocks.items;
    names = names_in es;
    pending = a.pending.items;
  }) root tree
  pub many : length (defined_from 0 es) ≡ length a.values.items
  pub settled : (n : ℕ) → n < length a.values.items
      → (v : Value) × (slice_get a.values.items n ≡ Some (Some v)) × IsDefinedValue s v × (v.number < next)
  pub distinct : (i j : ℕ) (v w : Value) → slice_get a.values.items i ≡ Some (Some v)
      → slice_get a.values.items j ≡ Some (Some w) → v.number ≡ w.number → i ≡ j
  pub counted : next ≡ first + length a.values.items
  pub many_blocks : length (labelled_from 0 es) ≡ length a.blocks.items
  pub blocks_there : (n : ℕ) (b : Ptr BasicBlock) → slice_get a.blocks.items n ≡ Some b → IsDefinedBlock s b
  pub operands : AreWaiting start s a.pending.items (names_in es)
  pub things : a.loose.items ≡ OperationNode root ∷ []
