-- Which trees are texts again: their names have definitions, and their operations are what their pieces say.
use Rattle.std.specs.Prelude.{◌≡◌, ◌<◌, ℕ, suc, Bool, true, false, List, [], ◌∷◌, ◌++◌, map, length, Some, None, slice_get, if◌then◌else◌}
use Rattle.std.specs.List.{range_with_len}
use Rattle.ir_names.specs.Tree.{node, no_tree, a_tree}
use Rattle.ir_print.specs.Formats.{Formats, Kind}
use Rattle.ir_print.specs.Pieces.{region, ValueTree, Pieces, Values, EntityHead, operation, a_region, block, Entity, entity, Entities, no_entity, an_entity}
use Rattle.ir_print.specs.Shown.{operands_said, successors_said}
use Rattle.ir_print.specs.Shapes.{parts_in, FitAll, FitArguments}
use Rattle.ir_print.specs.Layout.{IsShallow}
use Rattle.ir_forest.specs.Bare.{IsBareTree}
use Rattle.ir_forest.specs.Language.{Language}

-- each of the first stands among the second
abbrev pub AreIn : {N : Type 0} → List N → List N → Type 0
AreIn {N = N} xs ys = (i : ℕ) (x : N) → slice_get xs i ≡ Some x → (j : ℕ) × (slice_get ys j ≡ Some x)

-- no two are the same
abbrev pub AllDistinct : {N : Type 0} → List N → Type 0
AllDistinct {N = N} xs = (i j : ℕ) (x : N) → slice_get xs i ≡ Some x → slice_get xs j ≡ Some x → i ≡ j

-- ---- scopes

-- the names of results or arguments
abbrev pub names_of : {N : Type 0} → List (N × ValueTree) → List N
names_of xs = map (λ x. x.0) xs

-- the values that a head defines
abbrev pub head_defines : {N : Type 0} → EntityHead N → List N
head_defines (operation kind results used successors pieces) = names_of results
head_defines a_region = []
head_defines (block named label arguments) = names_of arguments

-- the values that it mentions
abbrev pub head_mentions : {N : Type 0} → EntityHead N → List N
head_mentions (operation kind results used successors pieces) = used
head_mentions _ = []

-- whether it is an isolated operation
abbrev pub is_isolated_head : {N : Type 0} → (ℕ → Bool) → EntityHead N → Bool
is_isolated_head isolated (operation kind results used successors pieces) = isolated kind
is_isolated_head isolated _ = false

-- the values of the same scope as the head that are in it: none are in an isolated operation
abbrev pub in_scope : {N : Type 0} → (ℕ → Bool) → EntityHead N → List N → List N
in_scope isolated h xs = if is_isolated_head isolated h then [] else xs

abbrev mutual
  -- the values that are defined by an entity in the scope that it stands in
  pub defined_by : {N : Type 0} → (ℕ → Bool) → Entity N → List N
  defined_by isolated (entity h ts) = head_defines h ++ in_scope isolated h (all_defined isolated ts)

  pub all_defined : {N : Type 0} → (ℕ → Bool) → Entities N → List N
  all_defined isolated no_entity = []
  all_defined isolated (an_entity t ts) = defined_by isolated t ++ all_defined isolated ts

abbrev mutual
  -- the values that are mentioned by an entity in the scope that it stands in
  pub mentioned_by : {N : Type 0} → (ℕ → Bool) → Entity N → List N
  mentioned_by isolated (entity h ts) = head_mentions h ++ in_scope isolated h (all_mentioned isolated ts)

  pub all_mentioned : {N : Type 0} → (ℕ → Bool) → Entities N → List N
  all_mentioned isolated no_entity = []
  all_mentioned isolated (an_entity t ts) = mentioned_by isolated t ++ all_mentioned isolated ts

abbrev mutual
  -- all values that are defined in an entity, in the order of the text
  pub definitions_of : {N : Type 0} → Entity N → List N
  definitions_of (entity h ts) = head_defines h ++ all_definitions_of ts

  pub all_definitions_of : {N : Type 0} → Entities N → List N
  all_definitions_of no_entity = []
  all_definitions_of (an_entity t ts) = definitions_of t ++ all_definitions_of ts

-- A region of an isolated operation is a scope: what it mentions it defines.
abbrev pub IsScope : {N : Type 0} → (ℕ → Bool) → Bool → EntityHead N → Entities N → Type 0
IsScope isolated true a_region ts = AreIn (all_mentioned isolated ts) (all_defined isolated ts)
IsScope isolated _ _ ts = Unit {0}

abbrev mutual
  -- each scope in an entity defines what it mentions; the flag says whether the entity stands in an isolated operation
  pub IsScoped : {N : Type 0} → (ℕ → Bool) → Bool → Entity N → Type 0
  IsScoped isolated inner (entity h ts) = IsScope isolated inner h ts × AreScoped isolated (is_isolated_head isolated h) ts

  pub AreScoped : {N : Type 0} → (ℕ → Bool) → Bool → Entities N → Type 0
  AreScoped isolated inner no_entity = Unit {0}
  AreScoped isolated inner (an_entity t ts) = IsScoped isolated inner t × AreScoped isolated inner ts

-- the same of a root, outside of which is a scope too
abbrev pub IsScopedRoot : {N : Type 0} → (ℕ → Bool) → Entity N → Type 0
IsScopedRoot isolated t = AreIn (mentioned_by isolated t) (defined_by isolated t) × IsScoped isolated false t

-- ---- edges

-- what names a block
abbrev pub named_in : {N : Type 0} → EntityHead N → List N
named_in (block named label arguments) = named ∷ []
named_in _ = []

-- what names the blocks among these entities, not those in them
abbrev pub blocks_among : {N : Type 0} → Entities N → List N
blocks_among no_entity = []
blocks_among (an_entity (entity h us) ts) = named_in h ++ blocks_among ts

abbrev mutual
  -- what names each block in an entity, in the order of the text
  pub blocks_of : {N : Type 0} → Entity N → List N
  blocks_of (entity h ts) = named_in h ++ all_blocks_of ts

  pub all_blocks_of : {N : Type 0} → Entities N → List N
  all_blocks_of no_entity = []
  all_blocks_of (an_entity t ts) = blocks_of t ++ all_blocks_of ts

-- the blocks that a head may go on to
abbrev pub head_goes_on : {N : Type 0} → EntityHead N → List N
head_goes_on (operation kind results used successors pieces) = successors
head_goes_on _ = []

-- the blocks to which edges in an entity may lead: those of the region that it is, or else these
abbrev pub blocks_within : {N : Type 0} → EntityHead N → Entities N → List N → List N
blocks_within a_region ts bs = blocks_among ts
blocks_within _ ts bs = bs

abbrev mutual
  -- Each edge in an entity leads to a block of the nearest region around it; around the entity that region has these blocks.
  pub HasEdges : {N : Type 0} → List N → Entity N → Type 0
  HasEdges bs (entity h ts) = AreIn (head_goes_on h) bs × HaveEdges (blocks_within h ts bs) ts

  pub HaveEdges : {N : Type 0} → List N → Entities N → Type 0
  HaveEdges bs no_entity = Unit {0}
  HaveEdges bs (an_entity t ts) = HasEdges bs t × HaveEdges bs ts

-- ---- labels

-- the labels of blocks
abbrev pub label_in : {N : Type 0} → EntityHead N → List (List ℕ)
label_in (block named label arguments) = label ∷ []
label_in _ = []

abbrev pub labels_of : {N : Type 0} → Entities N → List (List ℕ)
labels_of no_entity = []
labels_of (an_entity (entity h us) ts) = label_in h ++ labels_of ts

abbrev mutual
  -- the blocks of each region have distinct labels
  pub IsLabelled : {N : Type 0} → Entity N → Type 0
  IsLabelled (entity h ts) = AllDistinct (labels_of ts) × AreLabelled ts

  pub AreLabelled : {N : Type 0} → Entities N → Type 0
  AreLabelled no_entity = Unit {0}
  AreLabelled (an_entity t ts) = IsLabelled t × AreLabelled ts

-- the head without its label
abbrev pub unlabelled_head : {N : Type 0} → EntityHead N → EntityHead N
unlabelled_head (block named label arguments) = block named [] arguments
unlabelled_head h = h

abbrev mutual
  -- the entity without its labels
  pub unlabelled : {N : Type 0} → Entity N → Entity N
  unlabelled (entity h ts) = entity (unlabelled_head h) (all_unlabelled ts)

  pub all_unlabelled : {N : Type 0} → Entities N → Entities N
  all_unlabelled no_entity = no_entity
  all_unlabelled (an_entity t ts) = an_entity (unlabelled t) (all_unlabelled ts)

-- ---- operations

-- how many regions pieces say
abbrev pub regions_said : Pieces → ℕ
regions_said no_tree = 0
regions_said (a_tree (node region _) ts) = suc (regions_said ts)
regions_said (a_tree _ ts) = regions_said ts

-- how many entities there are
abbrev pub number_in : {N : Type 0} → Entities N → ℕ
number_in no_entity = 0
number_in (an_entity t ts) = suc (number_in ts)

-- a root that has regions is isolated
abbrev pub IsIsolatedRoot : {N : Type 0} → (ℕ → Bool) → Entity N → Type 0
IsIsolatedRoot isolated (entity h ts) = 0 < number_in ts → is_isolated_head isolated h ≡ true

-- An operation has results of the types that its pieces give, and as many regions and edges as they say; regions hold blocks, and blocks
-- operations.
abbrev mutual
  pub IsOperation : {N : Type 0} → Values → Entity N → Type 0
  IsOperation v (entity (operation kind results used successors pieces) ts) = (map (λ x. x.1) results ≡ v.result_types kind pieces) × (regions_said pieces ≡ number_in ts)
      × (successors_said pieces ≡ length successors) × AreRegions v ts
  IsOperation v (entity _ ts) = ⊥

  pub AreRegions : {N : Type 0} → Values → Entities N → Type 0
  AreRegions v no_entity = Unit {0}
  AreRegions v (an_entity t ts) = IsRegion v t × AreRegions v ts

  pub IsRegion : {N : Type 0} → Values → Entity N → Type 0
  IsRegion v (entity a_region ts) = AreBlocks v ts
  IsRegion v (entity _ ts) = ⊥

  pub AreBlocks : {N : Type 0} → Values → Entities N → Type 0
  AreBlocks v no_entity = Unit {0}
  AreBlocks v (an_entity t ts) = IsBlock v t × AreBlocks v ts

  pub IsBlock : {N : Type 0} → Values → Entity N → Type 0
  IsBlock v (entity (block named label arguments) ts) = AreOperations v ts
  IsBlock v (entity _ ts) = ⊥

  pub AreOperations : {N : Type 0} → Values → Entities N → Type 0
  AreOperations v no_entity = Unit {0}
  AreOperations v (an_entity t ts) = IsOperation v t × AreOperations v ts

-- What a head says has the shape of its format, and is read.
abbrev pub FitsHead : {N : Type 0} → Formats → Values → EntityHead N → Type 0
FitsHead f v (operation kind results used successors pieces) = (k : Kind) × (slice_get f.operations kind ≡ Some k) × FitAll f v (parts_in k.format) pieces
    × (v.refused_operation kind pieces ≡ None) × (operands_said pieces ≡ length used)
FitsHead f v a_region = Unit {0}
FitsHead f v (block named label arguments) = FitArguments f v arguments

abbrev mutual
  -- the same of all heads in an entity
  pub FitsTree : {N : Type 0} → Formats → Values → Entity N → Type 0
  FitsTree f v (entity h ts) = FitsHead f v h × FitTrees f v ts

  pub FitTrees : {N : Type 0} → Formats → Values → Entities N → Type 0
  FitTrees f v no_entity = Unit {0}
  FitTrees f v (an_entity t ts) = FitsTree f v t × FitTrees f v ts

-- A tree is closed: it is the tree of a text, whatever the names and labels in it are.
pub record IsClosedTree {N : Type 0} (l : Language) (t : Entity N) : Type 0 where
  pub operation : IsOperation l.values t
  pub fits : FitsTree l.formats l.values t
  pub scoped : IsScopedRoot l.isolated t
  pub edges : HasEdges [] t
  pub isolated : IsIsolatedRoot l.isolated t
  pub shallow : IsShallow 64 t
  pub bare : IsBareTree t

-- Its definitions are the numbers from 0 on, in the order of the text, and so are its blocks.
pub record IsNumbered (t : Entity ℕ) : Type 0 where
  pub values : definitions_of t ≡ range_with_len 0 (length (definitions_of t))
  pub blocks : blocks_of t ≡ range_with_len 0 (length (blocks_of t))

-- the two are the same but for their labels
abbrev pub IsSameModule : Entity ℕ → Entity ℕ → Type 0
IsSameModule t u = unlabelled t ≡ unlabelled u
