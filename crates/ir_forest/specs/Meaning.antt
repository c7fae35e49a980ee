-- What is read, as a tree of operations.
use Rattle.std.specs.Prelude.{ℕ, ◌+◌, ◌*◌, ◌-◌, ◌==◌, List, [], ◌∷◌, ◌++◌, map, drop, true, false, if◌then◌else◌}
use Rattle.ir_names.specs.declared.kinds.Signedness.TheVariants.{Signless, Signed, Unsigned}
use Rattle.ir_names.specs.Tree.{Trees, node, no_tree, a_tree, count}
use Rattle.ir_print.specs.declared.format.ValueSort.TheVariants as sorts
use Rattle.ir_print.specs.declared.format.LeafSort.{LeafSort}
use Rattle.ir_print.specs.declared.format.LeafSort.TheVariants as leaves
use Rattle.ir_print.specs.Pieces.{Leaf, name, number, unsigned, width, quoted, mark, Piece, value_of_kind, list, item, chosen, operands, successor, region, leaf, ValueTree, Pieces, Values, canonical_value, EntityHead, operation, a_region, block, Entity, entity, Entities, no_entity, an_entity}
use Rattle.ir_grammar.specs.declared.grammar.Action.{Action}
use Rattle.ir_grammar.specs.declared.grammar.Action.TheVariants as act
use Rattle.ir_forest.specs.Forest.{ActionSpan}

-- ---- numbers and widths

-- the number that decimal digits write, behind others (`0` is 48)
abbrev pub digits_from : ℕ → List ℕ → ℕ
digits_from value [] = value
digits_from value (c ∷ cs) = digits_from (10 * value + (c - 48)) cs

-- the number that decimal digits write
abbrev pub digits : List ℕ → ℕ
digits cs = digits_from 0 cs

-- a number token, which may begin with `-` (45)
abbrev pub number_in : List ℕ → Leaf
number_in [] = number false 0
number_in (c ∷ cs) = if c == 45 then number true (digits cs) else number false (digits (c ∷ cs))

-- the characters but for the first
abbrev pub tail : List ℕ → List ℕ
tail [] = []
tail (c ∷ cs) = cs

-- a width token: `i`, `si` or `ui` and digits (`s` is 115, `u` 117)
abbrev pub width_in : List ℕ → Leaf
width_in [] = width Signless 0
width_in (c ∷ cs) =
    if c == 115 then width Signed (digits (tail cs))
    else (if c == 117 then width Unsigned (digits (tail cs)) else width Signless (digits cs))

abbrev mutual
  -- the characters that stand in quotes, up to the closing `"` (34): a `\` (92) stands for the one behind it
  pub unescaped : List ℕ → List ℕ
  unescaped [] = []
  unescaped (c ∷ cs) = if c == 92 then as_it_is cs else (if c == 34 then [] else c ∷ unescaped cs)

  -- the first character, whatever it is, and the others so
  pub as_it_is : List ℕ → List ℕ
  as_it_is [] = []
  as_it_is (c ∷ cs) = c ∷ unescaped cs

-- what a token says that is a leaf of a sort
abbrev pub leaf_in : LeafSort → List ℕ → Leaf
leaf_in leaves.Name cs = name cs
leaf_in leaves.Number cs = number_in cs
leaf_in leaves.Digits cs = unsigned (digits cs)
leaf_in leaves.Width cs = width_in cs
leaf_in leaves.Text cs = quoted (unescaped (drop 1 cs))
leaf_in leaves.Mark cs = mark (digits (drop 1 cs))

-- ---- types, attributes, and what operations say

-- A step, with the pieces that are in it, as a piece. A value says what the dialect makes of its pieces.
abbrev pub with_piece : Values → Action → List ℕ → ℕ → Pieces → Pieces → Pieces
with_piece values (act.Begin sort kind) text many ts rest = a_tree (node (value_of_kind sort kind) (canonical_value values sort kind ts)) rest
with_piece values act.BeginList text many ts rest = a_tree (node list ts) rest
with_piece values act.BeginItem text many ts rest = a_tree (node item ts) rest
with_piece values (act.BeginChoice n) text many ts rest = a_tree (node (chosen n) ts) rest
with_piece values act.BeginOperands text many ts rest = a_tree (node (operands many) no_tree) rest
with_piece values act.BeginSuccessor text many ts rest = a_tree (node (successor many) no_tree) rest
with_piece values act.BeginRegion text many ts rest = a_tree (node region no_tree) rest
with_piece values (act.Leaf sort) text many ts rest = a_tree (node (leaf (leaf_in sort text)) no_tree) rest
with_piece values _ text many ts rest = rest

-- the pieces that steps say, in their order; other steps say none
abbrev pub pieces_in : Values → (ℕ → List ℕ) → Trees ActionSpan → Pieces
pieces_in values text no_tree = no_tree
pieces_in values text (a_tree (node s ts) rest) =
    with_piece values s.action (text s.first) (count ts) (pieces_in values text ts) (pieces_in values text rest)

-- ---- operations, regions and blocks, in which tokens name values and blocks

-- one of three, by whether the action names a result, begins an operation of a kind, or does neither
abbrev pub by_operation : {X : Type 0} → Action → X → (ℕ → X) → X → X
by_operation act.Result x f y = x
by_operation (act.Operation kind) x f y = f kind
by_operation _ x f y = y

-- one of two, by whether the action is this one
abbrev pub by_region : {X : Type 0} → Action → X → X → X
by_region act.BeginRegion x y = x
by_region _ x y = y

abbrev pub by_label : {X : Type 0} → Action → X → X → X
by_label act.Label x y = x
by_label _ x y = y

-- so it is of operands and of an edge, which hands on some
abbrev pub by_operands : {X : Type 0} → Action → X → X → X
by_operands act.BeginOperands x y = x
by_operands act.BeginSuccessor x y = x
by_operands _ x y = y

abbrev pub by_successor : {X : Type 0} → Action → X → X → X
by_successor act.BeginSuccessor x y = x
by_successor _ x y = y

-- one of four, by whether the action names an argument, begins a type of a kind, ends a header, or does none of these
abbrev pub by_argument : {X : Type 0} → Action → X → (ℕ → X) → X → X → X
by_argument act.Argument x f y z = x
by_argument (act.Begin sorts.«Type» kind) x f y z = f kind
by_argument act.Header x f y z = y
by_argument _ x f y z = z

-- the tokens of steps
abbrev pub tokens_in : Trees ActionSpan → List ℕ
tokens_in no_tree = []
tokens_in (a_tree (node s ts) rest) = s.first ∷ tokens_in rest

-- the tokens that name the operands of an operation
abbrev pub operands_in : Trees ActionSpan → List ℕ
operands_in no_tree = []
operands_in (a_tree (node s ts) rest) = by_operands s.action (tokens_in ts) [] ++ operands_in rest

-- the tokens that name the blocks to which an operation may go on
abbrev pub successors_in : Trees ActionSpan → List ℕ
successors_in no_tree = []
successors_in (a_tree (node s ts) rest) = by_successor s.action (s.first ∷ []) [] ++ successors_in rest

-- the arguments in the header of a block, the name of the first being this one
abbrev pub arguments_in : Values → (ℕ → List ℕ) → ℕ → Trees ActionSpan → List (ℕ × ValueTree)
arguments_in values text named no_tree = []
arguments_in values text named (a_tree (node s ts) rest) = by_argument s.action
    (arguments_in values text s.first rest)
    (λ kind. (named, node (value_of_kind sorts.«Type» kind) (pieces_in values text ts)) ∷ arguments_in values text named rest)
    []
    (arguments_in values text named rest)

-- each name with the type beside it
abbrev pub typed : List ℕ → List ValueTree → List (ℕ × ValueTree)
typed [] ts = []
typed (k ∷ ks) [] = []
typed (k ∷ ks) (t ∷ ts) = (k, t) ∷ typed ks ts

-- what an operation of a kind is whose results have these names
abbrev pub head_of : Values → (ℕ → List ℕ) → List ℕ → Trees ActionSpan → ℕ → EntityHead ℕ
head_of values text names ts kind = let ps = pieces_in values text ts in
    operation kind (typed names (values.result_types kind ps)) (operands_in ts) (successors_in ts) ps

abbrev mutual
  -- the operations among steps, with the names of results that stand before them; these names stand before the first
  pub operations_in : Values → (ℕ → List ℕ) → List ℕ → Trees ActionSpan → Entities ℕ
  operations_in values text names no_tree = no_entity
  operations_in values text names (a_tree (node s ts) rest) = by_operation s.action
      (operations_in values text (names ++ s.first ∷ []) rest)
      (λ kind. an_entity (entity (head_of values text names ts kind) (regions_in values text ts)) (operations_in values text [] rest))
      (operations_in values text names rest)

  -- the regions among steps
  pub regions_in : Values → (ℕ → List ℕ) → Trees ActionSpan → Entities ℕ
  regions_in values text no_tree = no_entity
  regions_in values text (a_tree (node s ts) rest) = by_region s.action
      (an_entity (entity a_region (blocks_in values text ts)) (regions_in values text rest))
      (regions_in values text rest)

  -- the blocks among steps
  pub blocks_in : Values → (ℕ → List ℕ) → Trees ActionSpan → Entities ℕ
  blocks_in values text no_tree = no_entity
  blocks_in values text (a_tree (node s ts) rest) = by_label s.action
      (an_entity (entity (block s.first (text s.first) (arguments_in values text 0 ts)) (operations_in values text [] ts)) (blocks_in values text rest))
      (blocks_in values text rest)

-- ---- other names

-- the head, where the first function names values, and the second names blocks
abbrev pub renamed_head : {M N : Type 0} → (M → N) → (M → N) → EntityHead M → EntityHead N
renamed_head f g (operation kind results used successors pieces) =
    operation kind (map (λ r. (f r.0, r.1)) results) (map f used) (map g successors) pieces
renamed_head f g a_region = a_region
renamed_head f g (block named label arguments) = block (g named) label (map (λ r. (f r.0, r.1)) arguments)

abbrev mutual
  -- the same tree, where values are named by other names, and blocks by others
  pub renamed : {M N : Type 0} → (M → N) → (M → N) → Entity M → Entity N
  renamed f g (entity h es) = entity (renamed_head f g h) (all_renamed f g es)

  pub all_renamed : {M N : Type 0} → (M → N) → (M → N) → Entities M → Entities N
  all_renamed f g no_entity = no_entity
  all_renamed f g (an_entity e es) = an_entity (renamed f g e) (all_renamed f g es)
