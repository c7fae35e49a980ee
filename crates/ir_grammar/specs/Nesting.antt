-- The order in which reading does things, whatever the formats.
use Rattle.std.specs.Prelude.{◌≡◌, List, [], ◌∷◌, Bool, true, false}
use Rattle.std.specs.Bool.{MatchBool}
use Rattle.ir_grammar.specs.declared.grammar.Action.{Action}
use Rattle.ir_grammar.specs.declared.grammar.Action.TheVariants.{Result, Operation, EndOperation, BeginRegion, EndRegion, Label, Argument, Header, EndBlock, Begin, End, Leaf, BeginOperands, Operand, EndOperands, BeginSuccessor, EndSuccessor, BeginList, BeginItem, EndItem, EndList, BeginChoice, EndChoice}
use Rattle.ir_print.specs.declared.format.ValueSort.{ValueSort}
use Rattle.ir_print.specs.declared.format.ValueSort.TheVariants as sorts
use Rattle.ir_grammar.specs.declared.grammar.Event.{Event}
use Rattle.ir_grammar.specs.declared.grammar.Event.TheVariants.{Took, Did}

-- Where in a text something is done.
pub data Position : Type 0 where
  -- before the root operation, behind names of its results, behind it
  at_root behind_root_results at_end : Position
  -- in an operation, among its operands, among those that an edge hands on, in a region
  in_operation in_operands in_successor in_region : Position
  -- in the header of a block, behind the name of an argument
  in_header in_argument : Position
  -- among the operations of a block, behind names of results
  in_block behind_results : Position
  -- in a value, in a list, in a member of a list, in one of several formats
  in_value : ValueSort → Position
  in_list in_item in_choice : Position

-- What an action may do at a position: it leaves reading at another one, it begins something, or it ends what is begun.
pub data Move : Type 0 where
  goes_to : Position → Move
  -- the position in what begins, and the one behind its end
  goes_in : Position → Position → Move
  goes_out : Move
  nowhere : Move

-- what an action does among the pieces of a type, an attribute, a member, one of several formats or an operation
abbrev pub piece_move : Position → Action → Move
piece_move at (Leaf sort) = goes_to at
piece_move at (Begin sort kind) = goes_in (in_value sort) at
piece_move at BeginList = goes_in in_list at
piece_move at (BeginChoice n) = goes_in in_choice at
piece_move at _ = nowhere

abbrev pub operation_move : Action → Move
operation_move EndOperation = goes_out
operation_move BeginRegion = goes_in in_region in_operation
operation_move BeginOperands = goes_in in_operands in_operation
operation_move BeginSuccessor = goes_in in_successor in_operation
operation_move a = piece_move in_operation a

-- A value of a sort is ended as one of this sort.
abbrev pub end_move : ValueSort → ValueSort → Move
end_move sorts.«Type» sorts.«Type» = goes_out
end_move sorts.Attribute sorts.Attribute = goes_out
end_move _ _ = nowhere

abbrev pub value_move : ValueSort → Action → Move
value_move sort (End s) = end_move sort s
value_move sort a = piece_move (in_value sort) a

abbrev pub item_move : Action → Move
item_move EndItem = goes_out
item_move a = piece_move in_item a

abbrev pub choice_move : Action → Move
choice_move EndChoice = goes_out
choice_move a = piece_move in_choice a

abbrev pub list_move : Action → Move
list_move EndList = goes_out
list_move BeginItem = goes_in in_item in_list
list_move _ = nowhere

abbrev pub operands_move : Action → Move
operands_move EndOperands = goes_out
operands_move Operand = goes_to in_operands
operands_move _ = nowhere

abbrev pub successor_move : Action → Move
successor_move EndSuccessor = goes_out
successor_move Operand = goes_to in_successor
successor_move _ = nowhere

abbrev pub region_move : Action → Move
region_move EndRegion = goes_out
region_move Label = goes_in in_header in_region
region_move _ = nowhere

abbrev pub header_move : Action → Move
header_move Argument = goes_to in_argument
header_move Header = goes_to in_block
header_move _ = nowhere

abbrev pub argument_move : Action → Move
argument_move (Begin sorts.«Type» kind) = goes_in (in_value sorts.«Type») in_header
argument_move _ = nowhere

abbrev pub block_move : Action → Move
block_move EndBlock = goes_out
block_move Result = goes_to behind_results
block_move (Operation kind) = goes_in in_operation in_block
block_move _ = nowhere

abbrev pub results_move : Position → Position → Action → Move
results_move at next Result = goes_to at
results_move at next (Operation kind) = goes_in in_operation next
results_move at next _ = nowhere

abbrev pub root_move : Action → Move
root_move Result = goes_to behind_root_results
root_move (Operation kind) = goes_in in_operation at_end
root_move _ = nowhere

-- what an action does at a position
abbrev pub move : Position → Action → Move
move at_root a = root_move a
move behind_root_results a = results_move behind_root_results at_end a
move at_end a = nowhere
move in_operation a = operation_move a
move in_operands a = operands_move a
move in_successor a = successor_move a
move in_region a = region_move a
move in_header a = header_move a
move in_argument a = argument_move a
move in_block a = block_move a
move behind_results a = results_move behind_results in_block a
move (in_value sort) a = value_move sort a
move in_list a = list_move a
move in_item a = item_move a
move in_choice a = choice_move a

-- A move has its place among the positions around, and what comes behind it, from the position that it leads to on, is so.
abbrev pub NestsBy : Move → List Position → (Position → List Position → Type 0) → Type 0
NestsBy (goes_to next) around Rest = Rest next around
NestsBy (goes_in inner next) around Rest = Rest inner (next ∷ around)
NestsBy goes_out [] Rest = ⊥
NestsBy goes_out (next ∷ around) Rest = Rest next around
NestsBy nowhere around Rest = ⊥

-- From a position on, with the positions behind what is begun around it, inner ones first, each action has its place.
abbrev pub Nests : Position → List Position → List Event → Type 0
Nests here around [] = Unit {0}
Nests here around (Took ∷ es) = Nests here around es
Nests here around (Did a ∷ es) = NestsBy (move here a) around (λ next more. Nests next more es)

-- the action is done straight behind its own token
abbrev pub has_own_token : Action → Bool
has_own_token Result = true
has_own_token (Operation kind) = true
has_own_token BeginRegion = true
has_own_token EndRegion = true
has_own_token Label = true
has_own_token Argument = true
has_own_token (Begin sort kind) = true
has_own_token (Leaf sort) = true
has_own_token Operand = true
has_own_token BeginSuccessor = true
has_own_token _ = false

-- Each such action comes straight behind its token. At first a token may have been taken just now.
abbrev pub FollowTokens : Bool → List Event → Type 0
FollowTokens fresh [] = Unit {0}
FollowTokens fresh (Took ∷ es) = FollowTokens true es
FollowTokens fresh (Did a ∷ es) = MatchBool (has_own_token a) ((fresh ≡ true) × FollowTokens false es) (FollowTokens false es)

-- ---- what events have of themselves

-- the action names a value or a block: a block is named by its own label and by each edge to it
abbrev pub names_value_or_block : Action → Bool
names_value_or_block Result = true
names_value_or_block Argument = true
names_value_or_block Label = true
names_value_or_block Operand = true
names_value_or_block BeginSuccessor = true
names_value_or_block _ = false

-- Each name of a value or a block has a token of its own: before each action that names one a token is taken, behind the one
-- that names the one before. At first one may be there, that names none yet.
abbrev pub OwnTokens : Bool → List Event → Type 0
OwnTokens fresh [] = Unit {0}
OwnTokens fresh (Took ∷ es) = OwnTokens true es
OwnTokens fresh (Did a ∷ es) = MatchBool (names_value_or_block a) ((fresh ≡ true) × OwnTokens false es) (OwnTokens fresh es)
