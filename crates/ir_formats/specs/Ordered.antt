-- A test of rules on which the order of what is read rests, for each text of a grammar.
use Rattle.std.specs.Prelude.{◌≡◌, ℕ, ◌==◌, ◌&&◌, ◌||◌, not, List, [], ◌∷◌, ◌++◌, slice_index_or, Option, Some, None, Bool, true, false, if◌then◌else◌}
use Rattle.ir_grammar.specs.declared.grammar.Action.{Action}
use Rattle.ir_grammar.specs.declared.grammar.Symbol.{Symbol}
use Rattle.ir_grammar.specs.declared.grammar.Symbol.TheVariants.{Sign, Part, Act}
use Rattle.ir_grammar.specs.declared.grammar.Event.{Event}
use Rattle.ir_grammar.specs.declared.grammar.Event.TheVariants.{Took, Did}
use Rattle.ir_grammar.specs.declared.grammar.Grammar.{Grammar}
use Rattle.ir_grammar.specs.Grammar.{IsTextOf}
use Rattle.ir_formats.specs.Rules.{PlainRule}
use Rattle.ir_print.specs.declared.format.ValueSort.TheVariants as sorts
use Rattle.ir_grammar.specs.Nesting.{Position, at_root, behind_root_results, at_end, in_operation, in_operands, in_successor, in_region, in_header, in_argument, in_block, behind_results, in_value, in_list, in_item, in_choice, Move, goes_to, goes_in, goes_out, nowhere, move, Nests, has_own_token, FollowTokens}

-- ---- where what is read leads to

-- A position, and those behind what is begun around it, inner ones first.
pub record Standing : Type 0 where
  pub here : Position
  pub around : List Position

-- at a position with nothing around
abbrev pub alone : Position → Standing
alone p = record { here = p; around = [] }

-- what is begun ends, and reading goes on behind it
abbrev pub moved_out : List Position → Option Standing
moved_out [] = None
moved_out (next ∷ around) = Some (record { here = next; around = around })

-- where a move leads to, with these positions around
abbrev pub moved_by : Move → List Position → Option Standing
moved_by (goes_to next) around = Some (record { here = next; around = around })
moved_by (goes_in inner next) around = Some (record { here = inner; around = next ∷ around })
moved_by goes_out around = moved_out around
moved_by nowhere around = None

-- where an action leads to, if it has its place
abbrev pub moved : Option Standing → Action → Option Standing
moved None a = None
moved (Some s) a = moved_by (move s.here a) s.around

-- where an event leads to: taking a token leads nowhere else
abbrev pub passed : Option Standing → Event → Option Standing
passed s Took = s
passed s (Did a) = moved s a

-- where events lead to, one after the other, if each action has its place
abbrev pub passed_all : Option Standing → List Event → Option Standing
passed_all s [] = s
passed_all s (e ∷ es) = passed_all (passed s e) es

-- From one position with nothing around, what is done leads to the other with nothing around.
abbrev pub LeadsToPosition : Position → List Event → Position → Type 0
LeadsToPosition p es q = passed_all (Some (alone p)) es ≡ Some (alone q)

-- ---- the test

-- the number of a position
abbrev pub number_of_position : Position → ℕ
number_of_position at_root = 0
number_of_position behind_root_results = 1
number_of_position at_end = 2
number_of_position in_operation = 3
number_of_position in_operands = 4
number_of_position in_region = 5
number_of_position in_header = 6
number_of_position in_argument = 7
number_of_position in_block = 8
number_of_position behind_results = 9
number_of_position (in_value sorts.«Type») = 10
number_of_position (in_value sorts.Attribute) = 11
number_of_position in_list = 12
number_of_position in_item = 13
number_of_position in_successor = 14
number_of_position in_choice = 15

-- two positions are the same
abbrev pub is_same_position : Position → Position → Bool
is_same_position p q = number_of_position p == number_of_position q

-- What is known of the parts of a grammar: for each at which positions it may stand, and the position that it leads to from there.
abbrev pub PartPositions : Type 0
PartPositions = ℕ → List (Position × Position)

-- the first of the pairs that begins at a position says where it leads to
abbrev pub led_from : List (Position × Position) → Position → Option Position
led_from [] p = None
led_from (x ∷ xs) p = if is_same_position x.0 p then Some x.1 else led_from xs p

-- at another position, with the same around
abbrev pub placed : Option Position → List Position → Option Standing
placed None around = None
placed (Some p) around = Some (record { here = p; around = around })

-- where a part leads to: what it begins it ends
abbrev pub led : List (Position × Position) → Option Standing → Option Standing
led xs None = None
led xs (Some s) = placed (led_from xs s.here) s.around

-- where a symbol leads to
abbrev pub walked : PartPositions → Option Standing → Symbol → Option Standing
walked leads s (Sign k) = s
walked leads s (Part n) = led (leads n) s
walked leads s (Act a) = moved s a

-- where symbols lead to, one after the other
abbrev pub walked_all : PartPositions → Option Standing → List Symbol → Option Standing
walked_all leads s [] = s
walked_all leads s (x ∷ xs) = walked_all leads (walked leads s x) xs

-- at this position, with nothing around
abbrev pub is_alone_at : Position → List Position → Position → Bool
is_alone_at p [] q = is_same_position p q
is_alone_at p (x ∷ xs) q = false

abbrev pub is_alone : Option Standing → Position → Bool
is_alone None q = false
is_alone (Some s) q = is_alone_at s.here s.around q

-- from the first position of each pair the symbols lead to the second
abbrev pub lead_so : PartPositions → List (Position × Position) → List Symbol → Bool
lead_so leads [] ss = true
lead_so leads (x ∷ xs) ss = is_alone (walked_all leads (Some (alone x.0)) ss) x.1 && lead_so leads xs ss

-- Each action with a token of its own comes straight behind a sign. At first a sign may stand before.
abbrev pub follow_signs : Bool → List Symbol → Bool
follow_signs fresh [] = true
follow_signs fresh (Sign k ∷ ss) = follow_signs true ss
follow_signs fresh (Part n ∷ ss) = follow_signs false ss
follow_signs fresh (Act a ∷ ss) = (not (has_own_token a) || fresh) && follow_signs false ss

-- a rule leads to where its part is to lead, and its actions follow their tokens
abbrev pub is_rule_ordered : PartPositions → PlainRule → Bool
is_rule_ordered leads r = follow_signs false r.1 && lead_so leads (leads r.0) r.1

abbrev pub are_rules_ordered : PartPositions → List PlainRule → Bool
are_rules_ordered leads [] = true
are_rules_ordered leads (r ∷ rs) = is_rule_ordered leads r && are_rules_ordered leads rs

-- The rules are ordered, and part 0 leads from the root to the end.
abbrev pub is_ordered : PartPositions → List PlainRule → Bool
is_ordered leads rules = is_alone (led (leads 0) (Some (alone at_root))) at_end && are_rules_ordered leads rules

-- ---- the parts of each grammar

-- where a position stays as it is
abbrev pub stays : Position → Position × Position
stays p = (p, p)

-- where operations may stand, and where that leads to
abbrev pub operation_leads : List (Position × Position)
operation_leads = (at_root, at_end) ∷ stays in_block ∷ []

-- the same behind names of results
abbrev pub body_leads : List (Position × Position)
body_leads = (at_root, at_end) ∷ (behind_root_results, at_end) ∷ stays in_block ∷ (behind_results, in_block) ∷ []

-- where pieces of a text may stand that a format gives
abbrev pub piece_leads : List (Position × Position)
piece_leads = stays in_operation ∷ stays (in_value sorts.«Type») ∷ stays (in_value sorts.Attribute) ∷ stays in_item ∷ stays in_choice ∷ []

-- Parts 0 to 13, in their order: root, operation, more_results, body, region, blocks, block, arguments, more_arguments, argument,
-- operations, more_operations, type_part and attribute.
abbrev pub frame_leads : List (List (Position × Position))
frame_leads =
    ((at_root, at_end) ∷ [])
    ∷ operation_leads
    ∷ (stays behind_root_results ∷ stays behind_results ∷ [])
    ∷ body_leads
    ∷ (stays in_operation ∷ [])
    ∷ (stays in_region ∷ [])
    ∷ (stays in_region ∷ [])
    ∷ (stays in_header ∷ [])
    ∷ (stays in_header ∷ [])
    ∷ (stays in_header ∷ [])
    ∷ (stays in_block ∷ [])
    ∷ (stays in_block ∷ [])
    ∷ ((in_argument, in_header) ∷ piece_leads)
    ∷ piece_leads
    ∷ []

-- what stands in a list of operands
abbrev pub operands_leads : List (Position × Position)
operands_leads = stays in_operands ∷ []

-- what stands among the operands that an edge hands on
abbrev pub edge_leads : List (Position × Position)
edge_leads = stays in_successor ∷ []

-- what stands in a list of a format
abbrev pub list_leads : List (Position × Position)
list_leads = stays in_list ∷ []

-- With this of the parts of lists and choices, from 14 on. A list has two parts: its members, and what follows a member. So have the
-- operands of an edge. A choice has one, which stands where pieces do.
abbrev pub leads_with : List (List (Position × Position)) → PartPositions
leads_with lists n = slice_index_or (frame_leads ++ lists) n []

-- ---- what it tells

-- what reading did is in order
pub record IsInOrder (es : List Event) : Type 0 where
  -- each action has its place
  pub nests : Nests at_root [] es
  -- each action that is about a token comes straight behind it
  pub follows : FollowTokens false es

-- of each text of part 0 what reading does is in order, and ends where nothing is begun any more
abbrev pub OrdersTexts : Grammar → Type 0
OrdersTexts g = (ts : List ℕ) (es : List Event) → IsTextOf g 0 ts es → IsInOrder es × LeadsToPosition at_root es at_end
