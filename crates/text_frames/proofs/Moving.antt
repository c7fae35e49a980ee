-- Where an action leads to, by the action.
use Rattle.std.proofs.Common.{◌≡◌, ℕ, List, [], ◌∷◌, Some, Bool, true, false, refl, sym, subst, ◌⊎◌, inl, inr}
use Rattle.std.specs.Prelude.{◌==◌, if◌then◌else◌}
use Rattle.ir_names.specs.declared.kinds.Signedness.{Signedness}
use Rattle.ir_names.specs.declared.kinds.Signedness.TheVariants.{Signless, Signed, Unsigned}
use Rattle.ir_print.specs.Pieces.{number, width}
use Rattle.ir_grammar.specs.declared.grammar.Action.TheVariants as act
use Rattle.ir_forest.specs.Identifiers.{IsSpelt}
use Rattle.ir_forest.specs.Meaning.{digits, leaf_in, number_in, width_in, tail}
use Rattle.ir_grammar.specs.Nesting.{Position, at_root, behind_root_results, at_end, in_operation, in_operands, in_successor, in_region, in_header, in_argument, in_block, behind_results, in_value, in_list, in_item, in_choice, move}
use Rattle.ir_formats.specs.Ordered.{Standing, moved_by, moved_out}
use Rattle.text_frames.specs.Frames.{FrameSort, an_operation, some_operands, an_edge, a_region, a_block, a_type, an_attribute, a_list, an_item, a_choice, sort_at, TakesParts, EndsAt}
use Rattle.ir_print.specs.declared.format.LeafSort.{LeafSort}
use Rattle.ir_print.specs.declared.format.LeafSort.TheVariants as leaves
use Rattle.ir_print.specs.declared.format.ValueSort.TheVariants as sorts
use Rattle.text_frames.specs.Makes.{IsSpelled}
use Rattle.text_frames.proofs.Ended.{Hollow}

-- something of this sort begins, and behind it reading goes on in what is around it
pub record GoesIn (sort : FrameSort) (at : Position) (around : List Position) (next : Standing) : Type 0 where
  pub inner : Position
  pub outer : Position
  pub leads : record { here = inner; around = outer ∷ around } ≡ next
  pub stays : sort_at outer ≡ sort_at at
  pub is_sort : sort ≡ sort_at inner
  pub ends : EndsAt sort outer

-- reading goes on at another position in the same
pub record GoesTo (at : Position) (around : List Position) (next : Standing) : Type 0 where
  pub to : Position
  pub leads : record { here = to; around = around } ≡ next
  pub stays : sort_at to ≡ sort_at at

-- reading stays where parts are taken
pub record Stays (at : Position) (around : List Position) (next : Standing) : Type 0 where
  pub leads : record { here = at; around = around } ≡ next
  pub takes : TakesParts (sort_at at)

module _ (around : List Position) (next : Standing) where
  pub operation_begins : (p : Position) (n : ℕ) → moved_by (move p (act.Operation n)) around ≡ Some next → GoesIn an_operation p around next
  operation_begins at_root n h = record { inner = in_operation; outer = at_end; leads = cc; stays = refl; is_sort = refl; ends = tt }
  operation_begins behind_root_results n h = record { inner = in_operation; outer = at_end; leads = cc; stays = refl; is_sort = refl; ends = tt }
  operation_begins in_block n h = record { inner = in_operation; outer = in_block; leads = cc; stays = refl; is_sort = refl; ends = tt }
  operation_begins behind_results n h = record { inner = in_operation; outer = in_block; leads = cc; stays = refl; is_sort = refl; ends = tt }
  operation_begins _ n h = cc

  pub region_begins : (p : Position) → moved_by (move p act.BeginRegion) around ≡ Some next → GoesIn a_region p around next
  region_begins in_operation h = record { inner = in_region; outer = in_operation; leads = cc; stays = refl; is_sort = refl; ends = refl }
  region_begins _ h = cc

  pub block_begins : (p : Position) → moved_by (move p act.Label) around ≡ Some next → GoesIn a_block p around next
  block_begins in_region h = record { inner = in_header; outer = in_region; leads = cc; stays = refl; is_sort = refl; ends = refl }
  block_begins _ h = cc

  pub type_begins : (p : Position) (n : ℕ) → moved_by (move p (act.Begin sorts.«Type» n)) around ≡ Some next → GoesIn a_type p around next
  type_begins in_operation n h = record { inner = (in_value sorts.«Type»); outer = in_operation; leads = cc; stays = refl; is_sort = refl; ends = tt }
  type_begins (in_value sorts.«Type») n h = record { inner = (in_value sorts.«Type»); outer = (in_value sorts.«Type»); leads = cc; stays = refl; is_sort = refl; ends = tt }
  type_begins (in_value sorts.Attribute) n h = record { inner = (in_value sorts.«Type»); outer = (in_value sorts.Attribute); leads = cc; stays = refl; is_sort = refl; ends = tt }
  type_begins in_item n h = record { inner = (in_value sorts.«Type»); outer = in_item; leads = cc; stays = refl; is_sort = refl; ends = tt }
  type_begins in_choice n h = record { inner = (in_value sorts.«Type»); outer = in_choice; leads = cc; stays = refl; is_sort = refl; ends = tt }
  type_begins in_argument n h = record { inner = (in_value sorts.«Type»); outer = in_header; leads = cc; stays = refl; is_sort = refl; ends = tt }
  type_begins _ n h = cc

  pub attribute_begins : (p : Position) (n : ℕ) → moved_by (move p (act.Begin sorts.Attribute n)) around ≡ Some next → GoesIn an_attribute p around next
  attribute_begins in_operation n h = record { inner = (in_value sorts.Attribute); outer = in_operation; leads = cc; stays = refl; is_sort = refl; ends = tt }
  attribute_begins (in_value sorts.«Type») n h = record { inner = (in_value sorts.Attribute); outer = (in_value sorts.«Type»); leads = cc; stays = refl; is_sort = refl; ends = tt }
  attribute_begins (in_value sorts.Attribute) n h = record { inner = (in_value sorts.Attribute); outer = (in_value sorts.Attribute); leads = cc; stays = refl; is_sort = refl; ends = tt }
  attribute_begins in_item n h = record { inner = (in_value sorts.Attribute); outer = in_item; leads = cc; stays = refl; is_sort = refl; ends = tt }
  attribute_begins in_choice n h = record { inner = (in_value sorts.Attribute); outer = in_choice; leads = cc; stays = refl; is_sort = refl; ends = tt }
  attribute_begins _ n h = cc

  pub list_begins : (p : Position) → moved_by (move p act.BeginList) around ≡ Some next → GoesIn a_list p around next
  list_begins in_operation h = record { inner = in_list; outer = in_operation; leads = cc; stays = refl; is_sort = refl; ends = tt }
  list_begins (in_value sorts.«Type») h = record { inner = in_list; outer = (in_value sorts.«Type»); leads = cc; stays = refl; is_sort = refl; ends = tt }
  list_begins (in_value sorts.Attribute) h = record { inner = in_list; outer = (in_value sorts.Attribute); leads = cc; stays = refl; is_sort = refl; ends = tt }
  list_begins in_item h = record { inner = in_list; outer = in_item; leads = cc; stays = refl; is_sort = refl; ends = tt }
  list_begins in_choice h = record { inner = in_list; outer = in_choice; leads = cc; stays = refl; is_sort = refl; ends = tt }
  list_begins _ h = cc

  pub choice_begins : (p : Position) (n : ℕ) → moved_by (move p (act.BeginChoice n)) around ≡ Some next → GoesIn a_choice p around next
  choice_begins in_operation n h = record { inner = in_choice; outer = in_operation; leads = cc; stays = refl; is_sort = refl; ends = tt }
  choice_begins (in_value sorts.«Type») n h = record { inner = in_choice; outer = (in_value sorts.«Type»); leads = cc; stays = refl; is_sort = refl; ends = tt }
  choice_begins (in_value sorts.Attribute) n h = record { inner = in_choice; outer = (in_value sorts.Attribute); leads = cc; stays = refl; is_sort = refl; ends = tt }
  choice_begins in_item n h = record { inner = in_choice; outer = in_item; leads = cc; stays = refl; is_sort = refl; ends = tt }
  choice_begins in_choice n h = record { inner = in_choice; outer = in_choice; leads = cc; stays = refl; is_sort = refl; ends = tt }
  choice_begins _ n h = cc

  pub item_begins : (p : Position) → moved_by (move p act.BeginItem) around ≡ Some next → GoesIn an_item p around next
  item_begins in_list h = record { inner = in_item; outer = in_list; leads = cc; stays = refl; is_sort = refl; ends = refl }
  item_begins _ h = cc

  pub operands_begin : (p : Position) → moved_by (move p act.BeginOperands) around ≡ Some next → GoesIn some_operands p around next
  operands_begin in_operation h = record { inner = in_operands; outer = in_operation; leads = cc; stays = refl; is_sort = refl; ends = refl }
  operands_begin _ h = cc

  pub edge_begins : (p : Position) → moved_by (move p act.BeginSuccessor) around ≡ Some next → GoesIn an_edge p around next
  edge_begins in_operation h = record { inner = in_successor; outer = in_operation; leads = cc; stays = refl; is_sort = refl; ends = refl }
  edge_begins _ h = cc

  pub leaf_stays : (p : Position) (sort : LeafSort) → moved_by (move p (act.Leaf sort)) around ≡ Some next → Stays p around next
  leaf_stays in_operation sort h = record { leads = cc; takes = tt }
  leaf_stays (in_value sorts.«Type») sort h = record { leads = cc; takes = tt }
  leaf_stays (in_value sorts.Attribute) sort h = record { leads = cc; takes = tt }
  leaf_stays in_item sort h = record { leads = cc; takes = tt }
  leaf_stays in_choice sort h = record { leads = cc; takes = tt }
  leaf_stays _ sort h = cc

  pub result_goes : (p : Position) → moved_by (move p act.Result) around ≡ Some next → GoesTo p around next × Hollow (sort_at p)
  result_goes at_root h = (record { to = behind_root_results; leads = cc; stays = refl }, tt)
  result_goes behind_root_results h = (record { to = behind_root_results; leads = cc; stays = refl }, tt)
  result_goes in_block h = (record { to = behind_results; leads = cc; stays = refl }, tt)
  result_goes behind_results h = (record { to = behind_results; leads = cc; stays = refl }, tt)
  result_goes _ h = cc

  pub argument_goes : (p : Position) → moved_by (move p act.Argument) around ≡ Some next → GoesTo p around next × (sort_at p ≡ a_block)
  argument_goes in_header h = (record { to = in_argument; leads = cc; stays = refl }, refl)
  argument_goes _ h = cc

  pub header_goes : (p : Position) → moved_by (move p act.Header) around ≡ Some next → GoesTo p around next × (sort_at p ≡ a_block)
  header_goes in_header h = (record { to = in_block; leads = cc; stays = refl }, refl)
  header_goes _ h = cc

  -- operands stand among those of an operation, or among those that an edge hands on
  pub operand_goes : (p : Position) → moved_by (move p act.Operand) around ≡ Some next
      → GoesTo p around next × ((sort_at p ≡ some_operands) ⊎ (sort_at p ≡ an_edge))
  operand_goes in_operands h = (record { to = in_operands; leads = cc; stays = refl }, inl refl)
  operand_goes in_successor h = (record { to = in_successor; leads = cc; stays = refl }, inr refl)
  operand_goes _ h = cc

  -- an end leads behind what ends, which is of the sort that the action ends
  pub operation_out : (p : Position) → moved_by (move p act.EndOperation) around ≡ Some next → (moved_out around ≡ Some next) × (sort_at p ≡ an_operation)
  operation_out in_operation h = (h, refl)
  operation_out _ h = cc

  pub region_out : (p : Position) → moved_by (move p act.EndRegion) around ≡ Some next → (moved_out around ≡ Some next) × (sort_at p ≡ a_region)
  region_out in_region h = (h, refl)
  region_out _ h = cc

  pub block_out : (p : Position) → moved_by (move p act.EndBlock) around ≡ Some next → (moved_out around ≡ Some next) × (sort_at p ≡ a_block)
  block_out in_block h = (h, refl)
  block_out _ h = cc

  pub type_out : (p : Position) → moved_by (move p (act.End sorts.«Type»)) around ≡ Some next → (moved_out around ≡ Some next) × (sort_at p ≡ a_type)
  type_out (in_value sorts.«Type») h = (h, refl)
  type_out _ h = cc

  pub attribute_out : (p : Position) → moved_by (move p (act.End sorts.Attribute)) around ≡ Some next → (moved_out around ≡ Some next) × (sort_at p ≡ an_attribute)
  attribute_out (in_value sorts.Attribute) h = (h, refl)
  attribute_out _ h = cc

  pub operands_out : (p : Position) → moved_by (move p act.EndOperands) around ≡ Some next → (moved_out around ≡ Some next) × (sort_at p ≡ some_operands)
  operands_out in_operands h = (h, refl)
  operands_out _ h = cc

  pub edge_out : (p : Position) → moved_by (move p act.EndSuccessor) around ≡ Some next → (moved_out around ≡ Some next) × (sort_at p ≡ an_edge)
  edge_out in_successor h = (h, refl)
  edge_out _ h = cc

  pub item_out : (p : Position) → moved_by (move p act.EndItem) around ≡ Some next → (moved_out around ≡ Some next) × (sort_at p ≡ an_item)
  item_out in_item h = (h, refl)
  item_out _ h = cc

  pub choice_out : (p : Position) → moved_by (move p act.EndChoice) around ≡ Some next → (moved_out around ≡ Some next) × (sort_at p ≡ a_choice)
  choice_out in_choice h = (h, refl)
  choice_out _ h = cc

  pub list_out : (p : Position) → moved_by (move p act.EndList) around ≡ Some next → (moved_out around ≡ Some next) × (sort_at p ≡ a_list)
  list_out in_list h = (h, refl)
  list_out _ h = cc

-- ---- single tokens

number_by : (b : Bool) (m n : ℕ) → (negative : Bool) × (magnitude : ℕ) × ((if b then number true m else number false n) ≡ number negative magnitude)
number_by true m n = (true, m, refl)
number_by false m n = (false, n, refl)

-- what a number token says is a number
pub is_number : (cs : List ℕ) → (negative : Bool) × (magnitude : ℕ) × (number_in cs ≡ number negative magnitude)
is_number [] = (false, 0, refl)
is_number (c ∷ cs) = number_by (c == 45) (digits cs) (digits (c ∷ cs))

width_by : (b d : Bool) (l m n : ℕ) → (sign : Signedness) × (bits : ℕ) × ((if b then width Signed l else (if d then width Unsigned m else width Signless n)) ≡ width sign bits)
width_by true d l m n = (Signed, l, refl)
width_by false true l m n = (Unsigned, m, refl)
width_by false false l m n = (Signless, n, refl)

-- what a width token says is a width
pub is_width : (cs : List ℕ) → (sign : Signedness) × (bits : ℕ) × (width_in cs ≡ width sign bits)
is_width [] = (Signless, 0, refl)
is_width (c ∷ cs) = width_by (c == 115) (c == 117) (digits (tail cs)) (digits (tail cs)) (digits cs)

-- what is said by a token that is spelt as a leaf of a sort asks
pub spelt_leaf : (sort : LeafSort) (cs : List ℕ) → IsSpelt (act.Leaf sort) cs → IsSpelled (leaf_in sort cs)
spelt_leaf leaves.Name cs h = h
spelt_leaf leaves.Number cs h = subst IsSpelled (sym (is_number cs).2) tt
spelt_leaf leaves.Digits cs h = tt
spelt_leaf leaves.Width cs h = subst IsSpelled (sym (is_width cs).2) tt
spelt_leaf leaves.Text cs h = tt
spelt_leaf leaves.Mark cs h = tt
