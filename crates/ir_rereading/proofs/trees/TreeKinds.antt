-- What stands in operations, regions and blocks of what was read.
use Rattle.std.proofs.Common.{◌≡◌, ℕ, true, false, List, [], ◌∷◌, ◌++◌, Option, Some, None, refl, sym, subst, ap, ◌∙◌}
use Rattle.std.proofs.lemmas.List.{append_assoc, append-nil}
use Rattle.ir_names.specs.Tree.{Trees, node, no_tree, a_tree}
use Rattle.ir_grammar.specs.declared.grammar.Action.{Action}
use Rattle.ir_grammar.specs.declared.grammar.Action.TheVariants.{Result, Operation, EndOperation, BeginRegion, EndRegion, Label, Argument, Header, Begin, End, Leaf, BeginOperands, Operand, BeginSuccessor, BeginList, BeginItem, EndItem, BeginChoice, EndChoice}
use Rattle.ir_grammar.specs.declared.grammar.Event.{Event}
use Rattle.ir_forest.specs.Forest.{end_of, is_end, Deed, deeds, ActionSpan, ending, deeds_in, IsWholeStep, AreWhole, IsForestOf}
use Rattle.ir_grammar.specs.Nesting.{Position, at_root, behind_root_results, at_end, in_operation, in_operands, in_successor, in_region, in_header, in_argument, in_block, behind_results, in_value, in_list, in_item, in_choice, Move, goes_to, goes_in, goes_out, nowhere, end_move, move, Nests, NestsBy}
use Rattle.ir_print.specs.declared.format.ValueSort.{ValueSort}
use Rattle.ir_print.specs.declared.format.ValueSort.TheVariants as sorts
use Rattle.ir_forest.proofs.BuiltSteps.{alone, opening, closing, sort_of, EndsBy, ends_by, end_sort, Says, says, Follows, nests_deeds}

-- What stands side by side: what an operation, a region or a block says, or pieces, among which no region and no edge begins.
pub data Content : Type 0 where
  of_pieces of_operation of_region of_block : Content

-- what an action begins there, if it may stand there
abbrev pub inside : Content → Action → Option Content
inside of_pieces (Operation kind) = None
inside of_pieces EndOperation = None
inside of_pieces BeginRegion = None
inside of_pieces EndRegion = None
inside of_pieces Label = None
inside of_pieces BeginSuccessor = None
inside of_pieces _ = Some of_pieces
inside of_operation (Operation kind) = None
inside of_operation EndOperation = None
inside of_operation BeginRegion = Some of_region
inside of_operation EndRegion = None
inside of_operation Label = None
inside of_operation _ = Some of_pieces
inside of_region Label = Some of_block
inside of_region _ = None
inside of_block (Operation kind) = Some of_operation
inside of_block EndOperation = None
inside of_block BeginRegion = None
inside of_block EndRegion = None
inside of_block Label = None
inside of_block BeginSuccessor = None
inside of_block _ = Some of_pieces

-- what stands at a position
abbrev pub content_at : Position → Content
content_at at_root = of_block
content_at behind_root_results = of_block
content_at at_end = of_block
content_at in_operation = of_operation
content_at in_operands = of_pieces
content_at in_successor = of_pieces
content_at in_region = of_region
content_at in_header = of_block
content_at in_argument = of_block
content_at in_block = of_block
content_at behind_results = of_block
content_at (in_value sort) = of_pieces
content_at in_list = of_pieces
content_at in_item = of_pieces
content_at in_choice = of_pieces

-- there is something, of which this holds
abbrev pub OnContent : Option Content → (Content → Type 0) → Type 0
OnContent None P = ⊥
OnContent (Some c) P = P c

-- each step has its place
abbrev pub AreOf : Content → Trees ActionSpan → Type 0
AreOf c no_tree = Unit {0}
AreOf c (a_tree (node s ts) rest) = OnContent (inside c s.action) (λ d. AreOf d ts) × AreOf c rest

-- what a move says of contents
abbrev Keeps : Position → Action → Move → Type 0
Keeps p a (goes_to q) = (content_at q ≡ content_at p) × (inside (content_at p) a ≡ Some of_pieces)
Keeps p a (goes_in i q) = (content_at q ≡ content_at p) × (inside (content_at p) a ≡ Some (content_at i))
Keeps p a goes_out = Unit {0}
Keeps p a nowhere = Unit {0}

-- pieces stand in operations, types, attributes, members and choices
operation_keeps : (a : Action) → Keeps in_operation a (move in_operation a)
operation_keeps EndOperation = tt
operation_keeps BeginRegion = (refl, refl)
operation_keeps BeginOperands = (refl, refl)
operation_keeps BeginSuccessor = (refl, refl)
operation_keeps (Leaf sort) = (refl, refl)
operation_keeps (Begin sort kind) = (refl, refl)
operation_keeps BeginList = (refl, refl)
operation_keeps (BeginChoice n) = (refl, refl)
operation_keeps _ = tt

end_keeps : (sort s : ValueSort) → Keeps (in_value sort) (End s) (end_move sort s)
end_keeps sorts.«Type» sorts.«Type» = tt
end_keeps sorts.«Type» sorts.Attribute = tt
end_keeps sorts.Attribute sorts.«Type» = tt
end_keeps sorts.Attribute sorts.Attribute = tt

value_keeps : (sort : ValueSort) (a : Action) → Keeps (in_value sort) a (move (in_value sort) a)
value_keeps sort (End s) = end_keeps sort s
value_keeps sort (Leaf s) = (refl, refl)
value_keeps sort (Begin s kind) = (refl, refl)
value_keeps sort BeginList = (refl, refl)
value_keeps sort (BeginChoice n) = (refl, refl)
value_keeps sort _ = tt

item_keeps : (a : Action) → Keeps in_item a (move in_item a)
item_keeps EndItem = tt
item_keeps (Leaf sort) = (refl, refl)
item_keeps (Begin sort kind) = (refl, refl)
item_keeps BeginList = (refl, refl)
item_keeps (BeginChoice n) = (refl, refl)
item_keeps _ = tt

choice_keeps : (a : Action) → Keeps in_choice a (move in_choice a)
choice_keeps EndChoice = tt
choice_keeps (Leaf sort) = (refl, refl)
choice_keeps (Begin sort kind) = (refl, refl)
choice_keeps BeginList = (refl, refl)
choice_keeps (BeginChoice n) = (refl, refl)
choice_keeps _ = tt

operands_keeps : (a : Action) → Keeps in_operands a (move in_operands a)
operands_keeps Operand = (refl, refl)
operands_keeps _ = tt

successor_keeps : (a : Action) → Keeps in_successor a (move in_successor a)
successor_keeps Operand = (refl, refl)
successor_keeps _ = tt

list_keeps : (a : Action) → Keeps in_list a (move in_list a)
list_keeps BeginItem = (refl, refl)
list_keeps _ = tt

region_keeps : (a : Action) → Keeps in_region a (move in_region a)
region_keeps Label = (refl, refl)
region_keeps _ = tt

header_keeps : (a : Action) → Keeps in_header a (move in_header a)
header_keeps Argument = (refl, refl)
header_keeps Header = (refl, refl)
header_keeps _ = tt

argument_keeps : (a : Action) → Keeps in_argument a (move in_argument a)
argument_keeps (Begin sorts.«Type» kind) = (refl, refl)
argument_keeps _ = tt

block_keeps : (a : Action) → Keeps in_block a (move in_block a)
block_keeps Result = (refl, refl)
block_keeps (Operation kind) = (refl, refl)
block_keeps _ = tt

results_keeps : (a : Action) → Keeps behind_results a (move behind_results a)
results_keeps Result = (refl, refl)
results_keeps (Operation kind) = (refl, refl)
results_keeps _ = tt

root_keeps : (a : Action) → Keeps at_root a (move at_root a)
root_keeps Result = (refl, refl)
root_keeps (Operation kind) = (refl, refl)
root_keeps _ = tt

root_results_keeps : (a : Action) → Keeps behind_root_results a (move behind_root_results a)
root_results_keeps Result = (refl, refl)
root_results_keeps (Operation kind) = (refl, refl)
root_results_keeps _ = tt

keeps : (p : Position) (a : Action) → Keeps p a (move p a)
keeps at_root a = root_keeps a
keeps behind_root_results a = root_results_keeps a
keeps at_end a = tt
keeps in_operation a = operation_keeps a
keeps in_operands a = operands_keeps a
keeps in_successor a = successor_keeps a
keeps in_region a = region_keeps a
keeps in_header a = header_keeps a
keeps in_argument a = argument_keeps a
keeps in_block a = block_keeps a
keeps behind_results a = results_keeps a
keeps (in_value sort) a = value_keeps sort a
keeps in_list a = list_keeps a
keeps in_item a = item_keeps a
keeps in_choice a = choice_keeps a

-- an end ends what is begun
out : (p : Position) (a : Action) (m : Move) (q : Position) (qs : List Position) (F : Position → List Position → Type 0) → Says p a m → sort_of a ≡ closing → NestsBy m (q ∷ qs) F → F q qs
out p a (goes_to r) q qs F s e h = let wrong : alone ≡ closing = sym s.0 ∙ e in cc
out p a (goes_in i r) q qs F s e h = let wrong : opening ≡ closing = sym s.0 ∙ e in cc
out p a goes_out q qs F s e h = h
out p a nowhere q qs F s e h = absurd h

-- trees that stand at a position, and what comes behind them
abbrev Stand : Trees ActionSpan → Position → List Position → List Deed → Type 0
Stand ts p ps more = AreOf (content_at p) ts × ((q : Position) × (content_at q ≡ content_at p) × Follows q ps more)

pub split_deeds : (is rest : Trees ActionSpan) (a : Action) (y : ℕ) (more : List Deed) → ((deeds_in is ++ (a, y) ∷ []) ++ deeds_in rest) ++ more ≡ deeds_in is ++ ((a, y) ∷ (deeds_in rest ++ more))
split_deeds is rest a y more =
    append_assoc (deeds_in is ++ (a, y) ∷ []) (deeds_in rest) more ∙ append_assoc (deeds_in is) ((a, y) ∷ []) (deeds_in rest ++ more)

stand_first : (a : Action) (y : ℕ) (is rest : Trees ActionSpan) (p : Position) (ps : List Position) (more : List Deed)
    → ((q : Position) (qs : List Position) (ds : List Deed) → Follows q qs (deeds_in is ++ ds) → Stand is q qs ds)
    → ((q : Position) (qs : List Position) → Follows q qs (deeds_in rest ++ more) → Stand rest q qs more)
    → (s : ActionSpan) → s.action ≡ a → (e : Option Action) → end_of a ≡ e → IsWholeStep e s is → (m : Move) → Says p a m → Keeps p a m
    → NestsBy m ps (λ q qs. Follows q qs (((deeds_in is ++ ending e y) ++ deeds_in rest) ++ more))
    → OnContent (inside (content_at p) a) (λ d. AreOf d is) × Stand rest p ps more
stand_first a y is rest p ps more inner next s at None e w (goes_to q) said kept f =
    let g : Follows q ps (deeds_in rest ++ more) = subst (λ ts. Follows q ps (((deeds_in ts ++ []) ++ deeds_in rest) ++ more)) w.2 f in
    let r = next q ps g in (
      subst (λ o. OnContent o (λ d. AreOf d is)) (sym kept.1) (subst (λ ts. AreOf of_pieces ts) (sym w.2) tt),
      (subst (λ c. AreOf c rest) kept.0 r.0, (r.1.0, r.1.1 ∙ kept.0, r.1.2)),
    )
stand_first a y is rest p ps more inner next s at (Some x) e w (goes_to q) said kept f =
    let none : end_of a ≡ None = (subst (λ z. EndsBy z a) said.0 (ends_by a)).0 in
    let wrong : None ≡ Some x = sym none ∙ e in cc
stand_first a y is rest p ps more inner next s at None e w (goes_in i q) said kept f =
    let some = subst (λ z. EndsBy z a) said.0 (ends_by a) in
    let wrong : None ≡ Some some.0 = sym e ∙ some.1 in cc
stand_first a y is rest p ps more inner next s at (Some x) e w (goes_in i q) said kept f =
    let r = inner i (q ∷ ps) ((x, y) ∷ (deeds_in rest ++ more)) (subst (λ ds. Follows i (q ∷ ps) ds) (split_deeds is rest x y more) f) in
    let g = out r.1.0 x (move r.1.0 x) q ps (λ z zs. Follows z zs (deeds_in rest ++ more)) (says r.1.0 x) (end_sort a x e) r.1.2 in
    let t = next q ps g in (
      subst (λ o. OnContent o (λ d. AreOf d is)) (sym kept.1) r.0,
      (subst (λ c. AreOf c rest) kept.0 t.0, (t.1.0, t.1.1 ∙ kept.0, t.1.2)),
    )
stand_first a y is rest p ps more inner next s at None e w goes_out said kept f =
    let end = subst (λ z. EndsBy z a) said.0 (ends_by a) in
    let wrong : true ≡ false = sym end.1 ∙ (ap is_end (sym at) ∙ w.0) in cc
stand_first a y is rest p ps more inner next s at (Some x) e w goes_out said kept f =
    let end = subst (λ z. EndsBy z a) said.0 (ends_by a) in
    let wrong : None ≡ Some x = sym end.0 ∙ e in cc
stand_first a y is rest p ps more inner next s at None e w nowhere said kept f = absurd f
stand_first a y is rest p ps more inner next s at (Some x) e w nowhere said kept f = absurd f

stand : (ts : Trees ActionSpan) → AreWhole ts → (p : Position) (ps : List Position) (more : List Deed) → Follows p ps (deeds_in ts ++ more) → Stand ts p ps more
stand no_tree w p ps more f = (tt, (p, refl, f))
stand (a_tree (node s is) rest) w p ps more f =
    let r = stand_first s.action s.last is rest p ps more (λ q qs ds g. stand is w.1 q qs ds g) (λ q qs g. stand rest w.2 q qs more g) s refl (end_of s.action) refl w.0 (move p s.action) (says p s.action) (keeps p s.action) f in
    ((r.0, r.1.0), r.1.1)

-- What was read is operations, each with what may stand in it.
pub forest_stands : (es : List Event) (ts : Trees ActionSpan) → Nests at_root [] es → IsForestOf es ts → AreOf of_block ts
forest_stands es ts h forest =
    let follows : Follows at_root [] (deeds es) = nests_deeds es at_root [] 0 h in
    (stand ts forest.0 at_root [] [] (subst (λ ds. Follows at_root [] ds) (forest.1 ∙ sym (append-nil (deeds_in ts))) follows)).0
