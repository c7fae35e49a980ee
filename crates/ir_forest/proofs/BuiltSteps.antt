-- What is built after each deed.
use Rattle.std.proofs.Common.{◌≡◌, ℕ, ◌+◌, ◌-◌, true, false, List, [], ◌∷◌, Option, Some, None, refl, sym, subst, ap, ◌∙◌, ◌⊎◌, inl, inr}
use Rattle.ir_names.specs.Tree.{Trees}
use Rattle.ir_grammar.specs.declared.grammar.Action.{Action}
use Rattle.ir_grammar.specs.declared.grammar.Action.TheVariants.{Result, Operation, EndOperation, BeginRegion, EndRegion, Label, Argument, Header, EndBlock, Begin, End, Leaf, BeginOperands, Operand, EndOperands, BeginSuccessor, EndSuccessor, BeginList, BeginItem, EndItem, EndList, BeginChoice, EndChoice}
use Rattle.ir_grammar.specs.declared.grammar.Event.{Event}
use Rattle.ir_grammar.specs.declared.grammar.Event.TheVariants.{Took, Did}
use Rattle.ir_forest.specs.Forest.{end_of, is_end, Deed, deeds_from, ActionSpan}
use Rattle.ir_grammar.specs.Nesting.{Position, at_root, behind_root_results, at_end, in_operation, in_operands, in_successor, in_region, in_header, in_argument, in_block, behind_results, in_value, in_list, in_item, in_choice, Move, goes_to, goes_in, goes_out, nowhere, move, piece_move, Nests, NestsBy}
use Rattle.ir_forest.specs.Building.{Open, Built, behind, ended_tree, with_end, with_begin, with_leaf, after, built_from}
use Rattle.ir_print.specs.declared.format.ValueSort.TheVariants as sorts
use Rattle.ir_forest.specs.Progress.{run}

-- ---- what actions are

-- an action stands alone, begins something or ends something
pub data Sort : Type 0 where
  alone opening closing : Sort

abbrev pub sort_of : Action → Sort
sort_of Result = alone
sort_of (Operation kind) = opening
sort_of EndOperation = closing
sort_of BeginRegion = opening
sort_of EndRegion = closing
sort_of Label = opening
sort_of Argument = alone
sort_of Header = alone
sort_of EndBlock = closing
sort_of (Begin sort kind) = opening
sort_of (End sort) = closing
sort_of (Leaf sort) = alone
sort_of BeginOperands = opening
sort_of Operand = alone
sort_of EndOperands = closing
sort_of BeginSuccessor = opening
sort_of EndSuccessor = closing
sort_of BeginList = opening
sort_of BeginItem = opening
sort_of EndItem = closing
sort_of EndList = closing
sort_of (BeginChoice n) = opening
sort_of EndChoice = closing

abbrev pub after_by : Sort → Built → Action → ℕ → Built
after_by alone b a k = with_leaf b a k
after_by opening b a k = with_begin b a k
after_by closing b a k = with_end b.here b.around k

pub after_is : (a : Action) (b : Built) (k : ℕ) → after b a k ≡ after_by (sort_of a) b a k
after_is Result b k = refl
after_is _ b k = refl

-- an action of a sort begins something, or not
abbrev pub EndsBy : Sort → Action → Type 0
EndsBy alone a = (end_of a ≡ None) × (is_end a ≡ false)
EndsBy opening a = (x : Action) × (end_of a ≡ Some x)
EndsBy closing a = (end_of a ≡ None) × (is_end a ≡ true)

pub ends_by : (a : Action) → EndsBy (sort_of a) a
ends_by Result = (refl, refl)
ends_by Argument = (refl, refl)
ends_by Header = (refl, refl)
ends_by (Leaf sort) = (refl, refl)
ends_by Operand = (refl, refl)
ends_by EndOperation = (refl, refl)
ends_by EndRegion = (refl, refl)
ends_by EndBlock = (refl, refl)
ends_by (End sort) = (refl, refl)
ends_by EndOperands = (refl, refl)
ends_by EndSuccessor = (refl, refl)
ends_by EndItem = (refl, refl)
ends_by EndList = (refl, refl)
ends_by EndChoice = (refl, refl)
ends_by _ = (_, refl)

-- what ends something is a closing action
pub end_sort : (x a : Action) → end_of x ≡ Some a → sort_of a ≡ closing
end_sort (Operation kind) a h = let e : EndOperation ≡ a = cc in rw (← e)
end_sort BeginRegion a h = let e : EndRegion ≡ a = cc in rw (← e)
end_sort Label a h = let e : EndBlock ≡ a = cc in rw (← e)
end_sort (Begin sort kind) a h = let e : End sort ≡ a = cc in rw (← e)
end_sort BeginOperands a h = let e : EndOperands ≡ a = cc in rw (← e)
end_sort BeginSuccessor a h = let e : EndSuccessor ≡ a = cc in rw (← e)
end_sort BeginList a h = let e : EndList ≡ a = cc in rw (← e)
end_sort BeginItem a h = let e : EndItem ≡ a = cc in rw (← e)
end_sort (BeginChoice n) a h = let e : EndChoice ≡ a = cc in rw (← e)
end_sort _ a h = cc

-- ---- where reading is, and what is open

-- the action that ends what a position is in
abbrev pub end_at : Position → Option Action
end_at at_root = None
end_at behind_root_results = None
end_at at_end = None
end_at in_operation = Some EndOperation
end_at in_operands = Some EndOperands
end_at in_successor = Some EndSuccessor
end_at in_region = Some EndRegion
end_at in_header = Some EndBlock
end_at in_argument = Some EndBlock
end_at in_block = Some EndBlock
end_at behind_results = Some EndBlock
end_at (in_value sort) = Some (End sort)
end_at in_list = Some EndList
end_at in_item = Some EndItem
end_at in_choice = Some EndChoice

-- where reading may be behind an operation, and behind a block
abbrev pub Behind : Option Action → Position → Type 0
Behind (Some EndOperation) p = (p ≡ in_block) ⊎ (p ≡ at_end)
Behind (Some EndBlock) p = p ≡ in_region
Behind _ p = Unit {0}

-- what a move says of positions and of the action
abbrev pub Says : Position → Action → Move → Type 0
Says p a (goes_to q) = (sort_of a ≡ alone) × (end_at q ≡ end_at p)
Says p a (goes_in i q) = (sort_of a ≡ opening) × (end_at q ≡ end_at p) × (end_of a ≡ end_at i) × Behind (end_at i) q
Says p a goes_out = (sort_of a ≡ closing) × (end_at p ≡ Some a)
Says p a nowhere = Unit {0}

piece_says : (p : Position) (a : Action) → Says p a (piece_move p a)
piece_says p (Leaf sort) = (refl, refl)
piece_says p (Begin sort kind) = (refl, refl, refl, tt)
piece_says p BeginList = (refl, refl, refl, tt)
piece_says p (BeginChoice n) = (refl, refl, refl, tt)
piece_says p _ = tt

operation_says : (a : Action) → Says in_operation a (move in_operation a)
operation_says EndOperation = (refl, refl)
operation_says BeginRegion = (refl, refl, refl, tt)
operation_says BeginOperands = (refl, refl, refl, tt)
operation_says BeginSuccessor = (refl, refl, refl, tt)
operation_says a = piece_says in_operation a

operands_says : (a : Action) → Says in_operands a (move in_operands a)
operands_says EndOperands = (refl, refl)
operands_says Operand = (refl, refl)
operands_says _ = tt

successor_says : (a : Action) → Says in_successor a (move in_successor a)
successor_says EndSuccessor = (refl, refl)
successor_says Operand = (refl, refl)
successor_says _ = tt

region_says : (a : Action) → Says in_region a (move in_region a)
region_says EndRegion = (refl, refl)
region_says Label = (refl, refl, refl, refl)
region_says _ = tt

header_says : (a : Action) → Says in_header a (move in_header a)
header_says Argument = (refl, refl)
header_says Header = (refl, refl)
header_says _ = tt

argument_says : (a : Action) → Says in_argument a (move in_argument a)
argument_says (Begin sorts.«Type» kind) = (refl, refl, refl, tt)
argument_says _ = tt

block_says : (a : Action) → Says in_block a (move in_block a)
block_says EndBlock = (refl, refl)
block_says Result = (refl, refl)
block_says (Operation kind) = (refl, refl, refl, inl refl)
block_says _ = tt

results_says : (a : Action) → Says behind_results a (move behind_results a)
results_says Result = (refl, refl)
results_says (Operation kind) = (refl, refl, refl, inl refl)
results_says _ = tt

root_says : (a : Action) → Says at_root a (move at_root a)
root_says Result = (refl, refl)
root_says (Operation kind) = (refl, refl, refl, inr refl)
root_says _ = tt

root_results_says : (a : Action) → Says behind_root_results a (move behind_root_results a)
root_results_says Result = (refl, refl)
root_results_says (Operation kind) = (refl, refl, refl, inr refl)
root_results_says _ = tt

type_says : (a : Action) → Says (in_value sorts.«Type») a (move (in_value sorts.«Type») a)
type_says (End sorts.«Type») = (refl, refl)
type_says a = piece_says (in_value sorts.«Type») a

attribute_says : (a : Action) → Says (in_value sorts.Attribute) a (move (in_value sorts.Attribute) a)
attribute_says (End sorts.Attribute) = (refl, refl)
attribute_says a = piece_says (in_value sorts.Attribute) a

item_says : (a : Action) → Says in_item a (move in_item a)
item_says EndItem = (refl, refl)
item_says a = piece_says in_item a

choice_says : (a : Action) → Says in_choice a (move in_choice a)
choice_says EndChoice = (refl, refl)
choice_says a = piece_says in_choice a

list_says : (a : Action) → Says in_list a (move in_list a)
list_says EndList = (refl, refl)
list_says BeginItem = (refl, refl, refl, tt)
list_says _ = tt

pub says : (p : Position) (a : Action) → Says p a (move p a)
says at_root a = root_says a
says behind_root_results a = root_results_says a
says at_end a = tt
says in_operation a = operation_says a
says in_operands a = operands_says a
says in_successor a = successor_says a
says in_region a = region_says a
says in_header a = header_says a
says in_argument a = argument_says a
says in_block a = block_says a
says behind_results a = results_says a
says (in_value sorts.«Type») a = type_says a
says (in_value sorts.Attribute) a = attribute_says a
says in_list a = list_says a
says in_item a = item_says a
says in_choice a = choice_says a

-- ---- reading by deeds

abbrev pub Follows : Position → List Position → List Deed → Type 0
Follows p ps [] = Unit {0}
Follows p ps (d ∷ ds) = NestsBy (move p d.0) ps (λ q qs. Follows q qs ds)

-- more of what comes behind a move
pub by_move : {X Y : Position → List Position → Type 0} (m : Move) (ps : List Position) → ((q : Position) (qs : List Position) → X q qs → Y q qs) → NestsBy m ps X → NestsBy m ps Y
by_move (goes_to q) ps f h = f q ps h
by_move (goes_in i q) ps f h = f i (q ∷ ps) h
by_move goes_out [] f h = absurd h
by_move goes_out (q ∷ ps) f h = f q ps h
by_move nowhere ps f h = absurd h

pub nests_deeds : (es : List Event) (p : Position) (ps : List Position) (n : ℕ) → Nests p ps es → Follows p ps (deeds_from n es)
nests_deeds [] p ps n h = tt
nests_deeds (Took ∷ es) p ps n h = nests_deeds es p ps (n + 1) h
nests_deeds (Did a ∷ es) p ps n h = by_move (move p a) ps (λ q qs h. nests_deeds es q qs n h) h

pub built_by_deeds : (es : List Event) (b : Built) (n : ℕ) → built_from b n es ≡ run b (deeds_from n es)
built_by_deeds [] b n = refl
built_by_deeds (Took ∷ es) b n = built_by_deeds es b (n + 1)
built_by_deeds (Did a ∷ es) b n = built_by_deeds es (after b a (n - 1)) n

-- what is open fits the position and those behind it
abbrev pub Fits : Option Action → List Position → List Open → Type 0
Fits e [] [] = e ≡ None
Fits e [] (o ∷ os) = ⊥
Fits e (q ∷ qs) [] = ⊥
Fits e (q ∷ qs) (o ∷ os) = (x : Action) × (end_of o.action ≡ Some x) × (e ≡ Some x) × Behind e q × Fits (end_at q) qs os

-- the three ways on
abbrev pub Alone : Built → Deed → Built → Type 0
Alone b d c = (sort_of d.0 ≡ alone) × (c ≡ with_leaf b d.0 d.1)

abbrev pub Opens : Built → Deed → Built → Type 0
Opens b d c = (sort_of d.0 ≡ opening) × (c ≡ with_begin b d.0 d.1)

abbrev pub ended : Trees ActionSpan → Open → List Open → ℕ → Built
ended here o os k = record { here = behind o.before (ended_tree o here k); around = os }

abbrev pub Closes : Built → Deed → Built → Type 0
Closes b d c = (o : Open) × (os : List Open) × (b.around ≡ o ∷ os) × (end_of o.action ≡ Some d.0) × (c ≡ ended b.here o os d.1)

pub step : (p : Position) (ps : List Position) (b : Built) (d : Deed) (ds : List Deed) → Fits (end_at p) ps b.around → NestsBy (move p d.0) ps (λ q qs. Follows q qs ds)
    → (q : Position) × (qs : List Position) × Fits (end_at q) qs (after b d.0 d.1).around × Follows q qs ds
    × (Alone b d (after b d.0 d.1) ⊎ (Opens b d (after b d.0 d.1) ⊎ Closes b d (after b d.0 d.1)))
step p ps b d ds fits f = go (move p d.0) ps b.around refl fits (says p d.0) f
  where
    is : (s : Sort) → sort_of d.0 ≡ s → after b d.0 d.1 ≡ after_by s b d.0 d.1
    is s e = subst (λ z. after b d.0 d.1 ≡ after_by z b d.0 d.1) e (after_is d.0 b d.1)

    go : (m : Move) (ps : List Position) (around : List Open) → b.around ≡ around → Fits (end_at p) ps around → Says p d.0 m → NestsBy m ps (λ q qs. Follows q qs ds)
        → (q : Position) × (qs : List Position) × Fits (end_at q) qs (after b d.0 d.1).around × Follows q qs ds
        × (Alone b d (after b d.0 d.1) ⊎ (Opens b d (after b d.0 d.1) ⊎ Closes b d (after b d.0 d.1)))
    go (goes_to q) ps around e fits s f =
        let now = is alone s.0 in
        (q, ps, subst (λ z. Fits z ps (after b d.0 d.1).around) (sym s.1) (subst (Fits (end_at p) ps) (sym e ∙ sym (ap (λ z. z.around) now)) fits), f, inl (s.0, now))
    go (goes_in i q) ps around e fits s f =
        let now = is opening s.0 in
        let x = subst (λ z. EndsBy z d.0) s.0 (ends_by d.0) in
        let opened : Open = record { action = d.0; first = d.1; before = b.here } in
        let there : Fits (end_at q) ps b.around = subst (λ z. Fits z ps b.around) (sym s.1) (subst (Fits (end_at p) ps) (sym e) fits) in
        let whole : Fits (end_at i) (q ∷ ps) (opened ∷ b.around) = (x.0, x.1, sym s.2 ∙ x.1, s.3, there) in
        (i, q ∷ ps, subst (Fits (end_at i) (q ∷ ps)) (sym (ap (λ z. z.around) now)) whole, f, inr (inl (s.0, now)))
    go goes_out [] around e fits s f = absurd f
    go goes_out (q ∷ qs) [] e fits s f = absurd fits
    go goes_out (q ∷ qs) (o ∷ os) e fits s f =
        let now : after b d.0 d.1 ≡ ended b.here o os d.1 = is closing s.0 ∙ ap (λ z. with_end b.here z d.1) e in
        let same : Some fits.0 ≡ Some d.0 = sym fits.2 ∙ s.1 in
        (q, qs, subst (Fits (end_at q) qs) (sym (ap (λ z. z.around) now)) fits.4, f, inr (inr (o, os, e, fits.1 ∙ same, now)))
    go nowhere ps around e fits s f = absurd f
