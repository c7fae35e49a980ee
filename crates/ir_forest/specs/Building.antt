-- How far the trees of a text are built.
use Rattle.std.specs.Prelude.{ℕ, ◌+◌, ◌-◌, ◌==◌, List, [], ◌∷◌, ◌++◌, length, Option, Some, None, if◌then◌else◌}
use Rattle.std.specs.Option.{option_map}
use Rattle.ir_names.specs.Tree.{LabelledTree, Trees, node, no_tree, a_tree, join}
use Rattle.ir_print.specs.Pieces.{Values}
use Rattle.ir_grammar.specs.declared.grammar.Action.{Action}
use Rattle.ir_grammar.specs.declared.grammar.Action.TheVariants as act
use Rattle.ir_grammar.specs.declared.grammar.Event.{Event}
use Rattle.ir_grammar.specs.declared.grammar.Event.TheVariants.{Took, Did}
use Rattle.ir_tokens.specs.declared.faults.Fault.{Fault}
use Rattle.ir_tokens.specs.declared.faults.FaultKind.TheVariants as kinds
use Rattle.ir_forest.specs.Forest.{ActionSpan}
use Rattle.ir_forest.specs.Meaning.{pieces_in}
use Rattle.ir_forest.specs.ValueFaults.{refused, refusal_kind, piece_token, first_token}

-- What was begun and isn't ended: the action that began it, its token, and the trees that stood before it where it began.
pub record Open : Type 0 where
  pub action : Action
  pub first : ℕ
  pub before : Trees ActionSpan

-- The trees of what is open innermost, so far, and what is open, the innermost first.
pub record Built : Type 0 where
  pub here : Trees ActionSpan
  pub around : List Open

-- nothing is read
abbrev pub nothing_built : Built
nothing_built = record { here = no_tree; around = [] }

-- one more tree behind others
abbrev pub behind : Trees ActionSpan → LabelledTree ActionSpan → Trees ActionSpan
behind ts t = join ts (a_tree t no_tree)

-- the tree of what ends at a token
abbrev pub ended_tree : Open → Trees ActionSpan → ℕ → LabelledTree ActionSpan
ended_tree o ts last = node (record { action = o.action; first = o.first; last = last }) ts

-- what is open innermost ends at a token
abbrev pub with_end : Trees ActionSpan → List Open → ℕ → Built
with_end here [] last = record { here = here; around = [] }
with_end here (o ∷ os) last = record { here = behind o.before (ended_tree o here last); around = os }

-- something begins at a token
abbrev pub with_begin : Built → Action → ℕ → Built
with_begin b a k = record { here = no_tree; around = record { action = a; first = k; before = b.here } ∷ b.around }

-- an action that stands alone
abbrev pub with_leaf : Built → Action → ℕ → Built
with_leaf b a k = record { here = behind b.here (node (record { action = a; first = k; last = k }) no_tree); around = b.around }

-- what is built after an action at a token
abbrev pub after : Built → Action → ℕ → Built
after b act.Result k = with_leaf b act.Result k
after b (act.Operation kind) k = with_begin b (act.Operation kind) k
after b act.EndOperation k = with_end b.here b.around k
after b act.BeginRegion k = with_begin b act.BeginRegion k
after b act.EndRegion k = with_end b.here b.around k
after b act.Label k = with_begin b act.Label k
after b act.Argument k = with_leaf b act.Argument k
after b act.Header k = with_leaf b act.Header k
after b act.EndBlock k = with_end b.here b.around k
after b (act.Begin sort kind) k = with_begin b (act.Begin sort kind) k
after b (act.End sort) k = with_end b.here b.around k
after b (act.Leaf sort) k = with_leaf b (act.Leaf sort) k
after b act.BeginOperands k = with_begin b act.BeginOperands k
after b act.Operand k = with_leaf b act.Operand k
after b act.EndOperands k = with_end b.here b.around k
after b act.BeginSuccessor k = with_begin b act.BeginSuccessor k
after b act.EndSuccessor k = with_end b.here b.around k
after b act.BeginList k = with_begin b act.BeginList k
after b act.BeginItem k = with_begin b act.BeginItem k
after b act.EndItem k = with_end b.here b.around k
after b act.EndList k = with_end b.here b.around k
after b (act.BeginChoice n) k = with_begin b (act.BeginChoice n) k
after b act.EndChoice k = with_end b.here b.around k

-- what is built after events, so many tokens having been taken before
abbrev pub built_from : Built → ℕ → List Event → Built
built_from b n [] = b
built_from b n (Took ∷ es) = built_from b (n + 1) es
built_from b n (Did a ∷ es) = built_from (after b a (n - 1)) n es

-- what is built of a text
abbrev pub built : List Event → Built
built es = built_from nothing_built 0 es

-- ---- what is refused

-- names of results, with what comes behind them
abbrev pub with_name : List ℕ → Action → ℕ → List ℕ
with_name names act.Result k = names ++ k ∷ []
with_name names _ k = []

-- the names of results behind all other trees, these standing before
abbrev pub names_behind : List ℕ → Trees ActionSpan → List ℕ
names_behind names no_tree = names
names_behind names (a_tree (node s ts) rest) = names_behind (with_name names s.action s.first) rest

-- what ends is refused: for the part with this number, or at the end
abbrev pub refused_fault : Action → Trees ActionSpan → ℕ → ℕ → Fault
refused_fault a ts last i = record { kind = refusal_kind a; met = last; place = piece_token ts i last }

-- as many names as results, or a fault
abbrev pub names_fault : List ℕ → ℕ → ℕ → ℕ → Option Fault
names_fault names first many last = if length names == many then None
    else Some (record { kind = kinds.ResultNames; met = last; place = first_token names first })

-- the wrong number of names before what ends, if this is an operation
abbrev pub names_fault_of : Values → (ℕ → List ℕ) → Action → ℕ → Trees ActionSpan → Trees ActionSpan → ℕ → Option Fault
names_fault_of values text (act.Operation kind) first before ts last =
    names_fault (names_behind [] before) first (length (values.result_types kind (pieces_in values text ts))) last
names_fault_of values text _ first before ts last = None

-- the first of two, or else the second
abbrev pub or_else : Option Fault → Option Fault → Option Fault
or_else (Some f) other = Some f
or_else None other = other

-- the fault with which what is open innermost ends at a token
abbrev pub fault_at_end : Values → (ℕ → List ℕ) → Trees ActionSpan → List Open → ℕ → Option Fault
fault_at_end values text here [] last = None
fault_at_end values text here (o ∷ os) last = or_else (names_fault_of values text o.action o.first o.before here last)
    (option_map (refused_fault o.action here last) (refused values o.action (pieces_in values text here)))

-- whether an action ends something
abbrev pub fault_after : Values → (ℕ → List ℕ) → Built → Action → ℕ → Option Fault
fault_after values text b act.EndOperation k = fault_at_end values text b.here b.around k
fault_after values text b (act.End sort) k = fault_at_end values text b.here b.around k
fault_after values text b _ k = None

-- the first fault that is met at an end
abbrev pub first_refusal_from : Values → (ℕ → List ℕ) → Built → ℕ → List Event → Option Fault
first_refusal_from values text b n [] = None
first_refusal_from values text b n (Took ∷ es) = first_refusal_from values text b (n + 1) es
first_refusal_from values text b n (Did a ∷ es) =
    or_else (fault_after values text b a (n - 1)) (first_refusal_from values text (after b a (n - 1)) n es)

-- the first fault of the values of a text
abbrev pub first_refusal : Values → (ℕ → List ℕ) → List Event → Option Fault
first_refusal values text es = first_refusal_from values text nothing_built 0 es
