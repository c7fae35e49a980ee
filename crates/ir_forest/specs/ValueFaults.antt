-- Faults of the types, attributes and operations of a text.
use Rattle.std.specs.Prelude.{◌≡◌, ◌≢◌, ℕ, List, [], ◌∷◌, ◌++◌, map, length, slice_index_or, Option, Some, None}
use Rattle.ir_names.specs.Tree.{Trees, node, no_tree, a_tree}
use Rattle.ir_print.specs.Pieces.{Pieces, Values, refused_value}
use Rattle.ir_grammar.specs.declared.grammar.Action.{Action}
use Rattle.ir_grammar.specs.declared.grammar.Action.TheVariants as act
use Rattle.ir_grammar.specs.declared.grammar.Event.{Event}
use Rattle.ir_tokens.specs.declared.faults.Fault.{Fault}
use Rattle.ir_tokens.specs.declared.faults.FaultKind.{FaultKind}
use Rattle.ir_tokens.specs.declared.faults.FaultKind.TheVariants as kinds
use Rattle.ir_forest.specs.Forest.{Deed, deeds, ActionSpan, deeds_of, AreWhole, HasWholeTree}
use Rattle.ir_forest.specs.Meaning.{pieces_in}

-- the number of the first piece that is refused in what an action begins
abbrev pub refused : Values → Action → Pieces → Option ℕ
refused values (act.Begin sort kind) ps = refused_value values sort kind ps
refused values (act.Operation kind) ps = values.refused_operation kind ps
refused values _ ps = None

-- what is named of a value or an operation that is refused
abbrev pub refusal_kind : Action → FaultKind
refusal_kind (act.Operation kind) = kinds.OtherConstant
refusal_kind _ = kinds.Number

-- The tokens of a step's parts, these being those of the parts in it: a list, a member and one of several formats are but what is in
-- them, and other steps are parts themselves.
abbrev pub tokens_at : Action → ℕ → List ℕ → List ℕ
tokens_at act.BeginList first within = within
tokens_at act.BeginItem first within = within
tokens_at (act.BeginChoice n) first within = within
tokens_at _ first within = first ∷ []

-- the first tokens of the parts of a value or an operation, in their order
abbrev pub part_tokens : Trees ActionSpan → List ℕ
part_tokens no_tree = []
part_tokens (a_tree (node s ts) rest) = tokens_at s.action s.first (part_tokens ts) ++ part_tokens rest

-- the token of the part with a number, or of the end (the last argument) where there are fewer
abbrev pub piece_token : Trees ActionSpan → ℕ → ℕ → ℕ
piece_token ts i last = slice_index_or (part_tokens ts) i last

-- nothing is refused in these steps, at any depth
abbrev pub AreSound : Values → (ℕ → List ℕ) → Trees ActionSpan → Type 0
AreSound values text no_tree = Unit {0}
AreSound values text (a_tree (node s ts) rest) =
    (refused values s.action (pieces_in values text ts) ≡ None) × AreSound values text ts × AreSound values text rest

-- A number is out of range, or an operation takes no such attribute: what it is in ends, and is refused for it, and nothing within that
-- is refused. It is placed there, or at the end where there is no such part.
abbrev pub HasNumberFault : Values → (ℕ → List ℕ) → List Event → Fault → Type 0
HasNumberFault values text es f = (s : ActionSpan) × (ts : Trees ActionSpan) × (i : ℕ)
    × HasWholeTree es (node s ts) × AreSound values text ts × (refused values s.action (pieces_in values text ts) ≡ Some i)
    × (f ≡ record { kind = refusal_kind s.action; met = s.last; place = piece_token ts i s.last })

-- names of results, at these tokens
abbrev pub results : List ℕ → List Deed
results ks = map (λ k. (act.Result, k)) ks

-- the last of these deeds names a result
abbrev pub EndsInResult : List Deed → Type 0
EndsInResult ds = (front : List Deed) × (k : ℕ) × (ds ≡ front ++ (act.Result, k) ∷ [])

-- the first token of an operation whose results have these names
abbrev pub first_token : List ℕ → ℕ → ℕ
first_token [] first = first
first_token (k ∷ ks) first = k

-- An operation has more or fewer results than names before it. This is met at its end, and placed where it begins.
abbrev pub HasNamesFault : Values → (ℕ → List ℕ) → List Event → Fault → Type 0
HasNamesFault values text es f = (names : List ℕ) × (kind : ℕ) × (s : ActionSpan) × (ts : Trees ActionSpan) × (before : List Deed) × (after : List Deed)
    × AreWhole (a_tree (node s ts) no_tree)
    × (deeds es ≡ before ++ (results names ++ (deeds_of (node s ts) ++ after))) × (EndsInResult before → ⊥)
    × (s.action ≡ act.Operation kind) × (length names ≢ length (values.result_types kind (pieces_in values text ts)))
    × (f ≡ record { kind = kinds.ResultNames; met = s.last; place = first_token names s.first })
