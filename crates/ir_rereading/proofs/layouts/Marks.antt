-- A layout with what reading it does.
use Rattle.std.proofs.Common.{◌≡◌, ℕ, ◌+◌, List, [], ◌∷◌, ◌++◌, Bool, true, map, take, drop, Option, Some, None, slice_get, codes}
use Rattle.ir_names.specs.Tree.{node, no_tree, a_tree}
use Rattle.ir_print.specs.Formats as step
use Rattle.ir_print.specs.Formats.{Formats, Kind, Step, Steps, no_steps, kinds_of}
use Rattle.ir_print.specs.Layout as layout
use Rattle.ir_print.specs.Layout.{Chunk, Before, an_id, a_word, a_part, gap_of_word, gap_of_part, space, line, word_of, member_of, alternative_of, leaf_text, leaf_chunk}
use Rattle.ir_print.specs.Pieces.{value_of_kind, list, item, chosen, operands, successor, region, Leaf, leaf, ValueTree, Pieces, EntityHead, operation, a_region, block, Entity, entity, Entities, no_entity, an_entity}
use Rattle.ir_print.specs.Shapes.{sort_of}
use Rattle.ir_grammar.specs.declared.grammar.Action.{Action}
use Rattle.ir_grammar.specs.declared.grammar.Action.TheVariants as act
use Rattle.ir_grammar.specs.declared.grammar.Event.{Event}
use Rattle.ir_grammar.specs.declared.grammar.Event.TheVariants.{Took, Did}
use Rattle.ir_tokens.specs.declared.tokens.TokenKind.{TokenKind}
use Rattle.ir_tokens.specs.declared.tokens.TokenKind.TheVariants as kinds
use Rattle.ir_names.specs.Text.{is_identifier}
use Rattle.ir_tokens.specs.Tokens.{is_letter, is_digit}
use Rattle.ir_formats.specs.Rules.{number_of}
use Rattle.ir_formats.specs.Words.{is_spelled, word_kind, shape_kind}
use Rattle.ir_forest.specs.Closed.{names_of}
use Rattle.std.specs.List.{list_any}
use Rattle.ir_print.specs.declared.format.ValueSort.TheVariants as sorts
use Rattle.std.specs.Prelude.{◌==◌, if◌then◌else◌, length}

-- a chunk, or an action
pub data Mark : Type 0 where
  white : List ℕ → Mark
  token : List ℕ → Mark
  word : (printed text : List ℕ) → Mark
  -- the token of a leaf
  one_leaf : Leaf → Mark
  did : Action → Mark

-- the chunks among marks
abbrev pub chunks : List Mark → List Chunk
chunks [] = []
chunks (white cs ∷ ms) = layout.white cs ∷ chunks ms
chunks (token cs ∷ ms) = layout.token cs ∷ chunks ms
chunks (word printed text ∷ ms) = layout.word printed text ∷ chunks ms
chunks (one_leaf x ∷ ms) = leaf_chunk x ∷ chunks ms
chunks (did a ∷ ms) = chunks ms

-- the characters of marks
abbrev pub characters : List Mark → List ℕ
characters [] = []
characters (white cs ∷ ms) = cs ++ characters ms
characters (token cs ∷ ms) = cs ++ characters ms
characters (word printed text ∷ ms) = printed ++ characters ms
characters (one_leaf x ∷ ms) = leaf_text x ++ characters ms
characters (did a ∷ ms) = characters ms

-- their tokens
abbrev pub tokens : List Mark → List (List ℕ)
tokens [] = []
tokens (white cs ∷ ms) = tokens ms
tokens (token cs ∷ ms) = cs ∷ tokens ms
tokens (word printed text ∷ ms) = text ∷ tokens ms
tokens (one_leaf x ∷ ms) = leaf_text x ∷ tokens ms
tokens (did a ∷ ms) = tokens ms

-- what reading them does
abbrev pub events : List Mark → List Event
events [] = []
events (white cs ∷ ms) = events ms
events (token cs ∷ ms) = Took ∷ events ms
events (word printed text ∷ ms) = Took ∷ events ms
events (one_leaf x ∷ ms) = Took ∷ events ms
events (did a ∷ ms) = Did a ∷ events ms

-- ---- formats

abbrev pub Marker : Type 0
Marker = Step → List Mark → List Mark

abbrev pub comma : Mark
comma = word (codes ", ") (codes ",")

abbrev pub part_on : Before → Step → List (Option Marker) → (Before → List (Option Marker) → List Mark) → List Mark
part_on before s [] more = more before []
part_on before s (None ∷ ps) more = did act.BeginOperands ∷ did act.EndOperands ∷ more before ps
part_on before s (Some p ∷ ps) more = white (gap_of_part before) ∷ p s (more a_part ps)

abbrev pub step_on : Option (List ℕ × List ℕ) → Before → Step → List (Option Marker) → (Before → List (Option Marker) → List Mark) → List Mark
step_on (Some w) before s ps more = white (gap_of_word before) ∷ word w.0 w.1 ∷ more a_word ps
step_on None before s ps more = part_on before s ps more

abbrev pub format_on : Before → Steps → List (Option Marker) → List Mark → List Mark
format_on before no_steps ps rest = rest
format_on before (step.step s ss) ps rest = step_on (word_of s) before s ps (λ b qs. format_on b ss qs rest)

-- the id of a kind, what begins behind it, what its format says, and what ends
abbrev pub kind_on : Option Kind → Action → Action → List (Option Marker) → List Mark → List Mark
kind_on None begins ends ps rest = rest
kind_on (Some k) begins ends ps rest = token k.id ∷ did begins ∷ format_on an_id k.format ps (did ends ∷ rest)

-- ---- types and attributes

-- a leaf
abbrev pub leaf_on : Step → Leaf → List Mark → List Mark
leaf_on step.symbol_name x rest = token (codes "@") ∷ one_leaf x ∷ did (act.Leaf (sort_of x)) ∷ rest
leaf_on _ x rest = one_leaf x ∷ did (act.Leaf (sort_of x)) ∷ rest

abbrev pub separator_of : Step → Mark
separator_of (step.list_of member printed text) = word printed text
separator_of _ = white []

-- what a format says, if there is one
abbrev pub some_format_on : Option Steps → List (Option Marker) → List Mark → List Mark
some_format_on None ps rest = rest
some_format_on (Some ss) ps rest = format_on a_word ss ps rest

abbrev pub some_on : Option Marker → Marker
some_on None s rest = rest
some_on (Some p) s rest = p s rest

abbrev pub more_members_on : Step → List (Option Marker) → List Mark → List Mark
more_members_on s [] rest = rest
more_members_on s (p ∷ ps) rest = separator_of s ∷ some_on p s (more_members_on s ps rest)

abbrev pub members_on : Step → List (Option Marker) → List Mark → List Mark
members_on s [] rest = rest
members_on s (p ∷ ps) rest = some_on p s (more_members_on s ps rest)

abbrev mutual
  pub piece_on : Formats → ValueTree → Marker
  piece_on f (node (value_of_kind sort n) ts) s rest = kind_on (slice_get (kinds_of f sort) n) (act.Begin sort n) (act.End sort) (parts_on f ts) rest
  piece_on f (node list ts) s rest = did act.BeginList ∷ members_on s (parts_on f ts) (did act.EndList ∷ rest)
  piece_on f (node item ts) s rest = did act.BeginItem ∷ format_on a_word (member_of s) (parts_on f ts) (did act.EndItem ∷ rest)
  piece_on f (node (chosen n) ts) s rest = did (act.BeginChoice n) ∷ some_format_on (alternative_of s n) (parts_on f ts) (did act.EndChoice ∷ rest)
  piece_on f (node (operands n) ts) s rest = rest
  piece_on f (node (successor n) ts) s rest = rest
  piece_on f (node region ts) s rest = rest
  piece_on f (node (leaf x) ts) s rest = leaf_on s x rest

  pub parts_on : Formats → Pieces → List (Option Marker)
  parts_on f no_tree = []
  parts_on f (a_tree t ts) = Some (piece_on f t) ∷ parts_on f ts

abbrev pub type_on : Formats → ValueTree → List Mark → List Mark
type_on f t rest = piece_on f t (step.a_value sorts.«Type») rest

-- ---- operations, regions and blocks

-- names behind another one, each with its action
abbrev pub more_names_on : Action → List (List ℕ) → List Mark → List Mark
more_names_on a [] rest = rest
more_names_on a (x ∷ xs) rest = comma ∷ token x ∷ did a ∷ more_names_on a xs rest

abbrev pub names_on : Action → List (List ℕ) → List Mark → List Mark
names_on a [] rest = rest
names_on a (x ∷ xs) rest = token x ∷ did a ∷ more_names_on a xs rest

abbrev pub results_on : List (List ℕ × ValueTree) → List Mark → List Mark
results_on [] rest = rest
results_on (r ∷ rs) rest = names_on act.Result (map (λ x. x.0) (r ∷ rs)) (word (codes " = ") (codes "=") ∷ rest)

abbrev pub operands_on : List (List ℕ) → Option Marker
operands_on [] = None
operands_on (x ∷ xs) = Some (λ s rest. did act.BeginOperands ∷ names_on act.Operand (x ∷ xs) (did act.EndOperands ∷ rest))

abbrev pub first_region_on : List (List Mark → List Mark) → Marker
first_region_on [] s rest = rest
first_region_on (r ∷ rs) s rest = r rest

-- an edge: its label, and the names of the values that it hands on
abbrev pub edge_on : (labels used : List (List ℕ)) → Marker
edge_on [] us s rest = rest
edge_on (l ∷ ls) us s rest =
    token (codes "^") ∷ token l ∷ did act.BeginSuccessor ∷ token (codes "(") ∷ names_on act.Operand us (token (codes ")") ∷ did act.EndSuccessor ∷ rest)

abbrev pub all_parts_on : Formats → Pieces → (used labels : List (List ℕ)) → List (List Mark → List Mark) → List (Option Marker)
all_parts_on f no_tree us ls rs = []
all_parts_on f (a_tree (node (operands n) _) ts) us ls rs = operands_on (take n us) ∷ all_parts_on f ts (drop n us) ls rs
all_parts_on f (a_tree (node (successor n) _) ts) us ls rs = Some (edge_on ls (take n us)) ∷ all_parts_on f ts (drop n us) (drop 1 ls) rs
all_parts_on f (a_tree (node region _) ts) us ls rs = Some (first_region_on rs) ∷ all_parts_on f ts us ls (drop 1 rs)
all_parts_on f (a_tree t ts) us ls rs = Some (piece_on f t) ∷ all_parts_on f ts us ls rs

abbrev pub operation_head_on : Formats → EntityHead (List ℕ) → List (List Mark → List Mark) → List Mark → List Mark
operation_head_on f (operation kind results used successors pieces) rs rest =
    results_on results (kind_on (slice_get f.operations kind) (act.Operation kind) act.EndOperation (all_parts_on f pieces used successors rs) rest)
operation_head_on f _ rs rest = rest

abbrev pub argument_on : Formats → List ℕ × ValueTree → List Mark → List Mark
argument_on f x rest = token x.0 ∷ did act.Argument ∷ word (codes ": ") (codes ":") ∷ type_on f x.1 rest

abbrev pub more_arguments_on : Formats → List (List ℕ × ValueTree) → List Mark → List Mark
more_arguments_on f [] rest = rest
more_arguments_on f (x ∷ xs) rest = comma ∷ argument_on f x (more_arguments_on f xs rest)

abbrev pub arguments_on : Formats → List (List ℕ × ValueTree) → List Mark → List Mark
arguments_on f [] rest = rest
arguments_on f (x ∷ xs) rest = argument_on f x (more_arguments_on f xs rest)

-- the head of a block, what is in it, and its end
abbrev pub block_head_on : Formats → EntityHead (List ℕ) → (List Mark → List Mark) → List Mark → List Mark
block_head_on f (block named label arguments) inner rest = token (codes "^") ∷ token label ∷ did act.Label ∷ token (codes "(")
    ∷ arguments_on f arguments (token (codes ")") ∷ token (codes ":") ∷ did act.Header ∷ inner (did act.EndBlock ∷ rest))
block_head_on f _ inner rest = inner rest

abbrev mutual
  pub operation_on : Formats → ℕ → Entity (List ℕ) → List Mark → List Mark
  operation_on f n (entity h ts) rest = operation_head_on f h (regions_on f n ts) rest

  pub regions_on : Formats → ℕ → Entities (List ℕ) → List (List Mark → List Mark)
  regions_on f n no_entity = []
  regions_on f n (an_entity t ts) = region_on f n t ∷ regions_on f n ts

  pub region_on : Formats → ℕ → Entity (List ℕ) → List Mark → List Mark
  region_on f n (entity h ts) rest = white (line n) ∷ token (codes "{") ∷ did act.BeginRegion ∷ blocks_on f (n + 2) ts (white (line n) ∷ token (codes "}") ∷ did act.EndRegion ∷ rest)

  pub blocks_on : Formats → ℕ → Entities (List ℕ) → List Mark → List Mark
  blocks_on f n no_entity rest = rest
  blocks_on f n (an_entity t ts) rest = white (line n) ∷ block_on f n t (blocks_on f n ts rest)

  pub block_on : Formats → ℕ → Entity (List ℕ) → List Mark → List Mark
  block_on f n (entity h ts) rest = block_head_on f h (operations_on f (n + 2) ts) rest

  pub operations_on : Formats → ℕ → Entities (List ℕ) → List Mark → List Mark
  operations_on f n no_entity rest = rest
  operations_on f n (an_entity t ts) rest = white (line n) ∷ operation_on f n t (more_operations_on f n ts rest)

  pub more_operations_on : Formats → ℕ → Entities (List ℕ) → List Mark → List Mark
  more_operations_on f n no_entity rest = rest
  more_operations_on f n (an_entity t ts) rest = token (codes ";") ∷ white (line n) ∷ operation_on f n t (more_operations_on f n ts rest)

-- the marks of a whole text, before its last line end
abbrev pub marks : Formats → Entity (List ℕ) → List Mark
marks f t = operation_on f 0 t []

-- ---- names

-- each is an identifier
abbrev pub AreIdentifiers : List (List ℕ) → Type 0
AreIdentifiers [] = Unit {0}
AreIdentifiers (x ∷ xs) = (is_identifier x ≡ true) × AreIdentifiers xs

-- the names in a head are identifiers, and a block has its name as its label
abbrev pub IsSpeltHead : EntityHead (List ℕ) → Type 0
IsSpeltHead (operation kind results used successors pieces) = AreIdentifiers (names_of results) × AreIdentifiers used × AreIdentifiers successors
IsSpeltHead a_region = Unit {0}
IsSpeltHead (block named label arguments) = (label ≡ named) × (is_identifier label ≡ true) × AreIdentifiers (names_of arguments)

abbrev mutual
  -- the same of all heads in an entity
  pub IsSpelt : Entity (List ℕ) → Type 0
  IsSpelt (entity h ts) = IsSpeltHead h × AreSpelt ts

  pub AreSpelt : Entities (List ℕ) → Type 0
  AreSpelt no_entity = Unit {0}
  AreSpelt (an_entity t ts) = IsSpelt t × AreSpelt ts

-- ---- kinds of tokens

-- there is a `.` (46)
abbrev pub has_dot : List ℕ → Bool
has_dot cs = list_any (λ c. c == 46) cs

-- behind a `-`: `->`, or a number
abbrev pub behind_minus : List ℕ → TokenKind
behind_minus [] = kinds.Negative
behind_minus (c ∷ cs) = if c == 62 then kinds.Arrow else kinds.Negative

-- the kind of what begins with a character that is no letter, no digit and no `-`: a text in quotes, a mark (`!` is 33), or a sign
abbrev pub other_kind : ℕ → TokenKind
other_kind c = if c == 34 then kinds.Text else (if c == 33 then kinds.Mark else kinds.Sign c)

-- the kind of a token with these characters, as layouts have them
abbrev pub kind_of_text : List ℕ → TokenKind
kind_of_text [] = kinds.Bad
kind_of_text (c ∷ cs) = if is_letter c then (if has_dot cs then kinds.Dotted else kinds.Name)
    else (if is_digit c then kinds.Digits else (if c == 45 then behind_minus cs else other_kind c))

-- its kind in a grammar with these words
abbrev pub kind_by : List (List ℕ) → List ℕ → ℕ
kind_by ws cs = if is_spelled (kind_of_text cs) then word_kind (number_of ws cs) (length ws) (shape_kind (kind_of_text cs) cs) else shape_kind (kind_of_text cs) cs
