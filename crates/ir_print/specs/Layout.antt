-- How an operation is printed, whose values and blocks have these names: its layout.
use Rattle.std.specs.Prelude.{ℕ, zero, suc, ◌+◌, List, [], ◌∷◌, ◌++◌, Bool, true, false, map, take, drop, replicate, Option, Some, None, slice_get, codes, encode_utf8_all, ◌==◌, ◌||◌, if◌then◌else◌}
use Rattle.std.specs.Fmt.{decimal}
use Rattle.ir_names.specs.declared.kinds.Signedness.{Signedness}
use Rattle.ir_names.specs.declared.kinds.Signedness.TheVariants.{Signless, Signed, Unsigned}
use Rattle.ir_names.specs.Tree.{node, no_tree, a_tree}
use Rattle.ir_print.specs.Formats as step
use Rattle.ir_print.specs.Formats.{Formats, Kind, Step, Steps, no_steps, alternative, kinds_of}
use Rattle.ir_print.specs.declared.format.ValueSort.TheVariants as sorts
use Rattle.ir_print.specs.Pieces.{Leaf, name, number, unsigned, width, quoted, mark, value_of_kind, list, item, chosen, operands, successor, region, leaf, ValueTree, Pieces, EntityHead, operation, a_region, block, Entity, entity, Entities, no_entity, an_entity}

-- A part of a text: white space, a token, or a word as it is printed, with white space around it, and as it is read.
pub data Chunk : Type 0 where
  white : List ℕ → Chunk
  token : List ℕ → Chunk
  word : (printed text : List ℕ) → Chunk
  -- a text in quotes, by the characters that it says
  quotation : List ℕ → Chunk

-- characters as they stand between quotes: `"` (34) and `\` (92) have a `\` before them
abbrev pub escaped : List ℕ → List ℕ
escaped [] = []
escaped (c ∷ cs) = if c == 34 || c == 92 then 92 ∷ c ∷ escaped cs else c ∷ escaped cs

-- characters in quotes
abbrev pub in_quotes : List ℕ → List ℕ
in_quotes cs = 34 ∷ (escaped cs ++ 34 ∷ [])

-- The bytes of some chunks. A text in quotes is written as UTF-8 has its characters, and all others are ASCII.
abbrev pub spell : List Chunk → List ℕ
spell [] = []
spell (white cs ∷ rest) = cs ++ spell rest
spell (token cs ∷ rest) = cs ++ spell rest
spell (word printed text ∷ rest) = printed ++ spell rest
spell (quotation cs ∷ rest) = encode_utf8_all (in_quotes cs) ++ spell rest

-- a space
abbrev pub space : List ℕ
space = codes " "

-- the end of a line, and n spaces
abbrev pub line : ℕ → List ℕ
line n = 10 ∷ replicate n 32

-- a comma between two
abbrev pub comma : Chunk
comma = word (codes ", ") (codes ",")

-- ---- formats

-- what stands before a step of a format
pub data Before : Type 0 where
  an_id a_word a_part : Before

-- A word is set off from the id alone.
abbrev pub gap_of_word : Before → List ℕ
gap_of_word an_id = space
gap_of_word a_word = []
gap_of_word a_part = []

-- A part is set off from the id and from another part: words bring their own spaces.
abbrev pub gap_of_part : Before → List ℕ
gap_of_part an_id = space
gap_of_part a_word = []
gap_of_part a_part = space

-- how a part is printed at a step of a format, and then the rest
abbrev pub Printer : Type 0
Printer = Step → List Chunk → List Chunk

-- the word that a step is, as it is printed and as it is read
abbrev pub word_of : Step → Option (List ℕ × List ℕ)
word_of (step.word printed text) = Some (printed, text)
word_of _ = None

-- the next part, where there is one; nothing is printed for None
abbrev pub part_on : Before → Step → List (Option Printer) → (Before → List (Option Printer) → List Chunk) → List Chunk
part_on before s [] more = more before []
part_on before s (None ∷ ps) more = more before ps
part_on before s (Some p ∷ ps) more = white (gap_of_part before) ∷ p s (more a_part ps)

-- a word, or else the next part
abbrev pub step_on : Option (List ℕ × List ℕ) → Before → Step → List (Option Printer) → (Before → List (Option Printer) → List Chunk) → List Chunk
step_on (Some w) before s ps more = white (gap_of_word before) ∷ word w.0 w.1 ∷ more a_word ps
step_on None before s ps more = part_on before s ps more

-- what a format says, with these parts, one for each step that is no word
abbrev pub format_on : Before → Steps → List (Option Printer) → List Chunk → List Chunk
format_on before no_steps ps rest = rest
format_on before (step.step s ss) ps rest = step_on (word_of s) before s ps (λ b qs. format_on b ss qs rest)

-- the id of a kind, and what its format says
abbrev pub kind_on : Option Kind → List (Option Printer) → List Chunk → List Chunk
kind_on None ps rest = rest
kind_on (Some k) ps rest = token k.id ∷ format_on an_id k.format ps rest

-- ---- types and attributes

-- a width: `i`, `si` or `ui`, and the number of bits
abbrev pub width_text : Signedness → ℕ → List ℕ
width_text Signless bits = codes "i" ++ decimal bits
width_text Signed bits = codes "si" ++ decimal bits
width_text Unsigned bits = codes "ui" ++ decimal bits

-- a number, with `-` before it where it is negative
abbrev pub number_text : Bool → ℕ → List ℕ
number_text true magnitude = codes "-" ++ decimal magnitude
number_text false magnitude = decimal magnitude

-- a mark: `!`, and its number
abbrev pub mark_text : ℕ → List ℕ
mark_text n = codes "!" ++ decimal n

-- how a leaf is spelled
abbrev pub leaf_text : Leaf → List ℕ
leaf_text (name cs) = cs
leaf_text (number negative magnitude) = number_text negative magnitude
leaf_text (unsigned magnitude) = decimal magnitude
leaf_text (width sign bits) = width_text sign bits
leaf_text (quoted cs) = in_quotes cs
leaf_text (mark n) = mark_text n

-- the token of a leaf
abbrev pub leaf_chunk : Leaf → Chunk
leaf_chunk (quoted cs) = quotation cs
leaf_chunk x = token (leaf_text x)

-- the token of a leaf, with `@` before the name of a symbol
abbrev pub leaf_on : Step → Chunk → List Chunk → List Chunk
leaf_on step.symbol_name c rest = token (codes "@") ∷ c ∷ rest
leaf_on _ c rest = c ∷ rest

-- the word between two members of a list, as it is printed and as it is read
abbrev pub separator_of : Step → Chunk
separator_of (step.list_of member printed text) = word printed text
separator_of _ = white []

-- what a member of a list is
abbrev pub member_of : Step → Steps
member_of (step.list_of member printed text) = member
member_of _ = no_steps

-- the format with a number at a step, if it has one
abbrev pub alternative_of : Step → ℕ → Option Steps
alternative_of (step.choice_of cs) n = alternative cs n
alternative_of _ n = None

-- what a format says, if there is one: nothing stands before it
abbrev pub some_format_on : Option Steps → List (Option Printer) → List Chunk → List Chunk
some_format_on None ps rest = rest
some_format_on (Some ss) ps rest = format_on a_word ss ps rest

-- a part, where something is printed for it
abbrev pub some_on : Option Printer → Printer
some_on None s rest = rest
some_on (Some p) s rest = p s rest

-- members of a list behind another one
abbrev pub more_members_on : Step → List (Option Printer) → List Chunk → List Chunk
more_members_on s [] rest = rest
more_members_on s (p ∷ ps) rest = separator_of s ∷ some_on p s (more_members_on s ps rest)

-- the members of a list
abbrev pub members_on : Step → List (Option Printer) → List Chunk → List Chunk
members_on s [] rest = rest
members_on s (p ∷ ps) rest = some_on p s (more_members_on s ps rest)

abbrev mutual
  -- a type, an attribute, or a part of one
  pub piece_on : Formats → ValueTree → Printer
  piece_on f (node (value_of_kind sort n) ts) s rest = kind_on (slice_get (kinds_of f sort) n) (parts_on f ts) rest
  piece_on f (node list ts) s rest = members_on s (parts_on f ts) rest
  piece_on f (node item ts) s rest = format_on a_word (member_of s) (parts_on f ts) rest
  piece_on f (node (chosen n) ts) s rest = some_format_on (alternative_of s n) (parts_on f ts) rest
  piece_on f (node (operands n) ts) s rest = rest
  piece_on f (node (successor n) ts) s rest = rest
  piece_on f (node region ts) s rest = rest
  piece_on f (node (leaf x) ts) s rest = leaf_on s (leaf_chunk x) rest

  -- the parts of one
  pub parts_on : Formats → Pieces → List (Option Printer)
  parts_on f no_tree = []
  parts_on f (a_tree t ts) = Some (piece_on f t) ∷ parts_on f ts

-- a type
abbrev pub type_on : Formats → ValueTree → List Chunk → List Chunk
type_on f t rest = piece_on f t (step.a_value sorts.«Type») rest

-- ---- operations, regions and blocks

-- names behind another one
abbrev pub more_names_on : List (List ℕ) → List Chunk → List Chunk
more_names_on [] rest = rest
more_names_on (x ∷ xs) rest = comma ∷ token x ∷ more_names_on xs rest

-- names, with commas between them
abbrev pub names_on : List (List ℕ) → List Chunk → List Chunk
names_on [] rest = rest
names_on (x ∷ xs) rest = token x ∷ more_names_on xs rest

-- the results of an operation, and `=` behind them
abbrev pub results_on : List (List ℕ × ValueTree) → List Chunk → List Chunk
results_on [] rest = rest
results_on (r ∷ rs) rest = names_on (map (λ x. x.0) (r ∷ rs)) (word (codes " = ") (codes "=") ∷ rest)

-- names of operands, if there are any
abbrev pub operands_on : List (List ℕ) → Option Printer
operands_on [] = None
operands_on (x ∷ xs) = Some (λ s rest. names_on (x ∷ xs) rest)

-- the first of some regions
abbrev pub first_region_on : List (List Chunk → List Chunk) → Printer
first_region_on [] s rest = rest
first_region_on (r ∷ rs) s rest = r rest

-- An edge: `^`, the first of some labels, and in parentheses the names of the values that it hands on. Without a label there is none.
abbrev pub edge_on : (labels used : List (List ℕ)) → Printer
edge_on [] us s rest = rest
edge_on (l ∷ ls) us s rest = token (codes "^") ∷ token l ∷ token (codes "(") ∷ names_on us (token (codes ")") ∷ rest)

-- What an operation says, given its operands, the labels of the blocks that it may go on to, and how its regions are printed: pieces
-- take them one after the other.
abbrev pub all_parts_on : Formats → Pieces → (used labels : List (List ℕ)) → List (List Chunk → List Chunk) → List (Option Printer)
all_parts_on f no_tree us ls rs = []
all_parts_on f (a_tree (node (operands n) _) ts) us ls rs = operands_on (take n us) ∷ all_parts_on f ts (drop n us) ls rs
all_parts_on f (a_tree (node (successor n) _) ts) us ls rs = Some (edge_on ls (take n us)) ∷ all_parts_on f ts (drop n us) (drop 1 ls) rs
all_parts_on f (a_tree (node region _) ts) us ls rs = Some (first_region_on rs) ∷ all_parts_on f ts us ls (drop 1 rs)
all_parts_on f (a_tree t ts) us ls rs = Some (piece_on f t) ∷ all_parts_on f ts us ls rs

-- the head of an operation, and what it says
abbrev pub operation_head_on : Formats → EntityHead (List ℕ) → List (List Chunk → List Chunk) → List Chunk → List Chunk
operation_head_on f (operation kind results used successors pieces) rs rest = results_on results (kind_on (slice_get f.operations kind) (all_parts_on f pieces used successors rs) rest)
operation_head_on f _ rs rest = rest

-- an argument: its name, and its type
abbrev pub argument_on : Formats → List ℕ × ValueTree → List Chunk → List Chunk
argument_on f x rest = token x.0 ∷ word (codes ": ") (codes ":") ∷ type_on f x.1 rest

abbrev pub more_arguments_on : Formats → List (List ℕ × ValueTree) → List Chunk → List Chunk
more_arguments_on f [] rest = rest
more_arguments_on f (x ∷ xs) rest = comma ∷ argument_on f x (more_arguments_on f xs rest)

-- arguments, with commas between them
abbrev pub arguments_on : Formats → List (List ℕ × ValueTree) → List Chunk → List Chunk
arguments_on f [] rest = rest
arguments_on f (x ∷ xs) rest = argument_on f x (more_arguments_on f xs rest)

-- the head of a block: `^`, its label, its arguments in parentheses, and `:`
abbrev pub block_head_on : Formats → EntityHead (List ℕ) → List Chunk → List Chunk
block_head_on f (block named label arguments) rest = token (codes "^") ∷ token label ∷ token (codes "(") ∷ arguments_on f arguments (token (codes ")") ∷ token (codes ":") ∷ rest)
block_head_on f _ rest = rest

-- n is the indentation of the line that something begins on
abbrev mutual
  -- an operation
  pub operation_on : Formats → ℕ → Entity (List ℕ) → List Chunk → List Chunk
  operation_on f n (entity h ts) rest = operation_head_on f h (regions_on f n ts) rest

  -- the regions of an operation
  pub regions_on : Formats → ℕ → Entities (List ℕ) → List (List Chunk → List Chunk)
  regions_on f n no_entity = []
  regions_on f n (an_entity t ts) = region_on f n t ∷ regions_on f n ts

  -- a region: a line `{`, its blocks, 2 columns deeper, and a line `}`
  pub region_on : Formats → ℕ → Entity (List ℕ) → List Chunk → List Chunk
  region_on f n (entity h ts) rest = white (line n) ∷ token (codes "{") ∷ blocks_on f (n + 2) ts (white (line n) ∷ token (codes "}") ∷ rest)

  -- blocks, each from a new line on
  pub blocks_on : Formats → ℕ → Entities (List ℕ) → List Chunk → List Chunk
  blocks_on f n no_entity rest = rest
  blocks_on f n (an_entity t ts) rest = white (line n) ∷ block_on f n t (blocks_on f n ts rest)

  -- a block, and its operations, 2 columns deeper
  pub block_on : Formats → ℕ → Entity (List ℕ) → List Chunk → List Chunk
  block_on f n (entity h ts) rest = block_head_on f h (operations_on f (n + 2) ts rest)

  -- operations, each from a new line on, with `;` between them
  pub operations_on : Formats → ℕ → Entities (List ℕ) → List Chunk → List Chunk
  operations_on f n no_entity rest = rest
  operations_on f n (an_entity t ts) rest = white (line n) ∷ operation_on f n t (more_operations_on f n ts rest)

  pub more_operations_on : Formats → ℕ → Entities (List ℕ) → List Chunk → List Chunk
  more_operations_on f n no_entity rest = rest
  more_operations_on f n (an_entity t ts) rest = token (codes ";") ∷ white (line n) ∷ operation_on f n t (more_operations_on f n ts rest)

-- the layout of an operation with all that stands in it, as bytes
abbrev pub layout : Formats → Entity (List ℕ) → List ℕ
layout f t = spell (operation_on f 0 t [])

-- ---- depth

-- one level deeper, where there is one left
abbrev pub Deeper : ℕ → (ℕ → Type 0) → Type 0
Deeper zero P = ⊥
Deeper (suc d) P = P d

abbrev mutual
  -- at most so many types and attributes stand in one another
  pub IsFlat : ℕ → ValueTree → Type 0
  IsFlat d (node (value_of_kind sort n) ts) = Deeper d (λ e. AreFlat e ts)
  IsFlat d (node _ ts) = AreFlat d ts

  pub AreFlat : ℕ → Pieces → Type 0
  AreFlat d no_tree = Unit {0}
  AreFlat d (a_tree t ts) = IsFlat d t × AreFlat d ts

-- the types of arguments have at most so many in one another
abbrev pub AreFlatArguments : {N : Type 0} → ℕ → List (N × ValueTree) → Type 0
AreFlatArguments d [] = Unit {0}
AreFlatArguments d (x ∷ xs) = IsFlat d x.1 × AreFlatArguments d xs

-- the head has at most so many in one another
abbrev pub IsFlatHead : {N : Type 0} → ℕ → EntityHead N → Type 0
IsFlatHead d (operation kind results used successors pieces) = AreFlat d pieces
IsFlatHead d a_region = Unit {0}
IsFlatHead d (block named label arguments) = AreFlatArguments d arguments

-- how deep what stands in an entity may be, where so deep is what the entity is
abbrev pub InHead : {N : Type 0} → ℕ → EntityHead N → (ℕ → Type 0) → Type 0
InHead d a_region P = Deeper d P
InHead d _ P = P d

abbrev mutual
  -- at most so many regions, types and attributes stand in one another
  pub IsShallow : {N : Type 0} → ℕ → Entity N → Type 0
  IsShallow d (entity h ts) = IsFlatHead d h × InHead d h (λ e. AreShallow e ts)

  pub AreShallow : {N : Type 0} → ℕ → Entities N → Type 0
  AreShallow d no_entity = Unit {0}
  AreShallow d (an_entity t ts) = IsShallow d t × AreShallow d ts
