-- The texts of a tree, and which formats are printed so that they can be read.
use Rattle.std.specs.Prelude.{◌≡◌, ℕ, ◌^◌, ◌<◌, ◌==◌, ◌&&◌, ◌||◌, not, Bool, true, false, List, [], ◌∷◌, length, nat_lt, Option, if◌then◌else◌, bytes_eq, codes}
use Rattle.std.specs.List.{list_all}
use Rattle.ir_names.specs.declared.identifier.Identifier.{Identifier}
use Rattle.ir_print.specs.Formats as step
use Rattle.ir_print.specs.Formats.{Formats, Kind, Step, Steps, no_steps, Choices, no_choice, a_choice}
use Rattle.ir_print.specs.Pieces.{Pieces, Values, EntityHead, block, Entity, entity, Entities, no_entity, an_entity}
use Rattle.ir_print.specs.Layout.{layout, AreFlat}
use Rattle.ir_print.specs.Printed.{value_name, label_front, block_name, IsLabel}
use Rattle.ir_tokens.specs.Tokens.{is_letter, is_name_char, is_sign}
use Rattle.ir_formats.specs.Words.{is_width}
use Rattle.ir_formats.specs.Rules.{words_of, parts_of, rules_of}
use Rattle.ir_formats.specs.Ordered.{PartPositions, is_ordered}
use Rattle.ir_rereading.specs.Outer.{has_outer_operands}
use Rattle.ir_forest.specs.Bare.{KeepsBare}
use Rattle.ir_forest.specs.Language.{Language}
use Rattle.ir_forest.specs.Meaning.{renamed}
use Rattle.ir_forest.specs.Closed.{AllDistinct, definitions_of, IsLabelled, unlabelled}

-- ---- texts

-- This is the name of a block with this label as it is printed.
pub record HasBlockName (label named : List ℕ) : Type 0 where
  pub given : Option Identifier
  pub own : IsLabel given label
  pub slot : ℕ
  pub version : ℕ
  pub small : (slot < 2 ^ 64) × (version < 2 ^ 64)
  pub spelt : named ≡ block_name (label_front given) slot version

-- a block is printed with its name as its label, and its own label stands in front of it
abbrev pub HasLabelName : {N : Type 0} → EntityHead N → EntityHead (List ℕ) → Type 0
HasLabelName (block b own xs) (block named label arguments) = (label ≡ named) × HasBlockName own named
HasLabelName (block b own xs) _ = ⊥
HasLabelName _ (block named label arguments) = ⊥
HasLabelName _ _ = Unit {0}

abbrev mutual
  -- each block of a tree is printed under a name of its own, with its label
  pub HasBlockNames : {N : Type 0} → Entity N → Entity (List ℕ) → Type 0
  HasBlockNames (entity g us) (entity h ts) = HasLabelName g h × HaveBlockNames us ts

  pub HaveBlockNames : {N : Type 0} → Entities N → Entities (List ℕ) → Type 0
  HaveBlockNames no_entity no_entity = Unit {0}
  HaveBlockNames (an_entity u us) (an_entity t ts) = HasBlockNames u t × HaveBlockNames us ts
  HaveBlockNames _ _ = ⊥

-- The bytes are a text of the tree: its layout, in which values are named by numbers and blocks by their labels, slots and versions, no two
-- values the same, and no two blocks of a region.
pub record IsLayoutOf (f : Formats) (tree : Entity ℕ) (text : List ℕ) : Type 0 where
  -- the number in the name of each value
  pub number : ℕ → ℕ
  pub small : (n : ℕ) → number n < 2 ^ 64
  -- the name of each block
  pub label : ℕ → List ℕ
  -- the tree with the names in the text
  pub printed : Entity (List ℕ)
  pub named : unlabelled printed ≡ unlabelled (renamed (λ n. value_name (number n)) label tree)
  pub distinct : AllDistinct (definitions_of printed)
  pub blocks : HasBlockNames tree printed
  pub labelled : IsLabelled printed
  pub spelt : text ≡ layout f printed

-- ---- formats

-- a name, or two with a `.` (46) between them; behind the first character of a name
abbrev pub ends_name : Bool → List ℕ → Bool
ends_name dotted [] = true
ends_name dotted (c ∷ []) = is_name_char c
ends_name dotted (c ∷ d ∷ cs) = if c == 46 then not dotted && is_letter d && ends_name true cs else is_name_char c && ends_name dotted (d ∷ cs)

-- A word of a format: a name, two names with a `.` between them, a sign, or `->`. None is a width.
abbrev pub is_word : List ℕ → Bool
is_word [] = false
is_word (c ∷ cs) = not (is_width (c ∷ cs)) && ((is_letter c && ends_name false cs) || (is_sign c && bytes_eq cs []) || bytes_eq (c ∷ cs) (codes "->"))

-- the text with no spaces (32) at its front
abbrev pub less_spaces : List ℕ → List ℕ
less_spaces [] = []
less_spaces (c ∷ cs) = if c == 32 then less_spaces cs else c ∷ cs

-- the second text is the first with some spaces behind it
abbrev pub is_before_spaces : List ℕ → List ℕ → Bool
is_before_spaces [] [] = true
is_before_spaces [] (c ∷ cs) = c == 32 && is_before_spaces [] cs
is_before_spaces (x ∷ xs) [] = false
is_before_spaces (x ∷ xs) (c ∷ cs) = x == c && is_before_spaces xs cs

-- the word is printed with spaces around it, or none
abbrev pub is_printed : (printed text : List ℕ) → Bool
is_printed printed text = is_word text && is_before_spaces text (less_spaces printed)

-- the first character is none that a name may have
abbrev pub begins_apart : List ℕ → Bool
begins_apart [] = false
begins_apart (c ∷ cs) = not (is_name_char c)

-- the last character is none that a name may have
abbrev pub ends_apart : List ℕ → Bool
ends_apart [] = false
ends_apart (c ∷ []) = not (is_name_char c)
ends_apart (c ∷ d ∷ cs) = ends_apart (d ∷ cs)

-- what stands before a step, as to whether it runs on: an id or white space, a word, or a part
pub data BoundaryBefore : Type 0 where
  apart : BoundaryBefore
  behind : (printed : List ℕ) → BoundaryBefore
  part : BoundaryBefore

-- a word may stand behind this
abbrev pub may_follow : BoundaryBefore → List ℕ → Bool
may_follow apart printed = true
may_follow (behind before) printed = ends_apart before || begins_apart printed
may_follow part printed = begins_apart printed

-- a part may stand behind this
abbrev pub may_take : BoundaryBefore → Bool
may_take (behind before) = ends_apart before
may_take _ = true

-- A format is printed as its tokens: no two of them run into one another, and words are words. Between members of lists stand
-- separators that run into nothing. What is taken of several formats is a part, so that nothing before it or behind it runs into it.
abbrev mutual
  pub is_step_apart : Step → Bool
  is_step_apart (step.list_of member printed text) = is_printed printed text && begins_apart printed && ends_apart printed && are_steps_apart part member
  is_step_apart (step.choice_of cs) = are_choices_apart cs
  is_step_apart _ = true

  pub are_steps_apart : BoundaryBefore → Steps → Bool
  are_steps_apart edge no_steps = true
  are_steps_apart edge (step.step (step.word printed text) ss) = is_printed printed text && may_follow edge printed && are_steps_apart (behind printed) ss
  are_steps_apart edge (step.step s ss) = may_take edge && is_step_apart s && are_steps_apart part ss

  pub are_choices_apart : Choices → Bool
  are_choices_apart no_choice = true
  are_choices_apart (a_choice ss cs) = are_steps_apart apart ss && are_choices_apart cs

-- the id is a word, and the format is printed as its tokens
abbrev pub is_kind_printable : Kind → Bool
is_kind_printable k = is_word k.id && are_steps_apart apart k.format

-- what is printed in these formats is read as the same tokens; words and lists are few
abbrev pub is_printable : Formats → Bool
is_printable f = nat_lt (length (words_of f)) 65536 && nat_lt (parts_of f) 65536 && list_all is_kind_printable f.operations && list_all is_kind_printable f.types && list_all is_kind_printable f.attributes

-- ---- languages

-- No attribute is deeper for being printed as it is read.
abbrev pub KeepsDepth : Values → Type 0
KeepsDepth v = (n d : ℕ) (ps : Pieces) → AreFlat d ps → AreFlat d (v.canonical n ps)

-- What is printed in the language is read as it was printed: its texts are read in order, its formats are printed as their tokens,
-- operations alone say operands, edges and regions, and attributes are printed no deeper than they are read.
pub record CanPrint (l : Language) : Type 0 where
  pub leads : PartPositions
  pub ordered : is_ordered leads (rules_of l.formats) ≡ true
  pub printable : is_printable l.formats ≡ true
  pub outer : has_outer_operands l.formats ≡ true
  pub depth : KeepsDepth l.values
  pub bare : KeepsBare l.values
