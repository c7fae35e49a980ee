-- What the front of a text says by formats.
use Rattle.std.specs.Prelude.{◌≡◌, ℕ, suc, List, None, Some, slice_get}
use Rattle.ir_names.specs.Tree.{node, no_tree, a_tree}
use Rattle.ir_print.specs.declared.format.LeafSort.{LeafSort}
use Rattle.ir_print.specs.declared.format.ValueSort.{ValueSort}
use Rattle.ir_print.specs.Formats.{word, a_value, a_leaf, list_of, choice_of, Steps, no_steps, step, Choices, alternative, Kind, Formats, kinds_of}
use Rattle.ir_print.specs.Pieces.{Leaf, leaf, list, item, chosen, value_of_kind, ValueTree, Pieces, Values, refused_value, canonical_value}
use Rattle.ir_format_checks.specs.Tokens.{given, dotted}
use Rattle.ir_format_checks.specs.Decided.{leaf_class}
use Rattle.value_texts.specs.Tokens.{TakesToken}

-- What is read, where so many types and attributes may stand in one another from there on: steps that say pieces; the members of
-- a list, one or more; or those behind another, each behind this word.
pub data Content : Type 0 where
  these : (left : ℕ) → Steps → Pieces → Content
  some : (left : ℕ) (member : Steps) (separator : List ℕ) → Pieces → Content
  more : (left : ℕ) (member : Steps) (separator : List ℕ) → Pieces → Content

-- The first characters begin with a text of this content, and what is left behind it are the second. No value of it is refused, and
-- each says what is made of its pieces. Words and leaves are tokens, each the longest at its place, with white space before it.
pub data Says (f : Formats) (v : Values) (leaf_in : LeafSort → List ℕ → Leaf) : Content → List ℕ → List ℕ → Type 0 where
  nothing : {d : ℕ} {cs : List ℕ} → Says f v leaf_in (these d no_steps no_tree) cs cs
  a_word : {d : ℕ} {ss : Steps} {ps : Pieces} {printed w text cs mid rest : List ℕ} → TakesToken (given w) cs text mid
      → Says f v leaf_in (these d ss ps) mid rest → Says f v leaf_in (these d (step (word printed w) ss) ps) cs rest
  a_leaf_token : {d : ℕ} {ss : Steps} {ps : Pieces} {sort : LeafSort} {text cs mid rest : List ℕ} → TakesToken (leaf_class sort) cs text mid
      → Says f v leaf_in (these d ss ps) mid rest
      → Says f v leaf_in (these d (step (a_leaf sort) ss) (a_tree (node (leaf (leaf_in sort text)) no_tree) ps)) cs rest
  -- the id of a kind, and what its format says
  a_whole_value : {d : ℕ} {ss : Steps} {ps qs : Pieces} {sort : ValueSort} {i : ℕ} {cs mid behind rest : List ℕ} (k : Kind)
      → slice_get (kinds_of f sort) i ≡ Some k → TakesToken dotted cs k.id mid
      → Says f v leaf_in (these d k.format qs) mid behind → refused_value v sort i qs ≡ None
      → Says f v leaf_in (these (suc d) ss ps) behind rest
      → Says f v leaf_in (these (suc d) (step (a_value sort) ss) (a_tree (node (value_of_kind sort i) (canonical_value v sort i qs)) ps)) cs rest
  no_member : {d : ℕ} {m ss : Steps} {ps : Pieces} {printed w cs rest : List ℕ} → Says f v leaf_in (these d ss ps) cs rest
      → Says f v leaf_in (these d (step (list_of m printed w) ss) (a_tree (node list no_tree) ps)) cs rest
  some_members : {d : ℕ} {m ss : Steps} {ps ms : Pieces} {printed w cs mid rest : List ℕ} → Says f v leaf_in (some d m w ms) cs mid
      → Says f v leaf_in (these d ss ps) mid rest → Says f v leaf_in (these d (step (list_of m printed w) ss) (a_tree (node list ms) ps)) cs rest
  first_member : {d : ℕ} {m : Steps} {qs ms : Pieces} {w cs mid rest : List ℕ} → Says f v leaf_in (these d m qs) cs mid
      → Says f v leaf_in (more d m w ms) mid rest → Says f v leaf_in (some d m w (a_tree (node item qs) ms)) cs rest
  no_more : {d : ℕ} {m : Steps} {w cs : List ℕ} → Says f v leaf_in (more d m w no_tree) cs cs
  one_more : {d : ℕ} {m : Steps} {qs ms : Pieces} {w text cs mid behind rest : List ℕ} → TakesToken (given w) cs text mid
      → Says f v leaf_in (these d m qs) mid behind → Says f v leaf_in (more d m w ms) behind rest
      → Says f v leaf_in (more d m w (a_tree (node item qs) ms)) cs rest
  -- what the format with this number says
  picked : {d : ℕ} {cs : Choices} {a ss : Steps} {ps qs : Pieces} {i : ℕ} {all mid rest : List ℕ} → alternative cs i ≡ Some a
      → Says f v leaf_in (these d a qs) all mid → Says f v leaf_in (these d ss ps) mid rest
      → Says f v leaf_in (these d (step (choice_of cs) ss) (a_tree (node (chosen i) qs) ps)) all rest

-- The characters begin with a text of a type or an attribute, which says this tree; at most 64 stand in one another.
abbrev pub SaysValue : Formats → Values → (LeafSort → List ℕ → Leaf) → ValueSort → ValueTree → List ℕ → List ℕ → Type 0
SaysValue f v leaf_in sort t cs rest = Says f v leaf_in (these 64 (step (a_value sort) no_steps) (a_tree t no_tree)) cs rest
