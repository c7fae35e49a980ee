-- What the bytes of an input say, as a text of `kit`, and which operations of contexts are what they say.
use Rattle.std.specs.Prelude.{ℕ, ◌+◌, ◌^◌, ◌≤◌, List, IsUtf8, chars}
use Rattle.ir_print.specs.Pieces.{Entity}
use Rattle.ir_program.specs.declared.handles.Operation.{Operation}
use Rattle.ir_program.specs.declared.handles.Ptr.{Ptr}
use Rattle.ir_rereading.specs.Texts.{IsTextFault, Says, HasDefinitions}
use Rattle.ir_tokens.specs.declared.faults.TextFault.{TextFault}
use Rattle.ir_trees.specs.Stands.{StandsFor}
use Rattle.ir_types.specs.Interned.{HasDistinctTypes}
use Rattle.kit.specs.Context.{KitContext, KitTree}
use Rattle.kit_checks.specs.Faults.{IsFirstFault}
use Rattle.kit_checks.specs.World.{world_of}
use Rattle.kit_checks.specs.declared.rule.Rule.{Rule}
use Rattle.kit_language.specs.Language.{kit_language}
use Rattle.kit_ops.specs.contracts.types.KitTypePartialEq.TheImpl as of_types
use Rattle.kit_ruled_views.specs.Functions.{KeepsRules}
use Rattle.kit_ruled_views.specs.Ruled.{HasOwnNames}
use Rattle.kit_text_programs.specs.Laws.{HaveOwnNumbers}
use Rattle.kit_text_programs.specs.RuleLaws.{HaveWrittenTypes}
use Rattle.kit.specs.Says.{says}
use Rattle.text_dialect.specs.Seen.{seen}
use Rattle.text_dialect.specs.Standing.{StandsForTexts}
use Rattle.text_rereading.specs.Rereading.{Numbering, Named}

-- The bytes are UTF-8, and this is the first fault of their characters.
abbrev pub HasFirstTextFault : List ℕ → TextFault → Type 0
HasFirstTextFault bytes fault = IsUtf8 bytes × IsTextFault kit_language (chars bytes) fault

-- The bytes are UTF-8, and their characters have no fault and say this tree.
abbrev pub SaysTree : List ℕ → Entity ℕ → Type 0
SaysTree bytes text = IsUtf8 bytes × Says kit_language (chars bytes) text

-- An operation of a context stands for a tree of texts, different numbers of which name different values and blocks. The last
-- three fields hold of each context: below the operation no two operations, blocks or definitions have one handle, a
-- type has one handle, and values have the types that are written where they are defined.
pub record HoldsText (text : Entity ℕ) (s : KitContext) (root : Ptr Operation) : Type 0 where
  pub numbering : Numbering
  pub distinct : HaveOwnNumbers numbering
  pub stands : StandsForTexts says (Named numbering) (seen s) root text
  pub tree : KitTree
  pub is_tree : StandsFor s.program root tree
  pub names : HasOwnNames tree
  pub handles : HasDistinctTypes (of_types.ghosts).eq s.types
  pub types : HaveWrittenTypes s tree

-- the operation is what the bytes say
pub record IsSaidBy (bytes : List ℕ) (s : KitContext) (root : Ptr Operation) : Type 0 where
  pub text : Entity ℕ
  pub says_it : SaysTree bytes text
  pub holds : HoldsText text s root

-- An operation is what they say, this rule is the smallest that is broken in it, and this the first place where it is.
pub record BreaksRule (bytes : List ℕ) (rule : Rule) (place : List ℕ) : Type 0 where
  pub context : KitContext
  pub root : Ptr Operation
  pub said : IsSaidBy bytes context root
  pub first : IsFirstFault (world_of context) said.holds.tree rule place

-- the operation is what they say, and it keeps all rules
abbrev pub IsAcceptedAs : List ℕ → KitContext → Ptr Operation → Type 0
IsAcceptedAs bytes s root = IsSaidBy bytes s root × KeepsRules s root

-- the bytes say a module: an operation of a context is what they say, and it keeps all rules
abbrev pub SaysModule : List ℕ → Type 0
SaysModule bytes = (s : KitContext) × (root : Ptr Operation) × IsAcceptedAs bytes s root

-- The bytes say this tree, and in whatever context an operation stands for it, the operation keeps all rules.
pub record IsAcceptedText (bytes : List ℕ) (text : Entity ℕ) : Type 0 where
  pub says_it : SaysTree bytes text
  pub rules : (s : KitContext) (root : Ptr Operation) → HoldsText text s root → KeepsRules s root

-- the bytes are accepted
abbrev pub IsAccepted : List ℕ → Type 0
IsAccepted bytes = (text : Entity ℕ) × IsAcceptedText bytes text

-- The bytes are UTF-8, and what is read of their characters has more definitions of values than are left above a
-- counter.
abbrev pub Overfills : ℕ → List ℕ → Type 0
Overfills counter bytes =
    IsUtf8 bytes × ((n : ℕ) × HasDefinitions kit_language (chars bytes) n × (2 ^ 64 ≤ counter + n))
