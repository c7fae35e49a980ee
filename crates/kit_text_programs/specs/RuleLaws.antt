-- The statements of the laws.
use Rattle.std.specs.Prelude.{◌≡◌, ℕ, List, Some}
use Rattle.ir_base.specs.declared.types.TypeHandle.{TypeHandle}
use Rattle.ir_forest.specs.Closed.{IsSameModule}
use Rattle.ir_print.specs.Pieces.{Entity}
use Rattle.ir_program.specs.Program.{type_at}
use Rattle.ir_program.specs.declared.handles.Operation.{Operation}
use Rattle.ir_program.specs.declared.handles.Ptr.{Ptr}
use Rattle.ir_program.specs.declared.handles.Value.{Value}
use Rattle.ir_trees.specs.Stands.{StandsFor}
use Rattle.ir_trees.specs.Trees.{Defined}
use Rattle.kit.specs.Context.{KitContext, KitTree}
use Rattle.kit_checks.specs.KitWorld.{HasDeclaredTypes}
use Rattle.kit_ops.specs.contracts.types.KitTypePartialEq.TheImpl as of_types
use Rattle.opt_trees.specs.Occurrences.{Has}
use Rattle.ir_types.specs.Interned.{key_at, HasDistinctTypes}
use Rattle.kit_checks.specs.declared.rule.Rule.{Rule}
use Rattle.kit_checks.specs.declared.rule.Rule.TheVariants as rule
use Rattle.kit_checks.specs.Faults.{IsFirstFault, KeptEverywhere}
use Rattle.kit_checks.specs.World.{world_of}
use Rattle.kit.specs.Says.{says}
use Rattle.text_dialect.specs.Seen.{seen}
use Rattle.text_dialect.specs.Standing.{StandsForTexts}
use Rattle.text_rereading.specs.Rereading.{Numbering, Named}
use Rattle.kit_text_programs.specs.Laws.{HaveOwnNumbers}
use Rattle.kit_text_programs.specs.Alike.{AreTrees, AreVisibleFirst}
use Rattle.kit_text_programs.specs.Same.{IsSameType, IsSameValue, IsSameBlock}

-- the operations of the one tree are alike those of the other: types that are the same, and values and blocks of one
-- number belong to one another
abbrev pub AreAlikeIn : KitContext → KitContext → Numbering → Numbering → KitTree → KitTree → Type 0
AreAlikeIn s z numbering others t u =
    AreTrees (world_of s) (world_of z) (IsSameType (key_at s.types) (key_at z.types)) (IsSameValue numbering others)
    (IsSameBlock numbering others) t u

-- the context has one handle for each type: handles are equal exactly where types are
abbrev pub HasOneHandleEach : KitContext → Type 0
HasOneHandleEach s = HasDistinctTypes (of_types.ghosts).eq s.types

-- values have the types that are written where they are defined: in the tree, and its own results
pub record HaveWrittenTypes (s : KitContext) (t : KitTree) : Type 0 where
  pub inside : HasDeclaredTypes (type_at s.program) t
  pub results : (d : Defined Value TypeHandle) → Has d t.head.results → type_at s.program d.name ≡ Some d.holds

-- the second tree has the verdict that the first has: its first fault is the first one there, it keeps the rules that
-- the first keeps, and where the first keeps all rules it does. That a rule on the types of operands is kept is known
-- where the operands are visible
pub record HasVerdictOf (s z : KitContext) (t u : KitTree) : Type 0 where
  pub first_fault : (r : Rule) (place : List ℕ) → IsFirstFault (world_of s) t r place
      → IsFirstFault (world_of z) u r place
  pub kept : (r : Rule) → (AreVisibleFirst r → KeptEverywhere (world_of s) t rule.OperandsAreVisible) →
      KeptEverywhere (world_of s) t r → KeptEverywhere (world_of z) u r
  pub all_kept : ((r : Rule) → KeptEverywhere (world_of s) t r) → (r : Rule) → KeptEverywhere (world_of z) u r

-- trees that are alike have one verdict
abbrev pub AlikeTreesHaveOneVerdict : Type 0
AlikeTreesHaveOneVerdict = (s z : KitContext) (numbering others : Numbering) (t u : KitTree) → HaveOwnNumbers numbering →
    HaveOwnNumbers others → AreAlikeIn s z numbering others t u → AreAlikeIn z s others numbering u t → HasOneHandleEach s →
    HasOneHandleEach z → HasVerdictOf s z t u

-- trees that stand in two contexts for trees of texts that are the same but for their labels have one verdict
abbrev pub TextsHaveOneVerdict : Type 0
TextsHaveOneVerdict = (text other_text : Entity ℕ) (s z : KitContext) (root other : Ptr Operation)
    (numbering others : Numbering) (t u : KitTree) → IsSameModule text other_text → HaveOwnNumbers numbering →
    HaveOwnNumbers others → StandsForTexts says (Named numbering) (seen s) root text →
    StandsForTexts says (Named others) (seen z) other other_text → StandsFor s.program root t →
    StandsFor z.program other u → HasOneHandleEach s → HasOneHandleEach z → HaveWrittenTypes s t →
    HaveWrittenTypes z u → HasVerdictOf s z t u
