-- What is known of a module of a context before it is written or its passes run.
use Rattle.std.specs.Prelude.{◌≡◌, ℕ, List, Some, slice_get}
use Rattle.ir_forest.specs.Closed.{IsClosedTree, IsNumbered}
use Rattle.ir_formats.specs.Rules.{IsGrammarOf}
use Rattle.ir_grammar.specs.declared.grammar.Grammar.{Grammar}
use Rattle.ir_print.specs.Pieces.{Entity}
use Rattle.ir_program.specs.declared.handles.Operation.{Operation}
use Rattle.ir_program.specs.declared.handles.Ptr.{Ptr}
use Rattle.ir_program.specs.declared.handles.Value.{Value}
use Rattle.ir_trees.specs.Stands.{StandsFor}
use Rattle.kit.specs.Context.{KitContext, KitTree}
use Rattle.text_dialect.specs.Seen.{Seen}
use Rattle.kit_ops.specs.declared.attributes.KitAttr.{KitAttr}
use Rattle.kit_ops.specs.declared.kinds.KitOp.{KitOp}
use Rattle.kit_ops.specs.declared.types.KitType.{KitType}
use Rattle.kit_language.specs.Language.{kit_language}
use Rattle.kit_writable_trees.specs.Writable.{IsWritableRoot}
use Rattle.irkit_refusals.specs.Texts.{HoldsText}

-- what texts need of a context of `kit`
abbrev pub KitSeen : Type 0
KitSeen = Seen KitOp KitAttr KitType

-- no two of the values have one number
abbrev pub HaveDistinctNumbers : List Value → Type 0
HaveDistinctNumbers values = (i j : ℕ) (v w : Value) → slice_get values i ≡ Some v → slice_get values j ≡ Some w →
    v.number ≡ w.number → i ≡ j

-- the operation can be written as a text
abbrev pub CanBeWritten : KitContext → Ptr Operation → Type 0
CanBeWritten s root = (t : KitTree) → StandsFor s.program root t → IsWritableRoot s.types.keys t

-- the operation holds a tree of texts that is closed, and numbered in the order of the text
pub record HasOwnText (s : KitContext) (root : Ptr Operation) : Type 0 where
  pub tree : Entity ℕ
  pub holds : HoldsText tree s root
  pub closed : IsClosedTree kit_language tree
  pub numbered : IsNumbered tree

-- there is a grammar of the language: where a text was read, it was read by one
abbrev pub HasGrammar : Type 0
HasGrammar = (g : Grammar) × IsGrammarOf kit_language.formats g
