-- Lists of passes over a module of a context, and the text that is written of what they make.
use Rattle.std.specs.Prelude.{ℕ, List, map, Result, Ok, Err}
use Rattle.ir_base.specs.declared.growth.GrowError.{GrowError}
use Rattle.ir_base.specs.declared.growth.GrowError.TheVariants.{Memory, CounterFull}
use Rattle.ir_forest.specs.Closed.{IsClosedTree, IsNumbered, IsSameModule}
use Rattle.ir_print.specs.Pieces.{Entity}
use Rattle.ir_program.specs.declared.handles.Operation.{Operation}
use Rattle.ir_program.specs.declared.handles.Ptr.{Ptr}
use Rattle.kit.specs.Context.{KitContext}
use Rattle.kit_language.specs.Language.{kit_language}
use Rattle.kit_optimiser.specs.Programs.{PassedPrograms}
use Rattle.kit_optimiser.specs.Passed.{IsOptimised, FillsUp, pass_of}
use Rattle.kit_ops.specs.declared.pass.KitPass.{KitPass}
use Rattle.kit_execution.specs.Numberings.{NumbersTextsApart}
use Rattle.text_printing.specs.Again.{IsTextOfModule}
use Rattle.irkit_refusals.specs.Texts.{HoldsText, IsAcceptedText}

-- The text is one of the tree that an operation stands for, with a line end, and is accepted again, as the same module:
-- of the same tree but for labels. The tree is closed, and its definitions are numbered in the order of the text.
pub record IsWrittenAs (s : KitContext) (root : Ptr Operation) (text : List ℕ) : Type 0 where
  pub tree : Entity ℕ
  pub holds : HoldsText tree s root
  pub closed : IsClosedTree kit_language tree
  pub numbered : IsNumbered tree
  pub laid_out : IsTextOfModule kit_language tree text
  pub again : Entity ℕ
  pub accepted : IsAcceptedText text again
  pub same : IsSameModule again tree

-- Both modules have programs, whatever numbers names have. The functions of the second are those of the first, behave as they do, and
-- meet the goal of the last pass.
abbrev pub HaveProgramsAfter : List KitPass → KitContext → KitContext → Ptr Operation → Type 0
HaveProgramsAfter passes before after root = (numbered : List ℕ → ℕ) → NumbersTextsApart numbered →
    PassedPrograms (map pass_of passes) before after root numbered

-- What is written of a module after passes: the text of what they make, one after another, of the module. Its functions
-- are the module's, behave as they do, and meet the goal of the last pass: the programs of both, whatever numbers names
-- have, say so.
pub record PassesGive (passes : List KitPass) (before : KitContext) (root : Ptr Operation) (text : List ℕ) : Type 0 where
  pub after : KitContext
  pub passed : IsOptimised (map pass_of passes) before after root
  pub programs : HaveProgramsAfter passes before after root
  pub written : IsWrittenAs after root text

-- The text of a module after passes: it is made, or memory is refused, or too few numbers of values are left for what a
-- pass puts in.
abbrev pub EndsPasses : {V : Type 0} → List KitPass → KitContext → Ptr Operation → (V → List ℕ) → Result V GrowError →
    Type 0
EndsPasses passes before root text_of (Ok text) = PassesGive passes before root (text_of text)
EndsPasses passes before root text_of (Err CounterFull) = FillsUp (map pass_of passes) before root
EndsPasses passes before root text_of (Err Memory) = Unit {0}
