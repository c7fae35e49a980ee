-- What is printed of an operation that has the tree of a text.
use Rattle.std.specs.Prelude.{◌≡◌, ℕ, List, Some, slice_get}
use Rattle.ir_forest.specs.Language.{Language}
use Rattle.ir_print.specs.Formats.{Formats}
use Rattle.ir_print.specs.Layout.{layout, IsShallow}
use Rattle.ir_print.specs.Pieces.{Entity}
use Rattle.ir_print.specs.Shown.{Saying}
use Rattle.ir_program.specs.declared.handles.Ptr.{Ptr}
use Rattle.ir_program.specs.declared.handles.Operation.{Operation}
use Rattle.ir_program.specs.declared.handles.BasicBlock.{BasicBlock}
use Rattle.ir_program.specs.declared.handles.Value.{Value}
use Rattle.ir_rereading.specs.Printable.{IsLayoutOf}
use Rattle.text_dialect.specs.Printed.{PrintsAs}
use Rattle.text_dialect.specs.Seen.{Seen}
use Rattle.text_dialect.specs.Standing.{Naming}

-- the values and the blocks that numbers name, each in the order of the text
pub record Numbering : Type 0 where
  pub values : List Value
  pub blocks : List (Ptr BasicBlock)

-- the definition with this number is the value, or the block
abbrev pub Named : Numbering → Naming ℕ
Named m = record { value = λ v n. slice_get m.values n ≡ Some v; block = λ b n. slice_get m.blocks n ≡ Some b }

-- The text is what is printed of the operation: the layout of each tree that it is printed as, where at most 64
-- regions,
-- types and attributes are in one another.
abbrev pub IsPrinted : {K A T : Type 0} → Formats → Saying K A T → Seen K A T → Ptr Operation → List ℕ → Type 0
IsPrinted f says s p text = (printed : Entity (List ℕ)) → PrintsAs says s p printed → IsShallow 64 printed →
    text ≡ layout f printed

-- An operation that has this tree is printed: there is a tree that it is printed as, in which at most 64 regions,
-- types
-- and attributes are in one another, and the layout of which is one of the operation's tree.
pub record IsPrintedAs {K A T : Type 0} (l : Language) (says : Saying K A T) (s : Seen K A T) (p : Ptr Operation)
    (tree : Entity ℕ) : Type 0 where
  pub printed : Entity (List ℕ)
  pub prints : PrintsAs says s p printed
  pub shallow : IsShallow 64 printed
  pub laid_out : IsLayoutOf l.formats tree (layout l.formats printed)
