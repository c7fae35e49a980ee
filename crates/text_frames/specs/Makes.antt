-- What is open and what is put where.
use Rattle.std.specs.Prelude.{◌≡◌, List, [], ◌∷◌, Option, None, true}
use Rattle.ir_base.specs.declared.types.TypeHandle.{TypeHandle}
use Rattle.ir_names.specs.Text.{is_identifier}
use Rattle.ir_print.specs.Pieces.{Leaf, name, number, unsigned, width, quoted, mark}
use Rattle.ir_program.specs.declared.handles.Ptr.{Ptr}
use Rattle.ir_program.specs.declared.handles.BasicBlock.{BasicBlock}
use Rattle.ir_print.specs.declared.format.Part.{Part}
use Rattle.ir_print.specs.declared.format.Part.TheVariants as part
use Rattle.text_frames.specs.declared.opened.Body.{Body}
use Rattle.text_frames.specs.declared.opened.Body.TheVariants as body

-- A leaf is spelled as one of its sort is. Only a name may not be.
abbrev pub IsSpelled : Leaf → Type 0
IsSpelled (name cs) = is_identifier cs ≡ true
IsSpelled (number negative magnitude) = Unit {0}
IsSpelled (unsigned magnitude) = Unit {0}
IsSpelled (width sign bits) = Unit {0}
IsSpelled (quoted cs) = Unit {0}
IsSpelled (mark n) = Unit {0}

-- the types among parts
abbrev pub types_in : {D K A T : Type 0} → List (Part D K A T) → List TypeHandle
types_in [] = []
types_in (part.«Type» ty ∷ ps) = ty ∷ types_in ps
types_in (_ ∷ ps) = types_in ps

-- the block that is open with this body
abbrev pub block_in : {D K A T : Type 0} → Body D K A T → Option (Ptr BasicBlock)
block_in (body.Block b) = b.block
block_in _ = None
