-- What tests of handles tell.
use Rattle.std.proofs.Common.{◌≡◌, ◌≢◌, true, false, ap}
use Rattle.ir_program.specs.Handles.{handle}
use Rattle.ir_program.specs.Replacing.{same_block}
use Rattle.ir_program.specs.declared.handles.Ptr.{Ptr}
use Rattle.ir_program.specs.declared.handles.Operation.{Operation}
use Rattle.ir_program.specs.declared.handles.BasicBlock.{BasicBlock}
use Rattle.ir_program.proofs.made.Frames.{same_handle}
use Rattle.ir_program.proofs.used.Renaming.{block-test}
use Rattle.ir_trees.specs.ListRewrites.{same_operation}

-- an operation's handle as one of a block
abbrev as_block : Ptr Operation → Ptr BasicBlock
as_block p = handle p.key

pub operation_yes : (p q : Ptr Operation) → p ≡ q → same_operation p q ≡ true
operation_yes p q e = block-test.yes (as_block p) (as_block q) (ap as_block e)

pub operation_no : (p q : Ptr Operation) → p ≢ q → same_operation p q ≡ false
operation_no p q ne = block-test.no (as_block p) (as_block q) (λ h. ne (same_handle p q (ap (λ (x : Ptr BasicBlock). x.key) h)))

pub block_yes : (p q : Ptr BasicBlock) → p ≡ q → same_block p q ≡ true
block_yes = block-test.yes

pub block_no : (p q : Ptr BasicBlock) → p ≢ q → same_block p q ≡ false
block_no = block-test.no
