-- Going over a list from either end, and putting back what was taken out of a list.
use Rattle.std.specs.Prelude.{◌≡◌, ℕ, ◌+◌, List, reverse, Some, slice_get}
use Rattle.std.specs.Iterator.{Drains, YieldsFirst, YieldsLast}
use Rattle.ir_program.specs.Program.{Program}
use Rattle.ir_program.specs.Lists.{operations_in, blocks_in}
use Rattle.ir_program.specs.Edits.{IsUnchanged}
use Rattle.ir_program.specs.ListEdits.{TakesOutOperation, PutsOperationAfter, TakesOutBlock, PutsBlockAfter}
use Rattle.ir_program.specs.declared.handles.Ptr.{Ptr}
use Rattle.ir_program.specs.declared.handles.Operation.{Operation}
use Rattle.ir_program.specs.declared.handles.Region.{Region}
use Rattle.ir_program.specs.declared.handles.BasicBlock.{BasicBlock}

-- an iterator that shows these items gives exactly these from the front, until it answers `None`; from the back it gives them in reverse
abbrev pub IsWalkedBothWays : {X : Type 0} → List X → Type 0
IsWalkedBothWays {X} items = (front back : List X) → Drains (YieldsFirst (λ (s : List X). s)) items front → Drains (YieldsLast (λ (s : List X). s)) items back → (front ≡ items) × (back ≡ reverse front)

module _ {O B : Type 0} where
  -- an operation stands right after another and is taken out: the other stands where it stood; and once it is put right after that one again, each handle leads to what it led to, so that the block lists what it listed
  abbrev pub ReturnsOperations : Program O B → Type 0
  ReturnsOperations old = (mid : Program O B) (block : Ptr BasicBlock) (k : ℕ) (mark op : Ptr Operation)
      → slice_get (operations_in old block) k ≡ Some mark → slice_get (operations_in old block) (k + 1) ≡ Some op
      → TakesOutOperation old mid op → mid.counter ≡ old.counter
      → (slice_get (operations_in mid block) k ≡ Some mark) × ((new : Program O B) → PutsOperationAfter mid new mark op → new.counter ≡ mid.counter → IsUnchanged old new)

  -- the same of a block that stands right after another in a region
  abbrev pub ReturnsBlocks : Program O B → Type 0
  ReturnsBlocks old = (mid : Program O B) (region : Ptr Region) (k : ℕ) (mark block : Ptr BasicBlock)
      → slice_get (blocks_in old region) k ≡ Some mark → slice_get (blocks_in old region) (k + 1) ≡ Some block
      → TakesOutBlock old mid block → mid.counter ≡ old.counter
      → (slice_get (blocks_in mid region) k ≡ Some mark) × ((new : Program O B) → PutsBlockAfter mid new mark block → new.counter ≡ mid.counter → IsUnchanged old new)
