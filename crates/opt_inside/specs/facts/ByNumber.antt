-- Facts of a program's blocks and values that are kept by their numbers.
use Rattle.std.specs.Prelude.{◌≡◌, ℕ, Bool, false, List, Some, slice_get}
use Rattle.ir_program.specs.Program.{Program}
use Rattle.ir_program.specs.Rows.{successors_at}
use Rattle.ir_program.specs.declared.handles.Ptr.{Ptr}
use Rattle.ir_program.specs.declared.handles.Operation.{Operation}
use Rattle.ir_program.specs.declared.handles.BasicBlock.{BasicBlock}
use Rattle.ir_program.specs.declared.handles.Value.{Value}
use Rattle.ir_trees.specs.Searched.{Lists}
use Rattle.ir_trees.specs.Stands.{by_handle, in_program, StandsFor, ProgramTree}
use Rattle.opt_rows.specs.declared.known.Known.{Known}
use Rattle.opt_rows.specs.declared.known.Known.TheVariants.{Any}
use Rattle.opt_trees.specs.Dialect.{Dialect}
use Rattle.opt_trees.specs.Facts.{Facts, IsMostPrecise}
use Rattle.opt_inside.specs.Occurring.{IsBelowRoot, IsBlockBelow}
use Rattle.opt_inside.specs.Numbered.{Numbers}

-- the facts that marks on blocks and facts of values say, by number: what has no number doesn't run, or may be any value
pub record AreFactsBy {A : Type 0} (n : Numbers) (runs : List Bool) (known : List (Known A)) (k : Facts by_handle A) : Type 0 where
  pub block : (i : ℕ) (b : Ptr BasicBlock) → slice_get n.blocks i ≡ Some b → slice_get runs i ≡ Some (k.runs b)
  pub no_block : (b : Ptr BasicBlock) → (Lists n.blocks b → ⊥) → k.runs b ≡ false
  pub value : (i : ℕ) (v : Value) → slice_get n.values i ≡ Some v → slice_get known i ≡ Some (k.of v)
  pub no_value : (v : Value) → (Lists n.values v → ⊥) → k.of v ≡ Any

-- the successors of what is below the root are blocks there
abbrev pub LeadsBelow : {O B : Type 0} → Program O B → Ptr Operation → Type 0
LeadsBelow c op = (p : Ptr Operation) (s : Ptr BasicBlock) → IsBelowRoot c op p → Lists (successors_at c p) s → IsBlockBelow c op s

-- these are the most precise facts of each tree that the operation stands for
pub record AreBestFacts {O B A : Type 0} (d : Dialect (in_program O B) A) (c : Program O B) (op : Ptr Operation) (n : Numbers) (runs : List Bool) (known : List (Known A)) (t : ProgramTree O B) : Type 0 where
  pub facts : Facts by_handle A
  pub by_number : AreFactsBy n runs known facts
  pub best : StandsFor c op t → IsMostPrecise d t facts
