-- Values in place of the arguments of blocks that are joined.
use Rattle.std.specs.Prelude.{◌≡◌, ◌≢◌, cond, List, [], ◌∷◌, map, option_map}
use Rattle.ir_program.specs.Program.{Program, OperationView, operation_at, block_at, region_at, IsLiveValue}
use Rattle.ir_program.specs.Edits.{KeepsErased}
use Rattle.ir_program.specs.Replacing.{same_value}
use Rattle.ir_program.specs.declared.handles.Ptr.{Ptr}
use Rattle.ir_program.specs.declared.handles.Operation.{Operation}
use Rattle.ir_program.specs.declared.handles.Region.{Region}
use Rattle.ir_program.specs.declared.handles.BasicBlock.{BasicBlock}
use Rattle.ir_program.specs.declared.handles.Value.{Value}
use Rattle.ir_trees.specs.Searched.{Lists}
use Rattle.opt_chains.specs.declared.merge_values.StandIn.{StandIn}

-- what stands for a value: where it is one of the arguments, the value in its place, else itself
abbrev pub standing : List StandIn → Value → Value
standing [] v = v
standing (s ∷ ss) v = cond (same_value v s.argument) s.value (standing ss v)

-- the values in place of arguments are none of the arguments
abbrev pub AreFinal : List StandIn → Type 0
AreFinal ss = (s u : StandIn) → Lists ss s → Lists ss u → s.value ≢ u.argument

module _ {O B : Type 0} where
  -- each argument and each value in place of one is there
  abbrev pub StandInsAreThere : Program O B → List StandIn → Type 0
  StandInsAreThere c ss = (s : StandIn) → Lists ss s → IsLiveValue c s.argument × IsLiveValue c s.value

  -- each operand of each operation is what f makes of it, and nothing else changes
  pub record TakesInstead (old new : Program O B) (f : Value → Value) : Type 0 where
    pub operations : (p : Ptr Operation) → operation_at new p ≡ option_map (λ (o : OperationView O). record o { operands = map f o.operands }) (operation_at old p)
    pub blocks : (b : Ptr BasicBlock) → block_at new b ≡ block_at old b
    pub regions : (r : Ptr Region) → region_at new r ≡ region_at old r
    pub erased : KeepsErased old new
