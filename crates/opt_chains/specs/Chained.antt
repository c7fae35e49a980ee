-- All that is to be joined below a root, and what stands for the arguments of the blocks that go.
use Rattle.std.specs.Prelude.{◌≡◌, ℕ, true, false, take, length, List, Option, Some, slice_get}
use Rattle.ir_program.specs.Program.{Program, arguments_at, value_in}
use Rattle.ir_program.specs.declared.handles.Ptr.{Ptr}
use Rattle.ir_program.specs.declared.handles.BasicBlock.{BasicBlock}
use Rattle.ir_program.specs.declared.handles.Value.{Value}
use Rattle.ir_trees.specs.Searched.{Lists}
use Rattle.ir_trees.specs.Stands.{by_handle, in_program, ProgramTree}
use Rattle.opt_trees.specs.Dialect.{Dialect}
use Rattle.opt_trees.specs.Occurrences.{Has}
use Rattle.opt_trees.specs.Simplify.{StartingRegions, Joinable, IsGiven, Follows, ComesBack}
use Rattle.opt_inside.specs.reach.Starts.{IsStartIn}
use Rattle.opt_inside.specs.declared.reach.starts.Start.{Start}
use Rattle.opt_chains.specs.Merging.{AreJoins, held, is_taken, last_of}
use Rattle.opt_chains.specs.MergedValues.{AreFinal, StandInsAreThere}
use Rattle.opt_chains.specs.declared.merging.Join.{Join}
use Rattle.opt_chains.specs.declared.merge_values.StandIn.{StandIn}

module _ {O B A : Type 0} (d : Dialect (in_program O B) A) (p : StartingRegions by_handle) (c : Program O B) (t : ProgramTree O B) where
  -- the steps join each chain below the root at its first block, to its end
  pub record AreChains (js : List Join) : Type 0 where
    pub joins : AreJoins c js
    pub sound : (k : ℕ) (j : Join) → slice_get js k ≡ Some j → Joinable d p t (last_of j.first (held (take k js) j.first)) j.block
    pub all : (a b : Ptr BasicBlock) → Joinable d p t a b → is_taken js b ≡ true
    pub ends : (b x : Ptr BasicBlock) → is_taken js b ≡ false → Joinable d p t (last_of b (held js b)) x → ⊥

  -- for each argument of a block that is joined behind another, what was forwarded to it, followed to its end
  pub record AreStandIns (js : List Join) (ss : List StandIn) : Type 0 where
    pub there : StandInsAreThere c ss
    pub fixed : AreFinal ss
    pub follows : (s : StandIn) → Lists ss s → Follows d p t s.argument s.value
    pub given : (v u : Value) → IsGiven d p t v u → (s : StandIn) × Has s ss × (s.argument ≡ v)
    pub arguments : (j : Join) → Lists js j → (i : ℕ) (v : Value) → value_in (arguments_at c j.block) i ≡ Some v → (s : StandIn) × Has s ss × (s.argument ≡ v)

-- what is to be done below a root: all chains, and what stands for arguments, where following comes to an end
pub record IsJoiningPlan {O B A : Type 0} (d : Dialect (in_program O B) A) (p : StartingRegions by_handle) (c : Program O B) (t : ProgramTree O B) (js : List Join) (ss : List StandIn) : Type 0 where
  pub chains : AreChains d p c t js
  pub stand_ins : AreStandIns d p c t js ss
  pub ends : ComesBack d p t → ⊥

-- looking begins somewhere
abbrev pub StartsSomewhere : {O B : Type 0} → Program O B → Start → Type 0
StartsSomewhere c start = (p : StartingRegions by_handle) × IsStartIn c start p

-- which blocks numbers lead to
pub record LeadsWhereJoinable {O B A : Type 0} (d : Dialect (in_program O B) A) (p : StartingRegions by_handle) (t : ProgramTree O B) (keys : List (Ptr BasicBlock)) (next : List (Option ℕ)) : Type 0 where
  pub len : length next ≡ length keys
  pub named : (n m : ℕ) → slice_get next n ≡ Some (Some m) → (x : Ptr BasicBlock) × (y : Ptr BasicBlock) × (slice_get keys n ≡ Some x) × (slice_get keys m ≡ Some y) × Joinable d p t x y
  pub all : (x y : Ptr BasicBlock) → Joinable d p t x y → (n : ℕ) × (m : ℕ) × (slice_get keys n ≡ Some x) × (slice_get keys m ≡ Some y) × (slice_get next n ≡ Some (Some m))
