-- The blocks that are unreached, by their fates.
use Rattle.std.proofs.Common.{◌≡◌, ℕ, List, Some, length, slice_get, subst}
use Rattle.std.specs.Prelude.{◌↔◌}
use Rattle.std.specs.declared.vec.Vec.{Vec}
use Rattle.std.specs.declared.alloc.Global.{Global}
use Rattle.std.specs.Result.{IfOk}
use Rattle.std.specs.declared.result.Result.{Result}
use Rattle.std.specs.declared.result.Result.TheVariants.{Ok, Err}
use Rattle.std.specs.declared.alloc.AllocError.{AllocError}
use Rattle.ir_program.specs.Program.{Program}
use Rattle.ir_program.specs.declared.handles.Ptr.{Ptr}
use Rattle.ir_program.specs.declared.handles.Operation.{Operation}
use Rattle.ir_program.specs.declared.handles.BasicBlock.{BasicBlock}
use Rattle.ir_trees.specs.Searched.{Lists}
use Rattle.ir_trees.specs.Stands.{by_handle, in_program, ProgramTree, StandsFor}
use Rattle.opt_trees.specs.Dialect.{Dialect}
use Rattle.opt_trees.specs.Simplify.{StartingRegions, IsUnreached}
use Rattle.opt_inside.specs.Numbered.{Numbers, NumbersInside}
use Rattle.opt_inside.proofs.Around.{HasLists}
use Rattle.opt_inside.specs.reach.Fates.{AreFates}
use Rattle.opt_inside.specs.reach.Starts.{IsStartIn}
use Rattle.opt_inside.specs.declared.reach.fates.Fate.{Fate}
use Rattle.opt_inside.specs.declared.reach.fates.Fate.TheVariants.{Unreached}
use Rattle.opt_inside.specs.declared.reach.starts.Start.{Start}
use Rattle.opt_inside.proofs.ReachLemmas.Ends.{unreached_are}
use Rattle.opt_inside.proofs.ReachLemmas.Occurs.{Occurs}

module _ {O B A : Type 0} (d : Dialect (in_program O B) A) (c : Program O B) (lists : HasLists c) (op : Ptr Operation) (n : Numbers) (numbered : NumbersInside c op n) (start : Start) where
  -- what is known of the list of the blocks that are unreached, which may not be there for want of memory
  pub finds_if : ((t : ProgramTree O B) → StandsFor c op t → Occurs c op t) → (fates : List Fate) → length fates ≡ length n.blocks
      → ((p : StartingRegions by_handle) → IsStartIn c start p → (t : ProgramTree O B) → StandsFor c op t → AreFates d p t n.blocks fates)
      → (keys : List (Ptr BasicBlock)) → keys ≡ n.blocks → (again : List Fate) → again ≡ fates → (found : Result (Vec (Ptr BasicBlock) Global) AllocError)
      → IfOk found (λ row. (b : Ptr BasicBlock) → Lists row.items b ↔ ((k : ℕ) × (slice_get keys k ≡ Some b) × (slice_get again k ≡ Some Unreached)))
      → IfOk found (λ row. (p : StartingRegions by_handle) → IsStartIn c start p → (t : ProgramTree O B) → StandsFor c op t → (b : Ptr BasicBlock) → Lists row.items b ↔ IsUnreached d p t b)
  finds_if occurs fates len known keys same again once_more (Err e) listed = listed
  finds_if occurs fates len known keys same again once_more (Ok row) listed = λ p is t stands.
      unreached_are d p c lists op n numbered t (occurs t stands) fates len (known p is t stands) row.items
      (subst (λ ks. (b : Ptr BasicBlock) → Lists row.items b ↔ ((k : ℕ) × (slice_get ks k ≡ Some b) × (slice_get fates k ≡ Some Unreached))) same
      (subst (λ fs. (b : Ptr BasicBlock) → Lists row.items b ↔ ((k : ℕ) × (slice_get keys k ≡ Some b) × (slice_get fs k ≡ Some Unreached))) once_more listed))
