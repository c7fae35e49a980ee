-- What edits of regions and erasing do and answer.
use Rattle.std.specs.Prelude.{◌≡◌, ◌≢◌, ℕ, [], ◌∷◌, ◌++◌, Option, Some, None, IsSome, Result, remove, slice_get}
use Rattle.ir_program.specs.Program.{operation_at, block_at, region_at, type_at}
use Rattle.ir_program.specs.Lists.{regions_in, StandsInside, IsLiveNode}
use Rattle.ir_program.specs.Made.{MakesRegion}
use Rattle.ir_program.specs.Edits.{EditsOperation, KeepsErased, MovesRegion}
use Rattle.ir_program.specs.Drops.{DropsUses}
use Rattle.ir_program.specs.Erased.{IsApart, ErasesOperation, ErasesBlock, ErasesRegion}
use Rattle.ir_program.specs.declared.handles.Ptr.{Ptr}
use Rattle.ir_program.specs.declared.handles.Operation.{Operation}
use Rattle.ir_program.specs.declared.handles.Region.{Region}
use Rattle.ir_program.specs.declared.handles.BasicBlock.{BasicBlock}
use Rattle.ir_program.specs.declared.handles.Value.{Value}
use Rattle.ir_program.specs.declared.handles.IRNode.{IRNode}
use Rattle.ir_program.specs.declared.handles.IRNode.TheVariants.{Operation as OperationNode, BasicBlock as BlockNode, Region as RegionNode}
use Rattle.ir_core.specs.declared.edits.edit.Entity.TheVariants.{Region as RegionEntity}
use Rattle.ir_core.specs.edits.Same.{KeepsValuesAndTypes, IsSame}
use Rattle.ir_context.specs.Views.{ContextView}
use Rattle.ir_context.specs.declared.errors.CoreError.{CoreError}
use Rattle.ir_core.specs.declared.edits.edit.Entity.{Entity}
use Rattle.ir_core.specs.edits.Answered.{Answered}

module _ {O B T : Type 0} where
  -- one region more, behind the others: a region with no block
  abbrev pub AnswersAddRegion : ContextView O B T → Ptr Operation → ContextView O B T → Result (Option Entity) CoreError → Type 0
  AnswersAddRegion c p n r =
      Answered (IsSome (operation_at c.program p)) (Unit {0}) ⊥
      (λ e. (q : Ptr Region) × (e ≡ Some (RegionEntity q)) × MakesRegion c.program n.program p q × ((v : Value) → type_at n.program v ≡ type_at c.program v) × (n.types ≡ c.types))
      (IsSame c n) r

  -- the region at an index erased with all that stands in it, which nothing outside uses
  abbrev pub AnswersEraseRegion : ContextView O B T → Ptr Operation → ℕ → ContextView O B T → Result (Option Entity) CoreError → Type 0
  AnswersEraseRegion c p i n r =
      Answered ((q : Ptr Region) × (slice_get (regions_in c.program p) i ≡ Some q) × IsApart c.program (RegionNode q)) ⊥ ⊥
      (λ e. (e ≡ None) × ((q : Ptr Region) → slice_get (regions_in c.program p) i ≡ Some q → ErasesRegion c.program n.program q) × (n.types ≡ c.types))
      (IsSame c n) r

  -- the operation erased with all that stands in it, which nothing outside uses
  abbrev pub AnswersEraseOperation : ContextView O B T → Ptr Operation → ContextView O B T → Result (Option Entity) CoreError → Type 0
  AnswersEraseOperation c p n r =
      Answered (IsSome (operation_at c.program p) × IsApart c.program (OperationNode p)) ⊥ ⊥
      (λ e. (e ≡ None) × ErasesOperation c.program n.program p × (n.types ≡ c.types))
      (IsSame c n) r

  -- the block erased with all that stands in it, which nothing outside uses
  abbrev pub AnswersEraseBlock : ContextView O B T → Ptr BasicBlock → ContextView O B T → Result (Option Entity) CoreError → Type 0
  AnswersEraseBlock c b n r =
      Answered (IsSome (block_at c.program b) × IsApart c.program (BlockNode b)) ⊥ ⊥
      (λ e. (e ≡ None) × ErasesBlock c.program n.program b × (n.types ≡ c.types))
      (IsSame c n) r

  -- without the operands and successors of all operations inside an entity, itself counted
  abbrev pub AnswersDropAllUses : ContextView O B T → IRNode → ContextView O B T → Result (Option Entity) CoreError → Type 0
  AnswersDropAllUses c x n r =
      Answered (IsLiveNode c.program x) ⊥ ⊥
      (λ e. (e ≡ None) × DropsUses c.program n.program x × (n.types ≡ c.types))
      (IsSame c n) r

  -- the region behind the regions of an operation that does not stand inside it
  abbrev pub AnswersMoveRegionToOp : ContextView O B T → Ptr Region → Ptr Operation → ContextView O B T → Result (Option Entity) CoreError → Type 0
  AnswersMoveRegionToOp c q p n r =
      Answered (IsSome (region_at c.program q) × IsSome (operation_at c.program p) × (StandsInside c.program (RegionNode q) (OperationNode p) → ⊥)) ⊥ ⊥
      (λ e. (e ≡ None)
      × ((from : Ptr Operation) (k : ℕ) → slice_get (regions_in c.program from) k ≡ Some q → from ≢ p → MovesRegion c.program n.program q from k p)
      × ((k : ℕ) → slice_get (regions_in c.program p) k ≡ Some q → EditsOperation c.program n.program p (λ o. record o { regions = remove o.regions k ++ q ∷ [] }))
      × KeepsErased c.program n.program × KeepsValuesAndTypes c n)
      (IsSame c n) r
