-- Where values are defined, read off the tree itself; and more that is in scope.
use Rattle.std.proofs.Common.{◌≡◌, ◌⊎◌, inl, inr, ⊎_elim, Bool, true, false}
use Rattle.ir_program.specs.declared.handles.DefiningEntity.{DefiningEntity}
use Rattle.ir_program.specs.declared.handles.DefiningEntity.TheVariants.{Op as ByOp, Block as ByBlock}
use Rattle.ir_program.specs.declared.handles.BasicBlock.{BasicBlock}
use Rattle.ir_program.specs.declared.handles.Ptr.{Ptr}
use Rattle.ir_program.specs.declared.handles.Value.{Value}
use Rattle.ir_trees.specs.Renames.{names_of}
use Rattle.ir_trees.specs.Trees.{Sort, end, operation, block, region}
use Rattle.opt_trees.specs.Occurrences.{Has}
use Rattle.kit_ruled_passes.specs.Scopes.{Part, KitLabel, IsOfBlock, Scoped}

-- defined by an operation
abbrev pub IsByOp : DefiningEntity → Type 0
IsByOp (ByOp p) = Unit {0}
IsByOp (ByBlock b) = ⊥

module _ (E : Ptr BasicBlock → Type 0) where
  -- it is an entry block, or it isn't
  abbrev pub AtEntry : Bool → Ptr BasicBlock → Type 0
  AtEntry true b = E b
  AtEntry false b = E b → ⊥

  -- the block is an entry or isn't, and its arguments say that it defines them
  abbrev pub IsHome : KitLabel → Bool → Type 0
  IsHome l first = AtEntry first l.name × ((v : Value) → Has v (names_of l.arguments) → v.definer ≡ ByBlock l.name)

  -- values say who defines them, and entry blocks are told from others
  abbrev pub Homed : {s : Sort} → Part s → Bool → Type 0
  Homed end first = Unit {0}
  Homed (operation h rs rest) first =
      ((v : Value) → Has v (names_of h.results) → IsByOp v.definer) × Homed rs true × Homed rest first
  Homed (block l os rest) first = IsHome l first × Homed os true × Homed rest false
  Homed (region bs rest) first = Homed bs true × Homed rest true

-- what is in scope may be more
pub scoped_more : {s : Sort} (t : Part s) (P Q : Value → Type 0) → ((x : Value) → P x → Q x) → Scoped t P → Scoped t Q
scoped_more end P Q f q = tt
scoped_more (operation h rs rest) P Q f q = (λ x i. f x (q.0 x i), q.1, scoped_more rest P Q f q.2)
scoped_more (block l os rest) P Q f q = (
  scoped_more os (λ x. IsOfBlock l os x ⊎ P x) (λ x. IsOfBlock l os x ⊎ Q x)
      (λ x. ⊎_elim (λ y. inl y) (λ y. inr (f x y))) q.0,
  scoped_more rest P Q f q.1,
)
scoped_more (region bs rest) P Q f q = (q.0, scoped_more rest P Q f q.1)
