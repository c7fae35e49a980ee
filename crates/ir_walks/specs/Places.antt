-- Which nodes a walk calls, and in which order, told by where the nodes stand.
use Rattle.std.specs.Prelude.{◌≡◌, ◌≢◌, ◌⊎◌, ◌↔◌, ℕ, ◌<◌, List, [], ◌∷◌, Some, slice_get, Contains, AllPairs}
use Rattle.ir_program.specs.Lists.{StandsInside}
use Rattle.ir_program.specs.Preorder.{StandOnceEach}
use Rattle.ir_program.specs.Program.{Program}
use Rattle.ir_program.specs.declared.handles.IRNode.{IRNode}
use Rattle.ir_walks.specs.declared.config.WalkConfig.{WalkConfig}
use Rattle.ir_walks.specs.declared.results.WalkContinue.{WalkContinue}
use Rattle.ir_walks.specs.declared.results.WalkContinue.TheVariants.{Skip}
use Rattle.ir_walks.specs.Levels.{IsCalledFirst, IsCalledLast, members}
use Rattle.ir_walks.specs.Walks.{Call, called_nodes, IsWalk}

module _ {O B : Type 0} (c : Program O B) (config : WalkConfig) where
  -- a holds b: b stands in it, however far down, and is another node
  abbrev pub Holds : IRNode → IRNode → Type 0
  Holds a b = (a ≢ b) × StandsInside c a b

  -- a is, or stands in, an earlier one of the nodes in d than b, in the direction of d's level. So d is the lowest node that holds both
  pub record StandsEarlierIn (d a b : IRNode) : Type 0 where
    pub with_a : IRNode
    pub with_b : IRNode
    pub place : ℕ
    pub later : ℕ
    pub first : slice_get (members c config d) place ≡ Some with_a
    pub second : slice_get (members c config d) later ≡ Some with_b
    pub has_a : StandsInside c with_a a
    pub has_b : StandsInside c with_b b
    pub earlier : place < later

  -- a is called before b: by the order of the one that holds the other, else by the places of both in the lowest node that holds both
  pub data IsBefore (a b : IRNode) : Type 0 where
    holder_first : IsCalledFirst config a → Holds a b → IsBefore a b
    holder_last : IsCalledLast config b → Holds b a → IsBefore a b
    by_position : (d : IRNode) → StandsEarlierIn d a b → IsBefore a b

  -- the node was called
  abbrev pub IsCalled : List Call → IRNode → Type 0
  IsCalled calls e = (a : WalkContinue) × Contains calls (e, a)

  -- a node that is called before what stands in it holds this one, and answered Skip
  abbrev pub IsSkipped : List Call → IRNode → Type 0
  IsSkipped calls e = (a : IRNode) × IsCalledFirst config a × Contains calls (a, Skip) × Holds a e

  -- the calls of a walk of x: their order; that no node is called twice; that exactly those nodes are called which are x or stand in
  -- it and aren't skipped; and which of both it is of each node in x. `nested` says the same from the outside in, for proofs by induction
  pub record IsWalkOf (x : IRNode) (calls : List Call) : Type 0 where
    pub order : AllPairs (λ (a b : Call). IsBefore a.0 b.0) calls
    pub once : StandOnceEach (called_nodes calls)
    pub exactly : (e : IRNode) → IsCalled calls e ↔ (StandsInside c x e × (IsSkipped calls e → ⊥))
    pub either : (e : IRNode) → StandsInside c x e → IsCalled calls e ⊎ IsSkipped calls e
    pub nested : IsWalk c config (x ∷ []) calls
