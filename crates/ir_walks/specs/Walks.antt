-- Which nodes a walk calls, and in which order, told from the outside in: the calls of what stands in a node are a walk of their own.
use Rattle.std.specs.Prelude.{List, [], ◌∷◌, ◌++◌, map, Contains}
use Rattle.ir_program.specs.Program.{Program}
use Rattle.ir_program.specs.declared.handles.IRNode.{IRNode}
use Rattle.ir_walks.specs.declared.config.WalkConfig.{WalkConfig}
use Rattle.ir_walks.specs.declared.results.WalkContinue.{WalkContinue}
use Rattle.ir_walks.specs.declared.results.WalkContinue.TheVariants.{Advance, Skip}
use Rattle.ir_walks.specs.Levels.{IsCalledFirst, IsCalledLast, members}

-- a node that was called, and what its call answered
abbrev pub Call : Type 0
Call = IRNode × WalkContinue

-- the nodes that were called, in the order of the calls
abbrev pub called_nodes : List Call → List IRNode
called_nodes calls = map (λ (call : Call). call.0) calls

-- no call answered to skip what stands in its node
abbrev pub NeverSkips : List Call → Type 0
NeverSkips calls = (e : IRNode) → Contains calls (e, Skip) → ⊥

module _ {O B : Type 0} (c : Program O B) (config : WalkConfig) where
  -- all calls of a walk of these nodes, one node after the other. A node that is called first and answers Skip is its only call; else all
  -- that stands in it is walked, and the node itself is called before that, or after it, by its order
  pub data IsWalk : List IRNode → List Call → Type 0 where
    nothing : IsWalk [] []
    skipped : (e : IRNode) (es : List IRNode) (rest : List Call) → IsCalledFirst config e → IsWalk es rest → IsWalk (e ∷ es) ((e, Skip) ∷ rest)
    first : (e : IRNode) (es : List IRNode) (inner rest : List Call) → IsCalledFirst config e → IsWalk (members c config e) inner → IsWalk es rest → IsWalk (e ∷ es) ((e, Advance) ∷ (inner ++ rest))
    last : (e : IRNode) (es : List IRNode) (inner rest : List Call) (a : WalkContinue) → IsCalledLast config e → IsWalk (members c config e) inner → IsWalk es rest → IsWalk (e ∷ es) (inner ++ (e, a) ∷ rest)
