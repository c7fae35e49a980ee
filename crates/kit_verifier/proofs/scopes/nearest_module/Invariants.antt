use Rattle.kit_checks.specs.World.{world_of}
use Rattle.kit_verifier.proofs.Climbed.{IsClimbing}
use Rattle.kit_verifier.proofs.scopes.nearest_module.Given as goal

-- what is left is the way up, and what is found from there on is what is found in all
abbrev pub invariant-loop-node : goal.invariant-loop-node
invariant-loop-node l = IsClimbing (world_of l.ctx) l.ctx.program l.fn.root l.fn.op l.node-iterator
