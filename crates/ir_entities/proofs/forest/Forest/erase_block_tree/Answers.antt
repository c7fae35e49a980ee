use Rattle.std.proofs.Common.{ℕ, subst}
use Rattle.ir_entities.specs.Prune.{ErasesInside}
use Rattle.ir_entities.specs.Shape.{itself}
use Rattle.ir_entities.specs.declared.forest.Place.TheVariants.{Block}
use Rattle.ir_entities.proofs.forest.Forest.erase_block_tree.Goals as goal

pub returns-clause-gone : goal.returns-clause-gone
returns-clause-gone g c = (subst (λ (k : ℕ). ErasesInside c.args.self.now c.free_block_tree.new.self (Block k)) c.slot.ensures c.free_block_tree.ensures.erased).refused_blocks c.args.block c.requires.block itself
