use Rattle.ir_entities.proofs.Trees.{forest_new}
use Rattle.ir_entities.proofs.forest.Forest.new.Goals as goal

pub invariant_of-result : goal.invariant_of-result
invariant_of-result g c = forest_new _ c.new.ensures c.new-2.ensures c.new-3.ensures c.new-4.ensures.lists c.new-5.ensures.lists c.new-6.ensures.lists
