use Rattle.std.proofs.Common.{ℕ, subst}
use Rattle.ir_entities.specs.Prune.{ErasesInside}
use Rattle.ir_entities.specs.Shape.{itself}
use Rattle.ir_entities.specs.declared.forest.Place.TheVariants.{Region}
use Rattle.ir_entities.proofs.forest.Forest.erase_region_tree.Goals as goal

pub returns-clause-gone : goal.returns-clause-gone
returns-clause-gone g c = (subst (λ (k : ℕ). ErasesInside c.args.self.now c.free_region_tree.new.self (Region k)) c.slot.ensures c.free_region_tree.ensures.erased).refused_regions c.args.region c.requires.region itself
