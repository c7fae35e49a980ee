use Rattle.std.proofs.Common.{map, refl}
use Rattle.ir_program.specs.Replacing.{retargeting, with_chosen}
use Rattle.ir_trees.specs.ListRewrites.{with_retargeted, with_chosen_retargeted}
use Rattle.ir_trees.proofs.Changed.{edited_tree}
use Rattle.ir_trees.proofs.UseEdited.{successor_edited}
use Rattle.ir_trees.proofs.list_laws.know_retargeted.Goals as goal

pub returns-clause-one : goal.returns-clause-one
returns-clause-one g c p i x edits op = successor_edited c.args._old.now c.args._new.now op p i x edits

pub returns-clause-all : goal.returns-clause-all
returns-clause-all g c old other edits op = edited_tree c.args._old.now c.args._new.now op (λ p o. record o { successors = map (retargeting old other) o.successors }) (with_retargeted old other) edits (λ p v. (refl, refl))

pub returns-clause-chosen : goal.returns-clause-chosen
returns-clause-chosen g c chosen other edits op = edited_tree c.args._old.now c.args._new.now op (λ p o. record o { successors = with_chosen chosen other p 0 o.successors }) (with_chosen_retargeted chosen other) edits (λ p v. (refl, refl))
