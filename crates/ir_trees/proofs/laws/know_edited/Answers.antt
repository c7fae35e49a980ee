use Rattle.ir_trees.proofs.Changed.{edited_tree, one_edited_tree, one_block_edited_tree}
use Rattle.ir_trees.proofs.laws.know_edited.Goals as goal

pub returns-clause-all : goal.returns-clause-all
returns-clause-all g c edit f edits says op = edited_tree c.args._old.now c.args._new.now op edit f edits says

pub returns-clause-one : goal.returns-clause-one
returns-clause-one g c p edit f edits says others op = one_edited_tree c.args._old.now c.args._new.now op p edit f edits says others

pub returns-clause-block : goal.returns-clause-block
returns-clause-block g c b edit h edits says others op = one_block_edited_tree c.args._old.now c.args._new.now op b edit h edits says others
