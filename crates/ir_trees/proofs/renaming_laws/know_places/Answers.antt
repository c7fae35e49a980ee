use Rattle.std.proofs.Common.{◌∙◌, ap, sym, subst}
use Rattle.ir_trees.specs.Searched.{Lists, heads_of}
use Rattle.ir_trees.proofs.Placed.{operation_has_place, operation_at_place, block_has_place, block_at_place, one_place, one_block_place}
use Rattle.ir_trees.proofs.renaming_laws.know_places.Goals as goal

pub returns-clause-operations : goal.returns-clause-operations
returns-clause-operations g c t h = ((λ l. operation_has_place t h l), (λ r. subst (Lists (heads_of t)) r.1.2 (operation_at_place t r.0 r.1.0 r.1.1)))

pub returns-clause-blocks : goal.returns-clause-blocks
returns-clause-blocks g c t l = ((λ h. block_has_place t l h), (λ r. block_at_place t r.0 l r.1.0 r.1.1))

pub returns-clause-one : goal.returns-clause-one
returns-clause-one g c t distinct p q h k a b same = one_place t distinct p q a.0 b.0 a.1 b.1 (ap (λ x. x.name) a.2 ∙ same ∙ sym (ap (λ x. x.name) b.2))

pub returns-clause-one_block : goal.returns-clause-one_block
returns-clause-one_block g c t distinct p q l k a b same = one_block_place t distinct p q l k a.0 b.0 a.1 b.1 same
