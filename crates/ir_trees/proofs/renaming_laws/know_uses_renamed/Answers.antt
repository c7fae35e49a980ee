use Rattle.std.proofs.Common.{subst}
use Rattle.ir_trees.specs.Searched.{UsesBlock, UsesValue}
use Rattle.ir_trees.specs.Renames.{rename_root}
use Rattle.ir_trees.proofs.Renamed.{value_use_renamed, value_uses_renamed, value_use_from, block_use_renamed, block_uses_renamed, block_use_from}
use Rattle.ir_trees.proofs.renaming_laws.know_uses_renamed.Goals as goal

pub returns-clause-of_values : goal.returns-clause-of_values
returns-clause-of_values g c m t y q i = ((λ u. value_uses_renamed m t y q i u), (λ r. subst (λ z. UsesValue (rename_root m t) y z i) r.4 (subst (λ z. UsesValue (rename_root m t) z (m.operation r.1) i) r.3 (value_use_renamed m t r.0 r.1 i r.2))))

pub returns-clause-of_blocks : goal.returns-clause-of_blocks
returns-clause-of_blocks g c m t y q i = ((λ u. block_uses_renamed m t y q i u), (λ r. subst (λ z. UsesBlock (rename_root m t) y z i) r.4 (subst (λ z. UsesBlock (rename_root m t) z (m.operation r.1) i) r.3 (block_use_renamed m t r.0 r.1 i r.2))))

pub returns-clause-of_value : goal.returns-clause-of_value
returns-clause-of_value g c m t one x p i a b = ((λ u. value_use_from m t one x p i a b u), (λ u. value_use_renamed m t x p i u))

pub returns-clause-of_block : goal.returns-clause-of_block
returns-clause-of_block g c m t one x p i a b = ((λ u. block_use_from m t one x p i a b u), (λ u. block_use_renamed m t x p i u))
