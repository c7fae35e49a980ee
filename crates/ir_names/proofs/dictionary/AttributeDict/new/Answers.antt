use Rattle.ir_names.specs.Dictionary.{all_entries}
use Rattle.ir_names.proofs.WellNamed.{no_entries}
use Rattle.ir_names.proofs.dictionary.AttributeDict.new.Goals as goal

pub invariant_of-result : goal.invariant_of-result
unfolding all_entries
invariant_of-result g c = rw c.new.ensures no_entries
