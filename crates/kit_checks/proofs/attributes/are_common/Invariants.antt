use Rattle.kit_checks.specs.Rules.{IsCommon}
use Rattle.kit_checks.proofs.Everys.{EveryBelow}
use Rattle.kit_checks.proofs.attributes.are_common.Given as goal

-- those that were seen may be there
abbrev pub invariant-loop-index : goal.invariant-loop-index
invariant-loop-index l = EveryBelow IsCommon l.attributes l.index
