use Rattle.kit_checks.specs.Rules.{MayHave}
use Rattle.kit_checks.proofs.Everys.{EveryBelow}
use Rattle.kit_checks.proofs.attributes.may_have_all.Given as goal

-- those that were seen may be there
abbrev pub invariant-loop-index : goal.invariant-loop-index
invariant-loop-index l = EveryBelow (MayHave l.kind) l.attributes l.index
