use Rattle.ir_names.specs.declared.interfaces.AttrInterface.TheVariants.{OutlinedAttr}
use Rattle.ir_queries.proofs.SkippedCopies.{IsSkippedTo}
use Rattle.ir_queries.proofs.lookups.AttributeDictAttributeLookups.clone_skip_outlined.Given as goal

abbrev pub invariant-loop-name : goal.invariant-loop-name
invariant-loop-name g l = IsSkippedTo g.D.Attr.PartialEq.eq (λ attr. g.D.DialectTables.attr_has attr OutlinedAttr) l.self l.name-iterator l.copy
