use Rattle.std.proofs.Common.{subst, sym}
use Rattle.ir_tokens.specs.Faults.{IsNamed}
use Rattle.ir_rereading.specs.Texts.{IsSyntaxFault}
use Rattle.text_reading.proofs.TextFaults.{faults_merge}
use Rattle.text_reading.proofs.finding.fault_of.Goals as goal

pub returns-clause-first : goal.returns-clause-first
returns-clause-first c l cs ts names count deep values scopes =
    let r = c.args.reading.now in
    faults_merge l cs ts names r.stop r.taken r.events.items c.syntax_fault.result c.deep_fault.result c.args.values c.args.scopes _ _ _
    (subst (λ k. IsNamed (IsSyntaxFault r.stop r.taken k) c.syntax_fault.result) (sym count) c.syntax_fault.ensures)
    (c.deep_fault.ensures deep)
    values scopes c.first_of-early.ensures c.first_of-late.ensures c.first_of.ensures
