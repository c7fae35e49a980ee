use Rattle.text_outlines.proofs.AbsentLemmas.{absent}
use Rattle.text_outlines.proofs.sections.outlined_attributes.Goals as goal

pub returns-clause-absent : goal.returns-clause-absent
returns-clause-absent g c = λ e fresh. absent g.F.FnMut (c.args.attribute, c.args.stream.now) c.in-Err.fault c.in-Err.ensures e fresh
