use Rattle.ir_outlines.proofs.Resolves.{resolves, indices_are}
use Rattle.ir_outlines.proofs.numbered_marks_resolve.Goals as goal

pub returns-clause-resolve : goal.returns-clause-resolve
returns-clause-resolve g c = λ d exact bs. resolves d exact bs

pub returns-clause-indices : goal.returns-clause-indices
returns-clause-indices g c = λ d bs. indices_are d bs
