use Rattle.std.proofs.Common.{sym}
use Rattle.ir_print.specs.Formats.{steps_of}
use Rattle.value_texts.proofs.Columns.{end_begins}
use Rattle.value_texts.proofs.deciding.begins_with.Goals as goal

pub returns-in-None : goal.returns-in-None
returns-in-None c = rw c.in-None.is (sym (end_begins (steps_of c.args.format.now)))
