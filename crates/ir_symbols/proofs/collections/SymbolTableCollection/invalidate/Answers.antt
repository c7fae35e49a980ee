use Rattle.std.proofs.Common.{sym}
use Rattle.ir_symbols.proofs.Handles.{not_same}
use Rattle.ir_symbols.proofs.collections.SymbolTableCollection.invalidate.Goals as goal

pub returns-clause-forgets : goal.returns-clause-forgets
returns-clause-forgets c = record {
  gone = c.swap_remove.ensures.updates.1;
  others = λ q differs. c.swap_remove.ensures.updates.2 q (not_same c.args.op q (λ e. differs (sym e)));
}
