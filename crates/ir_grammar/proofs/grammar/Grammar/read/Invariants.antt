use Rattle.std.proofs.Common.{take}
use Rattle.ir_grammar.specs.Table.{IsFine, AreKnownSymbols}
use Rattle.ir_grammar.specs.Run.{LeadsToStack, IsDepth}
use Rattle.ir_grammar.specs.Pending.{unread}
use Rattle.ir_grammar.proofs.grammar.Grammar.read.Given as goal

abbrev pub invariant-loop-taken : goal.invariant-loop-taken
invariant-loop-taken l = record {
  leads : LeadsToStack l.self l.root (take l.taken l.kinds) l.events.items (unread l.pending);
  depth : IsDepth l.deepest l.taken l.events.items l.depth;
  fine : IsFine l.self (unread l.pending);
  known : AreKnownSymbols l.self (unread l.pending);
}
