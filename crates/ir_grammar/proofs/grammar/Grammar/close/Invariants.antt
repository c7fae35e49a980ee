use Rattle.std.proofs.Common.{◌≡◌, ℕ, List}
use Rattle.ir_grammar.specs.Table.{IsFine, AreKnownSymbols, height}
use Rattle.ir_grammar.specs.Reading.{tooks}
use Rattle.ir_grammar.specs.Run.{Closes, IsDepth}
use Rattle.ir_grammar.specs.Pending.{unread}
use Rattle.ir_grammar.proofs.grammar.Grammar.close.Given as goal

abbrev pub invariant-loop-symbol : goal.invariant-loop-symbol
invariant-loop-symbol l = record {
  closes : (root : ℕ) (done : List ℕ)
      → Closes l.self root done l.fn.events.items (unread l.fn.pending)
      → Closes l.self root done l.events.items (unread l.pending);
  fine : IsFine l.self (unread l.pending);
  known : AreKnownSymbols l.self (unread l.pending);
  took : tooks l.events.items ≡ tooks l.fn.events.items;
  depth : IsDepth l.deepest (tooks l.fn.events.items) l.events.items l.depth;
}

abbrev pub decreases-loop-symbol : goal.decreases-loop-symbol
decreases-loop-symbol l = height l.self (unread l.pending)
