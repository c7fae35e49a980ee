use Rattle.std.proofs.Common.{◌≡◌, ℕ, List, ◌+◌}
use Rattle.ir_grammar.specs.Table.{IsFine, AreKnownSymbols, height}
use Rattle.ir_grammar.specs.Reading.{tooks, IsPrefix}
use Rattle.ir_grammar.specs.Run.{LeadsToStack, LeadsAt, IsDepth}
use Rattle.ir_grammar.specs.Pending.{unread}
use Rattle.ir_grammar.proofs.Steps.{IsOn}
use Rattle.ir_grammar.proofs.grammar.Grammar.advance.Given as goal

abbrev pub invariant-loop-symbol : goal.invariant-loop-symbol
invariant-loop-symbol l = record {
  leads : (root : ℕ) (done : List ℕ)
      → LeadsToStack l.self root done l.fn.events.items (unread l.fn.pending)
      → LeadsAt l.self root done l.events.items (unread l.pending) (l.kind + 1);
  on : IsOn l.self (λ root done. LeadsToStack l.self root done l.fn.events.items (unread l.fn.pending)) l.events.items (unread l.pending) (l.kind + 1);
  grows : IsPrefix l.fn.events.items l.events.items;
  fine : IsFine l.self (unread l.pending);
  known : AreKnownSymbols l.self (unread l.pending);
  took : tooks l.events.items ≡ tooks l.fn.events.items;
  depth : IsDepth l.deepest (tooks l.fn.events.items) l.events.items l.depth;
}

abbrev pub decreases-loop-symbol : goal.decreases-loop-symbol
decreases-loop-symbol l = height l.self (unread l.pending)
