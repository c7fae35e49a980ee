use Rattle.std.proofs.Common.{subst, sym}
use Rattle.ir_grammar.specs.Run.{IsDepth}
use Rattle.ir_grammar.proofs.grammar.Grammar.finish.Goals as goal

pub close-requires-clause-depth : goal.close-requires-clause-depth
close-requires-clause-depth c = subst (λ n. IsDepth c.args.deepest n c.args.events.items c.args.depth) (sym c.requires.took) c.requires.depth

pub returns-clause-deep : goal.returns-clause-deep
returns-clause-deep c =
    c.deep_at.ensures c.args.deepest c.close.new.events.items (subst (λ n. IsDepth c.args.deepest n c.close.new.events.items c.close.new.depth) c.requires.took c.in_ok-stop.ensures.depth)
