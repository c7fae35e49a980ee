use Rattle.std.proofs.Common.{Some, subst}
use Rattle.ir_program.specs.Lists.{itself}
use Rattle.ir_walks.specs.declared.turns.Cursor.TheVariants.{Arriving}
use Rattle.ir_mutable_walks.specs.Passes.{ComesTo}
use Rattle.ir_mutable_walks.proofs.walking.first_call.Goals as goal

pub next_call-requires-clause-inside : goal.next_call-requires-clause-inside
next_call-requires-clause-inside g c = itself

pub returns : goal.returns
returns g c = record {
  known = c.know_context.ensures;
  comes = subst (λ p. ComesTo p c.args.config.now c.args.root (Some (Arriving c.args.root)) c.next_call.result) c.walked_program.ensures c.next_call.ensures;
}
