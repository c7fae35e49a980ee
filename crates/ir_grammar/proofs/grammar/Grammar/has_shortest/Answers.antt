use Rattle.std.proofs.Common.{arith, refl}
use Rattle.std.proofs.lemmas.Option.{slice_get_read}
use Rattle.ir_grammar.proofs.grammar.Grammar.has_shortest.Goals as goal

pub returns-then-found-part : goal.returns-then-found-part
returns-then-found-part c h =
    let below = c.is_below.ensures h in
    (c.index-found.result.now, slice_get_read c.args.self.now.rules.items _ _ _ refl (omega (arith, c.args.self.now.rules.ok.0)) c.index-found.ensures, c.if-found-part.true, rw c.deref.ensures.value at below)
