use Rattle.std.proofs.Common.{arith, rules, refl, inl, inr}
use Rattle.std.proofs.lemmas.Option.{slice_get_read}
use Rattle.ir_grammar.proofs.grammar.Grammar.is_choice.Goals as goal

pub returns-then-eq : goal.returns-then-eq
returns-then-eq c h =
    (c.index-found.result.now, slice_get_read c.args.self.now.rules.items _ _ _ refl (omega (arith, c.args.self.now.rules.ok.0)) c.index-found.ensures, c.if-found-part.true, inl (search rules))

pub returns-else-eq : goal.returns-else-eq
returns-else-eq c h =
    let begins = c.begins.ensures h in
    (c.index-found.result.now, slice_get_read c.args.self.now.rules.items _ _ _ refl (omega (arith, c.args.self.now.rules.ok.0)) c.index-found.ensures, c.if-found-part.true, inr (rw c.deref.ensures.value at begins))
