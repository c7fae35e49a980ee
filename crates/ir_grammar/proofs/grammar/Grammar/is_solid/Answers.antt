use Rattle.std.proofs.Common.{◌≡◌, false, refl, sym, subst}
use Rattle.ir_grammar.specs.Table.{is_solid}
use Rattle.ir_grammar.proofs.Lookups.{got, past, is_nothing}
use Rattle.ir_grammar.proofs.grammar.Grammar.is_solid.Goals as goal

pub returns-in-None : goal.returns-in-None
returns-in-None c =
    let none = past c.deref.result.now c.args.self.now.parts.items c.args.part c.deref.ensures.value c.in-None.ensures.lookup.3 in
    subst (λ o. false ≡ is_solid o) (sym none) refl

pub returns-in-Some : goal.returns-in-Some
returns-in-Some c =
    let found = got c.deref.result.now c.args.self.now.parts.items c.args.part c.in-Some.facts.now c.deref.ensures.value c.in-Some.ensures.lookup.3.0 c.in-Some.ensures.lookup.1 in
    subst (λ o. c.is_none.result ≡ is_solid o) (sym found) (is_nothing c.in-Some.facts.now.closing c.is_none.result c.is_none.ensures)
