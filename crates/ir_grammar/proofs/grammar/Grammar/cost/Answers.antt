use Rattle.std.proofs.Common.{◌≡◌, refl, sym, subst}
use Rattle.ir_grammar.specs.Table.{cost_of}
use Rattle.ir_grammar.proofs.Lookups.{got, past}
use Rattle.ir_grammar.proofs.grammar.Grammar.cost.Goals as goal

pub returns-in-None : goal.returns-in-None
returns-in-None c =
    let none = past c.deref.result.now c.args.self.now.parts.items c.args.part c.deref.ensures.value c.in-None.ensures.lookup.3 in
    subst (λ o. 0 ≡ cost_of o) (sym none) refl

pub returns-in-Some : goal.returns-in-Some
returns-in-Some c =
    let found = got c.deref.result.now c.args.self.now.parts.items c.args.part c.in-Some.facts.now c.deref.ensures.value c.in-Some.ensures.lookup.3.0 c.in-Some.ensures.lookup.1 in
    subst (λ o. c.in-Some.facts.now.cost ≡ cost_of o) (sym found) refl
