use Rattle.std.proofs.Common.{◌≡◌, ◌∙◌, None, get_or, refl, sym, subst}
use Rattle.std.proofs.lemmas.List.{get_or_default, get_or_past}
use Rattle.ir_grammar.specs.Table.{chosen}
use Rattle.ir_grammar.proofs.Lookups.{got, past}
use Rattle.ir_grammar.proofs.grammar.Grammar.pick.Goals as goal

pub returns-in-None : goal.returns-in-None
returns-in-None c =
    let none = past c.deref.result.now c.args.self.now.parts.items c.args.part c.deref.ensures.value c.in-None.ensures.lookup.3 in
    subst (λ o. None ≡ chosen o c.args.column) (sym none) refl

pub returns-in-None-get : goal.returns-in-None-get
returns-in-None-get c =
    let found = got c.deref.result.now c.args.self.now.parts.items c.args.part c.in-Some.facts.now c.deref.ensures.value c.in-Some.ensures.lookup.3.0 c.in-Some.ensures.lookup.1 in
    subst (λ o. None ≡ chosen o c.args.column) (sym found)
    (subst (λ xs. None ≡ get_or xs c.args.column None) c.deref-in-Some.ensures.value (sym (get_or_past c.deref-in-Some.result.now c.args.column None c.in-None-get.ensures.lookup.3)))

pub returns-in-Some-get : goal.returns-in-Some-get
returns-in-Some-get c =
    let choice = c.in-Some-get.choice.now in
    let found = got c.deref.result.now c.args.self.now.parts.items c.args.part c.in-Some.facts.now c.deref.ensures.value c.in-Some.ensures.lookup.3.0 c.in-Some.ensures.lookup.1 in
    subst (λ o. choice ≡ chosen o c.args.column) (sym found)
    (subst (λ xs. choice ≡ get_or xs c.args.column None) c.deref-in-Some.ensures.value
    (c.in-Some-get.ensures.lookup.1 ∙ get_or_default c.deref-in-Some.result.now c.args.column choice None c.in-Some-get.ensures.lookup.3.0))
