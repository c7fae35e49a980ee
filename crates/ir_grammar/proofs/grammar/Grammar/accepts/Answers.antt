use Rattle.std.proofs.Common.{◌≡◌, ◌∙◌, false, get_or, refl, sym, subst}
use Rattle.std.proofs.lemmas.List.{get_or_default, get_or_past}
use Rattle.ir_grammar.specs.Grammar.{accepted}
use Rattle.ir_grammar.proofs.Lookups.{got, past}
use Rattle.ir_grammar.proofs.grammar.Grammar.accepts.Goals as goal

pub returns-in-None : goal.returns-in-None
returns-in-None c =
    let none = past c.deref.result.now c.args.self.now.signs.items c.args.sign c.deref.ensures.value c.in-None.ensures.lookup.3 in
    subst (λ o. false ≡ accepted o c.args.kind) (sym none) refl

pub returns-in-None-get : goal.returns-in-None-get
returns-in-None-get c =
    let found = got c.deref.result.now c.args.self.now.signs.items c.args.sign c.in-Some.class.now c.deref.ensures.value c.in-Some.ensures.lookup.3.0 c.in-Some.ensures.lookup.1 in
    subst (λ o. false ≡ accepted o c.args.kind) (sym found)
    (subst (λ xs. false ≡ get_or xs c.args.kind false) c.deref-in-Some.ensures.value (sym (get_or_past c.deref-in-Some.result.now c.args.kind false c.in-None-get.ensures.lookup.3)))

pub returns-in-Some-get : goal.returns-in-Some-get
returns-in-Some-get c =
    let yes = c.in-Some-get.yes.now in
    let found = got c.deref.result.now c.args.self.now.signs.items c.args.sign c.in-Some.class.now c.deref.ensures.value c.in-Some.ensures.lookup.3.0 c.in-Some.ensures.lookup.1 in
    subst (λ o. yes ≡ accepted o c.args.kind) (sym found)
    (subst (λ xs. yes ≡ get_or xs c.args.kind false) c.deref-in-Some.ensures.value
    (c.in-Some-get.ensures.lookup.1 ∙ get_or_default c.deref-in-Some.result.now c.args.kind yes false c.in-Some-get.ensures.lookup.3.0))
