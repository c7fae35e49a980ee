use Rattle.std.proofs.Common.{◌≡◌, ◌≢◌, ◌∙◌, sym, subst, refl, ℕ, zero, suc, arith}
use Rattle.std.specs.Prelude.{IfOk}
use Rattle.std.proofs.lemmas.List.{get_or_read}
use Rattle.kit_flat.specs.Machine.{chosen}
use Rattle.kit_flat.specs.Shows.{TurnShows, along}
use Rattle.kit_flat.specs.declared.flat.FlatEdge.{FlatEdge}
use Rattle.kit_flat.proofs.interpreter.Running.branch.Goals as goal

on_zero : (n : ℕ) (otherwise taken : FlatEdge) → n ≡ 0 → otherwise ≡ chosen n otherwise taken
on_zero zero otherwise taken e = refl
on_zero (suc n) otherwise taken e = absurd (omega (arith, e))

on_other : (n : ℕ) (otherwise taken : FlatEdge) → n ≢ 0 → taken ≡ chosen n otherwise taken
on_other zero otherwise taken differs = absurd (differs refl)
on_other (suc n) otherwise taken differs = refl

pub returns-then-index-eq0 : goal.returns-then-index-eq0
returns-then-index-eq0 c =
    let x = get_or_read c.args.self.now.top.values.items c.args.condition c.index.result.now c.requires.within c.index.ensures 0 in
    subst (λ (e : FlatEdge). IfOk c.follow.result (TurnShows c.args.code.now.functions.items (along c.args.code.now.functions.items c.args.self.now e) c.follow.new.self))
    (on_zero _ c.args.otherwise.now c.args.taken.now (sym x ∙ c.if-index-eq0.true))
    c.follow.ensures

pub returns-else-index-eq0 : goal.returns-else-index-eq0
returns-else-index-eq0 c =
    let x = get_or_read c.args.self.now.top.values.items c.args.condition c.index.result.now c.requires.within c.index.ensures 0 in
    subst (λ (e : FlatEdge). IfOk c.follow-else-index-eq0.result (TurnShows c.args.code.now.functions.items (along c.args.code.now.functions.items c.args.self.now e) c.follow-else-index-eq0.new.self))
    (on_other _ c.args.otherwise.now c.args.taken.now (λ e. c.if-index-eq0.false (x ∙ e)))
    c.follow-else-index-eq0.ensures
