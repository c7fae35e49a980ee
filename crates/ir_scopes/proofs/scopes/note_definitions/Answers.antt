use Rattle.std.proofs.Common.{◌≡◌, Some, refl, get_or, sym, ◌∙◌, arith, slice_get}
use Rattle.std.proofs.lemmas.List.{get_or-set_other, length-set}
use Rattle.std.proofs.lemmas.Option.{slice_get-get_or, slice_get_within}
use Rattle.ir_scopes.specs.declared.sites.Site.{Site}
use Rattle.ir_scopes.proofs.Places.{written_more}
use Rattle.ir_scopes.proofs.scopes.note_definitions.Goals as goal

pub loop-number-preserved : goal.loop-number-preserved
loop-number-preserved c =
    let ds = c.args.definitions.now in
    let i = c.loop-number.number in
    let x : Site = get_or ds i (record { scope = 0; token = 0 }) in
    let here : slice_get ds i ≡ Some x = slice_get-get_or ds i _ c.loop-number-test.true in
    let now = c.loop-number.invariant in
    rw c.in_ok-set.ensures.set (record {
      noted = λ apart. written_more (λ s k v. v ≡ k) ds i x here c.loop-number.places i refl apart (now.noted apart);
      kept = λ k none. get_or-set_other c.loop-number.places x.token k i 0 (λ e. none i x (omega arith) here (sym e)) ∙ now.kept k (λ j s lt. none j s (omega (arith, lt)));
      many = length-set c.loop-number.places x.token i ∙ now.many;
    })

pub returns-clause-noted : goal.returns-clause-noted
returns-clause-noted c = λ apart j s at within.
    let there = slice_get_within c.args.definitions.now j s at in
    c.loop-number.invariant.noted apart j s (omega arith) at (omega (arith, c.loop-number.invariant.many))
