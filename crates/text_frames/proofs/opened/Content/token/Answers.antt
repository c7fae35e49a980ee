use Rattle.std.proofs.Common.{◌≡◌, ◌∙◌, ℕ, List, Option, Some, None, slice_get, refl, sym, ap, subst}
use Rattle.std.proofs.lemmas.Option.{slice_get_read, slice_get_past}
use Rattle.std.specs.Option.{unwrap_or}
use Rattle.std.proofs.lemmas.Option.{unwrap_or-slice_get}
use Rattle.ir_forest.specs.ValueFaults.{part_tokens}
use Rattle.text_frames.proofs.opened.Content.token.Goals as goal

pub returns-in-Some : goal.returns-in-Some
returns-in-Some g c ts e =
    let h = c.in-Some.ensures.lookup in
    let there = slice_get_read c.deref.result.now _ c.args.number c.in-Some.token.now refl h.3.0 h.1 in
    let at = subst (λ (xs : List ℕ). slice_get xs c.args.number ≡ Some c.in-Some.token.now) (c.deref.ensures.value ∙ e) there in
    sym (ap (λ (o : Option ℕ). unwrap_or o c.args.other) at) ∙ unwrap_or-slice_get (part_tokens ts) c.args.number c.args.other

pub returns-in-None : goal.returns-in-None
returns-in-None g c ts e =
    let past = slice_get_past c.deref.result.now c.args.number c.in-None.ensures.lookup.3 in
    let at = subst (λ (xs : List ℕ). slice_get xs c.args.number ≡ None) (c.deref.ensures.value ∙ e) past in
    sym (ap (λ (o : Option ℕ). unwrap_or o c.args.other) at) ∙ unwrap_or-slice_get (part_tokens ts) c.args.number c.args.other
