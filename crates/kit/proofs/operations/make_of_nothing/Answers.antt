use Rattle.std.proofs.Common.{◌≡◌, length, Some, sym, ap, ◌∙◌, arith}
use Rattle.std.proofs.lemmas.Bool.Decides.{nat_tests}
use Rattle.kit.specs.Forms.{Empty}
use Rattle.kit.proofs.Drafted.{drafted, empty_made}
use Rattle.kit.proofs.Keys.{equal_unit}
use Rattle.kit.proofs.operations.make_of_nothing.Goals as goal

pub returns-clause-made : goal.returns-clause-made
returns-clause-made c =
    let key = c.in_ok-ty.ensures.key in
    let e = sym c.is_empty.ensures ∙ c.if-not-is_empty.false in
    let none : length c.args.parts.now ≡ 0 = grind (arith, nat_tests) in
    drafted Empty c.args.parts.now c.args.ctx.now.types.keys c.instantiate_key.new.self.types.keys _ _ _ _ (empty_made c.args.parts.now c.args.ctx.now.types.keys c.instantiate_key.new.self.types.keys c.in_ok-ty.ty none (key.1 ∙ ap Some (equal_unit key.0 key.2)))
    (c.draft.ensures.attributes ∙ c.new.ensures) (ap (λ v. v.items) c.draft.ensures.types ∙ c.in_ok-result_types.ensures.items)
