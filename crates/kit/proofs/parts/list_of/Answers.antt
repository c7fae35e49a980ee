use Rattle.std.proofs.Common.{[], ◌∷◌, map, refl, ap, ◌∙◌}
use Rattle.std.proofs.lemmas.List.{take_all}
use Rattle.ir_print.specs.declared.format.Part.TheVariants as part
use Rattle.kit.proofs.parts.list_of.Goals as goal

pub returns : goal.returns
returns c = (c.loop-ty.members, refl, c.loop-ty.invariant ∙ ap (map (λ ty. part.Type ty ∷ [])) (take_all _ _ c.loop-ty-test.false))
