use Rattle.std.proofs.Common.{◌≡◌, [], ◌∷◌, map, take}
use Rattle.ir_print.specs.declared.format.Part.TheVariants as part
use Rattle.kit.proofs.parts.list_of.Given as goal

-- each of the types so far is a member
abbrev pub invariant-loop-ty : goal.invariant-loop-ty
invariant-loop-ty l = map (λ m. m.items) l.members.items ≡ map (λ ty. part.Type ty ∷ []) (take l.ty-index l.types)
