use Rattle.std.proofs.Common.{◌≡◌, Some, sym, ap, ◌∙◌, subst}
use Rattle.ir_names.specs.Dictionary.{attribute_at}
use Rattle.kit_ops.specs.declared.attributes.KitAttr.TheVariants as attrs
use Rattle.kit.specs.Parts.{AreNameParts}
use Rattle.kit.proofs.operations.name_parts.Goals as goal

pub returns-in_ok-vec-in-Some-Identifier : goal.returns-in_ok-vec-in-Some-Identifier
returns-in_ok-vec-in-Some-Identifier c =
    let is : attribute_at c.args.attributes.now c.args.key.now ≡ Some (attrs.Identifier c.in-Some-Identifier.name) = sym c.in-Some-Identifier.ensures ∙ ap Some c.in-Some-Identifier.field-0-is in
    subst (λ o. AreNameParts o c.in_ok-vec-in-Some-Identifier.field-0.items) (sym is) (c.in_ok-try_clone-in-Some-Identifier.field-0, c.in_ok-try_clone-in-Some-Identifier.ensures, c.in_ok-vec-in-Some-Identifier.ensures.items)
