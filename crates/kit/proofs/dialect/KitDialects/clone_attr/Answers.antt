use Rattle.std.proofs.Common.{◌≡◌, true, sym, ap, ◌∙◌, subst}
use Rattle.kit_ops.specs.declared.attributes.KitAttr.{KitAttr}
use Rattle.kit_ops.specs.declared.attributes.KitAttr.TheVariants.{GivenNames}
use Rattle.kit_ops.specs.contracts.attributes.KitAttrPartialEq.TheImpl as of_attributes
use Rattle.kit.specs.Names.{texts, names_equal}
use Rattle.kit.proofs.dialect.KitDialects.clone_attr.Goals as goal

pub returns-in_ok-clone_names-in-GivenNames : goal.returns-in_ok-clone_names-in-GivenNames
returns-in_ok-clone_names-in-GivenNames c =
    let copy = c.in_ok-clone_names-in-GivenNames.field-0 in
    subst (λ (a : KitAttr). of_attributes.eq-value.it (GivenNames copy) a ≡ true) (sym c.in-GivenNames.is)
    (names_equal copy c.in-GivenNames.names
    (c.in_ok-clone_names-in-GivenNames.ensures ∙ ap texts c.deref-in-GivenNames.ensures.value))
