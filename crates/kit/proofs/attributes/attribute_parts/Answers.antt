use Rattle.std.proofs.Common.{map, option_map, subst}
use Rattle.ir_names.specs.Identifier.{text_of}
use Rattle.ir_names.specs.Tree.{node}
use Rattle.ir_print.specs.declared.format.ValueSort.TheVariants as sorts
use Rattle.ir_print.specs.Pieces.{value_of_kind}
use Rattle.ir_print.specs.Shown.{ShowsAttribute}
use Rattle.kit.specs.Parts.{IsListOf, AreSizeParts, AreGivenNameParts}
use Rattle.kit.specs.Says.{says}
use Rattle.kit.proofs.AttributeParts.{sizes_parted, names_parted}
use Rattle.kit.proofs.attributes.attribute_parts.Goals as goal

pub returns-in_ok-vec-in-SegmentSizes : goal.returns-in_ok-vec-in-SegmentSizes
returns-in_ok-vec-in-SegmentSizes c = λ types n ps h.
    let list = subst (λ ns. IsListOf AreSizeParts ns c.in_ok-size_list-in-SegmentSizes.field-0) c.deref.ensures.value c.in_ok-size_list-in-SegmentSizes.ensures in
    sizes_parted _ types c.in-SegmentSizes.sizes c.in_ok-size_list-in-SegmentSizes.field-0 c.in_ok-vec-in-SegmentSizes.field-0.items n ps list c.in_ok-vec-in-SegmentSizes.ensures.items
    (subst (λ a. ShowsAttribute says types a (node (value_of_kind sorts.Attribute n) ps)) c.in-SegmentSizes.is h)

pub returns-in_ok-vec-in-GivenNames : goal.returns-in_ok-vec-in-GivenNames
returns-in_ok-vec-in-GivenNames c = λ types n ps h.
    let list = subst (λ os. IsListOf AreGivenNameParts (map (option_map text_of) os) c.in_ok-name_list-in-GivenNames.field-0) c.deref-in-GivenNames.ensures.value c.in_ok-name_list-in-GivenNames.ensures in
    names_parted _ types c.in-GivenNames.names c.in_ok-name_list-in-GivenNames.field-0 c.in_ok-vec-in-GivenNames.field-0.items n ps list c.in_ok-vec-in-GivenNames.ensures.items
    (subst (λ a. ShowsAttribute says types a (node (value_of_kind sorts.Attribute n) ps)) c.in-GivenNames.is h)
