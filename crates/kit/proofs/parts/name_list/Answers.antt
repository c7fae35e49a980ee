use Rattle.std.proofs.Common.{option_map, refl, subst}
use Rattle.ir_names.specs.Identifier.{text_of}
use Rattle.kit.specs.Parts.{AreGivenNameParts}
use Rattle.kit.proofs.AttributeParts.{pairs_next, pairs_all, pairs_mapped}
use Rattle.kit.proofs.parts.name_list.Goals as goal

pub loop-name-preserved : goal.loop-name-preserved
loop-name-preserved c =
    pairs_next (λ m o. AreGivenNameParts m.items (option_map text_of o)) c.loop-name.members.items c.push.new.self.items c.args.names.now c.loop-name.name-index c.in_ok-given_name_parts.field-0 c.name-item.result c.loop-name-test.true c.in_ok-push.ensures.items c.loop-name.invariant
    (subst (λ o. AreGivenNameParts c.in_ok-given_name_parts.field-0.items (option_map text_of o)) c.name-item.is c.in_ok-given_name_parts.ensures)

pub returns : goal.returns
returns c = (
  c.loop-name.members,
  refl,
  pairs_mapped (λ m o. AreGivenNameParts m.items o) (option_map text_of) c.loop-name.members.items c.args.names.now
      (pairs_all (λ m o. AreGivenNameParts m.items (option_map text_of o)) c.loop-name.members.items c.args.names.now c.loop-name.name-index c.loop-name-test.false c.loop-name.invariant),
)
