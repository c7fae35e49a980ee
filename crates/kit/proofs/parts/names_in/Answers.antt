use Rattle.std.proofs.Common.{◌≡◌, ◌∷◌, [], ◌∙◌, Some, map, option_map, sym, ap}
use Rattle.std.proofs.lemmas.List.{map-append}
use Rattle.ir_names.specs.Identifier.{text_of}
use Rattle.kit.specs.Making.{one_given_name, first_unread}
use Rattle.kit.proofs.AttributesMade.{members_next, member_unread}
use Rattle.kit.proofs.Made.{refused_at}
use Rattle.kit.proofs.parts.names_in.Goals as goal

pub returns-in_default-clause-refused : goal.returns-in_default-clause-refused
returns-in_default-clause-refused c =
    refused_at (λ i. first_unread one_given_name 0 c.args.members.now ≡ Some i) c.loop-number.number
    (member_unread one_given_name c.args.members.now c.loop-number.number c.index-members-number.result (map (option_map text_of) c.loop-number.names.items) c.loop-number-test.true c.index-members-number.is c.loop-number.invariant
    (sym (ap one_given_name c.as_slice.ensures.value) ∙ sym c.in_default.ensures))

pub loop-number-preserved : goal.loop-number-preserved
loop-number-preserved c =
    members_next one_given_name c.args.members.now c.loop-number.number c.index-members-number.result (map (option_map text_of) c.loop-number.names.items) (map (option_map text_of) c.push.new.self.items) (option_map text_of c.in_ok-copy_of.field-0)
    c.loop-number-test.true c.index-members-number.is c.loop-number.invariant (sym (ap one_given_name c.as_slice.ensures.value) ∙ (sym c.in-Some.ensures ∙ ap Some (sym c.in_ok-copy_of.ensures)))
    (ap (map (option_map text_of)) c.in_ok-push.ensures.items ∙ map-append (option_map text_of) c.loop-number.names.items (c.in_ok-copy_of.field-0 ∷ []))
