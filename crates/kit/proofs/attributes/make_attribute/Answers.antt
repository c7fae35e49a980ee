use Rattle.std.proofs.Common.{ap}
use Rattle.kit.proofs.Numbered.{number_of_attr, attribute_made, attribute_refused, attribute_made_of, attribute_refused_of}
use Rattle.kit.proofs.attributes.make_attribute.Goals as goal

pub returns-in-Integer-clause-made : goal.returns-in-Integer-clause-made
returns-in-Integer-clause-made c =
    attribute_made 0 c.args.kind c.args.parts.now c.args.ctx.now.types.keys c.make_integer.new.ctx.types.keys c.make_integer.result (ap number_of_attr c.in-Integer.is)
    (λ ps h. c.make_integer.ensures.made c.args.ctx.now.types.keys c.make_integer.new.ctx.types.keys ps h)

pub returns-in-Integer-clause-refused : goal.returns-in-Integer-clause-refused
returns-in-Integer-clause-refused c = λ i f.
    attribute_refused 0 c.args.kind c.args.parts.now c.args.ctx.now.types.keys i (ap number_of_attr c.in-Integer.is) (λ ps h. c.make_integer.ensures.refused c.args.ctx.now.types.keys ps h i f)

pub returns-in-Identifier-clause-made : goal.returns-in-Identifier-clause-made
returns-in-Identifier-clause-made c = attribute_made_of 1 c.args.kind c.args.parts.now c.args.ctx.now.types.keys c.make_identifier.result (ap number_of_attr c.in-Identifier.is) c.make_identifier.ensures.made

pub returns-in-Identifier-clause-refused : goal.returns-in-Identifier-clause-refused
returns-in-Identifier-clause-refused c = λ i f. attribute_refused_of 1 c.args.kind c.args.parts.now c.args.ctx.now.types.keys i (ap number_of_attr c.in-Identifier.is) (c.make_identifier.ensures.refused i f)

pub returns-in-Type-clause-made : goal.returns-in-Type-clause-made
returns-in-Type-clause-made c = attribute_made_of 2 c.args.kind c.args.parts.now c.args.ctx.now.types.keys c.make_type.result (ap number_of_attr c.in-Type.is) c.make_type.ensures.made

pub returns-in-Type-clause-refused : goal.returns-in-Type-clause-refused
returns-in-Type-clause-refused c = λ i f. attribute_refused_of 2 c.args.kind c.args.parts.now c.args.ctx.now.types.keys i (ap number_of_attr c.in-Type.is) (c.make_type.ensures.refused i f)

pub returns-in-SegmentSizes-clause-made : goal.returns-in-SegmentSizes-clause-made
returns-in-SegmentSizes-clause-made c = attribute_made_of 3 c.args.kind c.args.parts.now c.args.ctx.now.types.keys c.make_sizes.result (ap number_of_attr c.in-SegmentSizes.is) c.make_sizes.ensures.made

pub returns-in-SegmentSizes-clause-refused : goal.returns-in-SegmentSizes-clause-refused
returns-in-SegmentSizes-clause-refused c = λ i f. attribute_refused_of 3 c.args.kind c.args.parts.now c.args.ctx.now.types.keys i (ap number_of_attr c.in-SegmentSizes.is) (c.make_sizes.ensures.refused i f)

pub returns-in-GivenNames-clause-made : goal.returns-in-GivenNames-clause-made
returns-in-GivenNames-clause-made c = attribute_made_of 4 c.args.kind c.args.parts.now c.args.ctx.now.types.keys c.make_names.result (ap number_of_attr c.in-GivenNames.is) c.make_names.ensures.made

pub returns-in-GivenNames-clause-refused : goal.returns-in-GivenNames-clause-refused
returns-in-GivenNames-clause-refused c = λ i f. attribute_refused_of 4 c.args.kind c.args.parts.now c.args.ctx.now.types.keys i (ap number_of_attr c.in-GivenNames.is) (c.make_names.ensures.refused i f)

pub returns-in-Note-clause-made : goal.returns-in-Note-clause-made
returns-in-Note-clause-made c = attribute_made_of 5 c.args.kind c.args.parts.now c.args.ctx.now.types.keys c.make_note.result (ap number_of_attr c.in-Note.is) c.make_note.ensures.made

pub returns-in-Note-clause-refused : goal.returns-in-Note-clause-refused
returns-in-Note-clause-refused c = λ i f. attribute_refused_of 5 c.args.kind c.args.parts.now c.args.ctx.now.types.keys i (ap number_of_attr c.in-Note.is) (c.make_note.ensures.refused i f)

pub returns-in-Origin-clause-made : goal.returns-in-Origin-clause-made
returns-in-Origin-clause-made c = attribute_made_of 6 c.args.kind c.args.parts.now c.args.ctx.now.types.keys c.make_origin.result (ap number_of_attr c.in-Origin.is) c.make_origin.ensures.made

pub returns-in-Origin-clause-refused : goal.returns-in-Origin-clause-refused
returns-in-Origin-clause-refused c = λ i f. attribute_refused_of 6 c.args.kind c.args.parts.now c.args.ctx.now.types.keys i (ap number_of_attr c.in-Origin.is) (c.make_origin.ensures.refused i f)
