use Rattle.text_locations.specs.Texts.{AnsweredTexts}
use Rattle.text_locations.proofs.AbsentLemmas.{absent}
use Rattle.text_locations.proofs.TextLemmas.{text_is}
use Rattle.text_locations.proofs.locations.location.Goals as goal

pub returns-in-Ok-clause-text : goal.returns-in-Ok-clause-text
returns-in-Ok-clause-text g c =
    text_is g.F.FnMut 64 (c.args.attribute, c.args.stream.now) c.in-Ok.location (c.location_by.new.attribute, c.location_by.new.stream) c.in-Ok.ensures.read

pub returns-clause-absent : goal.returns-clause-absent
returns-clause-absent g c = λ e k. absent g.F.FnMut (AnsweredTexts g.F.FnMut) 64 (c.args.attribute, c.args.stream.now) c.in-Err.fault c.in-Err.ensures.read e k
