use Rattle.ir_characters.specs.Texts.{codes_of}
use Rattle.ir_tokens.proofs.TokenLongest.{name_longest, dotted_longest, goes_on}
use Rattle.ir_tokens.proofs.scan.word_end.Goals as goal

pub returns-then-has_second_name : goal.returns-then-has_second_name
returns-then-has_second_name c =
    let dot = c.if-has_second_name.ensures in
    let first = c.name_end-end.ensures in
    let second = c.name_end.ensures in
    let begun = goes_on (codes_of c.args.chars) c.args.at c.name_end-end.result c.requires.letter first.after first.stops in
    let more = goes_on (codes_of c.args.chars) _ c.name_end.result dot.1 second.after second.stops in
    record {
      inside = second.inside;
      spelled = (c.name_end-end.result, (begun, c.requires.letter, first.runs), dot.0, (more, dot.1, second.runs));
      longest = dotted_longest (codes_of c.args.chars) c.args.at c.name_end-end.result c.name_end.result c.requires.letter begun first.runs dot.0 more second.runs second.stops;
    }

pub returns-else-has_second_name : goal.returns-else-has_second_name
returns-else-has_second_name c =
    let first = c.name_end-end.ensures in
    let begun = goes_on (codes_of c.args.chars) c.args.at c.name_end-end.result c.requires.letter first.after first.stops in
    record {
      inside = first.inside;
      spelled = (begun, c.requires.letter, first.runs);
      longest = name_longest (codes_of c.args.chars) c.args.at c.name_end-end.result c.requires.letter begun first.runs first.stops c.if-has_second_name.ensures;
    }
