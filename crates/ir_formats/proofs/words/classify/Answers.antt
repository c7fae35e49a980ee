use Rattle.ir_characters.specs.Texts.{codes_of}
use Rattle.ir_formats.specs.Words.{spellings}
use Rattle.ir_formats.proofs.Classifying.{classified_ended}
use Rattle.ir_formats.proofs.words.classify.Goals as goal

pub returns : goal.returns
returns c =
    classified_ended (spellings c.args.words.now) (codes_of c.args.chars) c.ended.result _ _ _
    c.ended.ensures.starts c.ended.ensures.kinds c.ended.ensures.names c.in_ok-end.ensures
