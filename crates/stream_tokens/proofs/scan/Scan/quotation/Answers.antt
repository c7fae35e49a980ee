use Rattle.std.proofs.Common.{subst}
use Rattle.stream_tokens.specs.Lexemes.{Closed}
use Rattle.stream_tokens.proofs.Fronts.{text_taken}
use Rattle.stream_tokens.proofs.scan.Scan.quotation.Goals as goal

pub returns-then-branch : goal.returns-then-branch
returns-then-branch c = text_taken c.args.self.now c.requires.empty c.take.new.self c.take_closed.new.self c.in_ok-take.field-0 c.requires.quote c.take.ensures.start c.in_ok-take.ensures.taken
    (subst (Closed c.take.new.self c.take_closed.new.self) c.if-branch.true c.in_ok-take_closed.ensures)
