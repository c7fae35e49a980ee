use Rattle.std.proofs.Common.{ap, sym, ◌≡◌, ◌∙◌, true, false}
use Rattle.ir_tokens.specs.Tokens.{is_letter}
use Rattle.stream_tokens.proofs.scan.Scan.word.Goals.{then-next-ne46-via-then-next-ne46, then-next-ne46-via-else-next-ne46+then-not-is_letter}
use Rattle.stream_tokens.proofs.Fronts.{only_name_front, dotted_taken}
use Rattle.stream_tokens.proofs.scan.Scan.word.Goals as goal

pub returns-then-next-ne46 : goal.returns-then-next-ne46
returns-then-next-ne46 c = only_name_front c.args.self.now c.requires.empty c.take_name.new.self c.in_ok-take_name.ensures c.requires.letter
    (λ point letter. elim c.then-next-ne46.branch [
      | then-next-ne46-via-then-next-ne46 w ↦ w.if-next-ne46.true (c.next.ensures ∙ point)
      | then-next-ne46-via-else-next-ne46+then-not-is_letter w ↦ (let no : true ≡ false = sym letter ∙ (ap is_letter (sym w.second.ensures) ∙ (sym w.is_letter.ensures ∙ w.if-not-is_letter.true)) in cc)
    ])

pub returns : goal.returns
returns c = dotted_taken c.args.self.now c.requires.empty c.take_name.new.self c.take.new.self c.take_name-2.new.self c.in_ok-take.field-0 c.in_ok-take_name.ensures c.requires.letter
    (sym c.next.ensures ∙ c.if-next-ne46.false) (ap is_letter (sym c.second.ensures) ∙ (sym c.is_letter.ensures ∙ c.if-not-is_letter.false))
    c.take.ensures.start c.in_ok-take.ensures.taken c.in_ok-take_name-2.ensures
