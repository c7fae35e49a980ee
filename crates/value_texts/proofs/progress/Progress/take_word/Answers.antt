use Rattle.std.proofs.Common.{sym, refl, ◌∙◌}
use Rattle.ir_format_checks.specs.Tokens.{given}
use Rattle.value_texts.proofs.Columns.{not_taken}
use Rattle.value_texts.proofs.Places.{word_taken}
use Rattle.value_texts.proofs.progress.Progress.take_word.Goals as goal

pub returns-then-not-is_given : goal.returns-then-not-is_given
returns-then-not-is_given g c =
    let lexeme = rw c.in-Some.is at c.in_ok-token.ensures in
    (refl, not_taken c.args.self.now.at c.in-Some.token lexeme (given c.args.word.now) (sym c.is_given.ensures ∙ c.if-not-is_given.true))

pub returns : goal.returns
returns g c =
    let lexeme = rw c.in-Some.is at c.in_ok-token.ensures in
    word_taken c.args.word.now c.args.self.now _ c.in-Some.token lexeme (sym c.is_given.ensures ∙ c.if-not-is_given.false) refl refl
