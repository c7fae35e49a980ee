use Rattle.std.proofs.Common.{arith, sym, ◌∙◌, ap}
use Rattle.std.specs.Char.{is_whitespace}
use Rattle.ir_characters.specs.Texts.{codes_of}
use Rattle.ir_tokens.proofs.TokenSteps.{spells_after}
use Rattle.text_marking.proofs.Steps.{separating_gap, separating_more, takes_at_bad, takes_at_end, unmarked_stays}
use Rattle.text_marking.proofs.taking.take_marks.Goals as goal

pub loop-at-preserved-then-is_whitespace : goal.loop-at-preserved-then-is_whitespace
loop-at-preserved-then-is_whitespace c = separating_gap (codes_of c.args.text) c.loop-at.at c.loop-at.taking (omega arith)
    (sym (c.if-is_whitespace.ensures ∙ ap is_whitespace c.at.ensures.character)) c.loop-at.invariant

pub returns-in-Bad-clause-taken : goal.returns-in-Bad-clause-taken
returns-in-Bad-clause-taken c =
    takes_at_bad (codes_of c.args.text) c.loop-at.at c.token_at-token.result c.loop-at.taking c.add.new.self c.token_at-token.ensures.start
    c.token_at-token.ensures.token c.in-Bad.is c.in_ok-add.ensures.taken c.loop-at.invariant

pub returns-in-Bad-clause-unmarked : goal.returns-in-Bad-clause-unmarked
returns-in-Bad-clause-unmarked c = unmarked_stays (codes_of c.args.text) c.add.new.self.taken (returns-in-Bad-clause-taken c)

pub loop-at-smaller : goal.loop-at-smaller
loop-at-smaller c =
    let token = c.token_at-token.ensures.token in
    let some = spells_after (codes_of c.args.text) c.token_at-token.result.start c.token_at-token.result.end c.token_at-token.result.kind token.spelled c.in_default.not-Bad in
    omega arith

pub loop-at-preserved : goal.loop-at-preserved
loop-at-preserved c =
    separating_more (codes_of c.args.text) c.loop-at.at c.token_at-token.result c.loop-at.taking c.add.new.self c.token_at-token.ensures.start
    c.token_at-token.ensures.token c.in_default.not-Bad c.add.ensures.others c.in_ok-add.ensures.taken c.loop-at.invariant

pub returns-clause-taken : goal.returns-clause-taken
returns-clause-taken c = takes_at_end (codes_of c.args.text) c.loop-at.at c.loop-at.taking (omega arith) c.loop-at.invariant

pub returns-clause-unmarked : goal.returns-clause-unmarked
returns-clause-unmarked c = unmarked_stays (codes_of c.args.text) c.loop-at.taking.taken (returns-clause-taken c)
