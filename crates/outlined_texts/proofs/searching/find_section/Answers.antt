use Rattle.std.proofs.Common.{arith, sym, ◌∙◌, ap}
use Rattle.std.specs.Char.{is_whitespace}
use Rattle.ir_characters.specs.Texts.{codes_of}
use Rattle.ir_tokens.proofs.TokenSteps.{spells_after}
use Rattle.text_marking.proofs.Moved.{spells_from}
use Rattle.outlined_texts.proofs.SearchSteps.{found_at_bad, found_at_end, searches_gap, searches_more}
use Rattle.outlined_texts.proofs.searching.find_section.Goals as goal

pub loop-at-preserved-then-is_whitespace : goal.loop-at-preserved-then-is_whitespace
loop-at-preserved-then-is_whitespace c = searches_gap (codes_of c.args.text) c.loop-at.at c.loop-at.search (omega arith)
    (sym (c.if-is_whitespace.ensures ∙ ap is_whitespace c.at.ensures.character)) c.loop-at.invariant

pub after-search-requires-clause-ordered : goal.after-search-requires-clause-ordered
after-search-requires-clause-ordered c = spells_from (codes_of c.args.text) _ _ _ c.token_at-token.ensures.token.spelled

pub returns-in-Bad : goal.returns-in-Bad
returns-in-Bad c = found_at_bad (codes_of c.args.text) c.loop-at.at c.token_at-token.result c.loop-at.search c.after-search.result
    c.token_at-token.ensures.start c.token_at-token.ensures.token c.in-Bad.is c.after-search.ensures c.loop-at.invariant

pub loop-at-smaller : goal.loop-at-smaller
loop-at-smaller c =
    let token = c.token_at-token.ensures.token in
    let some = spells_after (codes_of c.args.text) c.token_at-token.result.start c.token_at-token.result.end c.token_at-token.result.kind token.spelled c.in_default.not-Bad in
    omega arith

pub loop-at-preserved : goal.loop-at-preserved
loop-at-preserved c = searches_more (codes_of c.args.text) c.loop-at.at c.token_at-token.result c.loop-at.search c.after-search.result
    c.token_at-token.ensures.start c.token_at-token.ensures.token c.in_default.not-Bad c.after-search.ensures c.loop-at.invariant

pub returns : goal.returns
returns c = found_at_end (codes_of c.args.text) c.loop-at.at c.loop-at.search (omega arith) c.loop-at.invariant
