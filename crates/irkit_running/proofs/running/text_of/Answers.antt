use Rattle.std.proofs.Common.{refl}
use Rattle.std.specs.String.{string_bytes}
use Rattle.kit_language.specs.Language.{kit_language}
use Rattle.irkit_running.proofs.WrittenLemmas.{written, both_ok}
use Rattle.irkit_running.proofs.running.text_of.Goals as goal

pub print_module-requires : goal.print_module-requires
print_module-requires c = c.requires.holds.live

pub returns : goal.returns
returns c =
    let s = c.args.ctx.now in
    let own = c.know_own_text.ensures in
    let grammar = c.requires.grammar in
    let laid = c.print_module.ensures.layout kit_language refl own.holds.numbering own.tree own.holds.stands own.closed in
    let read = c.print_module.ensures.again kit_language c.kit_can_print.ensures refl grammar.0 grammar.1 own.holds.numbering own.tree own.holds.stands own.closed own.numbered in
    both_ok c.print_module.result laid read (λ text front again. written c.texts_have_one_verdict.ensures s c.args.root own (string_bytes text) c.requires.holds.rules front again)
