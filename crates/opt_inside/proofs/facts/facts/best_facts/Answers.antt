use Rattle.opt_rows.specs.declared.known.Known.TheVariants.{Undetermined}
use Rattle.opt_inside.specs.Numbered.{numbers_of}
use Rattle.opt_inside.proofs.FactsLemmas.Setting.{is_set}
use Rattle.opt_inside.proofs.FactsLemmas.Occurs.{occurs_by}
use Rattle.opt_inside.proofs.FactsLemmas.Transport.{transported, first_are}
use Rattle.opt_inside.proofs.facts.facts.best_facts.Goals as goal

pub returns : goal.returns
returns g c =
    let d = g.D.Meanings.meaning in
    let n = numbers_of c.args.inside.now in
    let solution = c.in_ok-solution.solution in
    let solved = c.in_ok-solution.ensures in
    let known = c.know_occurrences.ensures in
    let lists = c.know_lists.ensures in
    transported d c.args.program.now c.args.op n solved.problem (is_set _ c.args.program.now c.args.op n solved.problem g.met.D.OptDialect.lawful lists.blocks lists.regions c.requires.numbered c.requires.edges solved.numbered)
    (occurs_by c.args.program.now c.args.op known.sound known.found known.one known.blocks_sound known.blocks_found known.blocks_one known.site known.defined)
    solution.runs.items c.in_ok-runs.runs.items solution.known.items c.in_ok-known.known.items
    solved.precise
    (first_are c.len.result _ c.deref.result.now _ c.in_ok-runs.runs.items _ c.len.ensures.len c.deref.ensures.value c.in_ok-runs.ensures.len c.in_ok-runs.ensures.items)
    (first_are c.len-2.result _ c.deref-2.result.now _ c.in_ok-known.known.items Undetermined c.len-2.ensures.len c.deref-2.ensures.value c.in_ok-known.ensures.len c.in_ok-known.ensures.items)
