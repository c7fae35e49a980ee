-- What is decided, by the facts that are kept by numbers.
use Rattle.std.proofs.Common.{◌≡◌, false, true, sym, ◌∙◌}
use Rattle.opt_inside.specs.Numbered.{numbers_of}
use Rattle.opt_sccp.proofs.Decided.{placed, live, numbered_there, lacking, decided, types_known}
use Rattle.opt_sccp.proofs.Definitions.{are_defined}
use Rattle.opt_sccp.proofs.propagating.decide_inside.Goals as goal

pub is_lacking-requires : goal.is_lacking-requires
is_lacking-requires g c = numbered_there g.D.Meanings.meaning c.args.program.now c.args.op (record { operations_once = c.know_lists.ensures.operations_once; blocks_once = c.know_lists.ensures.blocks_once; regions_once = c.know_lists.ensures.regions_once; operations = c.know_lists.ensures.operations; blocks = c.know_lists.ensures.blocks; apart = c.know_lists.ensures.operation_apart }) (are_defined c.args.program.now c.know_values.ensures.definer c.know_values.ensures.typed c.know_values.ensures.stands) (numbers_of c.args.inside.now) c.requires.numbered

pub returns-then-is_lacking-clause-lacking : goal.returns-then-is_lacking-clause-lacking
returns-then-is_lacking-clause-lacking g c e = lacking g.D.Meanings.meaning c.args.program.now c.args.op (record { operations_once = c.know_lists.ensures.operations_once; blocks_once = c.know_lists.ensures.blocks_once; regions_once = c.know_lists.ensures.regions_once; operations = c.know_lists.ensures.operations; blocks = c.know_lists.ensures.blocks; apart = c.know_lists.ensures.operation_apart }) (are_defined c.args.program.now c.know_values.ensures.definer c.know_values.ensures.typed c.know_values.ensures.stands) (numbers_of c.args.inside.now) c.requires.numbered c.in_ok-facts.facts.runs.items c.in_ok-facts.facts.known.items c.in_ok-facts.ensures
    (λ t stands. record { stands = stands; sound = c.know_occurrences.ensures.sound t stands; found = c.know_occurrences.ensures.found t stands; blocks_sound = c.know_occurrences.ensures.blocks_sound t stands; blocks_found = c.know_occurrences.ensures.blocks_found t stands }) (λ k h. (c.is_lacking.ensures k h).0 c.if-is_lacking.true)

pub made_constants-requires-clause-placed : goal.made_constants-requires-clause-placed
made_constants-requires-clause-placed g c = placed g.D.Meanings.meaning c.args.program.now c.args.op (record { operations_once = c.know_lists.ensures.operations_once; blocks_once = c.know_lists.ensures.blocks_once; regions_once = c.know_lists.ensures.regions_once; operations = c.know_lists.ensures.operations; blocks = c.know_lists.ensures.blocks; apart = c.know_lists.ensures.operation_apart }) (are_defined c.args.program.now c.know_values.ensures.definer c.know_values.ensures.typed c.know_values.ensures.stands) (numbers_of c.args.inside.now) c.requires.numbered

pub made_constants-requires-clause-live : goal.made_constants-requires-clause-live
made_constants-requires-clause-live g c = live g.D.Meanings.meaning c.args.program.now c.args.op (record { operations_once = c.know_lists.ensures.operations_once; blocks_once = c.know_lists.ensures.blocks_once; regions_once = c.know_lists.ensures.regions_once; operations = c.know_lists.ensures.operations; blocks = c.know_lists.ensures.blocks; apart = c.know_lists.ensures.operation_apart }) (are_defined c.args.program.now c.know_values.ensures.definer c.know_values.ensures.typed c.know_values.ensures.stands) (numbers_of c.args.inside.now) c.requires.numbered c.know_values.ensures.typed

pub returns-clause-decided : goal.returns-clause-decided
returns-clause-decided g c = decided g.D.Meanings.meaning c.args.program.now c.args.op (record { operations_once = c.know_lists.ensures.operations_once; blocks_once = c.know_lists.ensures.blocks_once; regions_once = c.know_lists.ensures.regions_once; operations = c.know_lists.ensures.operations; blocks = c.know_lists.ensures.blocks; apart = c.know_lists.ensures.operation_apart }) (are_defined c.args.program.now c.know_values.ensures.definer c.know_values.ensures.typed c.know_values.ensures.stands) (numbers_of c.args.inside.now) c.requires.numbered c.in_ok-facts.facts.runs.items c.in_ok-facts.facts.known.items c.in_ok-facts.ensures
    (λ t stands. record { stands = stands; sound = c.know_occurrences.ensures.sound t stands; found = c.know_occurrences.ensures.found t stands; blocks_sound = c.know_occurrences.ensures.blocks_sound t stands; blocks_found = c.know_occurrences.ensures.blocks_found t stands }) c.in_ok-made.made.items c.in_ok-made.ensures c.know_tree.ensures c.know_taken.ensures
    (λ k h a. let e : false ≡ true = sym c.if-is_lacking.false ∙ (c.is_lacking.ensures k h).1 a in cc)

pub returns-clause-known : goal.returns-clause-known
returns-clause-known g c = types_known g.D.Meanings.meaning c.args.program.now c.args.op (record { operations_once = c.know_lists.ensures.operations_once; blocks_once = c.know_lists.ensures.blocks_once; regions_once = c.know_lists.ensures.regions_once; operations = c.know_lists.ensures.operations; blocks = c.know_lists.ensures.blocks; apart = c.know_lists.ensures.operation_apart }) (are_defined c.args.program.now c.know_values.ensures.definer c.know_values.ensures.typed c.know_values.ensures.stands) (numbers_of c.args.inside.now) c.requires.numbered c.in_ok-facts.facts.runs.items c.in_ok-facts.facts.known.items c.in_ok-facts.ensures
    (λ t stands. record { stands = stands; sound = c.know_occurrences.ensures.sound t stands; found = c.know_occurrences.ensures.found t stands; blocks_sound = c.know_occurrences.ensures.blocks_sound t stands; blocks_found = c.know_occurrences.ensures.blocks_found t stands }) c.in_ok-made.made.items c.in_ok-made.ensures c.know_tree.ensures
    g.met.D.OptDialect.lawful c.know_values.ensures.typed
