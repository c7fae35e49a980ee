use Rattle.std.proofs.Common.{rules, tests, ◌∙◌, sym, eqb}
use Rattle.std.proofs.lemmas.Iterator.{YieldsList-from_slice}
use Rattle.std.proofs.lemmas.Iterator.Search.{find_from_yields_List}
use Rattle.std.proofs.lemmas.List.Sorted.{answers_always}
use Rattle.std.proofs.lemmas.Map.Lookups.{exact_unsigned}
use Rattle.std.proofs.lemmas.Option.{slice_get-get_or}
use Rattle.ir_program.specs.declared.records.Definition.{Definition}
use Rattle.ir_program.proofs.defined.Found.{numbered-at, numbered-find}
use Rattle.ir_program.proofs.values.numbered.Goals as goal

pub returns-in-Ok : goal.returns-in-Ok
returns-in-Ok c =
    let found = c.in-Ok.ensures.position (λ (d : Definition). d.number) (answers_always _ _ _ (λ f a r g called. search rules)) in
    sym (numbered-at c.args.number c.args.definitions.now c.in-Ok.index _ c.requires.distinct (slice_get-get_or c.args.definitions.now c.in-Ok.index _ c.in-Ok.ensures.bound) (exact_unsigned _ _ (found _)))

pub returns : goal.returns
returns c =
    c.copied.ensures
    ∙ find_from_yields_List (λ (d : Definition). eqb d.number c.args.number) _ _ c.find.result c.find.ensures.ran (YieldsList-from_slice c.args.definitions.now c.iter.ensures.rest) (λ x b q k. search (rules, tests))
    ∙ sym (numbered-find c.args.number c.args.definitions.now)
