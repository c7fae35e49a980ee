use Rattle.std.proofs.Common.{refl, sym, ap, subst, ◌∙◌}
use Rattle.text_streams.specs.declared.faults.ParseFault.{ParseFault}
use Rattle.text_streams.specs.declared.faults.TextError.{TextError}
use Rattle.text_streams.specs.Positions.{left}
use Rattle.value_texts.specs.Only.{NoneFor, HasValue, IsDeepValue}
use Rattle.value_texts.proofs.Readings.{no_value}
use Rattle.value_texts.proofs.Taking.{value_read}
use Rattle.value_texts.proofs.values.value_parse.Goals as goal
use Rattle.value_texts.proofs.values.value_parse.Goals.{in-Memory, in-Text}

pub returns-in-Some-clause-read : goal.returns-in-Some-clause-read
returns-in-Some-clause-read g c =
    value_read g.M.ValueMaker.formats g.M.ValueMaker.values g.M.ValueMaker.leaf_in (g.M.ValueMaker.shows c.read_value.new.store) c.args.sort c.args.stream.now _ c.new-progress.result c.read_value.new.progress c.pop.new.self.items c.in-Some.part
    c.in_default.ensures.took c.new-progress.ensures.at c.new-progress.ensures.parts c.in-Some.ensures.items refl refl

pub returns-in-Err-clause-refused : goal.returns-in-Err-clause-refused
returns-in-Err-clause-refused g c = λ good.
    let at = c.args.stream.now.position in
    let Said = HasValue g.M.ValueMaker.formats g.M.ValueMaker.values g.M.ValueMaker.leaf_in c.args.sort (left at) in
    let Deep = IsDeepValue g.M.ValueMaker.formats g.M.ValueMaker.values g.M.ValueMaker.leaf_in c.args.sort (left at) in
    let none = no_value g.M.ValueMaker.formats g.M.ValueMaker.values g.M.ValueMaker.leaf_in c.args.sort at c.new-progress.result.at c.in-Err.fault good c.new-progress.ensures.at (c.in-Err.ensures.refuses 0) in
    elim c.match-fault.branch [
      | in-Memory w ↦ subst (λ (x : TextError). NoneFor x 64 Said Deep) (sym (ap (λ (r : ParseFault). r.cause) w.result-is ∙ w.fault.ensures.cause)) tt
      | in-Text w ↦ subst (λ (x : TextError). NoneFor x 64 Said Deep) (sym (ap (λ (r : ParseFault). r.cause) w.result-is ∙ w.fault_at.ensures)) (rw w.in-Text.is at none)
    ]
