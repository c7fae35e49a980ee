use Rattle.std.proofs.Common.{refl}
use Rattle.ir_print.specs.Formats.{a_leaf}
use Rattle.text_streams.specs.Positions.{left}
use Rattle.value_texts.specs.Only.{HasTextOf, IsDeepStep}
use Rattle.value_texts.proofs.Readings.{none_said, no_leaf}
use Rattle.value_texts.proofs.Taking.{leaf_one}
use Rattle.value_texts.proofs.steps.read_leaf.Goals as goal

pub leaf-requires-clause-spelled : goal.leaf-requires-clause-spelled
leaf-requires-clause-spelled g c =
    let took = rw c.in-Some.is at c.in_ok-token.ensures in
    (left c.in-Some.token.end, took.lexeme.next.longest.spelled)

pub returns-clause-took : goal.returns-clause-took
returns-clause-took g c = λ s d.
    let took = rw c.in-Some.is at c.in_ok-token.ensures in
    leaf_one g.M.ValueMaker.formats g.M.ValueMaker.values g.M.ValueMaker.leaf_in d (g.M.ValueMaker.shows s) c.args.sort c.args.progress.now _ c.in-Some.token c.in_ok-part.part took c.in_ok-put.ensures.parts refl
    (c.in_ok-part.ensures s)

pub returns-in_default-clause-refuses : goal.returns-in_default-clause-refuses
returns-in_default-clause-refuses g c = λ deepest lists good flat.
    let none = rw c.in_default.is at c.in_ok-token.ensures in
    none_said c.syntax.result deepest (HasTextOf g.M.ValueMaker.formats g.M.ValueMaker.values g.M.ValueMaker.leaf_in (a_leaf c.args.sort) (left c.args.progress.now.at)) (IsDeepStep g.M.ValueMaker.formats g.M.ValueMaker.values g.M.ValueMaker.leaf_in (a_leaf c.args.sort) (left c.args.progress.now.at)) c.syntax.ensures
    (no_leaf g.M.ValueMaker.formats g.M.ValueMaker.values g.M.ValueMaker.leaf_in c.args.sort (left c.args.progress.now.at) none)
