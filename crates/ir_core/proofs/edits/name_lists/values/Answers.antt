use Rattle.std.proofs.Common.{◌<◌, length, sym, ◌∙◌, arith}
use Rattle.std.proofs.lemmas.Option.{slice_get-get_or, slice_get_within}
use Rattle.ir_core.specs.edits.Naming.{value_named}
use Rattle.ir_core.proofs.EditsLemmas.Lists.{named-more}
use Rattle.ir_core.proofs.EditsLemmas.Named.{none_no_some}
use Rattle.ir_core.proofs.edits.name_lists.values.Goals as goal

pub unreachable-requires : goal.unreachable-requires
unreachable-requires g c =
    let h = c.requires c.loop-name.name-index _ (slice_get-get_or _ _ _ c.loop-name-test.true) in
    none_no_some h.0 (sym c.in-None.is ∙ c.value.ensures ∙ h.1)

pub loop-name-preserved : goal.loop-name-preserved
loop-name-preserved g c = named-more (value_named c.args.ctx.now.program c.args.made.now) c.args.names.now c.loop-name.values.items c.push.new.self.items c.loop-name.name-index _ _ (slice_get-get_or _ _ _ c.loop-name-test.true)
    (sym c.value.ensures ∙ c.in-Some.is) c.in_ok-push-in-Some.ensures.items c.loop-name.invariant

pub returns : goal.returns
returns g c = record {
  count = omega (arith, c.loop-name.invariant.0);
  each = λ k x at. let lt : k < length c.args.names.now = slice_get_within c.args.names.now k x at in c.loop-name.invariant.1 k x (omega arith) at;
}
