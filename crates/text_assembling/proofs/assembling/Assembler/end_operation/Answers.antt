use Rattle.std.proofs.Common.{rules, ◌≡◌, ◌∙◌, ◌-◌, ◌++◌, ◌∷◌, [], ℕ, List, length, ap, sym, Some, Err, refl, arith}
use Rattle.std.proofs.lemmas.List.{with_items_is, places}
use Rattle.std.proofs.lemmas.Result.{err_from_is_err_and}
use Rattle.std.specs.Global.{Global}
use Rattle.std.specs.Prelude.{Vec}
use Rattle.ir_forest.specs.Building.{names_fault}
use Rattle.ir_print.specs.Shown.{ShowsParts}
use Rattle.ir_program.specs.Program.{results_at}
use Rattle.ir_program.specs.declared.handles.BasicBlock.{BasicBlock}
use Rattle.ir_program.specs.declared.handles.IRNode.{IRNode}
use Rattle.ir_program.specs.declared.handles.Ptr.{Ptr}
use Rattle.ir_program.specs.declared.handles.DefiningEntity.TheVariants.{Op as ByOp}
use Rattle.ir_tokens.specs.declared.faults.FaultKind.TheVariants as faults
use Rattle.text_frames.proofs.BuildingLemmas.Linked.{values_seen}
use Rattle.text_frames.specs.building.Made.{lists_of}
use Rattle.text_dialect.specs.Seen.{seen}
use Rattle.text_frames.specs.Raised.{block_nodes}
use Rattle.text_frames.specs.Worlds.{joined}
use Rattle.text_frames.specs.Waiting.{Pending}
use Rattle.text_assembling.specs.Steps.{new_root}
use Rattle.text_assembling.proofs.Gathering.{errors_same}
use Rattle.text_frames.proofs.Defining.{results_made, values_made}
use Rattle.text_frames.proofs.Opening.{as_many, handed_on, interned_same, refused_at_part, shown_known}
use Rattle.text_assembling.proofs.Operating.{can_still, erased_so, gives_so, growth_full, makes_so, open_after, operation_full_so, payloads_so}
use Rattle.text_assembling.proofs.Undone.{on_err_any, same_both, seen_same, undone_so}
use Rattle.text_assembling.proofs.assembling.Assembler.end_operation.Goals as goal

pub returns-in_err-compare_names-clause-refused : goal.returns-in_err-compare_names-clause-refused
returns-in_err-compare_names-clause-refused g c ps ts shown tokens f e =
    let read : ShowsParts g.D.TextDialect.says c.args.ctx.now.types.keys c.deref.result.now ps = rw c.deref.ensures.value shown in
    let n = c.in_err-compare_names.ensures.fault in
    let many : length (g.D.TextDialect.values.result_types c.args.ended.kind ps) ≡ c.results_of-results.result = sym (c.results_of-results.ensures ps read) in
    let given = rw e at c.from_residual.ensures in
    let named : names_fault c.args.self.now.here.names.items c.args.first c.results_of-results.result (c.args.self.now.taken - 1) ≡ Some f = handed_on _ _ f n.0 n.1 n.2 given.1 in
    rw (many, named) refl

pub returns-in_err-compare_names-clause-undone : goal.returns-in_err-compare_names-clause-undone
returns-in_err-compare_names-clause-undone g c = on_err_any _ (undone_so _ _ _ _ (seen_same _) refl)

pub returns-in-Err-clause-refused : goal.returns-in-Err-clause-refused
returns-in-Err-clause-refused g c ps ts shown tokens f e =
    let read : ShowsParts g.D.TextDialect.says c.args.ctx.now.types.keys c.deref.result.now ps = rw c.deref.ensures.value shown in
    let here : ShowsParts g.D.TextDialect.says c.args.ctx.now.types.keys c.deref-2.result.now ps = rw c.deref-2.ensures.value shown in
    let many : length (g.D.TextDialect.values.result_types c.args.ended.kind ps) ≡ c.results_of-results.result = sym (c.results_of-results.ensures ps read) in
    let p = refused_at_part c.refused.result c.in-Err.fault faults.OtherConstant ts _ _
    (λ i is. c.in-Err.ensures.refused ps here i (ap Err is))
    (λ i is. c.refused.ensures.number ts i tokens is)
    c.refused.ensures.memory f (cc e) in
    rw (many, c.in_ok-compare_names.ensures.same, p.1) (ap Some (sym p.2))

pub returns-in-Err-clause-undone : goal.returns-in-Err-clause-undone
returns-in-Err-clause-undone g c = undone_so _ _ _ _ (interned_same c.args.ctx.now c.draft_of.new.ctx c.draft_of.ensures.program c.draft_of.ensures.types) refl

pub returns-in_err-reserve-clause-undone : goal.returns-in_err-reserve-clause-undone
returns-in_err-reserve-clause-undone g c = on_err_any _ (undone_so _ _ _ _ (interned_same c.args.ctx.now c.draft_of.new.ctx c.draft_of.ensures.program c.draft_of.ensures.types) refl)

pub returns-in_err-reserve-2-clause-undone : goal.returns-in_err-reserve-2-clause-undone
returns-in_err-reserve-2-clause-undone g c = on_err_any _ (undone_so _ _ _ _ (interned_same c.args.ctx.now c.draft_of.new.ctx c.draft_of.ensures.program c.draft_of.ensures.types) c.reserve-2.ensures.items)

pub make_operation-requires-clause-known : goal.make_operation-requires-clause-known
make_operation-requires-clause-known g c =
    let s = c.requires.shown in
    let here : ShowsParts g.D.TextDialect.says c.args.ctx.now.types.keys c.deref-2.result.now s.0 = rw c.deref-2.ensures.value s.1 in
    let m = c.in-Ok.ensures.made s.0 here in
    rw c.deref-3.ensures.value (shown_known _ _ _ _ m.2.typed)

pub make_operation-requires-clause-loose : goal.make_operation-requires-clause-loose
make_operation-requires-clause-loose g c =
    let can = can_still _ _ (interned_same c.args.ctx.now c.draft_of.new.ctx c.draft_of.ensures.program c.draft_of.ensures.types) _ _ c.requires.can in
    rw c.deref-4.ensures.value can.all_loose

pub make_operation-requires-clause-apart : goal.make_operation-requires-clause-apart
make_operation-requires-clause-apart g c = rw c.deref-4.ensures.value c.requires.can.apart

pub returns-in_err-op-clause-full : goal.returns-in_err-op-clause-full
returns-in_err-op-clause-full g c e =
    let s = c.requires.shown in
    let read : ShowsParts g.D.TextDialect.says c.args.ctx.now.types.keys c.deref.result.now s.0 = rw c.deref.ensures.value s.1 in
    let here : ShowsParts g.D.TextDialect.says c.args.ctx.now.types.keys c.deref-2.result.now s.0 = rw c.deref-2.ensures.value s.1 in
    let m = c.in-Ok.ensures.made s.0 here in
    let many = ap length c.deref-3.ensures.value ∙ (as_many _ _ _ m.2.typed ∙ (sym (c.results_of-results.ensures s.0 read) ∙ sym c.in_ok-compare_names.ensures.many)) in
    let p = err_from_is_err_and c.from_residual-in_err-op.result c.from_residual-in_err-op.ensures.1 in
    operation_full_so c.args.ctx.now.program c.draft_of.new.ctx.program c.draft_of.ensures.program _ _ many
    (c.in_err-op.ensures.full (ap Err (growth_full c.in_err-op.field-0.0 (sym p.2 ∙ errors_same (sym p.1 ∙ e)))))

pub returns-in_err-op-clause-undone : goal.returns-in_err-op-clause-undone
returns-in_err-op-clause-undone g c = on_err_any _ (undone_so _ _ _ _ (same_both _ _ _ (interned_same c.args.ctx.now c.draft_of.new.ctx c.draft_of.ensures.program c.draft_of.ensures.types) c.in_err-op.ensures.err) c.reserve-2.ensures.items)

pub returns-in_err-op-clause-types : goal.returns-in_err-op-clause-types
returns-in_err-op-clause-types g c = rw c.make_operation.ensures.types c.draft_of.ensures.types

pub push_reserved-requires : goal.push_reserved-requires
push_reserved-requires g c =
    let room = c.in_ok-reserve.ensures.room in
    let wanted = room.1 in
    let wanted_labels = room.2 in
    let same = ap length c.deref-7.ensures.value in
    let same_labels = ap length c.deref-8.ensures.value in
    let many : c.len.result ≡ length c.args.ended.operands.items = search rules in
    let many_labels : c.len-2.result ≡ length c.args.ended.labels.items = search rules in
    (room.0, omega (arith, wanted, same, many), omega (arith, wanted_labels, same_labels, many_labels))

pub attach-requires-clause-block : goal.attach-requires-clause-block
attach-requires-clause-block g c =
    let can = can_still _ _ (interned_same c.args.ctx.now c.draft_of.new.ctx c.draft_of.ensures.program c.draft_of.ensures.types) _ _ c.requires.can in
    let made = makes_so _ _ _ _ _ _ _ _ _ _ _ refl refl (ap lists_of c.deref-4.ensures.value) c.in_ok-op.ensures.made in
    open_after _ _ _ _ _ _ _ _ made _ can

pub returns-clause-made : goal.returns-clause-made
returns-clause-made g c ps shown =
    let read : ShowsParts g.D.TextDialect.says c.args.ctx.now.types.keys c.deref.result.now ps = rw c.deref.ensures.value shown in
    let here : ShowsParts g.D.TextDialect.says c.args.ctx.now.types.keys c.deref-2.result.now ps = rw c.deref-2.ensures.value shown in
    let m = c.in-Ok.ensures.made ps here in
    let many : length (g.D.TextDialect.values.result_types c.args.ended.kind ps) ≡ c.results_of-results.result = sym (c.results_of-results.ensures ps read) in
    (m.0, rw many c.in_ok-compare_names.ensures.same)

pub returns-clause-ends : goal.returns-clause-ends
returns-clause-ends g c ps shown =
    let here : ShowsParts g.D.TextDialect.says c.args.ctx.now.types.keys c.deref-2.result.now ps = rw c.deref-2.ensures.value shown in
    let m = c.in-Ok.ensures.made ps here in
    let op = c.in_ok-op.op in
    let draft = c.in-Ok.draft in
    let count : c.draft_of.new.ctx.program.counter ≡ c.args.ctx.now.program.counter = ap (λ q. q.counter) c.draft_of.ensures.program in
    record {
      op = op;
      kind = draft.0;
      attributes = draft.1.attributes;
      result_types = draft.1.result_types.items;
      known = m.1;
      typed = seen c.draft_of.new.ctx;
      same = (interned_same c.args.ctx.now c.draft_of.new.ctx c.draft_of.ensures.program c.draft_of.ensures.types);
      forest = c.know_seen.ensures.forest;
      drafts = m.2;
      with_it = seen c.make_operation.new.ctx;
      makes = makes_so _ _ _ _ _ _ _ _ _ _ _ c.deref-3.ensures.value count (ap lists_of c.deref-4.ensures.value) c.in_ok-op.ensures.made;
      put = c.attach.ensures.put;
      defines = λ many. ap (λ v. v.items) c.attach.ensures.values ∙ (with_items_is c.args.self.now.made.values c.define_results.new.values (search (rules, places))
          ∙ values_made (ByOp op) c.args.ctx.now.program.counter (results_at c.make_operation.new.ctx.program op) c.deref-3.result.now draft.1.result_types.items
          c.deref-5.result.now c.args.self.now.here.numbers.items c.deref_mut.result.now c.args.self.now.made.values.items c.define_results.new.values
          (sym (values_seen c.make_operation.new.ctx (ByOp op)) ∙ results_made _ _ op _ _ c.deref-3.result.now _ _
          (makes_so _ _ _ _ _ _ _ _ _ _ _ refl count refl c.in_ok-op.ensures.made))
          c.deref-3.ensures.value c.deref-5.ensures.value c.deref_mut.ensures.value c.define_results.ensures many);
      numbers = c.attach.ensures.numbers;
      blocks = c.attach.ensures.labelled;
      pending = ap (λ v. v.items) c.attach.ensures.pending ∙ (c.push_reserved.ensures ∙ (ap (λ (xs : List Pending). xs ++ record { op = op; tokens = c.deref-7.result.now; labels = c.deref-8.result.now } ∷ []) c.reserve.ensures.items
          ∙ (ap (λ (ks : List ℕ). c.args.self.now.made.pending.items ++ record { op = op; tokens = ks; labels = c.deref-8.result.now } ∷ []) c.deref-7.ensures.value
          ∙ ap (λ (ls : List ℕ). c.args.self.now.made.pending.items ++ record { op = op; tokens = c.args.ended.operands.items; labels = ls } ∷ []) c.deref-8.ensures.value)));
      root = c.attach.ensures.root;
      root_stays = c.attach.ensures.root_stays;
      loose = λ xs e. c.attach.ensures.loose ∙ ap (λ (ys : List IRNode). ys ++ new_root c.args.self.now.here.body op)
          (c.take_off.ensures.rest xs (c.reserve-2.ensures.items ∙ (e ∙ ap (λ (rs : List (Vec (Ptr BasicBlock) Global)). xs ++ block_nodes (joined (lists_of rs))) (sym c.deref-6.ensures.value))));
    }

pub returns-clause-given : goal.returns-clause-given
returns-clause-given g c =
    let s = c.requires.shown in
    let read : ShowsParts g.D.TextDialect.says c.args.ctx.now.types.keys c.deref.result.now s.0 = rw c.deref.ensures.value s.1 in
    let here : ShowsParts g.D.TextDialect.says c.args.ctx.now.types.keys c.deref-2.result.now s.0 = rw c.deref-2.ensures.value s.1 in
    let m = c.in-Ok.ensures.made s.0 here in
    let many = ap length c.deref-3.ensures.value ∙ (as_many _ _ _ m.2.typed ∙ (sym (c.results_of-results.ensures s.0 read) ∙ sym c.in_ok-compare_names.ensures.many)) in
    gives_so c.args.ctx.now.program c.draft_of.new.ctx.program c.draft_of.ensures.program _ _ _ _ many c.in_ok-op.ensures.numbers c.attach.ensures.given

pub returns-clause-types : goal.returns-clause-types
returns-clause-types g c = rw (c.attach.ensures.types, c.make_operation.ensures.types) c.draft_of.ensures.types

pub returns-clause-erased : goal.returns-clause-erased
returns-clause-erased g c = erased_so c.args.ctx.now.program c.draft_of.new.ctx.program c.draft_of.ensures.program _ _ c.make_operation.ensures.erased c.attach.ensures.given.erased

pub returns-clause-payloads : goal.returns-clause-payloads
returns-clause-payloads g c = payloads_so c.args.ctx.now.program c.draft_of.new.ctx.program c.draft_of.ensures.program _ _ c.make_operation.ensures.payloads c.attach.ensures.given.payloads
