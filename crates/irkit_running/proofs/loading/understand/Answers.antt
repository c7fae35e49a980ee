use Rattle.std.proofs.Common.{Err, ap, refl, subst, ◌∙◌, ◌∷◌, []}
use Rattle.ir_characters.specs.Texts.{codes_of}
use Rattle.ir_program.specs.declared.handles.IRNode.TheVariants.{Operation as OperationNode}
use Rattle.kit_checks.specs.Faults.{IsVerdict}
use Rattle.kit_checks.specs.World.{world_of}
use Rattle.kit_language.specs.Language.{kit_language}
use Rattle.text_frames.proofs.BuildingLemmas.Discarded.{used_since}
use Rattle.text_frames.proofs.BuildingLemmas.Numbers.{erased_both}
use Rattle.text_frames.proofs.BuildingLemmas.Shown.{payloads_since}
use Rattle.text_dialect.specs.Seen.{seen}
use Rattle.irkit_running.proofs.ReadLemmas.{undecoded, misread, misruled, accepted, said, root_there, seen_there}
use Rattle.irkit_running.proofs.loading.understand.Goals as goal

pub returns-in_err-chars-clause-understands : goal.returns-in_err-chars-clause-understands
returns-in_err-chars-clause-understands c = undecoded _ _ _ _ _ _ c.in_err-chars.was c.decode.ensures c.from_residual.ensures.1

pub returns-in_err-root-clause-understands : goal.returns-in_err-root-clause-understands
returns-in_err-root-clause-understands c =
    let decoded = c.in_ok-chars.ensures in
    misread c.args.bytes.items (codes_of c.as_text.result) c.args.ctx.now c.top_level_parse.new.ctx c.top_level_parse.result c.in_err-root.field-0.0 c.from_residual-in_err-root.result
    c.in_err-root.was c.from_residual-in_err-root.ensures.1 decoded.0 (c.as_text.ensures ∙ decoded.1) c.top_level_parse.ensures.fault c.top_level_parse.ensures.full c.top_level_parse.ensures.refused

pub know_holding-requires : goal.know_holding-requires
know_holding-requires c =
    let new = c.in_ok-root.ensures.read.new in
    seen_there c.top_level_parse.new.ctx c.in_ok-root.root (root_there (seen c.args.ctx.now) (seen c.top_level_parse.new.ctx) c.in_ok-root.root new)

pub verify_module-requires : goal.verify_module-requires
verify_module-requires c =
    let new = c.in_ok-root.ensures.read.new in
    seen_there c.top_level_parse.new.ctx c.in_ok-root.root (root_there (seen c.args.ctx.now) (seen c.top_level_parse.new.ctx) c.in_ok-root.root new)

pub discard-requires-clause-loose : goal.discard-requires-clause-loose
discard-requires-clause-loose c = c.in_ok-root.ensures.read.new.loose

pub discard-requires-clause-used : goal.discard-requires-clause-used
discard-requires-clause-used c =
    used_since (seen c.args.ctx.now) (seen c.top_level_parse.new.ctx) (OperationNode c.in_ok-root.root ∷ []) c.in_ok-root.ensures.read.new.came

pub returns-in-Err-clause-understands : goal.returns-in-Err-clause-understands
returns-in-Err-clause-understands c =
    let decoded = c.in_ok-chars.ensures in
    let read = c.in_ok-root.ensures.read in
    let s = c.top_level_parse.new.ctx in
    let root = c.in_ok-root.root in
    let closed = c.trees_of_texts_are_closed.ensures kit_language c.kit_can_print.ensures refl refl read.tells.numbering (seen s) root
    (codes_of c.as_text.result) read.tells.tree read.tells.said read.tells.stands in
    let holds = c.know_holding.ensures read.tells.tree read.tells.numbering read.tells.distinct read.tells.stands closed.0 closed.1 in
    let is = said c.args.bytes.items (codes_of c.as_text.result) c.args.ctx.now s root decoded.0
    (c.as_text.ensures ∙ decoded.1) read holds in
    misruled c.args.bytes.items c.args.ctx.now c.discard.new.ctx s root c.in-Err.fault (Err c.from.result) (ap (λ x. Err x) c.from.ensures) is
    (λ t stands. subst (IsVerdict (world_of s) t) c.in-Err.is (c.verify_module.ensures t stands))
    (c.discard.ensures.undone (seen c.args.ctx.now) read.new.came)

pub returns-clause-understands : goal.returns-clause-understands
returns-clause-understands c =
    let decoded = c.in_ok-chars.ensures in
    let read = c.in_ok-root.ensures.read in
    let s = c.top_level_parse.new.ctx in
    let root = c.in_ok-root.root in
    let closed = c.trees_of_texts_are_closed.ensures kit_language c.kit_can_print.ensures refl refl read.tells.numbering (seen s) root
    (codes_of c.as_text.result) read.tells.tree read.tells.said read.tells.stands in
    let holds = c.know_holding.ensures read.tells.tree read.tells.numbering read.tells.distinct read.tells.stands closed.0 closed.1 in
    accepted c.args.bytes.items (codes_of c.as_text.result) c.args.ctx.now s root decoded.0
    (c.as_text.ensures ∙ decoded.1) read holds
    (λ t stands. subst (IsVerdict (world_of s) t) c.in_default.is (c.verify_module.ensures t stands))
    (c.know_read_module.ensures.entered (seen c.args.ctx.now) read.new)
    (c.know_read_module.ensures.contained (seen c.args.ctx.now) read.new)

pub returns-clause-writable : goal.returns-clause-writable
returns-clause-writable c = λ t stands.
    let read = c.in_ok-root.ensures.read in
    let s = c.top_level_parse.new.ctx in
    let closed = c.trees_of_texts_are_closed.ensures kit_language c.kit_can_print.ensures refl refl read.tells.numbering (seen s) c.in_ok-root.root
    (codes_of c.as_text.result) read.tells.tree read.tells.said read.tells.stands in
    c.texts_are_writable.ensures s c.in_ok-root.root read.tells.numbering read.tells.tree t read.tells.stands closed.0 stands

pub returns-clause-grammar : goal.returns-clause-grammar
returns-clause-grammar c =
    let reading = c.in_ok-root.ensures.read.tells.said.8.reads in
    (reading.0, reading.1)

pub returns-in-Err-clause-erased : goal.returns-in-Err-clause-erased
returns-in-Err-clause-erased c = erased_both _ _ _ c.top_level_parse.ensures.erased c.discard.ensures.erased

pub returns-in-Err-clause-payloads : goal.returns-in-Err-clause-payloads
returns-in-Err-clause-payloads c =
    payloads_since c.args.ctx.now c.top_level_parse.new.ctx c.discard.new.ctx c.top_level_parse.ensures.payloads
    (c.discard.ensures.payloads (seen c.args.ctx.now) c.in_ok-root.ensures.read.new.came.old)
