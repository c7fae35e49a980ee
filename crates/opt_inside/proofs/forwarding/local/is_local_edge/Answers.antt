use Rattle.std.proofs.Common.{◌≡◌, ◌+◌, ◌∙◌, true≢false, None, slice_get, sym, subst}
use Rattle.std.proofs.lemmas.Option.{same_Some}
use Rattle.ir_program.specs.Lists.{operations_in}
use Rattle.ir_program.specs.Program.{operation_at}
use Rattle.opt_inside.specs.forwarding.Local.{AreSiblings}
use Rattle.opt_inside.proofs.ForwardingLemmas.Terminators.{no_next, none_is, payload_passes, passes_payload}
use Rattle.opt_inside.proofs.forwarding.local.is_local_edge.Goals as goal
use Rattle.opt_inside.proofs.forwarding.local.is_local_edge.Goals.{then-is_none, else-is_none}

pub returns-in_default : goal.returns-in_default
returns-in_default g c = (
  λ h. absurd (true≢false (sym h)),
  λ h. let found = c.parent_block.ensures.only h.block h.in_block in cc (found, c.in_default.is),
)

pub returns-then-is_terminator : goal.returns-then-is_terminator
returns-then-is_terminator g c =
    let stands = c.in-Some.ensures.parent in
    let behind = slice_get (operations_in c.args.program.now c.in-Some.block) (stands.index + 1) in
    let next : c.next_operation.result ≡ behind = c.next_operation.ensures.next c.in-Some.block stands.index stands.here in (
      λ h. elim c.if-is_none.branch [
        | then-is_none w ↦
            (let passes = payload_passes g.D.Meanings.meaning.is_terminator (operation_at c.args.program.now c.args.op) w.payload.result.now w.is_terminator.result w.payload.ensures w.is_terminator.ensures (sym w.value-is ∙ c.if-is_terminator.true) in
            record {
              block = c.in-Some.block;
              in_block = stands;
              last = no_next behind c.next_operation.result c.is_none.result next c.is_none.ensures w.if-is_none.true;
              view = passes.0;
              there = passes.1;
              terminator = passes.2;
              siblings = c.are_siblings.ensures.0 h;
            })
        | else-is_none w ↦ absurd (true≢false (sym c.if-is_terminator.true ∙ w.value-is ∙ w.if-is_none.false))
      ],
      λ h. let same : c.in-Some.block ≡ h.block = same_Some c.in-Some.block h.block (sym c.in-Some.is ∙ c.parent_block.ensures.only h.block h.in_block) in
          c.are_siblings.ensures.1 (subst (λ b. AreSiblings c.args.program.now b c.args.target) (sym same) h.siblings),
    )

pub returns-else-is_terminator : goal.returns-else-is_terminator
returns-else-is_terminator g c = (
  λ h. absurd (true≢false (sym h ∙ c.if-is_terminator.false)),
  λ h. elim c.if-is_none.branch [
    | then-is_none w ↦ w.value-is ∙ passes_payload g.D.Meanings.meaning.is_terminator (operation_at c.args.program.now c.args.op) w.payload.result.now w.is_terminator.result h.view w.payload.ensures w.is_terminator.ensures h.there h.terminator
    | else-is_none w ↦
        (let none : c.next_operation.result ≡ None = c.next_operation.ensures.next h.block h.in_block.index h.in_block.here ∙ h.last in
        w.value-is ∙ none_is c.next_operation.result c.is_none.result c.is_none.ensures none)
  ],
)
