use Rattle.std.proofs.Common.{◌≡◌, ◌+◌, ◌∷◌, [], ◌++◌, take, get_or, sym, subst, ◌∙◌, Some}
use Rattle.std.proofs.lemmas.List.{take_more, take_all}
use Rattle.ir_scopes.specs.declared.sites.Closing.{Closing}
use Rattle.ir_tokens.specs.Faults.{IsNamed, IsFirstOf}
use Rattle.ir_scopes.specs.Scopes.{EndsAmong}
use Rattle.ir_scopes.proofs.Lacking.{ends_empty, ends_among, ends_apart}
use Rattle.ir_scopes.proofs.scopes.lacking_fault.Goals as goal
use Rattle.ir_scopes.proofs.scopes.lacking_fault.Goals.{then-contains, else-contains}

pub loop-closing-init : goal.loop-closing-init
loop-closing-init c = ends_empty c.args.lacking.now

pub loop-closing-preserved : goal.loop-closing-preserved
loop-closing-preserved c =
    let lacking = c.args.lacking.now in
    let closings = c.args.closings.now in
    let i = c.loop-closing.closing-index in
    let cs = take i closings in
    let x : Closing = get_or closings i (record { scope = 0; met = 0; place = 0 }) in
    let more : take (i + 1) closings ≡ cs ++ x ∷ [] = take_more closings i _ c.loop-closing-test.true in
    elim c.if-contains.branch [
      | then-contains w ↦
          (let first = subst (λ f. IsFirstOf c.loop-closing.fault (Some f) w.first_of-fault.result) w.fault_unresolved.ensures w.first_of-fault.ensures in
          rw (more, w.fault-is) (ends_among lacking cs x (sym c.contains.ensures ∙ w.if-contains.true) c.loop-closing.fault w.first_of-fault.result first c.loop-closing.invariant))
      | else-contains w ↦ rw (more, w.fault-is) (ends_apart lacking cs x (sym c.contains.ensures ∙ w.if-contains.false) c.loop-closing.fault c.loop-closing.invariant)
    ]

pub returns : goal.returns
returns c = subst (λ cs. IsNamed (EndsAmong c.args.lacking.now cs) c.loop-closing.fault) (take_all c.loop-closing.closing-index c.args.closings.now c.loop-closing-test.false) c.loop-closing.invariant
