use Rattle.std.proofs.Common.{ap, refl}
use Rattle.std.proofs.lemmas.Result.{on_ok_weaker}
use Rattle.text_frames.proofs.Opening.{put_with_body}
use Rattle.text_assembling.proofs.assembling.Assembler.end_region.Goals as goal
use Rattle.text_assembling.proofs.assembling.Assembler.end_region.Goals.{in-Operation+in_ok-push, in_default}

pub returns-clause-here : goal.returns-clause-here
returns-clause-here g c o e = elim c.match-self.branch [
  | in-Operation+in_ok-push w ↦ on_ok_weaker c.put.result
      (λ h. (
        record { kind = w.in-Operation.open.kind; operands = w.in-Operation.open.operands; labels = w.in-Operation.open.labels; regions = w.push.new.self },
        put_with_body _ _ _ _ _ _ _ (ap (λ s. s.here) w.self-is) refl h,
        cc (e, w.in-Operation.is),
        cc (e, w.in-Operation.is),
        cc (e, w.in-Operation.is),
        cc (e, w.in-Operation.is, w.in_ok-push.ensures.items),
      ))
      c.put.ensures.put
  | in_default w ↦ absurd (w.in_default.not-Operation o e)
]
