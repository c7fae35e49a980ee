use Rattle.std.proofs.Common.{◌≡◌, ◌∙◌, ◌++◌, ap, rules}
use Rattle.std.proofs.lemmas.Result.{on_ok_weaker}
use Rattle.ir_print.specs.declared.format.Part.TheVariants as part
use Rattle.text_frames.proofs.Opening.{put_with_body}
use Rattle.text_assembling.proofs.assembling.Assembler.end_successor.Goals as goal
use Rattle.text_assembling.proofs.assembling.Assembler.end_successor.Goals.{in-Operation+in_ok-extend_from_slice+in_ok-push, in_default}

pub returns-clause-here : goal.returns-clause-here
returns-clause-here g c o e = elim c.match-self.branch [
  | in-Operation+in_ok-extend_from_slice+in_ok-push w ↦
      let more : w.extend_from_slice.new.self.items ≡ w.in-Operation.open.operands.items ++ c.args.tokens.items = search rules in
      on_ok_weaker c.put.result
      (λ h. (
        record { kind = w.in-Operation.open.kind; operands = w.extend_from_slice.new.self; labels = w.push.new.self; regions = w.in-Operation.open.regions },
        put_with_body _ _ _ _ _ _ _ (ap (λ s. s.here) w.self-is) (ap part.Successor (c.len-count.ensures ∙ c.args.tokens.ok.0)) h,
        cc (e, w.in-Operation.is),
        cc (e, w.in-Operation.is),
        cc (e, w.in-Operation.is, w.in_ok-push.ensures.items),
        cc (e, w.in-Operation.is, more),
      ))
      c.put.ensures.put
  | in_default w ↦ absurd (w.in_default.not-Operation o e)
]
