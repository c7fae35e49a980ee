use Rattle.std.proofs.Common.{◌≡◌, ◌++◌, ap, refl, rules}
use Rattle.text_assembling.proofs.assembling.Assembler.end_item.Goals as goal

pub returns-in_ok-push-clause-here : goal.returns-in_ok-push-clause-here
returns-in_ok-push-clause-here g c ms e =
    let more : c.extend_from_slice.new.self.items ≡ c.deref_mut.result.now.tokens.items ++ c.args.tokens.now = search rules in (
      c.push.new.self,
      record {
        body = refl;
        first = refl;
        tokens = cc (more, ap (λ x. x.tokens.items) c.deref_mut.ensures.value);
        names = refl;
        numbers = refl;
      },
      cc (e, c.in-List.is, c.in_ok-push.ensures.items),
    )
