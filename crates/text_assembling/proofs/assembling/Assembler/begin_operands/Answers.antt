use Rattle.std.proofs.Common.{◌≡◌, ◌∙◌, ap, refl, ℕ, Vec}
use Rattle.std.specs.Global.{Global}
use Rattle.text_assembling.proofs.assembling.Assembler.begin_operands.Goals as goal

pub returns-in-Operands-clause-begun : goal.returns-in-Operands-clause-begun
returns-in-Operands-clause-begun g c =
    let begun = c.in_ok-begin.ensures.begun in
    let bodies = begun.here.body in
    let found = c.in-Operands.is in
    let same : c.in-Operands.tokens ≡ c.new.result = cc (bodies, found) in
    let items = λ (v : Vec ℕ Global). v.items in (
      c.swap.new.x,
      record {
        here = record {
          body = refl;
          first = begun.here.first;
          parts = ap (λ x. x.parts.items) c.deref_mut.ensures.value ∙ begun.here.parts;
          tokens = ap items (c.swap.ensures.y_after ∙ same) ∙ c.new.ensures.items;
          names = begun.here.names;
          numbers = begun.here.numbers;
        };
        around = begun.around;
        taken = begun.taken;
      },
      ap items c.swap.ensures.x_after ∙ (ap (λ x. x.tokens.items) c.deref_mut.ensures.value ∙ begun.here.tokens),
    )
