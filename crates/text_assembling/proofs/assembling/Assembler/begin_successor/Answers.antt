use Rattle.std.proofs.Common.{◌≡◌, ◌∙◌, ap, refl, ℕ, Vec}
use Rattle.std.specs.Global.{Global}
use Rattle.text_assembling.proofs.assembling.Assembler.begin_successor.Goals as goal

pub returns-in-Successor-clause-begun : goal.returns-in-Successor-clause-begun
returns-in-Successor-clause-begun g c =
    let begun = c.in_ok-begin.ensures.begun in
    let bodies = begun.here.body in
    let found = c.in-Successor.is in
    let same : c.in-Successor.tokens ≡ c.new.result = cc (bodies, found) in
    let items = λ (v : Vec ℕ Global). v.items in (
      c.swap.new.x,
      record {
        here = record {
          body = refl;
          first = begun.here.first;
          parts = ap (λ x. x.parts.items) c.deref_mut.ensures.value ∙ begun.here.parts;
          tokens = ap items (c.swap.ensures.y_after ∙ same) ∙ c.new.ensures.items;
          names = begun.here.names;
          numbers = begun.here.numbers;
        };
        around = begun.around;
        taken = begun.taken;
      },
      ap items c.swap.ensures.x_after ∙ (ap (λ x. x.tokens.items) c.deref_mut.ensures.value ∙ begun.here.tokens),
    )
