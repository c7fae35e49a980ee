use Rattle.std.proofs.Common.{[], ◌∷◌, ◌++◌, ap, sym, refl, ◌∙◌}
use Rattle.text_frames.proofs.Holding.{ends_with, ends_refused}
use Rattle.text_frames.proofs.Opening.{keeps_keys}
use Rattle.text_assembling.proofs.Stepped.{ok_case}
use Rattle.text_assembling.proofs.assembling.Assembler.end.Goals as goal

pub end_in-requires : goal.end_in-requires
end_in-requires g c = record {
  going = (
    c.args.self.now,
    record {
      here = sym c.replace-ended.ensures.value;
      around = c.in-Some.ensures.items ∙ ap (λ x. c.pop.new.self.items ++ x ∷ []) (sym c.replace-ended.ensures.after);
      made = refl;
      taken = refl;
    },
    c.requires.going,
  );
}

pub returns-clause-ended : goal.returns-clause-ended
returns-clause-ended g c = ok_case c.end_in.result _ (λ get text p next at goes.
    let held = get _ (ends_with _ _ text _ c.args.self.now.here c.in-Some.outer c.replace-ended.result c.replace-ended.new.dest c.args.self.now.around.items c.pop.new.self.items
    c.in-Some.ensures.items c.replace-ended.ensures.value c.replace-ended.ensures.after p.standing.here p.built.here
    _ (keeps_keys c.args.ctx.now.types c.end_in.new.ctx.types c.end_in.ensures.types) c.end_in.new.self.here c.end_in.new.self.around.items p.built.around p.standing.around next _ c.end_in.result
    (ap (λ v. v.items) c.end_in.ensures.around.around) at.holds goes.out (λ o to e. c.end_in.ensures.ended text o p.standing.here to p.built.here e)) in (
      held.0,
      record {
        holds = held.1;
        made = get _ (c.end_in.ensures.raised c.args.self.now text p next (record {
          here = sym c.replace-ended.ensures.value;
          around = c.in-Some.ensures.items ∙ ap (λ x. c.pop.new.self.items ++ x ∷ []) (sym c.replace-ended.ensures.after);
          made = refl;
          taken = refl;
        }) at goes);
      },
    ))

pub returns-clause-refused : goal.returns-clause-refused
returns-clause-refused g c text p next at goes f wrong =
    ends_refused _ _ text _ c.args.self.now.here c.in-Some.outer c.replace-ended.result c.replace-ended.new.dest c.args.self.now.around.items c.pop.new.self.items
    c.in-Some.ensures.items c.replace-ended.ensures.value c.replace-ended.ensures.after p.standing.here p.built.here
    p.built.around p.standing.around next _ f at.holds goes.out (λ o to e. c.end_in.ensures.refused text o p.standing.here to p.built.here e f wrong)

pub returns-clause-full : goal.returns-clause-full
returns-clause-full g c text p next at goes wrong =
    c.end_in.ensures.full c.args.self.now text p next (record {
      here = sym c.replace-ended.ensures.value;
      around = c.in-Some.ensures.items ∙ ap (λ x. c.pop.new.self.items ++ x ∷ []) (sym c.replace-ended.ensures.after);
      made = refl;
      taken = refl;
    }) at goes wrong
