use Rattle.std.proofs.Common.{◌≡◌, ℕ, Err, rules, refl, sym, ◌∙◌}
use Rattle.text_dialect.specs.declared.dialect.MakeFault.TheVariants.{Refused}
use Rattle.text_frames.proofs.BuildingLemmas.ShownLater.{all_later}
use Rattle.text_frames.proofs.Opening.{keeps_keys}
use Rattle.text_frames.proofs.making.make_type.Goals as goal

pub returns-in_err-key-clause-refused : goal.returns-in_err-key-clause-refused
returns-in_err-key-clause-refused g c = λ ps shown i e.
    let refused = λ (j : ℕ) (was : Err c.in_err-key.field-0.0 ≡ Err (Refused j)). c.in_err-key.ensures.refused j was
    c.args.kind ps c.args.ctx.now.types.keys (sym c.in-Some.ensures.kind) shown in
    search rules

pub returns-clause-made : goal.returns-clause-made
returns-clause-made g c = λ ps shown.
    let says = g.D.TextDialect.says in
    let made = c.in_ok-key.ensures.made c.args.kind ps c.args.ctx.now.types.keys (sym c.in-Some.ensures.kind) shown in
    let kept = c.in_ok-ty.ensures.key in
    let same = g.met.D.TextDialect.same c.in_ok-key.key kept.0 kept.2 in (
      made.0,
      (
        c.in_ok-ty.ty,
        kept.0,
        made.1.0,
        refl,
        kept.1,
        sym same
            ∙ made.1.1,
        all_later says c.args.ctx.now.types.keys c.instantiate_key.new.self.types.keys
            (keeps_keys c.args.ctx.now.types c.instantiate_key.new.self.types c.instantiate_key.ensures.keeps) made.1.0 ps
            made.1.2,
      ),
    )
