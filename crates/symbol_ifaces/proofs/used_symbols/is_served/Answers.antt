use Rattle.std.proofs.Common.{◌≡◌, ap, sym, subst, true≢false, ◌∙◌}
use Rattle.ir_symbols.proofs.Handles.{itself, same}
use Rattle.symbol_ifaces.specs.Tables.{Knows}
use Rattle.symbol_ifaces.proofs.used_symbols.is_served.Goals as goal

pub returns-in-Some : goal.returns-in-Some
returns-in-Some g c = λ is.
    let said = c.in-Some.ensures in
    let text = c.as_str.ensures.text in
    let known = c.knows.ensures is in
    let apart = λ (e : c.args.user ≡ c.args.table). true≢false
    (sym (itself c.args.table) ∙ ap (λ p. same p c.args.table) (sym e) ∙ sym c.eq.ensures ∙ c.if-eq.false) in (
      λ t apart name used.
          let same : c.as_str.result.now ≡ name = cc in
          subst (Knows _ c.args.ctx.now.program c.args.table) same (known.0 t),
      λ served. known.1 (served apart c.as_str.result.now cc),
    )
