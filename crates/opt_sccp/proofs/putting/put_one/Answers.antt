-- The steps of putting in a constant.
use Rattle.std.proofs.Common.{◌≡◌, Some, [], ◌∷◌, refl, sym, subst}
use Rattle.ir_program.specs.Program.{type_at, type_in, value_in}
use Rattle.ir_program.specs.Definers.{values_at}
use Rattle.opt_sccp.specs.Placed.{DefinerIsPlaced, PutsAtDefiner}
use Rattle.ir_program.proofs.made.AddSteps.{erased-then}
use Rattle.opt_sccp.proofs.OneConstant.{place_kept, still_live, placed_erased, one_put}
use Rattle.opt_sccp.proofs.putting.put_one.Goals as goal

pub put_at_definer-requires-clause-place : goal.put_at_definer-requires-clause-place
put_at_definer-requires-clause-place g c =
    let b = c.in_ok-constant.ensures.built in
    subst (λ e. DefinerIsPlaced c.new_constant.new.ctx.program e) (sym c.definer.ensures)
    (place_kept c.args.ctx.now.program c.new_constant.new.ctx.program c.in_ok-constant.constant b.0 (g.D.Meanings.meaning.constant_type c.args.made.constant ∷ []) 0 b.2 c.args.made.value.definer c.requires.place.place)

pub replace_all_uses_with-requires-clause-value : goal.replace_all_uses_with-requires-clause-value
replace_all_uses_with-requires-clause-value g c =
    let b = c.in_ok-constant.ensures.built in
    still_live c.args.ctx.now.program c.new_constant.new.ctx.program c.put_at_definer.new.ctx.program c.in_ok-constant.constant b.0 (g.D.Meanings.meaning.constant_type c.args.made.constant ∷ []) 0 c.args.made.value b.2 c.requires.place
    (λ e k x h. subst (λ p. type_at p x ≡ type_in (values_at p e) k) c.program.ensures (c.know_values.ensures.typed e k x (subst (λ p. value_in (values_at p e) k ≡ Some x) (sym c.program.ensures) h))) c.put_at_definer.ensures.values

pub returns-clause-put : goal.returns-clause-put
returns-clause-put g c =
    let b = c.in_ok-constant.ensures.built in
    one_put g.D.Meanings.meaning c.args.ctx.now.program c.new_constant.new.ctx.program c.put_at_definer.new.ctx.program c.replace_all_uses_with.new.ctx.program c.args.made b.0 c.in_ok-constant.constant (g.D.Meanings.meaning.constant_type c.args.made.constant)
    c.get_result-result.result b.1 refl b.2 c.requires.place (subst (λ e. PutsAtDefiner c.new_constant.new.ctx.program c.put_at_definer.new.ctx.program e c.in_ok-constant.constant) c.definer.ensures c.put_at_definer.ensures.puts) c.get_result-result.ensures.value c.replace_all_uses_with.ensures.replaced

pub returns-clause-erased : goal.returns-clause-erased
returns-clause-erased g c =
    let built = c.new_constant.new.ctx.program in
    let placed = c.put_at_definer.new.ctx.program in
    let b = c.in_ok-constant.ensures.built in
    let place = place_kept c.args.ctx.now.program built c.in_ok-constant.constant b.0 (g.D.Meanings.meaning.constant_type c.args.made.constant ∷ []) 0 b.2 c.args.made.value.definer c.requires.place.place in
    erased-then c.args.ctx.now.program built c.replace_all_uses_with.new.ctx.program c.in_ok-constant.ensures.erased
    (erased-then built placed c.replace_all_uses_with.new.ctx.program
    (placed_erased built placed c.args.made.value.definer c.in_ok-constant.constant place (subst (λ e. PutsAtDefiner built placed e c.in_ok-constant.constant) c.definer.ensures c.put_at_definer.ensures.puts)) c.replace_all_uses_with.ensures.replaced.erased)
