use Rattle.std.proofs.Common.{◌≡◌, Some, None, sym, ap, ◌∙◌}
use Rattle.opt_chains.specs.declared.chain_exits.Exit.{Exit}
use Rattle.opt_chains.proofs.MergeLists.{same_some}
use Rattle.opt_chains.proofs.next_blocks.only_next.Goals as goal

pub returns-in_default-bare_exit : goal.returns-in_default-bare_exit
returns-in_default-bare_exit g c n = (
  λ e. cc,
  λ goes. let f : None ≡ Some (record { branch = goes.branch; target = goes.target }) = sym c.in_default-bare_exit.is ∙ c.bare_exit.ensures.all goes.branch goes.target goes.exit in cc,
)

pub returns : goal.returns
returns g c n = (
  λ e. record {
    entered = c.in-Entered.is;
    ssa = c.is_in_ssa.ensures.0 c.if-not-is_in_ssa.false;
    branch = c.in-Some.exit.branch;
    target = c.in-Some.exit.target;
    exit = c.in-Some.ensures.found;
    target_is = (c.number_of.ensures n).0 e;
  },
  λ goes.
      let same = same_some c.bare_exit.result (record { branch = goes.branch; target = goes.target }) c.in-Some.exit (c.bare_exit.ensures.all goes.branch goes.target goes.exit) c.in-Some.is in
      (c.number_of.ensures n).1 (goes.target_is ∙ ap (λ (x : Exit). Some x.target) same),
)
