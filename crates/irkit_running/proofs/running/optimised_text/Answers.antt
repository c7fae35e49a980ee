use Rattle.std.specs.String.{string_bytes}
use Rattle.ir_base.specs.declared.growth.GrowError.TheVariants as grow
use Rattle.irkit_running.proofs.PassLemmas.{refused}
use Rattle.irkit_running.proofs.ReadLemmas.{at_error}
use Rattle.irkit_running.specs.Lists.{EndsPasses}
use Rattle.irkit_running.proofs.running.optimised_text.Goals as goal

pub returns-in_err-optimise : goal.returns-in_err-optimise
returns-in_err-optimise c =
    refused c.args.passes.now c.args.ctx.now c.args.root string_bytes c.optimise.result c.in_err-optimise.field-0.0
    c.from_residual.result c.in_err-optimise.was c.optimise.ensures.full c.from_residual.ensures.1

pub text_of-requires-clause-holds : goal.text_of-requires-clause-holds
text_of-requires-clause-holds c = c.in_ok-optimise.ensures.holds

pub text_of-requires-clause-writable : goal.text_of-requires-clause-writable
text_of-requires-clause-writable c = c.in_ok-optimise.ensures.writable

pub text_of-requires-clause-grammar : goal.text_of-requires-clause-grammar
text_of-requires-clause-grammar c = c.requires.grammar

pub returns-in_err-text_of : goal.returns-in_err-text_of
returns-in_err-text_of c =
    at_error (EndsPasses c.args.passes.now c.args.ctx.now c.args.root string_bytes) c.from_residual-in_err-text_of.result
    grow.Memory c.from_residual-in_err-text_of.ensures.1 tt

pub returns : goal.returns
returns c = record {
  after = c.optimise.new.ctx;
  passed = c.in_ok-optimise.ensures.passed;
  programs = c.in_ok-optimise.ensures.programs;
  written = c.in_ok-text_of.ensures;
}
