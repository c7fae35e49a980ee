use Rattle.std.proofs.Common.{ap, ◌≡◌, ◌∙◌, refl, true, map, string_bytes, subst}
use Rattle.std.proofs.lemmas.Result.{IfErr-weaker, IfOk-weaker}
use Rattle.clap.specs.Words.{App, FailsBy, fault_of, is_simple, is_simple_and_free, subcommand_of, takes}
use Rattle.clap.proofs.OnLiterals.{clap_on_literals}
use Rattle.irkit_words.specs.CommandLine.{irkit, optimise_app, run_app}
use Rattle.irkit_words.proofs.command.parse.Goals as goal

is_irkit_simple : is_simple irkit ≡ true
unfolding clap_on_literals irkit optimise_app run_app
is_irkit_simple = refl

is_irkit_free : is_simple_and_free irkit ≡ true
unfolding clap_on_literals irkit optimise_app run_app
is_irkit_free = refl

pub returns : goal.returns
returns c =
    let parse = c.try_get_matches_from in
    let command_is = c.in_ok-command.ensures in
    record {
      found = IfOk-weaker parse.result _ _ (λ m h. (h (ap is_simple command_is ∙ is_irkit_simple)).1 ∙ ap (λ (a : App). subcommand_of a (map string_bytes c.args.words.now)) command_is) parse.ensures.matches;
      taken = IfErr-weaker parse.result _ _ (λ e h t. h (ap (λ (a : App). takes a (map string_bytes c.args.words.now)) command_is ∙ t)) parse.ensures.passes;
      kinds = subst (λ (a : App). FailsBy (fault_of a (map string_bytes c.args.words.now)) parse.result) command_is (parse.ensures.kinds (ap is_simple_and_free command_is ∙ is_irkit_free));
    }
