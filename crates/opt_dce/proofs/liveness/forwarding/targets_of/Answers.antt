use Rattle.std.proofs.Common.{◌≡◌, ◌<◌, None, length, slice_get, rules, sym, ap, ◌∙◌, ⊎_elim, arith}
use Rattle.std.specs.Prelude.{replicate}
use Rattle.std.proofs.lemmas.Option.{slice_get_within}
use Rattle.opt_dce.proofs.LivenessLemmas.Noting.{no_targets}
use Rattle.opt_dce.proofs.liveness.forwarding.targets_of.Goals as goal

pub returns-clause-found : goal.returns-clause-found
returns-clause-found g c k x e =
    let blank : c.in_ok-targets.targets.items ≡ replicate c.operand_count.result None = c.in_ok-targets.ensures.items_if_clones_equal (λ y h. search rules) in
    ⊎_elim
    (λ old. absurd (no_targets c.operand_count.result k x (ap (λ l. slice_get l k) (sym blank) ∙ old)))
    (λ f. f)
    (c.in_ok-forward_edges.ensures.sound k x e)

pub returns-clause-none : goal.returns-clause-none
returns-clause-none g c k x e f =
    let lt = slice_get_within c.forward_edges.new.targets.items k None e in
    let len = c.in_ok-forward_edges.ensures.len in
    let within : k < length c.in_ok-targets.targets.items = omega arith in
    let y = c.in_ok-forward_edges.ensures.noted k x f within in
    cc (e, y.1)
