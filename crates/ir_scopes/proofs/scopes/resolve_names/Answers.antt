use Rattle.std.proofs.Common.{◌<◌, sym, subst, ◌∙◌, inl, inr}
use Rattle.ir_tokens.proofs.FirstFault.{first_of_law}
use Rattle.ir_scopes.specs.Scopes.{Means, names_at, IsAgain, IsUnresolvedName, HasNameFault}
use Rattle.ir_scopes.proofs.Lacking.{is_lacking}
use Rattle.ir_scopes.proofs.scopes.resolve_names.Goals as goal

pub look_up_mentions-requires : goal.look_up_mentions-requires
look_up_mentions-requires c = rw (c.deref.ensures.value, c.deref_mut.ensures.value) c.requires

pub returns-clause-fault : goal.returns-clause-fault
returns-clause-fault c =
    let names = c.args.places.now in
    let n = names_at c.args.sites.now in
    let faults = c.in_ok-faults.faults in
    let ends = c.lacking_fault-unresolved.result in
    let again = rw c.deref.ensures.value at c.in_ok-faults.ensures.again in
    let lacks = rw (c.deref.ensures.value, c.deref_mut.ensures.value) at c.in_ok-faults.ensures.lacking in
    let ended = rw c.deref-3.ensures.value at c.lacking_fault-unresolved.ensures in
    first_of_law (IsAgain names n.definitions) (IsUnresolvedName names n.definitions n.mentions n.closings) (HasNameFault names n) faults.again ends c.first_of.result
    (λ f x. x) (λ f x. inl x) (λ f x. inr x) again (is_lacking names n.definitions n.mentions faults.lacking lacks n.closings ends ended) c.first_of.ensures

pub returns-clause-defined : goal.returns-clause-defined
returns-clause-defined c = λ j d at within.
    let written = rw c.deref-2.ensures.value at c.in_ok-note_definitions.ensures.noted in
    written c.requires.definitions j d at (subst (λ n. d.token < n) c.in_ok-note_definitions.ensures.many within)

pub returns-clause-mentioned : goal.returns-clause-mentioned
returns-clause-mentioned c = λ i j m at means within.
    let n = names_at c.args.sites.now in
    let noted = rw (c.deref.ensures.value, c.deref_mut.ensures.value) at c.in_ok-faults.ensures.noted in
    let kept = rw c.deref-2.ensures.value at c.in_ok-note_definitions.ensures.kept in
    let stays = kept m.token (λ k d there e. c.requires.both k i d m there at e) in
    subst (Means c.args.places.now n.definitions m) (sym stays) (noted i j m at means within)

pub returns-clause-kept : goal.returns-clause-kept
returns-clause-kept c = λ k none.
    let defined = rw c.deref-2.ensures.value at c.in_ok-note_definitions.ensures.kept in
    let mentioned = rw c.deref_mut.ensures.value at c.in_ok-faults.ensures.kept in
    defined k (λ j s at e. none s (inl (j, at)) e) ∙ mentioned k (λ i m at e. none m (inr (i, at)) e)
