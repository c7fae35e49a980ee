use Rattle.std.proofs.Common.{◌<◌, sym, subst, ◌∙◌, inl, inr}
use Rattle.ir_tokens.proofs.FirstFault.{first_of_law}
use Rattle.ir_scopes.specs.Scopes.{Means, names_at, HasNameFault, HasSiteFault}
use Rattle.ir_scopes.proofs.NamesAlike.{AreAlike, means_alike, named_alike}
use Rattle.ir_scopes.proofs.scopes.resolve.Goals as goal

pub returns-clause-fault : goal.returns-clause-fault
returns-clause-fault c =
    let names = c.args.places.now in
    let s = c.args.sites.now in
    let first = c.in_ok-values.ensures in
    let second = c.in_ok-labels.ensures in
    let alike : AreAlike c.resolve_names.new.places names (names_at s.labels) = λ t i. first.kept t.token (λ v j e. c.requires.both v t j i e) in
    first_of_law (HasNameFault names (names_at s.values)) (HasNameFault names (names_at s.labels)) (HasSiteFault names s) c.in_ok-values.values c.in_ok-labels.labels c.first_of.result
    (λ f x. x) (λ f x. inl x) (λ f x. inr x) first.fault (named_alike c.resolve_names.new.places names (names_at s.labels) alike c.in_ok-labels.labels second.fault) c.first_of.ensures

pub returns-clause-values : goal.returns-clause-values
returns-clause-values c =
    let s = c.args.sites.now in
    let first = c.in_ok-values.ensures in
    let second = c.in_ok-labels.ensures in record {
      defined = λ j d at within. second.kept d.token (λ t i e. c.requires.both d t (inl (j, at)) i (sym e)) ∙ first.defined j d at (subst (λ n. d.token < n) second.many within);
      mentioned = λ i j m at means within. subst (Means c.args.places.now (names_at s.values).definitions m)
          (sym (second.kept m.token (λ t k e. c.requires.both m t (inr (i, at)) k (sym e)))) (first.mentioned i j m at means within);
    }

pub returns-clause-labels : goal.returns-clause-labels
returns-clause-labels c =
    let names = c.args.places.now in
    let n = names_at c.args.sites.now.labels in
    let first = c.in_ok-values.ensures in
    let second = c.in_ok-labels.ensures in
    let now = c.resolve_names.new.places in
    let alike : AreAlike now names n = λ t i. first.kept t.token (λ v j e. c.requires.both v t j i e) in
    let back : AreAlike names now n = λ t i. sym (alike t i) in record {
      defined = second.defined;
      mentioned = λ i j m at means within. means_alike now names n alike i _ m at (second.mentioned i j m at (means_alike names now n back i j m at means) (subst (λ k. m.token < k) (sym first.many) within));
    }
