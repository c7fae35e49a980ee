use Rattle.std.proofs.Common.{◌≡◌, length, ap, sym, subst, ◌∙◌, Some, None, Vec, inl, inr}
use Rattle.std.specs.Global.{Global}
use Rattle.ir_tokens.specs.Faults.{IsNamed, IsFirstOf}
use Rattle.ir_scopes.specs.declared.sites.Site.{Site}
use Rattle.ir_scopes.specs.Scopes.{is_marked, names_at, HasNameFault, HasScopeFault, Resolves}
use Rattle.ir_scopes.proofs.Resolving.{scope_fault, resolves, sites_apart}
use Rattle.ir_scopes.proofs.scopes.look_up.Goals as goal

pub resolve-requires : goal.resolve-requires
resolve-requires c = sites_apart (is_marked c.args.isolated.now) c.args.names c.args.events.now c.in_ok-sites.sites c.in_ok-sites.ensures c.requires

pub returns-in-Some-clause-resolved : goal.returns-in-Some-clause-resolved
returns-in-Some-clause-resolved c =
    let unknown = c.in_ok-unknown.unknown in
    let root = c.root_fault-root.result in
    let first = subst (IsFirstOf unknown root) c.in-Some.is c.first_of.ensures in
    scope_fault (is_marked c.args.isolated.now) c.args.names c.args.events.now c.in_ok-sites.sites c.in_ok-sites.ensures unknown root (Some c.in-Some.fault) c.in_ok-unknown.ensures.fault c.root_fault-root.ensures first

pub returns-clause-resolved : goal.returns-clause-resolved
returns-clause-resolved c =
    let names = c.args.names in
    let s = c.in_ok-sites.sites in
    let now = c.resolve.new.sites in
    let are = c.in_ok-sites.ensures in
    let done = c.in_ok-unknown.ensures in
    let ps = c.resolve.new.places in
    let unknown = c.in_ok-unknown.unknown in
    let root = c.root_fault-root.result in
    let first : IsFirstOf unknown root None = subst (IsFirstOf unknown root) c.in-None.is c.first_of.ensures in
    let named : IsNamed (HasScopeFault (is_marked c.args.isolated.now) names c.args.events.now) None
    = scope_fault (is_marked c.args.isolated.now) names c.args.events.now s are unknown root None done.fault c.root_fault-root.ensures first in
    let of_values : IsNamed (HasNameFault names (names_at s.values)) None
    = subst (λ n. IsNamed (HasNameFault names n) None) (sym are.values) (λ f h. named f (inl h)) in
    let of_labels : IsNamed (HasNameFault names (names_at s.labels)) None
    = subst (λ n. IsNamed (HasNameFault names n) None) (sym are.labels) (λ f h. named f (inr (inl h))) in
    let values : length now.values.definitions.items ≡ length s.values.definitions.items = ap (λ (v : Vec Site Global). length v.items) done.definitions.0 in
    let labels : length now.labels.definitions.items ≡ length s.labels.definitions.items = ap (λ (v : Vec Site Global). length v.items) done.definitions.1 in record {
      faultless = named;
      values = subst (λ n. Resolves names n ps c.len.result) are.values
          (resolves names (names_at s.values) ps c.len.result of_values (c.len.ensures ∙ (now.values.definitions.ok.0 ∙ values)) done.many done.values);
      labels = subst (λ n. Resolves names n ps c.len-in-None.result) are.labels
          (resolves names (names_at s.labels) ps c.len-in-None.result of_labels (c.len-in-None.ensures ∙ (now.labels.definitions.ok.0 ∙ labels)) done.many done.labels);
    }
