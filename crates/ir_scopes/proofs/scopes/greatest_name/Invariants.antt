use Rattle.std.proofs.Common.{◌≡◌, ℕ, ◌<◌, ◌≤◌, Some, slice_get}
use Rattle.ir_scopes.specs.declared.sites.Site.{Site}
use Rattle.ir_scopes.specs.Scopes.{name_of}
use Rattle.ir_scopes.proofs.scopes.greatest_name.Given as goal

abbrev pub invariant-loop-site : goal.invariant-loop-site
invariant-loop-site l = (j : ℕ) (s : Site) → j < l.site-index → slice_get l.sites j ≡ Some s → name_of l.names s.token ≤ l.greatest
