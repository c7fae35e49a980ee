use Rattle.std.proofs.Common.{◌≡◌, ℕ, ◌<◌, Some, length, slice_get}
use Rattle.ir_scopes.specs.declared.sites.Site.{Site}
use Rattle.ir_scopes.proofs.scopes.numbered.Given as goal

abbrev pub invariant-loop-number : goal.invariant-loop-number
invariant-loop-number l = record {
  long : length l.all.items ≡ l.number;
  at : (j : ℕ) (s : Site) → j < l.number → slice_get l.sites j ≡ Some s → slice_get l.all.items j ≡ Some (s.scope, j);
}
