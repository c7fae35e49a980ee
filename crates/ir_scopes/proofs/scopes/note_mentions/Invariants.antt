use Rattle.std.proofs.Common.{◌≡◌, ℕ, ◌<◌, ◌≤◌, Some, take, slice_get, slice_index, length}
use Rattle.ir_scopes.specs.declared.sites.Site.{Site}
use Rattle.ir_scopes.specs.Scopes.{AreLacking, Means}
use Rattle.ir_scopes.specs.Orders.{IsScopeWalk, IsWithinScope}
use Rattle.ir_scopes.proofs.Places.{AreWritten}
use Rattle.ir_scopes.proofs.scopes.note_mentions.Given as goal

abbrev pub invariant-loop-site : goal.invariant-loop-site
invariant-loop-site l = record {
  lacking : AreLacking l.fn.places l.definitions (take l.site-index l.mentions) l.lacking;
  noted : AreWritten (λ m k v. (j : ℕ) → Means l.fn.places l.definitions m j → Means l.fn.places l.definitions m v) l.mentions l.site-index l.places;
  kept : (k : ℕ) → ((i : ℕ) (m : Site) → i < l.site-index → slice_get l.mentions i ≡ Some m → m.token ≡ k → ⊥) → slice_index l.places k ≡ slice_index l.fn.places k;
  walk : IsScopeWalk l.fn.places l.definitions l.walk;
  within : (k : ℕ) (m : Site) → l.site-index ≤ k → slice_get l.mentions k ≡ Some m → IsWithinScope l.walk m.scope;
  many : length l.places ≡ length l.fn.places;
}
