use Rattle.std.proofs.Common.{◌≡◌, ℕ, ◌<◌, Some, slice_get, slice_index, length}
use Rattle.ir_scopes.specs.declared.sites.Site.{Site}
use Rattle.ir_scopes.specs.Scopes.{HaveDistinctTokens}
use Rattle.ir_scopes.proofs.Places.{AreWritten}
use Rattle.ir_scopes.proofs.scopes.note_definitions.Given as goal

abbrev pub invariant-loop-number : goal.invariant-loop-number
invariant-loop-number l = record {
  noted : HaveDistinctTokens l.definitions → AreWritten (λ s k v. v ≡ k) l.definitions l.number l.places;
  kept : (k : ℕ) → ((j : ℕ) (s : Site) → j < l.number → slice_get l.definitions j ≡ Some s → s.token ≡ k → ⊥) → slice_index l.places k ≡ slice_index l.fn.places k;
  many : length l.places ≡ length l.fn.places;
}
