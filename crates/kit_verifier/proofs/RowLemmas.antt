-- The rules and the table of kinds say the same, kind by kind.
use Rattle.std.proofs.Common.{◌≡◌, ◌↔◌, ◌⊎◌, inl, inr, ⊎_elim, ℕ, List, [], ◌∷◌}
use Rattle.ir_trees.specs.Stands.{ProgramTree}
use Rattle.opt_trees.specs.Occurrences.{Has}
use Rattle.kit_ops.specs.declared.kinds.KitOp.{KitOp}
use Rattle.kit_ops.specs.declared.kinds.KitOp.TheVariants as ops
use Rattle.kit_ops.specs.Keys.{symbol_name, function_type, constant_value, segment_sizes, callee, callee_type}
use Rattle.kit_ops.specs.Table.{row_of}
use Rattle.kit_checks.specs.Rules.{FitsKind, IsOwnKey}
use Rattle.kit_checks.specs.World.{World}
use Rattle.kit_verifier.specs.Rows.{HasShapeOf}

module _ {O B : Type 0} (w : World O B) (u : ProgramTree O B) where
  pub format_is_row : (kind : KitOp) → FitsKind w u kind → HasShapeOf u (row_of kind)
  format_is_row ops.Module fits = record { results = fits.0.results; operands = fits.1; successors = fits.0.successors; regions = fits.0.regions }
  format_is_row ops.Func fits = record { results = fits.0.results; operands = fits.1; successors = fits.0.successors; regions = fits.0.regions }
  format_is_row ops.Constant fits = record { results = fits.0.results; operands = fits.1; successors = fits.0.successors; regions = fits.0.regions }
  format_is_row ops.ForwardRef fits = record { results = fits.0.results; operands = fits.1; successors = fits.0.successors; regions = fits.0.regions }
  format_is_row (ops.Arithmetic a) fits = record { results = fits.0.results; operands = fits.1; successors = fits.0.successors; regions = fits.0.regions }
  format_is_row (ops.Comparison c) fits = record { results = fits.0.results; operands = fits.1; successors = fits.0.successors; regions = fits.0.regions }
  format_is_row ops.Br fits = record { results = fits.results; operands = tt; successors = fits.successors; regions = fits.regions }
  format_is_row ops.CondBr fits = record { results = fits.0.results; operands = tt; successors = fits.0.successors; regions = fits.0.regions }
  format_is_row ops.Call fits = record { results = tt; operands = tt; successors = fits.numbers.0.successors; regions = fits.numbers.0.regions }
  format_is_row ops.Emit fits = record { results = fits.0.results; operands = fits.1; successors = fits.0.successors; regions = fits.0.regions }
  format_is_row ops.Return fits = record { results = fits.results; operands = tt; successors = fits.successors; regions = fits.regions }

-- one key, or one of two
only_key : (key own : List ℕ) → ((key ≡ own) ↔ Has key (own ∷ []))
only_key key own = (λ e. inl e, λ h. ⊎_elim (λ e. e) (λ none. absurd none) h)

either_key : (key first second : List ℕ) → (((key ≡ first) ⊎ (key ≡ second)) ↔ Has key (first ∷ second ∷ []))
either_key key first second = (
  λ h. ⊎_elim (λ e. inl e) (λ e. inr (inl e)) h,
  λ h. ⊎_elim (λ e. inl e) (λ more. inr (⊎_elim (λ e. e) (λ none. absurd none) more)) h,
)

no_key : (key : List ℕ) → (⊥ ↔ Has key [])
no_key key = (λ none. none, λ none. none)

pub own_key_is_row : (kind : KitOp) (key : List ℕ) → (IsOwnKey kind key ↔ Has key (row_of kind).keys)
own_key_is_row ops.Module key = only_key key symbol_name
own_key_is_row ops.Func key = either_key key symbol_name function_type
own_key_is_row ops.Constant key = only_key key constant_value
own_key_is_row ops.ForwardRef key = no_key key
own_key_is_row (ops.Arithmetic a) key = no_key key
own_key_is_row (ops.Comparison c) key = no_key key
own_key_is_row ops.Br key = no_key key
own_key_is_row ops.CondBr key = only_key key segment_sizes
own_key_is_row ops.Call key = either_key key callee callee_type
own_key_is_row ops.Emit key = no_key key
own_key_is_row ops.Return key = no_key key
