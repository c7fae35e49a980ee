-- The dialect is lawful.
use Rattle.std.proofs.Common.{◌≡◌, ℕ, Bool, true, List, [], ◌∷◌, Some, None, length, refl, ap, ◌∙◌, subst}
use Rattle.std.specs.Prelude.{if◌then◌else◌}
use Rattle.ir_names.specs.declared.interfaces.OpInterface.TheVariants as op
use Rattle.opt_trees.specs.Dialect.{Lawful, drop, indices_from}
use Rattle.kit_ops.specs.declared.attributes.IntegerAttr.{IntegerAttr}
use Rattle.kit_ops.specs.declared.attributes.KitAttr.TheVariants as attrs
use Rattle.kit_ops.specs.declared.kinds.KitOp.{KitOp}
use Rattle.kit_ops.specs.declared.kinds.KitOp.TheVariants as ops
use Rattle.kit.specs.Entries.{drops_nothing, loses_no_names, first_left}
use Rattle.kit.specs.Folded.{same_number, folds_more, fold_count, fold_types, feasible_less, edge_feasible}
use Rattle.kit.specs.Folded.{exclude, branch_ends}
use Rattle.kit.specs.Forwarded.{forwards_within, forwards_once, drop_forwards}
use Rattle.kit.specs.Dropped.{kept}
use Rattle.kit_ops.specs.Keys.{constant_value, given_names}
use Rattle.kit.specs.Meaning.{KitOperation, Entries, operation_of, fold_of, first_size, forwards_of, dropped_of}
use Rattle.kit.specs.Meaning.{is_br, is_constant, kit}
use Rattle.kit.specs.Ranges.{drop_length, all_indices}
use Rattle.kit_ops.specs.Table.{has_interface}

constant_folds : (a : IntegerAttr) (c : KitOperation) → kit.constant a ≡ Some c
    → (is_constant c.kind ≡ true) × (has_interface c.kind op.ConstFold ≡ true)
    × (fold_of c.kind c.notes.attributes (a.ty ∷ []) [] ≡ Some a ∷ [])
constant_folds a c e =
    let f : operation_of ops.Constant ((constant_value, attrs.Integer a) ∷ []) ≡ c = cc in
    subst (λ (z : KitOperation). (is_constant z.kind ≡ true) × (has_interface z.kind op.ConstFold ≡ true) ×
    (fold_of z.kind z.notes.attributes (a.ty ∷ []) [] ≡ Some a ∷ []))
    f (refl, refl, ap (λ (b : Bool). (if b then Some a else None) ∷ []) (same_number a.ty.number))

plain_is : (c : KitOperation) → kit.plain ≡ Some c → (is_br c.kind ≡ true) × (has_interface c.kind op.Branch ≡ true)
plain_is c e =
    let f : operation_of ops.Br [] ≡ c = cc in
    subst (λ (z : KitOperation). (is_br z.kind ≡ true) × (has_interface z.kind op.Branch ≡ true)) f (refl, refl)

plain_forwards : (c : KitOperation) (xs : List ℕ) → kit.plain ≡ Some c
    → forwards_of c.kind (first_size c.notes.attributes) (length xs) 0 ≡ indices_from 0 xs
plain_forwards c xs e =
    let f : operation_of ops.Br [] ≡ c = cc in
    subst (λ (z : KitOperation). forwards_of z.kind (first_size z.notes.attributes) (length xs) 0 ≡ indices_from 0 xs) f
    (all_indices 0 xs)

-- what is forwarded to the first successor matters to a conditional branch alone
left_forwards : (k : KitOp) (p : ℕ → Bool) (es : Entries) (m s : ℕ)
    → forwards_of k (first_size (dropped_of k p es)) m s ≡ forwards_of k (kept p 1 (first_size es)) m s
left_forwards ops.CondBr p es m s = ap (λ first. forwards_of ops.CondBr first m s) (first_left p es)
left_forwards k p es m s = refl

pub kit_lawful : Lawful kit
kit_lawful = record {
  folds_more = λ c ts xs ys h. folds_more c.kind c.notes.attributes ts xs ys h;
  feasible_less = λ c xs ys i h e. feasible_less c.kind xs ys i h e;
  edge_feasible = λ c xs i e. edge_feasible c.kind xs i e;
  exclude = λ c a b. exclude c.kind a b;
  branch_ends = λ c e. branch_ends c.kind e;
  fold_count = λ c ts xs. fold_count c.kind c.notes.attributes ts xs;
  fold_types = λ c ts xs i a e. fold_types c.kind c.notes.attributes ts xs i a e;
  constant_folds = λ c a e. constant_folds a c e;
  plain_is = plain_is;
  plain_forwards = plain_forwards;
  forwards_within = λ c n s k i e. forwards_within c.kind (first_size c.notes.attributes) n s k i e;
  forwards_once = λ c n s k u j i e f. forwards_once c.kind (first_size c.notes.attributes) n s k u j i e f;
  drop_branch = λ c p. refl;
  drop_terminator = λ c p. refl;
  drop_effects = λ c p. refl;
  drop_removes = λ c p region first. refl;
  drop_forwards = λ c p xs s h. left_forwards c.kind p c.notes.attributes (length (drop p xs)) s
      ∙ drop_forwards c.kind p (first_size c.notes.attributes) (length xs) (length (drop p xs)) s (drop_length p xs) h;
  drop_no_operands = λ c. ap (λ es. record c { notes = record c.notes { attributes = es } })
      (drops_nothing c.kind c.notes.attributes);
  drop_no_names = λ b. ap (λ es. record b { attributes = es }) (loses_no_names b.attributes given_names);
}
