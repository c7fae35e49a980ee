-- What the dialect says of its operations, and that it is lawful.
use Rattle.std.proofs.Common.{◌≡◌, ◌<◌, ℕ, Bool, true, false, [], length, Option, None, Some, nat_lt, refl}
use Rattle.std.specs.Prelude.{IfSome}
use Rattle.ir_base.specs.declared.types.TypeHandle.{TypeHandle}
use Rattle.ir_program.specs.Lent.{payload_at}
use Rattle.ir_program.specs.Program.{Program}
use Rattle.ir_program.specs.declared.handles.Operation.{Operation}
use Rattle.ir_program.specs.declared.handles.Ptr.{Ptr}
use Rattle.ir_trees.specs.Renames.{holding}
use Rattle.opt_inside.specs.Edges.{FitsEdgesBelow}
use Rattle.opt_trees.specs.Dialect.{Dialect, Lawful}
use Rattle.opt_tiny.specs.declared.tiny.Bare.{Bare}
use Rattle.opt_tiny.specs.Meaning.{one_type}
use Rattle.opt_tiny.specs.Sparse.{none_known, knows_none, as_many, none_is_some}
use Rattle.pass_managers_tests.specs.declared.items.Item.{Item}

-- operations do nothing, and hold graph regions
abbrev pub items : Dialect (holding Item Bare TypeHandle) ℕ
items = record {
  is_foldable = λ c. false;
  fold = λ c ts xs. none_known (length ts);
  is_branch = λ c. false;
  feasible = λ c xs i. true;
  edge = λ c xs. None;
  forwards = λ c n s. [];
  is_terminator = λ c. false;
  has_effects = λ c. false;
  can_remove = λ c region first. true;
  plain = None;
  is_plain = λ c. false;
  constant = λ a. None;
  constant_type = λ a. one_type;
  is_constant = λ c. false;
  is_ssa = λ c i. false;
  drop_operands = λ c p. c;
  drop_names = λ b p. b;
}

pub items_lawful : Lawful items
items_lawful = record {
  folds_more = λ c ts xs ys h. knows_none (length ts);
  feasible_less = λ c xs ys i h e. refl;
  edge_feasible = λ c xs i e. refl;
  exclude = λ c a b. (let wrong : false ≡ true = a in cc);
  branch_ends = λ c e. (let wrong : false ≡ true = e in cc);
  fold_count = λ c ts xs. as_many (length ts);
  fold_types = λ c ts xs i a e. none_is_some (length ts) i a e;
  constant_folds = λ c a e. (let wrong : None ≡ Some c = e in cc);
  plain_is = λ c e. (let wrong : None ≡ Some c = e in cc);
  plain_forwards = λ c xs e. (let wrong : None ≡ Some c = e in cc);
  forwards_within = λ c n s k i e. (let wrong : None ≡ Some i = e in cc);
  forwards_once = λ c n s k u j i e f. (let wrong : None ≡ Some i = e in cc);
  drop_branch = λ c p. refl;
  drop_terminator = λ c p. refl;
  drop_effects = λ c p. refl;
  drop_removes = λ c p region first. refl;
  drop_forwards = λ c p xs s h. refl;
  drop_no_operands = λ c. refl;
  drop_no_names = λ b. refl;
}

-- the number of the operation is below 100
abbrev pub IsSmall : Program Item Bare → Ptr Operation → Type 0
IsSmall c op = IfSome (payload_at c op) (λ p. p.number < 100)

-- and below another
abbrev pub is_less : Option Item → ℕ → Bool
is_less None n = false
is_less (Some p) n = nat_lt p.number n

abbrev pub is_below : Program Item Bare → Ptr Operation → ℕ → Bool
is_below c op n = is_less (payload_at c op) n

-- there are no branches
pub items_fit : (c : Program Item Bare) (op : Ptr Operation) → FitsEdgesBelow items c op
items_fit c op p v i b below there branch at = let wrong : false ≡ true = branch in cc
