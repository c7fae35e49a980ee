-- What a dialect of one kind says of its operations, and that it is lawful.
use Rattle.std.proofs.Common.{◌≡◌, ℕ, true, false, [], length, None, Some, refl}
use Rattle.ir_base.specs.declared.types.TypeHandle.{TypeHandle}
use Rattle.ir_trees.specs.Renames.{holding}
use Rattle.opt_trees.specs.Dialect.{Dialect, Lawful}
use Rattle.opt_tiny.specs.declared.tiny.Bare.{Bare}
use Rattle.opt_tiny.specs.Meaning.{one_type}
use Rattle.opt_tiny.specs.Sparse.{none_known, knows_none, as_many, none_is_some}

-- it does nothing, and holds graph regions
abbrev pub lone : Dialect (holding Bare Bare TypeHandle) ℕ
lone = record {
  is_foldable = λ c. false;
  fold = λ c ts xs. none_known (length ts);
  is_branch = λ c. false;
  feasible = λ c xs i. true;
  edge = λ c xs. None;
  forwards = λ c n s. [];
  is_terminator = λ c. false;
  has_effects = λ c. false;
  can_remove = λ c region first. true;
  plain = None;
  is_plain = λ c. false;
  constant = λ a. None;
  constant_type = λ a. one_type;
  is_constant = λ c. false;
  is_ssa = λ c i. false;
  drop_operands = λ c p. c;
  drop_names = λ b p. b;
}

pub lone_lawful : Lawful lone
lone_lawful = record {
  folds_more = λ c ts xs ys h. knows_none (length ts);
  feasible_less = λ c xs ys i h e. refl;
  edge_feasible = λ c xs i e. refl;
  exclude = λ c a b. (let wrong : false ≡ true = a in cc);
  branch_ends = λ c e. (let wrong : false ≡ true = e in cc);
  fold_count = λ c ts xs. as_many (length ts);
  fold_types = λ c ts xs i a e. none_is_some (length ts) i a e;
  constant_folds = λ c a e. (let wrong : None ≡ Some c = e in cc);
  plain_is = λ c e. (let wrong : None ≡ Some c = e in cc);
  plain_forwards = λ c xs e. (let wrong : None ≡ Some c = e in cc);
  forwards_within = λ c n s k i e. (let wrong : None ≡ Some i = e in cc);
  forwards_once = λ c n s k u j i e f. (let wrong : None ≡ Some i = e in cc);
  drop_branch = λ c p. refl;
  drop_terminator = λ c p. refl;
  drop_effects = λ c p. refl;
  drop_removes = λ c p region first. refl;
  drop_forwards = λ c p xs s h. refl;
  drop_no_operands = λ c. refl;
  drop_no_names = λ b. refl;
}
