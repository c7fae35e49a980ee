-- What a dialect of the same operations says of them that gives the optimisations little to go by, and that it is lawful.
use Rattle.std.proofs.Common.{◌≡◌, ℕ, zero, suc, Bool, true, false, not, List, length, Option, Some, None, refl, ap}
use Rattle.std.specs.Prelude.{replicate, slice_get}
use Rattle.ir_base.specs.declared.types.TypeHandle.{TypeHandle}
use Rattle.ir_trees.specs.Renames.{holding}
use Rattle.opt_rows.specs.Known.{KnowsMore}
use Rattle.opt_trees.specs.Dialect.{Dialect, Lawful}
use Rattle.opt_tiny.specs.declared.tiny.Kind.{Kind}
use Rattle.opt_tiny.specs.declared.tiny.Kind.TheVariants.{Pure}
use Rattle.opt_tiny.specs.declared.tiny.Payload.{Payload}
use Rattle.opt_tiny.specs.declared.tiny.Bare.{Bare}
use Rattle.opt_tiny.specs.Meaning.{tiny}
use Rattle.opt_tiny.specs.Lawful.{tiny_lawful}

-- in its regions what comes first needn't run first
abbrev pub is_graph : Kind → Bool
is_graph Pure = true
is_graph _ = false

-- nothing is known of any of the results
abbrev pub none_known : ℕ → List (Option ℕ)
none_known n = replicate n None

-- nothing folds, no operand decides a branch, there is no unconditional one, and `Pure` holds graph regions
abbrev pub sparse : Dialect (holding Payload Bare TypeHandle) ℕ
sparse = record tiny {
  is_foldable = λ c. false;
  fold = λ c ts xs. none_known (length ts);
  feasible = λ c xs i. true;
  edge = λ c xs. None;
  can_remove = λ c region first. false;
  plain = None;
  is_plain = λ c. false;
  constant = λ a. None;
  is_constant = λ c. false;
  is_ssa = λ c i. not (is_graph c.kind);
}

pub knows_none : (n : ℕ) → KnowsMore (none_known n) (none_known n)
knows_none zero = tt
knows_none (suc n) = (λ a e. e, knows_none n)

pub as_many : (n : ℕ) → length (none_known n) ≡ n
as_many zero = refl
as_many (suc n) = ap suc (as_many n)

pub none_is_some : {X : Type 0} (n i a : ℕ) → slice_get (none_known n) i ≡ Some (Some a) → X
none_is_some zero i a e = cc
none_is_some (suc n) zero a e = cc
none_is_some (suc n) (suc i) a e = none_is_some n i a e

pub sparse_lawful : Lawful sparse
sparse_lawful = record {
  folds_more = λ c ts xs ys h. knows_none (length ts);
  feasible_less = λ c xs ys i h e. refl;
  edge_feasible = λ c xs i e. refl;
  exclude = λ c a b. (let wrong : false ≡ true = a in cc);
  branch_ends = tiny_lawful.branch_ends;
  fold_count = λ c ts xs. as_many (length ts);
  fold_types = λ c ts xs i a e. none_is_some (length ts) i a e;
  constant_folds = λ c a e. (let wrong : None ≡ Some c = e in cc);
  plain_is = λ c e. (let wrong : None ≡ Some c = e in cc);
  plain_forwards = λ c xs e. (let wrong : None ≡ Some c = e in cc);
  forwards_within = tiny_lawful.forwards_within;
  forwards_once = tiny_lawful.forwards_once;
  drop_branch = tiny_lawful.drop_branch;
  drop_terminator = tiny_lawful.drop_terminator;
  drop_effects = tiny_lawful.drop_effects;
  drop_removes = λ c p region first. refl;
  drop_forwards = tiny_lawful.drop_forwards;
  drop_no_operands = tiny_lawful.drop_no_operands;
  drop_no_names = tiny_lawful.drop_no_names;
}
