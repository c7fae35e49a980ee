-- What operations have seen of their operands, kept in lists of all operands.
use Rattle.std.specs.Prelude.{◌≡◌, ℕ, Bool, true, false, List, [], ◌∷◌, ◌++◌, length, map, replicate, Option}
use Rattle.opt_rows.specs.declared.known.Known.{Known}
use Rattle.opt_rows.specs.declared.known.Known.TheVariants.{Undetermined, One, Any}
use Rattle.opt_solvers.specs.declared.facts_seen.Blank.{Blank}
use Rattle.opt_rows.specs.OperationRows.{Row}
use Rattle.opt_rows.specs.Known.{answer}
use Rattle.opt_rows.specs.KnownFalls.{constant_of, undetermined}
use Rattle.opt_rows.specs.Rows.{rows_from, AreEnds}

-- what is seen of an operand, by whether anything is, and by the constant, if it is one
abbrev pub seen_fact : {A : Type 0} → Bool → Option A → Known A
seen_fact false c = Undetermined
seen_fact true c = answer c

-- what is seen of each operand
abbrev pub seen_facts : {A : Type 0} → List Bool → List (Option A) → List (Known A)
seen_facts [] cs = []
seen_facts (f ∷ fs) [] = []
seen_facts (f ∷ fs) (c ∷ cs) = seen_fact f c ∷ seen_facts fs cs

-- whether it is not undetermined
abbrev pub is_found : {A : Type 0} → Known A → Bool
is_found Undetermined = false
is_found (One a) = true
is_found Any = true

-- how many facts are missing of one operand
abbrev pub one_unless : Bool → ℕ
one_unless true = 0
one_unless false = 1

-- The operands of each operation end here, and this is seen of all of them; these are the constants among it, and so many are
-- undetermined of each operation.
pub record IsSeen {A : Type 0} (ends : List ℕ) (known : List (Known A)) (constants : List (Option A)) (missing : List ℕ) : Type 0 where
  pub are_ends : AreEnds 0 ends (length known)
  pub are_constants : constants ≡ map constant_of known
  pub are_missing : missing ≡ map undetermined (rows_from 0 ends known)

-- nothing is seen of the operands of an operation
abbrev pub unseen : {A : Type 0} → Row → List (Known A)
unseen r = replicate (length r.operands) Undetermined

-- there is no operation
pub record IsBlank (b : Blank) : Type 0 where
  pub ends : b.ends.items ≡ []
  pub found : b.found.items ≡ []
  pub missing : b.missing.items ≡ []

-- there is one operation more, with so many operands, of which nothing is seen
pub record GainsOperands (old new : Blank) (count : ℕ) : Type 0 where
  pub ends : new.ends.items ≡ old.ends.items ++ length new.found.items ∷ []
  pub found : new.found.items ≡ old.found.items ++ replicate count false
  pub missing : new.missing.items ≡ old.missing.items ++ count ∷ []
