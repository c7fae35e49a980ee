-- What the small dialect says of its operations.
use Rattle.std.specs.Prelude.{ℕ, zero, suc, ◌+◌, ◌-◌, ◌^◌, ◌%◌, Bool, true, false, not, List, [], ◌∷◌, Option, Some, None, if◌then◌else◌, nat_eq, min, length, replicate}
use Rattle.ir_base.specs.declared.types.TypeHandle.{TypeHandle}
use Rattle.ir_trees.specs.Renames.{holding}
use Rattle.opt_trees.specs.Dialect.{Dialect}
use Rattle.opt_tiny.specs.declared.tiny.Kind.{Kind}
use Rattle.opt_tiny.specs.declared.tiny.Kind.TheVariants.{Pure, Constant, Id, Add, Br, Cond, Ret}
use Rattle.opt_tiny.specs.declared.tiny.Payload.{Payload}
use Rattle.opt_tiny.specs.declared.tiny.Bare.{Bare}

-- so many indices from the first one on
abbrev pub range : ℕ → ℕ → List ℕ
range s zero = []
range s (suc n) = s ∷ range (suc s) n

-- one, unless it is so
abbrev pub one_unless : Bool → ℕ
one_unless true = 0
one_unless false = 1

-- how many of them aren't picked
abbrev pub kept : (ℕ → Bool) → ℕ → ℕ → ℕ
kept p s zero = 0
kept p s (suc n) = if p s then kept p (suc s) n else suc (kept p (suc s) n)

abbrev pub is_foldable : Kind → Bool
is_foldable Constant = true
is_foldable Id = true
is_foldable Add = true
is_foldable _ = false

abbrev pub sum_of : List (Option ℕ) → Option ℕ
sum_of (Some x ∷ Some y ∷ []) = Some ((x + y) % 2 ^ 64)
sum_of _ = None

abbrev pub first_of : List (Option ℕ) → Option ℕ
first_of (x ∷ []) = x
first_of _ = None

abbrev pub fold_of : Kind → ℕ → List (Option ℕ) → Option ℕ
fold_of Constant n xs = Some n
fold_of Id n xs = first_of xs
fold_of Add n xs = sum_of xs
fold_of _ n xs = None

-- one answer for each result: where there is one, of the one type, this one
abbrev pub answers : Option ℕ → List TypeHandle → List (Option ℕ)
answers a [] = []
answers a (t ∷ []) = (if nat_eq t.number 0 then a else None) ∷ []
answers a (t ∷ (u ∷ ts)) = replicate (length (t ∷ (u ∷ ts))) None

abbrev pub is_branch : Kind → Bool
is_branch Br = true
is_branch Cond = true
is_branch _ = false

abbrev pub picked_by : Option ℕ → Option ℕ
picked_by None = None
picked_by (Some n) = Some (if nat_eq n 1 then 0 else 1)

abbrev pub condition : List (Option ℕ) → Option ℕ
condition [] = None
condition (x ∷ xs) = x

abbrev pub edge_of : Kind → List (Option ℕ) → Option ℕ
edge_of Cond xs = picked_by (condition xs)
edge_of Br xs = Some 0
edge_of _ xs = None

abbrev pub is_picked : Option ℕ → ℕ → Bool
is_picked None i = true
is_picked (Some j) i = nat_eq j i

abbrev pub feasible_of : Kind → List (Option ℕ) → ℕ → Bool
feasible_of Cond xs i = is_picked (picked_by (condition xs)) i
feasible_of _ xs i = true

abbrev pub forwards_of : Kind → ℕ → ℕ → ℕ → List ℕ
forwards_of Br first n s = if nat_eq s 0 then range 0 n else []
forwards_of Cond first n s = if nat_eq s 0 then range 1 (min first (n - 1)) else (if nat_eq s 1 then range (1 + first) (n - (1 + first)) else [])
forwards_of _ first n s = []

abbrev pub is_terminator : Kind → Bool
is_terminator Br = true
is_terminator Cond = true
is_terminator Ret = true
is_terminator _ = false

abbrev pub is_pure : Kind → Bool
is_pure Pure = true
is_pure Constant = true
is_pure Id = true
is_pure Add = true
is_pure _ = false

abbrev pub is_constant : Kind → Bool
is_constant Constant = true
is_constant _ = false

abbrev pub is_br : Kind → Bool
is_br Br = true
is_br _ = false

abbrev pub dropped : Kind → Payload → (ℕ → Bool) → Payload
dropped Cond c p = record c { first = kept p 1 c.first }
dropped _ c p = c

abbrev pub payload : Kind → ℕ → Payload
payload k n = record { kind = k; number = n; first = 0 }

abbrev pub one_type : TypeHandle
one_type = record { number = 0 }

abbrev pub tiny : Dialect (holding Payload Bare TypeHandle) ℕ
tiny = record {
  is_foldable = λ c. is_foldable c.kind;
  fold = λ c ts xs. answers (fold_of c.kind c.number xs) ts;
  is_branch = λ c. is_branch c.kind;
  feasible = λ c xs i. feasible_of c.kind xs i;
  edge = λ c xs. edge_of c.kind xs;
  forwards = λ c n s. forwards_of c.kind c.first n s;
  is_terminator = λ c. is_terminator c.kind;
  has_effects = λ c. not (is_pure c.kind);
  can_remove = λ c region first. true;
  plain = Some (payload Br 0);
  is_plain = λ c. is_br c.kind;
  constant = λ a. Some (payload Constant a);
  constant_type = λ a. one_type;
  is_constant = λ c. is_constant c.kind;
  is_ssa = λ c i. true;
  drop_operands = λ c p. dropped c.kind c p;
  drop_names = λ b p. b;
}
